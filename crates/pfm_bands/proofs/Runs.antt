-- Lists one after the other: the first of them, runs of them, and a loop that stores them. Assumes nothing.
use mathlib.Core.Path.{◌≡◌, ◌∙◌, refl, sym, ap, ap₂}
use mathlib.Core.List.{List, ◌++◌, append-nil, append_assoc}
use Prim.Native.Nat.{ℕ, zero, suc, ◌+◌, ◌-◌, ◌*◌, ◌≤◌, ◌<◌}
use native.Mathlib.Nat.{mul-add}
use native.Mathlib.Numerals.{add-one}
use native.Mathlib.Omega.{arith}
use lib.ListN.{length, take, drop, length-append}
use lib.Seq.{take_at, take_all}
use Rattle.laws.specs.Made.{made, join}
use Rattle.laws.proofs.Joined.{run_more, run_length}
use Rattle.laws.proofs.Pasting.{pasted}

-- the function of the lists behind the first `start`
abbrev pub behind : (ℕ → List ℕ) → ℕ → ℕ → List ℕ
behind f start i = f (start + i)

-- a run of lists, and the run behind it
pub run_split : (f : ℕ → List ℕ) (start count : ℕ) → join (made f (start + count)) ≡ join (made f start) ++ join (made (behind f start) count)
unfolding made
run_split f start zero = let z : start + 0 ≡ start = omega arith in rw z (sym (append-nil (join (made f start))))
run_split f start (suc count) =
    let e : start + suc count ≡ start + count + 1 = omega arith in
    ap (λ (n : ℕ). join (made f n)) e
    ∙ run_more f (start + count)
    ∙ ap (λ (t : List ℕ). t ++ f (start + count)) (run_split f start count)
    ∙ append_assoc (join (made f start)) (join (made (behind f start) count)) (f (start + count))
    ∙ ap (λ (t : List ℕ). join (made f start) ++ t) (sym (run_more (behind f start) count))
    ∙ ap (λ (n : ℕ). join (made f start) ++ join (made (behind f start) n)) (add-one count)

-- the first lists of a run
pub run_take : (f : ℕ → List ℕ) (size : ℕ) → ((n : ℕ) → length (f n) ≡ size) → (few all : ℕ) (rest : List ℕ) → few ≤ all
    → take (size * few) (join (made f all) ++ rest) ≡ join (made f few)
run_take f size each few all rest h =
    let e : few + (all - few) ≡ all = omega arith in
    ap (λ (n : ℕ). take (size * few) (join (made f n) ++ rest)) (sym e)
    ∙ ap (λ (t : List ℕ). take (size * few) (t ++ rest)) (run_split f few (all - few))
    ∙ ap (take (size * few)) (append_assoc (join (made f few)) (join (made (behind f few) (all - few))) rest)
    ∙ take_at (join (made f few)) (join (made (behind f few) (all - few)) ++ rest) (size * few) (run_length f size each few)

-- Pieces of so many lists each, one behind the other, are the lists: `start n` of them stand before piece n.
pub run_pieces : (f g : ℕ → List ℕ) (start rows : ℕ → ℕ) → start 0 ≡ 0 → (count : ℕ)
    → ((n : ℕ) → n < count → start (n + 1) ≡ start n + rows n) → ((n : ℕ) → n < count → g n ≡ join (made (behind f (start n)) (rows n)))
    → join (made g count) ≡ join (made f (start count))
unfolding made
run_pieces f g start rows z zero s p = rw z
run_pieces f g start rows z (suc n) s p =
    ap (λ (k : ℕ). join (made g k)) (sym (add-one n))
    ∙ run_more g n
    ∙ ap₂ (λ (x y : List ℕ). x ++ y) (run_pieces f g start rows z n (λ k h. s k (omega arith)) (λ k h. p k (omega arith))) (p n (omega arith))
    ∙ sym (run_split f (start n) (rows n))
    ∙ ap (λ (k : ℕ). join (made f k)) (sym (s n (omega arith)))
    ∙ ap (λ (k : ℕ). join (made f (start k))) (add-one n)

-- ---- a loop that stores list i behind those before it, where only the lists that are stored have the one length

pub record Filled (f : ℕ → List ℕ) (size : ℕ) (out₀ out : List ℕ) (i : ℕ) : Type 0 where
  pub front : length (join (made f i)) ≡ size * i
  pub holds : out ≡ join (made f i) ++ drop (size * i) out₀
  pub long : length out ≡ length out₀

module _ (f : ℕ → List ℕ) (size : ℕ) where
  pub fill_start : (out : List ℕ) → Filled f size out out 0
  unfolding made
  fill_start out = let z : size * 0 ≡ 0 = omega arith in record { front = sym z; holds = rw z; long = refl }

  pub fill_step : {out₀ out after : List ℕ} (i : ℕ) → Filled f size out₀ out i → length (f i) ≡ size → length after ≡ length out
      → after ≡ (take (size * i) out ++ f i) ++ drop (size * i + size) out → Filled f size out₀ after (i + 1)
  fill_step {out₀} {out} {after} i c each l e =
      let more : size * i + size ≡ size * (i + 1) = (let k : size * (i + 1) ≡ size * i + size * 1 = mul-add size i 1 in omega arith) in
      let all : take size (f i) ≡ f i = take_all size (f i) (omega arith) in
      record {
        front = ap length (run_more f i) ∙ length-append (join (made f i)) (f i) ∙ ap₂ (λ (a b : ℕ). a + b) c.front each ∙ more;
        holds = e ∙ ap (λ (t : List ℕ). (take (size * i) out ++ t) ++ drop (size * i + size) out) (sym all)
            ∙ pasted (join (made f i)) (f i) out₀ out (size * i) size c.front c.holds
            ∙ ap (λ (t : List ℕ). (join (made f i) ++ t) ++ drop (size * i + size) out₀) all
            ∙ ap₂ (λ (t : List ℕ) (n : ℕ). t ++ drop n out₀) (sym (run_more f i)) more;
        long = l ∙ c.long;
      }

  pub fill_end : {out₀ out : List ℕ} (count i : ℕ) → i ≤ count → count ≤ i → Filled f size out₀ out i → out ≡ join (made f count) ++ drop (size * count) out₀
  fill_end count i l h c = let same : i ≡ count = omega arith in rw same at c.holds
