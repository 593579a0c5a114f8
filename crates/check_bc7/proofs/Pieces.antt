-- Laws of the bytes that are written. Assumes nothing.
use mathlib.Core.Path.{◌≡◌, ◌∙◌, refl, sym, ap}
use mathlib.Core.Bool.{Bool}
use mathlib.Core.List.{List, [], ◌∷◌, ◌++◌}
use Prim.Native.Nat.{ℕ, ◌+◌, ◌-◌, ◌*◌, ◌≤◌, ◌<◌}
use native.Mathlib.Omega.{arith}
use lib.Dec.{ltb}
use lib.ListN.{length, set, take, drop, replicate, length-drop}
use lib.Seq.{take_all}
use borrow.Rule.Slice.PartMut.{put_mid}
use Rattle.std.proofs.lemmas.List.Edits.{paste_all}
use Rattle.std.proofs.lemmas.Slice.{put_mid-paste}
use borrow.Author.Tests.{ltb-true}
use Rattle.laws.specs.Pick.{pick}
use Rattle.laws.specs.Made.{made}
use Rattle.laws.proofs.Rows.{length_made, made_each}
use Rattle.laws.proofs.Tests.{cases}
use Rattle.bc7.specs.Call.{Bc7Pixels}
use Rattle.bc7.specs.Call.{Painted}
use Rattle.check_bc7.specs.declared.Shown.{Shown}
use Rattle.check_bc7.specs.Shown.{shown_as, shown_of, shown_byte, shown_bytes, shown_at}

-- what the call answered and left in 64 zeros
pub shown_is : {piece : List ℕ} {r : Bc7Pixels} {bytes : List ℕ} → Painted piece (replicate 64 0) r bytes → shown_as r bytes ≡ shown_of piece
unfolding shown_of
shown_is p = λ i. shown_as (p.answers i) (p.holds i)

-- the answer, the mode and then the bytes, as they are stored
pub put_all : (s : Shown) (out part : List ℕ) (k : ℕ) → length s.bytes ≡ 64 → 66 ≤ length out → part ≡ s.bytes → k ≡ 64
    → put_mid 2 k (set (set out 0 s.answer) 1 s.mode) part ≡ made (shown_byte s) 66 ++ drop 66 out
unfolding shown_byte
put_all s [] part k l room e n = absurd (omega arith)
put_all s (x ∷ []) part k l room e n = absurd (omega arith)
put_all s (x ∷ y ∷ rest) part k l room e n =
    let now = s.answer ∷ s.mode ∷ rest in
    let whole = s.answer ∷ s.mode ∷ s.bytes in
    put_mid-paste 2 k now part s.bytes 64 e (sym n) (sym l) ∙ paste_all now 2 s.bytes 64 (sym l)
    ∙ ap (λ (t : List ℕ). t ++ drop 64 rest) (made_each (shown_byte s) whole 66 (omega arith) (λ k h. refl))

-- ---- the pieces

pub each : (input : List ℕ) (i : ℕ) → length (shown_at input i) ≡ 66
unfolding shown_at
each input i = length_made (shown_byte (shown_of (take 16 (drop (16 * i) input)))) 66

-- a piece ends after sixteen bytes, or with the input
piece_is : (input : List ℕ) (at end : ℕ) → end ≡ pick (ltb (length input - at) 16) (length input) (at + 16) → take (end - at) (drop at input) ≡ take 16 (drop at input)
piece_is input at end e =
    cases (ltb (length input - at) 16)
    (λ t.
    let last : end ≡ length input = e ∙ ap (λ (b : Bool). pick b (length input) (at + 16)) t in
    let short : length input - at < 16 = ltb-true _ _ t in
    let l = length-drop at input in
    take_all (end - at) (drop at input) (omega arith) ∙ sym (take_all 16 (drop at input) (omega arith)))
    (λ t.
    let whole : end ≡ at + 16 = e ∙ ap (λ (b : Bool). pick b (length input) (at + 16)) t in
    let size : end - at ≡ 16 = omega arith in
    ap (λ (k : ℕ). take k (drop at input)) size)

pub piece_shown : (input part after : List ℕ) (i end : ℕ) → end ≡ pick (ltb (length input - 16 * i) 16) (length input) (16 * i + 16)
    → after ≡ shown_bytes (take (end - 16 * i) (drop (16 * i) input)) ++ drop 66 part → after ≡ shown_at input i ++ drop 66 part
unfolding shown_at
piece_shown input part after i end e s = s ∙ ap (λ (l : List ℕ). shown_bytes l ++ drop 66 part) (piece_is input (16 * i) end e)
