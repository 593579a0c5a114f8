-- Laws of the bytes that are written. Assumes nothing.
use mathlib.Core.Path.{◌≡◌, refl, ap, ◌∙◌}
use mathlib.Core.List.{List, [], ◌∷◌, ◌++◌, append-nil}
use Prim.Native.Nat.{ℕ, ◌+◌, ◌*◌, ◌/◌, ◌%◌, ◌-◌, ◌^◌, ◌≤◌, ◌<◌}
use native.Mathlib.Omega.{arith}
use lib.ListN.{length, get_or, set, take, drop, replicate, drop_of_length-le}
use lib.Seq.{take_all}
use borrow.Author.Tests.{eq-eqb, ne_eqb}
use Rattle.std.specs.Int.{w16, to_le_bytes}
use Rattle.laws.specs.Made.{made}
use Rattle.laws.proofs.Rows.{made_store}
use Rattle.bc6.specs.Call.{Pixels}
use Rattle.bc6.specs.Call.{refusal_of, answer_at, values_at, Painted}
use Rattle.run_pixels.specs.Shown.{value_byte, shown_bytes, piece_format, piece_block, record_bytes}

low : (values : List ℕ) (j : ℕ) → get_or values j 0 % 256 ≡ value_byte values (2 * j)
unfolding value_byte
low values j =
    let d : 2 * j / 2 ≡ j = omega arith in
    let m : 2 * j % 2 ≡ 0 = omega arith in
    rw (eq-eqb (2 * j % 2) 0 m, d) refl

high : (values : List ℕ) (j : ℕ) → get_or values j 0 / 256 ≡ value_byte values (2 * j + 1)
unfolding value_byte
high values j =
    let d : (2 * j + 1) / 2 ≡ j = omega arith in
    let m : (2 * j + 1) % 2 ≡ 0 → ⊥ = λ e. omega arith in
    rw (ne_eqb ((2 * j + 1) % 2) 0 m, d) refl

-- the two bytes of a number, as the library gives them
pub le_low : (v : ℕ) {l : List ℕ} → l ≡ to_le_bytes w16 v → get_or l 0 0 ≡ v % 256
le_low v e = ap (λ (l : List ℕ). get_or l 0 0) e

pub le_high : (v : ℕ) {l : List ℕ} → v < 2 ^ 16 → l ≡ to_le_bytes w16 v → get_or l 1 0 ≡ v / 256
le_high v h e = ap (λ (l : List ℕ). get_or l 1 0) e ∙ (let small : v / 256 % 256 ≡ v / 256 = omega arith in small)

-- a turn stores both bytes of a value
pub two_stored : (values out₀ out : List ℕ) (j x y : ℕ) → x ≡ get_or values j 0 % 256 → y ≡ get_or values j 0 / 256
    → j < 48 → 96 ≤ length out₀ → out ≡ made (value_byte values) (2 * j) ++ drop (2 * j) out₀
    → set (set out (2 * j) x) (2 * j + 1) y ≡ made (value_byte values) (2 * (j + 1)) ++ drop (2 * (j + 1)) out₀
two_stored values out₀ out j x y ex ey h r e =
    let end : 2 * j + 1 + 1 ≡ 2 * (j + 1) = omega arith in
    let e1 = made_store (value_byte values) out₀ out _ (2 * j) x e refl (ex ∙ low values j) (omega arith) in
    let e2 = made_store (value_byte values) out₀ _ _ (2 * j + 1) y e1 refl (ey ∙ high values j) (omega arith) in
    e2 ∙ ap (λ (n : ℕ). made (value_byte values) n ++ drop n out₀) end

-- the output once its first four bytes are stored: answer, mode, and the count's two bytes
abbrev pub headed : Pixels → ℕ → ℕ → List ℕ → List ℕ
headed shown low high out = set (set (set (set out 0 shown.answer) 1 shown.mode) 2 low) 3 high

-- the bytes after those four are lent on, and come back
pub head_stored : (shown : Pixels) (low high : ℕ) (values out last : List ℕ) → low ≡ shown.infinite % 256 → high ≡ shown.infinite / 256 → 100 ≤ length out
    → last ≡ made (value_byte values) 96 ++ drop 96 (take (length (headed shown low high out) - 4) (drop 4 (headed shown low high out)))
    → take 4 (headed shown low high out) ++ (last ++ drop (length (headed shown low high out) - 4) (drop 4 (headed shown low high out))) ≡ shown_bytes shown values ++ drop 100 out
unfolding shown_bytes
head_stored shown low high values [] last el eh h e = absurd (omega arith)
head_stored shown low high values (x ∷ []) last el eh h e = absurd (omega arith)
head_stored shown low high values (x ∷ y ∷ []) last el eh h e = absurd (omega arith)
head_stored shown low high values (x ∷ y ∷ z ∷ []) last el eh h e = absurd (omega arith)
head_stored shown low high values (x ∷ y ∷ z ∷ u ∷ out) last el eh h e =
    let k = length (headed shown low high (x ∷ y ∷ z ∷ u ∷ out)) - 4 in
    let whole : length out ≤ k = omega arith in
    let none : drop k out ≡ [] = drop_of_length-le out whole in
    let all : take k out ≡ out = take_all k out whole in
    let bytes = made (value_byte values) 96 in
    ap (λ (l : List ℕ). shown.answer ∷ shown.mode ∷ low ∷ high ∷ l)
    (ap (λ (l : List ℕ). last ++ l) none ∙ append-nil last ∙ e ∙ ap (λ (l : List ℕ). bytes ++ drop 96 l) all)
    ∙ (λ i. shown.answer ∷ shown.mode ∷ el i ∷ eh i ∷ (bytes ++ drop 96 out))

-- what the call answered and left, of the block bytes that are there
pub record_is : (piece block : List ℕ) (shown : Pixels) (values : List ℕ) → block ≡ piece_block piece
    → Painted block (piece_format piece) (replicate 48 0) shown values → shown_bytes shown values ≡ record_bytes piece
unfolding record_bytes
record_is piece block shown values e p =
    (λ i. shown_bytes (p.answers i) (p.holds i))
    ∙ ap (λ (b : List ℕ).
    shown_bytes (answer_at (refusal_of (piece_format piece) (length b) 48) b (piece_format piece))
    (values_at (refusal_of (piece_format piece) (length b) 48) b (piece_format piece) (replicate 48 0))) e
