-- The words of a header as bytes, one word after the other. Assumes nothing.
use mathlib.Core.Path.{◌≡◌, refl, sym, ap, ◌∙◌}
use mathlib.Core.List.{List, [], ◌∷◌, ◌++◌, append_assoc}
use Prim.Native.Nat.{ℕ, ◌+◌, ◌-◌, ◌*◌, ◌/◌, ◌%◌, ◌^◌, ◌≤◌, ◌<◌}
use native.Mathlib.Nat.{div-one}
use native.Mathlib.Numerals.{towards_suc}
use native.Mathlib.Omega.{arith}
use lib.ListN.{length, get_or, take, drop, set}
use borrow.Rule.Slice.PartMut.{put_mid}
use Rattle.std.specs.Int.{w32, to_le_bytes}
use Rattle.std.proofs.lemmas.List.Edits.{paste_all, sets-eq}
use Rattle.std.proofs.lemmas.Slice.{put_mid-paste}
use Rattle.laws.specs.Made.{made}
use Rattle.laws.proofs.Rows.{made_four}
use Rattle.dds.specs.Dds.{words_byte}

-- four bytes that are copied to `at`, as four stores
four_put : (out part : List ℕ) (at k a b c d : ℕ) → part ≡ a ∷ b ∷ c ∷ d ∷ [] → k ≡ 4 → at + 4 ≤ length out
    → put_mid at k out part ≡ set (set (set (set out at a) (at + 1) b) (at + 2) c) (at + 3) d
four_put out part at k a b c d e n room =
    put_mid-paste at k out part (a ∷ b ∷ c ∷ d ∷ []) 4 e (sym n) refl ∙ paste_all out at (a ∷ b ∷ c ∷ d ∷ []) 4 refl
    ∙ sym (append_assoc (take at out) (a ∷ b ∷ c ∷ d ∷ []) (drop (at + 4) out)) ∙ sym (sets-eq (a ∷ b ∷ c ∷ d ∷ []) out at room) ∙ simp towards_suc

-- byte k of word i
byte_is : (words : List ℕ) (i k : ℕ) → k < 4 → get_or words i 0 / 2 ^ (8 * k) % 256 ≡ words_byte words (4 * i + k)
byte_is words i k h =
    let word : i ≡ (4 * i + k) / 4 = omega arith in
    let byte : k ≡ (4 * i + k) % 4 = omega arith in
    (λ j. get_or words (word j) 0 / 2 ^ (8 * byte j) % 256)

pub word_put : (words old out part : List ℕ) (i : ℕ) → out ≡ made (words_byte words) (4 * i) ++ drop (4 * i) old → part ≡ to_le_bytes w32 (get_or words i 0)
    → 4 * i + 4 ≤ length out → length out ≡ length old → put_mid (4 * i) (4 * i + 4 - 4 * i) out part ≡ made (words_byte words) (4 * (i + 1)) ++ drop (4 * (i + 1)) old
word_put words old out part i e p room same =
    let w = get_or words i 0 in
    let none : 4 * i + 0 ≡ 4 * i = omega arith in
    four_put out part (4 * i) (4 * i + 4 - 4 * i) (w % 256) (w / 256 % 256) (w / 65536 % 256) (w / 16777216 % 256) p (omega arith) room
    ∙ made_four (words_byte words) old out i _ _ _ _ e (ap (λ (x : ℕ). x % 256) (sym (div-one w)) ∙ byte_is words i 0 (omega arith) ∙ ap (words_byte words) none)
    (byte_is words i 1 (omega arith)) (byte_is words i 2 (omega arith)) (byte_is words i 3 (omega arith)) (omega arith)
