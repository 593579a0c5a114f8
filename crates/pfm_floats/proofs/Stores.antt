-- Runs of stores, one after the other, and the bytes of words. Assumes nothing.
use mathlib.Core.Path.{◌≡◌, refl, sym, ap, ◌∙◌}
use mathlib.Core.List.{List, ◌++◌, append_assoc}
use Prim.Native.Nat.{ℕ, ◌+◌, ◌≤◌}
use native.Mathlib.Omega.{arith}
use lib.Ieee.{binary32, to_bits}
use lib.ListN.{length, take, drop}
use lib.Seq.{sets}
use borrow.Rule.Slice.PartMut.{put_mid}
use Rattle.std.proofs.lemmas.List.Edits.{paste_all, sets-eq}
use Rattle.std.proofs.lemmas.Slice.{put_mid-paste}
pub use Rattle.laws.proofs.Stores.{sets_append}
use Rattle.pfm_floats.specs.declared.Rgb.{Rgb}
use Rattle.pfm_floats.specs.Bytes.{word_bytes, rgb_bytes}

-- what a copy into a part leaves: its bytes, stored one after the other
pub part_stored : (l part bytes : List ℕ) (at k : ℕ) → part ≡ bytes → k ≡ length bytes → at + length bytes ≤ length l → put_mid at k l part ≡ sets l at bytes
part_stored l part bytes at k e n room =
    put_mid-paste at k l part bytes (length bytes) e (sym n) refl ∙ paste_all l at bytes (length bytes) refl
    ∙ sym (append_assoc (take at l) bytes (drop (at + length bytes) l)) ∙ sym (sets-eq bytes l at room)

-- three words, one after the other
pub three_words : (l l1 l2 l3 : List ℕ) (n : ℕ) (p : Rgb) → l1 ≡ sets l n (word_bytes (to_bits binary32 p.r))
    → l2 ≡ sets l1 (n + 4) (word_bytes (to_bits binary32 p.g)) → l3 ≡ sets l2 (n + 8) (word_bytes (to_bits binary32 p.b)) → l3 ≡ sets l n (rgb_bytes p)
unfolding rgb_bytes
three_words l l1 l2 l3 n p a b c =
    let r = word_bytes (to_bits binary32 p.r) in
    let g = word_bytes (to_bits binary32 p.g) in
    let u = word_bytes (to_bits binary32 p.b) in
    c ∙ ap (λ (x : List ℕ). sets x (n + 8) u) b ∙ sets_append g u l1 (n + 4) (n + 8) (omega arith)
    ∙ ap (λ (x : List ℕ). sets x (n + 4) (g ++ u)) a ∙ sets_append r (g ++ u) l n (n + 4) (omega arith)

pub length_rgb : (p : Rgb) → length (rgb_bytes p) ≡ 12
unfolding rgb_bytes
length_rgb p = refl
