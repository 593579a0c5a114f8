-- Laws of words that are stored one after the other. Assumes nothing.
use mathlib.Core.Path.{◌≡◌, refl, sym, ap, ◌∙◌}
use mathlib.Core.List.{List, [], ◌∷◌, ◌++◌, append_assoc}
use Prim.Native.Nat.{ℕ, ◌+◌, ◌-◌, ◌/◌, ◌%◌, ◌≤◌}
use native.Mathlib.Omega.{arith}
use borrow.Rule.Slice.PartMut.{put_mid}
use lib.ListN.{length, take, drop, length-append}
use lib.Seq.{sets, length-sets, sets-eq, take_at, drop-drop}
pub use Rattle.laws.proofs.Stores.{sets_append}
use Rattle.text.specs.Text.{hex_digit, hex, Written}

-- one word, and a word behind it
pub then : {l m n : List ℕ} {at r s : ℕ} {a b : List ℕ} → Written l at a r m → Written m r b s n → Written l at (a ++ b) s n
then {l} {m} {n} {at} {r} {s} {a} {b} x y = record {
  next_is = let len = length-append a b in let p = x.next_is in let q = y.next_is in omega arith;
  exit_is = y.exit_is ∙ ap (λ (t : List ℕ). sets t r b) x.exit_is ∙ sets_append a b l at r (sym x.next_is);
}

-- the statement admits one outcome
pub one_outcome : {l m n : List ℕ} {at r s : ℕ} {a : List ℕ} → Written l at a r m → Written l at a s n → (r ≡ s) × (m ≡ n)
one_outcome x y = (x.next_is ∙ sym y.next_is, x.exit_is ∙ sym y.exit_is)

-- the same word in another form
pub said : {l n : List ℕ} {at r : ℕ} {a b : List ℕ} → Written l at a r n → a ≡ b → Written l at b r n
said w e = rw (sym e) w

pub hex_is : (v : ℕ) {a b c d : ℕ} → a ≡ hex_digit (v / 4096 % 16) → b ≡ hex_digit (v / 256 % 16) → c ≡ hex_digit (v / 16 % 16) → d ≡ hex_digit (v % 16)
    → a ∷ b ∷ c ∷ d ∷ [] ≡ hex v
unfolding hex
hex_is v e f g h = rw (e, f, g, h)

-- a word that is copied into its part
pub stored : (l w part : List ℕ) (at : ℕ) → at + length w ≤ length l → part ≡ w → Written l at w (at + length w) (put_mid at (at + length w - at) l part)
stored l w part at h same =
    let size : at + length w - at ≡ length w = omega arith in
    record {
      next_is = refl;
      exit_is =
          rw (size, same)
          (ap (λ (t : List ℕ). take at l ++ (w ++ t)) (drop-drop (length w) at l)
          ∙ sym (append_assoc (take at l) w (drop (at + length w) l))
          ∙ sym (sets-eq w l at h));
    }

pub written_length : {l n : List ℕ} {at r : ℕ} {a : List ℕ} → Written l at a r n → length n ≡ length l
written_length {l} {n} {at} {r} {a} w = ap length w.exit_is ∙ length-sets l at a

-- what is written from the start on is what the buffer then begins with
pub begins : {l n : List ℕ} {r : ℕ} {a : List ℕ} → Written l 0 a r n → r ≤ length l → take r n ≡ a
begins {l} {n} {r} {a} w h =
    let len : length a ≡ r = let e = w.next_is in omega arith in
    ap (take r) (w.exit_is ∙ sets-eq a l 0 (omega arith)) ∙ take_at a _ r len
