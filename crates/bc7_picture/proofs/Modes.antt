-- What is shown, by the mode. Assumes nothing.
use mathlib.Core.Path.{◌≡◌, ◌∙◌, refl, sym, ap}
use mathlib.Core.Bool.{false}
use mathlib.Core.List.{List, ◌++◌}
use Prim.Native.Nat.{ℕ, ◌<◌, ◌≤◌}
use native.Mathlib.Omega.{arith}
use lib.Dec.{eqb}
use lib.ListN.{drop, replicate}
use borrow.Author.Tests.{ne_eqb}
use Rattle.laws.specs.Made.{made}
use Rattle.laws.proofs.Firsts.{first_most}
use Rattle.bc7_spec.specs.Fields.{is_one, mode_in}
use Rattle.bc7_spec.specs.Block.{byte_in}
use Rattle.bc7_picture.specs.Shown.{shown_of}

-- 0 to 8
pub mode_le : (n : ℕ) → mode_in n ≤ 8
unfolding mode_in
mode_le n = first_most (is_one n) 8

module _ (n mode : ℕ) (out after : List ℕ) (e : mode ≡ mode_in n) where
  pub shown_as : (m : ℕ) → mode ≡ m → m < 8 → after ≡ made (byte_in m n) 64 ++ drop 64 out → after ≡ shown_of n ++ drop 64 out
  unfolding shown_of
  shown_as m k h p =
      let q : mode_in n ≡ m = sym e ∙ k in
      let f : eqb m 8 ≡ false = ne_eqb m 8 (λ z. let y : m ≡ 8 = z in omega arith) in
      let w : shown_of n ≡ made (byte_in m n) 64 = rw (q, f) refl in
      p ∙ ap (λ (l : List ℕ). l ++ drop 64 out) (sym w)

  pub shown_none : 8 ≤ mode → after ≡ replicate 64 0 ++ drop 64 out → after ≡ shown_of n ++ drop 64 out
  unfolding shown_of
  shown_none h p =
      let q : mode_in n ≡ 8 = omega (arith, e, mode_le n) in
      let w : shown_of n ≡ replicate 64 0 = rw q refl in
      p ∙ ap (λ (l : List ℕ). l ++ drop 64 out) (sym w)
