-- What is told of a file that was read as BC6H and as BC7. Assumes nothing.
use mathlib.Core.Path.{◌≡◌, refl, ap, ap₂, ◌∙◌}
use mathlib.Core.List.{List}
use Prim.Native.Nat.{ℕ, zero, suc, ◌+◌, ◌≤◌}
use lib.Dec.{eqb}
use borrow.Author.Tests.{eq-eqb, ne_eqb}
use Rattle.laws.proofs.Tests.{picks}
use Rattle.bcn_spec.specs.Bits.{size_limit}
use Rattle.bcn_spec.specs.Answers.{done, foreign_header}
use Rattle.dds.specs.declared.DdsRead.{DdsRead}
use Rattle.dds.specs.Dds.{bc6h_first, bc7_first, SizedReadAs}
use Rattle.dds.proofs.Reading.{read_most}
use Rattle.run_dds.specs.Told.{report_of, bc7_at, told_of, told_as}

-- ---- what the returns of `told` show

bc7_refused : (n : ℕ) (r : DdsRead) → (n ≡ done → ⊥) → r ≡ bc7_at n r
bc7_refused zero r h = absurd (h refl)
bc7_refused (suc n) r h = refl

module _ (bc6h bc7 : DdsRead) where
  pub told_bc6h : (bc6h.answer ≡ foreign_header → ⊥) → bc6h ≡ told_of bc6h bc7
  told_bc6h n = rw (ne_eqb _ _ n)

  module _ (e : bc6h.answer ≡ foreign_header) where
    pub told_refused : (bc7.answer ≡ done → ⊥) → bc7 ≡ told_of bc6h bc7
    told_refused n = rw (eq-eqb _ _ e) (bc7_refused bc7.answer bc7 n)

    pub told_bc7 : bc7.answer ≡ done
        → record { answer = done; width = bc7.width; height = bc7.height; format = bc7.format + 2 } ≡ told_of bc6h bc7
    told_bc7 z = rw (eq-eqb _ _ e, z)

-- ---- the sides fit into two bytes

abbrev Small : DdsRead → Type 0
Small r = (r.width ≤ size_limit) × (r.height ≤ size_limit)

bc7_small : (n : ℕ) (r : DdsRead) → Small r → Small (bc7_at n r)
bc7_small zero r s = s
bc7_small (suc n) r s = s

told_small : (bc6h bc7 : DdsRead) → Small bc6h → Small bc7 → Small (told_of bc6h bc7)
told_small bc6h bc7 a b = picks (eqb bc6h.answer foreign_header) _ bc6h Small (λ t. bc7_small bc7.answer bc7 b) (λ t. a)

-- ---- what `report` and `report_first` show

module _ {most : ℕ} {bytes_of : List ℕ → ℕ} {head : List ℕ} {size : ℕ} {bc6h bc7 : DdsRead}
    (a : SizedReadAs bc6h_first most bytes_of head size bc6h) (b : SizedReadAs bc7_first most bytes_of head size bc7) where
  pub report_small : {r : DdsRead} → r ≡ told_of bc6h bc7 → Small r
  report_small e = rw e (told_small bc6h bc7 (read_most a) (read_most b))

  pub report_told : {r : DdsRead} {bytes : List ℕ} → r ≡ told_of bc6h bc7 → bytes ≡ report_of r → bytes ≡ report_of (told_as most bytes_of head size)
  report_told e q = q ∙ ap report_of (e ∙ ap₂ told_of a.answers b.answers)
