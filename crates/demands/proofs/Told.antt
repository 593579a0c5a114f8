-- A result is fixed by the record that it stands for. So a call whose statement speaks of that record, and has one outcome, has one result.
-- Assumes nothing.
use mathlib.Core.Path.{◌≡◌, refl, sym, ap, ◌∙◌}
use Prim.Native.Nat.{ℕ}
use native.Mathlib.Omega.{arith}
use Rattle.std.specs.Prelude.{Result, Ok, Err}
use Rattle.bcn_spec.specs.declared.Refusal.{Refusal}
use Rattle.bcn_spec.specs.Refusals.{answer_of}
use Rattle.bcn_spec.proofs.Refusals.{same_refusal, positive}
use Rattle.bc6h_spec.specs.declared.Fields.{Fields}
use Rattle.bc6.specs.Call as pixels_call
use Rattle.bc6.specs.declared.Shown as pixels_shown
use Rattle.bc6_blocks.specs.Run as run_call
use Rattle.bc6_blocks.specs.declared.Shown as run_shown
use Rattle.bc6_fields.specs.Call as fields_call
use Rattle.bc6_image.specs.Face as face_call
use Rattle.bc7.specs.Call as bc7_call
use Rattle.bc7.specs.declared.Shown as bc7_shown
use Rattle.bc7_blocks.specs.Run as bc7_run_call

module _ {T A : Type 0} (told : Result T Refusal → A) (number : A → ℕ) (is : (r : Result T Refusal) → number (told r) ≡ answer_of r)
    (values : (x y : T) → told (Ok x) ≡ told (Ok y) → x ≡ y) where
  numbers : (a b : Result T Refusal) → told a ≡ told b → answer_of a ≡ answer_of b
  numbers a b e = sym (is a) ∙ ap number e ∙ is b

  one : (a b : Result T Refusal) → told a ≡ told b → a ≡ b
  one (Ok x) (Ok y) e = ap Ok (values x y e)
  one (Ok x) (Err w) e = absurd (omega (arith, numbers (Ok x) (Err w) e, positive w))
  one (Err v) (Ok y) e = absurd (omega (arith, numbers (Err v) (Ok y) e, positive v))
  one (Err v) (Err w) e = ap Err (same_refusal (numbers (Err v) (Err w) e))

-- a call that answers a number alone
pub one_answer : {T : Type 0} → ((x y : T) → x ≡ y) → (a b : Result T Refusal) → answer_of a ≡ answer_of b → a ≡ b
one_answer same = one answer_of (λ n. n) (λ r. refl) (λ x y e. same x y)

pixels_number : (r : Result pixels_shown.Shown Refusal) → (pixels_call.told r).answer ≡ answer_of r
pixels_number (Ok x) = refl
pixels_number (Err w) = refl

pub one_pixels : (a b : Result pixels_shown.Shown Refusal) → pixels_call.told a ≡ pixels_call.told b → a ≡ b
one_pixels = one pixels_call.told (λ p. p.answer) pixels_number (λ x y e. ap (λ (p : pixels_call.Pixels). record { mode = p.mode; infinite = p.infinite }) e)

run_number : (r : Result run_shown.Shown Refusal) → (run_call.told r).answer ≡ answer_of r
run_number (Ok x) = refl
run_number (Err w) = refl

pub one_run : (a b : Result run_shown.Shown Refusal) → run_call.told a ≡ run_call.told b → a ≡ b
one_run = one run_call.told (λ p. p.answer) run_number (λ x y e. ap (λ (p : run_call.BlocksPixels). record { blocks = p.blocks; infinite = p.infinite }) e)

fields_number : (r : Result Fields Refusal) → (fields_call.told r).answer ≡ answer_of r
fields_number (Ok x) = refl
fields_number (Err w) = refl

pub one_fields : (a b : Result Fields Refusal) → fields_call.told a ≡ fields_call.told b → a ≡ b
one_fields = one fields_call.told (λ p. p.answer) fields_number (λ x y e. ap (λ (p : fields_call.FieldsRead). p.fields) e)

face_number : (r : Result ℕ Refusal) → (face_call.told r).answer ≡ answer_of r
face_number (Ok x) = refl
face_number (Err w) = refl

pub one_face : (a b : Result ℕ Refusal) → face_call.told a ≡ face_call.told b → a ≡ b
one_face = one face_call.told (λ p. p.answer) face_number (λ x y e. ap (λ (p : face_call.FacePixels). p.infinite) e)

bc7_number : (r : Result bc7_shown.Shown Refusal) → (bc7_call.told r).answer ≡ answer_of r
bc7_number (Ok x) = refl
bc7_number (Err w) = refl

pub one_bc7 : (a b : Result bc7_shown.Shown Refusal) → bc7_call.told a ≡ bc7_call.told b → a ≡ b
one_bc7 = one bc7_call.told (λ p. p.answer) bc7_number (λ x y e. ap (λ (p : bc7_call.Bc7Pixels). record { mode = p.mode }) e)

bc7_run_number : (r : Result ℕ Refusal) → (bc7_run_call.told r).answer ≡ answer_of r
bc7_run_number (Ok x) = refl
bc7_run_number (Err w) = refl

pub one_bc7_run : (a b : Result ℕ Refusal) → bc7_run_call.told a ≡ bc7_run_call.told b → a ≡ b
one_bc7_run = one bc7_run_call.told (λ p. p.answer) bc7_run_number (λ x y e. ap (λ (p : bc7_run_call.Bc7BlocksPixels). p.blocks) e)
