-- A block that was decoded into 48 values of its own, by the statement of the pixels call alone. Assumes nothing.
use mathlib.Core.Path.{◌≡◌, ◌∙◌, ap}
use mathlib.Core.List.{List, ◌++◌, append-nil}
use Prim.Native.Nat.{ℕ, ◌≤◌}
use native.Mathlib.Omega.{arith}
use lib.ListN.{length, drop_of_length-le}
use Rattle.bcn_spec.specs.Answers.{done}
use Rattle.bc6h_spec.specs.Picture.{is_signed}
use Rattle.bc6h_spec.specs.Block.{pixels_of, infinities_of}
use Rattle.bcn_spec.specs.declared.Refusal.{Refusal}
use Rattle.bcn_spec.specs.Refusals.{refusal_number}
use Rattle.bc6.specs.Call.{Pixels, refusal_of, Painted}
use Rattle.bc6.proofs.Calls.{done_when, never_refused, written, infinities_told}

module _ {block : List ℕ} {format : ℕ} {out : List ℕ} {r : Pixels} {after : List ℕ} (p : Painted block format out r after)
    (f : format ≤ 1) (sixteen : length block ≡ 16) (room : length out ≡ 48) where
  pub decoding_done : refusal_of format (length block) (length out) ≡ done
  decoding_done = done_when format (length block) (length out) f sixteen (omega arith)

  pub decoded : after ≡ pixels_of (is_signed format) block
  decoded =
      written p decoding_done ∙ ap (λ (t : List ℕ). pixels_of (is_signed format) block ++ t) (drop_of_length-le out {i = 48} (omega arith))
      ∙ append-nil (pixels_of (is_signed format) block)

  pub never : (why : Refusal) → r.answer ≡ refusal_number why → ⊥
  never = never_refused p decoding_done

  pub decoded_count : r.infinite ≡ infinities_of (is_signed format) block
  decoded_count = infinities_told p decoding_done
