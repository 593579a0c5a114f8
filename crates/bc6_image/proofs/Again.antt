-- A face of 1 by n blocks with a pitch of 12 is the run of the n blocks. Assumes nothing.
use mathlib.Core.Path.{◌≡◌, ◌∙◌, sym, ap}
use mathlib.Core.Bool.{Bool, false}
use mathlib.Core.List.{List, ◌++◌}
use Prim.Native.Nat.{ℕ, ◌+◌, ◌-◌, ◌*◌, ◌/◌, ◌%◌, ◌≤◌, ◌<◌}
use native.Mathlib.Omega.{arith}
use lib.Dec.{ltb}
use lib.ListN.{length, get_or, drop, length-append, length-drop}
use lib.Seq.{get_or-take, get_or-drop, get_or-append-add}
use borrow.Author.Tests.{lt-ltb, ltb-true, ltb-false}
use Rattle.laws.proofs.Tests.{cases}
use Rattle.bcn_spec.specs.Answers.{done}
use Rattle.bc6h_spec.specs.Picture.{is_signed}
use Rattle.bc6_blocks.specs.Run.{BlocksPixels}
use Rattle.bcn_spec.specs.Bits.{blocks_in}
use Rattle.bc6_blocks.specs.Run.{shown_at, run_of, run_refusal, RunPainted}
use Rattle.bc6_blocks.proofs.Runs.{length_run, run_at_lem}
use Rattle.bc6_blocks.proofs.Calls.{done_when}
use Rattle.bc6_image.specs.Face.{FacePixels}
use Rattle.bc6_image.specs.Face.{lane_of, lane_at, FaceShown, image_refusal, ImagePainted}
use Rattle.bc6_image.specs.Stores.{Fitting}
use Rattle.bc6_image.proofs.Places.{shown_is}
use Rattle.bc6_image.proofs.Calls.{known}

-- the values of the run, in the words of a face
module _ (signed : Bool) (blocks : List ℕ) (n : ℕ) (out : List ℕ) (room : 48 * n ≤ length out) where
  run_value : (x y c : ℕ) → x < 4 → y < 4 * n → c < 3
      → get_or (run_of signed blocks n ++ drop (48 * n) out) (12 * y + (3 * x + c)) 0 ≡ lane_at signed blocks 1 x y c
  unfolding lane_at lane_of shown_at
  run_value x y c hx hy hc =
      let j = 3 * (4 * (y % 4) + x % 4) + c in
      let b = 1 * (y / 4) + x / 4 in
      let all = run_of signed blocks n ++ drop (48 * n) out in
      let here : 12 * y + (3 * x + c) ≡ 48 * b + j = omega arith in
      let low : j < 48 = omega arith in
      ap (λ (k : ℕ). get_or all k 0) here ∙ sym (get_or-take 48 (drop (48 * b) all) j 0 low ∙ get_or-drop (48 * b) all j 0)
      ∙ ap (λ (t : List ℕ). get_or t j 0) (run_at_lem signed blocks n b (drop (48 * n) out) (omega arith)) ∙ rw (lt-ltb c 3 hc)

  run_rest : (i : ℕ) → ((x y c : ℕ) → x < 4 → y < 4 * n → c < 3 → i ≡ 12 * y + (3 * x + c) → ⊥)
      → get_or (run_of signed blocks n ++ drop (48 * n) out) i 0 ≡ get_or out i 0
  run_rest i off =
      cases (ltb i (48 * n))
      (λ t. let l = ltb-true i (48 * n) t in absurd (off (i % 12 / 3) (i / 12) (i % 3) (omega arith) (omega arith) (omega arith) (omega arith)))
      (λ t.
      let l = ltb-false i (48 * n) t in
      let long = length_run signed blocks n in
      let k : i ≡ length (run_of signed blocks n) + (i - 48 * n) = omega arith in
      let m : 48 * n + (i - 48 * n) ≡ i = omega arith in
      ap (λ (k : ℕ). get_or (run_of signed blocks n ++ drop (48 * n) out) k 0) k ∙ get_or-append-add (run_of signed blocks n) (drop (48 * n) out) (i - 48 * n) 0
      ∙ get_or-drop (48 * n) out (i - 48 * n) 0 ∙ ap (λ (k : ℕ). get_or out k 0) m)

  run_shown : FaceShown signed false blocks 1 n 12 out (run_of signed blocks n ++ drop (48 * n) out)
  run_shown = record {
    long = length-append (run_of signed blocks n) (drop (48 * n) out) ∙ (let a = length_run signed blocks n in let b = length-drop (48 * n) out in omega arith);
    pixel = run_value;
    rest = λ i h off. run_rest i off;
  }

module _ {blocks : List ℕ} {n format : ℕ} {out : List ℕ} {r : FacePixels} {s : BlocksPixels} {after run : List ℕ}
    (p : ImagePainted false blocks 1 n format out 12 r after) (q : RunPainted blocks format out s run)
    (z : image_refusal false (length blocks) format 1 n 12 (length out) ≡ done) where
  fits : Fitting false 1 n 12 (length blocks) (length out)
  fits = (known false (length blocks) format 1 n 12 (length out) z).fits

  count : blocks_in blocks ≡ n
  count = let b : length blocks ≡ 16 * (1 * n) = fits.bytes in omega arith

  room : 48 * n ≤ length out
  room = cases (ltb 0 n)
      (λ t. let h = ltb-true 0 n t in let e : 12 * (4 * n - 1) + 3 * (4 * 1) ≤ length out = fits.enough (omega arith) in omega arith)
      (λ t. let h = ltb-false 0 n t in omega arith)

  -- the two leave the same values where they are lent the same
  pub run_again : after ≡ run
  run_again =
      let b : length blocks ≡ 16 * (1 * n) = fits.bytes in
      let k = count in
      let l = room in
      let d : run_refusal format (length blocks) (length out) ≡ done =
      done_when format (length blocks) (length out) (known false (length blocks) format 1 n 12 (length out) z).format_known (omega arith) (omega arith) in
      let left : run ≡ run_of (is_signed format) blocks (blocks_in blocks) ++ drop (48 * blocks_in blocks) out = rw d at q.holds in
      rw z at p.holds
      ∙ sym (shown_is (is_signed format) false blocks 1 n 12 out fits (run_shown (is_signed format) blocks n out l))
      ∙ sym (rw count at left)
