-- Which answer a question gets, from what the calls say. Assumes nothing.
use mathlib.Core.Path.{◌≡◌, refl, sym, ap, ◌∙◌}
use mathlib.Core.Bool.{Bool, true, false}
use mathlib.Core.List.{List}
use Prim.Native.Nat.{ℕ, zero, suc, ◌+◌, ◌-◌, ◌*◌, ◌<◌, ◌≤◌}
use native.Mathlib.Nat.{mul-le-mul}
use native.Mathlib.Omega.{arith}
use lib.Dec.{eqb, ltb}
use lib.ListN.{length, get_or, take, drop, length-drop}
use lib.Seq.{take_all, get_or-take, length-take-le}
use borrow.Author.Tests.{lt-ltb, le-ltb, ne_eqb, ltb-true, ltb-false, eqb-true, eqb-false}
use Rattle.laws.specs.Pick.{both}
use Rattle.laws.proofs.Tests.{cases}
use Rattle.bcn_spec.specs.Answers.{done}
use Rattle.probe_places.specs.declared.Fault.{Fault}
use Rattle.probe_places.specs.Places.{place_limit, places_in}
use Rattle.probe.specs.Probe.{edge_limit, probe_sizes, of_record, probe_fault}
use Rattle.probe_faces.specs.Face.{face_of, face_fault}
use Rattle.text.specs.Text.{Written}
use Rattle.text_moves.proofs.Heads.{Put, nothing, rest_whole, low_cut}
use Rattle.probe_build.specs.Edges.{edge_of}
use Rattle.probe_build.proofs.Edging.{edge_found}
use Rattle.exr_square.specs.Square.{square_file}
use Rattle.text_probe.specs.Image.{image_file}
use Rattle.text_probe.specs.Output.{question_head, question_limit, word_at, faulty_part, fault_line, probe_line, unless, check_output, face_room, face_file, face_output, tell_kind, map_kind, fit_kind, exr_kind, kind_output, probe_output}

pub no_record : (fault : Fault) {is : Bool} (out : List ℕ) (at : ℕ) → is ≡ of_record fault.answer → is ≡ false → Written out at (faulty_part fault) at out
unfolding faulty_part
no_record fault out at e z =
    let none : of_record fault.answer ≡ false = sym e ∙ z in
    rw none (record { next_is = omega arith; exit_is = refl })

-- ---- nothing is refused, or the fault is told

module _ {fault given : Fault} (written : List ℕ) (e : given ≡ fault) where
  told-fault : (given.answer ≡ done → ⊥) → fault_line given ≡ unless fault.answer fault written
  told-fault n = ap fault_line e ∙ go fault.answer refl
    where
      go : (k : ℕ) → fault.answer ≡ k → fault_line fault ≡ unless k fault written
      go zero q = absurd (n (ap (λ (f : Fault). f.answer) e ∙ q))
      go (suc k) q = refl

  told-written : given.answer ≡ done → written ≡ unless fault.answer fault written
  told-written z = let q : fault.answer ≡ done = sym (ap (λ (f : Fault). f.answer) e) ∙ z in rw q

module _ (store : List ℕ) (edge : ℕ) {given : Fault} (e : given ≡ probe_fault store edge) where
  pub check-fault : (given.answer ≡ done → ⊥) → fault_line given ≡ check_output store edge
  unfolding check_output
  check-fault n = told-fault _ e n

  pub check-probe : given.answer ≡ done → probe_line edge (places_in store) ≡ check_output store edge
  unfolding check_output
  check-probe z = told-written _ e z

module _ (store : List ℕ) (edge face : ℕ) {given : Fault} (e : given ≡ face_fault store edge face face_room) (isExr : Bool) where
  pub face-fault : (given.answer ≡ done → ⊥) → fault_line given ≡ face_output isExr store edge face
  unfolding face_output
  face-fault n = told-fault _ e n

  face-file : given.answer ≡ done → face_file isExr (face_of store edge face) (4 * edge) ≡ face_output isExr store edge face
  unfolding face_output
  face-file z = told-written _ e z

  pub map-file : given.answer ≡ done → isExr ≡ false → image_file (face_of store edge face) (4 * edge) ≡ face_output isExr store edge face
  unfolding face_file
  map-file z f = let w = face-file z in rw f at w ∙ sym (ap (λ (b : Bool). face_output b store edge face) f)

  pub exr-file : given.answer ≡ done → isExr ≡ true → square_file (face_of store edge face) (4 * edge) ≡ face_output isExr store edge face
  unfolding face_file
  exr-file z t = let w = face-file z in rw t at w ∙ sym (ap (λ (b : Bool). face_output b store edge face) t)

-- ---- the question

module _ (input : List ℕ) where
  pub none_written : (out : List ℕ) → length input < question_head → Put out (probe_output input) 0 out
  unfolding probe_output
  none_written out h = nothing out (rw (lt-ltb _ _ h))

  module _ (h : question_head ≤ length input) where
    asked : {kind : ℕ} → get_or input 0 0 ≡ kind → {edge face : ℕ} → edge ≡ word_at input 1 → face ≡ word_at input 5
        → kind_output kind (take (length input - question_head) (drop question_head input)) edge face ≡ probe_output input
    unfolding probe_output
    asked z e f = rw (rest_whole question_head input h, le-ltb _ _ h, z, e, f)

    module _ {edge face : ℕ} (e : edge ≡ word_at input 1) (f : face ≡ word_at input 5) where
      pub tell_asked : get_or input 0 0 ≡ tell_kind → check_output (take (length input - question_head) (drop question_head input)) edge ≡ probe_output input
      unfolding kind_output
      tell_asked z = asked z e f

      pub map_asked : get_or input 0 0 ≡ map_kind → face_output false (take (length input - question_head) (drop question_head input)) edge face ≡ probe_output input
      unfolding kind_output
      map_asked z = asked z e f

      pub fit_asked : get_or input 0 0 ≡ fit_kind → {found fit : ℕ} → found ≡ edge_of (length (take (length input - question_head) (drop question_head input)))
          → fit ≡ found → check_output (take (length input - question_head) (drop question_head input)) fit ≡ probe_output input
      unfolding kind_output
      fit_asked z q w = ap (check_output (take (length input - question_head) (drop question_head input))) (w ∙ q) ∙ asked z e f

      pub exr_asked : get_or input 0 0 ≡ exr_kind → face_output true (take (length input - question_head) (drop question_head input)) edge face ≡ probe_output input
      unfolding kind_output
      exr_asked z = asked z e f

    pub none_asked : (out : List ℕ) → (get_or input 0 0 ≡ tell_kind → ⊥) → (get_or input 0 0 ≡ map_kind → ⊥) → (get_or input 0 0 ≡ fit_kind → ⊥)
        → (get_or input 0 0 ≡ exr_kind → ⊥) → Put out (probe_output input) 0 out
    unfolding probe_output kind_output
    none_asked out a b c d = nothing out (rw (le-ltb _ _ h, ne_eqb _ _ a, ne_eqb _ _ b, ne_eqb _ _ c, ne_eqb _ _ d))

-- ---- a store that is too long is refused before its records are read, and what is cut off of it changes nothing

-- no edge fits it
none_fits : (size : ℕ) → place_limit < size → edge_of size ≡ 0
none_fits size h =
    let f = edge_found size in
    let few : 6 * edge_of size * edge_of size ≤ 96 * 16 = mul-le-mul {n₁ = 6 * edge_of size} {m₁ = edge_of size} {n₂ = 96} {m₂ = 16} (omega (arith, f.most)) f.most in
    cases (eqb (edge_of size) 0) (λ t. eqb-true _ _ t) (λ n. absurd (omega (arith, h, few, f.fits (eqb-false _ _ n))))

no_edge : (store other : List ℕ) → check_output store 0 ≡ check_output other 0
unfolding check_output probe_fault probe_sizes
no_edge store other = refl

module _ (store other : List ℕ) (h : place_limit < length store) (k : place_limit < length other) (edge : ℕ) where
  abbrev edge_fits : Bool
  edge_fits = both (ltb 0 edge) (ltb edge (edge_limit + 1))

  long_check : check_output store edge ≡ check_output other edge
  unfolding check_output probe_fault probe_sizes
  long_check = cases edge_fits (λ t. rw (t, lt-ltb _ _ h, lt-ltb _ _ k)) (λ f. rw f)

  long_face : (isExr : Bool) (face : ℕ) → face_output isExr store edge face ≡ face_output isExr other edge face
  unfolding face_output face_fault probe_fault probe_sizes
  long_face isExr face = cases edge_fits (λ t. rw (t, lt-ltb _ _ h, lt-ltb _ _ k)) (λ f. rw f)

  long_kind : (kind face : ℕ) → kind_output kind store edge face ≡ kind_output kind other edge face
  unfolding kind_output
  long_kind kind face =
      rw (none_fits (length store) h, none_fits (length other) k, long_check, long_face false face, long_face true face, no_edge store other)

module _ (input : List ℕ) (room : ℕ) (h : question_limit < room) where
  longer : room < length input → probe_output (take room input) ≡ probe_output input
  unfolding probe_output word_at
  longer l =
      let size : length (take room input) ≡ room = length-take-le room input (omega arith) in
      let whole : question_head ≤ length input = omega arith in
      let part : question_head ≤ length (take room input) = omega arith in
      let all = drop question_head input in
      let rest = drop question_head (take room input) in
      let long : place_limit < length all = simp length-drop (omega arith) in
      let cut : place_limit < length rest = simp length-drop (omega arith) in
      let first : get_or (take room input) 0 0 ≡ get_or input 0 0 = get_or-take room input 0 0 (omega arith) in
      rw (le-ltb _ _ whole, le-ltb _ _ part, first, low_cut input room 1 4 (omega arith), low_cut input room 5 4 (omega arith), long_kind rest all cut long (word_at input 1) (get_or input 0 0) (word_at input 5))

  pub probe_cut : probe_output (take room input) ≡ probe_output input
  probe_cut =
      cases (ltb room (length input)) (λ t. longer (ltb-true room (length input) t)) (λ f. ap probe_output (take_all room input (ltb-false room (length input) f)))
