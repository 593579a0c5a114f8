-- The answer before the probe, by the statement of the building call; and that a longer input than any that is taken may be cut. Assumes nothing.
use mathlib.Core.Path.{◌≡◌, refl, sym, ap, ◌∙◌}
use mathlib.Core.Bool.{Bool, true}
use mathlib.Core.List.{List}
use Prim.Native.Nat.{ℕ, zero, suc, ◌+◌, ◌-◌, ◌*◌, ◌≤◌, ◌<◌}
use native.Mathlib.Omega.{arith}
use lib.Dec.{ltb}
use lib.ListN.{length, get_or, set, take, drop, length-drop}
use lib.Seq.{take_all, get_or-take, length-take-le}
use borrow.Author.Tests.{lt-ltb, le-ltb, ne_eqb, ltb-true, ltb-false}
use borrow.Rule.Slice.PartMut.{mid_of, put_mid}
use Rattle.laws.specs.Pick.{both}
use Rattle.laws.proofs.Tests.{cases, both_true}
use Rattle.raw_bytes.specs.Bytes.{low_first}
use Rattle.bcn_spec.specs.Answers.{done}
use Rattle.bcn_spec.specs.Bits.{block_size}
use Rattle.probe_places.specs.Places.{place_size}
use Rattle.probe.specs.Probe.{edge_limit, place_count}
use Rattle.probe_build.specs.declared.Built.{Built}
use Rattle.probe_build.specs.Building.{record_count, built_of, build_refusal, BuiltTo}
use Rattle.probe_build.proofs.Builds.{built_length, answer_number, silent, buildable, was_buildable, all_built}
use Rattle.probe_build.proofs.Numbers.{count_small}
use Rattle.text.proofs.Texts.{said}
use Rattle.text_moves.specs.Output.{moved_output}
use Rattle.text_moves.proofs.Heads.{Put, fitting, nothing, rest_whole, low_cut}
use Rattle.text_moves.proofs.Outputs.{part_length, answered_refused, answered_done}
use Rattle.text_build.specs.Output.{build_head, build_limit, built_room, edge_in, first_tile_in, build_output}

pub no_wish : (input out : List ℕ) → length input < build_head → Put out (build_output input) 0 out
unfolding build_output
no_wish input out h = nothing out (rw (lt-ltb _ _ h))

-- the records of a probe that is made
pub few_records : {blocks lent after : List ℕ} {format edge first : ℕ} {r : Built} → BuiltTo blocks format edge first lent r after → r.answer ≡ done
    → r.records ≤ place_count
few_records {edge = edge} d z = omega (arith, all_built d z, count_small edge (was_buildable d z).edge_last)

-- ---- what each return shows

module _ (input : List ℕ) (h : build_head ≤ length input) where
  module _ {edge first : ℕ} (is-edge : edge ≡ low_first input 1 4) (is_first : first ≡ low_first input 5 4) where
    abbrev blocks : List ℕ
    blocks = take (length input - build_head) (drop build_head input)

    abbrev format : ℕ
    format = get_or input 0 0

    lent : (room : ℕ) → room ≡ built_room → moved_output (build_refusal (length blocks) format edge room) (built_of blocks format edge first) ≡ build_output input
    unfolding build_output edge_in first_tile_in
    lent room e = rw (e, rest_whole build_head input h, le-ltb _ _ h, is-edge, is_first)

    module _ (out after : List ℕ) {r : Built} (room : length out ≡ 1 + built_room) (d : BuiltTo blocks format edge first (mid_of 1 (length out - 1) out) r after) where
      pub build_refused : (r.answer ≡ done → ⊥) → Put out (build_output input) 1 (set (put_mid 1 (length out - 1) out after) 0 r.answer)
      build_refused n =
          fitting (omega arith)
          (said (answered_refused out after (built_of blocks format edge first) (answer_number d) n (silent d n).0 (omega arith)) (lent _ (part_length out room)))

      pub build_done : r.answer ≡ done
          → Put out (build_output input) (1 + place_size * r.records) (set (put_mid 1 (length out - 1) out after) 0 r.answer)
      build_done z =
          let e : length (built_of blocks format edge first) ≡ place_size * r.records =
          built_length blocks format edge first ∙ ap (λ (n : ℕ). place_size * n) (sym (all_built d z)) in
          let passed = sym (answer_number d) ∙ z in
          fitting (omega (arith, few_records d z, room))
          (said (answered_done out after (built_of blocks format edge first) (answer_number d) z (rw passed at d.holds) e (omega (arith, few_records d z, room))) (lent _ (part_length out room)))

-- ---- more blocks than any probe has are refused whatever they are, and what is cut off of them changes nothing

module _ (size other format edge : ℕ) (h : block_size * place_count < size) (k : block_size * place_count < other) where
  abbrev edge_fits : Bool
  edge_fits = both (ltb 0 edge) (ltb edge (edge_limit + 1))

  misfit : edge_fits ≡ true → (n : ℕ) → block_size * place_count < n → n ≡ block_size * record_count edge → ⊥
  misfit t n l e =
      let m : edge < edge_limit + 1 = ltb-true _ _ (both_true (ltb 0 edge) (ltb edge (edge_limit + 1)) t).1 in
      omega (arith, l, e, count_small edge (omega arith))

  pub long_refusal : build_refusal size format edge built_room ≡ build_refusal other format edge built_room
  unfolding build_refusal
  long_refusal = cases edge_fits (λ t. rw (t, ne_eqb _ _ (misfit t size h), ne_eqb _ _ (misfit t other k))) (λ f. rw f)

  pub long_refused : build_refusal size format edge built_room ≡ done → ⊥
  long_refused z =
      let b = buildable size format edge built_room z in
      misfit (rw (lt-ltb 0 edge b.edge_first, lt-ltb edge (edge_limit + 1) (omega (arith, b.edge_last)))) size h b.whole

-- a refusal says nothing of the probe
refused_same : (k : ℕ) → (k ≡ done → ⊥) → (a b : List ℕ) → moved_output k a ≡ moved_output k b
refused_same zero n a b = absurd (n refl)
refused_same (suc k) n a b = refl

module _ (input : List ℕ) (room : ℕ) (h : build_limit < room) where
  longer : room < length input → build_output (take room input) ≡ build_output input
  unfolding build_output edge_in first_tile_in
  longer l =
      let size : length (take room input) ≡ room = length-take-le room input (omega arith) in
      let whole : build_head ≤ length input = omega arith in
      let part : build_head ≤ length (take room input) = omega arith in
      let all = drop build_head input in
      let rest = drop build_head (take room input) in
      let long : block_size * place_count < length all = simp length-drop (omega arith) in
      let cut : block_size * place_count < length rest = simp length-drop (omega arith) in
      let format : get_or (take room input) 0 0 ≡ get_or input 0 0 = get_or-take room input 0 0 (omega arith) in
      rw (le-ltb _ _ whole, le-ltb _ _ part, format, low_cut input room 1 4 (omega arith), low_cut input room 5 4 (omega arith), long_refusal (length rest) (length all) (get_or input 0 0) (low_first input 1 4) cut long)
      (refused_same _ (long_refused (length all) (length all) (get_or input 0 0) (low_first input 1 4) long long) _ _)

  pub build_cut : build_output (take room input) ≡ build_output input
  build_cut =
      cases (ltb room (length input)) (λ t. longer (ltb-true room (length input) t)) (λ f. ap build_output (take_all room input (ltb-false room (length input) f)))
