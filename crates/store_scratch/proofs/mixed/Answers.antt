use Rattle.std.proofs.Common.{rules, arith, ◌≡◌, refl, sym, ◌∙◌, ap, ℕ, ◌+◌, ◌*◌, ◌<◌, List, [], ◌∷◌, ◌++◌, length, get_or, drop, length-append}
use lib.ListN.{get_or-append}
use lib.Seq.{get_or-drop, drop_at, drop-drop}
use Rattle.store_spec.specs.Scratch.{mixed_on, picture_mixed}
use Rattle.store_spec.proofs.Keeping.{mixed_more}
use Rattle.store_scratch.proofs.mixed.Goals as goal

-- a chunk that stands behind what was read, and what stands behind the chunk
module _ (all chunk rest : List ℕ) (at : ℕ) (e : drop at all ≡ chunk ++ rest) where
  here : (j : ℕ) → j < length chunk → get_or chunk j 0 ≡ get_or all (at + j) 0
  here j h = sym (get_or-append chunk rest 0 j h) ∙ ap (λ l. get_or l j 0) (sym e) ∙ get_or-drop at all j 0

  behind : rest ≡ drop (at + length chunk) all
  behind = sym (sym (drop-drop (length chunk) at all) ∙ ap (drop (length chunk)) e ∙ drop_at chunk rest (length chunk) refl)

-- a pixel more
module _ (kind k mix on red green blue : ℕ) (all chunk rest : List ℕ) (e : drop (k * 3) all ≡ chunk ++ rest) (size : length chunk ≡ 3) where
  mixed_next : mix ≡ picture_mixed kind all k → on ≡ mixed_on mix → red ≡ get_or chunk 0 0 → green ≡ get_or chunk 1 0 → blue ≡ get_or chunk 2 0
      → on + red + green * 0x1000 + blue * 0x1000000 ≡ picture_mixed kind all (k + 1)
  mixed_next m o r g b =
      let first : get_or chunk 0 0 ≡ get_or all (k * 3 + 0) 0 = here all chunk rest (k * 3) e 0 (omega arith) in
      let second = here all chunk rest (k * 3) e 1 (omega arith) in
      let third = here all chunk rest (k * 3) e 2 (omega arith) in
      let same : k * 3 + 0 ≡ k * 3 = omega arith in
      mixed_more kind all k mix on red green blue m o (r ∙ rw same at first) (g ∙ second) (b ∙ third)

rest_next : (k : ℕ) (all chunk rest : List ℕ) → drop (k * 3) all ≡ chunk ++ rest → length chunk ≡ 3 → rest ≡ drop ((k + 1) * 3) all
rest_next k all chunk rest e size = let same : k * 3 + length chunk ≡ (k + 1) * 3 = omega arith in behind all chunk rest (k * 3) e ∙ ap (λ i. drop i all) same

pub loop-pixel-init : goal.loop-pixel-init
unfolding picture_mixed
loop-pixel-init c = (refl, search rules, search rules)

pub loop-pixel-preserved : goal.loop-pixel-preserved
loop-pixel-preserved c =
    let i = c.loop-pixel.invariant in
    let s = c.in-Some.ensures.steps in
    let one : length (c.loop-pixel.yielded ++ (c.in-Some.pixel ∷ [])) ≡ length c.loop-pixel.yielded + 1 = length-append c.loop-pixel.yielded (c.in-Some.pixel ∷ []) in
    rw one (
      mixed_next c.args.kind (length c.loop-pixel.yielded) _ _ _ _ _ c.args.picture.now c.in-Some.pixel.now _ (sym i.2 ∙ s.1.0) (s.1.1 ∙ i.1) i.0 c.mixed_on.ensures.0 c.from.ensures c.from-in-loop-pixel.ensures c.from-in-loop-pixel-2.ensures,
      s.0 ∙ i.1,
      rest_next (length c.loop-pixel.yielded) c.args.picture.now c.in-Some.pixel.now _ (sym i.2 ∙ s.1.0) (s.1.1 ∙ i.1),
    )
