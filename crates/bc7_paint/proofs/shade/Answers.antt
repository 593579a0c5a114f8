-- `bc7_paint::shade` meets its contract: the two endpoints of the pixel's region, and the point between them. Assumes nothing.
use mathlib.Core.Path.{◌≡◌, ◌∙◌, sym, ap, ap₂, subst}
use Prim.Native.Nat.{ℕ, ◌+◌, ◌*◌, ◌<◌}
use lib.ListN.{get_or}
use Rattle.laws.specs.Pick.{pick}
use Rattle.bc7_spec.specs.Bytes.{between}
use Rattle.bc7_paint.specs.Shades.{region_by, shade_at}
use Rattle.bc7_paint.proofs.Shading.{first_end, second_end}
use Rattle.bc7_paint.proofs.shade.Goals as goal

pub between-requires : goal.between-requires
between-requires c =
    let region : ℕ = region_by c.args.one c.args.two in
    let first : c.select-a.result ≡ get_or c.args.ends (c.args.c + 8 * region) 0 = c.select-a.ensures
    ∙ ap (λ (x : ℕ). pick c.args.two (get_or c.args.ends (c.args.c + 16) 0) x) c.select.ensures
    ∙ first_end c.args.ends c.args.c c.args.one c.args.two in
    let second : c.select-b.result ≡ get_or c.args.ends (c.args.c + (8 * region + 4)) 0 = c.select-b.ensures
    ∙ ap (λ (x : ℕ). pick c.args.two (get_or c.args.ends (c.args.c + 20) 0) x) c.select-2.ensures
    ∙ second_end c.args.ends c.args.c c.args.one c.args.two in (
      subst (λ (x : ℕ). x < 256) (sym first) (c.requires.2.small _),
      subst (λ (x : ℕ). x < 256) (sym second) (c.requires.2.small _),
      c.requires.1,
    )

pub returns : goal.returns
unfolding shade_at
returns c =
    let region : ℕ = region_by c.args.one c.args.two in
    let first : c.select-a.result ≡ get_or c.args.ends (c.args.c + 8 * region) 0 = c.select-a.ensures
    ∙ ap (λ (x : ℕ). pick c.args.two (get_or c.args.ends (c.args.c + 16) 0) x) c.select.ensures
    ∙ first_end c.args.ends c.args.c c.args.one c.args.two in
    let second : c.select-b.result ≡ get_or c.args.ends (c.args.c + (8 * region + 4)) 0 = c.select-b.ensures
    ∙ ap (λ (x : ℕ). pick c.args.two (get_or c.args.ends (c.args.c + 20) 0) x) c.select-2.ensures
    ∙ second_end c.args.ends c.args.c c.args.one c.args.two in
    c.between.ensures ∙ ap₂ (λ (a b : ℕ). between a b c.args.w) first second
