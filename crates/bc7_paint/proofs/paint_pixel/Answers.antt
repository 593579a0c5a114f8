-- `bc7_paint::paint_pixel` meets its contract: four stores. Assumes nothing.
use mathlib.Core.Path.{◌≡◌, ◌∙◌, ap₂}
use Prim.Native.Nat.{ℕ, ◌+◌, ◌*◌}
use native.Mathlib.Omega.{arith}
use lib.Dec.{eqb}
use lib.ListN.{set, length-set}
use Rattle.laws.specs.Pick.{pick}
use Rattle.bc7_spec.specs.Bytes.{turned}
use Rattle.bc7_paint.specs.Shades.{shade_at, turned_to, solo_at}
use Rattle.bc7_paint.proofs.Shading.{red_turned, green_turned, blue_turned, alpha_turned}
use Rattle.bc7_paint.proofs.paint_pixel.Goals as goal

pub bounds-out-at-2 : goal.bounds-out-at-2
bounds-out-at-2 c = simp length-set (omega arith)

pub bounds-out-at-3 : goal.bounds-out-at-3
bounds-out-at-3 c = simp length-set (omega arith)

pub bounds-out-at-4 : goal.bounds-out-at-4
bounds-out-at-4 c = simp length-set (omega arith)

pub returns : goal.returns
unfolding solo_at
returns c =
    let rotation : ℕ = c.args.rotation in
    let f : ℕ → ℕ = λ d. shade_at c.args.ends d 0 (pick (eqb d 3) c.args.alpha c.args.colour) in
    let red : c.shade-r.result ≡ f 0 = c.shade-r.ensures in
    let green : c.shade-g.result ≡ f 1 = c.shade-g.ensures in
    let blue : c.shade-b.result ≡ f 2 = c.shade-b.ensures in
    let alpha : c.shade-a.result ≡ f 3 = c.shade-a.ensures in
    let first : c.select.result ≡ f (turned rotation 0) = c.select.ensures ∙ ap₂ (λ (p q : ℕ). pick (eqb rotation 1) p q) alpha red ∙ red_turned f rotation c.requires.3 in
    let second : c.select-2.result ≡ f (turned rotation 1) = c.select-2.ensures ∙ ap₂ (λ (p q : ℕ). pick (eqb rotation 2) p q) alpha green ∙ green_turned f rotation c.requires.3 in
    let third : c.select-3.result ≡ f (turned rotation 2) = c.select-3.ensures ∙ ap₂ (λ (p q : ℕ). pick (eqb rotation 3) p q) alpha blue ∙ blue_turned f rotation c.requires.3 in
    let last : c.fourth.result ≡ f (turned rotation 3) = c.fourth.ensures
    ∙ ap₂ (λ (p q : ℕ). turned_to rotation p q c.shade-b.result c.shade-a.result) red green
    ∙ ap₂ (λ (p q : ℕ). turned_to rotation (f 0) (f 1) p q) blue alpha
    ∙ alpha_turned f rotation c.requires.3 in
    let k = c.args.k in
    λ i. set (set (set (set c.args.out.now (4 * k) (first i)) (4 * k + 1) (second i)) (4 * k + 2) (third i)) (4 * k + 3) (last i)
