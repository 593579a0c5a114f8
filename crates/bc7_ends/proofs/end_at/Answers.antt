-- `bc7_ends::end_at` meets its contract. Assumes nothing.
use mathlib.Core.Path.{◌≡◌, ◌∙◌, sym, ap, subst}
use mathlib.Core.Bool.{Bool}
use Prim.Native.Nat.{ℕ, ◌+◌, ◌*◌, ◌/◌, ◌%◌, ◌^◌, ◌<◌, ◌≤◌}
use native.Mathlib.Nat.{mod-lt, lt_of_lt_of_le}
use native.Mathlib.Omega.{arith}
use lib.Dec.{lit<}
use lib.Pow.{pow_pos, pow_mono}
use borrow.Author.Tests.{eq-eqb, ne_eqb}
use Rattle.laws.specs.Pick.{pick}
use Rattle.bcn_util.proofs.Words.{one_shl_32}
use Rattle.bc7_spec.specs.Bytes.{widened, opaque}
use Rattle.bc7_ends.specs.Ends.{end_of}
use Rattle.bc7_ends.proofs.Widening.{moved, with_p, p_small}
use Rattle.bc7_ends.proofs.end_at.Goals as goal

pub returns-then-w-eq0 : goal.returns-then-w-eq0
unfolding end_of
returns-then-w-eq0 c = (rw (eq-eqb _ _ c.if-w-eq0.true), lit< tt)

pub nonzero_rem-v : goal.nonzero_rem-v
nonzero_rem-v c =
    let w : ℕ = c.args.w in
    let d : ℕ = c.args.d in
    let narrow : w + d ≤ 8 = c.requires.1.high in
    let shift : (1 * 2 ^ w) % 2 ^ 32 ≡ 2 ^ w = one_shl_32 w (omega (arith, narrow)) in
    rw shift (pow_pos w)

pub overflow_mul-q : goal.overflow_mul-q
overflow_mul-q c =
    let d : ℕ = c.args.d in
    let q : ℕ = c.args.p / 2 ^ c.args.e % 2 in
    let q_fits : q < 2 = mod-lt _ (lit< tt) in
    let product : q * d < 2 = p_small d q c.requires.1.p_bit q_fits in
    omega (arith, product)

pub overflow_add-v : goal.overflow_add-v
overflow_add-v c =
    let w : ℕ = c.args.w in
    let d : ℕ = c.args.d in
    let raw : ℕ = c.args.run / 2 ^ (w * c.args.e) % ((1 * 2 ^ w) % 2 ^ 32) in
    let v : ℕ = c.args.run / 2 ^ (w * c.args.e) % 2 ^ w in
    let q : ℕ = c.args.p / 2 ^ c.args.e % 2 in
    let narrow : w + d ≤ 8 = c.requires.1.high in
    let shift : (1 * 2 ^ w) % 2 ^ 32 ≡ 2 ^ w = one_shl_32 w (omega (arith, narrow)) in
    let v_is : raw ≡ v = ap (λ (x : ℕ). c.args.run / 2 ^ (w * c.args.e) % x) shift in
    let v_fits : v < 2 ^ w = mod-lt _ (pow_pos w) in
    let q_fits : q < 2 = mod-lt _ (lit< tt) in
    let sum_is : (raw * 2 ^ d) % 2 ^ 32 + q * d ≡ v * 2 ^ d + q * d = ap (λ (x : ℕ). (x * 2 ^ d) % 2 ^ 32 + q * d) v_is
    ∙ ap (λ (x : ℕ). x + q * d) (moved w d v (omega (arith, narrow)) v_fits) in
    let sum_fits : (raw * 2 ^ d) % 2 ^ 32 + q * d < 2 ^ (w + d) = subst (λ (x : ℕ). x < 2 ^ (w + d)) (sym sum_is) (with_p w d v q c.requires.1.p_bit v_fits q_fits) in
    record { fits = lt_of_lt_of_le sum_fits (pow_mono {i = w + d} {j = 32} (omega (arith, narrow))) }

pub widened-requires : goal.widened-requires
widened-requires c =
    let w : ℕ = c.args.w in
    let d : ℕ = c.args.d in
    let raw : ℕ = c.args.run / 2 ^ (w * c.args.e) % ((1 * 2 ^ w) % 2 ^ 32) in
    let v : ℕ = c.args.run / 2 ^ (w * c.args.e) % 2 ^ w in
    let q : ℕ = c.args.p / 2 ^ c.args.e % 2 in
    let narrow : w + d ≤ 8 = c.requires.1.high in
    let at_least : 5 ≤ w + d = subst (λ (t : Bool). 5 ≤ pick t 5 (w + d)) (ne_eqb w 0 c.if-w-eq0.false) c.requires.1.low in
    let shift : (1 * 2 ^ w) % 2 ^ 32 ≡ 2 ^ w = one_shl_32 w (omega (arith, narrow)) in
    let v_is : raw ≡ v = ap (λ (x : ℕ). c.args.run / 2 ^ (w * c.args.e) % x) shift in
    let v_fits : v < 2 ^ w = mod-lt _ (pow_pos w) in
    let q_fits : q < 2 = mod-lt _ (lit< tt) in
    let sum_is : (raw * 2 ^ d) % 2 ^ 32 + q * d ≡ v * 2 ^ d + q * d = ap (λ (x : ℕ). (x * 2 ^ d) % 2 ^ 32 + q * d) v_is
    ∙ ap (λ (x : ℕ). x + q * d) (moved w d v (omega (arith, narrow)) v_fits) in
    let sum_fits : (raw * 2 ^ d) % 2 ^ 32 + q * d < 2 ^ (w + d) = subst (λ (x : ℕ). x < 2 ^ (w + d)) (sym sum_is) (with_p w d v q c.requires.1.p_bit v_fits q_fits) in
    (at_least, narrow, sum_fits)

pub returns : goal.returns
unfolding end_of
returns c =
    let w : ℕ = c.args.w in
    let d : ℕ = c.args.d in
    let raw : ℕ = c.args.run / 2 ^ (w * c.args.e) % ((1 * 2 ^ w) % 2 ^ 32) in
    let v : ℕ = c.args.run / 2 ^ (w * c.args.e) % 2 ^ w in
    let q : ℕ = c.args.p / 2 ^ c.args.e % 2 in
    let narrow : w + d ≤ 8 = c.requires.1.high in
    let shift : (1 * 2 ^ w) % 2 ^ 32 ≡ 2 ^ w = one_shl_32 w (omega (arith, narrow)) in
    let v_is : raw ≡ v = ap (λ (x : ℕ). c.args.run / 2 ^ (w * c.args.e) % x) shift in
    let v_fits : v < 2 ^ w = mod-lt _ (pow_pos w) in
    let sum_is : (raw * 2 ^ d) % 2 ^ 32 + q * d ≡ v * 2 ^ d + q * d = ap (λ (x : ℕ). (x * 2 ^ d) % 2 ^ 32 + q * d) v_is
    ∙ ap (λ (x : ℕ). x + q * d) (moved w d v (omega (arith, narrow)) v_fits) in (
      c.widened.ensures.0 ∙ ap (widened (w + d)) sum_is
          ∙ sym (ap (λ (t : Bool). pick t opaque (widened (w + d) (v * 2 ^ d + q * d))) (ne_eqb w 0 c.if-w-eq0.false)),
      c.widened.ensures.1,
    )
