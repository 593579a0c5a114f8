-- `bc6_writer::scattered_bits` meets its contract: one code a turn, from the last. Assumes nothing.
use borrow.Author.Rules.{rules}
use mathlib.Core.Path.{◌≡◌, ◌∙◌, sym, ap}
use Prim.Native.Nat.{ℕ, ◌-◌, ◌<◌, ◌^◌}
use native.Mathlib.Omega.{arith}
use lib.ListN.{length, get_or, drop}
use Rattle.std.proofs.lemmas.List.{get_or-reverse, length-reverse, length_push}
use Rattle.std.proofs.lemmas.Grind.{get_or_default_zero}
use Rattle.std.proofs.lemmas.Iterator.Adapters.{YieldsList-from_rev_slice}
use Rattle.std.proofs.lemmas.Iterator.Consumers.{YieldsList-turn}
use Rattle.bc6h_spec.specs.Writer.{scattered}
use Rattle.bc6_fields.specs.Places.{entry}
use Rattle.bc6_writer.proofs.Scattering.{scattered_none, scattered_small, scattered_back}
use Rattle.bc6_writer.proofs.scattered_bits.Goals as goal
use Rattle.bc6_writer.proofs.scattered_bits.Goals.{In-Some}

-- the code of a turn, counted from the last
turn : (c : In-Some)
    → (length c.loop-code.yielded < length c.args.codes.now) × (c.in-Some.code.now ≡ get_or c.args.codes.now (length c.args.codes.now - 1 - length c.loop-code.yielded) 0)
turn c =
    let codes = c.args.codes.now in
    let n = length c.loop-code.yielded in
    let t = YieldsList-turn (YieldsList-from_rev_slice codes (cc)) c.loop-code.yielded _ c.loop-code.yielded_by _ _ c.in-Some.code c.in-Some.is c.next.ensures.steps in
    let h : n < length codes = omega (arith, t.0, length-reverse codes) in (
      h,
      t.1 ∙ get_or-reverse codes n c.in-Some.code.now h ∙ get_or_default_zero codes (length codes - 1 - n) c.in-Some.code.now (omega arith),
    )

pub loop-code-init : goal.loop-code-init
loop-code-init c = scattered_none c.args.codes.now (entry c.args.places)

pub bit_of-requires : goal.bit_of-requires
bit_of-requires c = let t = turn (goal.at.bit_of-requires c).In-Some in rw t.1 (c.requires.1 _ (omega (arith, t.0)))

small : (c : In-Some) → c.loop-code.bits < 2 ^ 63
small c = let t = turn c in scattered_small _ _ c.requires.0 (length c.args.codes.now - length c.loop-code.yielded) (omega (arith, t.0)) c.loop-code.invariant

pub overflow_mul-bits : goal.overflow_mul-bits
overflow_mul-bits c = let h = small (goal.at.overflow_mul-bits c).In-Some in search rules

pub overflow_add-bits : goal.overflow_add-bits
overflow_add-bits c = let h = small (goal.at.overflow_add-bits c).In-Some in search rules

pub loop-code-preserved : goal.loop-code-preserved
loop-code-preserved c =
    let t = turn (goal.at.loop-code-preserved c).In-Some in
    let codes = c.args.codes.now in
    scattered_back codes (entry c.args.places) (length c.loop-code.yielded) c.loop-code.invariant t.1 c.bit_of.ensures t.0
    ∙ ap (λ (n : ℕ). scattered (drop (length codes - n) codes) (entry c.args.places)) (sym (length_push c.loop-code.yielded c.in-Some.code))
