-- `bc7_ends::run` meets its contract. Assumes nothing.
use mathlib.Core.Path.{◌∙◌, sym, ap, subst}
use Prim.Native.Nat.{ℕ, ◌%◌, ◌^◌, ◌<◌}
use native.Mathlib.Nat.{mod-lt, lt_of_lt_of_le}
use lib.Pow.{pow_pos, pow_mono}
use Rattle.bc7_ends.proofs.run.Goals as goal

pub overflow_cast-result : goal.overflow_cast-result
overflow_cast-result c =
    let small : c.consume_bits-read.result.bits < 2 ^ c.args.count = subst (λ (x : ℕ). x < 2 ^ c.args.count) (sym c.consume_bits-read.ensures.next) (mod-lt _ (pow_pos _)) in
    record { fits = lt_of_lt_of_le small (pow_mono {j = 32} c.requires.1) }

pub returns : goal.returns
returns c =
    let small : c.consume_bits-read.result.bits < 2 ^ c.args.count = subst (λ (x : ℕ). x < 2 ^ c.args.count) (sym c.consume_bits-read.ensures.next) (mod-lt _ (pow_pos _)) in
    record {
      is = c.consume_bits-read.ensures.next ∙ ap (λ (x : ℕ). x % 2 ^ c.args.count) c.skip-rest.ensures;
      small = small;
    }
