-- `bc6_runs::one_region::read_pair` meets its contract. Assumes nothing.
use borrow.Author.Rules.{rules}
use mathlib.Core.Path.{◌≡◌, ◌∙◌, sym, ap₂, subst}
use Prim.Native.Nat.{ℕ, ◌+◌, ◌-◌, ◌/◌, ◌<◌, ◌≤◌, ◌^◌}
use native.Mathlib.Omega.{arith}
use lib.Pow.{pow_pos, pow_mono}
use Rattle.bcn_util.specs.Stream.{number}
use Rattle.bc6_runs.specs.Threes.{three_of, ten, extra_bits}
use Rattle.bc6_runs.proofs.Threes.{three_sum, three_fits, first_tens, with_ten, ones_fit, kept_are, pair_mode, pair_read}
use Rattle.bc6_runs.proofs.one_region.read_pair.Goals as goal

pub extra_bits-requires : goal.extra_bits-requires
extra_bits-requires c = (pair_mode _ c.requires).few

pub overflow_add-first : goal.overflow_add-first
overflow_add-first c =
    let n : ℕ = number (record { lo = c.args.lo; hi = c.args.hi }) in
    let f : ℕ = c.seconds-f.result in
    let extra : ℕ = c.args.extra in
    let few : extra ≤ 6 = (pair_mode extra c.requires).few in
    let first_is : c.firsts.result + c.extra_bits.result ≡ three_of (λ k. ten (n / 2 ^ 5) k + extra_bits f extra k) = ap₂ (λ (x y : ℕ). x + y) (c.firsts.ensures ∙ first_tens c.args.lo c.args.hi) c.extra_bits.ensures
    ∙ three_sum (ten (n / 2 ^ 5)) (extra_bits f extra) in
    record { fits = subst (λ (x : ℕ). x < 2 ^ 64) (sym first_is) (three_fits _ (with_ten f (n / 2 ^ 5) extra few)) }

pub overflow_sub-second : goal.overflow_sub-second
overflow_sub-second c =
    let extra : ℕ = c.args.extra in
    let few : extra ≤ 6 = (pair_mode extra c.requires).few in
    let h = few in search rules

pub overflow_shl-second : goal.overflow_shl-second
overflow_shl-second c =
    let extra : ℕ = c.args.extra in
    let few : extra ≤ 6 = (pair_mode extra c.requires).few in
    let h = few in search rules

pub overflow_sub-second-2 : goal.overflow_sub-second-2
overflow_sub-second-2 c =
    let extra : ℕ = c.args.extra in
    let few : extra ≤ 6 = (pair_mode extra c.requires).few in
    let h = few in ones_fit (2 ^ (10 - extra)) (pow_pos (10 - extra)) (pow_mono {i = 10 - extra} {j = 10} (omega arith))

pub returns : goal.returns
returns c =
    let n : ℕ = number (record { lo = c.args.lo; hi = c.args.hi }) in
    let f : ℕ = c.seconds-f.result in
    let extra : ℕ = c.args.extra in
    let few : extra ≤ 6 = (pair_mode extra c.requires).few in
    let first_is : c.firsts.result + c.extra_bits.result ≡ three_of (λ k. ten (n / 2 ^ 5) k + extra_bits f extra k) = ap₂ (λ (x y : ℕ). x + y) (c.firsts.ensures ∙ first_tens c.args.lo c.args.hi) c.extra_bits.ensures
    ∙ three_sum (ten (n / 2 ^ 5)) (extra_bits f extra) in
    pair_read n f extra c.seconds-f.ensures few _ _ first_is
    (kept_are f (10 - extra) (omega arith)) c.requires c.pair-red.ensures c.pair-green.ensures c.pair-blue.ensures
