-- `bc6_colour::unquantize_narrow` meets its contract: the sum, step by step. Assumes nothing.
use mathlib.Core.Path.{◌≡◌, refl, sym, ap, ◌∙◌}
use native.Mathlib.Omega.{arith}
use Prim.Native.Nat.{ℕ, ◌+◌, ◌-◌, ◌*◌, ◌^◌, ◌<◌, ◌≤◌}
use lib.IntN.{ℤ, pos, nat_abs, ◌+ℤ◌}
use lib.Pow.{pow_mono}
use lib.Signed.{pos-nat_abs, shr_z}
use Rattle.laws.proofs.Num.{Num, arg, lit, add, sub, shl, shl_of, shr, ones, named, diff, need, kept, abs_below}
use Rattle.bc6_colour.proofs.Stepped.{some_of, top_of, Summed, summed}
use Rattle.bc6_colour.proofs.unquantize_narrow.Goals as goal

pub overflow_add-result : goal.overflow_add-result
overflow_add-result c =
    let p : ℕ = c.args.bits in
    let x : ℕ = nat_abs c.args.c in
    let abs : c.args.c ≡ pos x = sym (pos-nat_abs c.args.c c.requires.2.nonneg) in
    let number : Num = let l : 2 ^ p ≤ 16384 = pow_mono {j = 14} (omega arith) in arg 16384 c.ranges.c (omega (arith, l, c.requires.2.below)) in
    let mask : Num = ones p (omega arith) in
    let above : Num = add number (kept mask tt) in
    let some_is : shr_z (c.args.c +ℤ pos (2 ^ p - 1)) (2 ^ p) ≡ pos (some_of p x) = ap (λ (z : ℤ). shr_z (z +ℤ pos (2 ^ p - 1)) (2 ^ p)) abs in
    let some : Num = named (shr (2 ^ p) (kept above tt)) some_is in
    let further : ℤ → Num = λ one. add number (lit one) in
    let top_is : shr_z (c.args.c +ℤ pos 1) (2 ^ p) ≡ pos (top_of p x) = ap (λ (z : ℤ). shr_z (z +ℤ pos 1) (2 ^ p)) abs in
    let top : Num = named (shr (2 ^ p) (kept (further (pos 1)) tt)) top_is in
    let both : Num = add (kept some tt) (kept top tt) in
    need both tt

pub overflow_add-result-2 : goal.overflow_add-result-2
overflow_add-result-2 c =
    let p : ℕ = c.args.bits in
    let x : ℕ = nat_abs c.args.c in
    let abs : c.args.c ≡ pos x = sym (pos-nat_abs c.args.c c.requires.2.nonneg) in
    let few : x < 2 ^ p = abs_below c.args.c c.requires.2.nonneg c.requires.2.below in
    let all : Summed p x = summed p x c.requires.0 c.requires.1 few in
    let number : Num = let l : 2 ^ p ≤ 16384 = pow_mono {j = 14} (omega arith) in arg 16384 c.ranges.c (omega (arith, l, c.requires.2.below)) in
    let mask : Num = ones p (omega arith) in
    let above : Num = add number (kept mask tt) in
    let some_is : shr_z (c.args.c +ℤ pos (2 ^ p - 1)) (2 ^ p) ≡ pos (some_of p x) = ap (λ (z : ℤ). shr_z (z +ℤ pos (2 ^ p - 1)) (2 ^ p)) abs in
    let some : Num = named (shr (2 ^ p) (kept above tt)) some_is in
    let further : ℤ → Num = λ one. add number (lit one) in
    let top_is : shr_z (c.args.c +ℤ pos 1) (2 ^ p) ≡ pos (top_of p x) = ap (λ (z : ℤ). shr_z (z +ℤ pos 1) (2 ^ p)) abs in
    let top : Num = named (shr (2 ^ p) (kept (further (pos 1)) tt)) top_is in
    let both : Num = add (kept some tt) (kept top tt) in
    let place : Num = shl c.args.c c.requires.2.nonneg (2 ^ (16 - p)) 65536 all.place tt in
    let steps : Num = shl_of both (some_of p x + top_of p x) refl (2 ^ (15 - p)) 65536 all.steps tt in
    need (add place steps) tt

pub overflow_sub-result-3 : goal.overflow_sub-result-3
overflow_sub-result-3 c =
    let p : ℕ = c.args.bits in
    let x : ℕ = nat_abs c.args.c in
    let abs : c.args.c ≡ pos x = sym (pos-nat_abs c.args.c c.requires.2.nonneg) in
    let few : x < 2 ^ p = abs_below c.args.c c.requires.2.nonneg c.requires.2.below in
    let all : Summed p x = summed p x c.requires.0 c.requires.1 few in
    let number : Num = let l : 2 ^ p ≤ 16384 = pow_mono {j = 14} (omega arith) in arg 16384 c.ranges.c (omega (arith, l, c.requires.2.below)) in
    let mask : Num = ones p (omega arith) in
    let above : Num = add number (kept mask tt) in
    let some_is : shr_z (c.args.c +ℤ pos (2 ^ p - 1)) (2 ^ p) ≡ pos (some_of p x) = ap (λ (z : ℤ). shr_z (z +ℤ pos (2 ^ p - 1)) (2 ^ p)) abs in
    let some : Num = named (shr (2 ^ p) (kept above tt)) some_is in
    let further : ℤ → Num = λ one. add number (lit one) in
    let top_is : shr_z (c.args.c +ℤ pos 1) (2 ^ p) ≡ pos (top_of p x) = ap (λ (z : ℤ). shr_z (z +ℤ pos 1) (2 ^ p)) abs in
    let top : Num = named (shr (2 ^ p) (kept (further (pos 1)) tt)) top_is in
    let both : Num = add (kept some tt) (kept top tt) in
    let place : Num = shl c.args.c c.requires.2.nonneg (2 ^ (16 - p)) 65536 all.place tt in
    let steps : Num = shl_of both (some_of p x + top_of p x) refl (2 ^ (15 - p)) 65536 all.steps tt in
    let whole : Num = sub (kept (add place steps) tt) (kept top tt) in
    need whole tt

pub returns : goal.returns
returns c =
    let p : ℕ = c.args.bits in
    let x : ℕ = nat_abs c.args.c in
    let abs : c.args.c ≡ pos x = sym (pos-nat_abs c.args.c c.requires.2.nonneg) in
    let few : x < 2 ^ p = abs_below c.args.c c.requires.2.nonneg c.requires.2.below in
    let all : Summed p x = summed p x c.requires.0 c.requires.1 few in
    let number : Num = let l : 2 ^ p ≤ 16384 = pow_mono {j = 14} (omega arith) in arg 16384 c.ranges.c (omega (arith, l, c.requires.2.below)) in
    let mask : Num = ones p (omega arith) in
    let above : Num = add number (kept mask tt) in
    let some_is : shr_z (c.args.c +ℤ pos (2 ^ p - 1)) (2 ^ p) ≡ pos (some_of p x) = ap (λ (z : ℤ). shr_z (z +ℤ pos (2 ^ p - 1)) (2 ^ p)) abs in
    let some : Num = named (shr (2 ^ p) (kept above tt)) some_is in
    let further : ℤ → Num = λ one. add number (lit one) in
    let top_is : shr_z (c.args.c +ℤ pos 1) (2 ^ p) ≡ pos (top_of p x) = ap (λ (z : ℤ). shr_z (z +ℤ pos 1) (2 ^ p)) abs in
    let top : Num = named (shr (2 ^ p) (kept (further (pos 1)) tt)) top_is in
    let both : Num = add (kept some tt) (kept top tt) in
    let place : Num = shl c.args.c c.requires.2.nonneg (2 ^ (16 - p)) 65536 all.place tt in
    let steps : Num = shl_of both (some_of p x + top_of p x) refl (2 ^ (15 - p)) 65536 all.steps tt in
    let whole : Num = sub (kept (add place steps) tt) (kept top tt) in
    (kept whole tt).is
    ∙ diff (x * 2 ^ (16 - p) + (some_of p x + top_of p x) * 2 ^ (15 - p)) (top_of p x) all.covers
    ∙ ap pos all.is
