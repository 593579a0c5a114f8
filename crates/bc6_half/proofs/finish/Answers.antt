-- `bc6_half::finish` meets its contract, in each format. Assumes nothing.
use mathlib.Core.Path.{◌≡◌, ◌∙◌, ap, subst}
use mathlib.Core.Bool.{Bool, true, false}
use Prim.Native.Nat.{ℕ}
use lib.Dec.{eqb}
use lib.IntN.{nat_abs}
use mir.Syntax.{w32}
use mir.ValLaws.{to_z-of_z}
use Rattle.laws.specs.Ranges.{InBits}
use Rattle.bc6h_spec.specs.Half.{sign_extend, keep, finish_u, finish_s, finished}
use Rattle.bc6_half.specs.Halves.{half_of, signed_number}
use Rattle.bc6_half.proofs.Formats.{is_signed, is_unsigned}
use Rattle.bc6_half.proofs.Words.{number_kept, lowest_kept, none_lowest}
use Rattle.bc6_half.proofs.finish.Goals as goal

pub returns-then-this-ne0 : goal.returns-then-this-ne0
unfolding half_of finished signed_number
returns-then-this-ne0 g c =
    let inside : InBits true 16 c.args.x = subst (λ (s : Bool). InBits s 16 c.args.x) (is_signed c.if-this-ne0.true) c.requires in
    let word : c.kept_16-u.result ≡ keep 16 c.args.x = c.kept_16-u.ensures ∙ ap (keep 16) (to_z-of_z w32 c.args.x c.ranges.x) in
    let pattern = c.pattern_signed.ensures ∙ ap (λ (u : ℕ). finish_s (sign_extend 16 u)) word ∙ ap finish_s (number_kept true c.args.x inside) in
    let lowest = ap (λ (u : ℕ). eqb u 32768) word ∙ lowest_kept c.args.x inside in
    rw (is_signed c.if-this-ne0.true) (λ i. record { pattern = pattern i; infinite = lowest i })

pub returns : goal.returns
unfolding half_of finished signed_number
returns g c =
    let inside : InBits false 16 c.args.x = subst (λ (s : Bool). InBits s 16 c.args.x) (is_unsigned c.if-this-ne0.false) c.requires in
    let word : c.kept_16-u.result ≡ keep 16 c.args.x = c.kept_16-u.ensures ∙ ap (keep 16) (to_z-of_z w32 c.args.x c.ranges.x) in
    let number = number_kept false c.args.x inside in
    let pattern = c.pattern_unsigned.ensures ∙ ap finish_u (word ∙ ap nat_abs number) in
    let lowest = none_lowest c.args.x in
    rw (is_unsigned c.if-this-ne0.false) (λ i. record { pattern = pattern i; infinite = lowest i })
