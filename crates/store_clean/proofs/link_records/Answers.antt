use borrow.Author.Rules.{rules}
use mathlib.Core.Path.{◌≡◌, refl, ◌∙◌, ap₂}
use native.Mathlib.Omega.{arith}
use lib.ListN.{length-set}
use Rattle.store_records.specs.Store.{records_in}
use Rattle.store_records.proofs.Readings.{unrefused, format_is, refused, part_of}
use Rattle.store_spec.proofs.Shown.{part_length}
use Rattle.store_clean.specs.Links.{bucket_of}
use Rattle.store_clean.proofs.Linking.{linking_none, linking_refused, linking_more}
use Rattle.store_clean.proofs.link_records.Goals as goal

pub loop-n-init : goal.loop-n-init
loop-n-init c = (search rules, refl, search rules, linking_none _ _)

pub loop-n-preserved-in_default : goal.loop-n-preserved-in_default
loop-n-preserved-in_default c =
    let i = c.loop-n.invariant in
    (search rules, i.1, i.2, linking_refused i.3 (refused c.record_at.ensures c.in_default.is))

pub bucket_of-bucket-requires : goal.bucket_of-bucket-requires
bucket_of-bucket-requires c = part_length _ _ (unrefused c.record_at.ensures c.in-Ok.is) c.record_block.ensures

pub loop-n-preserved : goal.loop-n-preserved
loop-n-preserved c =
    let i = c.loop-n.invariant in
    let r = c.record_at.ensures in
    let e = c.in-Ok.is in
    let u = unrefused r e in
    let k = c.bucket_of-bucket.ensures.0 ∙ ap₂ bucket_of (format_is r e) (c.record_block.ensures ∙ part_of _ _ u) in
    (search rules, simp length-set i.1, simp length-set i.2, linking_more i.3 (search rules) i.2 u k refl refl)

pub returns : goal.returns
returns c = let e : c.loop-n.n ≡ records_in c.args.store.now = omega arith in rw e at c.loop-n.invariant.3.linked
