-- `probe_put::putting_fault` meets its contract. Assumes nothing.
use borrow.Author.Rules.{rules}
use Rattle.probe_put.proofs.Checks.{put_long, put_uneven, put_short, put_past, put_head, put_place}
use Rattle.probe_put.proofs.putting_fault.Goals as goal

pub returns-then-store-gt-STORE : goal.returns-then-store-gt-STORE
returns-then-store-gt-STORE c = put_long _ _ _ _ (search rules) c.alone.ensures

pub returns-then-store-ne0 : goal.returns-then-store-ne0
returns-then-store-ne0 c = put_uneven _ _ _ _ (search rules) (search rules) c.alone-then-store-ne0.ensures

pub returns-then-room-store : goal.returns-then-room-store
returns-then-room-store c = put_short _ _ _ _ (search rules) (search rules) (search rules) c.alone-then-room-store.ensures

pub returns-then-n-store : goal.returns-then-n-store
returns-then-n-store c = put_past _ _ _ _ (search rules) (search rules) (search rules) (search rules) c.alone-then-n-store.ensures

pub returns-then-refusal-ne-DONE : goal.returns-then-refusal-ne-DONE
returns-then-refusal-ne-DONE c = put_head _ _ _ _ (search rules) (search rules) (search rules) (search rules) c.head_refusal-refusal.ensures c.if-refusal-ne-DONE.true

pub returns : goal.returns
returns c = put_place _ _ _ _ (search rules) (search rules) (search rules) (search rules) c.head_refusal-refusal.ensures c.if-refusal-ne-DONE.false c.refusal.ensures c.alone-2.ensures
