-- `probe_put::put_place` meets its contract. Assumes nothing.
use mathlib.Core.Path.{refl, ap, ◌∙◌}
use mathlib.Core.List.{List}
use Prim.Native.Nat.{ℕ, ◌+◌, ◌*◌}
use native.Mathlib.Omega.{arith}
use lib.ListN.{length}
use lib.Seq.{sets}
use Rattle.probe_places.specs.Places.{place_size}
use Rattle.probe_put.specs.Put.{place_bytes}
use Rattle.probe_places.specs.declared.Place.{Place}
use Rattle.probe_moves.proofs.Moving.{moved_refused, moved_done}
use Rattle.probe_put.proofs.Checks.{puttable}
use Rattle.probe_put.proofs.Putting.{put_length, put_copied}
use Rattle.probe_put.proofs.put_place.Goals as goal

pub returns-then-fault-ne-DONE : goal.returns-then-fault-ne-DONE
returns-then-fault-ne-DONE c = moved_refused _ _ _ c.putting_fault-fault.ensures c.if-fault-ne-DONE.true c.refused.ensures

pub copy_store-requires : goal.copy_store-requires
copy_store-requires c = (puttable _ _ _ _ c.putting_fault-fault.ensures c.if-fault-ne-DONE.false).enough_room

pub store_place-requires : goal.store_place-requires
store_place-requires c =
    let k = puttable _ _ _ _ c.putting_fault-fault.ensures c.if-fault-ne-DONE.false in
    (omega (arith, k.inside, k.fits), omega (arith, k.inside, k.enough_room))

pub returns : goal.returns
returns c =
    let s = c.args in
    let p : Place = record { face = s.face; column = s.column; row = s.row } in
    let e = c.putting_fault-fault.ensures in
    let z = c.if-fault-ne-DONE.false in
    let k = puttable s.store.now s.n p _ e z in
    moved_done _ _ _ e (length s.store.now) z c.done.ensures (put_length s.store.now s.n p)
    (put_copied s.store.now s.out.now s.store.now _ s.n p k.inside refl
    (c.store_place.ensures ∙ ap (λ (t : List ℕ). sets t (s.n * place_size + 5) (place_bytes p)) c.copy_store.ensures))
