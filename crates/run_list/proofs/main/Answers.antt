use Rattle.store_records.specs.Store.{store_limit}
use Rattle.run_streams.proofs.Writing.{outgoing}
use Rattle.run_list.specs.Listing.{listing_of}
use Rattle.run_list.proofs.main.Goals as goal

-- what goes out is the definition of what was read

pub write_listing-requires : goal.write_listing-requires
write_listing-requires c =
    let put = c.put_listing-end.ensures in
    outgoing (listing_of c.is_strict-strict.result) store_limit c.read_input.auto.buffer c.first_bytes-store.ensures put.upper_bound put.written
