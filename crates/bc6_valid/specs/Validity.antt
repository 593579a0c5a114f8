-- S-37: which records are valid, by computing: proofs/Validity shows that the test holds of those that `Valid` admits, and of no other. Assumes
-- nothing.
use Rattle.std.specs.Prelude.{Bool, ℕ, ◌^◌, eqb, leb, ltb, length, get_or}
use Rattle.laws.specs.Pick.{both}
use Rattle.laws.specs.Every.{below}
use Rattle.bc6h_spec.specs.declared.Fields.{Fields}
use Rattle.bc6h_spec.specs.Layout.{partition_place, width}
use Rattle.bc6h_spec.specs.Regions.{region1_of}
use Rattle.bcn_spec.specs.Indices.{stored_bits}
use Rattle.bc6h_spec.specs.Fields.{index_bits, fixups, index_of}

-- S-37: each endpoint fits its width; in one-region modes the last two have no bits.
unfoldable pub endpoint_fits : Fields → ℕ → Bool
endpoint_fits f place = ltb (get_or f.endpoints place 0) (2 ^ width f.mode place)

-- S-37: each index fits the bits that are stored of it.
unfoldable pub index_fits : Fields → ℕ → Bool
index_fits f pixel = ltb (index_of f pixel) (2 ^ stored_bits (index_bits f.mode) (fixups f.mode f.partition) pixel)

-- S-37: format, mode, endpoints, partition, region count and indices.
unfoldable pub valid : Fields → Bool
valid f =
    both (leb f.format 1)
    (both (leb 1 f.mode)
    (both (leb f.mode 14)
    (both (eqb (length f.endpoints) 12)
    (both (below (endpoint_fits f) 12)
    (both (ltb f.partition (2 ^ width f.mode partition_place))
    (both (eqb f.region1 (region1_of f.mode f.partition))
    (both (eqb (length f.indices) 16)
    (below (index_fits f) 16))))))))
