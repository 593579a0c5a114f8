-- S-45: by which records a record is looked for among the earlier ones: each has a bucket, and a link to the last one before it of the same bucket.
-- Assumes nothing.
use Rattle.std.specs.Prelude.{◌≡◌, Bool, true, false, List, ℕ, zero, suc, ◌+◌, ◌/◌, ◌%◌, ◌≤◌, ◌<◌, eqb, get_or}
use Rattle.laws.specs.Pick.{pick, both}
use Rattle.bcn_spec.specs.Bits.{block_size}
use Rattle.store_records.specs.Store.{format_of, block_of, Unrefused}
use Rattle.store_spec.specs.Shown.{is_record}
use Rattle.store_spec.specs.Scratch.{mixed_on}
use Rattle.store_clean.specs.Clean.{repeats, goes}

abbrev pub bucket_count : ℕ
bucket_count = 2048

-- a number made of the format and the first bytes; that records with one bucket are the same is nowhere used
unfoldable pub block_mixed : ℕ → List ℕ → ℕ → ℕ
block_mixed format block zero = format + 1
block_mixed format block (suc k) = mixed_on (block_mixed format block k) + get_or block k 0

-- eleven bits of it, to which every byte comes
unfoldable pub bucket_of : ℕ → List ℕ → ℕ
bucket_of format block = block_mixed format block block_size / 0x1000000 % bucket_count

abbrev pub bucket_at : List ℕ → ℕ → ℕ
bucket_at store n = bucket_of (format_of store n) (block_of store n)

-- record n is not refused and of the bucket
unfoldable pub is_of : List ℕ → ℕ → ℕ → Bool
is_of store bucket n = both (is_record store n) (eqb (bucket_at store n) bucket)

-- the last of the first n records that is, plus one; 0 where none is
unfoldable pub last_of : List ℕ → ℕ → ℕ → ℕ
last_of store bucket zero = 0
last_of store bucket (suc n) = pick (is_of store bucket n) (suc n) (last_of store bucket n)

-- each of the first n records that is not refused has its link
pub record Linked (store : List ℕ) (n : ℕ) (links : List ℕ) : Type 0 where
  pub link : (k : ℕ) → k < n → Unrefused store k → get_or links k 0 ≡ last_of store (bucket_at store k) k

-- What a walk along the links finds: an earlier record that record n repeats, or n where n stays.
pub record Met (store : List ℕ) (n found : ℕ) : Type 0 where
  pub within : found ≤ n
  pub repeated : found < n → repeats store n found ≡ true
  pub stays : n ≤ found → goes store n ≡ false
