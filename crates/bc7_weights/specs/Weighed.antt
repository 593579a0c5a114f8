-- S-70: the weights of sixteen indexes. Assumes nothing.
use Rattle.std.specs.Prelude.{◌≡◌, List, [], ◌∷◌, ℕ, get_or}
use Rattle.laws.specs.Made.{made}
use Rattle.bcn_spec.specs.Indices.{index_in}
use Rattle.bcn_util.specs.declared.Indexes.{Indexes}
use Rattle.bcn_util.specs.Indexed.{index_at}
use Rattle.bc7_spec.specs.Bytes.{weight_of}
use Rattle.laws.specs.Ranges.{AllBelow}

-- eighths of a weight that an index is worth
abbrev pub factor_of : ℕ → ℕ
factor_of bits = get_or (0 ∷ 0 ∷ 171 ∷ 73 ∷ 34 ∷ []) bits 0

-- the weight of pixel k
unfoldable pub weighed : Indexes → ℕ → ℕ
weighed x k = weight_of x.bits (index_at x k)

-- what `weigh` answers
pub record Weighed (x : Indexes) (weights : List ℕ) : Type 0 where
  pub is : weights ≡ made (weighed x) 16
  pub small : AllBelow 65 weights

-- the weight of pixel k, from the bits of an index set in q: their width and the fix-up pixels
unfoldable pub weight_by : ℕ → List ℕ → ℕ → ℕ → ℕ
weight_by bits fixups q k = weight_of bits (index_in bits fixups q k)

-- the sixteen weights of an index set
pub record WeighedBy (bits : ℕ) (fixups : List ℕ) (q : ℕ) (weights : List ℕ) : Type 0 where
  pub is : weights ≡ made (weight_by bits fixups q) 16
  pub small : AllBelow 65 weights
