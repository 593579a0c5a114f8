-- S-1: the same input has the same answer, of the calls that answer a definition's value and lend nothing. Each other call has a lemma of its own,
-- where its subject is. Assumes nothing.
use Rattle.std.specs.Prelude.{◌≡◌, List, ℕ, length}
use Rattle.store_copies.specs.Trust.{trusted}
use Rattle.store_records.specs.Store.{tile_at}
use Rattle.store_spec.specs.Twins.{first_twin}
use Rattle.store_twins.specs.Strict.{first_damaged}
use Rattle.store_clean.specs.Clean.{first_of}
use Rattle.store_covered.specs.CleanUp.{covered, by_demand_3}
use Rattle.probe.specs.Probe.{probe_fault}
use Rattle.probe_build.specs.Edges.{edge_of}
use Rattle.dds.specs.Dds.{write_refusal}
use Rattle.pfm.specs.File.{length_of}
use Rattle.exr.specs.File as exr

-- Two answers that both are the definition's value are one.
abbrev pub OneAnswer : {A : Type 0} → A → Type 0
OneAnswer {A} value = (r s : A) → r ≡ value → s ≡ value → r ≡ s

-- A field is named as the call is.
pub record OneOutcome : Type 0 where
  pub tile_at : (store : List ℕ) (n : ℕ) → OneAnswer (tile_at store n)
  pub first_damaged : (store : List ℕ) → OneAnswer (first_damaged store)
  pub first_twin : (store : List ℕ) (n : ℕ) → OneAnswer (first_twin store n)
  pub first_of : (store : List ℕ) (n : ℕ) → OneAnswer (first_of store n)
  pub is_covered : (store : List ℕ) (n earlier : ℕ) → OneAnswer (covered store n earlier)
  pub is_by_demand_3 : (store : List ℕ) (n earlier : ℕ) → OneAnswer (by_demand_3 store n earlier)
  pub is_trusted : (block : List ℕ) (format : ℕ) → OneAnswer (trusted format block)
  pub probe_check : (store : List ℕ) (edge : ℕ) → OneAnswer (probe_fault store edge)
  pub probe_edge : (store : List ℕ) → OneAnswer (edge_of (length store))
  pub write_refusal : (size format width height room : ℕ) → OneAnswer (write_refusal size format width height room)
  pub pfm_length : (width height : ℕ) → OneAnswer (length_of width height)
  pub exr_length : (width height : ℕ) → OneAnswer (exr.length_of width height)
