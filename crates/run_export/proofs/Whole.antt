-- What goes out, whole: the front and the pieces of all rows of blocks are the file of the picture. Assumes nothing.
use mathlib.Core.Path.{◌≡◌, sym, ap₂, ◌∙◌}
use mathlib.Core.Bool.{true, false}
use mathlib.Core.List.{List, ◌++◌}
use Prim.Native.Nat.{ℕ}
use lib.Dec.{eqb}
use Rattle.laws.specs.Made.{made, join}
use Rattle.laws.proofs.Tests.{cases}
use Rattle.dds.specs.Dds.{blocks_along}
use Rattle.pfm_bands.specs.Bands.{piece_up}
use Rattle.pfm_bands.proofs.Pieces as pfm
use Rattle.exr_bands.specs.Bands.{piece_down}
use Rattle.exr_bands.proofs.Pieces as exr
use Rattle.run_export.specs.Export.{front_for, band_for, piece_for, piece_at, file_for}
use Rattle.laws.proofs.Rows.{made-cong}
use Rattle.pfm_header.specs.Header.{header_of}
use Rattle.pfm_bands.specs.Bands as pfm-specs
use Rattle.exr_header.specs.Header.{front_of}
use Rattle.exr_bands.specs.Bands as exr-specs

module _ (kind : ℕ) (blocks : List ℕ) (format width height : ℕ) where
  module _ (k : eqb kind 0 ≡ true) where
    front_pfm : front_for kind width height ≡ header_of width height
    unfolding front_for
    front_pfm = rw k

    piece_pfm : (n : ℕ) → piece_at kind blocks format width height n ≡ piece_up blocks format width height n
    unfolding piece_at piece_for band_for piece_up
    piece_pfm n = rw k

    file_pfm : file_for kind blocks format width height ≡ pfm-specs.picture_of blocks format width height
    unfolding file_for
    file_pfm = rw k

    pub joined_pfm : front_for kind width height ++ join (made (piece_at kind blocks format width height) (blocks_along height)) ≡ file_for kind blocks format width height
    joined_pfm =
        ap₂ (λ (s : List ℕ) (t : List (List ℕ)). s ++ join t) front_pfm (made-cong _ _ piece_pfm (blocks_along height))
        ∙ pfm.picture_joined blocks format width height ∙ sym file_pfm

  module _ (k : eqb kind 0 ≡ false) where
    front_exr : front_for kind width height ≡ front_of width height
    unfolding front_for
    front_exr = rw k

    piece_exr : (n : ℕ) → piece_at kind blocks format width height n ≡ piece_down blocks format width height n
    unfolding piece_at piece_for band_for piece_down
    piece_exr n = rw k

    file_exr : file_for kind blocks format width height ≡ exr-specs.picture_of blocks format width height
    unfolding file_for
    file_exr = rw k

    pub joined_exr : front_for kind width height ++ join (made (piece_at kind blocks format width height) (blocks_along height)) ≡ file_for kind blocks format width height
    joined_exr =
        ap₂ (λ (s : List ℕ) (t : List (List ℕ)). s ++ join t) front_exr (made-cong _ _ piece_exr (blocks_along height))
        ∙ exr.picture_joined blocks format width height ∙ sym file_exr

  -- S-98, S-99: what goes out for all turns, one after the other, is the file
  pub file_joined : front_for kind width height ++ join (made (piece_at kind blocks format width height) (blocks_along height)) ≡ file_for kind blocks format width height
  file_joined = cases (eqb kind 0) joined_pfm joined_exr
