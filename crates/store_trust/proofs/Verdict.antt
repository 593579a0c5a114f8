-- What the checks of `is_trusted` show of `trusted`, one law for each return. Assumes nothing.
use mathlib.Core.Path.{◌≡◌, refl, sym, ap, ap₂, ◌∙◌, subst}
use mathlib.Core.Bool.{Bool, true, false}
use mathlib.Core.List.{List, append-nil}
use Prim.Native.Nat.{ℕ, suc, ◌+◌, ◌-◌, ◌*◌, ◌≤◌, ◌<◌}
use native.Mathlib.Omega.{arith}
use lib.Dec.{leb, leb→le, T_not}
use lib.ListN.{length, get_or, drop_of_length-le}
use borrow.Author.Tests.{le-leb, lt-leb, leb-false, lt-ltb, le-ltb}
use Rattle.laws.specs.Pick.{pick, both}
use Rattle.laws.specs.Every.{below}
use Rattle.laws.specs.Search.{distinct}
use Rattle.laws.proofs.Tests.{cases}
use Rattle.laws.proofs.Search.{holds, is_true, is_false, some_same, distinct_same, distinct_turned}
use Rattle.bc6h_spec.specs.declared.Fields.{Fields}
use Rattle.bcn_spec.specs.Bits.{IsBlock}
use Rattle.bc6h_spec.specs.Layout.{two_regions}
use Rattle.bc6h_spec.specs.Fields.{mode_of, fields_of, Valid}
use Rattle.bc6h_spec.specs.Picture.{is_signed, palette}
use Rattle.bc6h_spec.specs.Block.{format_number, pixels_of}
use Rattle.bc6h_spec.proofs.Formats.{number_again}
use Rattle.bc6h_spec.proofs.Reading.{fields_mode, fields_valid}
use Rattle.bc6.specs.Call.{Pixels}
use Rattle.bc6.specs.Call.{Painted}
use Rattle.bc6.proofs.Calls.{done_when, written}
use Rattle.store_copies.specs.Wide.{regions, last_index}
use Rattle.store_copies.specs.Trust.{Trusted, is_block, mode_covered, reaches, channel_differs, differs, has_least, region_trusted, fields_trusted, trusted}
use Rattle.store_copies.proofs.Trust.{block_complete, sound, not_least_complete}
use Rattle.store_trust.specs.Ramp.{ramped_one, ramped_two, ramped, ramp_entry, entries_differ, region_passes, all_pass}
use Rattle.store_trust.proofs.Ramp.{region_at, index_at, one_shown, two_shown}

-- the values that the pixels call leaves in 48 places that were lent to it
pub values_written : {block out after : List ℕ} {r : Pixels} (format : ℕ) → Painted block format out r after → format ≤ 1 → length block ≡ 16 → length out ≡ 48
    → after ≡ pixels_of (is_signed format) block
values_written {block} {out} format p k l h =
    let few : length out ≤ 48 = omega arith in
    written p (done_when format (length block) (length out) k l (omega arith)) ∙ rw drop_of_length-le (append-nil (pixels_of (is_signed format) block))

-- ---- a region's palette, as the code has it

-- what settles a region: its palette's entries, in order or from the end
passes_as : (signed : Bool) (f : Fields) (palettes : List ℕ) (r first : ℕ)
    → ((c : ℕ) → c < 3 → distinct (ramp_entry palettes first c) (suc (last_index f.mode)) ≡ distinct (palette signed f r c) (suc (last_index f.mode)))
    → region_passes f palettes r first (suc (last_index f.mode)) ≡ region_trusted signed f r
unfolding region_passes region_trusted differs channel_differs entries_differ
passes_as signed f palettes r first e =
    ap₂ (λ (n : ℕ) (t : Bool). both (reaches f r 0) (both (reaches f r n) t)) last
    (some_same (entries_differ palettes first (suc (last_index f.mode))) (channel_differs signed f r) 3 e)
  where
    last : suc (last_index f.mode) - 1 ≡ last_index f.mode
    last = omega arith

turn : (a b : Bool) → both a b ≡ both b (both a true)
turn true true = refl
turn true false = refl
turn false true = refl
turn false false = refl

alone : (a : Bool) → a ≡ both a true
alone true = refl
alone false = refl

module _ (signed : Bool) (block : List ℕ) (b : IsBlock block) (palettes : List ℕ) where
  abbrev f : Fields
  f = fields_of (format_number signed) block

  module _ (from : 11 ≤ f.mode) (shown : palettes ≡ pixels_of signed (ramped_one block)) where
    one : two_regions f.mode ≡ false
    one = lt-leb f.mode 10 from

    one_entry : (c : ℕ) → c < 3 → (i : ℕ) → i < 16 → ramp_entry palettes 0 c i ≡ palette signed f 0 c i
    one_entry c hc i hi =
        let z : 0 + i ≡ i = omega arith in
        ap (λ (l : List ℕ). get_or l (3 * (0 + i) + c) 0) shown
        ∙ ap (λ (k : ℕ). get_or (pixels_of signed (ramped_one block)) (3 * k + c) 0) z
        ∙ one_shown block b (omega (arith, fields_mode (format_number signed) block)) signed i c hi hc

    one_passes : all_pass f palettes ≡ below (region_trusted signed f) (regions f.mode)
    unfolding all_pass
    one_passes =
        rw one
        (sixteen ∙ alone (region_trusted signed f 0))
      where
        sixteen : region_passes f palettes 0 0 16 ≡ region_trusted signed f 0
        sixteen =
            rw one at (passes_as signed f palettes 0 0 (rw one (λ c hc. distinct_same (ramp_entry palettes 0 c) (palette signed f 0 c) 16 (one_entry c hc))))

  module _ (from : 1 ≤ f.mode) (to : f.mode ≤ 10) (shown : palettes ≡ pixels_of signed (ramped_two block)) where
    two : two_regions f.mode ≡ true
    two = le-leb f.mode 10 to

    two_entry : (c : ℕ) → c < 3 → (k : ℕ) → k < 16 → get_or palettes (3 * k + c) 0 ≡ palette signed f (region_at k) c (index_at k)
    two_entry c hc k hk =
        ap (λ (l : List ℕ). get_or l (3 * k + c) 0) shown
        ∙ two_shown block b (omega (arith, fields_mode (format_number signed) block)) (omega (arith, fields_mode (format_number signed) block)) signed k c hk hc

    lower : (c : ℕ) → c < 3 → (i : ℕ) → i < 8 → ramp_entry palettes 0 c i ≡ palette signed f 0 c i
    lower c hc i hi =
        let z : 0 + i ≡ i = omega arith in
        let r : region_at i ≡ 0 = omega arith in
        ap (λ (k : ℕ). get_or palettes (3 * k + c) 0) z ∙ two_entry c hc i (omega arith)
        ∙ ap₂ (λ (x y : ℕ). palette signed f x c y) r (ap (λ (t : Bool). pick t i (15 - i)) (lt-ltb i 8 hi))

    upper : (c : ℕ) → c < 3 → (i : ℕ) → i < 8 → ramp_entry palettes 8 c i ≡ palette signed f 1 c (8 - 1 - i)
    upper c hc i hi =
        let r : region_at (8 + i) ≡ 1 = omega arith in
        let s : 15 - (8 + i) ≡ 8 - 1 - i = omega arith in
        two_entry c hc (8 + i) (omega arith)
        ∙ ap₂ (λ (x y : ℕ). palette signed f x c y) r (ap (λ (t : Bool). pick t (8 + i) (15 - (8 + i))) (le-ltb (8 + i) 8 (omega arith)) ∙ s)

    two_passes : all_pass f palettes ≡ below (region_trusted signed f) (regions f.mode)
    unfolding all_pass
    two_passes = rw two (ap₂ both region_0 region_1 ∙ turn (region_trusted signed f 0) (region_trusted signed f 1))
      where
        region_0 : region_passes f palettes 0 0 8 ≡ region_trusted signed f 0
        region_0 = rw two at (passes_as signed f palettes 0 0 (rw two (λ c hc. distinct_same (ramp_entry palettes 0 c) (palette signed f 0 c) 8 (lower c hc))))

        region_1 : region_passes f palettes 1 8 8 ≡ region_trusted signed f 1
        region_1 =
            rw two at
            (passes_as signed f palettes 1 8 (rw two (λ c hc.
            distinct_same (ramp_entry palettes 8 c) (λ i. palette signed f 1 c (8 - 1 - i)) 8 (upper c hc) ∙ distinct_turned (palette signed f 1 c) 8)))

-- ---- the whole test

module _ (format : ℕ) (block : List ℕ) where
  refused : (Trusted format block → ⊥) → false ≡ trusted format block
  refused h = sym (is_false (trusted format block) (λ t. h (sound format block t)))

  -- S-84: false for any other format or length
  pub other_format : 1 < format → false ≡ trusted format block
  other_format h = refused (λ t. omega (arith, t.suited.known_format))

  pub other_length : (length block ≡ 16 → ⊥) → false ≡ trusted format block
  other_length h = refused (λ t. h t.suited.bytes.sixteen)

  module _ (f : Fields) (e : f ≡ fields_of format block) where
    mode-is : f.mode ≡ mode_of block
    mode-is = ap (λ (g : Fields). g.mode) e ∙ fields_mode format block

    pub reserved : f.mode ≡ 0 → false ≡ trusted format block
    reserved h = refused (λ t. omega (arith, mode-is, t.suited.mode_from))

    pub mode_above : 13 < f.mode → false ≡ trusted format block
    mode_above h = refused (λ t. omega (arith, mode-is, t.suited.mode_to))

    pub valid : format ≤ 1 → (f.mode ≡ 0 → ⊥) → Valid f
    valid k n = subst Valid (sym e) (fields_valid format block k (omega (arith, mode-is)))

    ambiguous_is : both (is_signed format) (has_least f) ≡ both (is_signed format) (has_least (fields_of format block))
    ambiguous_is = ap (λ (g : Fields). both (is_signed format) (has_least g)) e

    pub ambiguous : (r : Bool) → r ≡ both (is_signed format) (has_least f) → r ≡ true → false ≡ trusted format block
    ambiguous r q z = refused (λ t. T_not (both (is_signed format) (has_least (fields_of format block))) (not_least_complete (is_signed format) (fields_of format block) t.suited.spanning.not_least) (holds (sym (q ∙ ambiguous_is) ∙ z)))

    -- where no check refuses, the palettes decide
    module _ (palettes : List ℕ) (shown : palettes ≡ pixels_of (is_signed format) (ramped (leb f.mode 10) block)) (sixteen : length block ≡ 16)
        (byte : (k : ℕ) → get_or block k 0 < 256) (known : format ≤ 1) (from : f.mode ≡ 0 → ⊥) (to : f.mode ≤ 13) where
      is_block_lem : IsBlock block
      is_block_lem = record { sixteen = sixteen; byte = byte }

      covered : mode_covered (mode_of block) ≡ true
      covered = rw (le-leb 1 (mode_of block) (omega (arith, mode-is))) (le-leb (mode_of block) 13 (omega (arith, mode-is)))

      abbrev again : ℕ
      again = format_number (is_signed format)

      as_told : again ≡ format
      as_told = number_again format known

      passes_is : all_pass f palettes ≡ below (region_trusted (is_signed format) (fields_of format block)) (regions (fields_of format block).mode)
      unfolding ramped
      passes_is =
          subst (λ (n : ℕ). all_pass f palettes ≡ below (region_trusted (is_signed format) (fields_of n block)) (regions (fields_of n block).mode)) as_told
          (ap (λ (g : Fields). all_pass g palettes) f_again
          ∙ cases (leb (fields_of again block).mode 10)
          (λ t. two_passes (is_signed format) block is_block_lem palettes (omega (arith, mode-is, fields_mode again block)) (leb→le _ _ (holds t))
          (shown_at ∙ ap (λ (u : Bool). pixels_of (is_signed format) (pick u (ramped_two block) (ramped_one block))) t))
          (λ t. one_passes (is_signed format) block is_block_lem palettes (leb-false _ _ t)
          (shown_at ∙ ap (λ (u : Bool). pixels_of (is_signed format) (pick u (ramped_two block) (ramped_one block))) t)))
        where
          f_again : f ≡ fields_of again block
          f_again = e ∙ ap (λ (n : ℕ). fields_of n block) (sym as_told)

          shown_at : palettes ≡ pixels_of (is_signed format) (pick (leb (fields_of again block).mode 10) (ramped_two block) (ramped_one block))
          shown_at = shown ∙ ap (λ (g : Fields). pixels_of (is_signed format) (pick (leb g.mode 10) (ramped_two block) (ramped_one block))) f_again

      pub decided : (a r : Bool) → a ≡ both (is_signed format) (has_least f) → a ≡ false → r ≡ all_pass f palettes → r ≡ trusted format block
      unfolding trusted fields_trusted
      decided a r q z p =
          p ∙ passes_is
          ∙ rw (le-leb format 1 known, is_true (is_block block) (block_complete block is_block_lem), covered, sym (q ∙ ambiguous_is) ∙ z)

-- one verdict for a block
pub one_outcome : (format : ℕ) (block : List ℕ) {r s : Bool} → r ≡ trusted format block → s ≡ trusted format block → r ≡ s
one_outcome format block p q = p ∙ sym q
