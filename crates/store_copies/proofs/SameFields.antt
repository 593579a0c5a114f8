-- Two valid records of one format, one mode from 1 to 13 and one partition, that show the same picture, are the same, where each region
-- reaches both ends of its palette and one of the two has a channel in which the region's palette values differ. Assumes nothing.
use mathlib.Core.Path.{◌≡◌, refl, sym, ap, ◌∙◌, subst}
use mathlib.Core.Logic.{◌⊎◌, inl, inr}
use mathlib.Core.Bool.{Bool, true, false}
use mathlib.Core.List.{List, [], ◌∷◌}
use Prim.Native.Nat.{ℕ, zero, suc, ◌+◌, ◌-◌, ◌*◌, ◌/◌, ◌%◌, ◌^◌, ◌≤◌, ◌<◌}
use native.Mathlib.Decide.{ℕ_discrete, dec_lt}
use native.Mathlib.Omega.{arith}
use lib.Dec.{eqb, eqb-suc-zero}
use lib.IntN.{ℤ}
use lib.ListN.{get_or}
use lib.Seq.{ext_get_or}
use borrow.Author.Tests.{eq-eqb, ne_eqb}
use Rattle.laws.specs.Pick.{pick}
use Rattle.laws.proofs.Tests.{picks, cases}
use Rattle.laws.proofs.Search.{is_true, either_other}
use Rattle.bc6h_spec.specs.declared.Fields.{Fields}
use Rattle.bc6h_spec.specs.Layout.{two_regions, precision, own_width, transformed}
use Rattle.bcn_spec.specs.Regions.{fixup_of}
use Rattle.bc6h_spec.specs.Regions.{region_of}
use Rattle.bcn_spec.specs.Indices.{has}
use Rattle.bc6h_spec.specs.Fields.{stored, index_of, fixups, Valid}
use Rattle.bc6h_spec.specs.Picture.{first_end, other_end, endpoint, weights, palette, picture_as}
use Rattle.bc6h_spec.proofs.Pixel.{pixel_shows}
use Rattle.bc6h_spec.proofs.Weights.{weights_even}
use Rattle.bc6h_spec.proofs.Widths.{Mode, known, first_fits, other_fits}
use Rattle.store_copies.specs.Wide.{regions, last_index, Differs, Spanning}
use Rattle.store_copies.proofs.Region.{Region, Same, same}
use Rattle.store_copies.proofs.Palettes.{Format, palette_laws, unsigned, signed}
use Rattle.store_copies.proofs.Endpoints.{Ok, first_ok, first_inj, later_ok, later_inj}
use Rattle.store_copies.proofs.Fixups.{fix_of, Fix, fix_known, region_known}

-- ---- what a mode and a format bring

format : (s : Bool) (m : ℕ) → Mode m → m ≤ 13 → Format s (precision m) (Ok s (precision m))
format true m k h = signed (precision m) k.some (k.few h)
format false m k h = unsigned (precision m) (k.few h)

few_regions : (m : ℕ) → regions m ≤ 2
few_regions m = picks (two_regions m) 2 1 (λ n. n ≤ 2) (λ e. omega arith) (λ e. omega arith)

one_region : (m j : ℕ) → 2 * regions m ≤ j → j < 4 → two_regions m ≡ false
one_region m j l h = cases (two_regions m) (λ e. absurd (omega (arith, rw e at l))) (λ e. e)

-- ---- the endpoints

end_zero : (s : Bool) (f : Fields) (c : ℕ) → endpoint s f 0 c ≡ first_end s (precision f.mode) (stored f 0 c)
unfolding endpoint
end_zero s f c = refl

end_later : (s : Bool) (f : Fields) (e c : ℕ) → 1 ≤ e
    → endpoint s f e c ≡ other_end s (transformed f.mode) (precision f.mode) (own_width f.mode c) (first_end s (precision f.mode) (stored f 0 c)) (stored f e c)
unfolding endpoint
end_later s f e c h = rw (ne_eqb e 0 (omega arith))

end_ok : (s : Bool) (f : Fields) → Valid f → Spanning s f → (e c : ℕ) → e < 2 * regions f.mode → c < 3 → Ok s (precision f.mode) (endpoint s f e c)
end_ok s f v u e c he hc = go (ℕ_discrete e 0)
  where
    go : Dec (e ≡ 0) → Ok s (precision f.mode) (endpoint s f e c)
    go (yes z) =
        rw (z, end_zero s f c)
        (first_ok s (precision f.mode) (stored f 0 c) (known f v).some (first_fits f v c hc)
        (λ b. rw (z, end_zero s f c) at (u.not_least b e c he hc)))
    go (no z) =
        let l : 1 ≤ e = omega arith in
        rw (end_later s f e c l)
        (later_ok s (transformed f.mode) (precision f.mode) (own_width f.mode c) (stored f 0 c) (stored f e c) ((known f v).width_some c hc) ((known f v).width_few c hc)
        (other_fits f v e c l (omega (arith, few_regions f.mode)) hc)
        (λ b. rw (end_later s f e c l) at (u.not_least b e c he hc)))

-- ---- the indices of a valid record, by the last index

index_le : (f : Fields) → Valid f → (k : ℕ) → k < 16 → index_of f k ≤ last_index f.mode
index_le f v k h =
    let l = v.index_fits k h in
    cases (two_regions f.mode) (λ e. rw e (omega (arith, rw e at l))) (λ e. rw e (omega (arith, rw e at l)))

low_half : (b : Bool) (x : ℕ) → x < 2 ^ (pick b 3 4 - 1) → 2 * x < pick b 7 15
low_half true x h = omega arith
low_half false x h = omega arith

-- the fix-up pixel of each region is among the fix-up pixels
fix_among : (m part r : ℕ) → r < regions m → has (fixups m part) (fix_of part r) ≡ true
unfolding fix_of
fix_among m part r h = go (two_regions m) r h
  where
    go : (b : Bool) (r : ℕ) → r < pick b 2 1 → has (pick b (0 ∷ fixup_of part ∷ []) (0 ∷ [])) (pick (eqb r 0) 0 (fixup_of part)) ≡ true
    go true zero h = refl
    go true (suc r) h = rw (eqb-suc-zero r, eq-eqb (fixup_of part) (fixup_of part) refl) (is_true _ (either_other (eqb (fixup_of part) 0) true tt))
    go false zero h = refl
    go false (suc r) h = absurd (omega arith)

index_fixed : (f : Fields) → Valid f → (r : ℕ) → r < regions f.mode → 2 * index_of f (fix_of f.partition r) < last_index f.mode
index_fixed f v r h =
    low_half (two_regions f.mode) _
    (v.fixup_fits (fix_of f.partition r) (fix_known f.mode f.partition r v.partition_fits h).fix_fits (fix_among f.mode f.partition r h))

-- ---- the fields as regions

abbrev Channel : Type 0
Channel = (c : ℕ) × (c < 3)

abbrev Pixel : ℕ → ℕ → ℕ → ℕ → Type 0
Pixel m part r k = (k < 16) × (region_of m part k ≡ r)

abbrev Part : Bool → ℕ → ℕ → ℕ → Type 0
Part s m part r = Region (last_index m) ℤ (Ok s (precision m)) Channel (Pixel m part r) (fix_of part r)

region : (s : Bool) (f : Fields) → Valid f → Spanning s f → (r : ℕ) → r < regions f.mode → Part s f.mode f.partition r
region s f v u r h =
    record {
      a = λ c. endpoint s f (2 * r) c.0;
      b = λ c. endpoint s f (2 * r + 1) c.0;
      idx = index_of f;
      a_ok = λ c. end_ok s f v u (2 * r) c.0 (omega arith) c.1;
      b_ok = λ c. end_ok s f v u (2 * r + 1) c.0 (omega arith) c.1;
      fits = λ k i. index_le f v k i.0;
      fixed = index_fixed f v r h;
      low = ((u.lowest r h).pixel, ((u.lowest r h).is_pixel, (u.lowest r h).in_region), (u.lowest r h).at_index);
      high = ((u.highest r h).pixel, ((u.highest r h).is_pixel, (u.highest r h).in_region), (u.highest r h).at_index);
    }

-- ---- two field records of one mode and one partition

-- f with other ends, count and indices
abbrev with : Fields → List ℕ → ℕ → List ℕ → Fields
with f ends ones indices = record { format = f.format; mode = f.mode; endpoints = ends; partition = f.partition; region1 = ones; indices = indices }

module _ (s : Bool) (f : Fields) (ends : List ℕ) (ones : ℕ) (indices : List ℕ) (vf : Valid f) (vg : Valid (with f ends ones indices)) (few : f.mode ≤ 13)
    (uf : Spanning s f) (ug : Spanning s (with f ends ones indices))
    (d : (r : ℕ) → r < regions f.mode → Differs s f r ⊎ Differs s (with f ends ones indices) r)
    (e : picture_as s f ≡ picture_as s (with f ends ones indices)) where
  abbrev g : Fields
  g = with f ends ones indices

  agree : (r : ℕ) (h : r < regions f.mode) → Same (region s f vf uf r h) (region s g vg ug r h)
  unfolding region palette
  agree r h = go (d r h)
    where
      shown : (k : ℕ) → Pixel f.mode f.partition r k → (c : Channel)
          → palette s f r c.0 (index_of f k) ≡ palette s g r c.0 (index_of g k)
      shown k i c =
          subst (λ (q : ℕ). palette s f q c.0 (index_of f k) ≡ palette s g q c.0 (index_of g k)) i.1
          (sym (pixel_shows s f k c.0 i.0 c.1) ∙ ap (λ (l : List ℕ). get_or l (3 * k + c.0) 0) e ∙ pixel_shows s g k c.0 i.0 c.1)

      fix : Fix f.mode f.partition r
      fix = fix_known f.mode f.partition r vf.partition_fits h

      cited : (c : Channel)
          → ((i j : ℕ) → i ≤ last_index f.mode → j ≤ last_index f.mode → palette s f r c.0 i ≡ palette s f r c.0 j → i ≡ j)
          ⊎ ((i j : ℕ) → i ≤ last_index f.mode → j ≤ last_index f.mode → palette s g r c.0 i ≡ palette s g r c.0 j → i ≡ j)
          → Same (region s f vf uf r h) (region s g vg ug r h)
      cited c x =
          same (last_index f.mode) ℤ (Ok s (precision f.mode)) _ _ _
          (palette_laws (last_index f.mode) (weights f.mode) (weights_even f.mode) s (precision f.mode) (Ok s (precision f.mode)) (format s f.mode (known f vf) few))
          Channel (Pixel f.mode f.partition r) (fix_of f.partition r) (fix.fix_fits, fix.fix_in)
          (region s f vf uf r h) (region s g vg ug r h) shown c x

      go : Differs s f r ⊎ Differs s g r → Same (region s f vf uf r h) (region s g vg ug r h)
      go (inl x) = cited (x.channel, x.is_channel) (inl x.all_differ)
      go (inr x) = cited (x.channel, x.is_channel) (inr x.all_differ)

  -- every endpoint, after the transform
  end_same : (j c : ℕ) → j < 2 * regions f.mode → c < 3 → endpoint s f j c ≡ endpoint s g j c
  unfolding region
  end_same j c h k = go (ℕ_discrete (j % 2) 0)
    where
      go : Dec (j % 2 ≡ 0) → endpoint s f j c ≡ endpoint s g j c
      go (yes z) = let q : 2 * (j / 2) ≡ j = omega arith in rw q at ((agree (j / 2) (omega arith)).a_same (c, k))
      go (no z) = let q : 2 * (j / 2) + 1 ≡ j = omega arith in rw q at ((agree (j / 2) (omega arith)).b_same (c, k))

  some_region : 1 ≤ regions f.mode
  some_region = picks (two_regions f.mode) 2 1 (λ n. 1 ≤ n) (λ e. omega arith) (λ e. omega arith)

  -- every endpoint, as stored
  first_same : (c : ℕ) → c < 3 → stored f 0 c ≡ stored g 0 c
  first_same c k =
      first_inj s (precision f.mode) (stored f 0 c) (stored g 0 c) (first_fits f vf c k) (first_fits g vg c k)
      (sym (end_zero s f c) ∙ end_same 0 c (omega (arith, some_region)) k ∙ end_zero s g c)

  later_same : (j c : ℕ) → 1 ≤ j → j < 2 * regions f.mode → c < 3 → stored f j c ≡ stored g j c
  later_same j c l h k =
      later_inj s (transformed f.mode) (precision f.mode) (own_width f.mode c) (stored f 0 c) (stored f j c) (stored g j c)
      ((known f vf).width_some c k) ((known f vf).width_few c k) (other_fits f vf j c l (omega (arith, few_regions f.mode)) k) (other_fits g vg j c l (omega (arith, few_regions f.mode)) k)
      (sym (end_later s f j c l) ∙ end_same j c h k ∙ end_later s g j c l
      ∙ ap (λ (n : ℕ). other_end s (transformed f.mode) (precision f.mode) (own_width f.mode c) (first_end s (precision f.mode) n) (stored g j c)) (sym (first_same c k)))

  stored_same : (j c : ℕ) → j < 4 → c < 3 → stored f j c ≡ stored g j c
  stored_same j c h k = go (dec_lt j 1) (dec_lt j (2 * regions f.mode))
    where
      go : Dec (j < 1) → Dec (j < 2 * regions f.mode) → stored f j c ≡ stored g j c
      go (yes a) b = let q : 0 ≡ j = omega arith in subst (λ (i : ℕ). stored f i c ≡ stored g i c) q (first_same c k)
      go (no a) (yes b) = later_same j c (omega arith) b k
      go (no a) (no b) =
          let o : two_regions f.mode ≡ false = one_region f.mode j (omega arith) h in
          vf.endpoint_zero o j c (omega (arith, some_region)) h k ∙ sym (vg.endpoint_zero o j c (omega (arith, some_region)) h k)

  ends_same : f.endpoints ≡ ends
  ends_same = ext_get_or 0 f.endpoints ends (vf.four_endpoints ∙ sym vg.four_endpoints) (λ j h. at j (omega (arith, vf.four_endpoints)))
    where
      at : (j : ℕ) → j < 12 → get_or f.endpoints j 0 ≡ get_or ends j 0
      at j h = let q : 3 * (j / 3) + j % 3 ≡ j = omega arith in rw q at (stored_same (j / 3) (j % 3) (omega arith) (omega arith))

  indices_same : f.indices ≡ indices
  unfolding region
  indices_same =
      ext_get_or 0 f.indices indices (vf.sixteen_indices ∙ sym vg.sixteen_indices)
      (λ k h. (agree (region_of f.mode f.partition k) (region_known f.mode f.partition k)).idx_same k (omega (arith, vf.sixteen_indices), refl))

  all_same : f ≡ with f ends ones indices
  all_same = λ i.
      record { format = f.format; mode = f.mode; endpoints = ends_same i; partition = f.partition; region1 = (vf.counted ∙ sym vg.counted) i; indices = indices_same i }

-- ---- the theorem

pub same_fields : (s : Bool) (f g : Fields) → Valid f → Valid g → f.mode ≤ 13 → f.format ≡ g.format → f.mode ≡ g.mode → f.partition ≡ g.partition → Spanning s f → Spanning s g
    → ((r : ℕ) → r < regions f.mode → Differs s f r ⊎ Differs s g r) → picture_as s f ≡ picture_as s g → f ≡ g
same_fields s f g vf vg few k m q uf ug =
    subst (λ (y : ℕ). Goal g.format g.mode y) q (subst (λ (x : ℕ). Goal g.format x f.partition) m (subst (λ (z : ℕ). Goal z f.mode f.partition) k at_f)) vg ug
  where
    other : ℕ → ℕ → ℕ → Fields
    other z x y = record { format = z; mode = x; endpoints = g.endpoints; partition = y; region1 = g.region1; indices = g.indices }

    Goal : ℕ → ℕ → ℕ → Type 0
    Goal z x y = Valid (other z x y) → Spanning s (other z x y) → ((r : ℕ) → r < regions f.mode → Differs s f r ⊎ Differs s (other z x y) r) → picture_as s f ≡ picture_as s (other z x y) → f ≡ other z x y

    at_f : Goal f.format f.mode f.partition
    at_f v u d e = all_same s f g.endpoints g.region1 g.indices vf v few uf u d e
