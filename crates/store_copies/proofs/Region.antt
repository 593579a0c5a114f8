-- Two regions that show the same colours are the same, where the palette obeys five laws. Nothing here speaks of a format,
-- a precision, a number of weights or of regions. Assumes nothing.
use mathlib.Core.Path.{◌≡◌, refl, sym, ap, ◌∙◌}
use mathlib.Core.Logic.{◌⊎◌, inl, inr}
use Prim.Native.Nat.{ℕ, ◌-◌, ◌*◌, ◌≤◌, ◌<◌, min, max}
use native.Mathlib.Decide.{ℕ_discrete}
use native.Mathlib.Omega.{arith}

-- a palette with indices 0 to n between two ends in E: `colour a` is what the end a shows, and `rank` orders colours
pub record Palette (n : ℕ) (E : Type 0) (Ok : E → Type 0) (pal : E → E → ℕ → ℕ) (colour : E → ℕ) (rank : ℕ → ℕ) : Type 0 where
  pub at_first : (a b : E) → pal a b 0 ≡ colour a
  pub at_last : (a b : E) → pal a b n ≡ colour b
  pub above : (a b : E) (i : ℕ) → i ≤ n → min (rank (colour a)) (rank (colour b)) ≤ rank (pal a b i)
  pub below : (a b : E) (i : ℕ) → i ≤ n → rank (pal a b i) ≤ max (rank (colour a)) (rank (colour b))
  pub turned : (a b : E) (i : ℕ) → i ≤ n → pal a b i ≡ pal b a (n - i)
  pub apart : (a b : E) → Ok a → Ok b → rank (colour a) ≡ rank (colour b) → a ≡ b

-- two pairs that lie between one another are one pair, perhaps turned
pairs : (A B C D : ℕ) → min A B ≤ C → C ≤ max A B → min A B ≤ D → D ≤ max A B
    → min C D ≤ A → A ≤ max C D → min C D ≤ B → B ≤ max C D → Dec (A ≡ C) → ((A ≡ C) × (B ≡ D)) ⊎ ((A ≡ D) × (B ≡ C))
pairs A B C D h1 h2 h3 h4 h5 h6 h7 h8 (yes e) = inl (e, omega arith)
pairs A B C D h1 h2 h3 h4 h5 h6 h7 h8 (no e) = inr (omega arith, omega arith)

-- a region's ends for each channel of K, its pixels (those that are In), its index at each pixel
pub record Region (n : ℕ) (E : Type 0) (Ok : E → Type 0) (K : Type 0) (In : ℕ → Type 0) (fix : ℕ) : Type 0 where
  pub a : K → E
  pub b : K → E
  pub idx : ℕ → ℕ
  pub a_ok : (c : K) → Ok (a c)
  pub b_ok : (c : K) → Ok (b c)
  pub fits : (k : ℕ) → In k → idx k ≤ n
  pub fixed : 2 * idx fix < n
  pub low : (k : ℕ) × In k × (idx k ≡ 0)
  pub high : (k : ℕ) × In k × (idx k ≡ n)

pub record Same {n : ℕ} {E : Type 0} {Ok : E → Type 0} {K : Type 0} {In : ℕ → Type 0} {fix : ℕ} (R S : Region n E Ok K In fix) : Type 0 where
  pub a_same : (c : K) → R.a c ≡ S.a c
  pub b_same : (c : K) → R.b c ≡ S.b c
  pub idx_same : (k : ℕ) → In k → R.idx k ≡ S.idx k

module _ (n : ℕ) (E : Type 0) (Ok : E → Type 0) (pal : E → E → ℕ → ℕ) (colour : E → ℕ) (rank : ℕ → ℕ) (L : Palette n E Ok pal colour rank)
    (K : Type 0) (In : ℕ → Type 0) (fix : ℕ) (in-fix : In fix) where
  Shown : Region n E Ok K In fix → Region n E Ok K In fix → Type 0
  Shown R S = (k : ℕ) → In k → (c : K) → pal (R.a c) (R.b c) (R.idx k) ≡ pal (S.a c) (S.b c) (S.idx k)

  Different : Region n E Ok K In fix → K → Type 0
  Different R c = (i j : ℕ) → i ≤ n → j ≤ n → pal (R.a c) (R.b c) i ≡ pal (R.a c) (R.b c) j → i ≡ j

  -- what R shows at its first end, S shows somewhere
  first_in : (R S : Region n E Ok K In fix) → Shown R S → (c : K)
      → colour (R.a c) ≡ pal (S.a c) (S.b c) (S.idx R.low.0)
  unfolding Shown
  first_in R S sh c =
      sym (ap (λ (i : ℕ). pal (R.a c) (R.b c) i) R.low.2 ∙ L.at_first (R.a c) (R.b c)) ∙ sh R.low.0 R.low.1 c

  last_in : (R S : Region n E Ok K In fix) → Shown R S → (c : K)
      → colour (R.b c) ≡ pal (S.a c) (S.b c) (S.idx R.high.0)
  unfolding Shown
  last_in R S sh c =
      sym (ap (λ (i : ℕ). pal (R.a c) (R.b c) i) R.high.2 ∙ L.at_last (R.a c) (R.b c)) ∙ sh R.high.0 R.high.1 c

  back : (R S : Region n E Ok K In fix) → Shown R S → Shown S R
  unfolding Shown
  back R S sh k h c = sym (sh k h c)

  record Within (R S : Region n E Ok K In fix) (c : K) : Type 0 where
    a_above : min (rank (colour (S.a c))) (rank (colour (S.b c))) ≤ rank (colour (R.a c))
    a_below : rank (colour (R.a c)) ≤ max (rank (colour (S.a c))) (rank (colour (S.b c)))
    b_above : min (rank (colour (S.a c))) (rank (colour (S.b c))) ≤ rank (colour (R.b c))
    b_below : rank (colour (R.b c)) ≤ max (rank (colour (S.a c))) (rank (colour (S.b c)))

  within : (R S : Region n E Ok K In fix) → Shown R S → (c : K) → Within R S c
  within R S sh c =
      record {
        a_above = rw (first_in R S sh c) (L.above (S.a c) (S.b c) _ (S.fits R.low.0 R.low.1));
        a_below = rw (first_in R S sh c) (L.below (S.a c) (S.b c) _ (S.fits R.low.0 R.low.1));
        b_above = rw (last_in R S sh c) (L.above (S.a c) (S.b c) _ (S.fits R.high.0 R.high.1));
        b_below = rw (last_in R S sh c) (L.below (S.a c) (S.b c) _ (S.fits R.high.0 R.high.1));
      }

  -- in each channel the two have the same ends, perhaps turned
  ends : (R S : Region n E Ok K In fix) → Shown R S → (c : K)
      → ((R.a c ≡ S.a c) × (R.b c ≡ S.b c)) ⊎ ((R.a c ≡ S.b c) × (R.b c ≡ S.a c))
  ends R S sh c =
      settle
      (pairs (rank (colour (R.a c))) (rank (colour (R.b c))) (rank (colour (S.a c))) (rank (colour (S.b c)))
      v.a_above v.a_below v.b_above v.b_below w.a_above w.a_below w.b_above w.b_below
      (ℕ_discrete (rank (colour (R.a c))) (rank (colour (S.a c)))))
    where
      w : Within R S c
      w = within R S sh c

      v : Within S R c
      v = within S R (back R S sh) c

      settle : ((rank (colour (R.a c)) ≡ rank (colour (S.a c))) × (rank (colour (R.b c)) ≡ rank (colour (S.b c))))
          ⊎ ((rank (colour (R.a c)) ≡ rank (colour (S.b c))) × (rank (colour (R.b c)) ≡ rank (colour (S.a c))))
          → ((R.a c ≡ S.a c) × (R.b c ≡ S.b c)) ⊎ ((R.a c ≡ S.b c) × (R.b c ≡ S.a c))
      settle (inl e) = inl (L.apart _ _ (R.a_ok c) (S.a_ok c) e.0, L.apart _ _ (R.b_ok c) (S.b_ok c) e.1)
      settle (inr e) = inr (L.apart _ _ (R.a_ok c) (S.b_ok c) e.0, L.apart _ _ (R.b_ok c) (S.a_ok c) e.1)

  -- where R's palette differs throughout in one channel, all indices agree: turned ends would put the fix-up pixel in the upper half
  indices : (R S : Region n E Ok K In fix) → Shown R S → (c : K) → Different R c → (k : ℕ) → In k → R.idx k ≡ S.idx k
  unfolding Shown Different
  indices R S sh c d k h = go (ends R S sh c)
    where
      go : ((R.a c ≡ S.a c) × (R.b c ≡ S.b c)) ⊎ ((R.a c ≡ S.b c) × (R.b c ≡ S.a c)) → R.idx k ≡ S.idx k
      go (inl e) =
          d (R.idx k) (S.idx k) (R.fits k h) (S.fits k h)
          (sh k h c ∙ rw (e.0, e.1) refl)
      go (inr e) =
          let t : R.idx fix ≡ n - S.idx fix =
          d (R.idx fix) (n - S.idx fix) (R.fits fix in-fix) (omega arith)
          (sh fix in-fix c ∙ rw (e.0, e.1) (L.turned (S.a c) (S.b c) (S.idx fix) (S.fits fix in-fix))) in
          let r : 2 * R.idx fix < n = R.fixed in
          let s : 2 * S.idx fix < n = S.fixed in
          absurd (omega arith)

  -- with equal indices, the ends agree in every channel
  from_indices : (R S : Region n E Ok K In fix) → Shown R S → ((k : ℕ) → In k → R.idx k ≡ S.idx k) → Same R S
  from_indices R S sh e =
      record {
        a_same = λ c. L.apart _ _ (R.a_ok c) (S.a_ok c)
            (ap rank (first_in R S sh c ∙ ap (λ (i : ℕ). pal (S.a c) (S.b c) i) (sym (e R.low.0 R.low.1) ∙ R.low.2) ∙ L.at_first (S.a c) (S.b c)));
        b_same = λ c. L.apart _ _ (R.b_ok c) (S.b_ok c)
            (ap rank (last_in R S sh c ∙ ap (λ (i : ℕ). pal (S.a c) (S.b c) i) (sym (e R.high.0 R.high.1) ∙ R.high.2) ∙ L.at_last (S.a c) (S.b c)));
        idx_same = e;
      }

  pub same : (R S : Region n E Ok K In fix)
      → ((k : ℕ) → In k → (c : K) → pal (R.a c) (R.b c) (R.idx k) ≡ pal (S.a c) (S.b c) (S.idx k))
      → (c : K)
      → ((i j : ℕ) → i ≤ n → j ≤ n → pal (R.a c) (R.b c) i ≡ pal (R.a c) (R.b c) j → i ≡ j)
      ⊎ ((i j : ℕ) → i ≤ n → j ≤ n → pal (S.a c) (S.b c) i ≡ pal (S.a c) (S.b c) j → i ≡ j)
      → Same R S
  unfolding Shown Different
  same R S sh c (inl d) = from_indices R S sh (indices R S sh c d)
  same R S sh c (inr d) = from_indices R S sh (λ k h. sym (indices S R (back R S sh) c d k h))
