-- A loop that paints pixels k and 8 + k in a turn, a channel of both after the other: values m and 24 + m. Assumes nothing.
use mathlib.Core.Path.{◌≡◌, ◌∙◌, refl, sym, ap, subst}
use mathlib.Core.Bool.{Bool, true, false}
use mathlib.Core.List.{List, [], ◌∷◌, ◌++◌, append-nil, append_assoc}
use Prim.Native.Nat.{ℕ, zero, suc, ◌+◌, ◌-◌, ◌*◌, ◌/◌, ◌%◌, ◌^◌, ◌≤◌, ◌<◌}
use native.Mathlib.Nat.{add-zero, add-suc, mul-add}
use native.Mathlib.Numerals.{add-one}
use native.Mathlib.Omega.{arith}
use lib.Dec.{eqb, lit<, lit≤}
use lib.ListN.{length, get_or, set, take, drop, length-set, length-drop, take-append-drop, drop_of_length-le}
use lib.Seq.{length-take-le, take-set-le, take-set-lt, drop-set-lt, drop-set-add, drop-drop}
use lib.Pow.{shr-shr, field, mod-mod-pow}
use Rattle.laws.specs.Pick.{pick}
use Rattle.laws.specs.Bit.{bit}
use Rattle.laws.specs.Made.{made, count_of}
use Rattle.laws.proofs.Rows.{made_none, made_store}
use Rattle.laws.proofs.Counts.{count_append, count_last}
use Rattle.bc6h_spec.specs.Half.{minus_infinity}
use Rattle.bc6_endpoints.specs.Ends.{held_at, channel_of, end_in}
use Rattle.bc6_paint.specs.Values.{packed_at, region_mask, TurnOf, shade_of, selected, shade_in, painted_value, counted, PaintedAs}
use Rattle.bc6_paint.specs.declared.Turn.{Turn}
use Rattle.bc6_endpoints.specs.declared.Ends.{Ends}
use Rattle.bc6_paint.proofs.Chosen.{selected_is}
use Rattle.bc6_paint.proofs.Points.{held_lt}

-- ---- the two fronts

-- the values of f from value 24 on
abbrev pub later : (ℕ → ℕ) → ℕ → ℕ
later f j = f (24 + j)

-- values 0 to m - 1 and 24 to 24 + m - 1 are painted, and the rest of out is l
pub record Fronts (f : ℕ → ℕ) (m : ℕ) (l out : List ℕ) : Type 0 where
  pub low : take 24 out ≡ made f m ++ drop m (take 24 l)
  pub high : drop 24 out ≡ made (later f) m ++ drop m (drop 24 l)
  pub long : length out ≡ length l
  pub room : 48 ≤ length l
  pub upto : m ≤ 24

made_add : (f : ℕ → ℕ) (m n : ℕ) → made f (m + n) ≡ made f m ++ made (λ j. f (m + j)) n
unfolding made
made_add f m zero = ap (made f) (add-zero m) ∙ sym (append-nil (made f m))
made_add f m (suc n) =
    ap (made f) (add-suc m n) ∙ ap (λ (l : List ℕ). l ++ (f (m + n) ∷ [])) (made_add f m n)
    ∙ append_assoc (made f m) (made (λ j. f (m + j)) n) (f (m + n) ∷ [])

pub none_painted : (f : ℕ → ℕ) (l : List ℕ) → 48 ≤ length l → Fronts f 0 l l
none_painted f l h = record { low = made_none f (take 24 l); high = made_none (later f) (drop 24 l); long = refl; room = h; upto = lit≤ tt }

module _ {f : ℕ → ℕ} {m : ℕ} {l out : List ℕ} (e : Fronts f m l out) where
  -- a pair is stored
  pub pair_painted : {after : List ℕ} {x y : ℕ} (n : ℕ) → n ≡ m + 1 → m < 24 → after ≡ set (set out m x) (m + 24) y → x ≡ f m → y ≡ f (24 + m) → Fronts f n l after
  pair_painted {after} {x} {y} n en h ea ex ey =
      let front : length (take 24 l) ≡ 24 = length-take-le 24 l (omega (arith, e.room)) in
      let rest : length (drop 24 l) ≡ length l - 24 = length-drop 24 l in
      let place : m + 24 ≡ 24 + m = omega arith in
      let low-seen : take 24 after ≡ set (take 24 out) m x =
      ap (take 24) ea ∙ take-set-le 24 (set out m x) (m + 24) y (omega arith) ∙ take-set-lt 24 out m x h in
      let high-seen : drop 24 after ≡ set (drop 24 out) m y =
      ap (drop 24) ea ∙ ap (λ (k : ℕ). drop 24 (set (set out m x) k y)) place ∙ drop-set-add 24 (set out m x) m y
      ∙ ap (λ (t : List ℕ). set t m y) (drop-set-lt 24 out m x h) in
      subst (λ (k : ℕ). Fronts f k l after) (sym en)
      (record {
        low = made_store f (take 24 l) (take 24 out) (take 24 after) m x e.low low-seen ex (omega arith);
        high = made_store (later f) (drop 24 l) (drop 24 out) (drop 24 after) m y e.high high-seen ey (omega (arith, rest, e.room));
        long = ap length ea ∙ simp length-set e.long;
        room = e.room;
        upto = omega arith;
      })

  -- every value is painted
  pub all_painted : 24 ≤ m → out ≡ made f 48 ++ drop 48 l
  all_painted g =
      let end : m ≡ 24 = omega (arith, e.upto) in
      let front : length (take 24 l) ≡ 24 = length-take-le 24 l (omega (arith, e.room)) in
      let short : length (take 24 l) ≤ 24 = omega arith in
      let low : take 24 out ≡ made f 24 =
      subst (λ (k : ℕ). take 24 out ≡ made f k ++ drop k (take 24 l)) end e.low
      ∙ ap (λ (t : List ℕ). made f 24 ++ t) (drop_of_length-le (take 24 l) short) ∙ append-nil (made f 24) in
      let high : drop 24 out ≡ made (later f) 24 ++ drop 48 l =
      subst (λ (k : ℕ). drop 24 out ≡ made (later f) k ++ drop k (drop 24 l)) end e.high
      ∙ ap (λ (t : List ℕ). made (later f) 24 ++ t) (drop-drop 24 24 l) in
      sym (take-append-drop 24 out) ∙ (λ i. low i ++ high i) ∙ sym (append_assoc (made f 24) (made (later f) 24) (drop 48 l))
      ∙ ap (λ (t : List ℕ). t ++ drop 48 l) (sym (made_add f 24 24))

-- ---- how many values are minus infinity

-- of the values that are painted
pub record Counts (f : ℕ → ℕ) (m infinite : ℕ) : Type 0 where
  pub is : infinite ≡ count_of minus_infinity (made f m) + count_of minus_infinity (made (later f) m)
  pub few : infinite ≤ 2 * m

pub none_counted : (f : ℕ → ℕ) → Counts f 0 0
unfolding made count_of
none_counted f = record { is = refl; few = lit≤ tt }

one_more : (f : ℕ → ℕ) (m : ℕ) → count_of minus_infinity (made f (m + 1)) ≡ count_of minus_infinity (made f m) + counted (f m)
unfolding made
one_more f m = rw (add-one m) (count_last minus_infinity (made f m) (f m))

pub pair_counted : {f : ℕ → ℕ} {m infinite x y t : ℕ} → Counts f m infinite → (n : ℕ) → n ≡ m + 1 → t ≡ counted x + counted y → x ≡ f m → y ≡ f (24 + m) → Counts f n (infinite + t)
pair_counted {f} {m} {infinite} {x} {y} {t} e n en et ex ey =
    subst (λ (k : ℕ). Counts f k (infinite + t)) (sym en)
    (record {
      is = omega (arith, e.is, et ∙ (λ i. counted (ex i) + counted (ey i)), one_more f m, one_more (later f) m);
      few = omega (arith, e.few, et, at_most (eqb x minus_infinity), at_most (eqb y minus_infinity));
    })
  where
    at_most : (b : Bool) → pick b 1 0 ≤ 1
    at_most true = lit≤ tt
    at_most false = lit≤ tt

-- every value is painted and counted
pub all_counted : {f : ℕ → ℕ} {m infinite : ℕ} {l out : List ℕ} → Fronts f m l out → Counts f m infinite → 24 ≤ m → PaintedAs (made f 48) l infinite out
all_counted {f} {m} {infinite} e n g =
    let end : m ≡ 24 = omega (arith, e.upto) in
    record {
      holds = all_painted e g;
      counts = subst (λ (k : ℕ). infinite ≡ count_of minus_infinity (made f k) + count_of minus_infinity (made (later f) k)) end n.is
          ∙ sym (count_append minus_infinity (made f 24) (made (later f) 24)) ∙ ap (count_of minus_infinity) (sym (made_add f 24 24));
    }

-- ---- a turn: three pairs

-- x and y have the values of pixels k and 8 + k, channel by channel
pub record Shades (f : ℕ → ℕ) (k : ℕ) (x y : ℕ → ℕ) : Type 0 where
  pub low : (c : ℕ) → c < 3 → x c ≡ f (3 * k + c)
  pub high : (c : ℕ) → c < 3 → y c ≡ f (24 + (3 * k + c))

module _ {f : ℕ → ℕ} {k : ℕ} {x y : ℕ → ℕ} (v : Shades f k x y) where
  none : 3 * k + 0 ≡ 3 * k
  none = omega arith

  x₀ : x 0 ≡ f (3 * k)
  x₀ = v.low 0 (lit< tt) ∙ ap f none

  y₀ : y 0 ≡ f (24 + 3 * k)
  y₀ = v.high 0 (lit< tt) ∙ ap (later f) none

  pub turn_painted : {l out o₁ o₂ o₃ : List ℕ} → Fronts f (3 * k) l out → k < 8 → o₁ ≡ set (set out (3 * k) (x 0)) (3 * k + 24) (y 0)
      → o₂ ≡ set (set o₁ (3 * k + 1) (x 1)) (3 * k + 1 + 24) (y 1) → o₃ ≡ set (set o₂ (3 * k + 2) (x 2)) (3 * k + 2 + 24) (y 2) → Fronts f (3 * (k + 1)) l o₃
  turn_painted e h e₁ e₂ e₃ =
      let one = pair_painted e (3 * k + 1) refl (omega arith) e₁ x₀ y₀ in
      let two = pair_painted one (3 * k + 2) (omega arith) (omega arith) e₂ (v.low 1 (lit< tt)) (v.high 1 (lit< tt)) in
      pair_painted two (3 * (k + 1)) (omega arith) (omega arith) e₃ (v.low 2 (lit< tt)) (v.high 2 (lit< tt))

  pub turn_counted : {n t₀ t₁ t₂ : ℕ} → Counts f (3 * k) n → t₀ ≡ counted (x 0) + counted (y 0) → t₁ ≡ counted (x 1) + counted (y 1) → t₂ ≡ counted (x 2) + counted (y 2)
      → Counts f (3 * (k + 1)) (n + t₀ + t₁ + t₂)
  turn_counted e e₀ e₁ e₂ =
      let one = pair_counted e (3 * k + 1) refl e₀ x₀ y₀ in
      let two = pair_counted one (3 * k + 2) (omega arith) e₁ (v.low 1 (lit< tt)) (v.high 1 (lit< tt)) in
      pair_counted two (3 * (k + 1)) (omega arith) e₂ (v.low 2 (lit< tt)) (v.high 2 (lit< tt))

-- ---- a pixel's weight and region

-- eight numbers of so many bits are a word's low half, and eight its high half
digit_low : (b n k : ℕ) → k < 8 → packed_at b (n % 2 ^ (b * 8)) k ≡ packed_at b n k
digit_low b n k h =
    let j = b * (7 - k) in
    let whole : 7 - k + 1 + k ≡ 8 = omega arith in
    let e : j + b + b * k ≡ b * 8 = omega (arith, mul-add b (7 - k) 1, mul-add b (7 - k + 1) k, ap (λ (m : ℕ). b * m) whole) in
    ap (λ (m : ℕ). n % 2 ^ m / 2 ^ (b * k) % 2 ^ b) (sym e)
    ∙ ap (λ (m : ℕ). m % 2 ^ b) (field n (j + b) (b * k))
    ∙ mod-mod-pow (n / 2 ^ (b * k)) j b

digit_high : (b n k : ℕ) → packed_at b (n / 2 ^ (b * 8)) k ≡ packed_at b n (8 + k)
digit_high b n k =
    ap (λ (m : ℕ). m % 2 ^ b) (shr-shr n (b * 8) (b * k)) ∙ ap (λ (m : ℕ). n / 2 ^ m % 2 ^ b) (sym (mul-add b 8 k))

-- a weight by an index of the low half, and of the high half
module _ (ws : List ℕ) (b word half k i w : ℕ) (ei : i ≡ packed_at b half k) (ew : w ≡ get_or ws i 0) where
  weighed : (n : ℕ) → packed_at b half k ≡ n → w ≡ get_or ws n 0
  weighed n e = ew ∙ ap (λ (m : ℕ). get_or ws m 0) (ei ∙ e)

  pub weight_low : half ≡ word % 2 ^ (b * 8) → k < 8 → w ≡ get_or ws (packed_at b word k) 0
  weight_low e l = weighed _ (ap (λ (n : ℕ). packed_at b n k) e ∙ digit_low b word k l)

  pub weight_high : half ≡ word / 2 ^ (b * 8) % 2 ^ (b * 8) → k < 8 → w ≡ get_or ws (packed_at b word (8 + k)) 0
  weight_high e l = weighed _ (ap (λ (n : ℕ). packed_at b n k) e ∙ digit_low b (word / 2 ^ (b * 8)) k l ∙ digit_high b word k)

-- the map's high half, for the pixels from 8 on
pub mask_above : (map k : ℕ) → region_mask (eqb (bit (map / 2 ^ 8) k) 1) ≡ region_mask (eqb (bit map (8 + k)) 1)
mask_above map k = ap (λ (n : ℕ). region_mask (eqb (n % 2) 1)) (shr-shr map 8 k)

-- ---- the values of a turn

-- the values of a pixel's channels, by its mask and its weight
abbrev pub value_at : Bool → Ends → ℕ → ℕ → ℕ → ℕ
value_at s ends mask w c = shade_in s (channel_of ends c) mask w

module _ (s : Bool) (ends : Ends) (second : ℕ → Bool) (weight : ℕ → ℕ) where
  -- channel c of pixel k
  value_is : (j k c mask w : ℕ) → j ≡ 3 * k + c → c < 3 → mask ≡ region_mask (second k) → w ≡ weight k → value_at s ends mask w c ≡ painted_value s (end_in ends) second weight j
  unfolding shade_in painted_value
  value_is j k c mask w e h em ew =
      let pixel : k ≡ j / 3 = omega arith in
      let channel : c ≡ j % 3 = omega arith in
      let l = channel_of ends c in
      let end : (e g : ℕ) → selected (region_mask (second k)) (held_at l e) (held_at l g) ≡ pick (second k) (held_at l g) (held_at l e) =
      λ e g. selected_is (second k) (held_at l e) (held_at l g) (held_lt l e) (held_lt l g) in
      (λ i. value_at s ends (em i) (ew i) c)
      ∙ (λ i. shade_of s (end 0 2 i) (end 1 3 i) (weight k))
      ∙ (λ i.
      let t = second (pixel i) in
      shade_of s (pick t (end_in ends 2 (channel i)) (end_in ends 0 (channel i))) (pick t (end_in ends 3 (channel i)) (end_in ends 1 (channel i))) (weight (pixel i)))

  pub shades_of : {k : ℕ} {t : Turn} → TurnOf second weight k t
      → Shades (painted_value s (end_in ends) second weight) k (value_at s ends t.second t.w) (value_at s ends t.second8 t.w8)
  shades_of {k} {t} e =
      record {
        low = λ c h. value_is (3 * k + c) k c t.second t.w refl h e.region e.weighs;
        high = λ c h. value_is (24 + (3 * k + c)) (8 + k) c t.second8 t.w8 (omega arith) h e.region8 e.weighs8;
      }
