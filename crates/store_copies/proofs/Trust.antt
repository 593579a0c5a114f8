-- The test `trusted` says what the words say, no less and no more; two trusted blocks of one format, mode and partition with one
-- picture are one block. Assumes nothing.
use mathlib.Core.Path.{◌≡◌, refl, sym, ap, subst}
use mathlib.Core.Logic.{inl, ⊎_elim}
use mathlib.Core.Bool.{Bool, true, false, not}
use mathlib.Core.List.{List}
use Prim.Native.Nat.{ℕ, zero, suc, ◌-◌, ◌*◌, ◌^◌, ◌≤◌, ◌<◌}
use native.Mathlib.Decide.{dec_lt}
use native.Mathlib.Omega.{arith}
use lib.Dec.{T, eqb, ltb, leb, eqb→eq, ltb→lt, leb→le, lt→ltb, le→leb, lit<, T_not, not_T}
use lib.IntN.{ℤ, pos, negsuc, neg_ℤ}
use lib.ListN.{length, get_or, get_or-eq_default}
use lib.Pow.{pow_pos}
use borrow.Author.Tests.{eq-eqb, lt-leb}
use Rattle.laws.specs.Pick.{both}
use Rattle.laws.specs.Every.{every}
use Rattle.laws.proofs.Tests.{both_left, both_right, below_at}
use Rattle.laws.proofs.Below.{below_all}
use Rattle.laws.proofs.Search.{holds, both_hold, every_at, every-all, Found, some_found, some_at, distinct_apart, apart_distinct}
use Rattle.bc6h_spec.specs.declared.Fields.{Fields}
use Rattle.bcn_spec.specs.Bits.{block_size, IsBlock}
use Rattle.bc6h_spec.specs.Layout.{two_regions, precision}
use Rattle.bc6h_spec.specs.Regions.{region_of}
use Rattle.bc6h_spec.specs.Fields.{mode_of, fields_of, index_of}
use Rattle.bc6h_spec.specs.Picture.{is_signed, endpoint, palette}
use Rattle.bc6h_spec.specs.Block.{pixels_of}
use Rattle.bc6h_spec.proofs.Reading.{fields_mode}
use Rattle.store_copies.specs.Words.{PixelAt, ChannelDiffers, Eligible}
use Rattle.store_copies.specs.Wide.{regions, last_index, Reaches, Differs, NoLeast, Spanning, Suited, Matched}
use Rattle.store_copies.specs.Trust.{Trusted, is_block, mode_covered, indexed_at, reaches, channel_differs, differs, is_least, least_end, has_least, region_trusted, fields_trusted, trusted}
use Rattle.store_copies.proofs.Wide.{copies}

-- ---- clause by clause

pub block_sound : (block : List ℕ) → T (is_block block) → IsBlock block
block_sound block t = record { sixteen = sixteen; byte = λ k. byte k (dec_lt k (length block)) }
  where
    sixteen : length block ≡ block_size
    sixteen = eqb→eq _ _ (both_left (eqb (length block) block_size) _ t)

    byte : (k : ℕ) → Dec (k < length block) → get_or block k 0 < 256
    byte k (yes h) = ltb→lt _ _ (every_at (λ byte. ltb byte 256) block k 0 (both_right (eqb (length block) block_size) _ t) h)
    byte k (no h) = rw (get_or-eq_default block 0 {n = k} (omega arith)) (lit< tt)

pub block_complete : (block : List ℕ) → IsBlock block → T (is_block block)
block_complete block b =
    both_hold (eqb (length block) block_size) (every (λ byte. ltb byte 256) block)
    (holds (eq-eqb _ _ b.sixteen)) (every-all (λ byte. ltb byte 256) block 0 (λ k. lt→ltb _ _ (b.byte k)))

pub reaches_sound : (f : Fields) (r n : ℕ) → T (reaches f r n) → Reaches f r n
unfolding reaches
reaches_sound f r n t =
    let k : Found (indexed_at f r n) 16 = some_found (indexed_at f r n) 16 t in
    let region = eqb (region_of f.mode f.partition k.place) r in
    record {
      pixel = k.place;
      is_pixel = k.inside;
      in_region = eqb→eq _ _ (both_left region _ k.there);
      at_index = eqb→eq _ _ (both_right region _ k.there);
    }

pub reaches_complete : (f : Fields) (r n : ℕ) → Reaches f r n → T (reaches f r n)
unfolding reaches
reaches_complete f r n p =
    some_at (indexed_at f r n) 16 p.pixel p.is_pixel
    (both_hold (eqb (region_of f.mode f.partition p.pixel) r) (eqb (index_of f p.pixel) n)
    (holds (eq-eqb _ _ p.in_region)) (holds (eq-eqb _ _ p.at_index)))

pub differs_sound : (signed : Bool) (f : Fields) (r : ℕ) → T (differs signed f r) → Differs signed f r
unfolding differs channel_differs
differs_sound signed f r t =
    let c : Found (channel_differs signed f r) 3 = some_found (channel_differs signed f r) 3 t in
    record {
      channel = c.place;
      is_channel = c.inside;
      all_differ = λ i j hi hj. distinct_apart (palette signed f r c.place) (suc (last_index f.mode)) c.there i j (omega arith) (omega arith);
    }

pub differs_complete : (signed : Bool) (f : Fields) (r : ℕ) → Differs signed f r → T (differs signed f r)
unfolding differs channel_differs
differs_complete signed f r d =
    some_at (channel_differs signed f r) 3 d.channel d.is_channel
    (apart_distinct (palette signed f r d.channel) (suc (last_index f.mode)) (λ i j hi hj. d.all_differ i j (omega arith) (omega arith)))

pub least_sound : (p : ℕ) (z : ℤ) → T (is_least p z) → z ≡ neg_ℤ (pos (2 ^ (p - 1)))
least_sound p (pos n) t = absurd t
least_sound p (negsuc n) t = ap (λ (k : ℕ). neg_ℤ (pos k)) (eqb→eq (suc n) (2 ^ (p - 1)) t)

pub least_complete : (p : ℕ) (z : ℤ) → z ≡ neg_ℤ (pos (2 ^ (p - 1))) → T (is_least p z)
least_complete p z e = subst (λ (y : ℤ). T (is_least p y)) (sym e) (at (2 ^ (p - 1)) (pow_pos (p - 1)) refl)
  where
    at : (k : ℕ) → 0 < k → k ≡ 2 ^ (p - 1) → T (is_least p (neg_ℤ (pos k)))
    at zero h q = absurd (omega arith)
    at (suc n) h q = holds (eq-eqb (suc n) (2 ^ (p - 1)) q)

-- an endpoint below 2 * regions at −2^(p−1), in a signed block
module _ (f : Fields) where
  has_least_lem : (e c : ℕ) → e < 2 * regions f.mode → c < 3 → endpoint true f e c ≡ neg_ℤ (pos (2 ^ (precision f.mode - 1))) → T (has_least f)
  unfolding has_least least_end
  has_least_lem e c he hc q =
      some_at (least_end f) (2 * regions f.mode) e he
      (some_at (λ k. is_least (precision f.mode) (endpoint true f e k)) 3 c hc (least_complete (precision f.mode) (endpoint true f e c) q))

  has_no_least : NoLeast true f → T (has_least f) → ⊥
  unfolding has_least least_end
  has_no_least q t =
      let e : Found (least_end f) (2 * regions f.mode) = some_found (least_end f) (2 * regions f.mode) t in
      let c : Found (λ k. is_least (precision f.mode) (endpoint true f e.place k)) 3 =
      some_found (λ k. is_least (precision f.mode) (endpoint true f e.place k)) 3 e.there in
      q refl e.place c.place e.inside c.inside (least_sound (precision f.mode) (endpoint true f e.place c.place) c.there)

pub not_least_sound : (signed : Bool) (f : Fields) → T (not (both signed (has_least f))) → NoLeast signed f
not_least_sound true f t s = λ e c he hc q. T_not (has_least f) t (has_least_lem f e c he hc q)
not_least_sound false f t s = absurd (subst T (sym s) tt)

pub not_least_complete : (signed : Bool) (f : Fields) → NoLeast signed f → T (not (both signed (has_least f)))
not_least_complete true f h = not_T (has_least f) (has_no_least f h)
not_least_complete false f h = tt

-- ---- the fields

module _ (signed : Bool) (f : Fields) where
  pub record Clauses : Type 0 where
    pub spans : Spanning signed f
    pub all_differ : (r : ℕ) → r < regions f.mode → Differs signed f r

  pub fields_sound : T (fields_trusted signed f) → Clauses
  unfolding fields_trusted region_trusted
  fields_sound t =
      record {
        spans =
            record {
              lowest = λ r h. reaches_sound f r 0 (both_left (reaches f r 0) _ (region r h));
              highest = λ r h. reaches_sound f r (last_index f.mode) (both_left (reaches f r (last_index f.mode)) _ (upper r h));
              not_least = not_least_sound signed f (both_left (not (both signed (has_least f))) _ t);
            };
        all_differ = λ r h. differs_sound signed f r (both_right (reaches f r (last_index f.mode)) _ (upper r h));
      }
    where
      region : (r : ℕ) → r < regions f.mode → T (both (reaches f r 0) (both (reaches f r (last_index f.mode)) (differs signed f r)))
      region r h = below_at (region_trusted signed f) (regions f.mode) r (both_right (not (both signed (has_least f))) _ t) h

      upper : (r : ℕ) → r < regions f.mode → T (both (reaches f r (last_index f.mode)) (differs signed f r))
      upper r h = both_right (reaches f r 0) _ (region r h)

  pub fields_complete : Clauses → T (fields_trusted signed f)
  unfolding fields_trusted region_trusted
  fields_complete c =
      both_hold (not (both signed (has_least f))) _ (not_least_complete signed f c.spans.not_least)
      (below_all (region_trusted signed f) (regions f.mode) (λ r h.
      both_hold (reaches f r 0) _ (reaches_complete f r 0 (c.spans.lowest r h))
      (both_hold (reaches f r (last_index f.mode)) _ (reaches_complete f r (last_index f.mode) (c.spans.highest r h))
      (differs_complete signed f r (c.all_differ r h)))))

-- ---- the whole test

in_fields : (format : ℕ) (block : List ℕ) (r : ℕ) → r < regions (mode_of block) → r < regions (fields_of format block).mode
in_fields format block r = subst (λ (m : ℕ). r < regions m) (sym (fields_mode format block))

in_block : (format : ℕ) (block : List ℕ) (r : ℕ) → r < regions (fields_of format block).mode → r < regions (mode_of block)
in_block format block r = subst (λ (m : ℕ). r < regions m) (fields_mode format block)

pub sound : (format : ℕ) (block : List ℕ) → T (trusted format block) → Trusted format block
unfolding trusted
sound format block t =
    let t1 = both_right (leb format 1) _ t in
    let t2 = both_right (is_block block) _ t1 in
    let covered = both_left (mode_covered (mode_of block)) _ t2 in
    let fields = fields_sound (is_signed format) (fields_of format block) (both_right (mode_covered (mode_of block)) _ t2) in
    record {
      suited =
          record {
            known_format = leb→le _ _ (both_left (leb format 1) _ t);
            bytes = block_sound block (both_left (is_block block) _ t1);
            mode_from = leb→le _ _ (both_left (leb 1 (mode_of block)) _ covered);
            mode_to = leb→le _ _ (both_right (leb 1 (mode_of block)) _ covered);
            spanning = fields.spans;
          };
      differs = λ r h. fields.all_differ r (in_fields format block r h);
    }

pub complete : (format : ℕ) (block : List ℕ) → Trusted format block → T (trusted format block)
unfolding trusted
complete format block r =
    both_hold (leb format 1) _ (le→leb _ _ r.suited.known_format)
    (both_hold (is_block block) _ (block_complete block r.suited.bytes)
    (both_hold (mode_covered (mode_of block)) _
    (both_hold (leb 1 (mode_of block)) (leb (mode_of block) 13) (le→leb _ _ r.suited.mode_from) (le→leb _ _ r.suited.mode_to))
    (fields_complete (is_signed format) (fields_of format block)
    (record { spans = r.suited.spanning; all_differ = λ n h. r.differs n (in_block format block n h) }))))

-- ---- what trust is for

-- both blocks trusted, of one format, one mode and one partition: every premise holds
pub trusted_copies : (format : ℕ) (x y : List ℕ) → T (trusted format x) → T (trusted format y) → mode_of x ≡ mode_of y
    → (fields_of format x).partition ≡ (fields_of format y).partition → pixels_of (is_signed format) x ≡ pixels_of (is_signed format) y → x ≡ y
trusted_copies format x y tx ty m q =
    copies format format x y (sound format x tx).suited (sound format y ty).suited
    (record { one_mode = m; one_partition = q; differ = λ r h. inl ((sound format x tx).differs r h); one_format = refl })

-- and no pair is lost by asking trust of both: a pair that meets the premises and shows one picture is trusted, each block by itself
pub none_lost : (format : ℕ) (x y : List ℕ) → Suited format x → Suited format y → Matched format x format y
    → pixels_of (is_signed format) x ≡ pixels_of (is_signed format) y → T (trusted format x) × T (trusted format y)
none_lost format x y sx sy k e = (t, subst (λ (b : List ℕ). T (trusted format b)) one t)
  where
    one : x ≡ y
    one = copies format format x y sx sy k e

    at : (r : ℕ) → r < regions (mode_of x) → Differs (is_signed format) (fields_of format x) r
    at r h = ⊎_elim (λ a. a) (λ b. subst (λ (l : List ℕ). Differs (is_signed format) (fields_of format l) r) (sym one) b) (k.differ r h)

    t : T (trusted format x)
    t = complete format x (record { suited = sx; differs = at })

-- ---- demand 3 alone: an unsigned block of one region that is trusted meets its premises

module _ (block : List ℕ) (t : Trusted 0 block) (from : 11 ≤ mode_of block) where
  one_region : two_regions (fields_of 0 block).mode ≡ false
  one_region = lt-leb (fields_of 0 block).mode 10 (omega (arith, fields_mode 0 block, from))

  region_0 : 0 < regions (fields_of 0 block).mode
  region_0 = rw one_region (lit< tt)

  pixel_at : (n : ℕ) → Reaches (fields_of 0 block) 0 n → PixelAt block n
  pixel_at n r = record { pixel = r.pixel; is_pixel = r.is_pixel; at_index = r.at_index }

  pub one_region_eligible : Eligible block
  one_region_eligible =
      record {
        bytes = t.suited.bytes;
        mode_from = from;
        mode_to = t.suited.mode_to;
        lowest = pixel_at 0 (t.suited.spanning.lowest 0 region_0);
        highest = pixel_at 15 (rw one_region at (t.suited.spanning.highest 0 region_0));
      }

  pub one_region_differs : ChannelDiffers false block
  one_region_differs =
      let d = t.differs 0 (in_block 0 block 0 region_0) in
      record {
        channel = d.channel;
        is_channel = d.is_channel;
        all_differ = λ i j hi hj. d.all_differ i j (rw one_region (omega arith)) (rw one_region (omega arith));
      }
