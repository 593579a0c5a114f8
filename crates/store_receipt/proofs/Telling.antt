-- The clean-up with a receipt: its checks, its loop, its returns, and that it admits one outcome. Assumes nothing.
use mathlib.Core.Path.{◌≡◌, refl, sym, ◌∙◌, ap, ap₂}
use mathlib.Core.Bool.{true, false}
use mathlib.Core.List.{List, ◌++◌}
use Prim.Native.Nat.{ℕ, zero, suc, ◌+◌, ◌-◌, ◌*◌, ◌/◌, ◌%◌, ◌≤◌, ◌<◌}
use native.Mathlib.Omega.{arith}
use lib.ListN.{length, take, drop, set, replicate, length-set, length-replicate}
use lib.Seq.{take_at, paste, length-paste}
use Rattle.laws.proofs.Pasting.{pasted}
use Rattle.bcn_spec.specs.Answers.{done}
use Rattle.store_records.specs.Store.{record_size, store_limit, records_in, most_records}
use Rattle.store_spec.specs.Twins.{list_refusal}
use Rattle.store_spec.proofs.Listing.{Whole, whole_when, fine}
use Rattle.store_clean.specs.declared.Cleaned.{Cleaned}
use Rattle.store_clean.specs.Clean.{first_of, goes, record_of, staying, going, gone_count, clean_refusal, refusal, answer_at, CleanedInto}
use Rattle.store_clean.proofs.Leaving.{staying_adds}
use Rattle.store_clean.proofs.Cleaning.{SoFar, so_far_none, so_far_gone, so_far_more, cleaned_done}
use Rattle.store_clean.proofs.Cleaning as cleaning
use Rattle.store_receipt.specs.Receipt.{entry_size, entry_of, receipt_upto, receipt_of, receipt_refusal, ReceiptInto, AsCleanStore, Firsts}
use Rattle.store_receipt.proofs.Walking.{firsts_none, firsts_more, first_goes, first_stays}
use Rattle.store_receipt.proofs.Entries.{entry_length, entry_whole, receipt_none, receipt_length, receipt_gone, receipt_stays}

-- ---- the checks

module _ (size room paper : ℕ) where
  pub met_first : (number : ℕ) → clean_refusal size room ≡ number → (number ≡ done → ⊥) → receipt_refusal size room paper ≡ number
  unfolding receipt_refusal
  met_first zero e z = absurd (z refl)
  met_first (suc k) e z = rw e

  pub met_next : clean_refusal size room ≡ done → receipt_refusal size room paper ≡ list_refusal size (paper / entry_size)
  unfolding receipt_refusal
  met_next e = rw e

  -- a store that is taken is whole, and both lent places have room
  pub record Roomy : Type 0 where
    pub unrefused : clean_refusal size room ≡ done
    pub fits : size ≤ store_limit
    pub even : size % record_size ≡ 0
    pub records_fit : size / record_size * record_size ≤ room
    pub entries_fit : size / record_size * entry_size ≤ paper

  pub roomy_by : receipt_refusal size room paper ≡ done → Roomy
  roomy_by z = go (clean_refusal size room) refl
    where
      go : (k : ℕ) → clean_refusal size room ≡ k → Roomy
      go zero q =
          let w : Whole size (room / record_size) = whole_when refl q in
          let v : Whole size (paper / entry_size) = whole_when refl (sym (met_next q) ∙ z) in
          record {
            unrefused = q;
            fits = w.fits;
            even = w.even;
            records_fit = omega (arith, w.room);
            entries_fit = omega (arith, v.room);
          }
      go (suc k) q = absurd (omega (arith, sym (met_first (suc k) q (λ e. omega arith)) ∙ z))

  -- and only then
  pub roomy_taken : size ≤ store_limit → size % record_size ≡ 0 → size / record_size * record_size ≤ room → size / record_size * entry_size ≤ paper
      → receipt_refusal size room paper ≡ done
  roomy_taken f e a b =
      met_next (fine size (room / record_size) f e (omega arith)) ∙ fine size (paper / entry_size) f e (omega arith)

pub roomy_when : {size room paper number : ℕ} → number ≡ receipt_refusal size room paper → number ≡ done → Roomy size room paper
roomy_when {size} {room} {paper} e z = roomy_by size room paper (sym e ∙ z)

-- ---- the loop

pub record Telling (store lent paper out written firsts : List ℕ) (n kept : ℕ) : Type 0 where
  pub cleaned : SoFar store lent out n kept
  pub told : written ≡ receipt_upto store n ++ drop ((n - kept) * entry_size) paper
  pub same_paper : length written ≡ length paper
  pub known : Firsts store n firsts
  pub size : length firsts ≡ most_records

pub telling_none : (store lent paper : List ℕ) → Telling store lent paper lent paper (replicate most_records 0) 0 0
telling_none store lent paper =
    record {
      cleaned = so_far_none store lent;
      told = receipt_none store paper;
      same_paper = refl;
      known = firsts_none store _;
      size = length-replicate {A = ℕ} most_records 0;
    }

module _ {store lent paper out written firsts : List ℕ} {n kept first : ℕ} (s : Telling store lent paper out written firsts n kept)
    (h : n < records_in store) (few : records_in store ≤ most_records) (e : first ≡ first_of store n) where
  known_more : Firsts store (n + 1) (set firsts n first)
  known_more = firsts_more s.known (omega (arith, s.size)) e

  size_more : length (set firsts n first) ≡ most_records
  size_more = simp length-set s.size

  gone_so_far : going (goes store) n ≡ n - kept
  gone_so_far = omega (arith, s.cleaned.counted, staying_adds (goes store) n)

  front : length (receipt_upto store n) ≡ (n - kept) * entry_size
  front = receipt_length store n ∙ ap (λ (k : ℕ). k * entry_size) gone_so_far

  pub telling_gone : {after : List ℕ} → records_in store * entry_size ≤ length paper → first < n
      → after ≡ paste written ((n - kept) * entry_size) (entry_of store n) entry_size
      → Telling store lent paper out after (set firsts n first) (n + 1) kept
  telling_gone {after} room l q =
      let t : goes store n ≡ true = first_goes store n first e l in
      let w = s.cleaned.few in
      let next : (n - kept) * entry_size + entry_size ≡ (n + 1 - kept) * entry_size = omega arith in
      record {
        cleaned = so_far_gone s.cleaned h t;
        told =
            q ∙ pasted (receipt_upto store n) (entry_of store n) paper written ((n - kept) * entry_size) entry_size front s.told
            ∙ ap₂ (λ (x : List ℕ) (k : ℕ). x ++ drop k paper)
            (ap (λ (x : List ℕ). receipt_upto store n ++ x) (entry_whole store n) ∙ sym (receipt_gone store n t)) next;
        same_paper =
            ap length q
            ∙ length-paste written ((n - kept) * entry_size) (entry_of store n) entry_size (omega (arith, s.same_paper)) (omega (arith, entry_length store n))
            ∙ s.same_paper;
        known = known_more;
        size = size_more;
      }

  pub telling_more : {after : List ℕ} → records_in store * record_size ≤ length lent → n ≤ first
      → after ≡ paste out (kept * record_size) (record_of store n) record_size
      → Telling store lent paper after written (set firsts n first) (n + 1) (kept + 1)
  telling_more {after} room l q =
      let f : goes store n ≡ false = first_stays store n first e l in
      let w = s.cleaned.few in
      let same : n - kept ≡ n + 1 - (kept + 1) = omega arith in
      record {
        cleaned = so_far_more s.cleaned h (omega arith) f q;
        told =
            s.told
            ∙ ap₂ (λ (x : List ℕ) (k : ℕ). x ++ drop (k * entry_size) paper) (sym (receipt_stays store n f)) same;
        same_paper = s.same_paper;
        known = known_more;
        size = size_more;
      }

-- ---- the statement, at each return

module _ (store lent paper : List ℕ) where
  pub receipt_refused : (number : ℕ) {r : Cleaned} → number ≡ receipt_refusal (length store) (length lent) (length paper) → (number ≡ done → ⊥)
      → r ≡ refusal number → ReceiptInto store lent paper r lent paper
  receipt_refused zero a z e = absurd (z refl)
  receipt_refused (suc k) a z e = let s = sym a in record { answers = rw s e; holds = rw s; tells = rw s }

  pub receipt_done : {after written firsts : List ℕ} {count n kept : ℕ} → count ≡ records_in store → receipt_refusal (length store) (length lent) (length paper) ≡ done
      → Telling store lent paper after written firsts n kept → records_in store ≤ n
      → ReceiptInto store lent paper (record { answer = done; kept = kept; removed = count - kept }) after written
  receipt_done {after} {written} {firsts} {count} {n} {kept} c z s l =
      let u = (roomy_by (length store) (length lent) (length paper) z).unrefused in
      let d = cleaned_done store lent c u s.cleaned l in
      let q : n ≡ records_in store = omega (arith, s.cleaned.inside) in
      let g : n - kept ≡ gone_count store =
      omega (arith, q, s.cleaned.counted ∙ ap (staying (goes store)) q, staying_adds (goes store) (records_in store)) in
      record {
        answers = rw z (rw u at d.answers);
        holds = rw z (rw u at d.holds);
        tells = rw z (s.told ∙ ap₂ (λ (m k : ℕ). receipt_upto store m ++ drop (k * entry_size) paper) q g);
      }

-- ---- what it says

answer_is : (k : ℕ) (store : List ℕ) → (answer_at k store).answer ≡ k
answer_is zero store = refl
answer_is (suc k) store = refl

module _ {store lent paper after written : List ℕ} {r : Cleaned} (d : ReceiptInto store lent paper r after written) where
  pub one_outcome : {s : Cleaned} {other told : List ℕ} → ReceiptInto store lent paper s other told → (r ≡ s) × (after ≡ other) × (written ≡ told)
  one_outcome e = (d.answers ∙ sym e.answers, d.holds ∙ sym e.holds, d.tells ∙ sym e.tells)

  pub answer_number : r.answer ≡ receipt_refusal (length store) (length lent) (length paper)
  answer_number =
      ap (λ (x : Cleaned). x.answer) d.answers ∙ answer_is (receipt_refusal (length store) (length lent) (length paper)) store

  -- a refusal is its number alone: both counts are zero, and no byte of either place is changed
  module _ (n : r.answer ≡ done → ⊥) where
    pub silent : (after ≡ lent) × (written ≡ paper)
    silent = go (receipt_refusal (length store) (length lent) (length paper)) refl
      where
        go : (k : ℕ) → receipt_refusal (length store) (length lent) (length paper) ≡ k → (after ≡ lent) × (written ≡ paper)
        go zero q = absurd (n (answer_number ∙ q))
        go (suc k) q = (rw q at d.holds, rw q at d.tells)

  module _ (z : r.answer ≡ done) where
    unrefused : receipt_refusal (length store) (length lent) (length paper) ≡ done
    unrefused = sym answer_number ∙ z

    pub roomy : Roomy (length store) (length lent) (length paper)
    roomy = roomy_by (length store) (length lent) (length paper) unrefused

    -- the cleaned store is what `clean_store` writes, of the same answer
    pub as_cleaned : CleanedInto store lent r after
    as_cleaned =
        let u = roomy.unrefused in
        record { answers = rw u (rw unrefused at d.answers); holds = rw u (rw unrefused at d.holds) }

    pub removed_count : r.removed ≡ gone_count store
    removed_count = cleaning.removed_count as_cleaned z

    pub paper_is : written ≡ receipt_of store ++ drop (gone_count store * entry_size) paper
    paper_is = rw unrefused at d.tells

    pub receipt_is : take (r.removed * entry_size) written ≡ receipt_of store
    receipt_is =
        ap (take (r.removed * entry_size)) paper_is
        ∙ take_at (receipt_of store) (drop (gone_count store * entry_size) paper) (r.removed * entry_size)
        (receipt_length store (records_in store) ∙ ap (λ (k : ℕ). k * entry_size) (sym removed_count))

pub as_clean_store : AsCleanStore
as_clean_store store lent paper after written r d z = as_cleaned d z
