-- The clean-up's statement: its loop, its returns, what it says, and that it admits one outcome. Assumes nothing.
use mathlib.Core.Path.{◌≡◌, refl, sym, ◌∙◌, ap, ap₂}
use mathlib.Core.Bool.{true, false}
use mathlib.Core.List.{List, ◌++◌}
use Prim.Native.Nat.{ℕ, zero, suc, ◌+◌, ◌-◌, ◌*◌, ◌/◌, ◌≤◌, ◌<◌}
use native.Mathlib.Omega.{arith}
use lib.ListN.{length, take, drop}
use lib.Seq.{take_all, take_at, drop_at, paste, length-paste}
use Rattle.laws.proofs.Pasting.{pasted}
use Rattle.bcn_spec.specs.Answers.{done}
use Rattle.store_records.specs.Store.{record_size, records_in}
use Rattle.store_spec.proofs.Listing as listing
use Rattle.store_clean.specs.declared.Cleaned.{Cleaned}
use Rattle.store_clean.specs.Clean.{goes, record_of, left, staying, cleaned_of, stay_count, gone_count, clean_refusal, refusal, answer_at, CleanedInto}
use Rattle.store_clean.proofs.Leaving.{record_length, staying_none, staying_gone, staying_more, staying_adds, left_none, left_length, left_gone, left_more}

-- ---- the loop: what stands in the lent bytes once n records were looked at

pub record SoFar (store lent out : List ℕ) (n kept : ℕ) : Type 0 where
  pub inside : n ≤ records_in store
  pub counted : kept ≡ staying (goes store) n
  pub few : kept ≤ n
  pub written : out ≡ left (goes store) store n ++ drop (kept * record_size) lent
  pub same_length : length out ≡ length lent

pub so_far_none : (store lent : List ℕ) → SoFar store lent lent 0 0
so_far_none store lent =
    record {
      inside = omega arith;
      counted = staying_none (goes store);
      few = omega arith;
      written = left_none (goes store) store lent;
      same_length = refl;
    }

module _ {store lent out : List ℕ} {n kept : ℕ} (s : SoFar store lent out n kept) (h : n < records_in store) where
  pub so_far_gone : goes store n ≡ true → SoFar store lent out (n + 1) kept
  so_far_gone t =
      record {
        inside = omega arith;
        counted = staying_gone (goes store) n kept s.counted t;
        few = omega arith;
        written = rw (left_gone (goes store) store n t) s.written;
        same_length = s.same_length;
      }

  module _ (room : kept * record_size + record_size ≤ length lent) where
    front : length (left (goes store) store n) ≡ kept * record_size
    front = left_length (goes store) store n s.inside ∙ ap (λ (k : ℕ). k * record_size) (sym s.counted)

    one_more : paste out (kept * record_size) (record_of store n) record_size
        ≡ (left (goes store) store n ++ record_of store n) ++ drop ((kept + 1) * record_size) lent
    one_more =
        let next : kept * record_size + record_size ≡ (kept + 1) * record_size = omega arith in
        pasted (left (goes store) store n) (record_of store n) lent out (kept * record_size) record_size front s.written
        ∙ ap₂ (λ (x : List ℕ) (k : ℕ). (left (goes store) store n ++ x) ++ drop k lent)
        (take_all record_size (record_of store n) (omega (arith, record_length store n h))) next

    pub so_far_more : {after : List ℕ} → goes store n ≡ false → after ≡ paste out (kept * record_size) (record_of store n) record_size
        → SoFar store lent after (n + 1) (kept + 1)
    so_far_more {after} f e =
        record {
          inside = omega arith;
          counted = staying_more (goes store) n kept s.counted f;
          few = omega arith;
          written = e ∙ one_more ∙ ap (λ (l : List ℕ). l ++ drop ((kept + 1) * record_size) lent) (sym (left_more (goes store) store n f));
          same_length =
              ap length e
              ∙ length-paste out (kept * record_size) (record_of store n) record_size (omega (arith, s.same_length)) (omega (arith, record_length store n h))
              ∙ s.same_length;
        }

-- ---- the statement, at each return

module _ (store lent : List ℕ) where
  pub cleaned_refused : (number : ℕ) {r : Cleaned} → number ≡ clean_refusal (length store) (length lent) → (number ≡ done → ⊥) → r ≡ refusal number
      → CleanedInto store lent r lent
  cleaned_refused zero a z e = absurd (z refl)
  cleaned_refused (suc k) a z e = let s = sym a in record { answers = rw s e; holds = rw s }

  pub cleaned_done : {after : List ℕ} {count n kept : ℕ} → count ≡ records_in store → clean_refusal (length store) (length lent) ≡ done → SoFar store lent after n kept
      → records_in store ≤ n → CleanedInto store lent (record { answer = done; kept = kept; removed = count - kept }) after
  cleaned_done {after} {count} {n} {kept} c a s l =
      let q : n ≡ records_in store = omega (arith, s.inside) in
      let k : kept ≡ stay_count store = s.counted ∙ ap (staying (goes store)) q in
      let g : count - kept ≡ gone_count store = omega (arith, c, staying_adds (goes store) (records_in store)) in
      record {
        answers = ap₂ (λ (x y : ℕ). record { answer = done; kept = x; removed = y }) k g ∙ rw a;
        holds = rw a (s.written ∙ ap₂ (λ (m x : ℕ). left (goes store) store m ++ drop (x * record_size) lent) q k);
      }

-- ---- what it says

pub answer_is : (k : ℕ) (store : List ℕ) → (answer_at k store).answer ≡ k
answer_is zero store = refl
answer_is (suc k) store = refl

module _ {store lent after : List ℕ} {r : Cleaned} (d : CleanedInto store lent r after) where
  pub one_outcome : {s : Cleaned} {other : List ℕ} → CleanedInto store lent s other → (r ≡ s) × (after ≡ other)
  one_outcome e = (d.answers ∙ sym e.answers, d.holds ∙ sym e.holds)

  pub answer_number : r.answer ≡ clean_refusal (length store) (length lent)
  answer_number = ap (λ (x : Cleaned). x.answer) d.answers ∙ answer_is (clean_refusal (length store) (length lent)) store

  -- a refusal is its number alone: both counts are zero and no byte is changed
  module _ (n : r.answer ≡ done → ⊥) where
    refused : clean_refusal (length store) (length lent) ≡ suc (r.answer - 1)
    refused = omega (arith, answer_number)

    pub refused_alone : r ≡ refusal r.answer
    refused_alone = rw refused at d.answers ∙ ap refusal (sym (answer_number ∙ refused))

    pub silent : after ≡ lent
    silent = rw refused at d.holds

  module _ (z : r.answer ≡ done) where
    unrefused : clean_refusal (length store) (length lent) ≡ done
    unrefused = sym answer_number ∙ z

    pub whole : listing.Whole (length store) (length lent / record_size)
    whole = listing.whole_when refl unrefused

    counts : r ≡ answer_at done store
    counts = rw unrefused at d.answers

    pub kept_count : r.kept ≡ stay_count store
    kept_count = ap (λ (x : Cleaned). x.kept) counts

    pub removed_count : r.removed ≡ gone_count store
    removed_count = ap (λ (x : Cleaned). x.removed) counts

    pub after_is : after ≡ cleaned_of store ++ drop (stay_count store * record_size) lent
    after_is = rw unrefused at d.holds

    pub cleaned_length : length (cleaned_of store) ≡ r.kept * record_size
    cleaned_length = left_length (goes store) store (records_in store) (omega arith) ∙ ap (λ (k : ℕ). k * record_size) (sym kept_count)

    -- the first bytes, a record each, are those of the records that stay; what follows is as it was
    pub front_is : take (r.kept * record_size) after ≡ cleaned_of store
    front_is =
        ap (take (r.kept * record_size)) after_is
        ∙ take_at (cleaned_of store) (drop (stay_count store * record_size) lent) (r.kept * record_size) cleaned_length

    pub rest_stays : drop (r.kept * record_size) after ≡ drop (r.kept * record_size) lent
    rest_stays =
        ap (drop (r.kept * record_size)) after_is
        ∙ drop_at (cleaned_of store) (drop (stay_count store * record_size) lent) (r.kept * record_size) cleaned_length
        ∙ ap (λ (k : ℕ). drop (k * record_size) lent) (sym kept_count)

    pub counts_add_up : r.kept + r.removed ≡ records_in store
    counts_add_up = rw counts (staying_adds (goes store) (records_in store))
