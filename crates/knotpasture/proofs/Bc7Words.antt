-- The words that the exports for BC7 answer, from what the calls ensure. Assumes nothing.
use mathlib.Core.Path.{◌≡◌, sym, ap, ◌∙◌}
use mathlib.Core.List.{List}
use Prim.Native.Nat.{ℕ}
use Rattle.bc7.specs.Call.{Bc7Pixels}
use Rattle.bc7.specs.Call.{Painted}
use Rattle.bc7_blocks.specs.Run.{Bc7BlocksPixels}
use Rattle.knotpasture.specs.Bc7.{bc7_word, Bc7Called, Bc7RunCalled}

pub called : {block out : List ℕ} {p : Bc7Pixels} {after : List ℕ} {r : ℕ} → Painted block out p after → r ≡ bc7_word p → Bc7Called block out r after
called d e = record { answers = e ∙ ap bc7_word d.answers; holds = d.holds }

pub one_outcome : {block out : List ℕ} {r s : ℕ} {a b : List ℕ} → Bc7Called block out r a → Bc7Called block out s b → (r ≡ s) × (a ≡ b)
one_outcome d e = (d.answers ∙ sym e.answers, d.holds ∙ sym e.holds)

pub one_run : {blocks out : List ℕ} {r s m n : ℕ} {a b : List ℕ} → Bc7RunCalled blocks out r a m → Bc7RunCalled blocks out s b n → (r ≡ s) × (m ≡ n) × (a ≡ b)
one_run d e =
    let same = d.answers ∙ sym e.answers in
    (ap (λ (x : Bc7BlocksPixels). x.answer) same, ap (λ (x : Bc7BlocksPixels). x.blocks) same, d.holds ∙ sym e.holds)
