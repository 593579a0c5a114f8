-- The listing's lines, as they are put behind each other. Assumes nothing.
use mathlib.Core.Path.{◌≡◌, refl}
use mathlib.Core.List.{List, [], ◌∷◌}
use Prim.Native.Nat.{ℕ, zero, suc}
use lib.ListN.{get_or}
use Rattle.bcn_spec.specs.Answers.{done}
use Rattle.bc6h_spec.specs.Fields.{mode_of}
use Rattle.store_records.specs.Store.{tile_at, block_of, record_refusal, Unrefused}
use Rattle.store_spec.specs.Shown.{picture_at}
use Rattle.store_spec.specs.Twins.{mark_at}
use Rattle.text.specs.Text.{field, Written}
use Rattle.text.proofs.Texts.{then, said}
use Rattle.text_list.specs.Lines.{hex_triple, shown_rest, refused_rest, rest_at, line_of}

-- ---- a line

module _ (store : List ℕ) (n : ℕ) where
  pub shown : {l m₁ m₂ m₃ : List ℕ} {at e₁ e₂ e₃ mode mark : ℕ} (picture : List ℕ) → mode ≡ mode_of (block_of store n) → mark ≡ mark_at store n
      → picture ≡ picture_at store n → Written l at (field mode) e₁ m₁ → Written m₁ e₁ (field mark) e₂ m₂
      → Written m₂ e₂ (hex_triple (get_or picture 45 0) (get_or picture 46 0) (get_or picture 47 0)) e₃ m₃ → Written l at (shown_rest store n) e₃ m₃
  unfolding shown_rest
  shown picture m k p x y z = said (then (then x y) z) (rw (m, k, p))

  pub unshown : {l m₁ m₂ m₃ : List ℕ} {at e₁ e₂ e₃ mark : ℕ} → mark ≡ mark_at store n → Written l at (45 ∷ 32 ∷ []) e₁ m₁
      → Written m₁ e₁ (field mark) e₂ m₂ → Written m₂ e₂ (45 ∷ 32 ∷ 45 ∷ 32 ∷ 45 ∷ 10 ∷ []) e₃ m₃ → Written l at (refused_rest store n) e₃ m₃
  unfolding refused_rest
  unshown k x y z = said (then (then x y) z) (rw k)

  rest_refused : (a : ℕ) → (a ≡ done → ⊥) → refused_rest store n ≡ rest_at a store n
  rest_refused zero r = absurd (r refl)
  rest_refused (suc a) r = refl

  module _ {l m₁ m₂ m₃ m₄ : List ℕ} {at e₁ e₂ e₃ e₄ tile answer : ℕ} (t : tile ≡ tile_at store n) (a : answer ≡ record_refusal store n)
      (x : Written l at (field n) e₁ m₁) (y : Written m₁ e₁ (field tile) e₂ m₂) (z : Written m₂ e₂ (field answer) e₃ m₃) where
    line : {rest : List ℕ} → rest ≡ rest_at (record_refusal store n) store n → Written m₃ e₃ rest e₄ m₄ → Written l at (line_of store n) e₄ m₄
    unfolding line_of
    line r w = said (then (then (then x y) z) w) (rw (t, a, r))

    pub refused_line : (Unrefused store n → ⊥) → Written m₃ e₃ (refused_rest store n) e₄ m₄ → Written l at (line_of store n) e₄ m₄
    refused_line r w = line (rest_refused (record_refusal store n) r) w

    pub shown_line : Unrefused store n → Written m₃ e₃ (shown_rest store n) e₄ m₄ → Written l at (line_of store n) e₄ m₄
    shown_line u w = line (rw u) w
