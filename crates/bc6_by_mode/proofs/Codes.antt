-- The arms of the match on a block's five lowest bits: each names a mode, and what is left of them mode 14. Assumes nothing.
use mathlib.Core.Path.{◌≡◌, ◌∙◌, refl, sym, ap, subst}
use mathlib.Core.Bool.{Bool}
use mathlib.Core.Logic.{◌⊎◌, inl, inr}
use Prim.Native.Nat.{ℕ, zero, suc, ◌+◌, ◌*◌, ◌/◌, ◌%◌, ◌^◌, ◌≤◌, ◌<◌}
use native.Mathlib.Nat.{mod-lt}
use native.Mathlib.Omega.{arith}
use lib.Dec.{lit<}
use Rattle.bc6h_spec.specs.Layout.{width}
use Rattle.bc6h_spec.specs.Fields.{mode_in, code_of}
use Rattle.bc6h_spec.proofs.Modes.{low_mode, mode_range, mode_code}
use Rattle.bc6_endpoints.specs.declared.Ends.{Ends}
use Rattle.bc6_by_mode.specs.Words.{EndsOf, BlockEnds}

-- the codes that end in the two bits r
abbrev pub Eight : ℕ → ℕ → Type 0
Eight x r = (x ≡ r) ⊎ (x ≡ 4 + r) ⊎ (x ≡ 8 + r) ⊎ (x ≡ 12 + r) ⊎ (x ≡ 16 + r) ⊎ (x ≡ 20 + r) ⊎ (x ≡ 24 + r) ⊎ (x ≡ 28 + r)

-- no arm's code
abbrev pub Rest : ℕ → Type 0
Rest x = ((((((((((((Unit × (Eight x 0 → ⊥)) × (Eight x 1 → ⊥)) × (x ≡ 2 → ⊥)) × (x ≡ 6 → ⊥)) × (x ≡ 10 → ⊥)) × (x ≡ 14 → ⊥)) × (x ≡ 18 → ⊥)) × (x ≡ 22 → ⊥)) × (x ≡ 26 → ⊥)) × (x ≡ 30 → ⊥)) × (x ≡ 3 → ⊥)) × (x ≡ 7 → ⊥)) × (x ≡ 11 → ⊥)

all_eight : (x r : ℕ) → x < 32 → x % 4 ≡ r → Eight x r
all_eight x r h e = go (x / 4) (let q : x ≡ 4 * (x / 4) + r = omega arith in q) (omega arith)
  where
    go : (q : ℕ) → x ≡ 4 * q + r → q < 8 → Eight x r
    go zero f k = inl (omega arith)
    go (suc zero) f k = inr (inl (omega arith))
    go (suc (suc zero)) f k = inr (inr (inl (omega arith)))
    go (suc (suc (suc zero))) f k = inr (inr (inr (inl (omega arith))))
    go (suc (suc (suc (suc zero)))) f k = inr (inr (inr (inr (inl (omega arith)))))
    go (suc (suc (suc (suc (suc zero))))) f k = inr (inr (inr (inr (inr (inl (omega arith))))))
    go (suc (suc (suc (suc (suc (suc zero)))))) f k = inr (inr (inr (inr (inr (inr (inl (omega arith)))))))
    go (suc (suc (suc (suc (suc (suc (suc zero))))))) f k = inr (inr (inr (inr (inr (inr (inr (omega arith)))))))
    go (suc (suc (suc (suc (suc (suc (suc (suc q)))))))) f k = absurd (omega arith)

module _ (lo hi : ℕ) where
  abbrev n : ℕ
  n = lo + 2 ^ 64 * hi

  low : n % 32 ≡ lo % 32
  low = omega arith

  by_code : (code : ℕ) → lo % 32 ≡ code → mode_in n ≡ mode_in code
  by_code code e = sym (low_mode n) ∙ ap mode_in (low ∙ e)

  -- eight codes of one mode
  pub by_eight : (r : ℕ) → mode_in r ≡ mode_in (4 + r) → mode_in r ≡ mode_in (8 + r) → mode_in r ≡ mode_in (12 + r) → mode_in r ≡ mode_in (16 + r)
      → mode_in r ≡ mode_in (20 + r) → mode_in r ≡ mode_in (24 + r) → mode_in r ≡ mode_in (28 + r) → Eight (lo % 32) r → mode_in n ≡ mode_in r
  by_eight r a b c d f g h (inl e) = by_code r e
  by_eight r a b c d f g h (inr (inl e)) = by_code (4 + r) e ∙ sym a
  by_eight r a b c d f g h (inr (inr (inl e))) = by_code (8 + r) e ∙ sym b
  by_eight r a b c d f g h (inr (inr (inr (inl e)))) = by_code (12 + r) e ∙ sym c
  by_eight r a b c d f g h (inr (inr (inr (inr (inl e))))) = by_code (16 + r) e ∙ sym d
  by_eight r a b c d f g h (inr (inr (inr (inr (inr (inl e)))))) = by_code (20 + r) e ∙ sym f
  by_eight r a b c d f g h (inr (inr (inr (inr (inr (inr (inl e))))))) = by_code (24 + r) e ∙ sym g
  by_eight r a b c d f g h (inr (inr (inr (inr (inr (inr (inr e))))))) = by_code (28 + r) e ∙ sym h

  pub mode_1 : Eight (lo % 32) 0 → mode_in n ≡ 1
  unfolding mode_in
  mode_1 = by_eight 0 refl refl refl refl refl refl refl

  pub mode_2 : Eight (lo % 32) 1 → mode_in n ≡ 2
  unfolding mode_in
  mode_2 = by_eight 1 refl refl refl refl refl refl refl

  pub mode_at : (m : ℕ) → lo % 32 ≡ code_of m → mode_in (code_of m) ≡ m → mode_in n ≡ m
  mode_at m e f = by_code (code_of m) e ∙ f

  -- what is left
  pub last_mode : Rest (lo % 32) → 1 ≤ mode_in n → mode_in n ≡ 14
  unfolding width
  last_mode rest some = go (mode_in n) refl some (mode_range n)
    where
      small : lo % 32 < 32
      small = mod-lt lo (lit< tt)

      code : (m : ℕ) → mode_in n ≡ m → n % 2 ^ width m 12 ≡ code_of m
      code m e = subst (λ (k : ℕ). n % 2 ^ width k 12 ≡ code_of k) e (mode_code n some)

      four : (r : ℕ) → n % 4 ≡ r → lo % 32 % 4 ≡ r
      four r e = let s : lo % 32 % 4 ≡ n % 4 = omega arith in s ∙ e

      go : (m : ℕ) → mode_in n ≡ m → 1 ≤ m → m ≤ 14 → mode_in n ≡ 14
      go zero e l h = absurd (omega arith)
      go (suc zero) e l h = absurd (rest.0.0.0.0.0.0.0.0.0.0.0.0.1 (all_eight (lo % 32) 0 small (four 0 (code 1 e))))
      go (suc (suc zero)) e l h = absurd (rest.0.0.0.0.0.0.0.0.0.0.0.1 (all_eight (lo % 32) 1 small (four 1 (code 2 e))))
      go (suc (suc (suc zero))) e l h = absurd (rest.0.0.0.0.0.0.0.0.0.0.1 (sym low ∙ code 3 e))
      go (suc (suc (suc (suc zero)))) e l h = absurd (rest.0.0.0.0.0.0.0.0.0.1 (sym low ∙ code 4 e))
      go (suc (suc (suc (suc (suc zero))))) e l h = absurd (rest.0.0.0.0.0.0.0.0.1 (sym low ∙ code 5 e))
      go (suc (suc (suc (suc (suc (suc zero)))))) e l h = absurd (rest.0.0.0.0.0.0.0.1 (sym low ∙ code 6 e))
      go (suc (suc (suc (suc (suc (suc (suc zero))))))) e l h = absurd (rest.0.0.0.0.0.0.1 (sym low ∙ code 7 e))
      go (suc (suc (suc (suc (suc (suc (suc (suc zero)))))))) e l h = absurd (rest.0.0.0.0.0.1 (sym low ∙ code 8 e))
      go (suc (suc (suc (suc (suc (suc (suc (suc (suc zero))))))))) e l h = absurd (rest.0.0.0.0.1 (sym low ∙ code 9 e))
      go (suc (suc (suc (suc (suc (suc (suc (suc (suc (suc zero)))))))))) e l h = absurd (rest.0.0.0.1 (sym low ∙ code 10 e))
      go (suc (suc (suc (suc (suc (suc (suc (suc (suc (suc (suc zero))))))))))) e l h = absurd (rest.0.0.1 (sym low ∙ code 11 e))
      go (suc (suc (suc (suc (suc (suc (suc (suc (suc (suc (suc (suc zero)))))))))))) e l h = absurd (rest.0.1 (sym low ∙ code 12 e))
      go (suc (suc (suc (suc (suc (suc (suc (suc (suc (suc (suc (suc (suc zero))))))))))))) e l h = absurd (rest.1 (sym low ∙ code 13 e))
      go (suc (suc (suc (suc (suc (suc (suc (suc (suc (suc (suc (suc (suc (suc zero)))))))))))))) e l h = e
      go (suc (suc (suc (suc (suc (suc (suc (suc (suc (suc (suc (suc (suc (suc (suc m))))))))))))))) e l h = absurd (omega arith)

-- ---- what an arm returns

-- four have the first two among them
pub fewer : {s : Bool} {m n : ℕ} {r : Ends} → EndsOf 4 s m n r → EndsOf 2 s m n r
fewer t = record { each = λ c e hc he. t.each c e hc (omega arith) }

module _ (s : Bool) (m n : ℕ) {r : Ends} (e : mode_in n ≡ m) where
  pub two_arm : m ≤ 10 → EndsOf 4 s m n r → BlockEnds s n r
  two_arm h t = record { two = λ k. subst (λ (i : ℕ). EndsOf 4 s i n r) (sym e) t; one = λ k. absurd (omega (arith, e)) }

  pub one_arm : 10 < m → EndsOf 2 s m n r → BlockEnds s n r
  one_arm h t = record { two = λ k. absurd (omega (arith, e)); one = λ k. subst (λ (i : ℕ). EndsOf 2 s i n r) (sym e) t }
