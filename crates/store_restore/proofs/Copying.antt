-- A turn of a loop that copies bytes to a lent place: those of another list, and earlier ones of that place. Assumes nothing.
use mathlib.Core.Path.{◌≡◌, sym, ◌∙◌, ap, ap₂}
use mathlib.Core.List.{List, ◌++◌}
use Prim.Native.Nat.{ℕ, ◌+◌, ◌≤◌, ◌<◌}
use native.Mathlib.Numerals.{add-one}
use native.Mathlib.Omega.{arith}
use lib.ListN.{length, get_or, take, drop, set, length-append, length-take, length-drop, get_or-append}
use lib.Seq.{get_or-take, get_or-drop, paste, paste-suc}

pub part_more : (lent out from : List ℕ) (at to size k byte : ℕ) → out ≡ paste lent to (drop at from) k → byte ≡ get_or from (at + k) 0 → k < size
    → at + size ≤ length from → to + size ≤ length lent → set out (to + k) byte ≡ paste lent to (drop at from) (k + 1)
part_more lent out from at to size k byte e b h l m =
    ap₂ (λ (t : List ℕ) (x : ℕ). set t (to + k) x) e (b ∙ sym (get_or-drop at from k 0))
    ∙ paste-suc lent to (drop at from) k 0 (omega arith) (simp length-drop (omega arith))
    ∙ ap (paste lent to (drop at from)) (sym (add-one k))

pub within_more : (lent out : List ℕ) (at to size k byte : ℕ) → out ≡ paste lent to (drop at lent) k → byte ≡ get_or out (at + k) 0 → k < size → at + size ≤ to
    → to + size ≤ length lent → set out (to + k) byte ≡ paste lent to (drop at lent) (k + 1)
within_more lent out at to size k byte e b h l m = part_more lent out lent at to size k byte e (b ∙ same) h (omega arith) m
  where
    head : at + k < length (take to lent)
    head = simp length-take (omega arith)

    same : get_or out (at + k) 0 ≡ get_or lent (at + k) 0
    same =
        ap (λ (t : List ℕ). get_or t (at + k) 0) e
        ∙ get_or-append (take to lent ++ take k (drop at lent)) (drop (to + k) lent) 0 (at + k) (simp length-append (omega (arith, head)))
        ∙ get_or-append (take to lent) (take k (drop at lent)) 0 (at + k) head
        ∙ get_or-take to lent (at + k) 0 (omega arith)
