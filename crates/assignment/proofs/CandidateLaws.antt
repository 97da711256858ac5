-- The candidate at a place by rank.
use Rattle.std.proofs.Common.{◌≡◌, ℕ, zero, suc, ◌<◌, inl, inr, List, [], ◌∷◌, ◌++◌, length}
use Rattle.std.proofs.Common.{slice_get, Some, IsTrue, refl, sym, ◌∙◌, ap, arith}
use Rattle.std.proofs.lemmas.Bool.{cases_Bool, cases_eq}
use Rattle.task_sheet.specs.Indexes.{Indexes, listed_below}

-- an element of the front, and the first one after it
get-front : (xs ys : List ℕ) (i x : ℕ) → slice_get xs i ≡ Some x → slice_get (xs ++ ys) i ≡ Some x
get-front [] ys i x h = cc
get-front (y ∷ xs) ys zero x h = h
get-front (y ∷ xs) ys (suc i) x h = get-front xs ys i x h

get-seam : (xs : List ℕ) (y : ℕ) → slice_get (xs ++ y ∷ []) (length xs) ≡ Some y
get-seam [] y = refl
get-seam (x ∷ xs) y = get-seam xs y

more : (n : ℕ) (L : Indexes) (i x : ℕ) → slice_get (listed_below n L) i ≡ Some x
    → slice_get (listed_below (suc n) L) i ≡ Some x
more n L i x h = elim (cases_Bool (L n)) [
  | inl member ↦ rw member (get-front (listed_below n L) (n ∷ []) i x h)
  | inr out ↦ rw out h
]

here : (n : ℕ) (L : Indexes) → IsTrue (L n)
    → slice_get (listed_below (suc n) L) (length (listed_below n L)) ≡ Some n
here n L member = rw member (get-seam (listed_below n L) n)

-- a member stands at the place that counts those below it
pub listed-at : (n : ℕ) (L : Indexes) (k : ℕ) → k < n → IsTrue (L k)
    → slice_get (listed_below n L) (length (listed_below k L)) ≡ Some k
listed-at zero L k lt member = absurd (omega arith)
listed-at (suc n) L k lt member = elim (cases_eq k n) [
  | inl e ↦ rw e (here n L (ap L (sym e) ∙ member))
  | inr ne ↦ let lt' : k < n = omega arith in
      more n L (length (listed_below k L)) k (listed-at n L k lt' member)
]
