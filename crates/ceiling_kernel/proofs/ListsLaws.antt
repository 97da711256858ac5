-- How the lists of the priorities change, and how many they are.
use Rattle.std.proofs.Common.{ℕ, zero, suc, ◌<◌, ◌≡◌, List, [], ◌∷◌, length, get_or, set, refl, sym}
use Rattle.std.proofs.Common.{ap, ◌∙◌, arith, ◌==◌, inl, inr, ◌++◌, drop, replicate, nat_lt}
use Rattle.std.proofs.Common.{length-set}
use Rattle.std.specs.declared.collections.VecDeque.{VecDeque}
use Rattle.std.specs.declared.alloc.Global.{Global}
use Rattle.std.specs.VecDeque.{deque_items}
use Rattle.ceiling_kernel.specs.Lists.{listed, list_at, with_tail, without_head, with_head}
use Rattle.ceiling_kernel.specs.Lists.{moved_to}
use Rattle.std.proofs.lemmas.Bool.{cases_Bool}
use Rattle.std.proofs.lemmas.List.{length-replicate}

abbrev Deque : Type 0
Deque = VecDeque ℕ Global

listed-set : (xs : List Deque) (i : ℕ) (x : Deque)
    → listed (set xs i x) ≡ set (listed xs) i (deque_items x)
listed-set [] i x = refl
listed-set (y ∷ xs) zero x = refl
listed-set (y ∷ xs) (suc i) x = ap (λ t. deque_items y ∷ t) (listed-set xs i x)

list-of : (xs : List Deque) (i : ℕ) (x : Deque) → i < length xs → x ≡ get_or xs i x
    → list_at (listed xs) i ≡ deque_items x
list-of [] i x lt e = absurd (omega arith)
list-of (y ∷ xs) zero x lt e = ap deque_items (sym e)
list-of (y ∷ xs) (suc i) x lt e = list-of xs i x (omega arith) e

-- list i changes
pub changes : (xs : List Deque) (i : ℕ) (old new : Deque) (f : List ℕ → List ℕ) → i < length xs
    → old ≡ get_or xs i old → deque_items new ≡ f (deque_items old)
    → listed (set xs i new) ≡ set (listed xs) i (f (list_at (listed xs) i))
changes xs i old new f lt read e = listed-set xs i new
    ∙ ap (set (listed xs) i) (e ∙ ap f (sym (list-of xs i old lt read)))

-- ---- how many lists there are
pub listed_length : (xs : List Deque) → length (listed xs) ≡ length xs
listed_length [] = refl
listed_length (x ∷ xs) = ap suc (listed_length xs)

pub count_started : (xs : List Deque) (n : ℕ) → listed xs ≡ replicate n [] → length xs ≡ n
count_started xs n e = sym (listed_length xs) ∙ (ap length e ∙ length-replicate n no_tasks)
  where
    no_tasks : List ℕ
    no_tasks = []

pub count_kept : (xs ys : List Deque) (p : ℕ) (zs : List ℕ) → listed ys ≡ set (listed xs) p zs
    → length ys ≡ length xs
count_kept xs ys p zs e = sym (listed_length ys)
    ∙ (ap length e ∙ (length-set (listed xs) p zs ∙ listed_length xs))

moved_length : (lists : List (List ℕ)) (old new task : ℕ)
    → length (moved_to lists old new task) ≡ length lists
moved_length lists old new task =
    let n = length-set lists old (drop 1 (list_at lists old)) in
    elim (cases_Bool (old == new)) [
      | inl same ↦ rw same
      | inr differ ↦ elim (cases_Bool (nat_lt new old)) [
        | inl lower ↦ rw (differ, lower) (length-set (without_head lists old) new
            (task ∷ list_at (without_head lists old) new) ∙ n)
        | inr higher ↦ rw (differ, higher) (length-set (without_head lists old) new
            (list_at (without_head lists old) new ++ task ∷ []) ∙ n)
      ]
    ]

pub count_moved : (xs ys : List Deque) (old new task : ℕ)
    → listed ys ≡ moved_to (listed xs) old new task → length ys ≡ length xs
count_moved xs ys old new task e = sym (listed_length ys)
    ∙ (ap length e ∙ (moved_length (listed xs) old new task ∙ listed_length xs))

-- in an empty list the head is the tail
pub head_is_tail : (lists : List (List ℕ)) (p task : ℕ) → list_at lists p ≡ []
    → with_head lists p task ≡ with_tail lists p task
head_is_tail lists p task e =
    let h : task ∷ list_at lists p ≡ list_at lists p ++ task ∷ [] = rw e in
    ap (λ xs. set lists p xs) h
