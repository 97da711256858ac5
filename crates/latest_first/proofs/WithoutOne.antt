-- An order without one of its tasks.
use Rattle.std.proofs.Common.{◌≡◌, ℕ, inl, inr, true, false, cond, ◌==◌, List, [], ◌∷◌, sym, ◌∙◌}
use Rattle.std.proofs.Common.{ap, subst}
use Rattle.std.specs.List.{AllByRecursion}
use Rattle.std.proofs.lemmas.Bool.{cases_eq, eq-eqb, ne_eqb, or_cases, or_left, or_right}
use Rattle.task_sheet.proofs.Common.{Task, AllTasks, Indexes, IsPart, among, without_index}
use Rattle.task_sheet.proofs.Common.{IsOrderOf, AllStand}
use Rattle.task_sheet.proofs.IndexLaws.{same_parts, without-member, without-parts, IsOrderOf-among}
use Rattle.task_sheet.proofs.IndexLaws.{IsOrderOf-head, IsOrderOf-rest, IsOrderOf-cons}
use Rattle.task_sheet.proofs.PassingLaws.{Stands-part}

abbrev pub less : ℕ → List ℕ → List ℕ
less b [] = []
less b (x ∷ xs) = cond (x == b) xs (x ∷ less b xs)

-- what holds of the list without its head, or with the head and without the task further on, holds of it without the task
pub less-by : (P : List ℕ → Type 0) (b x : ℕ) (xs : List ℕ) → (x ≡ b → P xs)
    → ((x ≡ b → ⊥) → P (x ∷ less b xs)) → P (less b (x ∷ xs))
less-by P b x xs here further = elim (cases_eq x b) [
  | inl e ↦ subst (λ c. P (cond c xs (x ∷ less b xs))) (sym (eq-eqb x b e)) (here e)
  | inr ne ↦ subst (λ c. P (cond c xs (x ∷ less b xs))) (sym (ne_eqb x b ne)) (further ne)
]

less-part : (b : ℕ) (xs : List ℕ) → IsPart (among (less b xs)) (among xs)
less-part b [] = λ k h. h
less-part b (x ∷ xs) =
    less-by (λ ys. IsPart (among ys) (among (x ∷ xs))) b x xs
    (λ e k h. or_right (x == k) (among xs k) h)
    (λ ne k h. elim (or_cases (x == k) (among (less b xs) k) h) [
      | inl here ↦ or_left (x == k) (among xs k) here
      | inr later ↦ or_right (x == k) (among xs k) (less-part b xs k later)
    ])

pub less-all : (P : ℕ → Type 0) (b : ℕ) (xs : List ℕ) → AllByRecursion P xs
    → AllByRecursion P (less b xs)
less-all P b [] all = tt
less-all P b (x ∷ xs) all =
    less-by (λ ys. AllByRecursion P ys) b x xs (λ e. all.1) (λ ne. (all.0, less-all P b xs all.1))

without-turned : (L : Indexes) (a b : ℕ)
    → without_index (without_index L a) b ≡ without_index (without_index L b) a
without-turned L a b = same_parts (without_index (without_index L a) b)
    (without_index (without_index L b) a) (either a b) (either b a)
  where
    either : (a b : ℕ)
        → IsPart (without_index (without_index L a) b) (without_index (without_index L b) a)
    either a b k h =
        let outer = without-parts (without_index L a) b k h in
        let inner = without-parts L a k outer.0 in
        without-member (without_index L b) a k (without-member L b k inner.0 outer.1) inner.1

pub less-order : (L : Indexes) (b : ℕ) (xs : List ℕ) → L b ≡ true → IsOrderOf L xs
    → IsOrderOf (without_index L b) (less b xs)
less-order L b [] member each =
    let none : false ≡ true = ap (λ (X : Indexes). X b) (IsOrderOf-among L [] each) ∙ member in
    absurd (cc)
less-order L b (x ∷ xs) member each =
    let rest = IsOrderOf-rest L x xs each in
    less-by (IsOrderOf (without_index L b)) b x xs
    (λ e. subst (λ j. IsOrderOf (without_index L j) xs) e rest)
    (λ ne.
    let kept : without_index L x b ≡ true = without-member L x b member (λ e. ne (sym e)) in
    let left = less-order (without_index L x) b xs kept rest in
    IsOrderOf-cons (without_index L b) x (less b xs)
    (without-member L b x (IsOrderOf-head L x xs each) ne)
    (subst (λ (X : Indexes). IsOrderOf X (less b xs)) (without-turned L x b) left))

module _ (V : List Task) (valid : AllTasks V) where
  pub less-stand : (b : ℕ) (xs : List ℕ) → AllStand V xs → AllStand V (less b xs)
  less-stand b [] all = tt
  less-stand b (x ∷ xs) all =
      less-by (AllStand V) b x xs (λ e. all.1)
      (λ ne. (
        Stands-part V valid x (among (less b xs)) (among xs) (less-part b xs) all.0,
        less-stand b xs all.1,
      ))
