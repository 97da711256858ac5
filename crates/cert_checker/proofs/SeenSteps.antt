-- Which tasks were named, one name after the other.
use Rattle.std.proofs.Common.{◌≡◌, ℕ, zero, suc, ◌+◌, ◌<◌, ◌≤◌, Bool, true, false, ◌||◌, ◌&&◌, ◌==◌}
use Rattle.std.proofs.Common.{not, nat_lt, List, [], ◌∷◌, length, map, drop, get_or, refl, sym, ◌∙◌}
use Rattle.std.proofs.Common.{ap, arith, inl, inr}
use Rattle.std.proofs.Math.Path.{fun_ext}
use Rattle.std.proofs.Math.Bool.{and-false, or-false}
use Rattle.std.proofs.Math.Seq.{drop-cons}
use Rattle.std.proofs.Math.ListN.{drop_of_length-le}
use Rattle.std.specs.Cmp.{nat_eq_equiv}
use Rattle.std.proofs.lemmas.Bool.{cases_eq, lt-ltb}
use Rattle.task_sheet.proofs.Common.{Task, Indexes, no_index, with_index, among, tasks_of, order_of}
use Rattle.certificate.specs.Body.{Fail, CertLevelData}
use Rattle.cert_checker.specs.Ready.{task_by_name, failures_of, levels_of}
use Rattle.cert_checker.specs.CertificateFaults.{are_new, has_all}

-- the rest of a list at an element
pub dropped : {X : Type 0} (xs : List X) (i : ℕ) (x : X) → i < length xs → x ≡ get_or xs i x
    → drop i xs ≡ x ∷ drop (i + 1) xs
dropped xs i x lt e =
    let next : suc i ≡ i + 1 = omega arith in
    drop-cons xs i x lt ∙ ap (λ y. y ∷ drop (suc i) xs) (sym e) ∙ ap (λ k. x ∷ drop k xs) next

-- of items with tasks the first i were seen
pub record IsSeen {X : Type 0} (U : List Task) (task : X → ℕ) (xs : List X) (i : ℕ) (seen : Indexes)
    : Type 0 where
  pub test : are_new (length U) seen (map task (drop i xs))
      ≡ are_new (length U) no_index (map task xs)
  pub seen_too : (k : ℕ) → (seen k || among (map task (drop i xs)) k) ≡ among (map task xs) k

-- one more is seen: whichever of the two it was
moved : (a b c s : Bool) → a ≡ b → ((a || s) || c) ≡ (s || (b || c))
moved true true c true e = refl
moved true true c false e = refl
moved false false c s e = refl
moved true false c s e = absurd cc
moved false true c s e = absurd cc

module _ {X : Type 0} {U : List Task} {task : X → ℕ} {xs : List X} {i : ℕ} {seen : Indexes}
    (h : IsSeen U task xs i seen) where
  -- no item is left
  pub seen-end : length xs ≤ i
      → (are_new (length U) no_index (map task xs) ≡ true) × (seen ≡ among (map task xs))
  seen-end le =
      let none : map task (drop i xs) ≡ [] =
      ap (λ (ys : List X). map task ys) (drop_of_length-le xs le) in (
        sym (rw none at h.test),
        fun_ext (λ k. sym (or-false (seen k)) ∙ rw none at (h.seen_too k)),
      )

  -- an item, by its name
  module _ (x : X) (name : List ℕ) (lt : i < length xs) (is : x ≡ get_or xs i x)
      (same : task_by_name U name ≡ task x) where
    here : map task (drop i xs) ≡ task_by_name U name ∷ map task (drop (i + 1) xs)
    here = rw same (ap (λ (ys : List X). map task ys) (dropped xs i x lt is))

    pub seen-step : (nat_lt (task_by_name U name) (length U)
        && not (seen (task_by_name U name))) ≡ true
        → IsSeen U task xs (i + 1) (with_index seen (task_by_name U name))
    seen-step new = record {
      test = rw (here, new) at h.test;
      seen_too = λ k. moved (k == task_by_name U name) (task_by_name U name == k)
          (among (map task (drop (i + 1) xs)) k) (seen k)
          (nat_eq_equiv.symm k (task_by_name U name))
          ∙ rw here at (h.seen_too k);
    }

    -- the name is of no task, or of one that was seen
    pub seen-stop : (nat_lt (task_by_name U name) (length U)
        && not (seen (task_by_name U name))) ≡ false
        → are_new (length U) no_index (map task xs) ≡ false
    seen-stop old = sym (rw (here, old) at h.test)

-- ---- the tasks that names are
pub fails-named : (U : List Task) (fs : List Fail)
    → map (λ f. task_by_name U f.name) fs ≡ tasks_of (failures_of U fs)
fails-named U [] = refl
fails-named U (f ∷ fs) = ap (λ (ks : List ℕ). task_by_name U f.name ∷ ks) (fails-named U fs)

pub levels-named : (U : List Task) (ls : List CertLevelData)
    → map (λ l. task_by_name U l.name) ls ≡ order_of (levels_of U ls)
levels-named U [] = refl
levels-named U (l ∷ ls) = ap (λ (ks : List ℕ). task_by_name U l.name ∷ ks) (levels-named U ls)

-- ---- all tasks
pub has_all-lacks : (n : ℕ) (L : Indexes) (k : ℕ) → k < n → L k ≡ false → has_all n L ≡ false
has_all-lacks zero L k lt out = absurd (omega arith)
has_all-lacks (suc n) L k lt out = elim (cases_eq k n) [
  | inl e ↦ let here : L n ≡ false = rw (← e) out in rw (here, and-false) refl
  | inr ne ↦ let rest : has_all n L ≡ false = has_all-lacks n L k (omega arith) out in rw rest refl
]

pub is-new : (n task : ℕ) (seen : Indexes) → task < n → seen task ≡ false
    → (nat_lt task n && not (seen task)) ≡ true
is-new n task seen lt out = rw (lt-ltb task n lt, out) refl
