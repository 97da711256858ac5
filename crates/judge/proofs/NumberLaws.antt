-- The order that the numbers of threads give.
use Rattle.std.proofs.Common.{◌≡◌, ◌∙◌, ℕ, zero, suc, ◌+◌, ◌<◌, Bool, true, false, cond, ◌==◌}
use Rattle.std.proofs.Common.{inl, inr, List, [], ◌∷◌, ◌++◌, map, length, get_or, append-nil, Some}
use Rattle.std.proofs.Common.{None, All, refl, sym, ap, arith, count_by}
use Rattle.std.specs.List.{list_any, position_or_len, AllByRecursion}
use Rattle.std.specs.List.Sorted.{IsPermutation, IsNonDecreasingBy}
use Rattle.std.proofs.lemmas.Bool.{cases_Bool, cases_lt, both_ways, true≢false, lt-ltb, ltb-true}
use Rattle.std.proofs.lemmas.Bool.{eq-eqb, and_parts, and_from, or_parts}
use Rattle.std.proofs.lemmas.List.{get_or-map, map_push, length-map}
use Rattle.std.proofs.lemmas.List.Folds.{list_any-append}
use Rattle.std.proofs.lemmas.List.Elements.{All-push, All-from_recursion}
use Rattle.std.proofs.lemmas.List.Sorted.{All-permutation, IsPermutation-map, sum_by-IsPermutation}
use Rattle.task_sheet.proofs.Common.{Task, same_bytes, no_task, task_at, IsTaskSet, AreDistinct}
use Rattle.task_sheet.proofs.Common.{Indexes, listed_below, without_index, all_of, IsOrderOf}
use Rattle.task_sheet.proofs.IndexLaws.{without-parts, IsOrderOf-among, IsOrderOf-head}
use Rattle.task_sheet.proofs.IndexLaws.{IsOrderOf-rest, listed-order, place-among}
use Rattle.task_sheet.proofs.NameLaws.{same_is}
use Rattle.task_sheet.proofs.TaskLaws.{place_of_name}
use Rattle.assignment.proofs.GatherLaws.{listed_below-member, listed_below-other}
use Rattle.judge.specs.SettingFaults.{is_set, line_again, thread_number, setting_number, same_number}
use Rattle.judge.specs.SettingFaults.{threadless}
use Rattle.judge.specs.KeptOrder.{IsOrderOfThreads, numbered_at, with_thread_in}
use Rattle.judge.specs.Node.{IsOrderBy}
use Rattle.judge.specs.declared.order.Numbered.{Numbered}
use Rattle.judge.specs.declared.rows.Setting.{Setting}

-- two tasks of one name are one
pub one_of_name : (U : List Task) → IsTaskSet U → (i j : ℕ) → i < length U → j < length U
    → (task_at U i).name ≡ (task_at U j).name → i ≡ j
one_of_name U kept i j lt lt' same = sym (place_of_name U kept.distinct i lt)
    ∙ ap (λ name. position_or_len (λ (t : Task). same_bytes t.name name) U) same
    ∙ place_of_name U kept.distinct j lt'

-- ---- names and numbers
-- what holds of each number holds of that of a name that is set
number_holds : (P : ℕ → Type 0) (settings : List Setting) (name : List ℕ)
    → is_set settings name ≡ true → AllByRecursion (λ s. P s.number) settings
    → P (setting_number settings name)
number_holds P [] name is each = absurd (true≢false (sym is))
number_holds P (s ∷ settings) name is each = elim (cases_Bool (same_bytes s.name name)) [
  | inl here ↦ rw here each.0
  | inr other ↦ rw other (number_holds P settings name (rw other at is) each.1)
]

-- where no two numbers are the same, those of one number have one name
one_name : (settings : List Setting) (a b : List ℕ) → AreDistinct same_number settings
    → is_set settings a ≡ true → is_set settings b ≡ true
    → setting_number settings a ≡ setting_number settings b → a ≡ b
one_name [] a b apart is is' same = absurd (true≢false (sym is))
one_name (s ∷ settings) a b apart is is' same =
    let other = λ (name : List ℕ) (set : is_set settings name ≡ true).
    number_holds (λ n. (s.number == n) ≡ false) settings name set apart.0 in
    elim (cases_Bool (same_bytes s.name a)) [
      | inl here ↦ elim (cases_Bool (same_bytes s.name b)) [
        | inl here' ↦ sym (same_is s.name a here) ∙ same_is s.name b here'
        | inr not' ↦ absurd (both_ways _ (other b (rw not' at is'))
            (eq-eqb s.number _ (rw (here, not') at same)))
      ]
      | inr not ↦ elim (cases_Bool (same_bytes s.name b)) [
        | inl here' ↦ absurd (both_ways _ (other a (rw not at is))
            (eq-eqb s.number _ (sym (rw (not, here') at same))))
        | inr not' ↦ one_name settings a b apart.1 (rw not at is) (rw not' at is')
            (rw (not, not') at same)
      ]
    ]

module _ (alike : Setting → Setting → Bool) where
  unlike : (seen xs : List Setting) (s : Setting)
      → AllByRecursion (λ x. list_any (λ b. alike b x) (seen ++ s ∷ []) ≡ false) xs
      → AllByRecursion (λ x. list_any (λ b. alike b x) seen ≡ false) xs
      × AllByRecursion (λ x. alike s x ≡ false) xs
  unlike seen [] s each = (tt, tt)
  unlike seen (x ∷ xs) s each =
      let rest = unlike seen xs s each.1 in
      let both = or_parts (list_any (λ b. alike b x) seen) _
      (sym (list_any-append (λ b. alike b x) seen (s ∷ [])) ∙ each.0) in
      ((both.0, rest.0), ((or_parts (alike s x) false both.1).0, rest.1))

  -- where none is like one before it, no two are alike
  apart : (seen xs : List Setting) → line_again alike seen xs ≡ None
      → AllByRecursion (λ x. list_any (λ b. alike b x) seen ≡ false) xs × AreDistinct alike xs
  apart seen [] none = (tt, tt)
  apart seen (s ∷ xs) none = elim (cases_Bool (list_any (λ b. alike b s) seen)) [
    | inl is ↦ let some : Some s.line ≡ None = (rw is at none) in absurd cc
    | inr new ↦
        let rest = apart (seen ++ s ∷ []) xs (rw new at none) in
        let both = unlike seen xs s rest.0 in
        ((new, both.0), (both.1, rest.1))
  ]

-- where no task lacks a thread, each has one
all_threads : (U : List Task) (threads : List Setting) → threadless U threads ≡ None
    → AllByRecursion (λ t. is_set threads t.name ≡ true) U
all_threads [] threads none = tt
all_threads (t ∷ U) threads none = elim (cases_Bool (is_set threads t.name)) [
  | inl has ↦ (has, all_threads U threads (rw has at none))
  | inr out ↦ let some : Some t.name ≡ None = (rw out at none) in absurd cc
]

-- no two neighbours of an order are one
adjacent : (L : Indexes) (order : List ℕ) → IsOrderOf L order → (k : ℕ) → k + 1 < length order
    → get_or order k 0 ≡ get_or order (k + 1) 0 → ⊥
adjacent L [] each k lt e = omega arith
adjacent L (i ∷ []) each k lt e = omega arith
adjacent L (i ∷ j ∷ above) each zero lt e = (without-parts L i j
    (IsOrderOf-head (without_index L i) j above (IsOrderOf-rest L i (j ∷ above) each))).1 (sym e)
adjacent L (i ∷ j ∷ above) each (suc k) lt e =
    let next : suc k + 1 ≡ suc (k + 1) = omega arith in
    adjacent (without_index L i) (j ∷ above) (IsOrderOf-rest L i (j ∷ above) each) k (omega arith)
    (e ∙ ap (λ m. get_or (i ∷ j ∷ above) m 0) next)

module _ (U : List Task) (threads : List Setting) where
  -- ---- the tasks that have a thread
  abbrev IsNumbered : Numbered → Type 0
  IsNumbered n = n.number ≡ thread_number U threads n.task

  abbrev pub tasks_in : List Numbered → List ℕ
  tasks_in xs = map (λ n. n.task) xs

  -- one more task, by rank
  pub numbered_step : (k : ℕ) (xs xs' : List Numbered) (name : List ℕ) → k < length U
      → name ≡ (task_at U k).name → tasks_in xs ≡ listed_below k (with_thread_in U threads)
      → All IsNumbered xs → xs' ≡ xs ++ numbered_at threads name k
      → (tasks_in xs' ≡ listed_below (k + 1) (with_thread_in U threads)) × All IsNumbered xs'
  numbered_step k xs xs' name lt is tasks numbers pushed =
      let here : all_of U k ≡ true = lt-ltb k (length U) lt in
      elim (cases_Bool (is_set threads name)) [
        | inl has ↦
            let one : Numbered = record { number = setting_number threads name; task = k } in
            let more : xs' ≡ xs ++ one ∷ [] = rw has at pushed in
            let member = and_from _ _ here (ap (is_set threads) (sym is) ∙ has) in (
              ap tasks_in more ∙ map_push (λ n. n.task) xs one ∙ rw tasks
                  (sym (listed_below-member k (with_thread_in U threads) member)),
              rw more (All-push IsNumbered xs one numbers (ap (setting_number threads) is)),
            )
        | inr none ↦
            let same : xs' ≡ xs = (rw none at pushed) ∙ append-nil xs in
            let other : with_thread_in U threads k ≡ false = rw (here, ← is, none) refl in (
              ap tasks_in same ∙ tasks
                  ∙ sym (listed_below-other k (with_thread_in U threads) other),
              rw same numbers,
            )
      ]

  -- where each task has a thread, those that have one are all
  pub all_ordered : threadless U threads ≡ None → (order : List ℕ)
      → IsOrderOfThreads U threads order → IsOrderBy U threads order
  all_ordered all order is =
      record { each_once = λ k. is.each_once k ∙ ap (λ b. cond b 1 0) (same k); rises = is.rises }
    where
      same : (k : ℕ) → with_thread_in U threads k ≡ all_of U k
      same k = elim (cases_Bool (all_of U k)) [
        | inl here ↦ and_from _ _ here (All-from_recursion (λ t. is_set threads t.name ≡ true) U
            (all_threads U threads all) k no_task (ltb-true k (length U) here)) ∙ sym here
        | inr out ↦ rw out refl
      ]

  -- each task of an order of threads is one of the set that has a thread
  pub order_member : (order : List ℕ) → IsOrderOf (with_thread_in U threads) order → (k : ℕ)
      → k < length order
      → (get_or order k 0 < length U) × (is_set threads (task_at U (get_or order k 0)).name ≡ true)
  order_member order each k lt =
      let i = get_or order k 0 in
      let both = and_parts (all_of U i) _
      (sym (ap (λ X. X i) (IsOrderOf-among (with_thread_in U threads) order each))
      ∙ place-among order k lt) in
      (ltb-true i (length U) both.0, both.1)

  module _ (kept : IsTaskSet U) (none_again : line_again same_number [] threads ≡ None)
      (xs ys : List Numbered)
      (tasks : tasks_in xs ≡ listed_below (length U) (with_thread_in U threads))
      (numbers : All IsNumbered xs) (moved : IsPermutation xs ys)
      (rising : IsNonDecreasingBy (λ n. n.number) ys) where
    each : IsOrderOf (with_thread_in U threads) (tasks_in ys)
    each k =
        sum_by-IsPermutation (λ x. cond (x == k) 1 0) (tasks_in xs) (tasks_in ys)
        (IsPermutation-map (λ (n : Numbered). n.task) xs ys moved)
        ∙ ap (λ ts. count_by (λ x. x == k) ts) tasks ∙ listed-order (length U)
        (with_thread_in U threads) (λ j h. (and_parts (all_of U j) _ h).0) k

    number_here : (k : ℕ) (d : Numbered) → k < length ys
        → thread_number U threads (get_or (tasks_in ys) k 0) ≡ (get_or ys k d).number
    number_here k d lt =
        ap (thread_number U threads) (get_or-map (λ (n : Numbered). n.task) ys k d 0 lt)
        ∙ sym (All-permutation IsNumbered xs ys moved numbers k d lt)

    -- the numbers of neighbours don't fall, and aren't the same
    step : (k : ℕ) → k + 1 < length (tasks_in ys)
        → thread_number U threads (get_or (tasks_in ys) k 0)
        < thread_number U threads (get_or (tasks_in ys) (k + 1) 0)
    step k lt =
        let order = tasks_in ys in
        let next : k + 1 < length ys =
        omega (arith, lt, length-map ys (λ (n : Numbered). n.task)) in
        let d : Numbered = record { number = 0; task = 0 } in
        let le = rising k (k + 1) d (omega arith) next in
        elim (cases_lt (thread_number U threads (get_or order k 0))
        (thread_number U threads (get_or order (k + 1) 0))) [
          | inl less ↦ less
          | inr not_less ↦
              let first = order_member order each k (omega arith) in
              let second = order_member order each (k + 1) lt in
              let name = one_name threads (task_at U (get_or order k 0)).name
              (task_at U (get_or order (k + 1) 0)).name
              (apart same_number [] threads none_again).1 first.1 second.1
              (omega (arith, number_here k d (omega arith), number_here (k + 1) d next)) in
              absurd (adjacent (with_thread_in U threads) order each k lt
              (one_of_name U kept _ _ first.0 second.0 name))
        ]

    pub ordered : IsOrderOfThreads U threads (tasks_in ys)
    ordered = record {
      each_once = each;
      rises = λ k lt.
          let next : k + 1 < length (tasks_in ys) =
          omega (arith, lt, length-map (tasks_in ys) (thread_number U threads)) in
          rw (
            get_or-map (thread_number U threads) (tasks_in ys) k 0 0 (omega arith),
            get_or-map (thread_number U threads) (tasks_in ys) (k + 1) 0 0 next,
          ) (step k next);
    }
