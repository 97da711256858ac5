-- What the settings of an order print gives the order back.
use Rattle.std.proofs.Common.{◌≡◌, ◌∙◌, ℕ, zero, suc, ◌+◌, ◌-◌, ◌<◌, ◌≤◌, ◌==◌, not, inl, inr, Bool}
use Rattle.std.proofs.Common.{true, false, cond, List, [], ◌∷◌, ◌++◌, map, length, get_or, Option}
use Rattle.std.proofs.Common.{Some, None, Ok, unwrap_or, option_map, refl, sym, ap, subst}
use Rattle.std.proofs.Common.{append_assoc, arith}
use Rattle.std.specs.List.{list_any, find, position_or_len, flat_map, fold, AllByRecursion}
use Rattle.std.proofs.lemmas.Bool.{cases_Bool, both_ways, false_from_ne_true, true≢false, or_cases}
use Rattle.std.proofs.lemmas.Bool.{or_parts, or_left, or_right, eq-eqb, ne_eqb, eqb-true, ltb-true}
use Rattle.std.proofs.lemmas.Bool.{lt-ltb, cases_lt}
use Rattle.std.proofs.lemmas.List.Folds.{list_any_at, Any-from_list_any}
use Rattle.std.proofs.lemmas.List.Elements.{recursion_from_All}
use Rattle.std.proofs.lemmas.List.{get_or-map, get_or_default, length-map}
use Rattle.std.specs.Cmp.Lexicographic.{nat_list_eq_equiv}
use Rattle.task_sheet.proofs.Common.{CriticalSection, Task, IsValidSheet, same_bytes, task_at}
use Rattle.task_sheet.proofs.Common.{no_task, AreSections, IsName, IsTaskSet, AreDistinct, Indexes}
use Rattle.task_sheet.proofs.Common.{IsPart, among, without_index, greatest_below, ceiling_of, uses}
use Rattle.task_sheet.proofs.Common.{all_of, IsOrder, IsOrderOf}
use Rattle.task_sheet.specs.Locks.{IsHighestUser}
use Rattle.task_sheet.proofs.NameLaws.{same_own, same_is}
use Rattle.task_sheet.proofs.TaskLaws.{place_of_name, valid_at}
use Rattle.task_sheet.proofs.Below.{greatest_below-le, le-greatest_below}
use Rattle.task_sheet.proofs.CeilingLaws.{ceiling-highest}
use Rattle.task_sheet.proofs.IndexLaws.{without-parts, without-part_of, IsOrderOf-among}
use Rattle.task_sheet.proofs.IndexLaws.{IsOrderOf-head, IsOrderOf-rest, order-below, place-among}
use Rattle.lines.specs.TextLines.{kept_from, lines_of}
use Rattle.ceilings.specs.IsTableOf.{with_name, names_in, locks_of}
use Rattle.settings.specs.Settings.{mutex_line, mutex_lines_from, priority_of, settings_from}
use Rattle.settings.specs.Settings.{thread_line, thread_lines}
use Rattle.settings.proofs.LockLaws.{has_ceiling}
use Rattle.judge.specs.SettingLines.{mutexes_of, rows_from, threads_of}
use Rattle.judge.specs.SettingFaults.{is_no_lock, is_no_task, is_set, line_again, line_fault, mutexless}
use Rattle.judge.specs.SettingFaults.{name_fault, thread_number, setting_number, rows_fault}
use Rattle.judge.specs.SettingFaults.{same_setting_name, same_number, top_number}
use Rattle.judge.specs.SettingFaults.{wrong_lock}
use Rattle.judge.specs.Node.{IsNodeOrder, IsOrderBy}
use Rattle.judge.specs.declared.rows.Setting.{Setting}
use Rattle.judge.specs.declared.rows.SettingRow.TheVariants.{Thread, Mutex}
use Rattle.judge.specs.declared.rows.TheConstants.{NUMBER_LIMIT}
use Rattle.judge.proofs.NumberLaws.{one_of_name}
use Rattle.judge.proofs.SpelledLaws.{IsEntry, entry_read}

-- ---- lists
each_append : {X : Type 0} (P : X → Type 0) (xs ys : List X) → AllByRecursion P xs
    → AllByRecursion P ys → AllByRecursion P (xs ++ ys)
each_append P [] ys h g = g
each_append P (x ∷ xs) ys h g = (h.0, each_append P xs ys h.1 g)

none_each : {X : Type 0} (p : X → Bool) (xs : List X) → list_any p xs ≡ false
    → AllByRecursion (λ x. p x ≡ false) xs
none_each p [] h = tt
none_each p (x ∷ xs) h = let parts = or_parts (p x) (list_any p xs) h in
    (parts.0, none_each p xs parts.1)

some_place : {X : Type 0} (p : X → Bool) (xs : List X) → list_any p xs ≡ true
    → position_or_len p xs < length xs
some_place p [] h = absurd (true≢false (sym h))
some_place p (x ∷ xs) h = elim (cases_Bool (p x)) [
  | inl here ↦ rw here (omega arith)
  | inr other ↦ rw other (omega (arith, some_place p xs (rw other at h)))
]

find_none : {X : Type 0} (test : X → Bool) (xs : List X) → AllByRecursion (λ x. test x ≡ false) xs
    → find test xs ≡ None
find_none test [] h = refl
find_none test (x ∷ xs) h = rw h.0 (find_none test xs h.1)

turned : (a b : List ℕ) → same_bytes a b ≡ same_bytes b a
turned a b = nat_list_eq_equiv.symm a b

-- ---- none is like one before it
at_seam : {X : Type 0} (P : X → Type 0) (xs ys : List X) (x : X) → AllByRecursion P (xs ++ x ∷ ys)
    → P x
at_seam P [] ys x h = h.0
at_seam P (y ∷ xs) ys x h = at_seam P xs ys x h.1

module _ (alike : Setting → Setting → Bool) where
  none_before : (seen xs : List Setting) (s : Setting) → AreDistinct alike (seen ++ s ∷ xs)
      → list_any (λ b. alike b s) seen ≡ false
  none_before [] xs s apart = refl
  none_before (x ∷ seen) xs s apart =
      rw (at_seam (λ y. alike x y ≡ false) seen xs s apart.0) (none_before seen xs s apart.1)

  again_none : (seen xs : List Setting) → AreDistinct alike (seen ++ xs)
      → line_again alike seen xs ≡ None
  again_none seen [] apart = refl
  again_none seen (s ∷ xs) apart = rw (none_before seen xs s apart)
      (again_none (seen ++ s ∷ []) xs (rw (append_assoc seen (s ∷ []) xs) apart))

-- ---- the locks of a set
sections_named : (from cost : ℕ) (ss : List CriticalSection) → AreSections from cost ss
    → AllByRecursion IsName (flat_map (λ s. s.locks) ss)
sections_named from cost [] h = tt
sections_named from cost (s ∷ ss) h = each_append IsName s.locks (flat_map (λ x. x.locks) ss)
    (recursion_from_All IsName s.locks h.0.named) (sections_named (s.at + s.len) cost ss h.1)

names_named : (U : List Task) → AllByRecursion IsValidSheet U → AllByRecursion IsName (names_in U)
names_named [] h = tt
names_named (t ∷ U) h = each_append IsName (flat_map (λ s. s.locks) t.sections) (names_in U)
    (sections_named 0 t.cost t.sections h.0.sections) (names_named U h.1)

abbrev Apart : List (List ℕ) → Type 0
Apart names = AreDistinct same_bytes names

apart_push : (names : List (List ℕ)) (q : List ℕ) → Apart names
    → AllByRecursion (λ x. same_bytes q x ≡ false) names → Apart (names ++ q ∷ [])
apart_push [] q apart new = (tt, tt)
apart_push (x ∷ names) q apart new = (
  each_append (λ y. same_bytes x y ≡ false) names (q ∷ []) apart.0 (turned x q ∙ new.0, tt),
  apart_push names q apart.1 new.1,
)

-- the names that are seen are names, each once
seen_once : (names seen : List (List ℕ)) → AllByRecursion IsName names
    → AllByRecursion IsName seen × Apart seen
    → AllByRecursion IsName (fold with_name seen names) × Apart (fold with_name seen names)
seen_once [] seen each so = so
seen_once (q ∷ names) seen each so =
    seen_once names (with_name seen q) each.1 (by (list_any (same_bytes q) seen) refl)
  where
    by : (b : Bool) → list_any (same_bytes q) seen ≡ b
        → AllByRecursion IsName (cond b seen (seen ++ q ∷ [])) × Apart (cond b seen (seen ++ q ∷ []))
    by true e = so
    by false e = (
      each_append IsName seen (q ∷ []) so.0 (each.0, tt),
      apart_push seen q so.1 (none_each (same_bytes q) seen e),
    )

-- ---- rows of both kinds
threads_sorted : (ts ms : List Setting) → threads_of (map Thread ts ++ map Mutex ms) ≡ ts
threads_sorted [] [] = refl
threads_sorted [] (m ∷ ms) = threads_sorted [] ms
threads_sorted (t ∷ ts) ms = ap (λ ss. t ∷ ss) (threads_sorted ts ms)

mutexes_sorted : (ts ms : List Setting) → mutexes_of (map Thread ts ++ map Mutex ms) ≡ ms
mutexes_sorted [] [] = refl
mutexes_sorted [] (m ∷ ms) = ap (λ ss. m ∷ ss) (mutexes_sorted [] ms)
mutexes_sorted (t ∷ ts) ms = mutexes_sorted ts ms

-- where each lock has a mutex, none lacks one
mutexless_none : (locks : List (List ℕ)) (mutexes : List Setting)
    → find (λ lock. not (is_set mutexes lock)) locks ≡ None → mutexless locks mutexes ≡ None
mutexless_none locks [] none = refl
mutexless_none locks (m ∷ mutexes) none = none

-- where each mutex is at the number of its highest user, none is wrong
wrong_none : (U : List Task) (locks : List (List ℕ)) (threads mutexes : List Setting)
    → find (λ lock. not (setting_number mutexes lock == top_number U threads lock)) locks ≡ None
    → wrong_lock U locks threads mutexes ≡ None
wrong_none U locks threads [] none = refl
wrong_none U locks threads (m ∷ mutexes) none = none

-- the numbers of so many levels, the first of which counts from a start, as a mutex says them by the level: they rise
pub record AreRising (f g : ℕ → ℕ) (start count : ℕ) : Type 0 where
  pub some : (p : ℕ) → p < count → 1 ≤ f (start + p)
  pub within : (p : ℕ) → p < count → f (start + p) ≤ NUMBER_LIMIT
  pub rise : (p q : ℕ) → p < q → q < count → f (start + p) < f (start + q)
  pub apart : (p q : ℕ) → p < count → p < q → f (start + p) ≡ f (start + q) → ⊥
  pub level : (p : ℕ) → g (p + 1) ≡ f (start + p)

module _ (U : List Task) (f : ℕ → ℕ) where
  -- ---- the threads of an order
  abbrev thread_of : (line level task : ℕ) → Setting
  thread_of line level i = record { line = line; name = (task_at U i).name; number = f level }

  -- the first stands in a line, and its number counts from a level
  abbrev threads_in : (line level : ℕ) → List ℕ → List Setting
  threads_in line level [] = []
  threads_in line level (i ∷ order) =
      thread_of line level i ∷ threads_in (line + 1) (level + 1) order

  each_thread : (P : Setting → Type 0) (line level : ℕ) (order : List ℕ)
      → ((n m i : ℕ) → level ≤ m → among order i ≡ true → P (thread_of n m i))
      → AllByRecursion P (threads_in line level order)
  each_thread P line level [] holds = tt
  each_thread P line level (i ∷ order) holds = (
    holds line level i (omega arith) (or_left _ _ (eq-eqb i i refl)),
    each_thread P (line + 1) (level + 1) order
        (λ n m j from has. holds n m j (omega arith) (or_right _ _ has)),
  )

  name_there : (P : List ℕ → Type 0) (line level : ℕ) (order : List ℕ) (p : ℕ) → p < length order
      → AllByRecursion (λ s. P s.name) (threads_in line level order)
      → P (task_at U (get_or order p 0)).name
  name_there P line level [] p lt each = absurd (omega arith)
  name_there P line level (i ∷ order) zero lt each = each.0
  name_there P line level (i ∷ order) (suc p) lt each =
      name_there P (line + 1) (level + 1) order p (omega arith) each.1

  -- the number of the task at a place
  number_there : (line level : ℕ) (order : List ℕ) (p : ℕ) → p < length order
      → AreDistinct same_setting_name (threads_in line level order)
      → setting_number (threads_in line level order) (task_at U (get_or order p 0)).name
      ≡ f (level + p)
  number_there line level [] p lt apart = absurd (omega arith)
  number_there line level (i ∷ order) zero lt apart =
      rw (same_own (task_at U i).name) (ap f (omega arith))
  number_there line level (i ∷ order) (suc p) lt apart =
      let other = name_there (λ name. same_bytes (task_at U i).name name ≡ false) (line + 1)
      (level + 1) order p (omega arith) apart.0 in
      rw other (number_there (line + 1) (level + 1) order p (omega arith) apart.1
      ∙ ap f (omega arith))

  set_thread : (line level : ℕ) (order : List ℕ) (k : ℕ) → among order k ≡ true
      → is_set (threads_in line level order) (task_at U k).name ≡ true
  set_thread line level [] k has = absurd (true≢false (sym has))
  set_thread line level (i ∷ order) k has = elim (or_cases (i == k) (among order k) has) [
    | inl here ↦ or_left (same_bytes (task_at U i).name (task_at U k).name) _
        (rw (eqb-true i k here) (same_own (task_at U k).name))
    | inr later ↦ or_right _ _ (set_thread (line + 1) (level + 1) order k later)
  ]

  module _ (g : ℕ → ℕ) (order tail : List ℕ) where
    -- ---- the mutexes of some locks
    -- the number of a lock's ceiling
    abbrev ceiling_at : List ℕ → ℕ
    ceiling_at lock = g (unwrap_or (ceiling_of U order lock) 0)

    abbrev mutex_of : ℕ → List ℕ → Setting
    mutex_of line lock = record { line = line; name = lock; number = ceiling_at lock }

    abbrev mutexes_in : ℕ → List (List ℕ) → List Setting
    mutexes_in line [] = []
    mutexes_in line (lock ∷ locks) = mutex_of line lock ∷ mutexes_in (line + 1) locks

    each_mutex : (P : Setting → Type 0) (Q : List ℕ → Type 0)
        → ((n : ℕ) (q : List ℕ) → Q q → P (mutex_of n q))
        → (line : ℕ) (locks : List (List ℕ)) → AllByRecursion Q locks
        → AllByRecursion P (mutexes_in line locks)
    each_mutex P Q holds line [] each = tt
    each_mutex P Q holds line (lock ∷ locks) each =
        (holds line lock each.0, each_mutex P Q holds (line + 1) locks each.1)

    mutexes_apart : (line : ℕ) (locks : List (List ℕ)) → Apart locks
        → AreDistinct same_setting_name (mutexes_in line locks)
    mutexes_apart line [] apart = tt
    mutexes_apart line (lock ∷ locks) apart = (
      each_mutex (λ s. same_bytes lock s.name ≡ false) (λ q. same_bytes lock q ≡ false)
          (λ n q is. is) (line + 1) locks apart.0,
      mutexes_apart (line + 1) locks apart.1,
    )

    set_lock : (line : ℕ) (locks : List (List ℕ)) (lock : List ℕ)
        → is_set (mutexes_in line locks) lock ≡ list_any (same_bytes lock) locks
    set_lock line [] lock = refl
    set_lock line (q ∷ locks) lock = rw (turned q lock, set_lock (line + 1) locks lock) refl

    number_lock : (line : ℕ) (locks : List (List ℕ)) (lock : List ℕ)
        → list_any (same_bytes lock) locks ≡ true
        → setting_number (mutexes_in line locks) lock ≡ ceiling_at lock
    number_lock line [] lock has = absurd (true≢false (sym has))
    number_lock line (q ∷ locks) lock has = elim (cases_Bool (same_bytes q lock)) [
      | inl here ↦ rw here (ap ceiling_at (same_is q lock here))
      | inr other ↦
          rw other (number_lock (line + 1) locks lock (rw (turned lock q, other) at has))
    ]

    -- a lock of the set
    abbrev IsLock : List ℕ → Type 0
    IsLock lock = list_any (same_bytes lock) (locks_of U) ≡ true

    each_lock : (P : List ℕ → Type 0) → ((lock : List ℕ) → IsLock lock → P lock)
        → AllByRecursion P (locks_of U)
    each_lock P holds = recursion_from_All P (locks_of U) (λ k d lt.
        let lock = get_or (locks_of U) k d in
        holds lock (list_any_at (same_bytes lock) (locks_of U) k d lt (same_own lock)))

    -- ---- the text
    -- the mutexes of some locks, and what stands behind them
    abbrev pub mutexes_then : List (List ℕ) → List ℕ
    mutexes_then [] = tail
    mutexes_then (lock ∷ locks) =
        mutex_line lock (option_map g (ceiling_of U order lock)) ++ mutexes_then locks

    -- the threads of some tasks, and what stands behind them
    abbrev pub threads_then : (level : ℕ) → List ℕ → List ℕ
    threads_then level [] = mutexes_then (locks_of U)
    threads_then level (i ∷ is) = thread_line U (f level) i ++ threads_then (level + 1) is

    module _ (kept : IsTaskSet U) (each : IsOrder U order) (start : ℕ)
        (are : AreRising f g start (length order))
        (ends : (line : ℕ) → rows_from (kept_from line (lines_of tail)) ≡ Ok []) where
      -- ---- numbers
      later_differs : (level p m : ℕ) → level ≡ start + p → p < length order → level + 1 ≤ m
          → f level ≡ f m → ⊥
      later_differs level p m at lt past same =
          let there : m ≡ start + (m - start) = omega (arith, at, past) in
          are.apart p (m - start) lt (omega (arith, at, past, there))
          (ap f (sym at) ∙ same ∙ ap f there)

      -- ---- tasks and places
      names_apart : (i j : ℕ) → i < length U → j < length U → (j ≡ i → ⊥)
          → same_bytes (task_at U i).name (task_at U j).name ≡ false
      names_apart i j lt lt' ne = false_from_ne_true _
          (λ same. ne (one_of_name U kept j i lt' lt (sym (same_is _ _ same))))

      among_is : (k : ℕ) → among order k ≡ all_of U k
      among_is k = ap (λ X. X k) (IsOrderOf-among (all_of U) order each)

      inside : (k : ℕ) → among order k ≡ true → k < length U
      inside k has = ltb-true k (length U) (sym (among_is k) ∙ has)

      -- a task of the set stands at a place
      place_in : (k : ℕ) → k < length U → (p : ℕ) × (p < length order) × (get_or order p 0 ≡ k)
      place_in k lt =
          let at = Any-from_list_any (λ x. x == k) order (among_is k ∙ lt-ltb k (length U) lt) in
          (at.0, at.2, get_or_default order at.0 0 at.1 at.2 ∙ at.3 ∙ eqb-true at.1 k at.4)

      abbrev threads : List Setting
      threads = threads_in 1 start order

      threads_apart : (L : Indexes) (line level p : ℕ) (is : List ℕ) → level ≡ start + p
          → p + length is ≤ length order → IsPart L (all_of U)
          → IsOrderOf L is → AreDistinct same_setting_name (threads_in line level is)
          × AreDistinct same_number (threads_in line level is)
      threads_apart L line level p [] at fits part once = (tt, tt)
      threads_apart L line level p (i ∷ is) at fits part once =
          let rest = IsOrderOf-rest L i is once in
          let later = threads_apart (without_index L i) (line + 1) (level + 1) (p + 1) is
          (omega (arith, at)) (omega (arith, fits))
          (without-part_of (length U) L i part) rest in
          let lt = λ (k : ℕ) (has : L k ≡ true). ltb-true k (length U) (part k has) in
          let other = λ (k : ℕ) (has : among is k ≡ true). without-parts L i k
          (sym (ap (λ X. X k) (IsOrderOf-among (without_index L i) is rest)) ∙ has) in (
            (
              each_thread (λ s. same_bytes (task_at U i).name s.name ≡ false) (line + 1) (level + 1)
                  is (λ n m k from has. names_apart i k (lt i (IsOrderOf-head L i is once))
                  (lt k (other k has).0) (other k has).1),
              later.0,
            ),
            (
              each_thread (λ s. (f level == s.number) ≡ false) (line + 1) (level + 1) is
                  (λ n m k from has. ne_eqb (f level) (f m)
                  (later_differs level p m at (omega (arith, fits)) from)),
              later.1,
            ),
          )

      apart : AreDistinct same_setting_name threads × AreDistinct same_number threads
      apart = threads_apart (all_of U) 1 start 0 order (omega arith) (omega arith) (λ k h. h) each

      number_at : (p : ℕ) → p < length order
          → thread_number U threads (get_or order p 0) ≡ f (start + p)
      number_at p lt = number_there 1 start order p lt apart.0

      rising : IsOrderBy U threads order
      rising = record {
        each_once = each;
        rises = λ k lt.
            let number : ℕ → ℕ = thread_number U threads in
            let next : k + 1 < length order = omega (arith, lt, length-map order number) in
            let here : k < length order = omega arith in
            rw (get_or-map number order k 0 0 here, get_or-map number order (k + 1) 0 0 next)
            (omega (
              arith,
              number_at k here,
              number_at (k + 1) next,
              are.rise k (k + 1) (omega arith) next,
            ));
      }

      -- ---- locks and ceilings
      locks_once : AllByRecursion IsName (locks_of U) × Apart (locks_of U)
      locks_once = seen_once (names_in U) []
          (names_named U (recursion_from_All IsValidSheet U kept.valid)) (tt, tt)

      ceiling_is : (lock : List ℕ) → IsLock lock → (place : ℕ) × IsHighestUser U order lock place
          × (ceiling_of U order lock ≡ Some (place + 1))
      ceiling_is lock is =
          let has = has_ceiling lock U order each is in
          let high = (ceiling-highest U lock order has.0).0 has.1 in
          (high.0, high.2, has.1 ∙ ap (λ (n : ℕ). Some n) high.1)

      up_to : (p q : ℕ) → p ≤ q → q < length order → f (start + p) ≤ f (start + q)
      up_to p q le lt = elim (cases_lt p q) [
        | inl less ↦ omega (arith, are.rise p q less lt)
        | inr not ↦
            let same : p ≡ q = omega (arith, le, not) in
            rw same (omega arith)
      ]

      -- the number of a lock's highest user is its ceiling
      top_is : (lock : List ℕ) → IsLock lock → top_number U threads lock ≡ ceiling_at lock
      top_is lock is =
          let number = thread_number U threads in
          let value_of : ℕ → ℕ = λ k. cond (uses (task_at U k) lock) (number k) 0 in
          let high = ceiling_is lock is in
          let i : ℕ = get_or order high.0 0 in
          let top : ℕ = f (start + high.0) in
          let level : ceiling_at lock ≡ top =
          ap (λ o. g (unwrap_or o 0)) high.2 ∙ are.level high.0 in
          let value : value_of i ≡ top = ap (λ b. cond b (number i) 0) high.1.user
          ∙ number_at high.0 high.1.in_order in
          let below : greatest_below (length U) value_of ≤ top =
          greatest_below-le (length U) value_of top
          (λ k lt. elim (cases_Bool (uses (task_at U k) lock)) [
            | inl user ↦
                let at = place_in k lt in
                let here : value_of k ≡ f (start + at.0) = ap (λ b. cond b (number k) 0) user
                ∙ ap number (sym at.2) ∙ number_at at.0 at.1 in
                elim (cases_lt high.0 at.0) [
                  | inl past ↦ absurd (both_ways (uses (task_at U k) lock) (subst (λ j. uses (task_at
                      U j) lock ≡ false) at.2 (high.1.none_above at.0 past at.1)) user)
                  | inr le ↦ rw here (up_to at.0 high.0 le high.1.in_order)
                ]
            | inr none ↦ let here : value_of k ≡ 0 = ap (λ b. cond b (number k) 0) none in
                omega (arith, here)
          ]) in
          let above = le-greatest_below (length U) value_of i
          (inside i (place-among order high.0 high.1.in_order)) in
          omega (arith, above, below, value, level)

      -- ---- what is read
      read_mutexes : (line : ℕ) (locks : List (List ℕ)) → AllByRecursion IsName locks
          → AllByRecursion IsLock locks
          → rows_from (kept_from line (lines_of (mutexes_then locks)))
          ≡ Ok (map Mutex (mutexes_in line locks))
      read_mutexes line [] named are_locks = ends line
      read_mutexes line (lock ∷ locks) named are_locks =
          let high = ceiling_is lock are_locks.0 in
          let is = are.level high.0 in
          let entry : IsEntry
          record { line = line; name = lock; number = g (high.0 + 1) } = record {
            named = named.0;
            some = rw is (are.some high.0 high.1.in_order);
            within = rw is (are.within high.0 high.1.in_order);
          } in
          subst (λ (o : Option ℕ). rows_from (kept_from line (lines_of
          (mutex_line lock (option_map g o) ++ mutexes_then locks)))
          ≡ Ok (Mutex record { line = line; name = lock; number = g (unwrap_or o 0) }
          ∷ map Mutex (mutexes_in (line + 1) locks))) (sym high.2)
          (entry_read false _ entry (mutexes_then locks) _
          (read_mutexes (line + 1) locks named.1 are_locks.1))

      read_threads : (line level p : ℕ) (is : List ℕ) → AllByRecursion (λ i. i < length U) is
          → level ≡ start + p → p + length is ≤ length order
          → (n : ℕ) × (rows_from (kept_from line (lines_of (threads_then level is)))
          ≡ Ok (map Thread (threads_in line level is) ++ map Mutex (mutexes_in n (locks_of U))))
      read_threads line level p [] within at fits =
          (line, read_mutexes line (locks_of U) locks_once.0 (each_lock IsLock (λ lock is. is)))
      read_threads line level p (i ∷ is) within at fits =
          let later = read_threads (line + 1) (level + 1) (p + 1) is within.1 (omega (arith, at))
          (omega (arith, fits)) in
          let here : p < length order = omega (arith, fits) in
          let entry : IsEntry (thread_of line level i) = record {
            named = (valid_at U i kept within.0).named;
            some = rw at (are.some p here);
            within = rw at (are.within p here);
          } in
          (later.0, entry_read true _ entry (threads_then (level + 1) is) _ later.1)

      -- ---- no reason why it is none
      module _ (n : ℕ) where
        abbrev mutexes : List Setting
        mutexes = mutexes_in n (locks_of U)

        no_line : line_fault U threads mutexes ≡ None
        no_line =
            let tasks = find_none (is_no_task U) threads
            (each_thread (λ s. is_no_task U s ≡ false) 1 start order (λ line level k from has.
            rw (
              place_of_name U kept.distinct k (inside k has),
              lt-ltb k (length U) (inside k has),
            ) refl)) in
            let held = find_none (is_no_lock U) mutexes
            (each_mutex (λ s. is_no_lock U s ≡ false) IsLock (λ line lock is.
            rw (lt-ltb _ _ (some_place (same_bytes lock) (locks_of U) is)) refl) n (locks_of U)
            (each_lock IsLock (λ lock is. is))) in
            let names = again_none same_setting_name [] threads apart.0 in
            let lock_names = again_none same_setting_name [] mutexes
            (mutexes_apart n (locks_of U) locks_once.1) in
            let numbers = again_none same_number [] threads apart.1 in
            rw (tasks, held, names, lock_names, numbers) refl

        no_name : name_fault (wrong_lock U (locks_of U) threads mutexes) false U threads mutexes ≡ None
        no_name =
            let tasks = find_none (λ (t : Task). not (is_set threads t.name)) U
            (recursion_from_All (λ (t : Task). not (is_set threads t.name) ≡ false) U (λ k d lt.
            ap (λ (t : Task). not (is_set threads t.name)) (get_or_default U k d no_task lt)
            ∙ ap not (set_thread 1 start order k (among_is k ∙ lt-ltb k (length U) lt)))) in
            let held = mutexless_none (locks_of U) mutexes
            (find_none (λ lock. not (is_set mutexes lock)) (locks_of U)
            (each_lock (λ lock. not (is_set mutexes lock) ≡ false)
            (λ lock is. ap not (set_lock n (locks_of U) lock ∙ is)))) in
            let right = wrong_none U (locks_of U) threads mutexes
            (find_none (λ lock. not (setting_number mutexes lock == top_number U threads lock))
            (locks_of U)
            (each_lock (λ lock. not (setting_number mutexes lock == top_number U threads lock) ≡ false)
            (λ lock is. ap not (eq-eqb (setting_number mutexes lock) (top_number U threads lock)
            (number_lock n (locks_of U) lock is ∙ sym (top_is lock is)))))) in
            rw (tasks, held, right) refl

      pub comes_back_by : IsNodeOrder U (threads_then start order) order
      comes_back_by =
          let read = read_threads 1 start 0 order (order-below (length U) (all_of U) order each
          (λ k h. h)) (omega arith) (omega arith) in
          let mutexes = mutexes_in read.0 (locks_of U) in
          let lines = threads_sorted threads mutexes in
          record {
            sound = ap (rows_fault false U) read.1
                ∙ rw (lines, mutexes_sorted threads mutexes, no_line read.0) (no_name read.0);
            rows = map Thread threads ++ map Mutex mutexes;
            read = read.1;
            by_numbers = rw lines rising;
          }

-- ---- from a base on
module _ (U : List Task) (base : ℕ) (order : List ℕ) where
  mutexes_from : (locks : List (List ℕ)) → mutex_lines_from U base order locks
      ≡ mutexes_then U (λ n. n) (priority_of base) order [] locks
  mutexes_from [] = refl
  mutexes_from (lock ∷ locks) =
      ap (λ t. mutex_line lock (option_map (priority_of base) (ceiling_of U order lock)) ++ t)
      (mutexes_from locks)

  threads_from : (level : ℕ) (is : List ℕ)
      → thread_lines U level is ++ mutex_lines_from U base order (locks_of U)
      ≡ threads_then U (λ n. n) (priority_of base) order [] level is
  threads_from level [] = mutexes_from (locks_of U)
  threads_from level (i ∷ is) =
      append_assoc (thread_line U level i) (thread_lines U (level + 1) is)
      (mutex_lines_from U base order (locks_of U))
      ∙ ap (λ t. thread_line U level i ++ t) (threads_from (level + 1) is)

  pub comes_back : IsTaskSet U → IsOrder U order → 1 ≤ base
      → base + length order ≤ NUMBER_LIMIT + 1 → IsNodeOrder U (settings_from U base order) order
  comes_back kept each some few =
      let are : AreRising (λ n. n) (priority_of base) base (length order) = record {
        some = λ p lt. omega (arith, some);
        within = λ p lt. omega (arith, few, lt);
        rise = λ p q lt lt'. omega (arith, lt);
        apart = λ p q here lt same. omega (arith, lt, same);
        level = λ p. omega arith;
      } in
      rw (threads_from base order) (comes_back_by U (λ n. n) (priority_of base) order [] kept each base
      are (λ line. refl))
