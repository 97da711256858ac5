-- The first of the sections that block longest.
use Rattle.std.proofs.Common.{◌≡◌, ◌≢◌, ℕ, zero, suc, ◌+◌, ◌<◌, inl, inr, Bool, true, false, ◌&&◌}
use Rattle.std.proofs.Common.{◌||◌, List, [], ◌∷◌, length, slice_get, Some, None, is_some, refl}
use Rattle.std.proofs.Common.{sym, ◌∙◌, ap, arith}
use Rattle.std.specs.List.{find, list_any}
use Rattle.std.proofs.lemmas.Bool.{cases_Bool, cases_eq, both_ways, and_right}
use Rattle.std.proofs.lemmas.Option.{same_Some, slice_get_within, slice_get-get_or}
use Rattle.std.proofs.lemmas.Option.{get_or_from_slice_get}
use Rattle.task_sheet.proofs.Common.{CriticalSection, Task, task_at, Indexes, with_index}
use Rattle.task_sheet.proofs.Common.{some_below, uses, reaches, blocking_of}
use Rattle.task_sheet.specs.Demand.{Blocks}
use Rattle.task_sheet.proofs.Below.{some_below-none}
use Rattle.task_sheet.proofs.BlockingLaws.{blocking-above, blocking-some}
use Rattle.explain.specs.Blocking.{BlockerData, has_user, reached_lock, BlocksAt, IsFirstBlocker}
use Rattle.explain.specs.Blocking.{HasNoneBefore, IsFirstOf}

-- ---- a section is reached where a lock of it has a user
module _ (U : List Task) (X : Indexes) where
  abbrev reach : List (List ℕ) → Bool
  reach locks = some_below (length U) (λ k. X k && list_any (λ lock. uses (task_at U k) lock) locks)

  -- one lock more: the tasks that use it, and those that use one of the others
  reach-more : (lock : List ℕ) (locks : List (List ℕ)) (n : ℕ)
      → some_below n (λ k. X k && list_any (λ l. uses (task_at U k) l) (lock ∷ locks))
      ≡ (some_below n (λ k. X k && uses (task_at U k) lock)
      || some_below n (λ k. X k && list_any (λ l. uses (task_at U k) l) locks))
  reach-more lock locks zero = refl
  reach-more lock locks (suc n) = rw (reach-more lock locks n) (split
      (some_below n (λ k. X k && uses (task_at U k) lock))
      (some_below n (λ k. X k && list_any (λ l. uses (task_at U k) l) locks)) (X n)
      (uses (task_at U n) lock) (list_any (λ l. uses (task_at U n) l) locks))
    where
      split : (s r x u v : Bool) → ((s || r) || (x && (u || v)))
          ≡ ((s || (x && u)) || (r || (x && v)))
      split true r x u v = refl
      split false r false u v = refl
      split false true true true v = refl
      split false true true false v = refl
      split false false true u v = refl

  reach-found : (locks : List (List ℕ)) → reach locks ≡ is_some (find (has_user U X) locks)
  reach-found [] = some_below-none (length U) _ (λ k lt. and_right (X k) false refl)
  reach-found (l ∷ locks) = reach-more l locks (length U) ∙ elim (cases_Bool (has_user U X l)) [
    | inl used ↦ rw used refl
    | inr unused ↦ rw unused (reach-found locks)
  ]

  pub lock-reaches : (s : CriticalSection) (lock : List ℕ) → reached_lock U X s ≡ Some lock
      → reaches U X s ≡ true
  lock-reaches s lock found = reach-found s.locks ∙ ap is_some found

  pub no_lock-reaches : (s : CriticalSection) → reached_lock U X s ≡ None → ¬ (reaches U X s ≡ true)
  no_lock-reaches s none = both_ways _ (reach-found s.locks ∙ ap is_some none)

-- ---- the sections of a task, one after the other
-- one more, which is shorter or isn't reached
pub HasNoneBefore-more : (U : List Task) (X : Indexes) (task len place : ℕ) (s : CriticalSection)
    → HasNoneBefore U X task len place → slice_get (task_at U task).sections place ≡ Some s
    → (reaches U X s ≡ true → s.len ≢ len) → HasNoneBefore U X task len (place + 1)
HasNoneBefore-more U X task len place s before at here =
    λ k other lt there reached. elim (cases_eq k place) [
      | inl e ↦
          let same : s ≡ other = same_Some s other
          (sym at ∙ sym (ap (λ n. slice_get (task_at U task).sections n) e) ∙ there) in
          (rw same at here) reached
      | inr ne ↦ before k other (omega arith) there reached
    ]

-- ---- the tasks, by rank
BlocksAt-Blocks : (U : List Task) (i : ℕ) (H : Indexes) (task place : ℕ) (s : CriticalSection)
    → BlocksAt U i H task place s → Blocks U i H s
BlocksAt-Blocks U i H task place s b =
    let lt = slice_get_within (task_at U task).sections place s b.section in
    record {
      task = task;
      in_set = b.in_set;
      outside = b.outside;
      section = (place, lt, get_or_from_slice_get (task_at U task).sections place s s b.section);
      reached = b.reached;
    }

-- no section of the tasks of rank below n, outside X, is as long
abbrev pub NoneAmong : List Task → Indexes → ℕ → ℕ → Type 0
NoneAmong U X len n =
    (k : ℕ) → k < n → X k ≡ false → HasNoneBefore U X k len (length (task_at U k).sections)

pub NoneAmong-more : (U : List Task) (X : Indexes) (len n : ℕ) → NoneAmong U X len n
    → (X n ≡ false → HasNoneBefore U X n len (length (task_at U n).sections))
    → NoneAmong U X len (n + 1)
NoneAmong-more U X len n before here = λ k lt outside. elim (cases_eq k n) [
  | inl e ↦ rw e (here (rw e at outside))
  | inr ne ↦ before k (omega arith) outside
]

first-blocks : (U : List Task) (i : ℕ) (H : Indexes) (owner : ℕ) (b : BlockerData)
    → owner < length U → with_index H i owner ≡ false
    → NoneAmong U (with_index H i) (blocking_of U i H) owner
    → IsFirstOf U (with_index H i) owner (blocking_of U i H) b → IsFirstBlocker U i H b
first-blocks U i H owner b lt outside before is =
    let X = with_index H i in
    let longest = blocking_of U i H in
    record {
      section = is.section;
      blocks = record {
        in_set = rw is.owner lt;
        outside = rw is.owner outside;
        section = rw is.owner is.placed;
        reached = lock-reaches U X is.section b.lock is.lock;
      };
      len = is.len_is ∙ sym is.long;
      longest = is.len_is;
      first = λ task place s blocks earlier.
          let most = blocking-above U i H s (BlocksAt-Blocks U i H task place s blocks) in
          let shorter : s.len ≢ longest = elim earlier [
            | inl lower ↦ before task (rw is.owner at lower) blocks.outside place s
                (slice_get_within (task_at U task).sections place s blocks.section) blocks.section
                blocks.reached
            | inr same ↦
                let e : task ≡ owner = same.0 ∙ is.owner in
                is.first place s same.1 (rw e at blocks.section) blocks.reached
          ] in
          rw is.len_is (omega (arith, most, shorter));
      lock = is.lock;
    }

none-blocks : (U : List Task) (i : ℕ) (H : Indexes)
    → NoneAmong U (with_index H i) (blocking_of U i H) (length U) → blocking_of U i H ≡ 0
none-blocks U i H none = elim (blocking-some U i H) [
  | inl nothing ↦ nothing
  | inr some ↦
      let s = some.0 in
      let b = some.1 in
      let place = b.section.0 in
      let at : slice_get (task_at U b.task).sections place ≡ Some s =
      slice_get-get_or (task_at U b.task).sections place s b.section.1
      ∙ ap (λ (x : CriticalSection). Some x) b.section.2 in
      absurd (none b.task b.in_set b.outside place s b.section.1 at b.reached (sym some.2))
]

-- ---- the same of the members X and the length that the search holds
pub first-found : (U : List Task) (i : ℕ) (H X : Indexes) (len owner : ℕ) (b : BlockerData)
    → X ≡ with_index H i → len ≡ blocking_of U i H → owner < length U → X owner ≡ false
    → NoneAmong U X len owner
    → IsFirstOf U X owner len b → IsFirstBlocker U i H b
first-found U i H X len owner b same long lt outside before is =
    first-blocks U i H owner b lt (rw same at outside) (rw (same, long) at before)
    (rw (same, long) at is)

pub none-found : (U : List Task) (i : ℕ) (H X : Indexes) (len : ℕ) → X ≡ with_index H i
    → len ≡ blocking_of U i H → NoneAmong U X len (length U) → blocking_of U i H ≡ 0
none-found U i H X len same long none = none-blocks U i H (rw (same, long) at none)
