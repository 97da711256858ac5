-- Sets without doubts.
use Rattle.std.proofs.Common.{◌≡◌, ℕ, ◌≤◌, Bool, true, false, nat_lt, List, [], ◌∷◌, ◌++◌, refl, arith}
use Rattle.std.specs.List.{AllByRecursion}
use Rattle.std.proofs.lemmas.Bool.{le-ltb, ltb-false}
use Rattle.task_sheet.specs.Sheet.{CriticalSection, Task, names_said}
use Rattle.task_sheet.specs.Demand.{limit_of}
use Rattle.doubts.specs.Doubts.{deciding_where, doubts_of, is_known, is_lone, is_unweighed, listed, lone_in}
use Rattle.doubts.specs.Doubts.{lone_in_sections, lone_locks, names_deciding, no_such_names, rise}
use Rattle.doubts.specs.Doubts.{rises, unknown_in, unknown_of}
use Rattle.doubts.specs.Plain.{AreKnown, AreShared, Falls, IsPlain}
use Rattle.doubts.specs.declared.doubt.Doubt.{Doubt}
use Rattle.doubts.specs.declared.doubt.Doubt.TheVariants.{LoneLock, NoSuchName, NamesDecide}

-- both of two lists are empty
split : (xs ys : List Doubt) → xs ++ ys ≡ [] → (xs ≡ []) × (ys ≡ [])
split [] ys none = (refl, none)
split (x ∷ xs) ys none = cc

joined : (xs ys : List Doubt) → xs ≡ [] → ys ≡ [] → xs ++ ys ≡ []
joined xs ys first then = rw first then

module _ (U : List Task) where
  -- ---- locks
  shared_first : (task lock : List ℕ) (locks : List (List ℕ)) (b : Bool) → is_lone U lock ≡ b
      → lone_in U task (lock ∷ locks) ≡ [] → (is_lone U lock ≡ false) × (lone_in U task locks ≡ [])
  shared_first task lock locks true is none =
      let bad : LoneLock task lock ∷ lone_in U task locks ≡ [] = rw is at none in cc
  shared_first task lock locks false is none = (is, rw is at none)

  shared_in : (task : List ℕ) (locks : List (List ℕ)) → lone_in U task locks ≡ []
      → AllByRecursion (λ lock. is_lone U lock ≡ false) locks
  shared_in task [] none = tt
  shared_in task (lock ∷ locks) none =
      let step = shared_first task lock locks (is_lone U lock) refl none in
      (step.0, shared_in task locks step.1)

  none_in : (task : List ℕ) (locks : List (List ℕ))
      → AllByRecursion (λ lock. is_lone U lock ≡ false) locks → lone_in U task locks ≡ []
  none_in task [] all = refl
  none_in task (lock ∷ locks) all = rw all.0 (none_in task locks all.1)

  shared_of : (task : List ℕ) (sections : List CriticalSection) → lone_in_sections U task sections ≡ []
      → AllByRecursion (λ (s : CriticalSection). AllByRecursion (λ lock. is_lone U lock ≡ false)
      s.locks) sections
  shared_of task [] none = tt
  shared_of task (s ∷ sections) none =
      let parts = split (lone_in U task s.locks) (lone_in_sections U task sections) none in
      (shared_in task s.locks parts.0, shared_of task sections parts.1)

  none_of : (task : List ℕ) (sections : List CriticalSection)
      → AllByRecursion (λ (s : CriticalSection). AllByRecursion (λ lock. is_lone U lock ≡ false)
      s.locks) sections
      → lone_in_sections U task sections ≡ []
  none_of task [] all = refl
  none_of task (s ∷ sections) all =
      joined (lone_in U task s.locks) (lone_in_sections U task sections)
      (none_in task s.locks all.0) (none_of task sections all.1)

  all_shared : (tasks : List Task) → lone_locks U tasks ≡ [] → AllByRecursion (AreShared U) tasks
  all_shared [] none = tt
  all_shared (t ∷ tasks) none =
      let parts = split (lone_in_sections U t.name t.sections) (lone_locks U tasks) none in
      (shared_of t.name t.sections parts.0, all_shared tasks parts.1)

  none_lone : (tasks : List Task) → AllByRecursion (AreShared U) tasks → lone_locks U tasks ≡ []
  none_lone [] all = refl
  none_lone (t ∷ tasks) all =
      joined (lone_in_sections U t.name t.sections) (lone_locks U tasks)
      (none_of t.name t.sections all.0) (none_lone tasks all.1)

  -- ---- names to outrank
  known_first : (task name : List ℕ) (names : List (List ℕ)) (b : Bool) → is_known U name ≡ b
      → unknown_in U task (name ∷ names) ≡ []
      → (is_known U name ≡ true) × (unknown_in U task names ≡ [])
  known_first task name names true is none = (is, rw is at none)
  known_first task name names false is none =
      let bad : NoSuchName task name ∷ unknown_in U task names ≡ [] = rw is at none in cc

  known_in : (task : List ℕ) (names : List (List ℕ)) → unknown_in U task names ≡ []
      → AllByRecursion (λ name. is_known U name ≡ true) names
  known_in task [] none = tt
  known_in task (name ∷ names) none =
      let step = known_first task name names (is_known U name) refl none in
      (step.0, known_in task names step.1)

  none_unknown_in : (task : List ℕ) (names : List (List ℕ))
      → AllByRecursion (λ name. is_known U name ≡ true) names → unknown_in U task names ≡ []
  none_unknown_in task [] all = refl
  none_unknown_in task (name ∷ names) all = rw all.0 (none_unknown_in task names all.1)

  all_known : (tasks : List Task) → no_such_names U tasks ≡ [] → AllByRecursion (AreKnown U) tasks
  all_known [] none = tt
  all_known (t ∷ tasks) none =
      let parts = split (unknown_of U t) (no_such_names U tasks) none in
      (known_in t.name (names_said t.outranks) parts.0, all_known tasks parts.1)

  none_unknown : (tasks : List Task) → AllByRecursion (AreKnown U) tasks → no_such_names U tasks ≡ []
  none_unknown [] all = refl
  none_unknown (t ∷ tasks) all =
      joined (unknown_of U t) (no_such_names U tasks)
      (none_unknown_in t.name (names_said t.outranks) all.0) (none_unknown tasks all.1)

-- ---- names that decide
not_longer : (t u : Task) (above : List Task) (b : Bool) → nat_lt (limit_of t) (limit_of u) ≡ b
    → listed (rise t (u ∷ above)) ≡ [] → limit_of u ≤ limit_of t
not_longer t u above true is none =
    let bad : NamesDecide t.name u.name ∷ [] ≡ [] = rw is at none in cc
not_longer t u above false is none = ltb-false (limit_of t) (limit_of u) is

no_rise : (t u : Task) (above : List Task) → limit_of u ≤ limit_of t
    → listed (rise t (u ∷ above)) ≡ []
no_rise t u above le =
    let is : nat_lt (limit_of t) (limit_of u) ≡ false = le-ltb (limit_of t) (limit_of u) le in
    rw is refl

lower_still : (above : List Task) (a b : ℕ) → b ≤ a
    → AllByRecursion (λ (v : Task). limit_of v ≤ b) above
    → AllByRecursion (λ (v : Task). limit_of v ≤ a) above
lower_still [] a b le all = tt
lower_still (v ∷ above) a b le all = (omega (arith, all.0, le), lower_still above a b le all.1)

falls : (U : List Task) → rises U ≡ [] → Falls U
falls [] none = tt
falls (t ∷ []) none = (tt, tt)
falls (t ∷ u ∷ above) none =
    let parts = split (listed (rise t (u ∷ above))) (rises (u ∷ above)) none in
    let rest = falls (u ∷ above) parts.1 in
    let le = not_longer t u above (nat_lt (limit_of t) (limit_of u)) refl parts.0 in
    ((le, lower_still above (limit_of t) (limit_of u) le rest.0), rest)

none_rises : (U : List Task) → Falls U → rises U ≡ []
none_rises [] all = refl
none_rises (t ∷ []) all = refl
none_rises (t ∷ u ∷ above) all =
    joined (listed (rise t (u ∷ above))) (rises (u ∷ above)) (no_rise t u above all.0.0)
    (none_rises (u ∷ above) all.1)

none_decide : (U : List Task) (b : Bool) → is_unweighed U ≡ b → (is_unweighed U ≡ true → Falls U)
    → names_deciding U ≡ []
none_decide U true is all = rw is (none_rises U (all is))
none_decide U false is all = rw is refl

decided_is : (b : Bool) (U : List Task) → deciding_where b U ≡ [] → b ≡ true
    → is_unweighed U ≡ true → Falls U
decided_is true U none is weighed = falls U (rw weighed at none)
decided_is false U none is weighed = cc

none_where : (b : Bool) (U : List Task) → (b ≡ true → is_unweighed U ≡ true → Falls U)
    → deciding_where b U ≡ []
none_where true U all = none_decide U (is_unweighed U) refl (all refl)
none_where false U all = refl

-- ---- all
pub plain_is : (is_unpreferred : Bool) (U : List Task) → doubts_of is_unpreferred U ≡ []
    → IsPlain is_unpreferred U
plain_is b U none =
    let whole = split (lone_locks U U ++ no_such_names U U) (deciding_where b U) none in
    let parts = split (lone_locks U U) (no_such_names U U) whole.0 in
    record {
      shared = all_shared U U parts.0;
      known = all_known U U parts.1;
      decided = decided_is b U whole.1;
    }

pub none_if_plain : (is_unpreferred : Bool) (U : List Task) → IsPlain is_unpreferred U
    → doubts_of is_unpreferred U ≡ []
none_if_plain b U plain =
    joined (lone_locks U U ++ no_such_names U U) (deciding_where b U)
    (joined (lone_locks U U) (no_such_names U U) (none_lone U U plain.shared)
    (none_unknown U U plain.known))
    (none_where b U plain.decided)
