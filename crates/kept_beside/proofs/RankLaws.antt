-- The priority at which the ceiling protocol has a job run is one at which it may.
use Rattle.std.proofs.Common.{ℕ, suc, ◌+◌, ◌-◌, ◌<◌, ◌≤◌, ◌≡◌, inl, inr, refl, sym, ap, ◌∙◌, arith}
use Rattle.std.proofs.Common.{Bool, true, ◌==◌, cond, List, [], ◌∷◌, length, Option, Some, None}
use Rattle.std.proofs.Common.{Contains, unwrap_or}
use Rattle.std.proofs.lemmas.Bool.{cases_Bool, cases_lt, eq-eqb, or_cases, or_left, or_right, true≢false}
use Rattle.std.proofs.lemmas.List.Folds.{list_any_at}
use Rattle.std.specs.List.{list_any}
use Rattle.std.specs.Option.{option_or}
use Rattle.std.specs.Cmp.Lexicographic.{same_text}
use Rattle.task_sheet.proofs.Common.{Task, CriticalSection, same_bytes, task_at, names_lock, uses}
use Rattle.task_sheet.proofs.Common.{ceiling_from}
use Rattle.task_sheet.proofs.Below.{greatest_of-some}
use Rattle.task_sheet.proofs.NameLaws.{same_own}
use Rattle.assignment.specs.Places.{PlaceData}
use Rattle.assignment.specs.Placings.{tasks_of_places}
use Rattle.ceiling_kernel.specs.Tick.{Node, Job, active_of, ceiling, held_ceiling, is_inside, job_at}
use Rattle.ceiling_kernel.specs.Tick.{level_of_job, node_in, top_ceiling}
use Rattle.ceiling_kernel.specs.Behaviours.{AreWithinSheets}
use Rattle.ceiling_kernel.proofs.BehaviourLaws.{uses_of}
use Rattle.observed.specs.Promises.{number_at, promises_from, promises_of}
use Rattle.observed.specs.Ranks.{ceiling_in, is_ceiling_in, may_run_at}
use Rattle.observed.specs.declared.promises.Promise.{Promise}
use Rattle.kept_beside.specs.Beside.{Rise}

-- ---- the ceiling of a lock, as a level and as a number
module _ (U : List Task) (numbers : List ℕ) (places : List PlaceData) (rise : Rise numbers places)
    (lock : List ℕ) where
  -- of places from a level on, the number of the highest user
  abbrev top : ℕ → List PlaceData → ℕ
  top low ps = ceiling_in U (promises_from U numbers low ps) lock

  abbrev level : ℕ → List PlaceData → Option ℕ
  level low ps = ceiling_from (low + 1) U (tasks_of_places ps) lock

  -- a level that some user has, counted from 1
  record IsTop (low : ℕ) (ps : List PlaceData) (c : ℕ) : Type 0 where
    pub from : low < c
    pub to : c ≤ low + length ps
    pub number : top low ps ≡ number_at numbers (c - 1)

  abbrev OfTop : (low : ℕ) → List PlaceData → Option ℕ → Type 0
  OfTop low ps None = top low ps ≡ 0
  OfTop low ps (Some c) = IsTop low ps c

  top_is : (low : ℕ) (ps : List PlaceData) → low + length ps ≤ length places → OfTop low ps (level low ps)
  top_is low [] le = refl
  top_is low (p ∷ ps) le =
      let rest : OfTop (low + 1) ps (level (low + 1) ps) = top_is (low + 1) ps (omega (arith, le)) in
      elim (level (low + 1) ps) as (λ o. OfTop (low + 1) ps o
      → OfTop low (p ∷ ps) (option_or o (cond (uses (task_at U p.task) lock) (Some (low + 1)) None))) [
        | Some c ↦ λ is.
            let more : number_at numbers low ≤ number_at numbers (c - 1) =
            rise low (c - 1) (omega (arith, is.from)) (omega (arith, is.from, is.to, le)) in
            record {
              from = omega (arith, is.from);
              to = omega (arith, is.to);
              number = elim (cases_Bool (uses (task_at U p.task) lock)) [
                | inl so ↦ rw so (omega (arith, is.number, more))
                | inr not_so ↦ rw not_so (omega (arith, is.number))
              ];
            }
        | None ↦ λ none. elim (cases_Bool (uses (task_at U p.task) lock)) [
          | inl so ↦ rw so (record {
            from = omega arith;
            to = omega arith;
            number =
                let same : low ≡ low + 1 - 1 = omega arith in
                rw so (omega (arith, none, ap (number_at numbers) same));
          })
          | inr not_so ↦ rw not_so (rw not_so (omega (arith, none)))
        ]
      ] rest

  pub ceiling_is : 0 < ceiling (node_in U (tasks_of_places places)) lock
      → ceiling_in U (promises_of U numbers places) lock
      ≡ number_at numbers (ceiling (node_in U (tasks_of_places places)) lock - 1)
  ceiling_is some =
      elim (level 0 places) as (λ o. OfTop 0 places o → 0 < unwrap_or o 0
      → top 0 places ≡ number_at numbers (unwrap_or o 0 - 1)) [
        | Some c ↦ λ is some. is.number
        | None ↦ λ none some. absurd (omega (arith, some))
      ] (top_is 0 places (omega arith)) some

-- ---- the lock that gives a job its priority
-- of some locks one has the highest ceiling
pub record HasTop (node : Node) (ss : List CriticalSection) (c : ℕ) : Type 0 where
  pub lock : List ℕ
  pub ceiling_is : ceiling node lock ≡ c
  pub named : list_any (λ s. names_lock s lock) ss ≡ true

named_own : (lock : List ℕ) (locks : List (List ℕ)) → Contains locks lock
    → list_any (λ name. same_bytes name lock) locks ≡ true
named_own lock locks has =
    list_any_at (λ (name : List ℕ). same_bytes name lock) locks has.0 lock has.1
    (ap (λ (name : List ℕ). same_bytes name lock) has.2 ∙ same_own lock)

held_of : (node : Node) (e : ℕ) (ss : List CriticalSection) → 0 < held_ceiling node ss e
    → HasTop node ss (held_ceiling node ss e)
held_of node e ss some =
    elim (greatest_of-some (λ (s : CriticalSection). cond (is_inside s e) (top_ceiling node s.locks) 0) ss) [
      | inl none ↦ absurd (omega (arith, some, none))
      | inr found ↦ elim (cases_Bool (is_inside found.0 e)) [
        | inr out ↦
            let none : cond (is_inside found.0 e) (top_ceiling node found.0.locks) 0 ≡ 0 = rw out refl in
            absurd (omega (arith, some, found.2, none))
        | inl in_ ↦
            let own : cond (is_inside found.0 e) (top_ceiling node found.0.locks) 0
            ≡ top_ceiling node found.0.locks = rw in_ refl in
            elim (greatest_of-some (ceiling node) found.0.locks) [
              | inl none ↦ absurd (omega (arith, some, found.2, own, none))
              | inr top ↦ record {
                lock = top.0;
                ceiling_is = omega (arith, found.2, own, top.2);
                named = list_any_at (λ (s : CriticalSection). names_lock s top.0) ss found.1.0 found.0
                    found.1.1 (ap (λ (s : CriticalSection). names_lock s top.0) found.1.2
                    ∙ named_own top.0 found.0.locks top.1);
              }
            ]
      ]
    ]

-- ---- a task that uses a lock may run at its ceiling
ceiling_among : (U : List Task) (promises : List Promise) (number : ℕ) (lock : List ℕ)
    → ceiling_in U promises lock ≡ number → (locks : List (List ℕ))
    → list_any (λ name. same_bytes name lock) locks ≡ true
    → list_any (λ name. ceiling_in U promises name == number) locks ≡ true
ceiling_among U promises number lock is [] names = absurd (true≢false (sym names))
ceiling_among U promises number lock is (q ∷ qs) names =
    elim (or_cases (same_bytes q lock) (list_any (λ name. same_bytes name lock) qs) names) [
      | inl same ↦
          let own : ceiling_in U promises q ≡ number =
          ap (ceiling_in U promises) (same_text q lock (sym same)) ∙ is in
          or_left (ceiling_in U promises q == number)
          (list_any (λ name. ceiling_in U promises name == number) qs)
          (eq-eqb (ceiling_in U promises q) number own)
      | inr later ↦ or_right (ceiling_in U promises q == number)
          (list_any (λ name. ceiling_in U promises name == number) qs)
          (ceiling_among U promises number lock is qs later)
    ]

user_may : (U : List Task) (promises : List Promise) (number : ℕ) (lock : List ℕ)
    → ceiling_in U promises lock ≡ number → (sections : List CriticalSection)
    → list_any (λ s. names_lock s lock) sections ≡ true
    → list_any (λ s. is_ceiling_in U promises number s) sections ≡ true
user_may U promises number lock is [] names = absurd (true≢false (sym names))
user_may U promises number lock is (s ∷ ss) names =
    elim (or_cases (names_lock s lock) (list_any (λ s. names_lock s lock) ss) names) [
      | inl here ↦ or_left (is_ceiling_in U promises number s)
          (list_any (λ s. is_ceiling_in U promises number s) ss)
          (ceiling_among U promises number lock is s.locks here)
      | inr later ↦ or_right (is_ceiling_in U promises number s)
          (list_any (λ s. is_ceiling_in U promises number s) ss)
          (user_may U promises number lock is ss later)
    ]

-- ---- the priority in a tick
module _ (U : List Task) (numbers : List ℕ) (places : List PlaceData) (rise : Rise numbers places)
    (jobs : List Job) (within : AreWithinSheets (node_in U (tasks_of_places places)) jobs) where
  abbrev node : Node
  node = node_in U (tasks_of_places places)

  -- a job of a task that stands at a level, with what is promised of it
  pub may_run : (executed : ℕ → ℕ) (p level : ℕ) (promise : Promise)
      → level_of_job node jobs p ≡ suc level → promise.number ≡ number_at numbers level
      → promise.task ≡ (job_at jobs p).task
      → may_run_at U (promises_of U numbers places) promise
      (number_at numbers (active_of node jobs executed p - 1)) ≡ true
  may_run executed p level promise stands number task =
      let held : ℕ = held_ceiling node (job_at jobs p).sections (executed p) in
      let n : ℕ = number_at numbers (active_of node jobs executed p - 1) in
      let asks : Bool = list_any (λ s. is_ceiling_in U (promises_of U numbers places) n s)
      (task_at U promise.task).sections in
      elim (cases_lt (level_of_job node jobs p) held) [
        | inr own ↦
            let at : active_of node jobs executed p - 1 ≡ level = omega (arith, own, stands) in
            or_left (promise.number == n) asks
            (eq-eqb promise.number n (number ∙ ap (number_at numbers) (sym at)))
        | inl raised ↦
            let top = held_of node (executed p) (job_at jobs p).sections (omega (arith, raised)) in
            let at : active_of node jobs executed p ≡ ceiling node top.lock =
            omega (arith, raised, top.ceiling_is) in
            let is : ceiling_in U (promises_of U numbers places) top.lock ≡ n =
            ceiling_is U numbers places rise top.lock (omega (arith, raised, top.ceiling_is))
            ∙ ap (λ c. number_at numbers (c - 1)) (sym at) in
            let own : list_any (λ s. names_lock s top.lock) (task_at U (job_at jobs p).task).sections ≡ true =
            uses_of node jobs within p top.lock top.named in
            let mine = user_may U (promises_of U numbers places) n top.lock is
            (task_at U (job_at jobs p).task).sections own in
            or_right (promise.number == n) asks
            (ap (λ k. list_any (λ s. is_ceiling_in U (promises_of U numbers places) n s)
            (task_at U k).sections) task ∙ mine)
      ]
