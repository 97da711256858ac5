-- What a covered section has of the one that covers it.
use Rattle.std.proofs.Common.{ℕ, ◌+◌, ◌<◌, ◌≤◌, ◌≡◌, inl, inr, sym, ap, subst, arith, if◌then◌else◌}
use Rattle.std.proofs.Common.{true, nat_lt, List, [], ◌∷◌, length}
use Rattle.std.proofs.lemmas.Bool.{cases_lt, cases_Bool, true≢false, or_cases, or_right, and_parts}
use Rattle.std.proofs.lemmas.Bool.{and_from, ltb-true, lt-ltb}
use Rattle.std.proofs.lemmas.List.{get_or_past}
use Rattle.std.specs.List.{list_any}
use Rattle.std.specs.Cmp.Lexicographic.{same_text}
use Rattle.task_sheet.proofs.Common.{CriticalSection, same_bytes, Indexes, names_lock, uses}
use Rattle.task_sheet.proofs.Common.{reaches, greatest_of}
use Rattle.task_sheet.proofs.NameLaws.{same_own}
use Rattle.ceiling_kernel.specs.Behaviours.{IsCovered, AreTaken, IsSpanned, AreSpanned}
use Rattle.ceiling_kernel.specs.Behaviours.{IsWithinSheet, AreWithinSheets, AreApart, TakeTurns}
use Rattle.ceiling_kernel.specs.Tick.{Node, Job, no_job, job_at, job_task, ceiling, top_ceiling}
use Rattle.ceiling_kernel.specs.Tick.{is_inside, held_ceiling}

pub taken_apart : (declared : List CriticalSection) (from executes : ℕ) (ss : List CriticalSection)
    → AreTaken declared from executes ss → AreApart from ss executes
taken_apart declared from executes [] h = h
taken_apart declared from executes (s ∷ ss) h =
    (h.0, h.1, taken_apart declared (s.at + s.len) executes ss h.3)

-- ---- locks
-- the task of a covered section uses its locks
covered_names : (declared : List CriticalSection) (s : CriticalSection) (lock : List ℕ) → IsCovered
    declared s → names_lock s lock ≡ true → list_any (λ d. names_lock d lock) declared ≡ true
covered_names [] s lock h names = absurd h
covered_names (d ∷ ds) s lock h names =
    elim h [
      | inl here ↦ rw (here.locks lock names)
      | inr later ↦ or_right (names_lock d lock) (list_any (λ x. names_lock x lock) ds)
          (covered_names ds s lock later names)
    ]

pub taken_names : (declared : List CriticalSection) (from executes : ℕ) (ss : List CriticalSection)
    (lock : List ℕ) → AreTaken declared from executes ss → list_any (λ s. names_lock s lock) ss
    ≡ true → list_any (λ d. names_lock d lock) declared ≡ true
taken_names declared from executes [] lock h names = absurd (true≢false (sym names))
taken_names declared from executes (s ∷ ss) lock h names =
    elim (or_cases (names_lock s lock) (list_any (λ x. names_lock x lock) ss) names) [
      | inl here ↦ covered_names declared s lock h.2 here
      | inr later ↦ taken_names declared (s.at + s.len) executes ss lock h.3 later
    ]

-- ---- ceilings
pub ceiling-le_top : (node : Node) (qs : List (List ℕ)) (r : List ℕ)
    → list_any (λ q. same_bytes q r) qs ≡ true → ceiling node r ≤ top_ceiling node qs
ceiling-le_top node [] r h = absurd (true≢false (sym h))
ceiling-le_top node (q ∷ qs) r h =
    elim (or_cases (same_bytes q r) (list_any (λ p. same_bytes p r) qs) h) [
      | inl same ↦
          omega (arith, ap (ceiling node) (same_text q r (sym same)))
      | inr later ↦ omega (arith, ceiling-le_top node qs r later)
    ]

top-le : (node : Node) (ps qs : List (List ℕ)) → ((r : List ℕ) → list_any (λ p. same_bytes p r) ps
    ≡ true → list_any (λ q. same_bytes q r) qs ≡ true) → top_ceiling node ps ≤ top_ceiling node qs
top-le node [] qs h = omega arith
top-le node (p ∷ ps) qs h =
    let one : ceiling node p ≤ top_ceiling node qs = ceiling-le_top node qs p
    (h p (rw (same_own p))) in
    omega (
      arith,
      top-le node ps qs
          (λ r names. h r (or_right (same_bytes p r) (list_any (λ q. same_bytes q r) ps) names)),
    )

-- ---- how long they are
-- where some tasks reach each section whose ceiling reaches a level, a covered one of such a ceiling is no longer than the longest that they reach
pub covered-le : (node : Node) (level : ℕ) (X : Indexes)
    → ((s : CriticalSection) → level ≤ top_ceiling node s.locks → reaches node.tasks X s ≡ true)
    → (declared : List CriticalSection) (s : CriticalSection) → IsCovered declared s
    → level ≤ top_ceiling node s.locks
    → s.len ≤ greatest_of (λ d. if reaches node.tasks X d then d.len else 0) declared
covered-le node level X all [] s h high = absurd h
covered-le node level X all (d ∷ ds) s h high =
    elim h [
      | inl here ↦
          let up = top-le node s.locks d.locks here.locks in
          let r : reaches node.tasks X d ≡ true = all d (omega arith) in
          rw r (omega (arith, here.no_longer))
      | inr later ↦
          omega (arith, covered-le node level X all ds s later high)
    ]

-- ---- spans
spanned_names : (spans : List CriticalSection) (s : CriticalSection) (lock : List ℕ)
    → IsSpanned spans s → names_lock s lock ≡ true → list_any (λ x. names_lock x lock) spans ≡ true
spanned_names [] s lock h names = absurd h
spanned_names (x ∷ xs) s lock h names =
    elim h [
      | inl here ↦ rw (here.locks lock names)
      | inr later ↦ or_right (names_lock x lock) (list_any (λ y. names_lock y lock) xs)
          (spanned_names xs s lock later names)
    ]

own_names : (spans ss : List CriticalSection) (lock : List ℕ) → AreSpanned spans ss
    → list_any (λ s. names_lock s lock) ss ≡ true → list_any (λ x. names_lock x lock) spans ≡ true
own_names spans [] lock h names = absurd (true≢false (sym names))
own_names spans (s ∷ ss) lock h names =
    elim (or_cases (names_lock s lock) (list_any (λ x. names_lock x lock) ss) names) [
      | inl here ↦ spanned_names spans s lock h.0 here
      | inr later ↦ own_names spans ss lock h.1 later
    ]

-- a job that is inside of a section is inside of its span, whose ceiling is no lower
spanned-le : (node : Node) (spans : List CriticalSection) (s : CriticalSection) (e : ℕ) → IsSpanned
    spans s → is_inside s e ≡ true → top_ceiling node s.locks ≤ held_ceiling node spans e
spanned-le node [] s e h inside = absurd h
spanned-le node (x ∷ xs) s e h inside =
    elim h [
      | inl here ↦
          let b = and_parts (nat_lt s.at e) (nat_lt e (s.at + s.len)) inside in
          let lo : s.at < e = ltb-true s.at e b.0 in
          let hi : e < s.at + s.len = ltb-true e (s.at + s.len) b.1 in
          let from : x.at ≤ s.at = here.from in
          let to : s.at + s.len ≤ x.at + x.len = here.to in
          let in_ = and_from (nat_lt x.at e) (nat_lt e (x.at + x.len)) (lt-ltb x.at e (omega arith))
          (lt-ltb e (x.at + x.len) (omega arith)) in
          rw in_ (omega (arith, top-le node s.locks x.locks here.locks))
      | inr later ↦ omega (arith, spanned-le node xs s e later inside)
    ]

held-le : (node : Node) (spans ss : List CriticalSection) (e : ℕ) → AreSpanned spans ss
    → held_ceiling node ss e ≤ held_ceiling node spans e
held-le node spans [] e h = omega arith
held-le node spans (s ∷ ss) e h =
    let ih : held_ceiling node ss e ≤ held_ceiling node spans e = held-le node spans ss e h.1 in
    elim (cases_Bool (is_inside s e)) [
      | inl inside ↦ rw inside (omega (arith, spanned-le node spans s e h.0 inside))
      | inr out ↦ rw out (omega arith)
    ]

-- the spans of a job
pub record HasSpans (node : Node) (jobs : List Job) (j : ℕ) : Type 0 where
  pub spans : List CriticalSection
  pub taken : AreTaken (job_task node jobs j).sections 0 (job_at jobs j).executes spans
  pub above : (e : ℕ) → held_ceiling node (job_at jobs j).sections e ≤ held_ceiling node spans e

pub spans_of : (node : Node) (jobs : List Job) → AreWithinSheets node jobs → (j : ℕ)
    → HasSpans node jobs j
spans_of node jobs within j = elim (cases_lt j (length jobs)) [
  | inl lt ↦
      let w : IsWithinSheet (job_task node jobs j) (job_at jobs j) = within j lt in
      record {
        spans = w.spans;
        taken = w.taken;
        above =
            λ e. held-le node w.spans (job_at jobs j).sections e w.sections;
      }
  | inr past ↦
      let none : job_at jobs j ≡ no_job = get_or_past jobs j no_job past in
      let nothing : (job_at jobs j).executes ≡ 0 = ap (λ x. x.executes) none in
      let no_sections : (e : ℕ) → held_ceiling node (job_at jobs j).sections e ≡ 0 =
      λ e. ap (λ (x : Job). held_ceiling node x.sections e) none in
      record { spans = []; taken = omega arith; above = λ e. omega (arith, no_sections e) }
]

-- its task uses its locks
pub uses_of : (node : Node) (jobs : List Job) → AreWithinSheets node jobs → (j : ℕ) (lock : List ℕ)
    → list_any (λ s. names_lock s lock) (job_at jobs j).sections ≡ true
    → uses (job_task node jobs j) lock ≡ true
uses_of node jobs within j lock names = elim (cases_lt j (length jobs)) [
  | inl lt ↦
      let w : IsWithinSheet (job_task node jobs j) (job_at jobs j) = within j lt in
      taken_names (job_task node jobs j).sections 0 (job_at jobs j).executes w.spans lock w.taken
      (own_names w.spans (job_at jobs j).sections lock w.sections names)
  | inr past ↦
      let no_names = subst (λ x. list_any (λ s. names_lock s lock) x.sections ≡ true)
      (get_or_past jobs j no_job past) names in
      absurd (true≢false (sym no_names))
]

-- a job past the end of the list takes none
pub turns_apart : (jobs : List Job) → TakeTurns jobs → (j : ℕ)
    → AreApart 0 (job_at jobs j).sections (job_at jobs j).executes
turns_apart jobs turns j = elim (cases_lt j (length jobs)) [
  | inl lt ↦ turns j lt
  | inr past ↦ subst (λ x. AreApart 0 x.sections x.executes) (sym (get_or_past jobs j no_job past))
      (omega arith)
]
