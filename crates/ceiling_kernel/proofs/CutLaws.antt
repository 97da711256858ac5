-- What is left of a sheet's sections where a job ends early.
use Rattle.std.proofs.Common.{ℕ, ◌+◌, ◌-◌, ◌<◌, ◌≤◌, ◌≡◌, inl, inr, refl, sym, subst, arith, true}
use Rattle.std.proofs.Common.{false, min, List, [], ◌∷◌, length, nat_lt, nat_le}
use Rattle.std.proofs.lemmas.Bool.{cases_lt, lt-ltb, le-ltb, le-leb, lt-leb}
use Rattle.task_sheet.specs.Sheet.{CriticalSection, task_at}
use Rattle.ceiling_kernel.specs.Behaviours.{Covers, AreTaken, LiesWithin, AreSpanned}
use Rattle.ceiling_kernel.specs.Behaviours.{AreWithinSheets, AreApart, TakeTurns, cut_at, IsCut}
use Rattle.ceiling_kernel.specs.Behaviours.{AreCut, AreKnown}
use Rattle.ceiling_kernel.specs.Tick.{Node, Job, job_at, job_task, is_inside, held_ceiling}
use Rattle.ceiling_kernel.specs.Jumps.{change_after}
use Rattle.ceiling_kernel.specs.Waits.{IsNode}
use Rattle.ceiling_kernel.specs.declared.trace.Release.{Release}
use Rattle.ceiling_kernel.specs.Releases.{task_number, runs_of, jobs_of, release_at}
use Rattle.ceiling_kernel.proofs.ReleaseLaws.{job_is, jobs_length}
use Rattle.ceiling_kernel.proofs.NodeLaws.{IsSound, sound}
use Rattle.ceiling_kernel.proofs.BehaviourLaws.{taken_apart}
use Rattle.ceiling_kernel.proofs.SectionLaws.{outside_before}

-- a section, cut at what is executed
abbrev pub cut : ℕ → CriticalSection → CriticalSection
cut x s = record { locks = s.locks; at = s.at; len = min s.len (x - s.at) }

-- sections that begin no sooner than the job ends are gone
cut-none : (x from cost : ℕ) (ss : List CriticalSection) → AreApart from ss cost → x ≤ from
    → cut_at x ss ≡ []
cut-none x from cost [] apart le = refl
cut-none x from cost (s ∷ ss) apart le =
    let gone : nat_lt s.at x ≡ false = le-ltb s.at x (omega (arith, apart.0)) in
    rw gone (cut-none x (s.at + s.len) cost ss apart.2 (omega (arith, apart.0)))

-- ---- before its end a job is inside of the same sections
inside-cut : (x : ℕ) (s : CriticalSection) (e : ℕ) → e < x → s.at < x
    → is_inside (cut x s) e ≡ is_inside s e
inside-cut x s e lt begins =
    elim (cases_lt e (s.at + s.len)) [
      | inl before ↦
          let b = lt-ltb e (s.at + min s.len (x - s.at)) (omega arith) in
          rw (lt-ltb e (s.at + s.len) before, b)
      | inr after ↦
          let b = le-ltb e (s.at + min s.len (x - s.at)) (omega arith) in
          rw (le-ltb e (s.at + s.len) after, b)
    ]

pub held-cut : (node : Node) (x : ℕ) (ss : List CriticalSection) (e : ℕ) → e < x
    → held_ceiling node (cut_at x ss) e ≡ held_ceiling node ss e
held-cut node x [] e lt = refl
held-cut node x (s ∷ ss) e lt =
    let ih : held_ceiling node (cut_at x ss) e ≡ held_ceiling node ss e = held-cut node x ss e lt in
    elim (cases_lt s.at x) [
      | inl begins ↦
          rw (lt-ltb s.at x begins, inside-cut x s e lt begins, ih)
      | inr gone ↦
          let out : is_inside s e ≡ false = outside_before s e (omega arith) in
          rw (le-ltb s.at x gone, out, ih) (omega arith)
    ]

-- ---- the next boundary
-- one that lies no further than the job's end is one of the sections that are left
pub change-cut : (x from cost : ℕ) (ss : List CriticalSection) (e m : ℕ) → AreApart from ss cost
    → e < x → m ≤ change_after ss e x → m ≤ x → m ≤ change_after (cut_at x ss) e x
change-cut x from cost [] e m apart lt near short = short
change-cut x from cost (s ∷ ss) e m apart lt near short =
    elim (cases_lt s.at x) [
      | inr gone ↦
          let none : cut_at x ss ≡ [] = cut-none x (s.at + s.len) cost ss apart.2 (omega arith) in
          rw (le-ltb s.at x gone, none) short
      | inl begins ↦
          let t : nat_lt s.at x ≡ true = lt-ltb s.at x begins in
          elim (cases_lt s.at e) [
            | inr at_most ↦
                let a : nat_le e s.at ≡ true = le-leb e s.at at_most in
                let near' : m ≤ s.at + 1 = rw a at near in
                rw (t, a) near'
            | inl past ↦
                let a : nat_le e s.at ≡ false = lt-leb e s.at past in
                elim (cases_lt e (s.at + s.len)) [
                  | inl within ↦
                      let c = lt-ltb e (s.at + min s.len (x - s.at)) (omega arith) in
                      let near' : m ≤ s.at + s.len = rw (a, lt-ltb e (s.at + s.len) within) at
                      near in
                      rw (t, a, c) (omega arith)
                  | inr after ↦
                      let c = le-ltb e (s.at + min s.len (x - s.at)) (omega arith) in
                      let near' : m ≤ change_after ss e x = rw (a, le-ltb e (s.at + s.len) after) at
                      near in
                      rw (t, a, c) (change-cut x (s.at + s.len) cost ss e m apart.2 lt near' short)
                ]
          ]
    ]

-- ---- they are within the sheet
covered-more : (d : CriticalSection) (ds : List CriticalSection) (from x : ℕ)
    (ss : List CriticalSection) → AreTaken ds from x ss → AreTaken (d ∷ ds) from x ss
covered-more d ds from x [] h = h
covered-more d ds from x (s ∷ ss) h = (h.0, h.1, inr h.2, covered-more d ds (s.at + s.len) x ss h.3)

cut-covers : (x : ℕ) (s : CriticalSection) → Covers s (cut x s)
cut-covers x s = record { locks = λ lock names. names; no_longer = omega arith }

pub cut-taken : (x from cost : ℕ) (ss : List CriticalSection) → AreApart from ss cost → from ≤ x
    → AreTaken ss from x (cut_at x ss)
cut-taken x from cost [] apart le = le
cut-taken x from cost (s ∷ ss) apart le =
    elim (cases_lt s.at x) [
      | inr gone ↦
          let none : cut_at x ss ≡ [] = cut-none x (s.at + s.len) cost ss apart.2 (omega arith) in
          rw (le-ltb s.at x gone, none) le
      | inl begins ↦
          let rest : AreTaken ss (s.at + min s.len (x - s.at)) x (cut_at x ss) =
          elim (cases_lt x (s.at + s.len)) [
            | inr whole ↦
                let all : s.len ≡ min s.len (x - s.at) = omega arith in
                subst (λ l. AreTaken ss (s.at + l) x (cut_at x ss)) all
                (cut-taken x (s.at + s.len) cost ss apart.2 whole)
            | inl ends ↦
                let none = cut-none x (s.at + s.len) cost ss apart.2 (omega arith) in
                rw none (omega arith)
          ] in
          let one : 0 < min s.len (x - s.at) = omega (arith, apart.1) in
          rw (lt-ltb s.at x begins) (
            apart.0,
            one,
            inl (cut-covers x s),
            covered-more s ss (s.at + min s.len (x - s.at))
                x (cut_at x ss) rest,
          )
    ]

-- ---- jobs that do as their sheets say, up to their ends
-- sections lie within themselves
selves_more : (x : CriticalSection) (spans ss : List CriticalSection) → AreSpanned spans ss
    → AreSpanned (x ∷ spans) ss
selves_more x spans [] h = tt
selves_more x spans (s ∷ ss) h = (inr h.0, selves_more x spans ss h.1)

selves : (ss : List CriticalSection) → AreSpanned ss ss
selves [] = tt
selves (s ∷ ss) = (let own : LiesWithin s s = record {
  from = omega arith;
  to = omega arith;
  locks =
      λ lock names. names;
} in (inl own, selves_more s ss ss (selves ss)))

-- the jobs of releases that execute something, and no more than their task's cost, do as their
-- sheets say up to their ends
pub cuts_by : (node : Node) (rs : List Release) → ((j : ℕ) → j < length rs
    → (0 < runs_of node.tasks (release_at rs j)) × (runs_of node.tasks (release_at rs j)
    ≤ (task_at node.tasks (task_number node.tasks (release_at rs j))).cost))
    → AreCut node (jobs_of node.tasks rs)
cuts_by node rs in_cost j lt =
    let in_list : j < length rs = omega (arith, jobs_length node.tasks rs) in
    let cost = in_cost j in_list in
    subst (λ x. IsCut (task_at node.tasks x.task) x) (sym (job_is node.tasks rs j in_list))
    (record { some = cost.0; most = cost.1; sections = refl })

pub cuts_within : (node : Node) (jobs : List Job) → IsSound node → AreKnown node jobs
    → AreCut node jobs → AreWithinSheets node jobs
cuts_within node jobs valid known cuts j lt =
    let c : IsCut (job_task node jobs j) (job_at jobs j) = cuts j lt in
    record {
      executes = c.most;
      spans = (job_at jobs j).sections;
      sections = selves (job_at jobs j).sections;
      taken = subst (λ ss. AreTaken (job_task node jobs j).sections 0 (job_at jobs j).executes ss)
          (sym c.sections)
          (cut-taken (job_at jobs j).executes 0 (job_task node jobs j).cost
          (job_task node jobs j).sections (valid.each (job_at jobs j).task (known j lt)).apart
          (omega arith));
    }

-- a job that executes its cost takes all its sheet's sections whole
whole : (x from : ℕ) (ss : List CriticalSection) → AreApart from ss x → cut_at x ss ≡ ss
whole x from [] apart = refl
whole x from (s ∷ ss) apart =
    let within : s.at + s.len ≤ x = end_within (s.at + s.len) ss apart.2 in
    let t : nat_lt s.at x ≡ true = lt-ltb s.at x (omega (arith, apart.1)) in
    let all : min s.len (x - s.at) ≡ s.len = omega arith in
    rw (t, all, whole x (s.at + s.len) ss apart.2)
  where
    end_within : (from : ℕ) (ss : List CriticalSection) → AreApart from ss x → from ≤ x
    end_within from [] apart = apart
    end_within from (s ∷ ss) apart = omega (arith, end_within (s.at + s.len) ss apart.2)

pub cuts_apart : (node : Node) (jobs : List Job) → IsSound node → AreKnown node jobs
    → AreCut node jobs → TakeTurns jobs
cuts_apart node jobs valid known cuts j lt =
    let c : IsCut (job_task node jobs j) (job_at jobs j) = cuts j lt in
    subst (λ ss. AreApart 0 ss (job_at jobs j).executes) (sym c.sections)
    (taken_apart (job_task node jobs j).sections 0 (job_at jobs j).executes
    (cut_at (job_at jobs j).executes (job_task node jobs j).sections)
    (cut-taken (job_at jobs j).executes 0 (job_task node jobs j).cost
    (job_task node jobs j).sections (valid.each (job_at jobs j).task (known j lt)).apart
    (omega (arith, c.some))))

pub cut_law : (node : Node) (jobs : List Job) → IsNode node → AreKnown node jobs → AreCut node jobs
    → AreWithinSheets node jobs × TakeTurns jobs
cut_law node jobs ok known cuts = (
  cuts_within node jobs (sound node ok) known cuts,
  cuts_apart node
      jobs (sound node ok) known cuts,
)

pub whole_law : (node : Node) → IsNode node → (i : ℕ) → i < length node.tasks → cut_at
    (task_at node.tasks i).cost (task_at node.tasks i).sections ≡ (task_at node.tasks i).sections
whole_law node ok i lt = (let v = (sound node ok).each i lt in whole (task_at node.tasks i).cost 0
    (task_at node.tasks i).sections v.apart)
