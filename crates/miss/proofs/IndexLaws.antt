-- Members by their indexes, and how late tasks may be.
use Rattle.std.proofs.Common.{◌≡◌, ◌∙◌, ℕ, zero, suc, ◌+◌, ◌<◌, ◌≤◌, Option, Some, None, List, []}
use Rattle.std.proofs.Common.{◌∷◌, length, get_or, sym, ap, subst, arith}
use Rattle.task_sheet.proofs.TaskLaws.{task_read}
use Rattle.task_sheet.proofs.Common.{Task, CriticalSection, AreSections}
use Rattle.task_sheet.proofs.Common.{no_task, task_at, IsTaskSet, limit_of, Indexes}
use Rattle.std.proofs.lemmas.Option.{slice_get_within}
use Rattle.explain.specs.Blocking.{BlockerData, BlocksAt, IsBlockerOf}
use Rattle.miss.specs.Misses.{IsInSet}

section_within : (from cost : ℕ) (ss : List CriticalSection) (p : ℕ) (s d : CriticalSection)
    → AreSections from cost ss → p < length ss → s ≡ get_or ss p d → s.at + 1 ≤ cost
section_within from cost [] p s d h lt e = absurd (omega arith)
section_within from cost (x ∷ ss) zero s d h lt e =
    let here = h.0 in
    let at = ap (λ (y : CriticalSection). y.at) e in
    omega (arith, here.within, here.runs)
section_within from cost (x ∷ ss) (suc p) s d h lt e =
    section_within (x.at + x.len) cost ss p s d h.1 (omega arith) e

-- a section begins a tick before ten million at the latest
pub section_small : (U : List Task) → IsTaskSet U → (sheets : List Task) (t p t' p' : ℕ)
    (sheet : Task) (ss : List CriticalSection) (s : CriticalSection) → sheets ≡ U → t ≡ t' → p ≡ p'
    → (t' < length U) × (p' < length (task_at U t').sections)
    → sheet ≡ get_or sheets t sheet → ss ≡ sheet.sections → s ≡ get_or ss p s
    → s.at + 1 ≤ 10000000
section_small U tasks sheets t p t' p' sheet ss s same et ep placed is sections at =
    let v = tasks.valid t' no_task placed.0 in
    let is' = is ∙ ap (λ k. get_or sheets k sheet) et in
    let own = sections
    ∙ ap (λ (x : Task). x.sections) (task_read U sheets t' sheet same placed.0 is') in
    let at' = at
    ∙ ap (λ (xs : List CriticalSection). get_or xs p s) own
    ∙ ap (λ k. get_or (task_at U t').sections k s) ep in
    omega (
      arith,
      section_within 0 (task_at U t').cost (task_at U t').sections p' s s v.sections
          placed.1 at',
      v.cost_to,
      v.period_to,
    )

-- a blocker is in the set
pub blocker_in : (U : List Task) (i : ℕ) (H : Indexes) (b : Option BlockerData)
    → IsBlockerOf U i H b → IsInSet U b
blocker_in U i H None h = tt
blocker_in U i H (Some b) h = (let f = h in
    let at : BlocksAt U i H b.task b.place f.section = f.blocks in
    (at.in_set, slice_get_within (task_at U b.task).sections b.place f.section at.section))

-- no limit is longer than a period
pub limit_small : (U : List Task) → IsTaskSet U → (sheets : List Task) (k : ℕ) (sheet : Task)
    → sheets ≡ U → k < length U → sheet ≡ get_or sheets k sheet → limit_of sheet ≤ 10000000
limit_small U tasks sheets k sheet same known is =
    let v = tasks.valid k no_task known in
    let e = task_read U sheets k sheet same known is in
    subst (λ t. limit_of t ≤ 10000000) (sym e) (omega (arith, v.deadline_to, v.period_to))
