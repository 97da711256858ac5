-- A set without what its node takes is the one that the documents say.
use Rattle.std.proofs.Common.{◌≡◌, ℕ, ◌+◌, ◌-◌, ◌*◌, ◌<◌, ◌≤◌, Option, None, Some, List, [], ◌∷◌, ◌++◌, length}
use Rattle.std.proofs.Common.{get_or, take, refl, sym, ◌∙◌, ap, subst, arith, MatchOption}
use Rattle.std.specs.List.{AllByRecursion}
use Rattle.std.proofs.lemmas.List.{take_more}
use Rattle.std.proofs.lemmas.List.Elements.{recursion_from_All}
use Rattle.std.proofs.lemmas.List.Sums.{sum_by-cons}
use Rattle.task_sheet.specs.declared.node.Node.{Node}
use Rattle.task_sheet.specs.declared.node.Interrupt.{Interrupt}
use Rattle.task_sheet.specs.Overheads.{calls, calls_in}
use Rattle.task_sheet.proofs.Common.{CriticalSection, Task, no_overhead, IsValidSheet, IsTaskSet}
use Rattle.task_sheet.proofs.Common.{AreOverheads, AreSections}
use Rattle.task_sheet.proofs.OverheadLaws.{calls-fit, locks-few}
use Rattle.task_sheet.proofs.Common.{IsByRank, sheets_fault}
use Rattle.overheads.specs.Padding.{padded_section, padded_sections, padded_task, padded, charged}
use Rattle.overheads.specs.Padding.{IsUnpadded}
use Rattle.overheads.proofs.MappedSets.{KeepsRanks, IsByRank-mapped, no_fault-mapped}
use Rattle.overheads.proofs.MappedSets.{count-mapped, mapped-at}
use Rattle.task_sheet.proofs.TaskLaws.{task_read, valid_at}
use Rattle.limits.specs.Written.{written_section, written_sections, written_task, written, node_of}

-- ---- what was put into a task is taken out again
section-back : (node : Node) (before : ℕ) (x : CriticalSection)
    → written_section node before (padded_section node before x) ≡ x
section-back node before x =
    let at : x.at + before - before ≡ x.at = omega arith in
    let len : x.len + calls node x - calls node x ≡ x.len = omega arith in
    λ i. record x { at = at i; len = len i }

sections-back : (node : Node) (before : ℕ) (xs : List CriticalSection)
    → written_sections node before (padded_sections node before xs) ≡ xs
sections-back node before [] = refl
sections-back node before (x ∷ xs) =
    ap (λ (y : CriticalSection). y ∷ written_sections node (before + calls node x)
    (padded_sections node (before + calls node x) xs)) (section-back node before x)
    ∙ ap (λ (ys : List CriticalSection). x ∷ ys) (sections-back node (before + calls node x) xs)

calls-padded : (node : Node) (before : ℕ) (xs : List CriticalSection)
    → calls_in node (padded_sections node before xs) ≡ calls_in node xs
calls-padded node before [] = refl
calls-padded node before (x ∷ xs) = omega (
  arith,
  sum_by-cons (calls node) (padded_section node before x)
      (padded_sections node (before + calls node x) xs),
  sum_by-cons (calls node) x xs,
  calls-padded node (before + calls node x) xs,
)

pub task-back : (node : Node) (t : Task) → t.node ≡ no_overhead
    → written_task (padded_task node t) ≡ t
task-back node t none =
    let before = node.job - node.release in
    let cost : t.cost + before + calls_in node t.sections
    - (before + calls_in node (padded_sections node before t.sections)) ≡ t.cost =
    omega (arith, calls-padded node before t.sections) in
    let jitter : t.jitter + node.late - node.late ≡ t.jitter = omega arith in
    λ i. record t {
      cost = cost i;
      sections = sections-back node before t.sections i;
      jitter = jitter i;
      node = sym none i;
    }

back-each : (node : Node) (U : List Task) → AllByRecursion (λ t. t.node ≡ no_overhead) U
    → written (padded node U) ≡ U
back-each node [] none = refl
back-each node (t ∷ ts) none =
    ap (λ (y : Task). y ∷ written (padded node ts)) (task-back node t none.0)
    ∙ ap (λ (ys : List Task). t ∷ ys) (back-each node ts none.1)

written-charged : (xs : List Interrupt) (U : List Task)
    → written (charged xs U) ≡ charged xs (written U)
written-charged [] U = refl
written-charged (x ∷ xs) [] = refl
written-charged (x ∷ xs) (t ∷ ts) = refl

pub written-back : (node : Node) (xs : List Interrupt) (U : List Task) → IsUnpadded U
    → written (charged xs (padded node U)) ≡ charged xs U
written-back node xs U none =
    written-charged xs (padded node U)
    ∙ ap (charged xs) (back-each node U (recursion_from_All (λ t. t.node ≡ no_overhead) U none))

pub node-back : (node : Node) (xs : List Interrupt) (t : Task) (ts : List Task)
    → node_of (charged xs (padded node (t ∷ ts))) ≡ node
node-back node [] t ts = refl
node-back node (x ∷ xs) t ts = refl

pub again-back : (node other : Node) (xs : List Interrupt) (U : List Task) → IsUnpadded U
    → padded other (written (charged xs (padded node U))) ≡ charged xs (padded other U)
again-back node other xs U none =
    ap (padded other) (written-back node xs U none) ∙ padded-charged xs U
  where
    padded-charged : (ys : List Interrupt) (V : List Task)
        → padded other (charged ys V) ≡ charged ys (padded other V)
    padded-charged [] V = refl
    padded-charged (y ∷ ys) [] = refl
    padded-charged (y ∷ ys) (t ∷ ts) = refl

-- ---- a set
keeps-written : KeepsRanks written_task
keeps-written = record { ranks = λ x y. refl; names = λ x y. refl }

pub IsByRank-written : (U V : List Task) → IsTaskSet U → IsByRank (written U) V → V ≡ written U
IsByRank-written U V set by_rank = IsByRank-mapped written_task keeps-written U V set by_rank

pub no_fault-written : (U : List Task) → IsTaskSet U → sheets_fault (written U) ≡ None
no_fault-written U set = no_fault-mapped written_task keeps-written U set

-- a set of which one task is no sheet so is none
pub no-set : (U items : List Task) (i : ℕ) (x : Task) → items ≡ U → i < length items
    → x ≡ get_or items i x → ¬ IsValidSheet (written_task x) → ¬ IsTaskSet (written U)
no-set U items i x same lt is invalid set =
    let inside : i < length U = omega (arith, lt, ap (λ (xs : List Task). length xs) same) in
    let read = task_read U items i x same inside is in
    invalid (subst IsValidSheet
    (mapped-at written_task U i inside ∙ ap written_task (sym read))
    (valid_at (written U) i set (omega (arith, inside, count-mapped written_task U))))

-- what is said of none
pub when-none : {X : Type 0} (o : Option X) (P : Type 0) (Q : X → Type 0)
    → ((x : X) → o ≡ Some x → ⊥) → MatchOption o P Q → P
when-none None P Q never said = said
when-none (Some x) P Q never said = absurd (never x refl)

-- ---- a sheet that is made from these values

-- ---- one section more
-- what the calls on a section's locks take
pub calls-taken : (node : Node) (t : Task) (items : List CriticalSection) (i : ℕ)
    (x : CriticalSection) (count : ℕ) → AreOverheads node → IsValidSheet t → items ≡ t.sections
    → i < length items → x ≡ get_or items i x → count ≡ length x.locks
    → (node.lock * count ≡ calls node x) × (calls node x ≤ 40000000)
calls-taken node t items i x count limits valid same lt is few =
    let are : AreSections 0 t.cost items =
    subst (λ (xs : List CriticalSection). AreSections 0 t.cost xs) (sym same) valid.sections in (
      ap (λ n. node.lock * n) few,
      calls-fit node x limits.lock (locks-few 0 t.cost items i x are lt is),
    )

sections-push : (node : Node) (before : ℕ) (xs : List CriticalSection) (y : CriticalSection)
    → written_sections node before (xs ++ y ∷ []) ≡ written_sections node before xs
    ++ written_section node (before + calls_in node xs) y ∷ []
sections-push node before [] y =
    let same : before ≡ before + calls_in node [] = omega arith in
    ap (λ b. written_section node b y ∷ []) same
sections-push node before (x ∷ xs) y =
    let same : before + calls node x + calls_in node xs ≡ before + calls_in node (x ∷ xs) =
    omega (arith, sum_by-cons (calls node) x xs) in
    ap (λ (ss : List CriticalSection). written_section node before x ∷ ss)
    (sections-push node (before + calls node x) xs y ∙ ap (λ b. written_sections node
    (before + calls node x) xs ++ written_section node b y ∷ []) same)

pub sections-step : (node : Node) (before : ℕ) (items : List CriticalSection) (i : ℕ)
    (x y : CriticalSection) (b : ℕ) (xs ys : List CriticalSection) → i < length items
    → x ≡ get_or items i x
    → b ≡ before + calls_in node (take i items) → xs ≡ written_sections node before (take i items)
    → y ≡ written_section node b x → ys ≡ xs ++ y ∷ []
    → ys ≡ written_sections node before (take (i + 1) items)
sections-step node before items i x y b xs ys lt is begins held writes pushed =
    pushed ∙ rw (held, writes, begins, take_more items i x lt, ← is)
    (sym (sections-push node before (take i items) x))
