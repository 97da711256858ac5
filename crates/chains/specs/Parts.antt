-- The parts of a chain's bound in an order whose levels have responses.
use Rattle.std.specs.Prelude.{◌≡◌, ℕ, ◌+◌, ◌-◌, ◌≤◌, ◌==◌, nat_lt, Bool, is_some, unwrap_or, List, [], ◌∷◌, map, sum_by, Option, Some, None, if◌then◌else◌}
use Rattle.std.specs.List.{list_all}
use Rattle.task_sheet.specs.Sheet.{Task, task_at}
use Rattle.ceiling_kernel.specs.Tick.{Node, level_in_order, node_in}
use Rattle.ceiling_kernel.specs.Waits.{lateness_of}
use Rattle.chains.specs.Bounds.{bound_of}
use Rattle.chains.specs.Walks.{bound_by, longest_start, next_by, steps_with}
use Rattle.chains.specs.declared.walks.Step.{Step}
use Rattle.chains.specs.declared.bounds.Level.{Level}
use Rattle.chains.specs.declared.bounds.BoundPart.{BoundPart}
use Rattle.chains.specs.declared.bounds.PartKind.TheVariants.{Wait, Jitter, Handover, Response, Deadline}
use Rattle.chains.specs.declared.bounds.Writes.{Writes}
use Rattle.chains.specs.declared.bounds.Writes.TheVariants.{AtFinish, AtDeadline}

-- ---- levels
-- the order of levels, the lowest first
abbrev pub order_of : List Level → List ℕ
order_of levels = map (λ l. l.task) levels

-- the response of a task, where it has one
abbrev pub response_in : List Level → ℕ → Option ℕ
response_in [] i = None
response_in (l ∷ levels) i = if l.task == i then l.response else response_in levels i

abbrev pub has_response : List Level → ℕ → Bool
has_response levels i = is_some (response_in levels i)

abbrev pub time_in : List Level → ℕ → ℕ
time_in levels i = unwrap_or (response_in levels i) 0

-- ---- parts
-- the wait of so long for a task's next job
abbrev pub wait_for : (i time : ℕ) → BoundPart
wait_for i time = record { kind = Wait; task = i; time = time }

-- the handover from a task, of this response, to the next: its jitter, or its response less the next one's cost
abbrev pub handed_of : Node → (i c r : ℕ) → BoundPart
handed_of node i c r =
    if nat_lt (level_in_order node c) (level_in_order node i)
    then record { kind = Jitter; task = i; time = lateness_of (task_at node.tasks i) }
    else record { kind = Handover c; task = i; time = r - (task_at node.tasks c).cost }

-- the part of a task behind its wait: the handover to the first of the others, or its response; its deadline, where it writes
-- then
abbrev pub after_of : Writes → Node → (response : ℕ → ℕ) → ℕ → List ℕ → BoundPart
after_of AtFinish node response i [] = record { kind = Response; task = i; time = response i }
after_of AtFinish node response i (c ∷ others) = handed_of node i c (response i)
after_of AtDeadline node response i others =
    record { kind = Deadline; task = i; time = (task_at node.tasks i).deadline }

-- those of a chain's tasks
abbrev pub afters_of : Writes → Node → (response : ℕ → ℕ) → List ℕ → List BoundPart
afters_of writes node response [] = []
afters_of writes node response (i ∷ others) =
    after_of writes node response i others ∷ afters_of writes node response others

-- the steps of a chain whose tasks have these offsets, or of none of which one is known
abbrev pub steps_of : Writes → (offsets : List ℕ) → Node → (response : ℕ → ℕ) → List ℕ → List Step
steps_of writes offsets node response tasks =
    steps_with node.tasks offsets (map (λ p. p.time) (afters_of writes node response tasks)) tasks

-- the parts of a walk that comes to the first of these tasks at t, of each its wait and the part behind it
abbrev pub walk_parts : List Step → (afters : List BoundPart) → (t : ℕ) → List BoundPart
walk_parts [] afters t = []
walk_parts (s ∷ steps) [] t = []
walk_parts (s ∷ steps) (p ∷ afters) t =
    wait_for p.task (next_by s.offset s.period t - t) ∷ p
    ∷ walk_parts steps afters (next_by s.offset s.period t + s.delay)

-- those of the whole span from an arrival of the first task at t
abbrev pub span_parts : List Step → (afters : List BoundPart) → (t : ℕ) → List BoundPart
span_parts [] afters t = []
span_parts (s ∷ steps) [] t = []
span_parts (s ∷ steps) (p ∷ afters) t =
    wait_for p.task s.period ∷ p ∷ walk_parts steps afters (t + s.period + s.delay)

-- the parts of a chain's bound: those of the longest span
abbrev pub parts_of : Writes → (offsets : List ℕ) → Node → (response : ℕ → ℕ) → List ℕ
    → List BoundPart
parts_of writes offsets node response tasks =
    span_parts (steps_of writes offsets node response tasks) (afters_of writes node response tasks)
    (longest_start (steps_of writes offsets node response tasks))

-- the bound of a chain in an order whose levels have responses: the longest span, where each of its tasks has one
abbrev pub bound_in : Writes → (offsets : List ℕ) → List Task → List Level → List ℕ → Option ℕ
bound_in writes offsets U levels tasks =
    if list_all (has_response levels) tasks
    then bound_by (steps_of writes offsets (node_in U (order_of levels)) (time_in levels) tasks)
    else None

-- the parts come to the bound
abbrev pub PartsComeTo : Writes → (offsets : List ℕ) → Node → (response : ℕ → ℕ) → List ℕ → Type 0
PartsComeTo writes offsets node response tasks =
    (bound : ℕ) → bound_by (steps_of writes offsets node response tasks) ≡ Some bound
    → sum_by (λ p. p.time) (parts_of writes offsets node response tasks) ≡ bound

-- where no offset is known, the bound is all gaps, handovers and how long the last task takes to write
abbrev pub SteadyBound : Writes → Node → (response : ℕ → ℕ) → (first : ℕ) → (others : List ℕ) → Type 0
SteadyBound writes node response first others =
    bound_by (steps_of writes [] node response (first ∷ others))
    ≡ Some (bound_of writes node response first others)

-- ON ONE CLOCK THE BOUND IS NO LONGER: offsets that are known take nothing away
abbrev pub OffsetsHelp : Writes → (offsets : List ℕ) → Node → (response : ℕ → ℕ) → (first : ℕ)
    → (others : List ℕ) → Type 0
OffsetsHelp writes offsets node response first others =
    (bound : ℕ) → bound_by (steps_of writes offsets node response (first ∷ others)) ≡ Some bound
    → bound ≤ bound_of writes node response first others

-- THE BOUND AT DEADLINES STANDS: whatever the order, where the chain has one
abbrev pub NoOrderMoves : Type 0
NoOrderMoves =
    (offsets : List ℕ) (U : List Task) (levels others : List Level) (tasks : List ℕ) (one other : ℕ)
    → bound_in AtDeadline offsets U levels tasks ≡ Some one
    → bound_in AtDeadline offsets U others tasks ≡ Some other
    → one ≡ other
