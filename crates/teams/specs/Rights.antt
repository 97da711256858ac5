-- What teams' documents may not say where the node has one: what is the node's.
use Rattle.std.specs.Prelude.{ℕ, ◌&&◌, Bool, List, [], ◌∷◌, is_some, Option, Some, None, if◌then◌else◌}
use Rattle.std.specs.List.{list_any}
use Rattle.std.specs.Option.{option_or}
use Rattle.task_sheet.specs.Sheet.{same_bytes}
use Rattle.task_sheet.specs.declared.keys.Key.{Key}
use Rattle.task_sheet.specs.declared.keys.Key.TheVariants as key
use Rattle.task_sheet.specs.declared.node.Interrupt.{Interrupt}
use Rattle.teams.specs.Owned.{TeamSetData}
use Rattle.teams.specs.declared.node.Budget.{Budget}
use Rattle.teams.specs.declared.fault.TeamsFault.{TeamsFault}
use Rattle.teams.specs.declared.fault.TeamsFault.TheVariants.{NodesOwn}

-- where there are interrupts, their key
abbrev pub interrupts_key : List Interrupt → Option Key
interrupts_key [] = None
interrupts_key (x ∷ xs) = Some key.Interrupt

-- the first key of a document that is the node's
abbrev pub nodes_key : TeamSetData → Option Key
nodes_key s =
    if is_some s.prefers then Some key.Prefer
    else if is_some s.node then Some key.Node
    else interrupts_key s.interrupts

-- the node's document gives a team the right to say that
abbrev pub has_right : List Budget → List ℕ → Bool
has_right budgets team = list_any (λ b. same_bytes b.team team && b.right) budgets

-- what a document says without it, where there is such a key
abbrev pub key_fault : List Budget → List ℕ → Option Key → Option TeamsFault
key_fault budgets team None = None
key_fault budgets team (Some key) = if has_right budgets team then None else Some (NodesOwn team key)

abbrev pub right_fault : List Budget → TeamSetData → Option TeamsFault
right_fault budgets s = key_fault budgets s.team (nodes_key s)

-- the first document that says what is the node's without the right to
abbrev pub rights_fault : List Budget → List TeamSetData → Option TeamsFault
rights_fault budgets [] = None
rights_fault budgets (s ∷ sets) = option_or (right_fault budgets s) (rights_fault budgets sets)
