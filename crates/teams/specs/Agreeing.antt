-- What the documents of teams prefer together, and which node they say: what one of them says holds for all, and none may
-- say otherwise. The interrupts of all are the node's.
use Rattle.std.specs.Prelude.{ℕ, Bool, true, false, not, List, [], ◌∷◌, ◌++◌, find, Option, Some, None, option_map}
use Rattle.std.specs.Option.{option_or}
use Rattle.task_sheet.specs.declared.prefer.Preference.{Preference}
use Rattle.task_sheet.specs.declared.prefer.Preference.TheVariants.{Weights, Deadline, Chains}
use Rattle.task_sheet.specs.declared.node.Node.{Node}
use Rattle.task_sheet.specs.declared.node.Interrupt.{Interrupt}
use Rattle.task_sheet.specs.Sheet.{same_node}
use Rattle.teams.specs.Owned.{TeamSetData}
use Rattle.teams.specs.declared.fault.TeamsFault.{TeamsFault}
use Rattle.teams.specs.declared.fault.TeamsFault.TheVariants.{OtherPreference, OtherNode}

-- ---- what one of them says holds for all

-- what a document says, with its team
abbrev pub said_by : {A : Type 0} → List ℕ → Option A → Option (List ℕ × A)
said_by team None = None
said_by team (Some said) = Some (team, said)

-- the first document that says one
abbrev pub first_saying : {A : Type 0} → (says : TeamSetData → Option A) → List TeamSetData
    → Option (List ℕ × A)
first_saying says [] = None
first_saying says (s ∷ sets) = option_or (said_by s.team (says s)) (first_saying says sets)

-- the team of the first that says another than this
abbrev pub first_other : {A : Type 0} → (other : A → Option A → Bool) → (says : TeamSetData → Option A)
    → A → List TeamSetData → Option (List ℕ)
first_other other says said sets =
    option_map (λ s. s.team) (find (λ s. other said (says s)) sets)

-- the fault of documents of which this is the first that says one: another one says otherwise
abbrev pub disagreement_with : {A : Type 0} → (other : A → Option A → Bool)
    → (says : TeamSetData → Option A) → (fault : List ℕ → List ℕ → TeamsFault)
    → Option (List ℕ × A) → List TeamSetData → Option TeamsFault
disagreement_with other says fault None sets = None
disagreement_with other says fault (Some said) sets =
    option_map (λ team. fault team said.0) (first_other other says said.1 sets)

-- ---- the preference

-- what the documents prefer
abbrev pub preferred_by : List TeamSetData → Option Preference
preferred_by sets = option_map (λ said. said.1) (first_saying (λ s. s.prefers) sets)

-- a document says another preference than this
abbrev pub says_other : Preference → Option Preference → Bool
says_other preference None = false
says_other Weights (Some Weights) = false
says_other Deadline (Some Deadline) = false
says_other Chains (Some Chains) = false
says_other preference (Some other) = true

-- the first document that prefers otherwise than one before it
abbrev pub disagreement : List TeamSetData → Option TeamsFault
disagreement sets =
    disagreement_with says_other (λ s. s.prefers) (λ team other. OtherPreference team other)
    (first_saying (λ s. s.prefers) sets) sets

-- ---- the node

-- which node the documents say
abbrev pub node_by : List TeamSetData → Option Node
node_by sets = option_map (λ said. said.1) (first_saying (λ s. s.node) sets)

-- a document says another node than this
abbrev pub says_other_node : Node → Option Node → Bool
says_other_node node None = false
says_other_node node (Some other) = not (same_node node other)

-- the first document that says another node than one before it
abbrev pub node_disagreement : List TeamSetData → Option TeamsFault
node_disagreement sets =
    disagreement_with says_other_node (λ s. s.node) (λ team other. OtherNode team other)
    (first_saying (λ s. s.node) sets) sets

-- ---- interrupts

-- the interrupts of all documents, in their order
abbrev pub interrupts_by : List TeamSetData → List Interrupt
interrupts_by [] = []
interrupts_by (s ∷ sets) = s.interrupts ++ interrupts_by sets
