-- The lines that say how far the numbers of a set may go with each chain met in an order that passes.
use Rattle.std.specs.Prelude.{◌≡◌, ℕ, zero, suc, ◌+◌, ◌-◌, nat_le, ◌&&◌, List, [], ◌++◌, length, slice_index_or, codes, Option, Some, None, if◌then◌else◌}
use Rattle.std.specs.Fmt.{decimal}
use Rattle.task_sheet.specs.Sheet.{Task, task_at}
use Rattle.lines.specs.Naming.{name_at}
use Rattle.task_lines.specs.declared.owner.Owner.{Owner}
use Rattle.assignment.specs.Places.{PlaceData}
use Rattle.chains.specs.Parts.{bound_in}
use Rattle.chains.specs.declared.bounds.Writes.TheVariants.{AtFinish}
use Rattle.chain_tables.specs.Chains.{ChainData}
use Rattle.limits.specs.declared.number.Number.{Number}
use Rattle.limits.specs.declared.number.Number.TheVariants.{Cost, Jitter}
use Rattle.limits.specs.Numbers.{value_of}
use Rattle.least_chains.specs.LeastBound.{levels_at}
use Rattle.chain_limits.specs.Reaches.{AnswersReach}
use Rattle.chain_limits.specs.declared.reaches.Reach.{Reach}
use Rattle.limit_lines.specs.LimitLines.{label_of, leaves_own, len_at, node_part}

-- the numbers of a task on which bounds depend, but its times: cost, jitter, and the lengths of its sections
abbrev pub growing_at : List Owner → Task → ℕ → Number
growing_at owners t zero = Cost
growing_at owners t (suc zero) = Jitter
growing_at owners t (suc (suc k)) = len_at owners t k

-- the line of a number of task i, less what is the node's, and how far it may go with the chain met; nothing where it may
-- go as far as the order lets it, where no value meets the chain, or none that leaves the task one of its own
abbrev pub reach_line : ChainData → List Task → ℕ → Number → Option Reach → List ℕ
reach_line chain U i number None = []
reach_line chain U i number (Some reach) =
    let t = task_at U i in
    let part = node_part number t in
    if reach.is_bound && leaves_own number part reach.furthest then
    codes "chain " ++ chain.name ++ codes " " ++ name_at U i ++ label_of number
    ++ decimal (value_of number t - part) ++ codes " " ++ decimal (reach.furthest - part)
    ++ codes "\n"
    else []

abbrev pub IsReachLine : ChainData → (limit : ℕ) → List Task → (order : List ℕ) → ℕ → Number → List ℕ → Type 0
IsReachLine chain limit U order i number text =
    (reach : Option Reach) × AnswersReach chain.writes chain.offsets order chain.tasks limit U i
    number reach
    × (text ≡ reach_line chain U i number reach)

-- the text is a line for each of the first of these numbers of task i
abbrev pub AreReachLines : List Owner → ChainData → (limit : ℕ) → List Task → (order : List ℕ) → ℕ → ℕ
    → List ℕ → Type 0
AreReachLines owners chain limit U order i zero text = text ≡ []
AreReachLines owners chain limit U order i (suc k) text =
    (front : List ℕ) × (line : List ℕ) × AreReachLines owners chain limit U order i k front
    × IsReachLine chain limit U order i (growing_at owners (task_at U i) k) line
    × (text ≡ front ++ line)

-- for each of them
abbrev pub AreReachesOf : List Owner → ChainData → (limit : ℕ) → List Task → (order : List ℕ) → ℕ
    → List ℕ → Type 0
AreReachesOf owners chain limit U order i text =
    AreReachLines owners chain limit U order i (2 + length (task_at U i).sections) text

-- of each of the first tasks
abbrev pub AreReaches : List Owner → ChainData → (limit : ℕ) → List Task → (order : List ℕ) → ℕ → List ℕ → Type 0
AreReaches owners chain limit U order zero text = text ≡ []
AreReaches owners chain limit U order (suc k) text =
    (front : List ℕ) × (lines : List ℕ) × AreReaches owners chain limit U order k front
    × AreReachesOf owners chain limit U order k lines × (text ≡ front ++ lines)

-- ---- a chain
-- what a bound leaves of the limit, where it is within it
abbrev pub left_of : (bound : Option ℕ) → (limit : ℕ) → Option ℕ
left_of None limit = None
left_of (Some bound) limit = if nat_le bound limit then Some (limit - bound) else None

-- the line of that; nothing where the limit is missed
abbrev pub left_line : ChainData → Option ℕ → List ℕ
left_line chain None = []
left_line chain (Some left) = codes "chain " ++ chain.name ++ codes " slack " ++ decimal left ++ codes "\n"

-- the lines of a chain with a limit, in an order with these places: its slack, and how far the numbers of each task may go
abbrev pub AreLinesWithin : Option ℕ → List Owner → ChainData → List Task → (order : List ℕ) → List PlaceData
    → List ℕ → Type 0
AreLinesWithin None owners chain U order places text = text ≡ []
AreLinesWithin (Some limit) owners chain U order places text =
    (reaches : List ℕ) × AreReaches owners chain limit U order (length U) reaches
    × (text ≡ left_line chain
    (left_of (bound_in chain.writes chain.offsets U (levels_at places) chain.tasks) limit) ++ reaches)

-- those of task i alone, without the slack
abbrev pub AreTaskWithin : Option ℕ → List Owner → ChainData → List Task → (order : List ℕ) → ℕ → List ℕ → Type 0
AreTaskWithin None owners chain U order i text = text ≡ []
AreTaskWithin (Some limit) owners chain U order i text = AreReachesOf owners chain limit U order i text

-- the lines of a chain in an order with these places, of the task that is asked about or of all; nothing without places
abbrev pub AreChainLines : List Owner → ChainData → List Task → Option (List ℕ) → Option (List PlaceData)
    → (asked : Option ℕ) → List ℕ → Type 0
AreChainLines owners chain U (Some order) (Some places) (Some i) text =
    AreTaskWithin chain.limit owners chain U order i text
AreChainLines owners chain U (Some order) (Some places) None text =
    AreLinesWithin chain.limit owners chain U order places text
AreChainLines owners chain U _ _ asked text = text ≡ []

-- ---- all chains
-- stands past their end
abbrev pub no_chain : ChainData
no_chain = record { name = []; tasks = []; limit = None; offsets = []; writes = AtFinish }

abbrev pub chain_at : List ChainData → ℕ → ChainData
chain_at chains k = slice_index_or chains k no_chain

-- the lines of each of the first chains, as written
abbrev pub AreChainsLines : List Owner → List ChainData → List Task → Option (List ℕ) → Option (List PlaceData)
    → (asked : Option ℕ) → ℕ → List ℕ → Type 0
AreChainsLines owners chains U order places asked zero text = text ≡ []
AreChainsLines owners chains U order places asked (suc k) text =
    (front : List ℕ) × (lines : List ℕ) × AreChainsLines owners chains U order places asked k front
    × AreChainLines owners (chain_at chains k) U order places asked lines × (text ≡ front ++ lines)
