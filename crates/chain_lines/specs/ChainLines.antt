-- The lines of chains in an order whose levels have responses.
use Rattle.std.specs.Prelude.{◌≡◌, ◌≤◌, ℕ, ◌==◌, nat_le, Bool, true, false, is_some, List, [], ◌∷◌, ◌++◌, codes, drop, sum_by, Option, Some, None, if◌then◌else◌}
use Rattle.std.specs.Fmt.{decimal}
use Rattle.std.specs.List.{list_all}
use Rattle.task_sheet.specs.Sheet.{Task}
use Rattle.lines.specs.Known.{some_words}
use Rattle.lines.specs.Naming.{name_at}
use Rattle.ceiling_kernel.specs.Tick.{node_in}
use Rattle.chains.specs.Bounds.{bound_of}
use Rattle.chains.specs.Parts.{bound_in, order_of, parts_of, time_in}
use Rattle.chains.specs.declared.bounds.Level.{Level}
use Rattle.chains.specs.declared.bounds.BoundPart.{BoundPart}
use Rattle.chains.specs.declared.bounds.PartKind.{PartKind}
use Rattle.chains.specs.declared.bounds.PartKind.TheVariants.{Wait, Jitter, Handover, Response, Deadline}
use Rattle.chains.specs.declared.bounds.Writes.{Writes}
use Rattle.chain_tables.specs.Chains.{ChainData}
use Rattle.chain_lines.specs.declared.text.Telling.{Telling}
use Rattle.chain_lines.specs.declared.text.Telling.TheVariants.{Bound, Parts}

-- ---- parts
-- what a part is, and of which task
abbrev pub kind_words : List Task → ℕ → PartKind → List ℕ
kind_words U task Wait = codes "  wait " ++ name_at U task
kind_words U task Jitter = codes "  jitter " ++ name_at U task
kind_words U task (Handover next) =
    codes "  response " ++ name_at U task ++ codes " less cost " ++ name_at U next
kind_words U task Response = codes "  response " ++ name_at U task
kind_words U task Deadline = codes "  deadline " ++ name_at U task

-- the line of a part; nothing where it is 0
abbrev pub part_line : List Task → BoundPart → List ℕ
part_line U p =
    if p.time == 0 then [] else kind_words U p.task p.kind ++ codes " " ++ decimal p.time ++ codes "\n"

abbrev pub part_lines : List Task → List BoundPart → List ℕ
part_lines U [] = []
part_lines U (p ∷ parts) = part_line U p ++ part_lines U parts

-- ---- a chain
-- a bound is within a limit, where there is one: no bound is within none
abbrev pub is_met : (bound limit : Option ℕ) → Bool
is_met bound None = true
is_met None (Some limit) = false
is_met (Some bound) (Some limit) = nat_le bound limit

abbrev pub met_word : Bool → List ℕ
met_word true = codes " of "
met_word false = codes " misses "

abbrev pub limit_words : (bound limit : Option ℕ) → List ℕ
limit_words bound None = []
limit_words bound (Some limit) = met_word (is_met bound (Some limit)) ++ decimal limit

-- a chain's least bound, where it is told
abbrev pub least_words : Option ℕ → List ℕ
least_words None = []
least_words (Some least) = codes " least " ++ decimal least

-- the line of a chain of this bound: it, beside the chain's limit, and its least bound, where that is told
abbrev pub chain_line : ChainData → (bound least : Option ℕ) → List ℕ
chain_line chain bound least =
    codes "chain " ++ chain.name ++ codes " " ++ some_words bound ++ limit_words bound chain.limit
    ++ least_words least ++ codes "\n"

-- the parts are told, where they are asked for and all tasks of the chain have a response
abbrev pub is_told : Telling → (bound : Option ℕ) → Bool
is_told Bound bound = false
is_told Parts bound = is_some bound

abbrev pub parts_said : Bool → List Task → List Level → ChainData → List ℕ
parts_said false U levels chain = []
parts_said true U levels chain =
    part_lines U
    (parts_of chain.writes chain.offsets (node_in U (order_of levels)) (time_in levels) chain.tasks)

-- its bound in an order whose levels have these responses
abbrev pub chain_bound : List Task → List Level → ChainData → Option ℕ
chain_bound U levels chain = bound_in chain.writes chain.offsets U levels chain.tasks

-- the lines of a chain there: its bound, and where that is told, the parts
abbrev pub chain_said : Telling → List Task → List Level → (least : Option ℕ) → ChainData → List ℕ
chain_said telling U levels least chain =
    chain_line chain (chain_bound U levels chain) least
    ++ parts_said (is_told telling (chain_bound U levels chain)) U levels chain

-- ---- all chains
-- what a list of least bounds tells of the first chain; past its end nothing
abbrev pub first_least : List (Option ℕ) → Option ℕ
first_least [] = None
first_least (least ∷ leasts) = least

-- the lines of all, of which these least bounds are told
abbrev pub chains_said : Telling → List Task → List Level → (leasts : List (Option ℕ)) → List ChainData
    → List ℕ
chains_said telling U levels leasts [] = []
chains_said telling U levels leasts (chain ∷ chains) =
    chain_said telling U levels (first_least leasts) chain
    ++ chains_said telling U levels (drop 1 leasts) chains

-- the bound of each chain is within its limit, where it has one
abbrev pub all_met : List Task → List Level → List ChainData → Bool
all_met U levels chains =
    list_all (λ (chain : ChainData). is_met (chain_bound U levels chain) chain.limit) chains

-- a bound that is printed is what the parts come to
abbrev pub PartsAreTheBound : Type 0
PartsAreTheBound =
    (writes : Writes) (offsets : List ℕ) (U : List Task) (levels : List Level) (tasks : List ℕ) (bound : ℕ)
    → bound_in writes offsets U levels tasks ≡ Some bound
    → sum_by (λ p. p.time)
    (parts_of writes offsets (node_in U (order_of levels)) (time_in levels) tasks)
    ≡ bound

-- It is that of the laws of chains, by the responses of the levels, where no offset is known; on one clock it is no longer.
abbrev pub BoundIsTheLaws : Type 0
BoundIsTheLaws =
    (writes : Writes) (offsets : List ℕ) (U : List Task) (levels : List Level) (first : ℕ) (others : List ℕ)
    (bound : ℕ)
    → bound_in writes offsets U levels (first ∷ others) ≡ Some bound
    → (offsets ≡ [] → bound ≡ bound_of writes (node_in U (order_of levels)) (time_in levels) first others)
    × (bound ≤ bound_of writes (node_in U (order_of levels)) (time_in levels) first others)
