-- What `desk settings SET --keep SETTINGS` answers and prints.
use Rattle.std.specs.Prelude.{◌≡◌, ℕ, Bool, true, List, ◌++◌, length, codes, Result, Ok, Err, if◌then◌else◌}
use Rattle.task_sheet.specs.Sheet.{Task}
use Rattle.task_sheet.specs.Indexes.{indexes_of, listed_below}
use Rattle.task_sheet.specs.Orders.{IsOrder}
use Rattle.lines.specs.Naming.{name_at}
use Rattle.assignment.specs.Placings.{tasks_of_places}
use Rattle.kept_order.specs.Keeping.{IsKeepingOf}
use Rattle.kept_order.specs.declared.Keeping.{Keeping}
use Rattle.kept_order.specs.declared.Keeping.TheVariants.{Kept, Parted, Stuck}
use Rattle.settings.specs.Settings.{settings_kept}
use Rattle.judge.specs.SettingFaults.{IsSettingsFault}
use Rattle.judge.specs.KeptOrder.{IsKeptOrder, kept_fault}
use Rattle.judge.specs.Node.{AreNumbersIn}
use Rattle.chain_tables.specs.Chains.{ChainData}
use Rattle.chain_lines.specs.ChainLines.{all_met}
use Rattle.answering.specs.OutcomeLines.{infeasible_line}
use Rattle.least_chains.specs.LeastBound.{levels_at}
use Rattle.answering.specs.OnBoth.{OfBoth}
use Rattle.answering.specs.Printed.{Answers}
use Rattle.two_input_commands.specs.declared.keep_lines.KeptNode.{KeptNode}
use Rattle.answering.specs.declared.refusal.CommandRefusal.{CommandRefusal}
use Rattle.answering.specs.declared.refusal.CommandRefusal.TheVariants as refusal
use Rattle.answering.specs.declared.status.Status.{Status}
use Rattle.answering.specs.declared.status.Status.TheVariants as status

-- these are the numbers that the threads of a kept order have in the text of settings, and 0 where a task has none
abbrev pub HasOld : List Task → List ℕ → Keeping → (old : List ℕ) → Type 0
HasOld U text (Kept places) old = AreNumbersIn U text (tasks_of_places places.items) old
HasOld U text _ old = Unit {0}

-- the bound of each chain is within its limit in what is kept; of what isn't none is past it
abbrev pub are_kept_met : List Task → List ChainData → Keeping → Bool
are_kept_met U chains (Kept places) = all_met U (levels_at places.items) chains
are_kept_met U chains _ = true

-- the answer on a set with its chains and the text of settings: what becomes of the set that is to keep the order and the
-- numbers that they give, and of the chains
abbrev pub KeepsText : List ChainData → List Task → List ℕ → Result KeptNode CommandRefusal → Type 0
KeepsText chains U text (Ok node) =
    (kept : List ℕ) × IsKeptOrder U text kept × IsKeepingOf U kept node.keeping
    × HasOld U text node.keeping node.old.items × (node.are_met ≡ are_kept_met U chains node.keeping)
KeepsText chains U text (Err (refusal.Settings fault)) = IsSettingsFault fault (kept_fault text)
KeepsText chains U text (Err refusal.OutOfMemory) = Unit {0}
KeepsText chains U text _ = ⊥

-- the pair that has to change
abbrev pub parted_line : List Task → (low high : ℕ) → List ℕ
parted_line U low high =
    codes "parted " ++ name_at U low ++ codes " " ++ name_at U high ++ codes "\n"

-- the settings of the order that keeps the other one and as many numbers as can stay, from a base on, with room; or the pair;
-- or the tasks of the obstruction
abbrev pub kept_lines_of : List Task → (base room : ℕ) → (old : List ℕ) → Keeping → List ℕ
kept_lines_of U base room old (Kept places) =
    settings_kept U base room old (tasks_of_places places.items)
kept_lines_of U base room old (Parted low high) = parted_line U low high
kept_lines_of U base room old (Stuck left) =
    infeasible_line U (listed_below (length U) (indexes_of left))

-- the same of a node
abbrev pub keeping_lines : List Task → (base room : ℕ) → KeptNode → List ℕ
keeping_lines U base room node = kept_lines_of U base room node.old.items node.keeping

-- the exit status of it: an order is kept, and each chain is met there
abbrev pub kept_status : (are_met : Bool) → Keeping → Status
kept_status are_met (Kept places) = if are_met then status.Done else status.Infeasible
kept_status are_met _ = status.Infeasible

-- the same of a node
abbrev pub keeping_status : KeptNode → Status
keeping_status node = kept_status node.are_met node.keeping

-- what is kept is an order of the set
abbrev pub IsKeptIn : List Task → Keeping → Type 0
IsKeptIn U (Kept places) = IsOrder U (tasks_of_places places.items)
IsKeptIn U _ = Unit {0}

-- each place of what is kept has an old number, or 0
abbrev pub HaveOld : Keeping → (old : List ℕ) → Type 0
HaveOld (Kept places) old = length old ≡ length places.items
HaveOld _ old = Unit {0}

-- the same of a node
abbrev pub IsOldOf : KeptNode → Type 0
IsOldOf node = HaveOld node.keeping node.old.items

-- the answer on both
abbrev pub KeepsBoth : (base room : ℕ) → OfBoth
KeepsBoth base room both =
    Answers (KeepsText both.chains.items both.tasks both.text.items) (keeping_lines both.tasks base room)
    keeping_status
