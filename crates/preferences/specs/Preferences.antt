-- Sets whose weights are replaced. By deadlines they stand for the limits, which are the deadlines less the jitter: of all
-- passing orders of such a set the best is the one nearest to limit-monotonic (Leung, Whitehead 1982; with jitter Zuhily,
-- Burns 2007). By chains they stand for how far each task is from the end of a chain, and then for the limits.
use Rattle.std.specs.Prelude.{◌≡◌, ℕ, ◌-◌, Bool, count_by, nat_lt, nat_eq, ◌&&◌, ◌||◌, List, map, length, position, Option, Some, None}
use Rattle.task_sheet.specs.Sheet.{Task, weighing, task_at, same_bytes}
use Rattle.task_sheet.specs.Rank.{IsByRank}
use Rattle.task_sheet.specs.Demand.{limit_of, greatest_of}
use Rattle.task_sheet.specs.Orders.{IsPassingOrder}
use Rattle.task_sheet.specs.declared.prefer.Preference.{Preference}
use Rattle.task_sheet.specs.declared.prefer.Preference.TheVariants.{Weights, Deadline, Chains}
use Rattle.chains.specs.declared.bounds.Writes.{Writes}
use Rattle.chains.specs.declared.bounds.Writes.TheVariants.{AtFinish, AtDeadline}
use Rattle.chain_tables.specs.Tables.{WrittenData}

-- the tasks of a set, their weights replaced
abbrev pub weighed : (Task → ℕ) → List Task → List Task
weighed weight U = map (λ t. weighing t (weight t)) U

-- ---- by deadlines
-- how many tasks of a set have a longer limit than this
abbrev pub longer_limits : List Task → ℕ → ℕ
longer_limits U limit = count_by (λ t. nat_lt limit (limit_of t)) U

-- the task of a set, its weight replaced by how many tasks of the set have a longer limit
abbrev pub reweighed_in : List Task → Task → Task
reweighed_in U t = weighing t (longer_limits U (limit_of t))

-- the set, each weight so replaced
abbrev pub reweighed : List Task → List Task
reweighed U = map (reweighed_in U) U

-- the set by deadlines: its tasks with these weights, by rank
abbrev pub IsByDeadlines : List Task → List Task → Type 0
IsByDeadlines U V = IsByRank (reweighed U) V

-- ---- by chains
-- how many tasks there are of a list from the place of a task on
abbrev pub tasks_from : List (List ℕ) → Option ℕ → ℕ
tasks_from names None = 0
tasks_from names (Some k) = length names - k

-- the place of a task from the end of a chain: 1 of the last; 0 of a task that the chain doesn't have, and of all where its
-- tasks write at their deadlines, since its bound is the same in each order then
abbrev pub place_by : Writes → List ℕ → List (List ℕ) → ℕ
place_by AtFinish name names = tasks_from names (position (λ n. same_bytes n name) names)
place_by AtDeadline name names = 0

abbrev pub place_in : List ℕ → WrittenData → ℕ
place_in name w = place_by w.writes name w.tasks

-- its greatest place from the end of a chain; 0 where it is in none
abbrev pub place_of : List WrittenData → Task → ℕ
place_of chains t = greatest_of (place_in t.name) chains

-- the first task is wanted lower by chains: it is nearer to the end of one, and of one place its limit is longer
abbrev pub is_behind : List WrittenData → Task → Task → Bool
is_behind chains x y =
    nat_lt (place_of chains x) (place_of chains y)
    || nat_eq (place_of chains x) (place_of chains y) && nat_lt (limit_of y) (limit_of x)

-- how many tasks of a set are wanted lower than a task
abbrev pub lower_tasks : List WrittenData → List Task → Task → ℕ
lower_tasks chains U t = count_by (λ u. is_behind chains u t) U

-- the set by chains: its tasks, each weighing how many are wanted lower, by rank
abbrev pub IsByChains : List WrittenData → List Task → List Task → Type 0
IsByChains chains U V = IsByRank (weighed (lower_tasks chains U) U) V

-- ---- by a preference
-- what a task of a set weighs
abbrev pub weight_by : Preference → List WrittenData → List Task → Task → ℕ
weight_by Weights chains U t = t.weight
weight_by Deadline chains U t = longer_limits U (limit_of t)
weight_by Chains chains U t = lower_tasks chains U t

-- the set by a preference and these chains: by weights as it is
abbrev pub IsPreferred : Preference → List WrittenData → List Task → List Task → Type 0
IsPreferred Weights chains U V = V ≡ U
IsPreferred Deadline chains U V = IsByDeadlines U V
IsPreferred Chains chains U V = IsByChains chains U V

-- the set, each weight 0: all but the weights
abbrev pub unweighed : List Task → List Task
unweighed U = map (λ t. weighing t 0) U

-- the names of an order's tasks
abbrev pub order_names : List Task → List ℕ → List (List ℕ)
order_names U order = map (λ k. (task_at U k).name) order

-- each passing order of the first set is one of the second, by the names of its tasks
abbrev pub KeepsOrders : List Task → List Task → Type 0
KeepsOrders U V =
    (order : List ℕ) → IsPassingOrder U order
    → (other : List ℕ) × IsPassingOrder V other × (order_names V other ≡ order_names U order)
