-- The first fault of a certificate: each check goes over the whole of it before the next.
use Rattle.std.specs.Prelude.{ℕ, zero, suc, ◌+◌, Bool, true, false, ◌&&◌, not, ◌==◌, nat_lt, nat_le, List}
use Rattle.std.specs.Prelude.{[], ◌∷◌, length, Option, Some, None, if◌then◌else◌}
use Rattle.std.specs.Option.{option_or}
use Rattle.task_sheet.specs.Sheet.{Task, task_at, same_bytes}
use Rattle.task_sheet.specs.Indexes.{Indexes, no_index, with_index, without_index, among}
use Rattle.task_sheet.specs.Demand.{demand_of, limit_of}
use Rattle.task_sheet.specs.Orders.{all_of, must_outrank, must_outrank_any}
use Rattle.task_sheet.specs.Verdicts.{LevelData, tasks_of, order_of}
use Rattle.certificate.specs.Body.{CertReasonData, Chain, Over, Fail, CertLevelData, Body, Best, NoOrder, Cert}
use Rattle.certificate.specs.declared.value.CertChain.{CertChain}
use Rattle.certificate.specs.CertificateOf.{shows_chains}
use Rattle.certificate.specs.Versions.{version_for}
use Rattle.cert_checker.specs.Ready.{task_by_name, failures_of, levels_of, may_serve}
use Rattle.chain_tables.specs.Chains.{ChainData}
use Rattle.cert_checker.specs.Ages.{covers_chain}
use Rattle.cert_checker.specs.Chains.{are_chain}
use Rattle.cert_checker.specs.declared.fault.CheckFault.{CheckFault}
use Rattle.cert_checker.specs.declared.fault.CheckFault.TheVariants.{WrongVersion, WrongTasks}
use Rattle.cert_checker.specs.declared.fault.CheckFault.TheVariants.{BadPass, BadChain, MissingFail}
use Rattle.cert_checker.specs.declared.fault.CheckFault.TheVariants.{EmptySet, WrongChains, BadAge}
use Rattle.cert_checker.specs.declared.levels.LevelCheck.{LevelCheck}
use Rattle.cert_checker.specs.declared.levels.LevelCheck.TheVariants.{Tasks, Pass, Chains, Missing}

-- the fault, where the test fails
abbrev pub fault_unless : Bool → CheckFault → Option CheckFault
fault_unless ok fault = if ok then None else Some fault

-- ---- the tasks
-- each is one of n tasks, and was not seen before
abbrev pub are_new : ℕ → Indexes → List ℕ → Bool
are_new n seen [] = true
are_new n seen (k ∷ ks) = (nat_lt k n && not (seen k)) && are_new n (with_index seen k) ks

-- each index below n is among these
abbrev pub has_all : ℕ → Indexes → Bool
has_all zero L = true
has_all (suc n) L = has_all n L && L n

-- each is at least `from`, above the one before it, below the chosen one, and in L
abbrev pub are_lesser : Indexes → ℕ → ℕ → List ℕ → Bool
are_lesser L from chosen [] = true
are_lesser L from chosen (k ∷ ks) =
    (nat_le from k && nat_lt k chosen && L k) && are_lesser L (k + 1) chosen ks

-- ---- the times
-- the time is from 1 to the limit of its task, and covers its demand below the others of L
abbrev pub covers : List Task → Indexes → ℕ → ℕ → Bool
covers U L k time =
    nat_le 1 time
    && nat_le time (limit_of (task_at U k))
    && nat_le (demand_of U k (without_index L k) time) time

-- the time does so, and the task need not stand above any of the others of L
abbrev pub time_stands : List Task → Indexes → ℕ → ℕ → Bool
time_stands U L k time = covers U L k time && not (must_outrank_any U k (without_index L k))

-- ---- the failures
-- task `other` of the set is one of H, and task i must stand above it
abbrev pub is_outranked : List Task → ℕ → Indexes → ℕ → Bool
is_outranked U i H other = (nat_lt other (length U) && H other) && must_outrank U i other

-- the reason refutes task i below H: a chain, or a task of H above which i must stand
abbrev pub refutes : List Task → ℕ → Indexes → CertReasonData → Bool
refutes U i H (Chain numbers) = are_chain (demand_of U i H) (limit_of (task_at U i)) numbers
refutes U i H (Over other) = is_outranked U i H (task_by_name U other)

-- the name is a task's, and its reason refutes it below the others of L
abbrev pub is_refuted : List Task → Indexes → Fail → Bool
is_refuted U L f =
    nat_lt (task_by_name U f.name) (length U)
    && refutes U (task_by_name U f.name) (without_index L (task_by_name U f.name)) f.reason

-- the first of some failures that is none below the others that are left
abbrev pub bad_fail : List Task → ℕ → Indexes → List Fail → Option CheckFault
bad_fail U place L [] = None
bad_fail U place L (f ∷ fs) =
    option_or (fault_unless (is_refuted U L f) (BadChain place f.name)) (bad_fail U place L fs)

-- ---- the failures that are missing
-- the least index below n that is in L and not named
abbrev pub first_unnamed : Indexes → List ℕ → ℕ → Option ℕ
first_unnamed L named zero = None
first_unnamed L named (suc n) =
    option_or (first_unnamed L named n) (if L n && not (among named n) then Some n else None)

-- the fault of a missing failure, at a level
abbrev pub missing_at : List Task → ℕ → Option ℕ → Option CheckFault
missing_at U place None = None
missing_at U place (Some k) = Some (MissingFail place (task_at U k).name)

-- ---- the levels, from the lowest up, each with the tasks that are left there
-- the fault of one level
abbrev pub level_fault : List Task → LevelCheck → ℕ → Indexes → CertLevelData → Option CheckFault
level_fault U Tasks place L l =
    fault_unless (are_lesser L 0 (task_by_name U l.name) (tasks_of (failures_of U l.fails)))
    (WrongTasks place)
level_fault U Pass place L l =
    fault_unless (time_stands U L (task_by_name U l.name) l.time) (BadPass place)
level_fault U Chains place L l = bad_fail U place L l.fails
level_fault U Missing place L l =
    missing_at U place (first_unnamed L (tasks_of (failures_of U l.fails)) (task_by_name U l.name))

-- the first fault of the levels, of one kind
abbrev pub levels_fault : List Task → LevelCheck → ℕ → Indexes → List CertLevelData
    → Option CheckFault
levels_fault U asked place L [] = None
levels_fault U asked place L (l ∷ ls) =
    option_or (level_fault U asked place L l)
    (levels_fault U asked (place + 1) (without_index L (task_by_name U l.name)) ls)

-- ---- the chains
-- these are the chains by name, in order
abbrev pub are_named : List ChainData → (said : List CertChain) → Bool
are_named [] [] = true
are_named (c ∷ chains) (s ∷ said) = same_bytes s.name c.name && are_named chains said
are_named _ _ = false

-- the first of the chains whose number is below its bound
abbrev pub bad_age : List Task → List LevelData → List ChainData → (said : List CertChain) → Option CheckFault
bad_age U levels [] said = None
bad_age U levels (c ∷ chains) [] = None
bad_age U levels (c ∷ chains) (s ∷ said) =
    option_or (fault_unless (covers_chain U levels c s.number) (BadAge c.name))
    (bad_age U levels chains said)

-- the first fault of what is said of chains: WrongChains, BadAge
abbrev pub chains_fault : List Task → List LevelData → List ChainData → (said : List CertChain)
    → Option CheckFault
chains_fault U levels chains said =
    if are_named chains said then bad_age U levels chains said else Some WrongChains

-- ---- the whole
-- the first fault of a `best` certificate's levels: WrongTasks, BadPass, BadChain, MissingFail
abbrev pub order_fault : List Task → List CertLevelData → Option CheckFault
order_fault U levels =
    if are_new (length U) no_index (order_of (levels_of U levels))
    && has_all (length U) (among (order_of (levels_of U levels)))
    then option_or (levels_fault U Tasks 1 (all_of U) levels)
    (option_or (levels_fault U Pass 1 (all_of U) levels)
    (option_or (levels_fault U Chains 1 (all_of U) levels)
    (levels_fault U Missing 1 (all_of U) levels)))
    else Some (WrongTasks 0)

-- that of a `best` certificate: its levels', then what is said of chains
abbrev pub best_fault : List Task → List ChainData → List CertLevelData → (said : List CertChain)
    → Option CheckFault
best_fault U chains levels said =
    option_or (order_fault U levels) (chains_fault U (levels_of U levels) chains said)

-- the first fault of a `none` certificate: WrongTasks, BadChain, EmptySet
abbrev pub set_fault : List Task → List Fail → Option CheckFault
set_fault U members =
    if are_new (length U) no_index (tasks_of (failures_of U members))
    then option_or (bad_fail U 0 (among (tasks_of (failures_of U members))) members)
    (fault_unless (not (length members == 0)) EmptySet)
    else Some (WrongTasks 0)

-- the first fault of a body, an order's with what is said of chains, or a set's
abbrev pub body_fault : List Task → List ChainData → Body → (said : List CertChain) → Option CheckFault
body_fault U chains (Best levels) said = best_fault U chains levels said
body_fault U chains (NoOrder members) said = set_fault U members

-- the first fault of a certificate, of a set with these chains: WrongVersion, and then its body's
abbrev pub check_fault : List Task → List ChainData → Cert → Option CheckFault
check_fault U chains c =
    option_or (fault_unless (may_serve c.version (version_for (shows_chains c.body chains) U)) WrongVersion)
    (body_fault U chains c.body c.chains)
