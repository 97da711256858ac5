-- A certificate's names as the tasks of a set, and what it has to show of these and the set's chains.
use Rattle.std.specs.Prelude.{◌≡◌, ℕ, ◌+◌, Bool, true, false, List, [], ◌∷◌, length, map, position}
use Rattle.std.specs.Prelude.{unwrap_or}
use Rattle.task_sheet.specs.Sheet.{Task, task_at, same_bytes}
use Rattle.task_sheet.specs.Verdicts as verdict
use Rattle.task_sheet.specs.Verdicts.{ReasonData, FailureData, LevelData}
use Rattle.task_sheet.specs.Ready.{IsReadyOrder, IsReadySet}
use Rattle.certificate.specs.Body.{CertReasonData, Chain, Over, Fail, CertLevelData, Body, Best, NoOrder, Cert}
use Rattle.certificate.specs.declared.value.CertChain.{CertChain}
use Rattle.certificate.specs.CertificateOf.{shows_chains}
use Rattle.certificate.specs.Versions.{version_for}
use Rattle.chain_tables.specs.Chains.{ChainData}
use Rattle.cert_checker.specs.Ages.{covers_chain}
use Rattle.certificate.specs.declared.version.CertVersion.{CertVersion}
use Rattle.certificate.specs.declared.version.CertVersion.TheVariants.{First, Second, Fourth, Fifth}

-- the task with a name; a name that no task has stands past the end of the set
abbrev pub task_by_name : List Task → List ℕ → ℕ
task_by_name U name = unwrap_or (position (λ s. same_bytes s.name name) U) (length U)

-- a reason, by the other task's index
abbrev pub reason_by_index : List Task → CertReasonData → ReasonData
reason_by_index U (Chain numbers) = verdict.Chain numbers
reason_by_index U (Over other) = verdict.Over (task_by_name U other)

-- a failure, by its tasks' indexes
abbrev pub failure_of : List Task → Fail → FailureData
failure_of U f = record { task = task_by_name U f.name; reason = reason_by_index U f.reason }

-- failures, by their tasks' indexes
abbrev pub failures_of : List Task → List Fail → List FailureData
failures_of U fs = map (failure_of U) fs

-- a level, by its tasks' indexes, with the response that its time gives
abbrev pub level_by_index : List Task → CertLevelData → LevelData
level_by_index U l = record {
  task = task_by_name U l.name;
  response = l.time + (task_at U (task_by_name U l.name)).jitter;
  fails = failures_of U l.fails;
}

-- levels, by their tasks' indexes
abbrev pub levels_of : List Task → List CertLevelData → List LevelData
levels_of U ls = map (level_by_index U) ls

-- what is said of each chain of the set, in order, is its name, and no less than its bound
abbrev pub AreReadyChains : List Task → List LevelData → List ChainData → (said : List CertChain) → Type 0
AreReadyChains U levels [] [] = Unit {0}
AreReadyChains U levels (c ∷ chains) (s ∷ said) =
    (s.name ≡ c.name) × (covers_chain U levels c s.number ≡ true) × AreReadyChains U levels chains said
AreReadyChains U levels _ _ = ⊥

-- the body is ready for the set: it shows its order best, and what is said of its chains; or that no order passes
abbrev pub IsReadyBody : List Task → List ChainData → Body → (said : List CertChain) → Type 0
IsReadyBody U chains (Best levels) said =
    IsReadyOrder U (levels_of U levels) × AreReadyChains U (levels_of U levels) chains said
IsReadyBody U chains (NoOrder members) said = IsReadySet U (failures_of U members)

-- a certificate of a version may speak of a set that needs one: the fourth and the fifth serve where they are needed and
-- nowhere else, the second also where the first would do
abbrev pub may_serve : (version needed : CertVersion) → Bool
may_serve First First = true
may_serve Second First = true
may_serve Second Second = true
may_serve Fourth Fourth = true
may_serve Fifth Fifth = true
may_serve _ _ = false

-- the certificate is ready for the set with these chains: its version serves, and its body is ready
pub record IsReady (U : List Task) (chains : List ChainData) (c : Cert) : Type 0 where
  pub version : may_serve c.version (version_for (shows_chains c.body chains) U) ≡ true
  pub body : IsReadyBody U chains c.body c.chains
