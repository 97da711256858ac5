-- The certificate of a verdict: its numbers and reasons, with the names of the tasks, and of chains.
use Rattle.std.specs.Prelude.{ℕ, ◌<◌, ◌≤◌, Bool, true, false, List, [], ◌∷◌, length, map, All}
use Rattle.task_sheet.specs.Sheet.{Task, task_at}
use Rattle.task_sheet.specs.Verdicts as verdict
use Rattle.task_sheet.specs.Verdicts.{ReasonData, FailureData, LevelData, VerdictData, Admitted, Infeasible}
use Rattle.task_sheet.specs.Ready.{time_of}
use Rattle.certificate.specs.Body.{CertReasonData, Chain, Over, Fail, CertLevelData, Body, Best, NoOrder, Cert}
use Rattle.certificate.specs.declared.value.CertChain.{CertChain}
use Rattle.certificate.specs.Versions.{version_for}

-- a reason, by the other task's name
abbrev pub reason_named : List Task → ReasonData → CertReasonData
reason_named U (verdict.Chain numbers) = Chain numbers
reason_named U (verdict.Over other) = Over (task_at U other).name

-- a failure, by its tasks' names
abbrev pub fail_named : List Task → FailureData → Fail
fail_named U f = record { name = (task_at U f.task).name; reason = reason_named U f.reason }

-- failures, by their tasks' names
abbrev pub fails_named : List Task → List FailureData → List Fail
fails_named U fails = map (fail_named U) fails

-- a level, by its tasks' names
abbrev pub level_named : List Task → LevelData → CertLevelData
level_named U l =
    record { name = (task_at U l.task).name; time = time_of U l; fails = fails_named U l.fails }

-- levels, by their tasks' names
abbrev pub levels_named : List Task → List LevelData → List CertLevelData
levels_named U levels = map (level_named U) levels

-- what the certificate of a verdict on a set says
abbrev pub body_named : List Task → VerdictData → Body
body_named U (Admitted levels) = Best (levels_named U levels)
body_named U (Infeasible members) = NoOrder (fails_named U members)

-- a best order shows the chains, if there are some
abbrev pub shows_chains : {X : Type 0} → Body → List X → Bool
shows_chains (Best levels) [] = false
shows_chains (Best levels) (c ∷ chains) = true
shows_chains (NoOrder members) chains = false

-- those of them that are shown
abbrev pub chains_shown : Body → List CertChain → List CertChain
chains_shown (Best levels) chains = chains
chains_shown (NoOrder members) chains = []

-- the certificate of a verdict on a set with these chains
abbrev pub certificate_of : List Task → VerdictData → List CertChain → Cert
certificate_of U v chains = record {
  version = version_for (shows_chains (body_named U v) chains) U;
  body = body_named U v;
  chains = chains_shown (body_named U v) chains;
}

-- the reason names a task of a set of n, or none
abbrev pub IsKnownReason : ℕ → ReasonData → Type 0
IsKnownReason n (verdict.Chain numbers) = Unit {0}
IsKnownReason n (verdict.Over other) = other < n

-- the failure names tasks of a set of n alone
pub record IsKnownFail (n : ℕ) (f : FailureData) : Type 0 where
  pub task : f.task < n
  pub reason : IsKnownReason n f.reason

-- the level names tasks of the set alone, and its response is no less than its task's jitter
pub record IsKnownLevel (U : List Task) (l : LevelData) : Type 0 where
  pub task : l.task < length U
  pub late : (task_at U l.task).jitter ≤ l.response
  pub fails : All (IsKnownFail (length U)) l.fails
