-- What a certificate says, as plain data.
use Rattle.std.specs.Prelude.{◌≡◌, ℕ, ◌^◌, ◌<◌, ◌≤◌, Bool, true, false, List, [], length}
use Rattle.std.specs.List.{AllByRecursion}
use Rattle.task_sheet.specs.Name.{IsName}
use Rattle.task_sheet.specs.declared.set.TheConstants.{TASK_LIMIT}
use Rattle.certificate.specs.declared.value.CertChain.{CertChain}
use Rattle.certificate.specs.declared.version.CertVersion.{CertVersion}
use Rattle.certificate.specs.declared.version.CertVersion.TheVariants.{First, Second, Fourth, Fifth}

-- why a task fails: numbers, or the name of a task above which it must stand
pub data CertReasonData : Type 0 where
  Chain : (numbers : List ℕ) → CertReasonData
  Over : (other : List ℕ) → CertReasonData

-- a task that fails, and why
pub record Fail : Type 0 where
  pub name : List ℕ
  pub reason : CertReasonData

-- a level's task, a time that covers its demand, and those that fail there
pub record CertLevelData : Type 0 where
  pub name : List ℕ
  pub time : ℕ
  pub fails : List Fail

-- what a certificate says: levels, or members
pub data Body : Type 0 where
  Best : List CertLevelData → Body
  NoOrder : List Fail → Body

-- a certificate: its version, what it says, and of which chains
pub record Cert : Type 0 where
  pub version : CertVersion
  pub body : Body
  pub chains : List CertChain

-- ---- what has a spelling

-- a number has at most ten digits
abbrev pub IsShort : ℕ → Type 0
IsShort n = n < 10 ^ 10

-- numbers of at most ten digits, or, from version 2 on, a name
abbrev pub IsReasonText : CertVersion → CertReasonData → Type 0
IsReasonText v (Chain numbers) = (0 < length numbers) × AllByRecursion IsShort numbers
IsReasonText First (Over other) = ⊥
IsReasonText Second (Over other) = IsName other
IsReasonText Fourth (Over other) = IsName other
IsReasonText Fifth (Over other) = IsName other

-- a name, and a reason that can be written
pub record IsFailText (v : CertVersion) (f : Fail) : Type 0 where
  pub name : IsName f.name
  pub reason : IsReasonText v f.reason

-- a name, a number of at most ten digits, and failures that can be written
pub record IsLevelText (v : CertVersion) (l : CertLevelData) : Type 0 where
  pub name : IsName l.name
  pub short : IsShort l.time
  pub fails : AllByRecursion (IsFailText v) l.fails

-- the body can be written: at most `TASK_LIMIT` lines of a kind, names that are names, numbers of at most ten digits
abbrev pub IsBodyText : CertVersion → Body → Type 0
IsBodyText v (Best levels) = (length levels ≤ TASK_LIMIT) × AllByRecursion (IsLevelText v) levels
IsBodyText v (NoOrder members) = (length members ≤ TASK_LIMIT) × AllByRecursion (IsFailText v) members

-- a name, and a number of at most ten digits
pub record IsChainText (c : CertChain) : Type 0 where
  pub name : IsName c.name
  pub short : IsShort c.number

-- from version 5 on chains may stand behind levels
abbrev pub may_chain : CertVersion → Body → Bool
may_chain Fifth (Best levels) = true
may_chain _ body = false

-- chains that can be written, where they may stand
abbrev pub AreChainsText : (may : Bool) → List CertChain → Type 0
AreChainsText true chains = AllByRecursion IsChainText chains
AreChainsText false chains = chains ≡ []

-- the certificate can be written
pub record HasSpelling (c : Cert) : Type 0 where
  pub body : IsBodyText c.version c.body
  pub chains : AreChainsText (may_chain c.version c.body) c.chains
