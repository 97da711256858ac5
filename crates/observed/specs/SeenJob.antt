-- What is seen of a job.
use Rattle.std.specs.Prelude.{ℕ, Bool, List, Option}
use Rattle.observed.specs.declared.culprits.Culprit.{Culprit}
use Rattle.observed.specs.declared.promises.Promise.{Promise}

-- the fields of `Seen`
pub record SeenData : Type 0 where
  pub level : ℕ
  pub promise : Promise
  pub arrival : ℕ
  pub gap : Option ℕ
  pub closest : ℕ
  pub delay : Option ℕ
  pub is_finished : Bool
  pub lasted : ℕ
  pub executed : ℕ
  pub stray : Option ℕ
  pub may_execute : ℕ
  pub blocked : ℕ
  pub culprits : List Culprit
  pub may_be_blocked : ℕ
  pub foreign : ℕ
  pub stranger : Option (List ℕ)
  pub idle : ℕ
  pub may_be_taken : ℕ
