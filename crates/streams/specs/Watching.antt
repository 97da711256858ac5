-- What a watched reader or writer is.
use Rattle.std.specs.Prelude.{ℕ, Bool}

-- a reader or a writer; whether a call of it has failed, whether a read of it was interrupted, how
-- many reads there were, and how many interrupted writes were tried again
pub record WatchedData (T : Type 0) : Type 0 where
  pub inner : T
  pub has_failed : Bool
  pub was_interrupted : Bool
  pub reads : ℕ
  pub tries : ℕ
