-- The states on which drafts are.
use Rattle.std.specs.Prelude.{◌≡◌, List, ◌++◌}
use Rattle.drafts.specs.Machine.{MachineState, Entry, empty_desk, replay}

-- the state is one that the log came to: the machine's after some first entries of it
pub record IsPast (log : List Entry) (desk : MachineState) : Type 0 where
  pub before : List Entry
  pub after : List Entry
  pub split : log ≡ before ++ after
  pub state : replay empty_desk before ≡ desk
