-- What a reply says, wherever its parts are kept.
use Rattle.std.specs.Prelude.{ℕ, List}
use Rattle.drafts.specs.Machine.{Entry}
use Rattle.desk_core.specs.declared.events.Cause.{Cause}
use Rattle.desk_core.specs.declared.events.Reply.{Reply}
use Rattle.desk_core.specs.declared.events.Reply.TheVariants as reply

-- a reply, by what it says
pub data Said : Type 0 where
  Opened : (draft version : ℕ) → Said
  Done : Said
  Taken : Said
  LevelDone : (level : ℕ) (name : List ℕ) (response : ℕ) → Said
  Tested : (infeasible : List (List ℕ)) → Said
  Stale : (version : ℕ) → Said
  Decided : (place : ℕ) (entry : Entry) → Said
  Refused : (cause : Cause) → Said

-- what a reply says
abbrev pub said_of : Reply → Said
said_of (reply.Opened draft version) = Opened draft version
said_of reply.Done = Done
said_of reply.Taken = Taken
said_of (reply.LevelDone level name response) = LevelDone level name response
said_of (reply.Tested infeasible) = Tested infeasible.items
said_of (reply.Stale version) = Stale version
said_of (reply.Decided place entry) = Decided place entry.value
said_of (reply.Refused cause) = Refused cause
