use Rattle.std.proofs.Common.{◌≡◌, ◌++◌, ℕ, List, length}
use Rattle.desk_core.specs.declared.events.Event.{Event}
use Rattle.desk_core.specs.declared.events.Reply.{Reply}
use Rattle.desk_core.specs.World.{World, start, IsRun}
use Rattle.desk_core.proofs.desk_core.run.Given as goal

-- the events so far are answered, and these are left
pub record Ran (core : World) (done left all : List Event) (count : ℕ)
    (answers : List Reply) : Type 0 where
  pub run : IsRun start done answers core
  pub rest : done ++ left ≡ all
  pub counted : length left ≡ count

abbrev pub invariant-loop-event : goal.invariant-loop-event
invariant-loop-event l = Ran l.core l.yielded l.event-iterator.rest.items l.fn.events.items
    l.event-iterator.rest.len l.replies.items
