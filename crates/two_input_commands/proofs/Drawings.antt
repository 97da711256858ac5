-- Why nothing is drawn.
use Rattle.std.proofs.Common.{ℕ, List, inl}
use Rattle.std.specs.Prelude.{Ok, Err}
use Rattle.task_sheet.specs.Sheet.{Task}
use Rattle.command_line.specs.declared.calls.Options.{Options}
use Rattle.two_input_commands.specs.Draw.{DrawsText, IsUnread}
use Rattle.two_input_commands.specs.Simulate.{SimulatesText}
use Rattle.two_input_commands.specs.View.{AsksRows, rows_word}
use Rattle.answering.specs.declared.refusal.CommandRefusal.{CommandRefusal}
use Rattle.answering.specs.declared.refusal.CommandRefusal.TheVariants as refusal
use Rattle.two_input_commands.specs.declared.simulate.Simulated.{Simulated}

-- the settings aren't read
pub unread : (options : Options) (U : List Task) (text : List ℕ) (r : CommandRefusal)
    → IsUnread text r → DrawsText options U text (Err r)
unread options U text (refusal.Settings fault) is = inl is
unread options U text _ is = absurd is

-- there is no view
pub unseen : (options : Options) (U : List Task) (text : List ℕ) (answer : Simulated)
    (r : CommandRefusal) → SimulatesText U text (Ok answer) → AsksRows U (rows_word options) (Err r)
    → DrawsText options U text (Err r)
unseen options U text answer (refusal.NoSuchTask name) is why = (answer, is, why)
unseen options U text answer refusal.OutOfMemory is why = tt
unseen options U text answer _ is why = absurd why
