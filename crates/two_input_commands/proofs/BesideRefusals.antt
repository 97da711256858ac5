-- Why there are not two runs.
use Rattle.std.proofs.Common.{ℕ, List, ◌++◌}
use Rattle.std.specs.Prelude.{Ok, Err}
use Rattle.task_sheet.specs.Sheet.{Task}
use Rattle.task_sheet.specs.declared.prefer.Preference.{Preference}
use Rattle.preferences.specs.declared.asking.Asking.{Asking}
use Rattle.command_line.specs.declared.calls.Options.{Options}
use Rattle.answering.specs.declared.refusal.CommandRefusal.{CommandRefusal}
use Rattle.answering.specs.declared.refusal.CommandRefusal.TheVariants as refusal
use Rattle.two_input_commands.specs.Beside.{AreRuns, BesidesText, IsNoRuns, list_of, new_of}
use Rattle.two_input_commands.specs.Beside.{new_run_refusal}
use Rattle.two_input_commands.specs.Diff.{IsNew, IsNoNew}
use Rattle.two_input_commands.specs.Simulate.{SimulatesText}
use Rattle.two_input_commands.specs.View.{AsksRows, rows_word}
use Rattle.two_input_commands.specs.declared.simulate.Simulated.{Simulated}

module _ (asking : Asking) (U : List Task) (text : List ℕ) where
  -- a text says no new set
  pub no_new_set : (was : Simulated) (r : CommandRefusal) → SimulatesText U (list_of text) (Ok was)
      → IsNoNew asking (new_of text) r → IsNoRuns asking U text r
  no_new_set was (refusal.New fault) is why = (was, is, why)
  no_new_set was (refusal.NewDoubtful doubt) is why = (was, is, why)
  no_new_set was (refusal.NewChain fault) is why = (was, is, why)
  no_new_set was _ is why = absurd why

  -- the list is refused on the new set
  pub no_new_run : (was : Simulated) (V : List Task) (by : Preference) (r : CommandRefusal)
      → SimulatesText U (list_of text) (Ok was) → IsNew asking (new_of text) V by
      → SimulatesText V (list_of text) (Err r) → IsNoRuns asking U text (new_run_refusal r)
  no_new_run was V by (refusal.Run fault) is new why = (was, V, by, is, new, why)
  no_new_run was V by (refusal.Settings fault) is new why = (was, V, by, is, new, why)
  no_new_run was V by (refusal.Text fault) is new why = why
  no_new_run was V by refusal.OutOfMemory is new why = tt
  no_new_run was V by _ is new why = absurd why

  -- there is no view
  pub view_refused : (options : Options) (V : List Task) (was is : Simulated) (r : CommandRefusal)
      → AreRuns asking U V text was is → AsksRows (U ++ V) (rows_word options) (Err r)
      → BesidesText asking options U text (Err r)
  view_refused options V was is (refusal.NoSuchTask name) runs why = (V, was, is, runs, why)
  view_refused options V was is refusal.OutOfMemory runs why = tt
  view_refused options V was is _ runs why = absurd why
