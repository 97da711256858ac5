-- What `desk draw` answers and prints: the answer of `desk simulate`, as a picture.
use Rattle.std.specs.Prelude.{◌≡◌, ℕ, true, false, if◌then◌else◌, Option, Some, None, List, [], ◌∷◌, length, Result, Ok, Err}
use Rattle.task_sheet.specs.Sheet.{Task, same_bytes}
use Rattle.task_sheet.specs.Indexes.{indexes_of, listed_below}
use Rattle.ceiling_kernel.specs.declared.trace.Release.{Release}
use Rattle.picture.specs.Document.{document}
use Rattle.frames.specs.declared.view.View.{View}
use Rattle.command_line.specs.declared.calls.Options.{Options}
use Rattle.judge.specs.SettingFaults.{IsRowsFault}
use Rattle.judge.specs.Front.{settings_in}
use Rattle.judge.specs.declared.rows.SettingRow.{SettingRow}
use Rattle.judge.specs.declared.rows.SettingRow.TheVariants.{Mutex, Thread}
use Rattle.drawn_runs.specs.DrawnRows.{Looks, rows_of}
use Rattle.frames.specs.Locks.{noted_names}
use Rattle.frames.specs.Tones.{tones_of}
use Rattle.frames.specs.declared.tones.TheConstants.{TASK_TONES}
use Rattle.frames.specs.declared.tones.Toned.{Toned}
use Rattle.two_input_commands.specs.declared.draw.Looks.{Looks as LooksData}
use Rattle.answering.specs.OutcomeLines.{infeasible_line}
use Rattle.two_input_commands.specs.Simulate.{SimulatesText, simulation_status}
use Rattle.two_input_commands.specs.View.{AsksRows, IsViewOf, is_unseen, names_of, rows_word}
use Rattle.two_input_commands.specs.declared.draw.Drawing.{Drawing}
use Rattle.answering.specs.declared.refusal.CommandRefusal.{CommandRefusal}
use Rattle.answering.specs.declared.refusal.CommandRefusal.TheVariants as refusal
use Rattle.two_input_commands.specs.declared.simulate.Run.{Run}
use Rattle.two_input_commands.specs.declared.simulate.Simulated.{Simulated}
use Rattle.two_input_commands.specs.declared.simulate.Simulated.TheVariants.{Infeasible, Ran}

-- the number that settings give to the thread of a name, the first one, if there is one
abbrev pub number_named : List SettingRow → List ℕ → Option ℕ
number_named [] name = None
number_named (Thread s ∷ rows) name =
    if same_bytes s.name name then Some s.number else number_named rows name
number_named (Mutex s ∷ rows) name = number_named rows name

-- the tones of a set's tasks, by their names, the least first
abbrev pub task_tones : List Task → List Toned
task_tones U = tones_of TASK_TONES (noted_names [] (names_of U))

-- what rows have beside tasks and bounds, with the numbers that settings give
abbrev pub looks_of : LooksData → Looks
looks_of looks = record {
  number = number_named looks.settings.now;
  tones = looks.tones.now;
  names = looks.names.now;
  releases = looks.releases.now;
}

-- the same of a set, in a view
abbrev pub looks_in : List Task → List SettingRow → View → List Release → Looks
looks_in U settings v rs = record {
  number = number_named settings;
  tones = task_tones U;
  names = v.tasks.items;
  releases = rs;
}

-- the picture of a run in an order of a set, with the numbers that settings give, as a view has it
abbrev pub picture_of : List Task → List SettingRow → View → Run → List ℕ
picture_of U settings v run =
    document (rows_of U (looks_in U settings v run.releases.items) run.bounds.items) v run.until
    run.releases.items run.trace

-- what is printed of what came of a set
abbrev pub answer_said : List Task → List SettingRow → View → Simulated → List ℕ
answer_said U settings v (Ran run) = picture_of U settings v run
answer_said U settings v (Infeasible left) =
    infeasible_line U (listed_below (length U) (indexes_of left))

-- the same of that, the settings and a view
abbrev pub drawing_said : List Task → Drawing → List ℕ
drawing_said U d = answer_said U d.settings.items d.view d.answer

-- why the settings in front of a list aren't read: a faulty line, or memory
abbrev pub IsUnread : List ℕ → CommandRefusal → Type 0
IsUnread text (refusal.Settings fault) = IsRowsFault fault (settings_in text)
IsUnread text _ = ⊥

-- the answer on a set and the text of a release list, by what the words choose: that of `desk simulate`, with a view in
-- whose window something lies. The list is refused first, then a name, and then the window
abbrev pub DrawsText : Options → List Task → List ℕ → Result Drawing CommandRefusal → Type 0
DrawsText options U text (Ok d) =
    SimulatesText U text (Ok d.answer) × (settings_in text ≡ Ok d.settings.items)
    × IsViewOf U options d.view × (is_unseen d.view d.answer ≡ false)
DrawsText options U text (Err (refusal.NoSuchTask name)) =
    (answer : Simulated) × SimulatesText U text (Ok answer)
    × AsksRows U (rows_word options) (Err (refusal.NoSuchTask name))
DrawsText options U text (Err refusal.EmptyWindow) =
    (answer : Simulated) × (v : View) × SimulatesText U text (Ok answer) × IsViewOf U options v
    × (is_unseen v answer ≡ true)
DrawsText options U text (Err r) = SimulatesText U text (Err r)
