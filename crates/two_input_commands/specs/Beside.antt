-- What `desk draw` with `--beside` answers and prints: two runs of one release list, of a set and of the one that it becomes, as
-- one picture.
use Rattle.std.specs.Prelude.{◌≡◌, ℕ, max, ◌==◌, Bool, true, false, if◌then◌else◌, List, [], ◌∷◌, ◌++◌, map, Option, Some, None, Result, Ok, Err, length}
use Rattle.std.specs.List.{find}
use Rattle.task_sheet.specs.Sheet.{Task, same_bytes}
use Rattle.task_sheet.specs.Indexes.{indexes_of, listed_below}
use Rattle.task_sheet.specs.declared.prefer.Preference.{Preference}
use Rattle.teams.specs.ReadsText.{ReadsText}
use Rattle.preferences.specs.ReadsAsked.{IsDoubted, IsUnchained}
use Rattle.preferences.specs.declared.asking.Asking.{Asking}
use Rattle.command_line.specs.declared.calls.Options.{Options}
use Rattle.judge.specs.Front.{settings_in}
use Rattle.judge.specs.declared.rows.SettingRow.{SettingRow}
use Rattle.frames.specs.View.{is_empty}
use Rattle.frames.specs.declared.rows.TaskRow.{TaskRow}
use Rattle.frames.specs.declared.view.View.{View}
use Rattle.picture.specs.Beside.{Run as DrawnRun, document_beside}
use Rattle.drawn_runs.specs.DrawnRows.{rows_of}
use Rattle.answering.specs.Chosen.{chain_of}
use Rattle.answering.specs.OutcomeLines.{infeasible_line}
use Rattle.answering.specs.declared.refusal.CommandRefusal.{CommandRefusal}
use Rattle.answering.specs.declared.refusal.CommandRefusal.TheVariants as refusal
use Rattle.answering.specs.declared.status.Status.{Status}
use Rattle.answering.specs.declared.status.Status.TheVariants as status
use Rattle.two_input_commands.specs.Diff.{IsNew}
use Rattle.two_input_commands.specs.Draw.{looks_in}
use Rattle.answering.specs.OnBoth.{OfBoth}
use Rattle.answering.specs.Printed.{Answers}
use Rattle.two_input_commands.specs.Simulate.{SimulatesText, simulation_status}
use Rattle.two_input_commands.specs.View.{AsksRows, IsViewOf, rows_word}
use Rattle.two_input_commands.specs.declared.beside.TwoRuns.{TwoRuns}
use Rattle.two_input_commands.specs.declared.simulate.Run.{Run}
use Rattle.two_input_commands.specs.declared.simulate.Simulated.{Simulated}
use Rattle.two_input_commands.specs.declared.simulate.Simulated.TheVariants.{Infeasible, Ran}

-- ---- the text
-- the release list of a text: what stands in front of the first byte 0
abbrev pub list_of : List ℕ → List ℕ
list_of [] = []
list_of (b ∷ bytes) = if b == 0 then [] else b ∷ list_of bytes

-- the new set's: what stands behind it
abbrev pub new_of : List ℕ → List ℕ
new_of [] = []
new_of (b ∷ bytes) = if b == 0 then bytes else new_of bytes

-- ---- the rows
-- the rows of a set in a run, with the tones that the tasks of more sets have
abbrev pub rows_drawn : (all U : List Task) → List SettingRow → View → Run → List TaskRow
rows_drawn all U settings v run =
    rows_of U (looks_in all settings v run.releases.items) run.bounds.items

-- what is drawn of a run, with some rows
abbrev pub drawn_run : List TaskRow → Run → DrawnRun
drawn_run rows run = record {
  rows = rows;
  until = run.until;
  releases = run.releases.items;
  jobs = run.trace.jobs.items;
  slices = run.trace.slices.items;
}

-- the tone of a row that was found, else this one
abbrev pub tone_or : Option TaskRow → (own : ℕ) → ℕ
tone_or None own = own
tone_or (Some row) own = row.tone

-- the tone of the first of some rows that is of a name's task, else this one
abbrev pub tone_among : List TaskRow → List ℕ → (own : ℕ) → ℕ
tone_among rows name own =
    tone_or (find (λ (row : TaskRow). same_bytes row.sheet.name name) rows) own

-- a row with the tone that its task has among others
abbrev pub toned_as : List TaskRow → TaskRow → TaskRow
toned_as rows row = record row { tone = tone_among rows row.sheet.name row.tone }

-- the picture of both, where each task has one tone: that of its row in the first run, if it has one there
abbrev pub picture_of_both : List Task → List Task → List SettingRow → View → (was is : Run) → List ℕ
picture_of_both U V settings v was is =
    let olds = rows_drawn (U ++ V) U settings v was in
    let news = map (toned_as olds) (rows_drawn (U ++ V) V settings v is) in
    document_beside (drawn_run olds was) (drawn_run news is) v

-- ---- the answer
-- nothing of two runs lies in the window of a view
abbrev pub are_unseen : View → (was is : Simulated) → Bool
are_unseen v (Ran was) (Ran is) = is_empty v (max was.until is.until)
are_unseen v _ _ = false

-- why the new set has no run, as a refusal
abbrev pub new_run_refusal : CommandRefusal → CommandRefusal
new_run_refusal (refusal.Run fault) = refusal.NewRun fault
new_run_refusal (refusal.Settings fault) = refusal.NewSettings fault
new_run_refusal r = r

-- what comes of the list on a set, and on the new one that a text says, as the call asks for it
pub record AreRuns (asking : Asking) (U V : List Task) (text : List ℕ) (was is : Simulated) : Type 0 where
  pub before : SimulatesText U (list_of text) (Ok was)
  pub new : (by : Preference) × IsNew asking (new_of text) V by
  pub after : SimulatesText V (list_of text) (Ok is)

-- the answer on a set and such a text: both runs, with a view in whose window something lies
pub record IsBeside (asking : Asking) (options : Options) (U : List Task) (text : List ℕ) (b : TwoRuns) : Type 0 where
  pub runs : AreRuns asking U b.set text b.was b.is
  pub settings : settings_in (list_of text) ≡ Ok b.settings.items
  pub view : IsViewOf (U ++ b.set) options b.view
  pub seen : are_unseen b.view b.was b.is ≡ false

-- the list came to something on the first set, and the text of the new one says none
abbrev pub IsNoNewSet : List Task → List ℕ → (why : Type 0) → Type 0
IsNoNewSet U text why = (was : Simulated) × SimulatesText U (list_of text) (Ok was) × why

-- the list came to something on the first set, and is refused on the new one
abbrev pub IsNoNewRun : Asking → List Task → List ℕ → CommandRefusal → Type 0
IsNoNewRun asking U text r =
    (was : Simulated) × (V : List Task) × (by : Preference) × SimulatesText U (list_of text) (Ok was)
    × IsNew asking (new_of text) V by × SimulatesText V (list_of text) (Err r)

-- why there are not both runs: the list is refused first on the set, then the new set, then the list on that
abbrev pub IsNoRuns : Asking → List Task → List ℕ → CommandRefusal → Type 0
IsNoRuns asking U text (refusal.New fault) = IsNoNewSet U text (ReadsText (new_of text) (Err fault))
IsNoRuns asking U text (refusal.NewDoubtful doubt) =
    IsNoNewSet U text (IsDoubted asking (new_of text) doubt)
IsNoRuns asking U text (refusal.NewChain fault) =
    IsNoNewSet U text (IsUnchained asking (new_of text) fault)
IsNoRuns asking U text (refusal.NewRun fault) = IsNoNewRun asking U text (refusal.Run fault)
IsNoRuns asking U text (refusal.NewSettings fault) = IsNoNewRun asking U text (refusal.Settings fault)
IsNoRuns asking U text r = SimulatesText U (list_of text) (Err r)

-- the answer on a set and such a text, by what the words choose. After the runs a name is refused that neither set has, and
-- then the window
abbrev pub BesidesText : Asking → Options → List Task → List ℕ → Result TwoRuns CommandRefusal → Type 0
BesidesText asking options U text (Ok b) = IsBeside asking options U text b
BesidesText asking options U text (Err (refusal.NoSuchTask name)) =
    (V : List Task) × (was : Simulated) × (is : Simulated) × AreRuns asking U V text was is
    × AsksRows (U ++ V) (rows_word options) (Err (refusal.NoSuchTask name))
BesidesText asking options U text (Err refusal.EmptyWindow) =
    (V : List Task) × (was : Simulated) × (is : Simulated) × (v : View) × AreRuns asking U V text was is
    × IsViewOf (U ++ V) options v × (are_unseen v was is ≡ true)
BesidesText asking options U text (Err r) = IsNoRuns asking U text r

-- a picture of both shows no way along a chain
abbrev pub IsChainBeside : Result TwoRuns CommandRefusal → Type 0
IsChainBeside (Err refusal.ChainBeside) = Unit {0}
IsChainBeside _ = ⊥

-- the answer by the word that names a chain, if there is one
abbrev pub AsksBeside : Option (List ℕ) → Asking → Options → List Task → List ℕ → Result TwoRuns CommandRefusal → Type 0
AsksBeside None asking options U text answer = BesidesText asking options U text answer
AsksBeside (Some word) asking options U text answer = IsChainBeside answer

-- ---- what is said
-- what is printed: of the first of the sets of which no order passes what `desk draw` prints, else the picture of both runs
abbrev pub both_said : List Task → List Task → List SettingRow → View → (was is : Simulated) → List ℕ
both_said U V settings v (Infeasible left) is =
    infeasible_line U (listed_below (length U) (indexes_of left))
both_said U V settings v was (Infeasible left) =
    infeasible_line V (listed_below (length V) (indexes_of left))
both_said U V settings v (Ran was) (Ran is) = picture_of_both U V settings v was is

-- the same of what was found
abbrev pub beside_said : List Task → TwoRuns → List ℕ
beside_said U b = both_said U b.set b.settings.items b.view b.was b.is

-- the exit status: that of the worse of both
abbrev pub both_status : (was is : Simulated) → Status
both_status (Infeasible left) is = status.Infeasible
both_status was is = simulation_status is

abbrev pub beside_status : TwoRuns → Status
beside_status b = both_status b.was b.is

-- the answer on both
abbrev pub BesidesBoth : Asking → Options → OfBoth
BesidesBoth asking options both =
    Answers (AsksBeside (chain_of options) asking options both.tasks both.text.items)
    (beside_said both.tasks) beside_status
