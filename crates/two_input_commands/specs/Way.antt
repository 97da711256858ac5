-- What `desk draw` with `--chain` answers and prints: the picture of a run, and in it how a datum goes along a chain.
use Rattle.std.specs.Prelude.{◌≡◌, ℕ, ◌==◌, nat_lt, if◌then◌else◌, List, [], ◌∷◌, ◌++◌, map, Option, Some, None, Result, Ok, Err, length, slice_get, string_bytes}
use Rattle.std.specs.Option.{option_map}
use Rattle.task_sheet.specs.Sheet.{Task}
use Rattle.task_sheet.specs.Indexes.{indexes_of, listed_below}
use Rattle.command_line.specs.declared.calls.Options.{Options}
use Rattle.chains.specs.Parts.{bound_in}
use Rattle.chains.specs.declared.bounds.Level.{Level}
use Rattle.chain_tables.specs.Chains.{ChainData}
use Rattle.frames.specs.Frame.{frame_of}
use Rattle.frames.specs.View.{shown_of}
use Rattle.frames.specs.declared.rows.TaskRow.{TaskRow}
use Rattle.frames.specs.declared.view.View.{View}
use Rattle.picture.specs.Document.{document}
use Rattle.drawn_runs.specs.DrawnRows.{rows_of}
use Rattle.drawn_ways.specs.WayTexts.{WayData, laid_over, way_text}
use Rattle.judge.specs.declared.rows.SettingRow.{SettingRow}
use Rattle.answering.specs.Asked.{asked_chain, no_such_chain}
use Rattle.answering.specs.OutcomeLines.{infeasible_line}
use Rattle.answering.specs.declared.refusal.CommandRefusal.{CommandRefusal}
use Rattle.answering.specs.declared.refusal.CommandRefusal.TheVariants as refusal
use Rattle.answering.specs.OnBoth.{OfBoth}
use Rattle.answering.specs.Printed.{Answers}
use Rattle.two_input_commands.specs.Draw.{DrawsText, drawing_said, looks_in}
use Rattle.two_input_commands.specs.Simulate.{level_of_bound, simulation_status}
use Rattle.two_input_commands.specs.declared.draw.Drawing.{Drawing}
use Rattle.two_input_commands.specs.declared.simulate.Run.{Run}
use Rattle.two_input_commands.specs.declared.simulate.Simulated.{Simulated}
use Rattle.two_input_commands.specs.declared.simulate.Simulated.TheVariants.{Infeasible, Ran}
use Rattle.two_input_commands.specs.declared.way.DrawnWay.{DrawnWay}

-- ---- the rows
-- the names of tasks of a set
abbrev pub name_at : List Task → (task : ℕ) → Option (List ℕ)
name_at U task = option_map (λ (t : Task). t.name) (slice_get U task)

abbrev pub name_more : Option (List ℕ) → List (List ℕ) → List (List ℕ)
name_more None names = names
name_more (Some name) names = name ∷ names

abbrev pub names_at : List Task → List ℕ → List (List ℕ)
names_at U [] = []
names_at U (task ∷ tasks) = name_more (name_at U task) (names_at U tasks)

-- where some tasks are named that have rows, those of a chain have rows, too
abbrev pub rows_with : List Task → ChainData → List (List ℕ) → List (List ℕ)
rows_with U c names = if length names == 0 then [] else names ++ names_at U c.tasks

-- a view is another with these rows
pub record IsViewWith (U : List Task) (c : ChainData) (v w : View) : Type 0 where
  pub from : w.from ≡ v.from
  pub to : w.to ≡ v.to
  pub width : w.width ≡ v.width
  pub paper : w.paper ≡ v.paper
  pub title : string_bytes w.title ≡ string_bytes v.title
  pub rows : w.tasks.items ≡ rows_with U c v.tasks.items

-- ---- the picture
-- a bound that has more than 64 bits isn't told
abbrev pub told_bound : Option ℕ → Option ℕ
told_bound None = None
told_bound (Some bound) = if nat_lt bound 18446744073709551616 then Some bound else None

-- what is drawn of a chain that has this bound
abbrev pub way_with : ChainData → (bound : Option ℕ) → WayData
way_with c bound = record {
  name = c.name;
  writes = c.writes;
  tasks = c.tasks;
  bound = told_bound bound;
}

-- the same in an order with these levels
abbrev pub way_in : List Task → List Level → ChainData → WayData
way_in U levels c = way_with c (bound_in c.writes c.offsets U levels c.tasks)

-- the picture of rows of a run with it
abbrev pub rows_drawn : List Task → List TaskRow → View → Run → WayData → List ℕ
rows_drawn U rows v run w =
    laid_over (document rows v run.until run.releases.items run.trace)
    (way_text (frame_of rows v run.until) U rows (shown_of v.tasks.items run.releases.items rows) run.trace w)

-- the picture of a run in an order of a set, with the numbers that settings give, as a view has it
abbrev pub picture_with : List Task → List SettingRow → View → ChainData → Run → List ℕ
picture_with U settings v c run =
    rows_drawn U (rows_of U (looks_in U settings v run.releases.items) run.bounds.items) v run
    (way_in U (map level_of_bound run.bounds.items) c)

-- the same of what came of a set; where no order passes the line of the obstruction
abbrev pub answer_drawn : List Task → List SettingRow → View → ChainData → Simulated → List ℕ
answer_drawn U settings v c (Ran run) = picture_with U settings v c run
answer_drawn U settings v c (Infeasible left) =
    infeasible_line U (listed_below (length U) (indexes_of left))

-- ---- the answer
-- what came of a set and a list is drawn with the way of a chain
pub record IsWayOf (U : List Task) (c : ChainData) (d : Drawing) (found : DrawnWay) : Type 0 where
  pub answer : found.answer ≡ d.answer
  pub view : View
  pub rows : IsViewWith U c d.view view
  pub text : found.text.items ≡ answer_drawn U d.settings.items view c d.answer

-- the answer on a set with chains and the text of a release list, by the chain's name: that of `desk draw`; then the name is
-- refused, if no chain has it
abbrev pub DrawsWay : (word : List ℕ) → Options → List ChainData → List Task → List ℕ → Result DrawnWay CommandRefusal → Type 0
DrawsWay word options chains U text (Ok found) =
    (d : Drawing) × (c : ChainData) × DrawsText options U text (Ok d)
    × (asked_chain chains word ≡ Some c) × IsWayOf U c d found
DrawsWay word options chains U text (Err (refusal.NoSuchChain name)) =
    (d : Drawing) × DrawsText options U text (Ok d) × (asked_chain chains word ≡ None)
    × (refusal.NoSuchChain name ≡ no_such_chain word)
DrawsWay word options chains U text (Err r) = DrawsText options U text (Err r)

-- the answer on both, where words name a chain; else that of `desk draw` without it
abbrev pub DrawsBoth : Option (List ℕ) → Options → OfBoth
DrawsBoth None options both =
    Answers (DrawsText options both.tasks both.text.items) (drawing_said both.tasks)
    (λ d. simulation_status d.answer)
DrawsBoth (Some word) options both =
    Answers (DrawsWay word options both.chains.items both.tasks both.text.items)
    (λ found. found.text.items) (λ found. simulation_status found.answer)
