use Rattle.std.proofs.Common.{◌≡◌, ◌∙◌, ℕ, List, IfOk, refl, subst}
use Rattle.task_sheet.specs.Sheet.{Task}
use Rattle.ceiling_kernel.specs.declared.trace.Release.{Release}
use Rattle.judge.specs.declared.rows.SettingRow.{SettingRow}
use Rattle.run_lines.specs.declared.bounds.TaskBound.{TaskBound}
use Rattle.frames.specs.declared.tones.Toned.{Toned}
use Rattle.frames.specs.declared.view.View.{View}
use Rattle.drawn_runs.specs.DrawnRows.{Looks, rows_of}
use Rattle.two_input_commands.specs.Draw.{looks_in, number_named, task_tones}
use Rattle.two_input_commands.proofs.draw.rows_in_view.Goals as goal

-- what rows have beside tasks and bounds, by its parts
same_looks : (U : List Task) (settings : List SettingRow) (v : View) (rs : List Release)
    (tones : List Toned) (names : List (List ℕ)) (listed : List Release)
    → tones ≡ task_tones U → names ≡ v.tasks.items → listed ≡ rs → record {
      number = number_named settings;
      tones = tones;
      names = names;
      releases = listed;
    } ≡ looks_in U settings v rs
same_looks U settings v rs tones names listed toned named released = rw (toned, named, released) refl

pub returns-clause-rows : goal.returns-clause-rows
returns-clause-rows c =
    let U = c.args.set.now in
    let run = c.args.run.now in
    let looks = same_looks U c.args.settings.now c.args.view.now run.releases.items
    c.deref.result.now c.deref-2.result.now c.deref-3.result.now
    (c.deref.ensures.value ∙ c.in_ok-tones.ensures) c.deref-2.ensures.value c.deref-3.ensures.value in
    let looked = subst (λ (l : Looks). IfOk c.rows_in.result (λ rows. rows.items
    ≡ rows_of U l c.deref-4.result.now)) looks c.rows_in.ensures.rows in
    subst (λ (bs : List TaskBound). IfOk c.rows_in.result (λ rows. rows.items
    ≡ rows_of U (looks_in U c.args.settings.now c.args.view.now run.releases.items) bs))
    c.deref-4.ensures.value looked
