use Rattle.std.proofs.Common.{◌≡◌, ◌∙◌, ◌++◌, [], List, ℕ, ap, string_bytes}
use Rattle.std.proofs.lemmas.Result.{on_ok_weaker}
use Rattle.lines.proofs.SetTasks.{task_got}
use Rattle.task_sheet.specs.Sheet.{Task}
use Rattle.task_lines.specs.Teams.{team_of, team_said, team_words}
use Rattle.task_lines.proofs.owner.push_team.Goals as goal

-- past the end of a set stands a task whose name is empty
pub returns-in-None : goal.returns-in-None
returns-in-None c =
    let owners = c.args.owners.now in
    let before : List ℕ = string_bytes c.args.text.now in
    let same : team_said (team_of owners []) ≡ team_words owners c.args.set.now c.args.task =
    ap (λ (t : Task). team_said (team_of owners t.name))
    (task_got c.args.set.now c.args.task _ c.in-None.ensures) in
    on_ok_weaker c.push_said-in-None.result
    (λ e. e ∙ ap (λ w. before ++ w) (ap team_said c.team_of-in-None.ensures ∙ same))
    c.push_said-in-None.ensures
