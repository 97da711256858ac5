use Rattle.judge.specs.Slack.{row_key}
use Rattle.judge.proofs.StableRows.{onto_is_stable}
use Rattle.judge.proofs.laws.sorting_keeps_rows.Goals as goal

pub returns : goal.returns
returns c = λ U rows. onto_is_stable (row_key U) rows
