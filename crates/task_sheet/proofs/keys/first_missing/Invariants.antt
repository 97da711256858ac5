use Rattle.std.proofs.Common.{◌≡◌, drop}
use Rattle.toml.specs.View.{table_view}
use Rattle.task_sheet.specs.Tree.{first_missing}
use Rattle.task_sheet.proofs.keys.first_missing.Given as goal

abbrev pub invariant-loop-key : goal.invariant-loop-key
invariant-loop-key l = first_missing (drop l.key-index l.keys) (table_view l.table)
    ≡ first_missing l.keys (table_view l.table)
