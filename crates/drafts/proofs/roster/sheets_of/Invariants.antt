use Rattle.std.proofs.Common.{◌≡◌}
use Rattle.drafts.specs.Applied.{sheets_of}
use Rattle.drafts.proofs.roster.sheets_of.Given as goal

abbrev pub invariant-loop-task : goal.invariant-loop-task
invariant-loop-task l = l.sheets.items ≡ sheets_of l.yielded
