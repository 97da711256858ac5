use Rattle.std.proofs.Common.{◌≡◌, ◌++◌, drop}
use Rattle.judge.specs.SettingLines.{mutexes_of, threads_of}
use Rattle.judge.proofs.rows.sort_rows.Given as goal

abbrev pub invariant-loop-row : goal.invariant-loop-row
invariant-loop-row l = record {
  threads : l.threads.items ++ threads_of (drop l.row-index l.rows) ≡ threads_of l.fn.rows;
  mutexes : l.mutexes.items ++ mutexes_of (drop l.row-index l.rows) ≡ mutexes_of l.fn.rows;
}
