use Rattle.std.proofs.Common.{◌≡◌, ◌++◌, ◌+◌, drop, map, string_bytes}
use Rattle.rushes.specs.Hands.{AreOfTeams}
use Rattle.rushes.specs.Printed.{log_lines}
use Rattle.rushes.proofs.printing.log_text.Given as goal

-- with the entries that are left all lines are there, and all entries are of teams if those that are left are
abbrev pub invariant-loop-i : goal.invariant-loop-i
invariant-loop-i l = record {
  told : string_bytes l.text ++ log_lines (l.i + 1) (map (λ e. e.value) (drop l.i l.log))
      ≡ log_lines 1 (map (λ e. e.value) l.log);
  teams : AreOfTeams (map (λ e. e.value) (drop l.i l.log)) → AreOfTeams (map (λ e. e.value) l.log);
}
