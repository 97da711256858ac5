use Rattle.std.proofs.Common.{◌≡◌, drop, length, map}
use Rattle.drafts.specs.declared.team.TheConstants.{TEAM_LIMIT}
use Rattle.rushes.specs.TeamLines.{IsSplit}
use Rattle.rushes.proofs.split.Split.new.Given as goal

-- each team's part, with its lines of those that are left, is its lines of the script
abbrev pub invariant-loop-line : goal.invariant-loop-line
invariant-loop-line l = record {
  count : length l.parts.items ≡ TEAM_LIMIT;
  split : IsSplit l.script (drop l.line-index l.script) l.openers.items
      (map (λ p. p.items) l.parts.items);
}
