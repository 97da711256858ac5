use Rattle.std.proofs.Common.{◌≡◌, [], length}
use Rattle.std.specs.List.{All}
use Rattle.rushes.proofs.split.no_parts.Given as goal

abbrev pub invariant-loop-team : goal.invariant-loop-team
invariant-loop-team l = record {
  count : length l.parts.items ≡ l._team;
  empty : All (λ p. p.items ≡ []) l.parts.items;
}
