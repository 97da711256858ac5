use Rattle.std.proofs.Common.{◌≡◌, ◌+◌, ◌≤◌, ◌++◌, None, length}
use Rattle.two_input_commands.specs.View.{first_unknown, parts_of, tasks_in}
use Rattle.two_input_commands.proofs.view.names_in.Given as goal

abbrev pub invariant-loop : goal.invariant-loop
invariant-loop l = record {
  less : length l.rest + l.counter ≤ length l.fn.text;
  parts : parts_of l.fn.text ≡ l.names.items ++ parts_of l.rest;
  known : first_unknown (tasks_in l.fn.sets) l.names.items ≡ None;
}
