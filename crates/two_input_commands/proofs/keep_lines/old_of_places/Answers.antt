use Rattle.std.proofs.Common.{◌∙◌}
use Rattle.judge.proofs.TaskLaws.{in_set}
use Rattle.two_input_commands.proofs.keep_lines.old_of_places.Goals as goal

pub read_kept_numbers-requires : goal.read_kept_numbers-requires
read_kept_numbers-requires c = rw (c.deref.ensures.value ∙ c.in_ok-order.ensures)
    (in_set c.args.set.now _ c.requires)

pub returns : goal.returns
returns c = rw (c.deref.ensures.value ∙ c.in_ok-order.ensures) at c.read_kept_numbers.ensures
