use Rattle.judge.proofs.TaskLaws.{judged_in_set}
use Rattle.worst_lines.proofs.text.worst_text_in.Goals as goal

pub chosen-requires : goal.chosen-requires
chosen-requires c = judged_in_set c.args.set.now c.args.judged.now c.requires
