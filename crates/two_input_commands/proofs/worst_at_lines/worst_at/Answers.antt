use Rattle.two_input_commands.proofs.worst_at_lines.worst_at.Goals as goal

pub returns-in-Some : goal.returns-in-Some
returns-in-Some c = rw c.in-Some.is c.chain_at.ensures

pub returns-in-None : goal.returns-in-None
returns-in-None c = rw c.in-None.is c.task_at.ensures
