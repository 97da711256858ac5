use Rattle.two_input_commands.proofs.observe_lines.watched_by.Goals as goal

pub returns-in-Seen : goal.returns-in-Seen
returns-in-Seen c = rw c.in-Seen.is c.watched_in.ensures
