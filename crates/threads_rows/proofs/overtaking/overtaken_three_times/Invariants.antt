use Rattle.threads_rows.proofs.overtaking.overtaken_three_times.Given as goal

abbrev pub ghosts-overtaken_on : goal.ghosts-overtaken_on
ghosts-overtaken_on g a = record { name = a.start.blank.name; parts = a.start.blank.parts }
