use Rattle.threads_rows.proofs.workers.counted.Given as goal

abbrev pub ghosts-counted_on : goal.ghosts-counted_on
ghosts-counted_on g a = record { name = a.start.blank.name; parts = a.start.blank.parts }
