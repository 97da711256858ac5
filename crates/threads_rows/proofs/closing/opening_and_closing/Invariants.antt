use Rattle.threads_rows.proofs.closing.opening_and_closing.Given as goal

abbrev pub ghosts-closed_on : goal.ghosts-closed_on
ghosts-closed_on g a = record { name = a.start.blank.name; parts = a.start.blank.parts }
