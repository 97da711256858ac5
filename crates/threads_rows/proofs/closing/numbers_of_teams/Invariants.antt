use Rattle.threads_rows.proofs.closing.numbers_of_teams.Given as goal

abbrev pub ghosts-passes_on : goal.ghosts-passes_on
ghosts-passes_on g a = record { name = a.blank.name; parts = a.blank.parts }
