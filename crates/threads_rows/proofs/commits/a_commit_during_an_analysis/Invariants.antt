use Rattle.threads_rows.proofs.commits.a_commit_during_an_analysis.Given as goal

abbrev pub ghosts-during_on : goal.ghosts-during_on
ghosts-during_on g a = record { name = a.start.blank.name; parts = a.start.blank.parts }
