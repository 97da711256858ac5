use Rattle.rushes.proofs.rushing.rush_lines.Given as goal

abbrev pub ghosts-rush_on : goal.ghosts-rush_on
ghosts-rush_on g a = record { name = a.blank.name; parts = a.blank.parts }
