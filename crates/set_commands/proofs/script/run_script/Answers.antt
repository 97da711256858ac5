use Rattle.std.proofs.Common.{◌∙◌, sym}
use Rattle.set_commands.proofs.script.run_script.Goals as goal

pub returns-in-Some : goal.returns-in-Some
returns-in-Some g c = rw (sym c.team_chosen.ensures ∙ c.in-Some.is)
    (rw c.asking_of-asking.ensures at c.run_of_team.ensures)
