use Rattle.std.proofs.Common.{◌∙◌}
use Rattle.set_commands.proofs.explain_lines.explain_asked.Goals as goal

pub returns-in_ok-text-in-Some : goal.returns-in_ok-text-in-Some
returns-in_ok-text-in-Some c =
    rw c.in-Some.is
    (rw c.new.ensures.text c.in_ok-text-in-Some.ensures, c.new.ensures.status ∙ c.placing_status.ensures)

pub returns-in_ok-text-in-None : goal.returns-in_ok-text-in-None
returns-in_ok-text-in-None c =
    rw c.in-None.is
    (rw c.new-in-None.ensures.text c.in_ok-text-in-None.ensures, c.new-in-None.ensures.status ∙ c.chained_status.ensures)
