use Rattle.set_commands.proofs.releases.list_of.Goals as goal

pub returns-in-None : goal.returns-in-None
returns-in-None c = rw c.in-None.is c.densest_list.ensures
