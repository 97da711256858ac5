use Rattle.desk_core.proofs.live.Live.is_tested.Goals as goal

pub returns-clause-ok : goal.returns-clause-ok
returns-clause-ok c = rw (← c.self.view_is) c.is_tested.ensures.ok
