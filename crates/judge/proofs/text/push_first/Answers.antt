use Rattle.judge.proofs.text.push_first.Goals as goal

pub returns : goal.returns
returns c = rw (← c.all_meet.ensures, c.if-all_meet.false, ← c.missed_of.ensures)
    c.push_missed.ensures
