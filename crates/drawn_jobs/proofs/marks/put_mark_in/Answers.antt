use Rattle.drawn_jobs.proofs.marks.put_mark_in.Goals as goal

pub returns-in-Some : goal.returns-in-Some
returns-in-Some c = rw (c.in-Bound.is, c.in-Some.is, ← c.top_of-top.ensures.value)
    c.put_later-in-Some.ensures

pub returns-in-Deadline : goal.returns-in-Deadline
returns-in-Deadline c =
    rw (c.in-Deadline.is, ← c.top_of-top.ensures.value, ← c.deadline-len.ensures)
    c.put_later-in-Deadline.ensures
