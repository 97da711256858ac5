use Rattle.drawn_jobs.proofs.jobs.put_job.Goals as goal

pub returns-in-Some : goal.returns-in-Some
returns-in-Some c =
    let named = rw c.name_of.ensures at c.spot_of.ensures.spot in
    rw (← named, c.in-Some.is, ← c.lane.ensures.row, ← c.lane.ensures.frame, ← c.lane.ensures.spot)
    c.put_place.ensures
