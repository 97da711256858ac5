use Rattle.std.proofs.Common.{◌∙◌, ◌+◌, ◌++◌, [], List, append-nil, string_bytes, sym, ℕ}
use Rattle.drawn_jobs.specs.Jobs.{job_signs}
use Rattle.drawn_jobs.specs.Misses.{due_badge, hatch_path, hatch_text}
use Rattle.frames.proofs.Puts.{put_both}
use Rattle.drawn_jobs.proofs.misses.put_miss.Goals as goal

pub returns-in_ok-put_job_signs : goal.returns-in_ok-put_job_signs
returns-in_ok-put_job_signs c =
    let lane = c.args.lane.now in
    let row = lane.row.now in
    let job = c.args.job.now in
    let start : List ℕ = string_bytes c.args.text.now in
    let badged : List ℕ = string_bytes c.put_due_badge.new.text in
    let hatch : List ℕ = hatch_text (hatch_path lane.frame lane.spot.k row job) row job in
    let badge : List ℕ =
    due_badge lane.frame lane.spot.k c.args.last (job.release + row.sheet.deadline) in
    let seen = rw c.limit_of.ensures at (sym c.sees_from.ensures ∙ c.if-not-sees_from.true) in
    rw (sym c.is_seen_miss.ensures ∙ c.if-not-is_seen_miss.false, seen)
    (put_both start badged (string_bytes c.put_job_signs.new.text) (hatch ++ badge)
    (job_signs lane.frame lane.spot.k job) (put_both start (string_bytes c.put_hatch.new.text)
    badged hatch badge c.in_ok-put_hatch.ensures c.in_ok-put_due_badge.ensures)
    c.in_ok-put_job_signs.ensures)

pub returns-else-not-sees_from : goal.returns-else-not-sees_from
returns-else-not-sees_from c =
    let lane = c.args.lane.now in
    let row = lane.row.now in
    let job = c.args.job.now in
    let start : List ℕ = string_bytes c.args.text.now in
    let badged : List ℕ = string_bytes c.put_due_badge.new.text in
    let hatch : List ℕ = hatch_text (hatch_path lane.frame lane.spot.k row job) row job in
    let badge : List ℕ =
    due_badge lane.frame lane.spot.k c.args.last (job.release + row.sheet.deadline) in
    let seen = rw c.limit_of.ensures at (sym c.sees_from.ensures ∙ c.if-not-sees_from.false) in
    rw (sym c.is_seen_miss.ensures ∙ c.if-not-is_seen_miss.false, seen)
    (put_both start badged badged (hatch ++ badge) [] (put_both start
    (string_bytes c.put_hatch.new.text) badged hatch badge c.in_ok-put_hatch.ensures
    c.in_ok-put_due_badge.ensures) (sym (append-nil badged)))
