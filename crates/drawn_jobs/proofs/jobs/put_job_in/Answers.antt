use Rattle.std.proofs.Common.{◌≡◌, ◌∙◌, ◌++◌, List, append_assoc, string_bytes, sym, ℕ}
use Rattle.drawn_jobs.specs.Jobs.{job_box, job_signs, limit_path, unrun_text}
use Rattle.frames.proofs.Puts.{put_both, put_last}
use Rattle.drawn_jobs.proofs.jobs.put_job_in.Goals as goal

pub returns : goal.returns
returns c =
    let f = c.args.lane.now.frame in
    let k : ℕ = c.args.lane.now.spot.k in
    let row = c.args.lane.now.row.now in
    let job = c.args.job.now in
    let start : List ℕ = string_bytes c.args.text.now in
    let told : List ℕ = string_bytes c.writeln.new.self in
    let ended : List ℕ = string_bytes c.put_unrun.new.text in
    let bar = c.limit_box-bar.ensures in
    let seen = rw c.limit_of.ensures at (sym c.sees_from.ensures ∙ c.if-not-sees_from.false) in
    let box : List ℕ =
    job_box (limit_path f k row job.release job.release) row.bound row.sheet.deadline job in
    let unrun : List ℕ = unrun_text f k row job.release in
    let is : told ≡ start ++ box = simp append_assoc (simp (
      c.in_ok-put_told.ensures,
      c.in_ok-write.ensures.bytes,
      bar.x,
      bar.right,
      bar.y,
      bar.high,
      c.deadline-deadline.ensures,
      append_assoc,
    ) at c.in_ok-writeln.ensures.bytes) in
    rw seen (put_last c.put_job_signs.result start ended (string_bytes c.put_job_signs.new.text)
    (box ++ unrun) (job_signs f k job) (put_both start told ended box unrun is
    c.in_ok-put_unrun.ensures) c.put_job_signs.ensures)
