use Rattle.std.proofs.Common.{◌≤◌, append-nil, arith, length, string_bytes, sym}
use Rattle.std.proofs.lemmas.Option.{slice_get-get_or, slice_get_past}
use Rattle.ceiling_kernel.specs.Runs.{no_record}
use Rattle.drawn_jobs.proofs.changes.put_change_at.Goals as goal

pub returns-in_ok-put_change : goal.returns-in_ok-put_change
returns-in_ok-put_change c =
    let named = rw c.name_of.ensures at c.spot_of.ensures.spot in
    rw (
      ← named,
      c.in-Some.is,
      slice_get-get_or c.args.old.now c.args.i no_record c.if-i-old.true,
      ← c.job_at.ensures,
      ← c.job_at-job.ensures,
    ) c.in_ok-put_change.ensures

pub returns-else-i-old : goal.returns-else-i-old
returns-else-i-old c =
    let named = rw c.name_of.ensures at c.spot_of.ensures.spot in
    let past : length c.args.old.now ≤ c.args.i = omega (arith, c.if-i-old.false) in
    rw (← named, c.in-Some.is, slice_get_past c.args.old.now c.args.i past)
    (sym (append-nil (string_bytes c.args.text.now)))
