use Rattle.std.proofs.Common.{◌≡◌, arith, ap, ◌∙◌}
use Rattle.std.proofs.lemmas.List.Elements.{All-push}
use Rattle.candidate_workers.specs.Claims.{late}
use Rattle.candidate_workers.proofs.crew.start_all.Goals as goal

pub loop-worker-preserved : goal.loop-worker-preserved
loop-worker-preserved g c =
    let was = c.loop-worker.invariant in
    let push = c.push_reserved.ensures in
    let cut = c.split-other.ensures.seat in
    let spare = ap (λ v. v.spare) cut.1 in
    record {
      started = omega (arith, push.len, was.started);
      room = push.capacity ∙ was.room;
      promises = rw push.items (All-push (λ h. (h.promise.gate.now ≡ c.args.shared.gate.now)
          × (h.promise.claims.now ≡ c.args.shared.claims.now)) _ _ was.promises c.in-Some.ensures);
      new = (
        cut.0,
        cut.2 ∙ was.new.1,
        (
          ap (λ v. v.drawn) cut.1 ∙ was.new.2.0,
          ap (λ v. v.passed) cut.1 ∙ was.new.2.1,
          ap (λ v. v.failed) cut.1 ∙ was.new.2.2,
          omega (arith, spare, was.spare),
        ),
      );
      late = ap late cut.1 ∙ was.late;
      spare = omega (arith, spare, was.spare);
    }
