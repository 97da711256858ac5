use Rattle.std.proofs.Common.{refl, ◌∙◌, None, Some, length}
use Rattle.ceiling_kernel.proofs.Common.{is_unknown}
use Rattle.ceiling_kernel.proofs.AcceptLaws.{first_start, first_found, first_more, unknown_at}
use Rattle.ceiling_kernel.proofs.AcceptLaws.{numbers-next}
use Rattle.ceiling_kernel.proofs.accept.find_tasks.Goals as goal

pub loop-k-init : goal.loop-k-init
loop-k-init c = record {
  known = first_start (is_unknown c.args.set.now c.args.releases.now);
  places = c.new-places.ensures.items;
}

pub returns-in_default : goal.returns-in_default
returns-in_default c =
    let U = c.args.set.now in
    let rs = c.args.releases.now in
    let unknown = unknown_at U rs c.loop-k.k c.index-releases-k.result None c.loop-k-test.true
    c.in_default.ensures in (
      c.loop-k.k,
      first_found (is_unknown U rs) (length rs) c.loop-k.k c.loop-k.invariant.known
          unknown c.loop-k-test.true,
      refl,
    )

pub loop-k-preserved : goal.loop-k-preserved
loop-k-preserved c =
    let U = c.args.set.now in
    let rs = c.args.releases.now in
    let known = unknown_at U rs c.loop-k.k c.index-releases-k.result (Some c.in-Some.task)
    c.loop-k-test.true c.in-Some.ensures in
    record {
      known = first_more (is_unknown U rs) c.loop-k.k c.loop-k.invariant.known known;
      places = c.in-Ok.ensures.items
          ∙ numbers-next U rs c.loop-k.places.items c.loop-k.k c.in-Some.task
          c.index-releases-k.result c.loop-k-test.true c.in-Some.ensures c.loop-k.invariant.places;
    }
