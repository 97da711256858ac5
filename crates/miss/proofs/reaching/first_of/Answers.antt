use Rattle.std.proofs.Common.{◌≡◌, ◌∙◌, sym, ap}
use Rattle.ceiling_kernel.specs.declared.trace.Release.{Release}
use Rattle.ceiling_kernel.proofs.Common.{no_release, release_at, task_number}
use Rattle.ceiling_kernel.proofs.ReleaseLaws.{read_at}
use Rattle.miss.proofs.RanLaws.{each_more}
use Rattle.miss.proofs.reaching.first_of.Goals as goal

pub returns-then-is_of-clause-some : goal.returns-then-is_of-clause-some
returns-then-is_of-clause-some c =
    let same : release_at c.args.releases.now c.loop-place.place ≡ c.index-releases-place.result =
    read_at c.args.releases.now c.loop-place.place c.index-releases-place.result no_release
    c.loop-place-test.true c.index-releases-place.is in (
      c.loop-place-test.true,
      ap (λ (r : Release). task_number c.args.set.now r) same
          ∙ c.if-is_of.ensures.yes,
    )

pub loop-place-preserved : goal.loop-place-preserved
loop-place-preserved c =
    let same : release_at c.args.releases.now c.loop-place.place ≡ c.index-releases-place.result =
    read_at c.args.releases.now c.loop-place.place c.index-releases-place.result no_release
    c.loop-place-test.true c.index-releases-place.is in
    each_more (λ j. ¬ (task_number c.args.set.now (release_at c.args.releases.now j) ≡ c.args.task))
    c.loop-place.place c.loop-place.invariant
    (λ e. c.if-is_of.ensures.no (sym (ap (λ (r : Release). task_number c.args.set.now r) same) ∙ e))
