use Rattle.std.proofs.Common.{◌≡◌, true, false, sym, ap, subst, arith, None, Some, length, get_or}
use Rattle.std.proofs.Common.{slice_index_or, List}
use Rattle.std.proofs.lemmas.List.{get_or_default}
use Rattle.task_sheet.specs.Sheet.{Task}
use Rattle.ceiling_kernel.proofs.Common.{is_too_soon, jobs_of, no_release}
use Rattle.ceiling_kernel.proofs.AcceptLaws.{first_start, first_found, first_more, last_start}
use Rattle.ceiling_kernel.proofs.AcceptLaws.{last_before, last_next, too_soon_read, known_from}
use Rattle.ceiling_kernel.proofs.AcceptLaws.{place_in, sorted_from}
use Rattle.ceiling_kernel.proofs.ReleaseLaws.{place_is}
use Rattle.ceiling_kernel.proofs.accept.first_too_soon.Goals as goal

pub loop-k-init : goal.loop-k-init
loop-k-init c = record {
  spaced =
      first_start (is_too_soon c.args.set.now (jobs_of c.args.set.now c.args.releases.now));
  last =
      last_start c.args.set.now c.args.releases.now;
}

pub bounds-sheets-task : goal.bounds-sheets-task
bounds-sheets-task c =
    let known = place_in c.args.set.now c.args.releases.now c.args.places.now c.loop-k.k
    c.requires.places c.requires.known c.loop-k-test.true in
    omega (arith, known, ap (λ (xs : List Task). length xs) c.sheets-sheets.ensures.same)

pub bounds-last-task : goal.bounds-last-task
bounds-last-task c =
    let known = place_in c.args.set.now c.args.releases.now c.args.places.now c.loop-k.k
    c.requires.places c.requires.known c.loop-k-test.true in
    omega (arith, known, c.sheets-sheets.ensures.kept.few)

pub bounds-last-task-in-loop-k : goal.bounds-last-task-in-loop-k
bounds-last-task-in-loop-k c =
    let known = place_in c.args.set.now c.args.releases.now c.args.places.now c.loop-k.k
    c.requires.places c.requires.known c.loop-k-test.true in
    omega (arith, known, c.sheets-sheets.ensures.kept.few)

pub comes_soon-requires : goal.comes_soon-requires
comes_soon-requires c = λ x e.
    let U = c.args.set.now in
    let rs = c.args.releases.now in
    let i = place_is c.args.set.now c.args.releases.now c.args.places.now c.loop-k.k
    c.requires.places c.loop-k-test.true in
    let time = ap (λ r. r.time) (get_or_default rs c.loop-k.k no_release c.index-releases-k.result
    c.loop-k-test.true) in
    let e' = subst (λ z. slice_index_or c.loop-k.last z None ≡ Some x) i e in
    let before = last_before U rs (sorted_from rs c.requires.sorted) c.loop-k.k c.loop-k-test.true
    c.loop-k.last c.loop-k.invariant.last x e' in
    omega (arith, before, time)

pub returns-then-comes_soon-clause-first : goal.returns-then-comes_soon-clause-first
returns-then-comes_soon-clause-first c =
    let U = c.args.set.now in
    let rs = c.args.releases.now in
    let soon = too_soon_read U rs (sorted_from rs c.requires.sorted) c.loop-k.k c.loop-k-test.true
    c.loop-k.last c.loop-k.invariant.last c.args.places.now c.sheets-sheets.result.now
    c.index-sheets-task.result c.index-releases-k.result
    c.period-period.result true c.requires.places c.requires.known c.sheets-sheets.ensures.same
    c.index-sheets-task.is c.period-period.ensures c.if-comes_soon.ensures in
    sym (first_found (is_too_soon U (jobs_of U rs)) (length rs) c.loop-k.k c.loop-k.invariant.spaced
    soon c.loop-k-test.true)

pub loop-k-preserved : goal.loop-k-preserved
loop-k-preserved c =
    let U = c.args.set.now in
    let rs = c.args.releases.now in
    let sorted = sorted_from rs c.requires.sorted in
    let late = too_soon_read U rs sorted c.loop-k.k c.loop-k-test.true c.loop-k.last
    c.loop-k.invariant.last c.args.places.now c.sheets-sheets.result.now
    c.index-sheets-task.result c.index-releases-k.result
    c.period-period.result false c.requires.places c.requires.known c.sheets-sheets.ensures.same
    c.index-sheets-task.is c.period-period.ensures c.if-comes_soon.ensures in
    let i = place_is U rs c.args.places.now c.loop-k.k c.requires.places c.loop-k-test.true in
    let time = ap (λ r. r.time)
    (get_or_default rs c.loop-k.k c.index-releases-k.result no_release c.loop-k-test.true) in
    let known = known_from U rs c.requires.known c.loop-k.k c.loop-k-test.true in
    record {
      spaced = first_more (is_too_soon U (jobs_of U rs)) c.loop-k.k c.loop-k.invariant.spaced late;
      last = last_next U rs sorted c.loop-k.k c.loop-k-test.true c.loop-k.last
          c.loop-k.invariant.last (get_or c.args.places.now c.loop-k.k 0)
          (get_or rs c.loop-k.k c.index-releases-k.result).time i time
          (omega (arith, known, c.sheets-sheets.ensures.kept.few));
    }
