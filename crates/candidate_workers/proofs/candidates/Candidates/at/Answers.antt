use Rattle.std.proofs.Common.{◌≡◌, ◌<◌, ◌∙◌, length, slice_get, Some, IsTrue, sym, ap, subst, arith}
use Rattle.std.specs.FinSet.{contains}
use Rattle.std.proofs.lemmas.Option.{get_or_from_slice_get}
use Rattle.task_sheet.specs.Indexes.{indexes_of, listed_below, IsPart}
use Rattle.task_sheet.specs.Orders.{all_of}
use Rattle.assignment.proofs.CandidateLaws.{listed-at}
use Rattle.candidate_workers.specs.Candidates.{CandidatesData}
use Rattle.candidate_workers.proofs.PlaceLaws.{len-listed}
use Rattle.candidate_workers.proofs.candidates.Candidates.at.Goals as goal

pub returns-then-before-place-clause-task : goal.returns-then-before-place-clause-task
returns-then-before-place-clause-task c =
    let l = c.args.self.now in
    let n = c.loop-task.task in
    let L = indexes_of l.left in
    let member : IsTrue (L n) = subst (λ (x : CandidatesData). IsTrue (contains x.left n))
    c.self.view_is (sym c.has.ensures ∙ c.if-has.true) in
    let within : n < length l.set = omega (
      arith,
      c.len-task-end.ensures.count,
      ap length c.deref.ensures,
      ap (λ (x : CandidatesData). length x.set) c.self.view_is,
    ) in
    let place : c.args.place ≡ length (listed_below n L) =
    omega (arith, c.loop-task.invariant.counted) in
    let at : slice_get (listed_below (length l.set) L) c.args.place ≡ Some n =
    ap (λ i. slice_get (listed_below (length l.set) L) i) place
    ∙ listed-at (length l.set) L n within member in
    sym (get_or_from_slice_get (listed_below (length l.set) L) c.args.place n 0 at)

pub returns-then-before-place-clause-member : goal.returns-then-before-place-clause-member
returns-then-before-place-clause-member c =
    subst (λ (x : CandidatesData). IsTrue (contains x.left c.loop-task.task)) c.self.view_is
    (sym c.has.ensures ∙ c.if-has.true)

pub unreachable-requires : goal.unreachable-requires
unreachable-requires c =
    let l = c.args.self.now in
    let L = indexes_of l.left in
    let end : c.loop-task.task ≡ length l.set = omega (
      arith,
      c.len-task-end.ensures.count,
      ap length c.deref.ensures,
      ap (λ (x : CandidatesData). length x.set) c.self.view_is,
    ) in
    let counted = c.loop-task.invariant.counted ∙ ap (λ k. length (listed_below k L)) end in
    let part : IsPart L (all_of l.set) = subst (λ (x : CandidatesData). IsPart (indexes_of x.left)
    (all_of x.set)) c.self.view_is c.self.invariant in
    omega (
      arith,
      counted,
      c.loop-task.invariant.within,
      c.requires,
      len-listed (length l.set) l.left part,
    )
