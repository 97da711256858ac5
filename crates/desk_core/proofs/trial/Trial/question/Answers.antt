use Rattle.std.proofs.Common.{◌≡◌, ap, not, Some, None, position}
use Rattle.std.proofs.lemmas.Bool.{both_ways}
use Rattle.task_sheet.specs.Sheet.{same_bytes}
use Rattle.desk_core.proofs.ProgressLaws.{tested-iff}
use Rattle.desk_core.proofs.AskingLaws.{asked-left, asked-place, asking-named}
use Rattle.desk_core.proofs.trial.Trial.question.Goals as goal

pub returns-then-not-is_unfinished : goal.returns-then-not-is_unfinished
returns-then-not-is_unfinished c =
    let a = c.self.inside in
    let tested = (tested-iff a.set.value a.climb a.found.items c.self.invariant.held.progress
    c.is_unfinished.result c.is_unfinished.ensures).0 (ap not c.if-not-is_unfinished.true) in
    rw (← c.self.view_is) (λ q asked. asked.present.undecided (tested asked.level))

pub returns-in_default : goal.returns-in_default
returns-in_default c =
    let a = c.self.inside in
    let none : None ≡ position (λ s. same_bytes s.name c.args.name) a.set.value =
    rw c.deref-2.ensures at c.in_default.ensures in
    rw (← c.self.view_is) (λ q asked.
    let some = asked-place a.set.value a.found.items c.args.name q
    (rw c.deref.ensures at c.sheets.ensures.kept) asked in cc)

pub returns-then-not-has : goal.returns-then-not-has
returns-then-not-has c =
    let a = c.self.inside in
    let going = c.is_unfinished.ensures.0 c.if-not-is_unfinished.false in
    let first : Some c.in-Some.task ≡ position (λ s. same_bytes s.name c.args.name) a.set.value =
    rw c.deref-2.ensures at c.in-Some.ensures in
    rw (← c.self.view_is) (λ q asked.
    let some = asked-place a.set.value a.found.items c.args.name q
    (rw c.deref.ensures at c.sheets.ensures.kept) asked in
    let same : c.in-Some.task ≡ q.task = cc in
    both_ways c.has.result c.if-not-has.true
    (rw (c.has.ensures, c.left.ensures.same, same) (asked-left a.set.value a.climb a.found.items
    c.self.invariant.held.progress going c.args.name q asked)))

pub returns : goal.returns
returns c =
    let a = c.self.inside in
    let going = c.is_unfinished.ensures.0 c.if-not-is_unfinished.false in
    rw (← c.self.view_is, c.in_ok-question.ensures) (asking-named a.set.value a.climb a.found.items
    c.self.invariant.held.progress going c.args.name c.in-Some.task
    (rw c.deref-2.ensures at c.in-Some.ensures)
    (rw (← c.left.ensures.same, ← c.has.ensures) c.if-not-has.false))
