use Rattle.std.proofs.Common.{refl, sym, subst}
use Rattle.std.proofs.lemmas.Bool.{both_ways}
use Rattle.drafts.specs.Edits.{on_base}
use Rattle.desk_core.specs.Stages.{found_of}
use Rattle.desk_core.specs.World.{IsTestedOn}
use Rattle.desk_core.proofs.StageLaws.{begun-tested, complete-tested, tested-stage}
use Rattle.desk_core.proofs.stage.enter.Goals as goal

pub unreachable-requires : goal.unreachable-requires
unreachable-requires c =
    let begun = begun-tested (on_base c.args.draft.now) c.begin.new.stage
    (found_of c.args.stage.now) c.in_ok-begin.field-0 c.in_ok-begin.ensures.ok c.requires.tested in
    both_ways c.in_ok-begin.field-0 c.if-not-branch.true begun.0

pub returns-clause-kept : goal.returns-clause-kept
returns-clause-kept c =
    rw c.in-Tested.is at
    (c.put_away.ensures.kept (on_base c.args.draft.now) c.begin.ensures.kept)

pub enter_tested-requires : goal.enter_tested-requires
enter_tested-requires c =
    let outcome = on_base c.args.draft.now in
    (tested-stage outcome c.put_away.new.stage c.in-Tested.judged c.in-Tested.found
    (found_of c.put_away.new.stage) c.in-Tested.is
    (c.put_away.ensures.kept outcome c.begin.ensures.kept) refl).1

pub unreachable-requires-in_default : goal.unreachable-requires-in_default
unreachable-requires-in_default c =
    let outcome = on_base c.args.draft.now in
    let found = found_of c.args.stage.now in
    let begun = begun-tested outcome c.begin.new.stage found c.in_ok-begin.field-0
    c.in_ok-begin.ensures.ok c.requires.tested in
    complete-tested c.put_away.new.stage c.in_default.not-Tested
    (c.put_away.ensures.complete outcome c.begin.ensures.kept begun.1
    (subst (IsTestedOn outcome) (sym c.begin.ensures.found) c.requires.tested))
