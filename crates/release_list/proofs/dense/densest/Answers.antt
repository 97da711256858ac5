use Rattle.std.proofs.Common.{◌∙◌, Vec, Global, List, ap}
use Rattle.task_sheet.specs.Sheet.{Task}
use Rattle.ceiling_kernel.specs.declared.trace.Release.{Release}
use Rattle.release_list.specs.Densest.{streams_of}
use Rattle.release_list.proofs.DensestLaws.{all_streams, accepted_if}
use Rattle.release_list.proofs.dense.densest.Goals as goal

pub list_of-requires-clause-streams : goal.list_of-requires-clause-streams
list_of-requires-clause-streams c =
    all_streams c.args.set.now c.args.steady.now c.sheets.ensures.kept c.deref.result.now (c.deref.ensures.value
    ∙ (c.in_ok-streams.ensures ∙ ap (λ (xs : List Task). streams_of xs c.args.steady.now) c.sheets.ensures.same))

pub returns-clause-accepted : goal.returns-clause-accepted
returns-clause-accepted c =
    accepted_if c.args.steady.now (λ (v : Vec Release Global). v.items) c.list_of.result c.sheets.ensures.kept
    c.if-until-gt-HORIZON.false
    (c.deref.ensures.value
    ∙ (c.in_ok-streams.ensures ∙ ap (λ (xs : List Task). streams_of xs c.args.steady.now) c.sheets.ensures.same))
    c.list_of.ensures
