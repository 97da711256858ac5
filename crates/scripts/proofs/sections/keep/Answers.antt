use Rattle.std.proofs.Common.{◌≤◌, ◌∷◌, [], length, sym, ◌∙◌, arith}
use Rattle.std.proofs.lemmas.List.{take_all, take-append-le}
use Rattle.scripts.proofs.sections.keep.Goals as goal

pub returns-else-len-lt-KEPT-clause-ok : goal.returns-else-len-lt-KEPT-clause-ok
returns-else-len-lt-KEPT-clause-ok c =
    let kept = c.args.sections.now.items in
    let full : 9 ≤ length kept = omega arith in
    sym (take-append-le 9 kept (c.args.section ∷ []) full ∙ take_all 9 kept c.requires)
