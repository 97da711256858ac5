use Rattle.std.proofs.Common.{◌≡◌, ◌∙◌, ◌≤◌, List, length, rules, sym, ap, subst, arith}
use Rattle.std.proofs.lemmas.Bool.Decides.{nat_tests}
use Rattle.std.specs.List.Sorted.{IsStrictlySortedBy}
use Rattle.task_sheet.proofs.Common.{Task, rank_cmp, sheets_fault}
use Rattle.overheads.specs.Padding.{charged}
use Rattle.drafts.specs.Applied.{sheets_of, said_of}
use Rattle.drafts.proofs.RosterLaws.{are_interrupts, charged_ranked, charged_fits}
use Rattle.drafts.proofs.applying.as_set.Goals as goal

pub charge-requires : goal.charge-requires
charge-requires c =
    let some : length c.args.interrupts.now ≤ 8 = grind (arith, nat_tests) in
    are_interrupts c.args.interrupts.now c.requires.within some

pub make_set-requires-clause-ranked : goal.make_set-requires-clause-ranked
make_set-requires-clause-ranked c =
    let few : length c.args.tasks.items ≤ 32 = grind (arith, nat_tests) in
    let some : length c.args.interrupts.now ≤ 8 = grind (arith, nat_tests) in
    let same : c.in_ok-sheets.sheets.items
    ≡ charged (said_of c.args.interrupts.now) (sheets_of c.args.tasks.items) = search rules in
    subst (λ (U : List Task). IsStrictlySortedBy rank_cmp U) (sym same)
    (charged_ranked c.args.tasks.items c.args.interrupts.now c.requires.roster c.requires.within few
    some)

pub make_set-requires-clause-fits : goal.make_set-requires-clause-fits
make_set-requires-clause-fits c =
    let few : length c.args.tasks.items ≤ 32 = grind (arith, nat_tests) in
    let some : length c.args.interrupts.now ≤ 8 = grind (arith, nat_tests) in
    let same : c.in_ok-sheets.sheets.items
    ≡ charged (said_of c.args.interrupts.now) (sheets_of c.args.tasks.items) = search rules in
    ap (λ (U : List Task). sheets_fault U) same
    ∙ charged_fits c.args.tasks.items c.args.interrupts.now c.requires.roster c.requires.within few
    some
