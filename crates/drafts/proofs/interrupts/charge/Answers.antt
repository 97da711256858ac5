use Rattle.std.proofs.Common.{rules, ◌≡◌, ◌<◌, length, arith}
use Rattle.std.proofs.lemmas.Bool.Decides.{nat_tests}
use Rattle.std.proofs.lemmas.List.{length-map}
use Rattle.std.specs.List.{insert, remove}
use Rattle.overheads.proofs.ChargedSets.{charged-first}
use Rattle.drafts.specs.Applied.{said_of}
use Rattle.drafts.proofs.interrupts.charge.Goals as goal

pub returns : goal.returns
returns c =
    let xs = said_of c.args.interrupts.now in
    let some : 0 < length xs = grind (
      arith,
      nat_tests,
      c.is_empty.ensures,
      c.if-is_empty.false,
      length-map c.args.interrupts.now (λ x. x.interrupt),
    ) in
    let any : 0 < length c.args.sheets.items =
    grind (arith, nat_tests, c.is_empty-else-is_empty.ensures, c.if-is_empty-2.false) in
    let put : c.insert.new.self.items
    ≡ insert (remove c.args.sheets.items 0) 0 c.interrupted-first.result = search rules in
    charged-first c.args.sheets.items c.insert.new.self.items xs
    c.in_ok-interrupts.interrupts.items c.remove.result c.interrupted-first.result some any
    c.in_ok-interrupts.ensures c.remove.ensures.value c.interrupted-first.ensures put
