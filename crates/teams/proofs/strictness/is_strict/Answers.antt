use Rattle.std.proofs.Common.{◌≡◌, Bool, true, false, rules, subst}
use Rattle.teams.specs.ReadsText.{is_gathered}
use Rattle.teams.specs.Strictness.{SaysStrict}
use Rattle.teams.proofs.StrictLaws.{alone_lenient, faulty_lenient, no_node_lenient, says_so}
use Rattle.teams.proofs.strictness.is_strict.Goals as goal

pub returns-then-not-is_gathered : goal.returns-then-not-is_gathered
returns-then-not-is_gathered c =
    let alone : is_gathered c.args.text.now ≡ false = search rules in
    alone_lenient c.args.text.now alone

pub returns-in_default : goal.returns-in_default
returns-in_default c = no_node_lenient c.args.text.now c.in_default.ensures

pub returns-in-Ok : goal.returns-in-Ok
returns-in-Ok c =
    let several : is_gathered c.args.text.now ≡ true = search rules in
    let same : c.in-Ok.document.is_strict ≡ c.document.inside.is_strict = search rules in
    subst (λ (s : Bool). SaysStrict c.args.text.now s) same
    (says_so c.args.text.now c.in-Some.node.now c.in-Some._after.now c.in-Ok.document several
    c.in-Some.ensures c.in-Ok.ensures)

pub returns-in-Err : goal.returns-in-Err
returns-in-Err c = faulty_lenient c.args.text.now c.in-Some.node.now c.in-Some._after.now _
    c.in-Some.ensures c.in-Err.ensures (search rules)
