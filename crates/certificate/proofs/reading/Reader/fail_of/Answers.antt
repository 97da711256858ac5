use Rattle.std.proofs.Common.{◌≡◌, sym, rules, false, true, refl}
use Rattle.std.proofs.Math.Bool.{and-false}
use Rattle.std.proofs.lemmas.Bool.{not-false, not-true}
use Rattle.task_sheet.specs.Name.{is_name}
use Rattle.certificate.specs.Words.{fail_in}
use Rattle.certificate.proofs.Loops.{false_from_not, fail_is}
use Rattle.certificate.proofs.reading.Reader.fail_of.Goals as goal

pub returns-in_default : goal.returns-in_default
unfolding fail_in
returns-in_default c = rw c.in_default.ensures.parts refl

pub returns-in_default-cut : goal.returns-in_default-cut
unfolding fail_in
returns-in_default-cut c = rw (c.in-Some.ensures.parts, c.in_default-cut.ensures.parts) refl

pub returns-then-ne : goal.returns-then-ne
returns-then-ne c =
    let is = fail_is c.args.self.version c.args.word.now c.args.line.now _ c.in-Some.rest.now _
    c.in-Some-cut.rest.now c.in-Some.ensures.parts c.in-Some-cut.ensures.parts in
    rw (is, not-true _ (sym c.if-ne.ensures)) refl

pub returns-in_default-read : goal.returns-in_default-read
returns-in_default-read c =
    let is = fail_is c.args.self.version c.args.word.now c.args.line.now _ c.in-Some.rest.now _
    c.in-Some-cut.rest.now c.in-Some.ensures.parts c.in-Some-cut.ensures.parts in
    let unnamed = false_from_not (is_name c.in-Some-cut.name.now)
    (λ h. let e : false ≡ true = c.in_default-read.ensures.named.1 h in absurd cc) in
    rw (is, unnamed, and-false) refl

pub returns-in-None : goal.returns-in-None
returns-in-None c =
    let is = fail_is c.args.self.version c.args.word.now c.args.line.now _ c.in-Some.rest.now _
    c.in-Some-cut.rest.now c.in-Some.ensures.parts c.in-Some-cut.ensures.parts in
    let named : is_name c.in-Some-cut.name.now ≡ true = search rules in
    let none = rw c.in-None.is at c.in_ok-reason_of.ensures in
    rw (is, not-false _ (sym c.if-ne.ensures), named, ← none) refl

pub returns-in-Some-2 : goal.returns-in-Some-2
returns-in-Some-2 c =
    let is = fail_is c.args.self.version c.args.word.now c.args.line.now _ c.in-Some.rest.now _
    c.in-Some-cut.rest.now c.in-Some.ensures.parts c.in-Some-cut.ensures.parts in
    let named : is_name c.in-Some-cut.name.now ≡ true = search rules in
    let some = rw c.in-Some-2.is at c.in_ok-reason_of.ensures in
    rw (c.in-Ok.ensures.same, is, not-false _ (sym c.if-ne.ensures), named, ← some) refl
