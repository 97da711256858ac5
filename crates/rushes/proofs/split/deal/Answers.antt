use Rattle.std.proofs.Common.{◌≡◌, ◌<◌, ◌+◌, ◌++◌, ℕ, List, [], ◌∷◌, Some, Vec, Global, length}
use Rattle.std.proofs.Common.{arith, rules}
use Rattle.rushes.specs.declared.split.TeamLine as declared
use Rattle.rushes.specs.TeamLines.{TeamLine, draft_of}
use Rattle.rushes.proofs.SplitLaws.{given}
use Rattle.rushes.proofs.split.deal.Goals as goal

pub returns-clause-given : goal.returns-clause-given
returns-clause-given c =
    let f : Vec declared.TeamLine Global → List TeamLine = λ p. p.items in
    let line = c.args.line.now in
    let i = c.index_of.result in
    let d : ℕ × ℕ = (c.in-Some.team, c.in-Some.draft) in
    let is : draft_of c.args.openers.now.items line.row ≡ Some d = search rules in
    let at : i + 1 ≡ c.in-Some.team = first_of (search rules, first_of (cc, omega arith)) in
    let lt : i < length c.args.parts.now.items = omega (arith, c.index_of.ensures.within) in
    let x : TeamLine = record { line = line; draft = c.in-Some.draft } in
    let grown : c.push.new.self.items ≡ c.index_mut.result.now.items ++ x ∷ [] = search rules in
    λ script left split.
    given f script left line c.args.openers.now.items c.draft_of.new.openers.items
    c.args.parts.now.items d i
    c.index_mut.result.now c.push.new.self is c.in_ok-team.ensures.openers at lt
    c.index_mut.ensures.value grown split
