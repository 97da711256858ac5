use Rattle.std.proofs.Common.{◌≡◌, List, Option, None, Some, Result, map, refl, rules, subst, sym}
use Rattle.task_sheet.specs.declared.read.Document.{Document}
use Rattle.teams.specs.Budgets.{AreSound}
use Rattle.teams.specs.Naming.{locks_fault, named_by, named_set, sets_fault}
use Rattle.teams.specs.NodeDocument.{NodeData}
use Rattle.teams.specs.Owned.{TeamSetData}
use Rattle.teams.specs.ReadsText.{Joins, Judges}
use Rattle.teams.specs.Rights.{rights_fault}
use Rattle.teams.specs.declared.fault.TeamsFault.{TeamsFault}
use Rattle.teams.specs.declared.naming.Lock.{Lock}
use Rattle.teams.proofs.TeamLaws.{joins_so}
use Rattle.teams.proofs.WrittenLaws.{sound_named}
use Rattle.teams.proofs.text.judged.Goals as goal

joins_by : (o : Option (List Lock)) (n : NodeData) (sets : List TeamSetData)
    (answer : Result Document TeamsFault) → rights_fault n.budgets sets ≡ None → n.locks ≡ o
    → locks_fault o sets ≡ None → Joins n.own n.budgets (named_by o sets) answer
    → Judges n sets answer
joins_by o n sets answer right is none joins = joins_so n sets answer right
    (subst (λ (p : Option (List Lock)). locks_fault p sets ≡ None) (sym is) none)
    (subst (λ (p : Option (List Lock)). Joins n.own n.budgets (named_by p sets) answer) (sym is) joins)

pub joined-requires-clause-sound : goal.joined-requires-clause-sound
joined-requires-clause-sound c =
    let locks = c.in-Some-locks.locks.items in
    let named : c.in_ok-teams-in-Some-locks.teams.items ≡ map (named_set locks) c.args.teams.items =
    search rules in
    subst (λ (x : List TeamSetData). AreSound x) (sym named)
    (sound_named locks c.args.teams.items c.requires.sound)

pub returns-in_ok-teams-in-Some-locks : goal.returns-in_ok-teams-in-Some-locks
returns-in_ok-teams-in-Some-locks c =
    let locks = c.in-Some-locks.locks.items in
    let right : rights_fault c.args.node.budgets c.args.teams.items ≡ None = search rules in
    let is : c.args.node.locks ≡ Some locks = search rules in
    let none : sets_fault locks c.args.teams.items ≡ None = search rules in
    let named : c.in_ok-teams-in-Some-locks.teams.items ≡ map (named_set locks) c.args.teams.items =
    search rules in
    let joins : Joins c.args.node.own c.args.node.budgets c.in_ok-teams-in-Some-locks.teams.items
    c.joined.result = search rules in
    joins_by (Some locks) c.args.node c.args.teams.items c.joined.result right is none
    (subst (λ (x : List TeamSetData). Joins c.args.node.own c.args.node.budgets x c.joined.result)
    named joins)

pub returns-in-None : goal.returns-in-None
returns-in-None c =
    let right : rights_fault c.args.node.budgets c.args.teams.items ≡ None = search rules in
    let is : c.args.node.locks ≡ None = search rules in
    let joins : Joins c.args.node.own c.args.node.budgets c.args.teams.items c.joined-in-None.result =
    search rules in
    joins_by None c.args.node c.args.teams.items c.joined-in-None.result right is refl joins
