use Rattle.std.proofs.Common.{List, Option, Ok, ◌∷◌, ap, subst}
use Rattle.teams.specs.Naming.{named_by}
use Rattle.teams.specs.NodeDocument.{NodeData}
use Rattle.teams.specs.ReadsTeams.{UnitesAll}
use Rattle.teams.specs.declared.naming.Lock.{Lock}
use Rattle.teams.proofs.OwnLaws.{without}
use Rattle.teams.proofs.laws.budgets_keep_set.Goals as goal

pub returns : goal.returns
returns c = λ document text d nothing judged.
    let bare = nothing judged.0 judged.2 in
    let tasks = ap (λ (n : NodeData). n.own.set) judged.2.3 in
    let united : UnitesAll (judged.0.own ∷ judged.1) (Ok d) =
    subst (λ (o : Option (List Lock)). UnitesAll (judged.0.own ∷ named_by o judged.1) (Ok d)) bare.3
    judged.4.1.0 in
    (judged.1, judged.3, without judged.0.own judged.1 d tasks bare.0 bare.1 bare.2 united)
