use Rattle.std.proofs.Common.{rules, ◌≡◌, ◌∙◌, ◌+◌, ◌++◌, ◌∷◌, [], List, drop, sym, ap, append_assoc}
use Rattle.std.proofs.lemmas.List.{drop_more}
use Rattle.task_sheet.specs.declared.node.Interrupt.{Interrupt}
use Rattle.owners.specs.Owners.{interrupts_by}
use Rattle.task_lines.specs.declared.owner.Owner.{Owner}
use Rattle.task_lines.specs.declared.owner.Owner.TheVariants as owner
use Rattle.owners.proofs.owner.push_interrupts.Goals as goal

pub loop-preserved : goal.loop-preserved
loop-preserved c =
    let k = c.loop.index in
    let team = c.args.team in
    let xs = c.args.interrupts.now in
    let none : Interrupt = record { period = 0; cost = 0 } in
    let o : Owner = owner.Interrupt team in
    let rest = interrupts_by team (drop (k + 1) xs) in
    let held = c.loop.owners.items in
    let pushed : c.push.new.self.items ≡ held ++ o ∷ [] = search rules in
    ap (λ (l : List Owner). l ++ rest) pushed ∙ append_assoc held (o ∷ []) rest
    ∙ ap (λ (l : List Owner). held ++ l) (sym (ap (interrupts_by team)
    (drop_more xs k none c.loop-test.true)))
    ∙ c.loop.invariant
