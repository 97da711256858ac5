use Rattle.std.proofs.Common.{rules, ◌≡◌, ◌++◌, List, [], ◌∷◌, sym, refl, subst, append_assoc, append-nil, ◌∙◌, ap}
use Rattle.owners.specs.Followers.{AreFollowersOfText}
use Rattle.task_lines.specs.declared.owner.Owner.{Owner}
use Rattle.owners.proofs.followers.parts_followers.Goals as goal

pub loop-part-preserved : goal.loop-part-preserved
loop-part-preserved c = λ more are.
    let held = c.loop-part.owners.items in
    let own = c.in_ok-own.own.items in
    let whole = c.loop-part.invariant (own ++ more) (
      c.in-Some.part ∷ are.0,
      (c.in-Some.after.now, own, more, c.in-Some.ensures.part, c.in_ok-own.ensures, are.1, refl),
    ) in
    let pushed : c.extend_from_slice.new.self.items ≡ held ++ own = search rules in
    subst (AreFollowersOfText c.args.text.now)
    (sym (append_assoc held own more) ∙ ap (λ (l : List Owner). l ++ more) (sym pushed)) whole

pub returns : goal.returns
returns c =
    subst (AreFollowersOfText c.args.text.now) (append-nil c.loop-part.owners.items)
    (c.loop-part.invariant [] ([], (c.in_default.ensures.part, refl)))
