use Rattle.std.proofs.Common.{◌∙◌, ap, sym, ◌||◌, ◌&&◌, ◌==◌}
use Rattle.std.specs.FinSet.{contains, contains-insert}
use Rattle.std.specs.Cmp.{nat_cmp_total, unsigned_tied}
use Rattle.std.proofs.Math.Bool.{and-true}
use Rattle.drafts.proofs.state.noted.Goals as goal

pub returns-then-wanted : goal.returns-then-wanted
returns-then-wanted c = λ k.
    let held = contains c.args.members k in
    ap (λ s. contains s k) c.with.ensures
    ∙ contains-insert nat_cmp_total c.args.members c.args.index k
    ∙ ap (λ b. b || held) (unsigned_tied k c.args.index ∙ sym (and-true (k == c.args.index)))
    ∙ ap (λ b. (k == c.args.index) && b || held) (sym c.if-wanted.true)
