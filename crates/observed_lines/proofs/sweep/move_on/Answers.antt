use Rattle.std.proofs.Common.{◌∙◌, ◌++◌, List, ap, arith}
use Rattle.std.specs.List.{find}
use Rattle.observed_lines.specs.Causes.{delays}
use Rattle.observed_lines.specs.declared.causes.Source.{Source}
use Rattle.observed_lines.proofs.SweepLaws.{kept_agree}
use Rattle.observed_lines.proofs.sweep.move_on.Goals as goal

pub returns-clause-same : goal.returns-clause-same
returns-clause-same c =
    let live : List Source = c.args.live.now.items in
    let rest : List Source = c.args.rest.now in
    λ b l s le. c.in_ok-left.ensures.same b l s le
    ∙ (ap (λ (xs : List Source). find (λ d. delays b l d s) (xs ++ rest)) c.keep.ensures
    ∙ (kept_agree c.args.time live rest b l s le
    ∙ c.requires.known b l s (omega (arith, c.if-time-reached.false, le))))
