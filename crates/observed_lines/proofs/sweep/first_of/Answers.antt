use Rattle.std.proofs.Common.{◌∙◌, ap, sym, Option}
use Rattle.std.specs.List.{find}
use Rattle.std.specs.Option.{option_or}
use Rattle.observed_lines.specs.Causes.{delays}
use Rattle.observed_lines.specs.declared.causes.Source.{Source}
use Rattle.observed_lines.proofs.SweepLaws.{find_append}
use Rattle.observed_lines.proofs.sweep.first_of.Goals as goal

pub returns-in-Some : goal.returns-in-Some
returns-in-Some c =
    let p = λ (d : Source). delays c.args.asked.blocks c.args.asked.least d c.args.seen.now in
    let later = find p c.args.known.rest.now in
    sym (find_append p c.args.known.live.now c.args.known.rest.now
    ∙ ap (λ (o : Option Source). option_or o later) (sym c.first_ahead.ensures ∙ c.in-Some.is))

pub returns-in-None : goal.returns-in-None
returns-in-None c =
    let p = λ (d : Source). delays c.args.asked.blocks c.args.asked.least d c.args.seen.now in
    let later = find p c.args.known.rest.now in
    c.first_ahead-in-None.ensures ∙ sym (find_append p c.args.known.live.now c.args.known.rest.now
    ∙ ap (λ (o : Option Source). option_or o later) (sym c.first_ahead.ensures ∙ c.in-None.is))
