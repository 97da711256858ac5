use Rattle.std.proofs.Common.{ap, ap₂, refl, subst, ◌∙◌, ◌≡◌, true, map, List}
use Rattle.std.proofs.lemmas.Result.{IfOk-weaker}
use Rattle.clap.specs.Words.{App, FailsBy, Text, app_of, fault_of, is_simple, is_simple_and_free}
use Rattle.clap.specs.Words.{subcommand_of}
use Rattle.clap.proofs.OnLiterals.{clap_on_literals}
use Rattle.command_line.proofs.Entered.{command_of}
use Rattle.command_line.specs.App.{desk_app}
use Rattle.command_line.proofs.words.desk_matches.Goals as goal

simple : is_simple desk_app ≡ true
unfolding clap_on_literals
simple = refl

free : is_simple_and_free desk_app ≡ true
unfolding clap_on_literals
free = refl

pub returns-clause-ok : goal.returns-clause-ok
returns-clause-ok c =
    let is : app_of c.in_ok-desk.desk ≡ desk_app = c.in_ok-desk.ensures.app in
    IfOk-weaker c.try_get_matches_from.result _ _ (λ m h. (h (ap is_simple is ∙ simple)).1
    ∙ ap₂ subcommand_of is refl) c.try_get_matches_from.ensures.matches

pub returns-clause-kinds : goal.returns-clause-kinds
returns-clause-kinds c =
    let is : app_of c.in_ok-desk.desk ≡ desk_app = c.in_ok-desk.ensures.app in
    let told = c.try_get_matches_from.ensures.kinds (ap is_simple_and_free is ∙ free) in
    let words : List Text = map (λ s. s.now) c.args.words.now in
    subst (λ (a : App). FailsBy (fault_of a words) c.try_get_matches_from.result) is told

pub returns-clause-command : goal.returns-clause-command
returns-clause-command c =
    let words : List Text = map (λ s. s.now) c.args.words.now in
    command_of words c.try_get_matches_from.result (returns-clause-ok c) (returns-clause-kinds c)
