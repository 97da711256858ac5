use Rattle.std.proofs.Common.{◌∙◌, refl, subst}
use Rattle.clap.specs.Words.{found_of}
use Rattle.clap.proofs.WalkLemmas.{first_value-rows}
use Rattle.command_line.specs.Calls.{Names}
use Rattle.command_line.specs.declared.calls.Named.TheVariants.{Standard, File}
use Rattle.command_line.proofs.words.named_at.Goals as goal

pub returns-in-None : goal.returns-in-None
returns-in-None c =
    subst (λ word. Names word Standard)
    (c.get_str.ensures ∙ first_value-rows (found_of c.args.matches.now) c.args.id.now)
    (rw c.in-None.is refl)

pub returns-in-Some-text : goal.returns-in-Some-text
returns-in-Some-text c =
    subst (λ word. Names word Standard)
    (c.get_str.ensures ∙ first_value-rows (found_of c.args.matches.now) c.args.id.now)
    (rw c.in-Some-text.is c.in-Some-text.is-text)

pub returns-in-Some : goal.returns-in-Some
returns-in-Some c =
    subst (λ word. Names word (File c.in-Some.path))
    (c.get_str.ensures ∙ first_value-rows (found_of c.args.matches.now) c.args.id.now)
    (rw c.in-Some.is (refl, c.in-Some.not-text))
