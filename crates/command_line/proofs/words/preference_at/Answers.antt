use Rattle.std.proofs.Common.{◌∙◌, sym}
use Rattle.clap.specs.Words.{found_of}
use Rattle.clap.proofs.WalkLemmas.{first_value-rows}
use Rattle.command_line.proofs.words.preference_at.Goals as goal

pub returns-in-None-clause-known : goal.returns-in-None-clause-known
returns-in-None-clause-known c =
    sym (rw c.in-None.is at c.get_str.ensures ∙ first_value-rows (found_of c.args.matches.now) _)

pub returns-in-Some-weight-clause-known : goal.returns-in-Some-weight-clause-known
returns-in-Some-weight-clause-known c =
    sym (rw (c.in-Some-weight.is, c.in-Some-weight.is-weight) at c.get_str.ensures
    ∙ first_value-rows (found_of c.args.matches.now) _)

pub returns-in-Some-deadline-clause-known : goal.returns-in-Some-deadline-clause-known
returns-in-Some-deadline-clause-known c =
    sym (rw (c.in-Some-deadline.is, c.in-Some-deadline.is-deadline) at c.get_str.ensures
    ∙ first_value-rows (found_of c.args.matches.now) _)

pub returns-in-Some-chains-clause-known : goal.returns-in-Some-chains-clause-known
returns-in-Some-chains-clause-known c =
    sym (rw (c.in-Some-chains.is, c.in-Some-chains.is-chains) at c.get_str.ensures
    ∙ first_value-rows (found_of c.args.matches.now) _)

pub returns-in-Some-clause-none : goal.returns-in-Some-clause-none
returns-in-Some-clause-none c _ = (
  c.in-Some.field-0.now,
  sym (rw c.in-Some.is at c.get_str.ensures ∙ first_value-rows (found_of c.args.matches.now) _),
  c.in-Some.not-weight,
  c.in-Some.not-deadline,
  c.in-Some.not-chains,
)
