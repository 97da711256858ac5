use Rattle.std.proofs.Common.{◌≡◌, ◌∙◌, Some, None, codes, sym}
use Rattle.clap.specs.Words.{Text, found_of}
use Rattle.std.specs.Prelude.{Option}
use Rattle.clap.proofs.WalkLemmas.{first_value-rows}
use Rattle.command_line.proofs.words.flag_chosen.Goals as goal

not_given : (said : Option Text) → None ≡ said → said ≡ Some (codes "true") → ⊥
not_given said none given = let bad = none ∙ given in cc

other_given : (said : Option Text) (word : Text) → Some word ≡ said → (word ≡ codes "true" → ⊥)
    → said ≡ Some (codes "true") → ⊥
other_given said word some other given = let same : Some word ≡ Some (codes "true") = some
    ∙ given in other (cc same)

pub returns-in-None : goal.returns-in-None
returns-in-None c =
    not_given _ (rw (c.in-None.is, c.id.ensures) at c.get_str.ensures
    ∙ first_value-rows (found_of c.args.matches.now) _)

pub returns-in-Some-true : goal.returns-in-Some-true
returns-in-Some-true c =
    sym (rw (c.in-Some-true.is, c.in-Some-true.is-true, c.id.ensures) at c.get_str.ensures
    ∙ first_value-rows (found_of c.args.matches.now) _)

pub returns-in-Some : goal.returns-in-Some
returns-in-Some c =
    other_given _ c.in-Some.field-0.now (rw (c.in-Some.is, c.id.ensures) at c.get_str.ensures
    ∙ first_value-rows (found_of c.args.matches.now) _) c.in-Some.not-true
