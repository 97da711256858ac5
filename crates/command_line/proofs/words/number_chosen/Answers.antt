use Rattle.std.proofs.Common.{◌≡◌, ◌∙◌, ℕ, Option, Some, None, inl, inr, refl}
use Rattle.clap.specs.Words.{found_of, rows_of, first_of, one_text}
use Rattle.clap.proofs.WalkLemmas.{one_text-rows}
use Rattle.command_line.specs.Calls.{IsTaken, MayTake}
use Rattle.command_line.specs.Commands.{choice_id, takes_of}
use Rattle.command_line.specs.declared.calls.Takes.{Takes}
use Rattle.command_line.specs.declared.calls.Takes.TheVariants as takes
use Rattle.command_line.proofs.words.number_chosen.Goals as goal

pub returns : goal.returns
returns c = go (takes_of c.args.choice) c.requires c.get_one.result refl
  where
    go : (t : Takes) → MayTake (choice_id c.args.choice) t (rows_of (found_of c.args.matches.now))
        → (r : Option ℕ) → c.get_one.result ≡ r
        → IsTaken t (first_of (choice_id c.args.choice) (rows_of (found_of c.args.matches.now))) r
    go takes.Word may r is = tt
    go takes.Flag may r is = tt
    go (takes.Number least most) (inl none) None is = none.0
    go (takes.Number least most) (inl none) (Some n) is =
        let text : one_text (found_of c.args.matches.now) (choice_id c.args.choice) ≡ None =
        one_text-rows (found_of c.args.matches.now) (choice_id c.args.choice) ∙ none.1 in
        let gone = rw (is, c.id.ensures) at c.get_one.ensures.none text in
        cc
    go (takes.Number least most) (inr said) None is =
        let text : one_text (found_of c.args.matches.now) (choice_id c.args.choice) ≡ Some said.0 =
        one_text-rows (found_of c.args.matches.now) (choice_id c.args.choice) ∙ said.2 in
        let read = rw (is, c.id.ensures) at c.get_one.ensures.value said.0 text in
        absurd (read.1.0 (said.3.0, said.3.1))
    go (takes.Number least most) (inr said) (Some n) is =
        let text : one_text (found_of c.args.matches.now) (choice_id c.args.choice) ≡ Some said.0 =
        one_text-rows (found_of c.args.matches.now) (choice_id c.args.choice) ∙ said.2 in
        let read = rw (is, c.id.ensures) at c.get_one.ensures.value said.0 text in
        rw said.1 (said.3, read.0.1)
