use Rattle.std.proofs.Common.{◌≡◌, ◌≢◌, ◌∙◌, List, [], ◌∷◌, length, map, Option, false, inr, refl}
use Rattle.std.proofs.Common.{sym, subst}
use Rattle.std.specs.Bool.{◌==◌}
use Rattle.std.specs.Prelude.{IfSome}
use Rattle.clap.specs.Words.{Row, Text, subcommand_of}
use Rattle.command_line.specs.App.{desk_app}
use Rattle.command_line.specs.Calls.{Calls, IsCall, PrefersOther}
use Rattle.command_line.specs.declared.calls.Call.{Call}
use Rattle.command_line.proofs.Matches.{call_has_number}
use Rattle.command_line.proofs.words.read_words.Goals as goal

some_words : {A B : Type 0} (f : A → B) (words : List A) → (length words == 0) ≡ false
    → map f words ≢ []
some_words f [] h = λ e. cc
some_words f (word ∷ words) h = λ e. cc

calls_named : (words : List Text) (call : Call) → words ≢ []
    → IsCall (subcommand_of desk_app words) call → Calls words call
calls_named [] call some named = absurd (some refl)
calls_named (word ∷ words) call some named = named

pub returns-in-Err : goal.returns-in-Err
returns-in-Err c = record {
  call = tt;
  taken = tt;
  once = tt;
  sorted = tt;
  number = tt;
  fault = (
    some_words (λ s. s.now) c.args.words.now (sym c.is_empty.ensures ∙ c.if-is_empty.false),
    c.in-Err.ensures.kinds,
  );
}

pub returns-in-None : goal.returns-in-None
returns-in-None c = record {
  call = tt;
  taken = tt;
  once = tt;
  sorted = tt;
  number = tt;
  fault = (
    inr c.in-Ok.ensures.kinds,
    subst (λ (found : Option (Text × List Row)). IfSome found
        (λ f. PrefersOther f.1)) c.in-Ok.ensures.ok (c.in-None.ensures.none refl),
  );
}

pub returns-then-sorts_other : goal.returns-then-sorts_other
returns-then-sorts_other c =
    let some =
    some_words (λ s. s.now) c.args.words.now (sym c.is_empty.ensures ∙ c.if-is_empty.false) in
    let named = subst (λ (found : Option (Text × List Row)). IsCall found c.in-Some.call)
    c.in-Ok.ensures.ok c.in-Some.ensures.call in
    record {
      call = tt;
      taken = tt;
      once = tt;
      sorted = tt;
      number = tt;
      fault = (
        inr c.in-Ok.ensures.kinds,
        c.in-Some.call,
        calls_named _ _ some named,
        sym c.sorts_other.ensures ∙ c.if-sorts_other.true,
      );
    }

pub returns-then-is_twice : goal.returns-then-is_twice
returns-then-is_twice c =
    let some =
    some_words (λ s. s.now) c.args.words.now (sym c.is_empty.ensures ∙ c.if-is_empty.false) in
    let named = subst (λ (found : Option (Text × List Row)). IsCall found c.in-Some.call)
    c.in-Ok.ensures.ok c.in-Some.ensures.call in
    record {
      call = tt;
      taken = tt;
      once = tt;
      sorted = tt;
      number = tt;
      fault = (
        inr c.in-Ok.ensures.kinds,
        c.in-Some.call,
        calls_named _ _ some named,
        sym c.is_twice.ensures ∙ c.if-is_twice.true,
      );
    }

pub returns-clause-number : goal.returns-clause-number
returns-clause-number c = call_has_number _ _ c.in-Some.ensures.call

pub returns-clause-call : goal.returns-clause-call
returns-clause-call c =
    let some =
    some_words (λ s. s.now) c.args.words.now (sym c.is_empty.ensures ∙ c.if-is_empty.false) in
    calls_named _ _ some (subst (λ (found : Option (Text × List Row)). IsCall found c.in-Some.call)
    c.in-Ok.ensures.ok c.in-Some.ensures.call)
