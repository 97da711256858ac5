-- An input that was not opened is answered as one that was not read.
use Rattle.std.proofs.Common.{◌≡◌, ℕ, List, Option, Err, inl, refl}
use Rattle.std.specs.Io.KnownBytes.{Appends}
use Rattle.command_line.specs.declared.calls.OfOne.{OfOne}
use Rattle.command_line.specs.declared.calls.OfOne.TheVariants.{Play}
use Rattle.command_line.specs.declared.calls.OfTwo.{OfTwo}
use Rattle.command_line.specs.declared.calls.OfNumber.{OfNumber}
use Rattle.command_line.specs.declared.calls.OfNumber.TheVariants.{Releases, Rush}
use Rattle.command_line.specs.declared.calls.Options.{Options}
use Rattle.streams.specs.Watching.{WatchedData}
use Rattle.desk_cli.specs.Commands.{OneSays, TwoSay}
use Rattle.desk_cli.specs.Saying.{IsRefusalOf}
use Rattle.answering.specs.Outcomes.{failed_read}
use Rattle.answering.specs.Refusals.{refusal_line}
use Rattle.answering.specs.declared.status.Status.{Status}
use Rattle.answering.specs.declared.status.Status.TheVariants.{InputOrOutputFailed}
use Rattle.desk_cli.proofs.Refused.{one_refused, two_refused}
use Rattle.dispatch.specs.Running.{NumberSays}

-- a failed read may come at any time
any_time : (c : OfOne) (options : Options) (known : Option (List ℕ)) → IsRefusalOf c options known failed_read
any_time Play options known = tt
any_time _ options known = tt

module _ (before after : Option (List ℕ)) (s : Status)
    (says : Appends before after (refusal_line failed_read)) (is : s ≡ InputOrOutputFailed) where
  pub one_unopened : (c : OfOne) (options : Options) (known : Option (List ℕ))
      → OneSays c options known before after s
  one_unopened c options known =
      one_refused before after s failed_read says is c options known (any_time c options known)

  pub two_unopened : (c : OfTwo) (options : Options) (first second : Option (List ℕ))
      → TwoSay c options first second before after s
  two_unopened c options first second =
      two_refused before after s failed_read says is c options first second tt

  pub number_unopened : {E : Type 0} (c : OfNumber) (options : Options) (number : ℕ)
      (known : Option (List ℕ)) (told : E → Option (List ℕ)) (w : WatchedData E)
      → NumberSays c options number known before after told w w s
  number_unopened Releases options number known told w = (Err failed_read, inl tt, says, is)
  number_unopened Rush options number known told w =
      (refusal_line failed_read, says, inl ((failed_read, tt, refl, is), refl))
