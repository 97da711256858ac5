-- A command that was refused says so.
use Rattle.std.proofs.Common.{◌≡◌, ℕ, List, Option, Some, None, Err, inl, refl}
use Rattle.std.specs.Io.KnownBytes.{Appends}
use Rattle.command_line.specs.declared.calls.OfOne.{OfOne}
use Rattle.command_line.specs.declared.calls.OfOne.TheVariants.{Certify, Script, Play}
use Rattle.command_line.specs.declared.calls.OfTwo.{OfTwo}
use Rattle.command_line.specs.declared.calls.Options.{Options}
use Rattle.preferences.specs.declared.asking.Asking.{Asking}
use Rattle.desk_cli.specs.Commands.{OneSays, TwoSay, first_asking, most_of}
use Rattle.answering.specs.Chosen.{asking_of, team_chosen}
use Rattle.set_commands.specs.Script.{SaysScript}
use Rattle.set_commands.proofs.ScriptLaws.{no_parts}
use Rattle.desk_cli.specs.Saying.{IsRefusalOf}
use Rattle.answering.specs.Refusals.{refusal_line, status_of}
use Rattle.answering.specs.Sets.{HasNoSet, HaveNotBoth}
use Rattle.answering.specs.declared.refusal.CommandRefusal.{CommandRefusal}
use Rattle.answering.specs.declared.status.Status.{Status}

module _ (before after : Option (List ℕ)) (s : Status) (r : CommandRefusal)
    (wrote : Appends before after (refusal_line r)) (is : s ≡ status_of r) where
  script_refused : (team : Option ℕ) (asking : Asking) (known : Option (List ℕ))
      → HasNoSet asking known r → SaysScript asking team known before after s
  script_refused (Some team) asking known why = (Err r, why, wrote, is)
  script_refused None asking known why = (Err r, no_parts asking known r why, wrote, is)

  pub one_refused : (c : OfOne) (options : Options) (known : Option (List ℕ))
      → IsRefusalOf c options known r → OneSays c options known before after s
  one_refused Script options known why =
      script_refused (team_chosen options) (asking_of options) known why
  one_refused Play options known why = (refusal_line r, wrote, inl (r, why, refl, is))
  one_refused Certify options known why = (Err r, why, wrote, is)
  one_refused _ options known why = (Err r, inl why, wrote, is)

  pub placed_refused : (c : OfOne) (options : Options) (known : Option (List ℕ)) → (c ≡ Play → ⊥)
      → HasNoSet (asking_of options) known r → OneSays c options known before after s
  placed_refused Play options known other why = absurd (other refl)
  placed_refused c options known other why = one_refused c options known why

  pub two_refused : (c : OfTwo) (options : Options) (first second : Option (List ℕ))
      → HaveNotBoth (most_of c) (first_asking c options) first second r → TwoSay c options first second before after s
  two_refused c options first second why = (Err r, inl why, wrote, is)
