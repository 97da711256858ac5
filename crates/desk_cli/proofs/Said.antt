-- An answer that was printed is what its command says.
use Rattle.std.proofs.Common.{◌≡◌, ℕ, List, Option, Some, None, Result, Ok, Err, inr, subst, true, false}
use Rattle.std.specs.Io.KnownBytes.{Appends}
use Rattle.command_line.specs.declared.calls.Options.{Options}
use Rattle.command_line.specs.declared.calls.OfOne.{OfOne}
use Rattle.command_line.specs.declared.calls.OfOne.TheVariants as one
use Rattle.command_line.specs.declared.calls.OfTwo.{OfTwo}
use Rattle.command_line.specs.declared.calls.OfTwo.TheVariants as command
use Rattle.answering.specs.Asked.{AsksTask}
use Rattle.answering.specs.Chosen.{asking_of, chain_of, task_of}
use Rattle.answering.specs.Outcomes.{failed_read}
use Rattle.answering.specs.Printed.{answer_said, answer_status}
use Rattle.answering.specs.declared.answer.Answer.{Answer}
use Rattle.answering.specs.declared.refusal.CommandRefusal.{CommandRefusal}
use Rattle.answering.specs.declared.sets.Both.{Both}
use Rattle.answering.specs.declared.status.Status.{Status}
use Rattle.answering.specs.declared.status.Status.TheVariants.{InputOrOutputFailed}
use Rattle.answering.proofs.CarriedOut.{failed_by}
use Rattle.set_commands.specs.Worst.{WorstsSet}
use Rattle.set_commands.specs.declared.chained.Placed.{Placed}
use Rattle.two_input_commands.specs.Beside.{AsksBeside}
use Rattle.two_input_commands.specs.Simulate.{SimulatesBoth}
use Rattle.two_input_commands.specs.Way.{DrawsBoth}
use Rattle.two_input_commands.specs.WorstAt.{WorstsText}
use Rattle.desk_cli.specs.Commands.{OneAnswer, TwoAnswer}
use Rattle.desk_cli.specs.Saying.{SaysOfBoth, SaysOfSet}

module _ (options : Options) (both : Both) where
  -- no text is refused as an input that was not read
  never_unread : (c : OfTwo) → TwoAnswer c options both (Err failed_read) → ⊥
  never_unread command.Simulate never =
      elim options.by_task as (λ b. SimulatesBoth b both (Err failed_read) → ⊥) [
        | true ↦ λ unread. unread
        | false ↦ λ unread. unread
      ] never
  never_unread command.Draw never =
      elim (chain_of options) as (λ w. DrawsBoth w options both (Err failed_read) → ⊥) [
        | Some word ↦ λ unread. unread
        | None ↦ λ unread. unread
      ] never
  never_unread command.WorstAt never =
      elim (chain_of options) as (λ w. WorstsText w (task_of options) both.chains.items both.tasks both.text.items
      (Err failed_read) → ⊥) [
        | Some word ↦ λ unread. unread
        | None ↦ λ unread. unread
      ] never
  never_unread command.DrawBeside never =
      elim (chain_of options) as (λ w. AsksBeside w (asking_of options) options both.tasks both.text.items
      (Err failed_read) → ⊥) [
        | Some word ↦ λ unread. unread
        | None ↦ λ unread. unread
      ] never
  never_unread _ never = never

  -- no answer has the status of a failed input or output
  pub never_fails : (c : OfTwo) (answer : Result Answer CommandRefusal) → TwoAnswer c options both answer
      → answer_status answer ≡ InputOrOutputFailed → ⊥
  never_fails c (Ok answer) answers is = answer.ended is
  never_fails c (Err r) why is =
      never_unread c (subst (λ (r : CommandRefusal). TwoAnswer c options both (Err r)) (failed_by r is) why)

  -- an answer that was printed is said
  pub said_of_both : (c : OfTwo) (answer : Result Answer CommandRefusal) (before after : Option (List ℕ))
      (s : Status) → TwoAnswer c options both answer → Appends before after (answer_said answer)
      → s ≡ answer_status answer → SaysOfBoth c options both before after s
  said_of_both c (Ok answer) before after s answers wrote is =
      λ set other has. (Ok answer, (both, has, answers), wrote, is)
  said_of_both c (Err r) before after s why wrote is =
      λ set other has. (Err r, inr (both, has, why), wrote, is)

module _ (options : Options) (placed : Placed) where
  -- no set that was placed is refused as an input that was not read
  never_asked : (word : Option (List ℕ)) → AsksTask placed.tasks word (Err failed_read) → ⊥
  never_asked None never = never
  never_asked (Some word) never = never

  one_unread_never : (c : OfOne) → OneAnswer c options placed (Err failed_read) → ⊥
  one_unread_never one.Admit is = cc
  one_unread_never one.Settings is = cc
  one_unread_never one.Limits never = never_asked (task_of options) never
  one_unread_never one.Explain never = never_asked (task_of options) never
  one_unread_never one.Worst never =
      elim (chain_of options) as (λ w. WorstsSet w (task_of options) placed (Err failed_read) → ⊥) [
        | Some word ↦ λ unread. unread
        | None ↦ λ unread. never_asked (task_of options) unread
      ] never
  one_unread_never _ never = never

  pub one_fails_never : (c : OfOne) (answer : Result Answer CommandRefusal) → OneAnswer c options placed answer
      → answer_status answer ≡ InputOrOutputFailed → ⊥
  one_fails_never c (Ok answer) answers is = answer.ended is
  one_fails_never c (Err r) why is =
      one_unread_never c (subst (λ (r : CommandRefusal). OneAnswer c options placed (Err r)) (failed_by r is) why)

  pub said_of_set : (c : OfOne) (answer : Result Answer CommandRefusal) (before after : Option (List ℕ))
      (s : Status) → OneAnswer c options placed answer → Appends before after (answer_said answer)
      → s ≡ answer_status answer → SaysOfSet c options placed before after s
  said_of_set one.Certify answer before after s answers wrote is = absurd answers
  said_of_set one.Script answer before after s answers wrote is = absurd answers
  said_of_set one.Play answer before after s answers wrote is = absurd answers
  said_of_set _ (Ok answer) before after s answers wrote is =
      λ known has. (Ok answer, (placed, has, answers), wrote, is)
  said_of_set _ (Err r) before after s why wrote is =
      λ known has. (Err r, inr (placed, has, why), wrote, is)
