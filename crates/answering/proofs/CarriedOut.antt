-- What became of a command, from what became of its inputs and of what it printed.
use Rattle.std.proofs.Common.{◌≡◌, ◌∙◌, ◌++◌, ℕ, List, Bool, true, false, Option, Ok, Err, inl, inr}
use Rattle.std.proofs.Common.{refl, sym, ap, subst}
use Rattle.std.specs.Prelude.{IfOk, MatchResult, Result}
use Rattle.std.proofs.KnownBytes.{Appends-trans}
use Rattle.std.proofs.lemmas.Bool.{true≢false}
use Rattle.std.specs.Io.KnownBytes.{Appends}
use Rattle.streams.specs.Watching.{WatchedData}
use Rattle.teams.specs.declared.fault.TeamsFault.TheVariants as set_fault
use Rattle.chain_tables.specs.declared.fault.ChainFault.TheVariants as chain_fault
use Rattle.certificate.specs.declared.fault.CertFault.TheVariants as certificate_fault
use Rattle.ceiling_kernel.specs.declared.trace.RunFault.TheVariants as run_fault
use Rattle.judge.specs.declared.fault.SettingsFault.TheVariants as settings_fault
use Rattle.trace_text.specs.declared.fault.TraceFault.TheVariants as trace_fault
use Rattle.scripts.specs.declared.line.ScriptFault.TheVariants as script_fault
use Rattle.streams.specs.declared.input.InputFault.TheVariants as input_fault
use Rattle.assignment.specs.declared.placing.Placing.{Placing}
use Rattle.assignment.specs.declared.placing.Placing.TheVariants.{Best, Stuck}
use Rattle.answering.specs.Statuses.{placing_status}
use Rattle.answering.specs.Outcomes.{AreRead, IsCarriedOut, IsCarriedOutOnBoth, IsRead, IsSaidOn}
use Rattle.answering.specs.Outcomes.{IsPrintedOn, failed_read}
use Rattle.answering.specs.Refusals.{refusal_line, status_of}
use Rattle.answering.specs.declared.refusal.CommandRefusal.{CommandRefusal}
use Rattle.answering.specs.declared.refusal.CommandRefusal.TheVariants as refusal
use Rattle.release_list.specs.declared.reading.TextFault.TheVariants as text_fault
use Rattle.answering.specs.declared.status.Status.{Status}
use Rattle.answering.specs.declared.status.Status.TheVariants.{Done, InputOrOutputFailed}
use Rattle.answering.specs.declared.status.Status.TheVariants.{OutOfMemory}

-- of all refusals that of a failed read alone has the status of a failed input or output
pub failed_by : (r : CommandRefusal) → status_of r ≡ InputOrOutputFailed → r ≡ failed_read
failed_by (refusal.Input input_fault.ReadFailed) is = refl
failed_by (refusal.Set set_fault.OutOfMemory) is = cc
failed_by (refusal.New set_fault.OutOfMemory) is = cc
failed_by (refusal.Chain chain_fault.OutOfMemory) is = cc
failed_by (refusal.NewChain chain_fault.OutOfMemory) is = cc
failed_by (refusal.Certificate certificate_fault.OutOfMemory) is = cc
failed_by (refusal.Text text_fault.OutOfMemory) is = cc
failed_by (refusal.Run run_fault.OutOfMemory) is = cc
failed_by (refusal.NewRun run_fault.OutOfMemory) is = cc
failed_by (refusal.Settings settings_fault.OutOfMemory) is = cc
failed_by (refusal.NewSettings settings_fault.OutOfMemory) is = cc
failed_by (refusal.Trace trace_fault.OutOfMemory) is = cc
failed_by (refusal.Script script_fault.OutOfMemory) is = cc
failed_by _ is = cc

-- no placing has that status
pub placing_ends : (p : Placing) → placing_status p ≡ InputOrOutputFailed → ⊥
placing_ends (Best places) is = cc
placing_ends (Stuck left) is = cc

-- nor has success
pub done_ends : Done ≡ InputOrOutputFailed → ⊥
done_ends is = cc

-- what was found is no error
pub never_err : {T E : Type 0} {x : T} {e : E} → Ok x ≡ Err e → ⊥
never_err is = cc

-- a refusal that is that of a failed read is shown with its status, also where the writer has failed
ended : (failed : Bool) (r : CommandRefusal) (s : Status) → (failed ≡ false → s ≡ status_of r)
    → (failed ≡ true → s ≡ InputOrOutputFailed) → r ≡ failed_read → s ≡ InputOrOutputFailed
ended true r s status unwritten is = unwritten refl
ended false r s status unwritten is = status refl ∙ ap status_of is

-- what is shown is what is said, where it is this text with this status, which is none of a failure
pub shown : {W : Type 0} {says : Option (List ℕ) → Option (List ℕ) → Status → Type 0} {holds : W
    → Option (List ℕ)} {old new : WatchedData W} {text text' : List ℕ} {done done' s : Status}
    → IsPrintedOn holds old new text done s → text ≡ text' → done ≡ done'
    → (done' ≡ InputOrOutputFailed → ⊥)
    → (Appends (holds old.inner) (holds new.inner) text' → s ≡ done'
    → says (holds old.inner) (holds new.inner) s)
    → IsSaidOn says holds old new s
shown {holds = holds} {old = old} {new = new} told same same' ends tells = record {
  printed = λ sound. tells (subst (λ (t : List ℕ). Appends (holds old.inner) (holds new.inner) t)
      same (told.printed sound)) (told.status sound ∙ same');
  failed = λ is. elim (told.failed is) [
    | inl failed ↦ absurd (ends (sym same' ∙ failed))
    | inr failed ↦ failed
  ];
  unwritten = told.unwritten;
}

-- that memory ran out is said
pub wanting : {W : Type 0} {says : Option (List ℕ) → Option (List ℕ) → Status → Type 0}
    {holds : W → Option (List ℕ)} {old new : WatchedData W} {s : Status}
    → IsPrintedOn holds old new (refusal_line refusal.OutOfMemory) OutOfMemory s
    → (Appends (holds old.inner) (holds new.inner) (refusal_line refusal.OutOfMemory)
    → s ≡ OutOfMemory → says (holds old.inner) (holds new.inner) s)
    → IsSaidOn says holds old new s
wanting told tells = shown told refl refl (λ is. cc) tells

-- a refusal is said, which is none of a failed read
pub refusal_said : {W : Type 0} {says : Option (List ℕ) → Option (List ℕ) → Status → Type 0}
    {holds : W → Option (List ℕ)} {old new : WatchedData W} {s : Status}
    (r : CommandRefusal) (Why : CommandRefusal → Type 0) → Why r → (Why failed_read → ⊥)
    → IsPrintedOn holds old new (refusal_line r) (status_of r) s
    → (Appends (holds old.inner) (holds new.inner) (refusal_line r) → s ≡ status_of r
    → says (holds old.inner) (holds new.inner) s)
    → IsSaidOn says holds old new s
refusal_said r Why why never told tells =
    shown told refl refl (λ is. never (subst Why (failed_by r is) why)) tells

-- what is said is another thing said
pub said_as : {W : Type 0} {says says' : Option (List ℕ) → Option (List ℕ) → Status → Type 0}
    {holds : W → Option (List ℕ)} {old new : WatchedData W} {s : Status}
    → IsSaidOn says holds old new s
    → (says (holds old.inner) (holds new.inner) s → says' (holds old.inner) (holds new.inner) s)
    → IsSaidOn says' holds old new s
said_as told tells = record {
  printed = λ sound. tells (told.printed sound);
  failed = told.failed;
  unwritten = told.unwritten;
}

-- what is said was printed, and the writer's flag stays
pub said_sound : {W : Type 0} {says : Option (List ℕ) → Option (List ℕ) → Status → Type 0}
    {holds : W → Option (List ℕ)} {old new : WatchedData W} {s : Status}
    → new.has_failed ≡ old.has_failed → (s ≡ InputOrOutputFailed → ⊥)
    → says (holds old.inner) (holds new.inner) s → IsSaidOn says holds old new s
said_sound same ends says = record {
  printed = λ _. says;
  failed = λ is. absurd (ends is);
  unwritten = λ fresh failed. absurd (true≢false (sym failed ∙ same ∙ fresh));
}

-- that memory ran out is said after a text
pub wanting_after : {W : Type 0} {says : Option (List ℕ) → Option (List ℕ) → Status → Type 0}
    {holds : W → Option (List ℕ)} {old between new : WatchedData W} {s : Status} (text : List ℕ)
    → between.has_failed ≡ old.has_failed → Appends (holds old.inner) (holds between.inner) text
    → IsPrintedOn holds between new (refusal_line refusal.OutOfMemory) OutOfMemory s
    → (Appends (holds old.inner) (holds new.inner) (text ++ refusal_line refusal.OutOfMemory)
    → s ≡ OutOfMemory → says (holds old.inner) (holds new.inner) s)
    → IsSaidOn says holds old new s
wanting_after {holds = holds} {old = old} {between = between} {new = new} text same wrote told
    tells = record {
      printed = λ sound. tells (Appends-trans (holds old.inner) (holds between.inner)
          (holds new.inner)
          text (refusal_line refusal.OutOfMemory) wrote (told.printed sound)) (told.status sound);
      failed = λ is. elim (told.failed is) [ inl failed ↦ cc | inr failed ↦ failed ];
      unwritten = λ fresh failed. told.unwritten (same ∙ fresh) failed;
    }

-- the writer has failed
pub broken : {W : Type 0} {says : Option (List ℕ) → Option (List ℕ) → Status → Type 0}
    {holds : W → Option (List ℕ)} {old new : WatchedData W}
    → new.has_failed ≡ true → IsSaidOn says holds old new InputOrOutputFailed
broken failed = record {
  printed = λ sound. absurd (true≢false (sym failed ∙ sound));
  failed =
      λ _. failed;
  unwritten = λ _ _. refl;
}

module _ {R W X : Type 0} {says : Option (List ℕ) → Option (List ℕ) → Option (List ℕ) → Status
    → Type 0} {has : R → Option (List ℕ)} {holds : W → Option (List ℕ)}
    {input input' : WatchedData R} {output output' : WatchedData W} {s : Status} where
  -- an answer was found on the input, and said
  pub carried_out : {x : X} → IsRead failed_read input input' (Ok x)
      → IsSaidOn (says (has input.inner)) holds output output' s
      → IsCarriedOut says has holds input input' output output' s
  carried_out read told = record {
    printed = told.printed;
    failed = λ is. inr (told.failed is);
    unread = λ fresh failed sound. cc (read.answered fresh failed);
    unwritten = told.unwritten;
    turns = read.turns;
  }

  -- the input was refused, and the refusal was shown
  pub refused : {r : CommandRefusal} → IsRead {T = X} failed_read input input' (Err r)
      → IsPrintedOn holds output output' (refusal_line r) (status_of r) s
      → (Appends (holds output.inner) (holds output'.inner) (refusal_line r) → s ≡ status_of r
      → says (has input.inner) (holds output.inner) (holds output'.inner) s)
      → IsCarriedOut says has holds input input' output output' s
  refused {r} read told tells = record {
    printed = λ sound. tells (told.printed sound) (told.status sound);
    failed = λ is. elim (told.failed is) [
      | inl failed ↦
          inl (read.failed (ap (λ (r : CommandRefusal). Err r) (failed_by r failed)))
      | inr failed ↦ inr failed
    ];
    unread = λ fresh failed sound. ended output'.has_failed r s told.status (told.unwritten sound)
        (cc (read.answered fresh failed));
    unwritten = told.unwritten;
    turns = read.turns;
  }

module _ {R S W X : Type 0}
    {says : Option (List ℕ) → Option (List ℕ) → Option (List ℕ) → Option (List ℕ) → Status → Type 0}
    {has : R → Option (List ℕ)} {has' : S → Option (List ℕ)} {holds : W → Option (List ℕ)}
    {first first' : WatchedData R} {second second' : WatchedData S} {output output' : WatchedData W}
    {s : Status} where
  -- the same of two inputs
  pub carried_out_on_both : {x : X} → AreRead failed_read has first first' second second' (Ok x)
      → IsSaidOn (says (has first.inner) (has' second.inner)) holds output output' s
      → IsCarriedOutOnBoth says has has' holds first first' second second' output output' s
  carried_out_on_both read told = record {
    printed = told.printed;
    failed = λ is. inr (inr (told.failed is));
    unread = λ fresh fresh' failed sound. cc (read.answered fresh fresh' failed);
    unwritten = told.unwritten;
    turns = read.turns;
    first_too_long = read.first_too_long;
    first_failed = read.first_failed;
  }

  pub refused_on_both : {r : CommandRefusal} → AreRead {T = X} failed_read has first first' second
      second' (Err r) → IsPrintedOn holds output output' (refusal_line r) (status_of r) s
      → (Appends (holds output.inner) (holds output'.inner) (refusal_line r) → s ≡ status_of r
      → says (has first.inner) (has' second.inner) (holds output.inner) (holds output'.inner) s)
      → IsCarriedOutOnBoth says has has' holds first first' second second' output output' s
  refused_on_both {r} read told tells = record {
    printed = λ sound. tells (told.printed sound) (told.status sound);
    failed = λ is. elim (told.failed is) [
      | inl failed ↦ elim (read.failed
          (ap (λ (r : CommandRefusal). Err r) (failed_by r failed))) [
            | inl disturbed ↦ inl disturbed
            | inr disturbed ↦ inr (inl disturbed)
          ]
      | inr failed ↦ inr (inr failed)
    ];
    unread = λ fresh fresh' failed sound. ended output'.has_failed r s told.status
        (told.unwritten sound) (cc (read.answered fresh fresh' failed));
    unwritten = told.unwritten;
    turns = read.turns;
    first_too_long = read.first_too_long;
    first_failed = read.first_failed;
  }
