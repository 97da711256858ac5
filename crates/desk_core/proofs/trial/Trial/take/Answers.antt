use Rattle.std.proofs.Common.{◌∙◌, sym, ap, not, Option}
use Rattle.assignment.specs.Levels.{LevelState}
use Rattle.assignment.specs.Questions.{FindingData}
use Rattle.desk_core.specs.Findings.{asked_of, found_after}
use Rattle.desk_core.specs.Progress.{present_of}
use Rattle.desk_core.proofs.ProgressLaws.{tested-iff}
use Rattle.desk_core.proofs.StepLaws.{trial-started, trial-step}
use Rattle.desk_core.proofs.trial.Trial.take.Goals as goal

pub returns-then-not-is_unfinished-clause-told : goal.returns-then-not-is_unfinished-clause-told
returns-then-not-is_unfinished-clause-told c =
    let a = c.self.inside in
    let tested = (tested-iff a.set.value a.climb a.found.items c.self.invariant.held.progress
    c.is_unfinished.result c.is_unfinished.ensures).0 (ap not c.if-not-is_unfinished.true) in
    rw (← c.self.view_is) (λ k present asked. present.undecided (tested k))

pub invariant_of-self : goal.invariant_of-self
invariant_of-self c =
    let a = c.self.inside in
    trial-started a c.self.invariant c.take.new.self
    (ap (λ (o : Option LevelState). present_of a.climb o)
    (c.take.ensures.after ∙ sym c.in_default.ensures.err ∙ c.take.ensures.value))

pub returns-clause-told : goal.returns-clause-told
returns-clause-told c =
    let a = c.self.inside in
    let going = c.is_unfinished.ensures.0 c.if-not-is_unfinished.false in
    let here = c.in-Ok.ensures.ok
    ∙ ap (λ (o : Option LevelState). present_of a.climb o) c.take.ensures.value in
    rw (← c.self.view_is)
    (trial-step a c.self.invariant going c.in-Ok.level here c.args.finding.question
    c.take_at-told.new.climb c.take_at-told.result.1 c.take_at-told.result.0
    c.take_at-told.ensures).0

pub invariant_of-self-2 : goal.invariant_of-self-2
invariant_of-self-2 c =
    let a = c.self.inside in
    let going = c.is_unfinished.ensures.0 c.if-not-is_unfinished.false in
    let here = c.in-Ok.ensures.ok
    ∙ ap (λ (o : Option LevelState). present_of a.climb o) c.take.ensures.value in
    let told = c.take_at-told.result.0 in
    let noted = c.with-self-inside.ensures
    ∙ ap (λ (f : FindingData). found_after a.found.items (asked_of f.question) told)
    c.of-brought.ensures in
    record {
      tabled = c.self.invariant.tabled;
      held = rw noted (trial-step a c.self.invariant going c.in-Ok.level here
          c.args.finding.question c.take_at-told.new.climb c.take_at-told.result.1 told
          c.take_at-told.ensures).1;
      empty = c.self.invariant.empty;
      room = c.self.invariant.room;
    }
