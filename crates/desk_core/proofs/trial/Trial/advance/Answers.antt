use Rattle.std.proofs.Common.{◌∙◌, sym, ap, subst, not, refl, length, Option}
use Rattle.assignment.specs.Levels.{LevelState, IsDecided}
use Rattle.assignment.specs.Questions.{FindingData}
use Rattle.desk_core.specs.Advances.{IsLeast}
use Rattle.desk_core.specs.Findings.{asked_of, found_after}
use Rattle.desk_core.specs.Progress.{present_of}
use Rattle.desk_core.specs.Trials.{TrialData}
use Rattle.desk_core.proofs.ProgressLaws.{progress-present, tested-iff}
use Rattle.desk_core.proofs.StepLaws.{trial-started, trial-step}
use Rattle.desk_core.proofs.trial.Trial.advance.Goals as goal

pub returns-then-not-is_unfinished-clause-ok : goal.returns-then-not-is_unfinished-clause-ok
returns-then-not-is_unfinished-clause-ok c =
    let a = c.self.inside in
    let tested = (tested-iff a.set.value a.climb a.found.items c.self.invariant.held.progress
    c.is_unfinished.result c.is_unfinished.ensures).0 (ap not c.if-not-is_unfinished.true) in
    (rw (← c.self.view_is) tested, refl)

pub invariant_of-self : goal.invariant_of-self
invariant_of-self c =
    let a = c.self.inside in
    trial-started a c.self.invariant c.take.new.self
    (ap (λ (o : Option LevelState). present_of a.climb o)
    (c.take.ensures.after ∙ sym (c.in_err-level.ensures.err) ∙ c.take.ensures.value))

pub find_least-requires-clause-undecided : goal.find_least-requires-clause-undecided
find_least-requires-clause-undecided c = λ decided.
    let a = c.self.inside in
    let held = c.self.invariant.held in
    let going = c.is_unfinished.ensures.0 c.if-not-is_unfinished.false in
    let here = c.in_ok-level.ensures.ok
    ∙ ap (λ (o : Option LevelState). present_of a.climb o) c.take.ensures.value
    ∙ held.kept going.goes_on in
    (progress-present a.set.value a.climb a.found.items held.progress going).undecided
    (subst (λ (l : LevelState). IsDecided l) here decided)

pub invariant_of-self-2 : goal.invariant_of-self-2
invariant_of-self-2 c =
    let a = c.self.inside in
    let going = c.is_unfinished.ensures.0 c.if-not-is_unfinished.false in
    let here = c.in_ok-level.ensures.ok
    ∙ ap (λ (o : Option LevelState). present_of a.climb o) c.take.ensures.value in
    let told = c.accept_at-told.result.0 in
    let noted = c.with-self-inside.ensures
    ∙ ap (λ (f : FindingData). found_after a.found.items (asked_of f.question) told)
    c.of-brought.ensures in
    record {
      tabled = c.self.invariant.tabled;
      held = rw noted (trial-step a c.self.invariant going c.in_ok-level.level here
          c.in-Ok.finding.question c.accept_at-told.new.climb c.accept_at-told.result.1 told
          c.accept_at-told.ensures).1;
      empty = c.self.invariant.empty;
      room = c.self.invariant.room;
    }

pub returns-clause-ok : goal.returns-clause-ok
returns-clause-ok c =
    let a = c.self.inside in
    let held = c.self.invariant.held in
    let f = c.in-Ok.finding in
    let q = f.question in
    let going = c.is_unfinished.ensures.0 c.if-not-is_unfinished.false in
    let here = c.in_ok-level.ensures.ok
    ∙ ap (λ (o : Option LevelState). present_of a.climb o) c.take.ensures.value in
    let least =
    subst (λ (l : LevelState). IsLeast l q) (here ∙ held.kept going.goes_on) c.in-Ok.ensures in
    let told = c.accept_at-told.result.0 in
    let noted = c.with-self-inside.ensures
    ∙ ap (λ (x : FindingData). found_after a.found.items (asked_of x.question) told)
    c.of-brought.ensures in (
      f,
      record {
        asked = rw (← c.self.view_is) (
          length a.climb.levels,
          record {
            present =
                progress-present a.set.value a.climb a.found.items held.progress going;
            asked = least.asked;
            missing = least.missing;
            least = least.least;
          },
        );
        answer = rw (← c.self.view_is) (trial-step a c.self.invariant going c.in_ok-level.level here
            q c.accept_at-told.new.climb c.accept_at-told.result.1 told c.accept_at-told.ensures).0;
        same = ap (λ (x : TrialData). x.set) c.self.view_is;
        found = noted
            ∙ ap (λ (x : TrialData). found_after x.found (asked_of q) told) c.self.view_is;
      },
    )
