use Rattle.std.proofs.Common.{◌≡◌, ◌∙◌, ap, not, length}
use Rattle.assignment.specs.Levels.{LevelState}
use Rattle.desk_core.specs.Findings.{level_of}
use Rattle.desk_core.proofs.ProgressLaws.{tested-iff}
use Rattle.desk_core.proofs.AskingLaws.{asking-next}
use Rattle.desk_core.proofs.trial.Trial.asking.Goals as goal

pub returns-then-not-is_unfinished : goal.returns-then-not-is_unfinished
returns-then-not-is_unfinished c =
    let a = c.self.inside in
    rw (← c.self.view_is) ((tested-iff a.set.value a.climb a.found.items
    c.self.invariant.held.progress c.is_unfinished.result c.is_unfinished.ensures).0
    (ap not c.if-not-is_unfinished.true))

pub returns : goal.returns
returns c =
    let a = c.self.inside in
    let held = c.self.invariant.held in
    let n = length a.climb.levels in
    let going = c.is_unfinished.ensures.0 c.if-not-is_unfinished.false in
    let here : c.missing_of-missing.result ≡ (level_of a.set.value a.found.items n).missing =
    c.missing_of-missing.ensures ∙ ap (λ (l : LevelState). l.missing) (held.kept going.goes_on) in
    rw (← c.self.view_is, c.in_ok-question-in-Some.ensures) (
      n,
      asking-next a.set.value a.climb
          a.found.items held.progress going c.in-Some.task (rw (← here) c.in-Some.ensures.1)
          (λ j lt. rw (← here) (c.in-Some.ensures.2 j lt)),
    )
