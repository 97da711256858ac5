-- What becomes of a trial when a finding comes.
use Rattle.std.proofs.Common.{◌≡◌, ◌∙◌, ℕ, suc, inl, inr, true, false, Result, Ok, Err, is_err}
use Rattle.std.proofs.Common.{OnOk, List, [], ◌∷◌, ◌++◌, length, length-append, Option, Some, refl}
use Rattle.std.proofs.Common.{sym, ap, subst, arith}
use Rattle.std.proofs.lemmas.Bool.{both_ways}
use Rattle.task_sheet.specs.Sheet.{Task}
use Rattle.assignment.specs.Questions.{QuestionData}
use Rattle.assignment.specs.Levels.{LevelState, IsAsked, IsDecided, with_finding}
use Rattle.assignment.specs.Climbs.{ClimbState, IsPlaced, IsUnfinished}
use Rattle.desk_core.specs.declared.trial.Trial.TheInside.{Inside}
use Rattle.desk_core.specs.declared.told.Told.{Told}
use Rattle.desk_core.specs.declared.told.Told.TheVariants.{Stranger, Twice, Taken, LevelDone}
use Rattle.desk_core.specs.declared.told.Told.TheVariants.{Tested}
use Rattle.desk_core.specs.Closing.{IsNew, IsTakenAt}
use Rattle.desk_core.specs.Findings.{Asked, asked_of, level_of, Decides, IsPresent, IsNews, IsTold}
use Rattle.desk_core.specs.Findings.{IsLevelDone, found_after}
use Rattle.desk_core.specs.Progress.{present_of, IsProgress, IsHeld}
use Rattle.desk_core.specs.TrialFields.{IsTrialKept}
use Rattle.desk_core.proofs.FindingLaws.{IsPresent-one}
use Rattle.desk_core.proofs.ProgressLaws.{progress-present, progress-tested, progress-more}
use Rattle.desk_core.proofs.ProgressLaws.{progress-taken, held-ended, held-placed}

module _ (U : List Task) (c : ClimbState) (found : List Asked) (so : IsProgress U c found)
    (q : QuestionData) (going : IsUnfinished c) (c' : ClimbState)
    (kept : Option LevelState) where
  abbrev present : LevelState
  present = level_of U found (length c.levels)

  news : IsNew present q → IsNews U found q (length c.levels)
  news new = record {
    present = progress-present U c found so going;
    asked = new.0;
    missing = new.1;
  }

  stays : c' ≡ c → kept ≡ Some present → IsHeld U c' kept found
  stays same is = rw (same, is) (record { progress = so; kept = λ _. refl })

  decides : IsAsked present q → IsDecided (with_finding present q.task)
      → Decides U (found ++ asked_of q ∷ []) (length c.levels)
  decides asked decided = subst (λ (l : LevelState). IsDecided l)
      (sym (progress-more U c found so q going asked)) decided

  done : (task response : ℕ) (placed : IsPlaced c c') → IsProgress U c' (found ++ asked_of q ∷ [])
      → IsUnfinished c' → task ≡ placed.level.task → response ≡ placed.level.response
      → IsLevelDone U (found ++ asked_of q ∷ []) (length c.levels) (length c'.levels) task response
  done task response placed next going' chosen right =
      let count : length c'.levels ≡ suc (length c.levels) = omega (
        arith,
        ap (λ (x : ClimbState). length x.levels) placed.after,
        length-append c.levels (placed.level ∷ []),
      ) in
      record {
        next = subst (λ n. IsPresent U (found ++ asked_of q ∷ []) n) count
            (progress-present U c' (found ++ asked_of q ∷ []) next going');
        number = count;
        chosen = rw chosen (rw (so.same, so.left) at placed.chosen);
        right = rw (chosen, right) (rw (so.same, so.left) at placed.right.response);
      }

  told-step : (told : Told) → IsTakenAt c present q c' kept told → IsTold U found q told
      × IsHeld U c' kept (found_after found (asked_of q) told)
  told-step Stranger (other, is, same) = (
    λ k at asked. other (subst (λ n. IsAsked (level_of U found n) q) (IsPresent-one U found k
        (length c.levels) at (progress-present U c found so going)) asked),
    stays same is,
  )
  told-step Twice (known, is, same) =
      ((length c.levels, progress-present U c found so going, known.0, known.1), stays same is)
  told-step Taken (new, still, is, same) =
      let more = progress-more U c found so q going new.0 in
      let next = progress-taken U c found so q going new.0
      (λ decided. still (subst (λ (l : LevelState). IsDecided l) more decided)) in (
        (
          length c.levels,
          news new,
          progress-present U c (found ++ asked_of q ∷ []) next going,
        ),
        rw (same, is) (record { progress = next; kept = λ _. sym more }),
      )
  told-step (LevelDone level task response) (
    new,
    decided,
    is,
    (
      placed,
      going',
      number,
      chosen,
      right,
    ),
  ) =
      let held = held-placed U c found so q going new.0 c' (decides new.0 decided) placed in (
        (
          length c.levels,
          news new,
          rw number (done task response placed held.progress going' chosen right),
        ),
        rw is held,
      )
  told-step Tested (new, decided, is, (ended, inl placed)) =
      let held = held-placed U c found so q going new.0 c' (decides new.0 decided) placed in (
        (
          length c.levels,
          news new,
          progress-tested U c' (found ++ asked_of q ∷ []) held.progress ended,
        ),
        rw is held,
      )
  told-step Tested (new, decided, is, (ended, inr stuck)) =
      let held = held-ended U c found so q going new.0 c' (decides new.0 decided) stuck in (
        (
          length c.levels,
          news new,
          progress-tested U c' (found ++ asked_of q ∷ []) held.progress ended,
        ),
        rw is held,
      )

pub on_ok : {E : Type 0} (P : Type 0) (r : Result (Unit {0}) E) → is_err r ≡ false → OnOk r P → P
on_ok P (Ok done) is so = so
on_ok P (Err e) is so = absurd (both_ways true is refl)

-- ---- what is kept of a trial
module _ (a : Inside) (trial : IsTrialKept a) where
  -- with its level started or not
  pub trial-started : (level : Option LevelState)
      → present_of a.climb level ≡ present_of a.climb a.level
      → IsTrialKept (let x : Inside = record {
        set = a.set;
        table = a.table;
        climb = a.climb;
        level = level;
        found = a.found;
        room = a.room;
      } in x)
  trial-started level same = record {
    tabled = trial.tabled;
    held = record {
      progress = trial.held.progress;
      kept = λ goes_on. same ∙ trial.held.kept goes_on;
    };
    empty = trial.empty;
    room = trial.room;
  }

  -- after a finding that came to the present level
  pub trial-step : (going : IsUnfinished a.climb) (l : LevelState) → l ≡ present_of a.climb a.level
      → (q : QuestionData) (climb : ClimbState) (level : Option LevelState) (told : Told)
      → IsTakenAt a.climb l q climb level told → IsTold a.set.value a.found.items q told
      × IsHeld a.set.value climb level (found_after a.found.items (asked_of q) told)
  trial-step going l here q climb level told taken =
      told-step a.set.value a.climb a.found.items trial.held.progress q going climb level told
      (rw (here ∙ trial.held.kept going.goes_on) at taken)
