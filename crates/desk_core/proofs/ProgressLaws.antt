-- How a finding moves a climb.
use Rattle.std.proofs.Common.{◌≡◌, ◌∙◌, ◌↔◌, ℕ, suc, ◌<◌, inl, inr, true, false, Bool, not, List}
use Rattle.std.proofs.Common.{[], ◌∷◌, ◌++◌, length, MatchBool, None, length-append, refl, sym, ap}
use Rattle.std.proofs.Common.{arith, IsTrue}
use Rattle.std.specs.FinSet as members
use Rattle.std.proofs.lemmas.Bool.{cases_Bool, cases_eq, cases_lt, both_ways}
use Rattle.task_sheet.proofs.Common.{Task, indexes_of, all_below, NoneStands, level_at}
use Rattle.task_sheet.proofs.ChosenLaws.{level_at-next, level_at-stays}
use Rattle.task_sheet.proofs.MembersIndexes.{indexes_of-all_below, len-remove_member}
use Rattle.assignment.specs.Questions.{QuestionData}
use Rattle.assignment.specs.Levels.{IsAsked, with_finding}
use Rattle.assignment.specs.Climbs.{ClimbState, IsPlaced, IsEnded, IsUnfinished}
use Rattle.assignment.proofs.AskLaws.{remove-part}
use Rattle.assignment.proofs.ClimbLaws.{not_unfinished}
use Rattle.desk_core.specs.Findings.{Asked, asked_of, missing_after, level_of, Decides, IsPresent}
use Rattle.desk_core.specs.Findings.{IsTested}
use Rattle.desk_core.specs.Progress.{AreWide, IsProgress, IsHeld}
use Rattle.desk_core.proofs.FindingLaws.{level_of-on, asked-whole, asked-on, Decides-push}
use Rattle.desk_core.proofs.FindingLaws.{missing_after-fresh, AreWide-less, AreWide-push}
use Rattle.desk_core.proofs.FindingLaws.{fresh-undecided}

-- before the first finding
pub held-start : (U : List Task) → IsHeld U (let c : ClimbState =
    record { set = U; levels = []; left = all_below (length U); stuck = false } in c) None []
unfolding level_at
held-start U = record {
  progress = record {
    same = refl;
    part = λ k h. ap (λ X. X k) (sym (indexes_of-all_below (length U))) ∙ h;
    left = refl;
    before = λ j lt. absurd (omega arith);
    wide = tt;
    here = λ i member. fresh-undecided (level_of U [] 0) refl i member;
  };
  kept = λ _. refl;
}

module _ (U : List Task) (c : ClimbState) (found : List Asked) (so : IsProgress U c found) where
  -- ---- where it stands
  pub progress-present : IsUnfinished c → IsPresent U found (length c.levels)
  progress-present going = record {
    before = so.before;
    undecided = (rw going.goes_on at so.here) going.some.0 going.some.1;
  }

  -- none is left that may stand, and the findings show it
  over : ¬ IsUnfinished c
      → NoneStands U (indexes_of c.left) × Decides U found (length c.levels)
  over end = elim (cases_Bool c.stuck) [
    | inl stuck ↦ rw stuck at so.here
    | inr goes_on ↦
        let gone = not_unfinished c goes_on end in (
          λ i member stands. both_ways (members.contains c.left i) (gone i) member,
          inl (λ j member. absurd (both_ways (members.contains c.left j) (gone j)
              (rw so.left member))),
        )
  ]

  pub progress-tested : ¬ IsUnfinished c → IsTested U found
  progress-tested end k = elim (cases_lt k (length c.levels)) [
    | inl lt ↦ so.before k lt
    | inr le ↦
        let both = over end in
        rw (level_at-stays U (length c.levels) (rw so.left at both.0) k le) both.1
  ]

  pub tested-ended : IsTested U found → ¬ IsUnfinished c
  tested-ended tested going = (progress-present going).undecided (tested (length c.levels))

  -- by what says whether the climb goes on
  pub tested-iff : (b : Bool) → (IsTrue b ↔ IsUnfinished c) → IsTrue (not b) ↔ IsTested U found
  tested-iff true is = (
    λ no-such. absurd (both_ways false refl no-such),
    λ tested. absurd (tested-ended tested (is.0 refl)),
  )
  tested-iff false is =
      (λ _. progress-tested (λ going. both_ways false refl (is.1 going)), λ _. refl)

  -- ---- one more finding on the present level
  module _ (q : QuestionData) (going : IsUnfinished c)
      (asked : IsAsked (level_of U found (length c.levels)) q) where
    pub progress-more : level_of U (found ++ asked_of q ∷ []) (length c.levels)
        ≡ with_finding (level_of U found (length c.levels)) q.task
    progress-more = level_of-on U found (length c.levels) (asked_of q)
        (asked-on (level_at U (length c.levels)) q asked.candidate asked.rest)

    wider : AreWide (members.len c.left) (found ++ asked_of q ∷ [])
    wider = AreWide-push (members.len c.left) found (asked_of q) so.wide
        (rw (asked-whole (level_at U (length c.levels)) q asked.candidate asked.rest, so.left)
        (omega arith))

    -- the climb as it is then, stuck or not
    progress-here : (stuck : Bool)
        → MatchBool stuck
        (NoneStands U (indexes_of c.left) × Decides U (found ++ asked_of q ∷ []) (length c.levels))
        ((i : ℕ) → IsTrue (members.contains c.left i)
        → ¬ Decides U (found ++ asked_of q ∷ []) (length c.levels))
        → IsProgress U (let x : ClimbState = record {
          set = c.set;
          levels = c.levels;
          left = c.left;
          stuck = stuck;
        } in x) (found ++ asked_of q ∷ [])
    progress-here stuck here = record {
      same = so.same;
      part = so.part;
      left = so.left;
      before = λ j lt. Decides-push U found j (asked_of q) (so.before j lt);
      wide = wider;
      here = here;
    }

    pub progress-taken : ¬ Decides U (found ++ asked_of q ∷ []) (length c.levels)
        → IsProgress U c (found ++ asked_of q ∷ [])
    progress-taken still = progress-here c.stuck (rw going.goes_on (λ i member. still))

    module _ (c' : ClimbState)
        (decided : Decides U (found ++ asked_of q ∷ []) (length c.levels)) where
      pub held-ended : IsEnded c c' → IsHeld U c' None (found ++ asked_of q ∷ [])
      held-ended ended = rw ended.after (record {
        progress = progress-here true (rw so.same at ended.none, decided);
        kept = λ goes_on. absurd (both_ways true goes_on refl);
      })

      -- the next level has no finding yet
      pub held-placed : IsPlaced c c' → IsHeld U c' None (found ++ asked_of q ∷ [])
      held-placed placed =
          let n = length c.levels in
          let t = placed.level.task in
          let next = level_at U (suc n) in
          let fewer : members.len (members.remove c.left t) < members.len c.left =
          len-remove_member c.left t placed.chosen.member in
          let at : members.remove c.left t ≡ next =
          sym (level_at-next U n t c.left so.left so.part (rw so.same at placed.chosen)) in
          let count : length (c.levels ++ placed.level ∷ []) ≡ suc n =
          omega (arith, length-append c.levels (placed.level ∷ [])) in
          let fresh : missing_after next next (found ++ asked_of q ∷ []) ≡ next =
          missing_after-fresh (members.len c.left) next next (found ++ asked_of q ∷ []) wider
          (rw (← at) fewer) in
          rw placed.after (record {
            progress = record {
              same = so.same;
              part = remove-part U c.left t so.part;
              left = rw count at;
              before = λ j lt. elim (cases_eq j n) [
                | inl e ↦ rw e decided
                | inr ne ↦ Decides-push U found j (asked_of q) (so.before j (omega arith))
              ];
              wide = AreWide-less (members.len c.left) (members.len (members.remove c.left t))
                  (found ++ asked_of q ∷ []) (omega arith) wider;
              here = λ i member. rw count (fresh-undecided
                  (level_of U (found ++ asked_of q ∷ []) (suc n)) fresh i (rw (← at) member));
            };
            kept = λ _. rw (so.same, count, at, fresh) refl;
          })
