-- Runs in a set's best order, and in one that a release list gives.
use Rattle.std.specs.Prelude.{IfOk}
use Rattle.std.proofs.Common.{◌≡◌, ◌∙◌, ◌<◌, ℕ, Bool, true, false, List, [], ◌∷◌, length, Option, Result, Ok, Err, inr}
use Rattle.std.proofs.Common.{refl, sym, ap, subst, arith}
use Rattle.task_sheet.proofs.Common.{Task, IsTaskSet, among, IsOrder}
use Rattle.assignment.specs.Places.{PlaceData}
use Rattle.assignment.specs.Placings.{IsBestPlacing, tasks_of_places}
use Rattle.ceiling_kernel.proofs.Common.{Runs, node_in}
use Rattle.ceiling_kernel.specs.Runs.{MeetsTighterBounds}
use Rattle.ceiling_kernel.specs.declared.trace.Release.{Release}
use Rattle.ceiling_kernel.specs.declared.trace.Trace.{Trace}
use Rattle.judge.specs.SettingFaults.{IsSettingsFault, rows_fault}
use Rattle.judge.specs.Node.{IsOrderOfRows}
use Rattle.judge.specs.Judgements.{AllJudged, IsJudgementOf, order_judged}
use Rattle.judge.specs.declared.fault.SettingsFault.{SettingsFault}
use Rattle.judge.specs.declared.judging.JudgedTask.{JudgedTask}
use Rattle.judge.specs.declared.judging.Judgement.TheVariants.{Meets, Misses, Below}
use Rattle.judge.specs.declared.rows.SettingRow.{SettingRow}
use Rattle.run_lines.specs.Responses.{AllDoneWithin, AllKeptWithin, AllReachWithin}
use Rattle.run_lines.specs.TaskBounds.{AreBounds, IsBoundBelow, bounds_of, tasks_of_bounds}
use Rattle.run_lines.specs.declared.bounds.TaskBound.{TaskBound}
use Rattle.run_lines.proofs.ResponseLaws.{all_kept, all_within, same_tasks}
use Rattle.two_input_commands.specs.Chained.{response_judged}
use Rattle.two_input_commands.specs.Simulate.{AreBoundsIn, AreJudgedBy, IsInOrder, IsListedOrder}
use Rattle.two_input_commands.specs.Simulate.{IsRunOf, SimulatesIn, SimulatesRead, bounds_judged}
use Rattle.two_input_commands.specs.Simulate.{order_fault}
use Rattle.answering.specs.declared.refusal.CommandRefusal.{CommandRefusal}
use Rattle.answering.specs.declared.refusal.CommandRefusal.TheVariants as refusal
use Rattle.two_input_commands.specs.declared.simulate.Simulated.{Simulated}
use Rattle.two_input_commands.specs.declared.simulate.Simulated.TheVariants.{Ran}

-- ---- bounds
pub tasks_same : (judged : List JudgedTask)
    → tasks_of_bounds (bounds_judged judged) ≡ order_judged judged
tasks_same [] = refl
tasks_same (j ∷ judged) = ap (λ (xs : List ℕ). j.task ∷ xs) (tasks_same judged)

-- what becomes of tasks bounds them
are_bounds : (U : List Task) (judged : List JudgedTask) → AllJudged U judged
    → AreBounds U (bounds_judged judged)
are_bounds U [] all = tt
are_bounds U (j ∷ above) all = (
  elim j.judgement as (λ x. IsJudgementOf U j.task (among (order_judged above)) x
      → IsBoundBelow U (tasks_of_bounds (bounds_judged above)) j.task (response_judged x)) [
        | Meets r ↦ λ is. rw (tasks_same above) (is.1, is.2)
        | Misses needs ↦ λ _. tt
        | Below other ↦ λ _. tt
      ] all.0,
  are_bounds U above all.1,
)

-- places are kept as their bounds are
kept_places : (U : List Task) (places : List PlaceData) (rs : List Release) (until : ℕ)
    (trace : Trace) → AllDoneWithin U places rs until trace → AllReachWithin U trace.jobs.items places
    → AllKeptWithin U (bounds_of places) rs until trace
kept_places U [] rs until trace done reached = tt
kept_places U (p ∷ places) rs until trace done reached =
    ((done.0, reached.0), kept_places U places rs until trace done.1 reached.1)

-- ---- a run
module _ (U : List Task) (bounds : List TaskBound) (order : List ℕ)
    (same : tasks_of_bounds bounds ≡ order) (rs : List Release) (until : ℕ) (trace : Trace)
    (set : IsTaskSet U) (runs : Runs (node_in U order) rs until (Ok trace))
    (tight : MeetsTighterBounds (node_in U order) rs until trace) where
  there : Runs (node_in U (tasks_of_bounds bounds)) rs until (Ok trace)
  there = subst (λ (o : List ℕ). Runs (node_in U o) rs until (Ok trace)) (sym same) runs

  with_bounds : AllKeptWithin U bounds rs until trace → IsRunOf U bounds rs until trace
  with_bounds kept = record {
    ran = there;
    kept = kept;
    tighter = subst (λ (o : List ℕ). MeetsTighterBounds (node_in U o) rs until trace) (sym same) tight;
  }

  -- of an order that was judged
  pub judged_run : (judged : List JudgedTask) → bounds ≡ bounds_judged judged → AllJudged U judged
      → IsOrder U order → IsRunOf U bounds rs until trace
  judged_run judged is all each = with_bounds (all_kept U bounds rs until trace set
      (subst (λ (o : List ℕ). IsOrder U o) (sym same) each)
      (subst (λ (bs : List TaskBound). AreBounds U bs) (sym is) (are_bounds U judged all)) there)

  -- of the best order
  pub best_run : (places : List PlaceData) → bounds ≡ bounds_of places → order ≡ tasks_of_places places
      → IsBestPlacing U places → IsRunOf U bounds rs until trace
  best_run places is by best =
      let within = all_within U places rs until trace set best
      (subst (λ (o : List ℕ). Runs (node_in U o) rs until (Ok trace)) by runs) in
      with_bounds (subst (λ (bs : List TaskBound). AllKeptWithin U bs rs until trace) (sym is)
      (kept_places U places rs until trace within.0 within.1))

-- ---- the order that settings give
-- settings that give no order
pub no_order : (U : List Task) (e : SettingsFault) (rows : List SettingRow) → 0 < length rows
    → IsSettingsFault e (rows_fault false U (Ok rows)) → IsSettingsFault e (order_fault U (Ok rows))
no_order U e [] some is = absurd (omega arith)
no_order U e (row ∷ rows) some is = is

-- settings that give one
listed : (U : List Task) (rows : List SettingRow) (order : List ℕ) → 0 < length rows
    → IsOrderOfRows false U rows order → IsListedOrder U (Ok rows) order
listed U [] order some gives = absurd (omega arith)
listed U (row ∷ rows) order some gives = gives

-- what becomes of each task in the order that some settings give
pub judged_by : (U : List Task) (rows : List SettingRow) (judged : List JudgedTask)
    → 0 < length rows → IsOrderOfRows false U rows (order_judged judged) × AllJudged U judged
    → AreJudgedBy U (Ok rows) judged
judged_by U rows judged some is =
    record { order = listed U rows (order_judged judged) some is.0; each = is.1 }

pub in_order : (U : List Task) (order : List ℕ) (rows : List SettingRow) (until : ℕ)
    (rs : List Release) (answer : Result Simulated CommandRefusal) → 0 < length rows
    → IsOrderOfRows false U rows order → SimulatesIn U order until rs answer
    → SimulatesRead U (Ok rows) (Ok (until, rs)) answer
in_order U order rows until rs (Ok (Ran run)) some gives said =
    let by = said.1 in (
      subst (λ (b : Bool). AreBoundsIn U (Ok rows) b run.overrun run.bounds.items) (sym said.0) (
        by.0,
        judged_by U rows by.0 some (
          subst (λ (o : List ℕ). IsOrderOfRows false U rows o)
              (sym by.1) gives,
          by.2,
        ),
        by.3,
      ),
      (until, rs, refl, said.2),
      said.3,
    )
in_order U order rows until rs (Err (refusal.Run fault)) some gives said =
    inr (order, until, rs, listed U rows order some gives, refl, said)
in_order U order rows until rs (Err refusal.OutOfMemory) some gives said = tt
in_order U order rows until rs _ some gives said = absurd said

-- the bounds of a run's order are of an order of the set
bounds_order : (U : List Task) (settings : Result (List SettingRow) ℕ) (listed : Bool)
    (overrun : Option (List ℕ)) (bounds : List TaskBound)
    → AreBoundsIn U settings listed overrun bounds → IsOrder U (tasks_of_bounds bounds)
bounds_order U settings false overrun bounds is =
    subst (λ (o : List ℕ). IsOrder U o) (sym (ap tasks_of_bounds is.2 ∙ same_tasks is.0))
    is.1.best.passing.each_once
bounds_order U (Ok (row ∷ rows)) true overrun bounds is =
    subst (λ (o : List ℕ). IsOrder U o) (sym (ap tasks_of_bounds is.2 ∙ tasks_same is.0))
    is.1.order.by_numbers.each_once
bounds_order U _ true overrun bounds is = absurd is.1.order

-- what comes of a set is a run in an order of it
pub in_order_ok : (U : List Task) (settings : Result (List SettingRow) ℕ)
    (list : Result (ℕ × List Release) ℕ) (answer : Result Simulated CommandRefusal)
    → SimulatesRead U settings list answer → IfOk answer (λ found. IsInOrder U found)
in_order_ok U settings list (Ok (Ran run)) said =
    bounds_order U settings run.is_listed run.overrun run.bounds.items said.0
in_order_ok U settings list _ said = tt
