-- The lines of a worst case: a comment that says whose it is and what it comes to, the settings of an order that isn't the
-- best one, and the release list.
use Rattle.std.specs.Prelude.{◌≡◌, ℕ, ◌-◌, List, [], ◌++◌, codes, Option, Some, None}
use Rattle.std.specs.Fmt.{decimal}
use Rattle.task_sheet.specs.Sheet.{Task, task_at}
use Rattle.lines.specs.Naming.{name_at}
use Rattle.assignment.specs.declared.placing.Placing.{Placing}
use Rattle.assignment.specs.declared.placing.Placing.TheVariants.{Best, Stuck}
use Rattle.ceiling_kernel.specs.Releases.{release_at}
use Rattle.ceiling_kernel.specs.Tick.{Node, node_in}
use Rattle.judge.specs.Judgements.{AllJudged, order_judged}
use Rattle.judge.specs.declared.judging.JudgedTask.{JudgedTask}
use Rattle.miss.specs.Going.{GoesOnUntil}
use Rattle.miss.specs.Shown.{IsCaseOf}
use Rattle.miss.specs.declared.worst.Run.{Run}
use Rattle.miss.specs.declared.reaching.Reached.{Reached}
use Rattle.miss.specs.declared.reaching.Reached.TheVariants as reached
use Rattle.miss.specs.declared.reaching.WorstRun.{WorstRun}
use Rattle.miss.specs.declared.shown.NoRun.{NoRun}
use Rattle.miss.specs.declared.shown.NoRun.TheVariants as why
use Rattle.miss.specs.declared.shown.Shown.{Shown}
use Rattle.miss.specs.declared.shown.Shown.TheVariants as shown
use Rattle.release_list.specs.Text.{list_lines}
use Rattle.settings.specs.Settings.{settings_from}
use Rattle.worst_lines.specs.Worst.{IsLookedAtIn, IsWorstOf, chosen}
use Rattle.worst_lines.specs.declared.worst.Worst.{Worst}
use Rattle.worst_lines.specs.declared.worst.Worst.TheVariants.{Comes, Fails}

-- how long after its arrival a job is done, or `-` where it isn't
abbrev pub response_words : ℕ → Option ℕ → List ℕ
response_words arrival (Some finish) = decimal (finish - arrival)
response_words arrival None = codes "-"

-- what the job of a worst case came to, beside its bound
abbrev pub comes_words : ℕ → WorstRun → List ℕ
comes_words bound run =
    response_words (release_at run.releases.items run.job).time run.finish ++ codes " of "
    ++ decimal bound

-- why it is no run in which the task misses its deadline
abbrev pub reason_words : List Task → NoRun → List ℕ
reason_words U (why.MustOutrank other) = codes "must-outrank " ++ name_at U other
reason_words U why.TooMany = codes "too-many-releases"
reason_words U (why.Below above) = codes "below " ++ name_at U above
reason_words U why.EndsInside = codes "ends-inside-a-section"
reason_words U why.WithinTick = codes "within-a-tick"
reason_words U why.WithinInterrupts = codes "within-interrupts"

-- the settings of an order, which a list gives where it isn't the set's best one
abbrev pub front_of : List Task → Placing → List ℕ → List ℕ
front_of U (Best places) order = []
front_of U (Stuck left) order = settings_from U 1 order

-- the line of comment
abbrev pub comment : List Task → ℕ → List ℕ → List ℕ
comment U task words = codes "# " ++ name_at U task ++ codes " " ++ words ++ codes "\n"

-- the list of a worst case; of one that is too long that of no releases
abbrev pub case_lines : Option Run → List ℕ
case_lines (Some run) = list_lines run.until run.releases.items
case_lines None = list_lines 0 []

-- what is printed of how the worst case of a task went; where it wasn't run to its end, why, and its list all the same
abbrev pub reached_lines : List Task → (front listed : List ℕ) → JudgedTask → ℕ → Reached → List ℕ
reached_lines U front listed j bound (reached.Ran run) =
    comment U j.task (comes_words bound run) ++ front ++ list_lines run.until run.releases.items
reached_lines U front listed j bound reached.TooMany =
    comment U j.task (codes "too-many-releases") ++ front ++ listed
reached_lines U front listed j bound reached.Stopped =
    comment U j.task (codes "below-a-miss") ++ front ++ listed

-- what is printed of a task that may not stand in its place, whose run goes on up to an end; a task that stands isn't such
-- a one
abbrev pub shown_lines : List Task → (front listed : List ℕ) → JudgedTask → (end : ℕ) → Shown → List ℕ
shown_lines U front listed j end (shown.Misses m) =
    comment U j.task (codes "misses " ++ decimal (task_at U j.task).deadline) ++ front
    ++ list_lines end m.releases.items
shown_lines U front listed j end (shown.NoRun reason) =
    comment U j.task (reason_words U reason) ++ front ++ listed
shown_lines U front listed j end shown.Stands = []

-- what is printed of a worst case
abbrev pub worst_lines : List Task → (front listed : List ℕ) → JudgedTask → (end : ℕ) → Worst → List ℕ
worst_lines U front listed j end (Comes bound reached) =
    reached_lines U front listed j bound reached
worst_lines U front listed j end (Fails shown) = shown_lines U front listed j end shown

-- a run in which a deadline is missed goes on up to this end
abbrev pub EndsAt : Node → Worst → (end : ℕ) → Type 0
EndsAt node (Fails (shown.Misses m)) end = GoesOnUntil node m end
EndsAt node worst end = Unit {0}

-- the text is what is printed of a task of an order, with this in front of the list
abbrev pub IsSaidOf : List Task → (front order : List ℕ) → JudgedTask → List ℕ → Type 0
IsSaidOf U front order j text =
    (worst : Worst) × (case : Option Run) × (end : ℕ) × IsWorstOf U order j worst
    × IsCaseOf (node_in U order) j.task case × EndsAt (node_in U order) worst end
    × (text ≡ worst_lines U front (case_lines case) j end worst)

-- a text is what is printed of the worst case of a task that was chosen, with this in front of the list; of a set without
-- tasks the list of no releases
abbrev pub AreLinesOf : List Task → (front order : List ℕ) → Option JudgedTask → List ℕ → Type 0
AreLinesOf U front order None text = text ≡ list_lines 0 []
AreLinesOf U front order (Some j) text = IsSaidOf U front order j text

-- the same of the task of an order that was judged whose worst case is shown
abbrev pub AreWorstLinesIn : List Task → (front : List ℕ) → List JudgedTask → (asked : Option ℕ) → List ℕ → Type 0
AreWorstLinesIn U front judged asked text =
    AreLinesOf U front (order_judged judged) (chosen U asked judged) text

-- the same in the order in which a set is looked at: its settings stand in front where it isn't the best one
pub record AreWorstLines (U : List Task) (placing : Placing) (asked : Option ℕ) (text : List ℕ)
    : Type 0 where
  pub judged : List JudgedTask
  pub order : IsLookedAtIn U placing asked (order_judged judged)
  pub each : AllJudged U judged
  pub lines : AreWorstLinesIn U (front_of U placing (order_judged judged)) judged asked text
