-- What is printed of a set's chains in an order that settings give.
use Rattle.std.specs.Prelude.{◌≡◌, ℕ, ◌&&◌, Bool, List, [], map, Option, Some, None, if◌then◌else◌, string_bytes}
use Rattle.task_sheet.specs.Sheet.{Task}
use Rattle.judge.specs.Judgements.{all_meet}
use Rattle.judge.specs.declared.judging.JudgedTask.{JudgedTask}
use Rattle.judge.specs.declared.judging.Judgement.{Judgement}
use Rattle.judge.specs.declared.judging.Judgement.TheVariants.{Meets, Misses, Below}
use Rattle.chains.specs.declared.bounds.Level.{Level}
use Rattle.chain_tables.specs.Chains.{ChainData}
use Rattle.chain_lines.specs.ChainLines.{all_met, chains_said}
use Rattle.chain_lines.specs.declared.text.Telling.{Telling}
use Rattle.two_input_commands.specs.declared.chained.ChainsTold.{ChainsTold}
use Rattle.answering.specs.declared.status.Status.{Status}
use Rattle.answering.specs.declared.status.Status.TheVariants as status

-- ---- an order that was judged
-- the response of a task that meets its deadline
abbrev pub response_judged : Judgement → Option ℕ
response_judged (Meets response) = Some response
response_judged (Misses needs) = None
response_judged (Below other) = None

-- the level of a task that was judged
abbrev pub level_judged : JudgedTask → Level
level_judged j = record { task = j.task; response = response_judged j.judgement }

-- the levels of an order
abbrev pub levels_judged : List JudgedTask → List Level
levels_judged judged = map level_judged judged

-- ---- what is told
-- these are the lines of chains in that order, and whether the bound of each is within its limit
pub record AreTold (telling : Telling) (U : List Task) (chains : List ChainData)
    (judged : List JudgedTask) (told : ChainsTold) : Type 0 where
  pub text : string_bytes told.text ≡ chains_said telling U (levels_judged judged) [] chains
  pub met : told.are_met ≡ all_met U (levels_judged judged) chains

-- the exit status of an order and the chains in it
abbrev pub chained_status : List JudgedTask → (are_met : Bool) → Status
chained_status judged are_met = if all_meet judged && are_met then status.Done else status.Infeasible
