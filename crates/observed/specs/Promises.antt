-- What a set promises of its tasks in an order, the lowest level first.
use Rattle.std.specs.Prelude.{ℕ, ◌+◌, List, [], ◌∷◌, slice_index_or}
use Rattle.task_sheet.specs.Sheet.{Task, task_at}
use Rattle.task_sheet.specs.Indexes.{among}
use Rattle.task_sheet.specs.Demand.{blocking_of}
use Rattle.assignment.specs.Places.{PlaceData}
use Rattle.assignment.specs.Placings.{tasks_of_places}
use Rattle.observed.specs.declared.promises.Promise.{Promise}

-- stands past the end of a list of promises
abbrev pub no_promise : Promise
no_promise =
    record {
      name = [];
      task = 0;
      number = 0;
      cost = 0;
      period = 0;
      jitter = 0;
      blocking = 0;
      bound = 0;
    }

-- what the sheet of a task says, with its index, the number of its thread, its blocking and its bound
abbrev pub promised : Task → (task number blocking bound : ℕ) → Promise
promised t task number blocking bound =
    record {
      name = t.name;
      task = task;
      number = number;
      cost = t.cost;
      period = t.period;
      jitter = t.jitter;
      blocking = blocking;
      bound = bound;
    }

-- the task of a place, below these: its blocking there, and as its bound the response
abbrev pub promise_of : List Task → (number : ℕ) → PlaceData → List PlaceData → Promise
promise_of U number place above =
    promised (task_at U place.task) place.task number
    (blocking_of U place.task (among (tasks_of_places above))) place.response

-- the number of the thread at a level, counted from 0; past their end 0
abbrev pub number_at : (numbers : List ℕ) → ℕ → ℕ
number_at numbers level = slice_index_or numbers level 0

-- each place of an order, of which the first has a level
abbrev pub promises_from : List Task → (numbers : List ℕ) → ℕ → List PlaceData → List Promise
promises_from U numbers level [] = []
promises_from U numbers level (place ∷ above) =
    promise_of U (number_at numbers level) place above ∷ promises_from U numbers (level + 1) above

-- each place of an order whose threads have these numbers
abbrev pub promises_of : List Task → (numbers : List ℕ) → List PlaceData → List Promise
promises_of U numbers places = promises_from U numbers 0 places

-- the levels from one on, which `desk settings` gives threads as their numbers
abbrev pub levels_from : ℕ → List PlaceData → List ℕ
levels_from level [] = []
levels_from level (place ∷ above) = level ∷ levels_from (level + 1) above

-- the same, where the threads have the numbers of their levels, counted from 1
abbrev pub promises_by_level : List Task → List PlaceData → List Promise
promises_by_level U places = promises_of U (levels_from 1 places) places
