-- The lines of a change from one set to another.
use Rattle.std.specs.Prelude.{ℕ, nat_lt, nat_eq, Bool, ◌&&◌, not, List, [], ◌++◌, length, codes, position, Option, Some, None, option_map, if◌then◌else◌}
use Rattle.task_sheet.specs.Sheet.{Task, same_bytes, task_at}
use Rattle.lines.specs.Naming.{name_at}
use Rattle.task_lines.specs.Teams.{team_words}
use Rattle.task_lines.specs.declared.owner.Owner.{Owner}
use Rattle.assignment.specs.declared.placing.Placing.{Placing}
use Rattle.diff.specs.Keys.{is_changed, keys_words, pair_words, words_below}
use Rattle.diff.specs.Seats.{seat_of}
use Rattle.diff.specs.declared.seats.Seat.{Seat}
use Rattle.diff.specs.declared.text.Kind.{Kind}
use Rattle.diff.specs.declared.text.Kind.TheVariants.{Removed, Added, Changed, Slower, Faster, Moved}
use Rattle.diff.specs.declared.text.Effect.{Effect}
use Rattle.diff.specs.declared.text.Effect.TheVariants.{OnBound, OnLevel}

-- ---- a line
-- the first word of a line
abbrev pub word_of : Kind → List ℕ
word_of Removed = codes "removed"
word_of Added = codes "added"
word_of Changed = codes "changed"
word_of Slower = codes "slower"
word_of Faster = codes "faster"
word_of Moved = codes "moved"

-- the seats before and after
abbrev pub seats_words : Option Seat → Option Seat → List ℕ
seats_words old new =
    pair_words (codes " level ") (option_map (λ s. s.level) old) (option_map (λ s. s.level) new)
    ++ pair_words (codes " bound ") (option_map (λ s. s.bound) old) (option_map (λ s. s.bound) new)
    ++ pair_words (codes " slack ") (option_map (λ s. s.slack) old) (option_map (λ s. s.slack) new)

-- what becomes of a task, its name, and its seats before and after
abbrev pub start_words : Kind → List Task → ℕ → Option Seat → Option Seat → List ℕ
start_words kind U task old new =
    word_of kind ++ codes " " ++ name_at U task ++ seats_words old new

-- its line, with its team
abbrev pub owned_line : Kind → List Owner → List Task → ℕ → Option Seat → Option Seat → List ℕ
owned_line kind owners U task old new =
    start_words kind U task old new ++ team_words owners U task ++ codes "\n"

-- ---- each task
-- the index of a set's task in another set, by its name
abbrev pub index_in : List Task → List Task → ℕ → Option ℕ
index_in other U task = position (λ s. same_bytes s.name (task_at U task).name) other

-- the line of a task that is gone
abbrev pub gone_line : List Owner → List Task → Placing → ℕ → Option ℕ → List ℕ
gone_line owners U P task (Some after) = []
gone_line owners U P task None = owned_line Removed owners U task (seat_of U P task) None

-- the same, where no task of the new set has its name
abbrev pub removed_line : List Owner → List Task → Placing → List Task → ℕ → List ℕ
removed_line owners U P V task = gone_line owners U P task (index_in V U task)

-- the line of a task that was not there before
abbrev pub added_line : List Owner → List Task → Placing → ℕ → List ℕ
added_line owners V Q task = owned_line Added owners V task None (seat_of V Q task)

-- the line of a task that was there before, where its sheet says something else: each word behind `keys` is of a key
abbrev pub changed_line : Bool → List Task → Placing → ℕ → List Task → Placing → ℕ → List ℕ
changed_line weighs U P before V Q task =
    if is_changed weighs (task_at U before) (task_at V task) then
    start_words Changed V task (seat_of U P before) (seat_of V Q task)
    ++ keys_words weighs (task_at U before) (task_at V task) ++ codes "\n"
    else []

-- what becomes of the bound of a task whose sheet says the same, or of its level where the bound stays, where anything
-- does
abbrev pub effect_of : Effect → Seat → Seat → Option Kind
effect_of OnBound old new =
    if nat_lt old.bound new.bound then Some Slower
    else if nat_lt new.bound old.bound then Some Faster
    else None
effect_of OnLevel old new =
    if nat_eq old.bound new.bound && not (nat_eq old.level new.level) then Some Moved else None

-- its line
abbrev pub effect_words : List Owner → List Task → ℕ → Seat → Seat → Option Kind → List ℕ
effect_words owners V task old new None = []
effect_words owners V task old new (Some kind) = owned_line kind owners V task (Some old) (Some new)

abbrev pub effect_line : Effect → List Owner → List Task → ℕ → Seat → Seat → List ℕ
effect_line effect owners V task old new =
    effect_words owners V task old new (effect_of effect old new)

-- the same, where some order passes before and after
abbrev pub seats_line : Effect → List Owner → List Task → ℕ → Option Seat → Option Seat → List ℕ
seats_line effect owners V task (Some old) (Some new) = effect_line effect owners V task old new
seats_line effect owners V task _ _ = []

-- the line of a task that was there before, where its sheet says the same
abbrev pub kept_line :
    Effect → Bool → List Owner → List Task → Placing → ℕ → List Task → Placing → ℕ → List ℕ
kept_line effect weighs owners U P before V Q task =
    if is_changed weighs (task_at U before) (task_at V task) then []
    else seats_line effect owners V task (seat_of U P before) (seat_of V Q task)

-- what was done to a task, which had an index before or none
abbrev pub edit_from :
    Bool → List Owner → List Task → Placing → Option ℕ → List Task → Placing → ℕ → List ℕ
edit_from weighs owners U P None V Q task = added_line owners V Q task
edit_from weighs owners U P (Some before) V Q task = changed_line weighs U P before V Q task

abbrev pub edit_line : Bool → List Owner → List Task → Placing → List Task → Placing → ℕ → List ℕ
edit_line weighs owners U P V Q task = edit_from weighs owners U P (index_in U V task) V Q task

-- what comes of a change to a task that it leaves as it was
abbrev pub rest_from :
    Effect → Bool → List Owner → List Task → Placing → Option ℕ → List Task → Placing → ℕ → List ℕ
rest_from effect weighs owners U P None V Q task = []
rest_from effect weighs owners U P (Some before) V Q task =
    kept_line effect weighs owners U P before V Q task

abbrev pub rest_line :
    Effect → Bool → List Owner → List Task → Placing → List Task → Placing → ℕ → List ℕ
rest_line effect weighs owners U P V Q task =
    rest_from effect weighs owners U P (index_in U V task) V Q task

-- ---- all
-- the tasks that are gone; those that came, and those whose sheets say something else; then, of the others, those whose
-- bounds are other ones, and last those whose levels alone are: each by rank
abbrev pub change_lines : Bool → List Owner → List Task → Placing → List Task → Placing → List ℕ
change_lines weighs owners U P V Q =
    words_below (length U) (removed_line owners U P V)
    ++ words_below (length V) (edit_line weighs owners U P V Q)
    ++ words_below (length V) (rest_line OnBound weighs owners U P V Q)
    ++ words_below (length V) (rest_line OnLevel weighs owners U P V Q)
