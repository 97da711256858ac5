-- What of a change no task has: what a set prefers, what its node takes, and its interrupts.
use Rattle.std.specs.Prelude.{ℕ, zero, suc, Bool, true, false, ◌&&◌, not, nat_eq, List, [], ◌∷◌, ◌++◌, slice_get, codes, Option, Some, None, option_and_then, is_some, if◌then◌else◌}
use Rattle.std.specs.Option.{option_map, option_or}
use Rattle.task_sheet.specs.declared.node.Node.{Node}
use Rattle.task_sheet.specs.declared.node.Interrupt.{Interrupt}
use Rattle.task_sheet.specs.declared.node.TheConstants.{INTERRUPT_LIMIT}
use Rattle.task_sheet.specs.declared.prefer.Preference.{Preference}
use Rattle.task_sheet.specs.declared.prefer.Preference.TheVariants.{Weights, Deadline, Chains}
use Rattle.task_sheet.specs.Prefer.{preference_word}
use Rattle.task_sheet.specs.Sheet.{Task, task_at, same_bytes, same_node, same_interrupt}
use Rattle.owners.specs.Owners.{interrupt_words}
use Rattle.task_lines.specs.declared.owner.Owner.{Owner}
use Rattle.diff.specs.Keys.{number_words, pair_words, words_below}

-- ---- the preference
abbrev pub same_preference : Preference → Preference → Bool
same_preference Weights Weights = true
same_preference Deadline Deadline = true
same_preference Chains Chains = true
same_preference _ _ = false

-- by what a set was taken, and by what the new one is, where that is another
abbrev pub preference_line : Preference → Preference → List ℕ
preference_line old new =
    if same_preference old new then []
    else codes "prefer " ++ preference_word old ++ codes " " ++ preference_word new ++ codes "\n"

-- weights count: they are the sheets' own, before and after
abbrev pub both_weigh : Preference → Preference → Bool
both_weigh Weights Weights = true
both_weigh _ _ = false

-- ---- the node
-- what a set's node takes: that of a document is each task's; nothing of a set without tasks
abbrev pub node_of : List Task → Node
node_of U = (task_at U 0).node

-- the numbers in which two nodes differ
abbrev pub node_words : Node → Node → List ℕ
node_words x y =
    number_words (codes "job") (not (nat_eq x.job y.job)) x.job y.job
    ++ number_words (codes "lock") (not (nat_eq x.lock y.lock)) x.lock y.lock
    ++ number_words (codes "release") (not (nat_eq x.release y.release)) x.release y.release
    ++ number_words (codes "late") (not (nat_eq x.late y.late)) x.late y.late

-- their line, where there is one
abbrev pub node_line : List Task → List Task → List ℕ
node_line U V =
    if same_node (node_of U) (node_of V) then []
    else codes "node" ++ node_words (node_of U) (node_of V) ++ codes "\n"

-- ---- the interrupts
-- these, where there are some, and else others
abbrev pub some_of : List Interrupt → List Interrupt → List Interrupt
some_of [] others = others
some_of (x ∷ xs) others = x ∷ xs

-- those of a set, as written: those of documents are on the account of one task; none of a set without tasks
abbrev pub interrupts_of : List Task → List Interrupt
interrupts_of [] = []
interrupts_of (t ∷ U) = some_of t.interrupts (interrupts_of U)

-- two interrupts are the same
abbrev pub same_some : Option Interrupt → Option Interrupt → Bool
same_some None None = true
same_some None (Some y) = false
same_some (Some x) None = false
same_some (Some x) (Some y) = same_interrupt x y

abbrev pub same_number : Option ℕ → Option ℕ → Bool
same_number None None = true
same_number None (Some n) = false
same_number (Some m) None = false
same_number (Some m) (Some n) = nat_eq m n

-- a number of theirs, where it is another one
abbrev pub some_number_words : List ℕ → Option ℕ → Option ℕ → List ℕ
some_number_words word old new =
    if same_number old new then [] else pair_words word old new

-- what of an interrupt that a line calls so is another
abbrev pub interrupt_line : (name : List ℕ) → Option Interrupt → Option Interrupt → List ℕ
interrupt_line name x y =
    name
    ++ some_number_words (codes " period ") (option_map (λ i. i.period) x) (option_map (λ i. i.period) y)
    ++ some_number_words (codes " cost ") (option_map (λ i. i.cost) x) (option_map (λ i. i.cost) y)
    ++ codes "\n"

-- a set has an interrupt at a place, and a line calls it so: by its team and its place there
abbrev pub is_called : List Owner → List Task → (name : List ℕ) → ℕ → Bool
is_called owners U name place =
    is_some (slice_get (interrupts_of U) place)
    && same_bytes (interrupt_words owners place) name

-- the first number below n that passes, where one does
abbrev pub first_below : ℕ → (ℕ → Bool) → Option ℕ
first_below zero test = None
first_below (suc n) test = option_or (first_below n test) (if test n then Some n else None)

-- where a set has the interrupt that a line calls so, which another set has at a place: there, or else at the first place
abbrev pub place_called : List Owner → List Task → ℕ → (name : List ℕ) → Option ℕ
place_called owners U place name =
    if is_called owners U name place then Some place
    else first_below INTERRUPT_LIMIT (is_called owners U name)

-- that interrupt, where there is one
abbrev pub other_of : List Owner → List Task → ℕ → (name : List ℕ) → Option Interrupt
other_of owners U place name =
    option_and_then (slice_get (interrupts_of U)) (place_called owners U place name)

-- the line of an interrupt that came, or that is another now
abbrev pub came_line : List Owner → List Task → ℕ → (name : List ℕ) → Option Interrupt → List ℕ
came_line owners U place name None = []
came_line owners U place name (Some y) =
    if same_some (other_of owners U place name) (Some y) then []
    else interrupt_line name (other_of owners U place name) (Some y)

-- the line of one that is gone
abbrev pub gone_line : Option Interrupt → (other : Option Interrupt) → (name : List ℕ) → List ℕ
gone_line None other name = []
gone_line (Some x) (Some y) name = []
gone_line (Some x) None name = interrupt_line name (Some x) None

-- the same of the new set's at a place, and of the old set's
abbrev pub came_at : List Owner → List Task → List Owner → List Task → ℕ → List ℕ
came_at old U new V place =
    came_line old U place (interrupt_words new place) (slice_get (interrupts_of V) place)

abbrev pub gone_at : List Owner → List Task → List Owner → List Task → ℕ → List ℕ
gone_at old U new V place =
    gone_line (slice_get (interrupts_of U) place)
    (other_of new V place (interrupt_words old place)) (interrupt_words old place)

-- ---- all
-- the lines of a change that no task has: of the preference, the node, the interrupts that came or are others, and those that
-- are gone
abbrev pub whole_lines : Preference → List Owner → List Task → Preference → List Owner → List Task → List ℕ
whole_lines old was U new is V =
    preference_line old new ++ node_line U V
    ++ words_below INTERRUPT_LIMIT (came_at was U is V)
    ++ words_below INTERRUPT_LIMIT (gone_at was U is V)
