-- A set beside itself: no task has a line.
use Rattle.std.proofs.Common.{◌≡◌, ◌∙◌, ◌<◌, ◌&&◌, ◌||◌, ℕ, zero, suc, Bool, true, false, nat_lt}
use Rattle.std.proofs.Common.{List, [], length, slice_get, Option, Some, None, refl, ap, arith}
use Rattle.std.specs.Cmp.{nat_eq_equiv}
use Rattle.std.specs.Cmp.Lexicographic.{pointwise}
use Rattle.std.proofs.lemmas.Bool.{le-ltb, lt-ltb}
use Rattle.std.proofs.lemmas.Slice.Eq.{slice_eq-Decides, bytes_eq-Decides}
use Rattle.task_sheet.proofs.Common.{Task, CriticalSection, task_at, AreDistinct, same_name}
use Rattle.task_sheet.specs.declared.node.Interrupt.{Interrupt}
use Rattle.task_sheet.specs.declared.node.TheConstants.{INTERRUPT_LIMIT}
use Rattle.task_sheet.specs.declared.prefer.Preference.{Preference}
use Rattle.task_sheet.specs.declared.prefer.Preference.TheVariants.{Weights, Deadline, Chains}
use Rattle.task_sheet.specs.declared.sheet.TheConstants.{SECTION_LIMIT}
use Rattle.task_sheet.specs.Indexes.{some_below}
use Rattle.task_sheet.specs.Overheads.{own_cost}
use Rattle.task_sheet.specs.Sheet.{same_bytes}
use Rattle.task_sheet.specs.SheetEquality.{same_outranks-Decides, same_node-Decides}
use Rattle.task_sheet.specs.SheetEquality.{same_interrupt-Decides}
use Rattle.task_sheet.proofs.TaskLaws.{place_of_name}
use Rattle.assignment.specs.declared.placing.Placing.{Placing}
use Rattle.diff.specs.Own.{own_at, own_len, own_jitter}
use Rattle.diff.specs.Keys.{is_changed, other_at, other_section, words_below}
use Rattle.owners.specs.Owners.{interrupt_words}
use Rattle.task_lines.specs.declared.owner.Owner.{Owner}
use Rattle.diff.specs.Whole.{came_at, came_line, gone_at, gone_line as gone_interrupt, interrupts_of}
use Rattle.diff.specs.Whole.{node_line, node_of, other_of, preference_line, same_some, whole_lines}
use Rattle.diff.specs.Seats.{seat_of}
use Rattle.diff.specs.ChangeLines.{change_lines, effect_of, effect_words, edit_from, edit_line, gone_line}
use Rattle.diff.specs.ChangeLines.{index_in, removed_line, rest_from, rest_line, seats_line}
use Rattle.diff.specs.declared.seats.Seat.{Seat}
use Rattle.diff.specs.declared.text.Effect.{Effect}
use Rattle.diff.specs.declared.text.Effect.TheVariants.{OnBound, OnLevel}

-- ---- a sheet says what it says
pub same_locks : (names : List (List ℕ)) → pointwise same_bytes names names ≡ true
same_locks names = (slice_eq-Decides bytes_eq-Decides names names _ refl).1 refl

same_at : (t : Task) (place : ℕ) (x : Option CriticalSection) → other_at t t place x x ≡ false
same_at t place None = refl
same_at t place (Some x) =
    let at = nat_eq_equiv.refl (own_at t place x) in
    let len = nat_eq_equiv.refl (own_len t x) in
    rw (same_locks x.locks, at, len) refl

pub none_below : (n : ℕ) (p : ℕ → Bool) → ((k : ℕ) → p k ≡ false) → some_below n p ≡ false
none_below zero p each = refl
none_below (suc n) p each = rw (none_below n p each, each n) refl

-- equal weights don't differ, whether they count or not
pub neither : (w : Bool) → ((w && false) || false) ≡ false
neither true = refl
neither false = refl

unchanged : (weighs : Bool) (t : Task) → is_changed weighs t t ≡ false
unfolding is_changed
unchanged weighs t =
    let weight = nat_eq_equiv.refl t.weight in
    let period = nat_eq_equiv.refl t.period in
    let deadline = nat_eq_equiv.refl t.deadline in
    let cost = nat_eq_equiv.refl (own_cost t) in
    let jitter = nat_eq_equiv.refl (own_jitter t) in
    let sections = none_below SECTION_LIMIT (other_section t t)
    (λ place. same_at t place (slice_get t.sections place)) in
    let outranks = (same_outranks-Decides t.outranks t.outranks).1 refl in
    rw (weight, period, deadline, cost, jitter, sections, outranks) (neither weighs)

-- ---- a task's name is its own
own_index : (U : List Task) → AreDistinct same_name U → (i : ℕ) → i < length U
    → index_in U U i ≡ Some i
own_index U apart i lt = rw (place_of_name U apart i lt, lt-ltb i (length U) lt) refl

-- ---- so no line is left
no_effect : (effect : Effect) (s : Seat) → effect_of effect s s ≡ None
no_effect OnBound s = let less : nat_lt s.bound s.bound ≡ false =
    le-ltb s.bound s.bound (omega arith) in rw less refl
no_effect OnLevel s = let level = nat_eq_equiv.refl s.level in let bound =
    nat_eq_equiv.refl s.bound in rw (level, bound) refl

no_seats : (effect : Effect) (owners : List Owner) (U : List Task) (task : ℕ) (o : Option Seat)
    → seats_line effect owners U task o o ≡ []
no_seats effect owners U task None = refl
no_seats effect owners U task (Some s) = ap (effect_words owners U task s s) (no_effect effect s)

no_lines : (n : ℕ) (line : ℕ → List ℕ) → ((k : ℕ) → k < n → line k ≡ []) → words_below n line ≡ []
no_lines zero line each = refl
no_lines (suc n) line each =
    rw (no_lines n line (λ k lt. each k (omega arith)), each n (omega arith)) refl

module _ (weighs : Bool) (owners : List Owner) (U : List Task) (P : Placing)
    (apart : AreDistinct same_name U) where
  removed : (k : ℕ) → k < length U → removed_line owners U P U k ≡ []
  removed k lt = ap (gone_line owners U P k) (own_index U apart k lt)

  edits : (k : ℕ) → k < length U → edit_line weighs owners U P U P k ≡ []
  edits k lt = ap (λ o. edit_from weighs owners U P o U P k) (own_index U apart k lt)
      ∙ rw (unchanged weighs (task_at U k)) refl

  rests : (effect : Effect) (k : ℕ) → k < length U → rest_line effect weighs owners U P U P k ≡ []
  rests effect k lt = ap (λ o. rest_from effect weighs owners U P o U P k) (own_index U apart k lt)
      ∙ rw (unchanged weighs (task_at U k)) (no_seats effect owners U k (seat_of U P k))

  pub unchanged_is_silent : change_lines weighs owners U P U P ≡ []
  unchanged_is_silent = rw (
    no_lines (length U) (removed_line owners U P U) removed,
    no_lines (length U)
        (edit_line weighs owners U P U P) edits,
    no_lines (length U) (rest_line OnBound weighs owners U P U P)
        (rests OnBound),
    no_lines (length U) (rest_line OnLevel weighs owners U P U P) (rests OnLevel),
  ) refl

-- ---- nor does anything else of a set
same_preferences : (by : Preference) → preference_line by by ≡ []
same_preferences Weights = refl
same_preferences Deadline = refl
same_preferences Chains = refl

same_nodes : (U : List Task) → node_line U U ≡ []
same_nodes U = let same = (same_node-Decides (node_of U) (node_of U)).1 refl in rw same refl

same_interrupts : (x : Option Interrupt) → same_some x x ≡ true
same_interrupts None = refl
same_interrupts (Some x) = (same_interrupt-Decides x x).1 refl

-- the interrupt at a place is found there by what a line calls it
found_here : (whose : List Owner) (U : List Task) (place : ℕ) (x : Interrupt)
    → slice_get (interrupts_of U) place ≡ Some x
    → other_of whose U place (interrupt_words whose place) ≡ Some x
found_here whose U place x at =
    let name = interrupt_words whose place in
    let same : same_bytes name name ≡ true = (bytes_eq-Decides name name).1 refl in
    rw (at, same) at

none_came : (whose : List Owner) (U : List Task) (place : ℕ) (x : Option Interrupt)
    → slice_get (interrupts_of U) place ≡ x
    → came_line whose U place (interrupt_words whose place) x ≡ []
none_came whose U place None at = refl
none_came whose U place (Some x) at =
    rw (found_here whose U place x at, same_interrupts (Some x)) refl

none_went : (whose : List Owner) (U : List Task) (place : ℕ) (x : Option Interrupt)
    → slice_get (interrupts_of U) place ≡ x
    → gone_interrupt x (other_of whose U place (interrupt_words whose place))
    (interrupt_words whose place) ≡ []
none_went whose U place None at = refl
none_went whose U place (Some x) at =
    ap (λ y. gone_interrupt (Some x) y (interrupt_words whose place))
    (found_here whose U place x at)

pub whole_is_silent : (by : Preference) (whose : List Owner) (U : List Task)
    → whole_lines by whose U by whose U ≡ []
whole_is_silent by whose U = rw (
  same_preferences by,
  same_nodes U,
  no_lines INTERRUPT_LIMIT (came_at whose U whose U)
      (λ place lt. none_came whose U place (slice_get (interrupts_of U) place) refl),
  no_lines INTERRUPT_LIMIT (gone_at whose U whose U)
      (λ place lt. none_went whose U place (slice_get (interrupts_of U) place) refl),
) refl
