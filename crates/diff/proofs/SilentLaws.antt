-- Where no line is said, nothing has changed.
use Rattle.std.proofs.Common.{◌≡◌, ◌∙◌, ◌<◌, ℕ, zero, suc, inl, inr, Bool, true, false, nat_lt}
use Rattle.std.proofs.Common.{nat_eq, eqb, List, [], ◌∷◌, ◌++◌, length, Option, Some, None, codes}
use Rattle.std.proofs.Common.{refl, sym, ap, arith}
use Rattle.std.proofs.lemmas.Bool.{cases_Bool, eq-eqb, eqb-true, eqb-false, ltb-false}
use Rattle.std.specs.Option.{option_map}
use Rattle.task_sheet.specs.Sheet.{Task, task_at, same_node}
use Rattle.task_sheet.specs.declared.node.TheConstants.{INTERRUPT_LIMIT}
use Rattle.task_sheet.specs.declared.prefer.Preference.{Preference}
use Rattle.assignment.specs.declared.placing.Placing.{Placing}
use Rattle.diff.specs.Keys.{is_changed, keys_words, words_below}
use Rattle.diff.specs.Seats.{seat_of}
use Rattle.diff.specs.ChangeLines.{change_lines, changed_line, edit_from, edit_line, effect_of}
use Rattle.diff.specs.ChangeLines.{effect_words, gone_line, index_in, kept_line}
use Rattle.diff.specs.ChangeLines.{removed_line, rest_from, rest_line, seats_line, start_words}
use Rattle.diff.specs.Unchanged.{AreKept, IsKept, IsSameSeat, IsUnchanged}
use Rattle.task_sheet.specs.declared.node.Interrupt.{Interrupt}
use Rattle.owners.specs.Owners.{interrupt_words}
use Rattle.task_lines.specs.Teams.{team_words}
use Rattle.task_lines.specs.declared.owner.Owner.{Owner}
use Rattle.diff.specs.Whole.{both_weigh, came_at, came_line, gone_at, gone_line as gone_interrupt}
use Rattle.diff.specs.Whole.{interrupt_line, node_line, node_of, node_words, other_of}
use Rattle.diff.specs.Whole.{preference_line, same_preference, same_some, some_number_words}
use Rattle.diff.specs.Whole.{whole_lines}
use Rattle.task_sheet.specs.Prefer.{preference_word}
use Rattle.diff.specs.declared.seats.Seat.{Seat}
use Rattle.diff.specs.declared.text.Kind.{Kind}
use Rattle.diff.specs.declared.text.Kind.TheVariants.{Removed, Added, Changed, Slower, Faster}
use Rattle.diff.specs.declared.text.Kind.TheVariants.{Moved}
use Rattle.diff.specs.declared.text.Effect.TheVariants.{OnBound, OnLevel}

-- ---- nothing
pub no_front : (xs ys : List ℕ) → xs ++ ys ≡ [] → xs ≡ []
no_front [] ys e = refl
no_front (x ∷ xs) ys e = absurd (cc)

pub no_back : (xs ys : List ℕ) → xs ++ ys ≡ [] → ys ≡ []
no_back [] ys e = e
no_back (x ∷ xs) ys e = absurd (cc)

-- where four texts come to nothing, each does
four : (a b c d : List ℕ) → ((a ++ b) ++ c) ++ d ≡ []
    → (a ≡ []) × (b ≡ []) × (c ≡ []) × (d ≡ [])
four a b c d e =
    let abc : (a ++ b) ++ c ≡ [] = no_front ((a ++ b) ++ c) d e in
    let ab : a ++ b ≡ [] = no_front (a ++ b) c abc in
    (no_front a b ab, no_back a b ab, no_back (a ++ b) c abc, no_back ((a ++ b) ++ c) d e)

-- a line is something
pub some_line : (xs : List ℕ) → xs ++ codes "\n" ≡ [] → ⊥
some_line xs e = let never : codes "\n" ≡ [] = no_back xs (codes "\n") e in cc

no_line : (n : ℕ) (line : ℕ → List ℕ) → words_below n line ≡ [] → (k : ℕ) → k < n → line k ≡ []
no_line zero line none k lt = absurd (omega arith)
no_line (suc n) line none k lt =
    elim (cases_Bool (eqb k n)) [
      | inl same ↦ ap line (eqb-true k n same) ∙ no_back (words_below n line) (line n) none
      | inr other ↦ let apart = eqb-false k n other in
          no_line n line (no_front (words_below n line) (line n) none) k (omega (arith, apart))
    ]

-- ---- no task is gone
still_there : (owners : List Owner) (U : List Task) (P : Placing) (k : ℕ) (o : Option ℕ) → gone_line owners U P k o ≡ []
    → (after : ℕ) × (o ≡ Some after)
still_there owners U P k (Some after) none = (after, refl)
still_there owners U P k None none = absurd (some_line (start_words Removed U k (seat_of U P k) None ++ team_words owners U k) none)

-- ---- each new task was there before
was_there : (weighs : Bool) (owners : List Owner) (U : List Task) (P : Placing) (V : List Task) (Q : Placing) (k : ℕ)
    (o : Option ℕ) → edit_from weighs owners U P o V Q k ≡ [] → (before : ℕ) × (o ≡ Some before)
was_there weighs owners U P V Q k (Some before) none = (before, refl)
was_there weighs owners U P V Q k None none =
    absurd (some_line (start_words Added V k None (seat_of V Q k) ++ team_words owners V k) none)

says_same : (weighs : Bool) (U : List Task) (P : Placing) (V : List Task) (Q : Placing)
    (before k : ℕ) → changed_line weighs U P before V Q k ≡ []
    → is_changed weighs (task_at U before) (task_at V k) ≡ false
says_same weighs U P V Q before k none =
    elim (cases_Bool (is_changed weighs (task_at U before) (task_at V k))) [
      | inl changed ↦ absurd (some_line
          (start_words Changed V k (seat_of U P before) (seat_of V Q k)
          ++ keys_words weighs (task_at U before) (task_at V k))
          (rw changed at none))
      | inr kept ↦ kept
    ]

-- ---- nothing becomes of it
no_words : (owners : List Owner) (V : List Task) (k : ℕ) (old new : Seat) (o : Option Kind)
    → effect_words owners V k old new o ≡ [] → o ≡ None
no_words owners V k old new None none = refl
no_words owners V k old new (Some kind) none =
    absurd (some_line (start_words kind V k (Some old) (Some new) ++ team_words owners V k) none)

same_bound : (old new : Seat) → effect_of OnBound old new ≡ None → old.bound ≡ new.bound
same_bound old new none =
    elim (cases_Bool (nat_lt old.bound new.bound)) [
      | inl slower ↦ let never : Some Slower ≡ None = (rw slower at none) in absurd (cc)
      | inr not_slower ↦ elim (cases_Bool (nat_lt new.bound old.bound)) [
        | inl faster ↦ let never : Some Faster ≡ None = (rw (not_slower, faster) at none) in
            absurd (cc)
        | inr not_faster ↦ omega (
          arith,
          ltb-false old.bound new.bound not_slower,
          ltb-false
              new.bound old.bound not_faster,
        )
      ]
    ]

same_level : (old new : Seat) → old.bound ≡ new.bound → effect_of OnLevel old new ≡ None
    → old.level ≡ new.level
same_level old new bound none =
    elim (cases_Bool (nat_eq old.level new.level)) [
      | inl same ↦ eqb-true old.level new.level same
      | inr other ↦
          let is : nat_eq old.bound new.bound ≡ true = eq-eqb old.bound new.bound bound in
          let never : Some Moved ≡ None = (rw (is, other) at none) in absurd (cc)
    ]

same_seat : (owners : List Owner) (V : List Task) (k : ℕ) (old new : Option Seat) → seats_line OnBound owners V k old new ≡ []
    → seats_line OnLevel owners V k old new ≡ [] → IsSameSeat old new
same_seat owners V k None None bound level = tt
same_seat owners V k None (Some new) bound level = tt
same_seat owners V k (Some old) None bound level = tt
same_seat owners V k (Some old) (Some new) bound level =
    let at_bound = same_bound old new (no_words owners V k old new (effect_of OnBound old new) bound) in
    (same_level old new at_bound (no_words owners V k old new (effect_of OnLevel old new) level), at_bound)

-- ---- all
module _ (weighs : Bool) (owners : List Owner) (U : List Task) (P : Placing) (V : List Task) (Q : Placing)
    (silent : change_lines weighs owners U P V Q ≡ []) where
  abbrev removals : List ℕ
  removals = words_below (length U) (removed_line owners U P V)

  abbrev edits : List ℕ
  edits = words_below (length V) (edit_line weighs owners U P V Q)

  abbrev bounds : List ℕ
  bounds = words_below (length V) (rest_line OnBound weighs owners U P V Q)

  abbrev levels : List ℕ
  levels = words_below (length V) (rest_line OnLevel weighs owners U P V Q)

  none : (removals ≡ []) × (edits ≡ []) × (bounds ≡ []) × (levels ≡ [])
  none = four removals edits bounds levels silent

  kept_at : (k before : ℕ) → index_in U V k ≡ Some before → k < length V → IsKept weighs U P V Q k
  kept_at k before at lt =
      let edit : edit_from weighs owners U P (Some before) V Q k ≡ [] =
      ap (λ o. edit_from weighs owners U P o V Q k) (sym at)
      ∙ no_line (length V) (edit_line weighs owners U P V Q) none.1 k lt in
      let sheet : is_changed weighs (task_at U before) (task_at V k) ≡ false =
      says_same weighs U P V Q before k edit in
      let bound : kept_line OnBound weighs owners U P before V Q k ≡ [] =
      ap (λ o. rest_from OnBound weighs owners U P o V Q k) (sym at)
      ∙ no_line (length V) (rest_line OnBound weighs owners U P V Q) none.2 k lt in
      let level : kept_line OnLevel weighs owners U P before V Q k ≡ [] =
      ap (λ o. rest_from OnLevel weighs owners U P o V Q k) (sym at)
      ∙ no_line (length V) (rest_line OnLevel weighs owners U P V Q) none.3 k lt in
      record {
        before = before;
        index = at;
        sheet = sheet;
        seat = same_seat owners V k (seat_of U P before) (seat_of V Q k) (rw sheet at bound)
            (rw sheet at level);
      }

  pub none_is_gone : (k : ℕ) → k < length U → (after : ℕ) × (index_in V U k ≡ Some after)
  none_is_gone k lt = still_there owners U P k (index_in V U k)
      (no_line (length U) (removed_line owners U P V) none.0 k lt)

  pub each_is_kept : (k : ℕ) → k < length V → IsKept weighs U P V Q k
  each_is_kept k lt =
      let before = was_there weighs owners U P V Q k (index_in U V k)
      (no_line (length V) (edit_line weighs owners U P V Q) none.1 k lt) in
      kept_at k before.0 before.1 lt

-- ---- and of what no task has
one_preference : (old new : Preference) → preference_line old new ≡ []
    → same_preference old new ≡ true
one_preference old new silent =
    elim (cases_Bool (same_preference old new)) [
      | inl same ↦ same
      | inr other ↦ absurd (some_line
          (codes "prefer " ++ preference_word old ++ codes " " ++ preference_word new)
          (rw other at silent))
    ]

one_node : (U V : List Task) → node_line U V ≡ [] → same_node (node_of U) (node_of V) ≡ true
one_node U V silent =
    elim (cases_Bool (same_node (node_of U) (node_of V))) [
      | inl same ↦ same
      | inr other ↦ absurd (some_line (codes "node" ++ node_words (node_of U) (node_of V))
          (rw other at silent))
    ]

-- an interrupt that is another one has a line
some_numbers : (name : List ℕ) (x y : Option Interrupt) → interrupt_line name x y ≡ [] → ⊥
some_numbers name x y none =
    some_line
    (name
    ++ some_number_words (codes " period ") (option_map (λ i. i.period) x)
    (option_map (λ i. i.period) y)
    ++ some_number_words (codes " cost ") (option_map (λ i. i.cost) x)
    (option_map (λ i. i.cost) y))
    none

none_came : (whose : List Owner) (U : List Task) (place : ℕ) (name : List ℕ) (y : Interrupt)
    → came_line whose U place name (Some y) ≡ []
    → same_some (other_of whose U place name) (Some y) ≡ true
none_came whose U place name y none =
    let x = other_of whose U place name in
    elim (cases_Bool (same_some x (Some y))) [
      | inl same ↦ same
      | inr other ↦ absurd (some_numbers name x (Some y) (rw other at none))
    ]

none_went : (x : Interrupt) (other : Option Interrupt) (name : List ℕ)
    → gone_interrupt (Some x) other name ≡ [] → (y : Interrupt) × (other ≡ Some y)
none_went x (Some y) name none = (y, refl)
none_went x None name none = absurd (some_numbers name (Some x) None none)

module _ (was : List Owner) (U : List Task) (is : List Owner) (V : List Task) where
  pub are_kept : words_below INTERRUPT_LIMIT (came_at was U is V) ≡ []
      → words_below INTERRUPT_LIMIT (gone_at was U is V) ≡ [] → AreKept was U is V
  are_kept none_new none_old = record {
    came = λ place y lt at. none_came was U place (interrupt_words is place) y
        (ap (came_line was U place (interrupt_words is place)) (sym at)
        ∙ no_line INTERRUPT_LIMIT (came_at was U is V) none_new place lt);
    gone = λ place x lt at. none_went x (other_of is V place (interrupt_words was place))
        (interrupt_words was place)
        (ap (λ it. gone_interrupt it (other_of is V place (interrupt_words was place))
        (interrupt_words was place)) (sym at)
        ∙ no_line INTERRUPT_LIMIT (gone_at was U is V) none_old place lt);
  }

pub silent_is_unchanged : (old : Preference) (was : List Owner) (U : List Task) (P : Placing)
    (new : Preference) (is : List Owner) (V : List Task) (Q : Placing) (owners : List Owner)
    → whole_lines old was U new is V ≡ []
    → change_lines (both_weigh old new) owners U P V Q ≡ [] → IsUnchanged old was U P new is V Q
silent_is_unchanged old was U P new is V Q owners whole silent =
    let preference = preference_line old new in
    let node = node_line U V in
    let came = words_below INTERRUPT_LIMIT (came_at was U is V) in
    let gone = words_below INTERRUPT_LIMIT (gone_at was U is V) in
    let none = four preference node came gone whole in
    record {
      preference = one_preference old new none.0;
      node = one_node U V none.1;
      interrupts = are_kept was U is V none.2 none.3;
      none_gone = none_is_gone (both_weigh old new) owners U P V Q silent;
      all_kept = each_is_kept (both_weigh old new) owners U P V Q silent;
    }
