-- Where the rows of two runs stand.
use Rattle.std.proofs.Common.{◌≡◌, ◌∙◌, ℕ, ◌+◌, ◌*◌, ◌<◌, ◌≤◌, inl, inr, sym, ap, subst, refl}
use Rattle.std.proofs.lemmas.Grind.{common_steps}
use Rattle.std.proofs.Common.{arith, Bool, true, false, List, [], ◌∷◌, length, length-append, get_or, Option, None}
use Rattle.std.specs.Prelude.{Some, All, map, flat_map, ◌==◌, position}
use Rattle.std.specs.List.{filter, position_or_len}
use Rattle.std.proofs.lemmas.Bool.{cases_Bool, lt-ltb, eqb-true, eqb-false, eq-eqb, ne_eqb}
use Rattle.std.proofs.lemmas.List.{get_or_append_left, get_or-map, length-map}
use Rattle.std.proofs.lemmas.List.Elements.{All-get_or}
use Rattle.std.proofs.lemmas.List.Quantifiers.{position-Some}
use Rattle.std.proofs.lemmas.List.Sums.{position_or_len_is}
use Rattle.task_sheet.specs.Sheet.{same_bytes}
use Rattle.task_sheet.proofs.NameLaws.{same_is}
use Rattle.task_sheet.specs.declared.set.TheConstants.{TASK_LIMIT}
use Rattle.frames.specs.declared.places.TheConstants.{FREE}
use Rattle.frames.specs.declared.rows.Spot.{Spot}
use Rattle.frames.specs.declared.rows.TaskRow.{TaskRow}
use Rattle.frames.specs.PictureRows.{name_in, no_row, place_in, row_named, spot_at, spot_named, spot_of}
use Rattle.frames.specs.Places.{below_of, is_alone, lower_places, rank_of, twin_of, upper_places}
use Rattle.picture.specs.Laws.{AreDistinct}

-- ---- the first place that passes
first_is : {X : Type 0} (p : X → Bool) (xs : List X) (i : ℕ) (d : X) → i < length xs
    → p (get_or xs i d) ≡ true → ((k : ℕ) → k < i → p (get_or xs k d) ≡ false)
    → position p xs ≡ Some i
first_is p xs i d lt is fails =
    let at : position_or_len p xs ≡ i =
    position_or_len_is p xs i d (omega (arith, lt)) fails (λ _. is) in
    rw (at, lt-ltb i (length xs) lt) refl

-- ---- a spot
spot_at_parts : (rank : ℕ) (p : Option ℕ) (s : Spot) → spot_at rank p ≡ Some s
    → (rank ≡ s.rank) × (p ≡ Some s.k)
spot_at_parts rank None s is = grind (arith, is)
spot_at_parts rank (Some k) s is = grind (arith, is)

spot_of_parts : (shown : List ℕ) (o : Option ℕ) (s : Spot) → spot_of shown o ≡ Some s
    → (o ≡ Some s.rank) × (place_in shown s.rank ≡ Some s.k)
spot_of_parts shown None s is = grind (arith, is)
spot_of_parts shown (Some rank) s is =
    let both = spot_at_parts rank (place_in shown rank) s is in
    (ap (λ (r : ℕ). Some r) both.0, subst (λ (r : ℕ). place_in shown r ≡ Some s.k) both.0 both.1)

-- its rank, and its place
pub spot_parts : (rows : List TaskRow) (shown name : List ℕ) (s : Spot)
    → spot_named rows shown name ≡ Some s
    → (row_named rows name ≡ Some s.rank) × (place_in shown s.rank ≡ Some s.k)
spot_parts rows shown name s is = spot_of_parts shown (row_named rows name) s is

-- from these
pub spot_from : (rows : List TaskRow) (shown name : List ℕ) (rank k : ℕ)
    → row_named rows name ≡ Some rank → place_in shown rank ≡ Some k
    → spot_named rows shown name ≡ Some (record { rank = rank; k = k })
spot_from rows shown name rank k row place = rw (row, place) refl

-- ---- the row of a name
named : (rows : List TaskRow) (name : List ℕ) (rank : ℕ) → row_named rows name ≡ Some rank
    → (rank < length rows) × (name_in rows rank ≡ name)
named rows name rank is =
    let first = position-Some (λ (r : TaskRow). same_bytes r.sheet.name name) rows rank no_row is in
    (first.0, same_is (name_in rows rank) name first.1)

-- is no free place
pub row_within : (rows : List TaskRow) (name : List ℕ) (rank : ℕ) → row_named rows name ≡ Some rank
    → length rows ≤ TASK_LIMIT → rank < FREE
row_within rows name rank is few = omega (arith, (named rows name rank is).0, few)

-- ---- two places for each
abbrev first_at : (rank : ℕ) → List ℕ → ℕ
first_at rank ranks = position_or_len (λ r. r == rank) ranks

abbrev lower_two : List ℕ → List ℕ
lower_two ranks = flat_map (λ rank. FREE ∷ rank ∷ []) ranks

abbrev upper_two : List ℕ → List ℕ
upper_two ranks = flat_map (λ rank. rank ∷ FREE ∷ []) ranks

found : (rank k : ℕ) (ranks : List ℕ) → place_in ranks rank ≡ Some k
    → (first_at rank ranks ≡ k) × (k < length ranks)
found rank k ranks is = (grind (arith, common_steps, is), grind (arith, common_steps, is))

free_isn't : (rank : ℕ) → rank < FREE → (FREE == rank) ≡ false
free_isn't rank within = ne_eqb FREE rank (λ same. omega (arith, same, within))

lower_length : (ranks : List ℕ) → length (lower_two ranks) ≡ 2 * length ranks
lower_length [] = refl
lower_length (r ∷ ranks) = omega (arith, lower_length ranks)

upper_length : (ranks : List ℕ) → length (upper_two ranks) ≡ 2 * length ranks
upper_length [] = refl
upper_length (r ∷ ranks) = omega (arith, upper_length ranks)

lower_first : (rank : ℕ) (ranks : List ℕ) → rank < FREE → first_at rank ranks < length ranks
    → first_at rank (lower_two ranks) ≡ 2 * first_at rank ranks + 1
lower_first rank [] within lt = absurd (omega (arith, lt))
lower_first rank (r ∷ ranks) within lt = elim (cases_Bool (r == rank)) [
  | inl so ↦ rw (free_isn't rank within, so) refl
  | inr not_so ↦
      let less : first_at rank ranks < length ranks = omega (arith, rw not_so at lt) in
      rw (free_isn't rank within, not_so)
      (omega (arith, lower_first rank ranks within less))
]

upper_first : (rank : ℕ) (ranks : List ℕ) → rank < FREE → first_at rank ranks < length ranks
    → first_at rank (upper_two ranks) ≡ 2 * first_at rank ranks
upper_first rank [] within lt = absurd (omega (arith, lt))
upper_first rank (r ∷ ranks) within lt = elim (cases_Bool (r == rank)) [
  | inl so ↦ rw so refl
  | inr not_so ↦
      let less : first_at rank ranks < length ranks = omega (arith, rw not_so at lt) in
      rw (not_so, free_isn't rank within)
      (omega (arith, upper_first rank ranks within less))
]

-- the lower one
pub in_lower : (ranks : List ℕ) (rank k : ℕ) → rank < FREE → place_in ranks rank ≡ Some k
    → place_in (lower_places ranks) rank ≡ Some (2 * k + 2)
in_lower ranks rank k within is =
    let is_at = found rank k ranks is in
    let lt : first_at rank ranks < length ranks = omega (arith, is_at.0, is_at.1) in
    let first : first_at rank (lower_two ranks) ≡ 2 * k + 1 =
    omega (arith, lower_first rank ranks within lt, is_at.0) in
    let less : 1 + (2 * k + 1) < length (lower_places ranks) =
    omega (arith, lower_length ranks, is_at.1) in
    rw (
      free_isn't rank within,
      first,
      lt-ltb (1 + (2 * k + 1)) (length (lower_places ranks)) less,
    ) (ap (λ (n : ℕ). Some n) (omega arith))

-- the upper one
pub in_upper : (ranks : List ℕ) (rank k : ℕ) → rank < FREE → place_in ranks rank ≡ Some k
    → place_in (upper_places ranks) rank ≡ Some (2 * k + 1)
in_upper ranks rank k within is =
    let is_at = found rank k ranks is in
    let lt : first_at rank ranks < length ranks = omega (arith, is_at.0, is_at.1) in
    let first : first_at rank (upper_two ranks) ≡ 2 * k =
    omega (arith, upper_first rank ranks within lt, is_at.0) in
    let less : 1 + 2 * k < length (upper_places ranks) =
    omega (arith, upper_length ranks, is_at.1) in
    rw (free_isn't rank within, first, lt-ltb (1 + 2 * k) (length (upper_places ranks)) less)
    (ap (λ (n : ℕ). Some n) (omega arith))

-- ---- the row of the same task
same_rank : (new : List TaskRow) (new_shown name : List ℕ) (t : ℕ) (o : Option Spot)
    → o ≡ spot_named new new_shown name → t < FREE → rank_of o ≡ t → row_named new name ≡ Some t
same_rank new new_shown name t None is within rank = absurd (omega (arith, rank, within))
same_rank new new_shown name t (Some s) is within rank =
    subst (λ (r : ℕ). row_named new name ≡ Some r) rank
    (spot_parts new new_shown name s (sym is)).0

-- another name's row is another
one_name : (new : List TaskRow) (name other : List ℕ) (t : ℕ)
    → row_named new name ≡ Some t → row_named new other ≡ Some t → name ≡ other
one_name new name other t is also = sym (named new name t is).1 ∙ (named new other t also).1

-- where it stands among those below
pub in_below : (old new : List TaskRow) (old_shown new_shown name : List ℕ) (s t : Spot)
    → AreDistinct old → length new ≤ TASK_LIMIT → All (λ rank. rank < length old) old_shown
    → spot_named old old_shown name ≡ Some s → spot_named new new_shown name ≡ Some t
    → place_in (below_of old old_shown new new_shown) t.rank ≡ Some s.k
in_below old new old_shown new_shown name s t distinct few within is other =
    let above = spot_parts old old_shown name s is in
    let below = spot_parts new new_shown name t other in
    let mine = named old name s.rank above.0 in
    let free = row_within new name t.rank below.0 few in
    let twin = twin_of old new new_shown in
    let alone = filter (is_alone new old old_shown) new_shown in
    let ranks = below_of old old_shown new new_shown in
    let first = position-Some (λ r. r == s.rank) old_shown s.k 0 above.1 in
    let at : (k : ℕ) → k < length old_shown → get_or ranks k 0 ≡ twin (get_or old_shown k 0) =
    λ k lt. get_or_append_left (map twin old_shown) alone 0 k
    (omega (arith, lt, length-map old_shown twin)) ∙ get_or-map twin old_shown k 0 0 lt in
    let long : length old_shown ≤ length ranks =
    omega (arith, length-map old_shown twin, length-append (map twin old_shown) alone) in
    let here : twin (get_or old_shown s.k 0) ≡ t.rank =
    ap twin (eqb-true (get_or old_shown s.k 0) s.rank first.1)
    ∙ ap (λ (n : List ℕ). rank_of (spot_named new new_shown n)) mine.1
    ∙ ap rank_of other in
    first_is (λ r. r == t.rank) ranks s.k 0 (omega (arith, first.0, long))
    (eq-eqb (get_or ranks s.k 0) t.rank (at s.k first.0 ∙ here))
    (λ k less. ne_eqb (get_or ranks k 0) t.rank (λ same.
    let lt : k < length old_shown = omega (arith, less, first.0) in
    let rank = get_or old_shown k 0 in
    let row = same_rank new new_shown (name_in old rank) t.rank
    (spot_named new new_shown (name_in old rank)) refl free (sym (at k lt) ∙ same) in
    let names = one_name new (name_in old rank) name t.rank row below.0 ∙ sym mine.1 in
    let equal : rank ≡ s.rank = distinct rank s.rank
    (All-get_or (λ r. r < length old) old_shown k 0 lt within) mine.0 names in
    eqb-false rank s.rank (first.2 k less) equal))
