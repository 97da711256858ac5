-- Whose name is at a level, and which numbers the levels have.
use Rattle.std.proofs.Common.{ℕ, zero, suc, ◌+◌, ◌<◌, ◌≡◌, refl, ap, ◌∙◌, arith, All}
use Rattle.std.proofs.Common.{false, List, [], ◌∷◌, length, nat_lt, Some, None, slice_index_or}
use Rattle.std.proofs.lemmas.Bool.{cond-false, le-ltb}
use Rattle.std.specs.List.{position_or_len}
use Rattle.task_sheet.proofs.Common.{Task, same_bytes, task_at}
use Rattle.assignment.specs.Places.{PlaceData}
use Rattle.observed.specs.Pieces.{level_of}
use Rattle.observed.specs.Promises.{no_promise, number_at, promises_from, promises_of}
use Rattle.kept_beside.specs.ShownSlices.{IsStrange}

-- a strange name has no level
strange_len : (U : List Task) (numbers : List ℕ) (low : ℕ) (places : List PlaceData) (name : List ℕ)
    → All (λ (p : PlaceData). p.task < length U) places → IsStrange U name
    → position_or_len (λ p. same_bytes p.name name) (promises_from U numbers low places)
    ≡ length (promises_from U numbers low places)
strange_len U numbers low [] name small strange = refl
strange_len U numbers low (p ∷ places) name small strange =
    let here : same_bytes (task_at U p.task).name name ≡ false =
    strange p.task (small 0 p (omega arith)) in
    let rest = strange_len U numbers (low + 1) places name
    (λ k d lt. small (suc k) d (omega (arith, lt))) strange in
    rw here (omega (arith, rest))

pub no_level : (U : List Task) (numbers : List ℕ) (places : List PlaceData) (name : List ℕ)
    → All (λ (p : PlaceData). p.task < length U) places → IsStrange U name
    → level_of (promises_of U numbers places) name ≡ None
no_level U numbers places name small strange =
    let first : ℕ = position_or_len (λ p. same_bytes p.name name) (promises_of U numbers places) in
    cond-false (nat_lt first (length (promises_of U numbers places))) (Some first) None
    (le-ltb first (length (promises_of U numbers places))
    (omega (arith, strange_len U numbers 0 places name small strange)))

-- the number that is promised at a level
pub number_is : (U : List Task) (numbers : List ℕ) (low : ℕ) (places : List PlaceData) (level : ℕ)
    → level < length places
    → (slice_index_or (promises_from U numbers low places) level no_promise).number
    ≡ number_at numbers (low + level)
number_is U numbers low [] level lt = absurd (omega (arith, lt))
number_is U numbers low (p ∷ places) zero lt =
    (let same : low ≡ low + 0 = omega arith in ap (number_at numbers) same)
number_is U numbers low (p ∷ places) (suc level) lt =
    let same : low + 1 + level ≡ low + suc level = omega arith in
    number_is U numbers (low + 1) places level (omega (arith, lt)) ∙ ap (number_at numbers) same

pub promises_length : (U : List Task) (numbers : List ℕ) (low : ℕ) (places : List PlaceData)
    → length (promises_from U numbers low places) ≡ length places
promises_length U numbers low [] = refl
promises_length U numbers low (p ∷ places) = ap suc (promises_length U numbers (low + 1) places)
