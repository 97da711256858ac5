-- What two sheets of one name say differently. Numbers are the tasks' own, without what their nodes take.
use Rattle.std.specs.Prelude.{ℕ, zero, suc, ◌+◌, Bool, true, false, ◌||◌, ◌&&◌, not, nat_eq, List, [], ◌∷◌, ◌++◌, slice_get, codes, Option, Some, None, if◌then◌else◌}
use Rattle.std.specs.Fmt.{decimal}
use Rattle.std.specs.Cmp.Lexicographic.{pointwise}
use Rattle.task_sheet.specs.Sheet.{CriticalSection, OutranksData, Named, AllOthers, Task, same_bytes, same_outranks}
use Rattle.task_sheet.specs.declared.sheet.TheConstants.{SECTION_LIMIT}
use Rattle.task_sheet.specs.Indexes.{some_below}
use Rattle.task_sheet.specs.Overheads.{own_cost}
use Rattle.lines.specs.Known.{some_words}
use Rattle.diff.specs.Own.{own_at, own_len, own_jitter}

-- ---- whether they do
-- the weights differ, where weights count
abbrev pub other_weight : Bool → Task → Task → Bool
other_weight weighs s t = weighs && not (nat_eq s.weight t.weight)

-- sections at a place differ: one is missing, or its locks, its begin or its length is another
abbrev pub other_at : Task → Task → ℕ → Option CriticalSection → Option CriticalSection → Bool
other_at s t place None None = false
other_at s t place None (Some y) = true
other_at s t place (Some x) None = true
other_at s t place (Some x) (Some y) =
    not (pointwise same_bytes x.locks y.locks)
    || (not (nat_eq (own_at s place x) (own_at t place y))
    || not (nat_eq (own_len s x) (own_len t y)))

abbrev pub other_section : Task → Task → ℕ → Bool
other_section s t place = other_at s t place (slice_get s.sections place) (slice_get t.sections place)

-- some do
abbrev pub other_sections : Task → Task → Bool
other_sections s t = some_below SECTION_LIMIT (other_section s t)

-- the tasks that must be outranked are said otherwise
abbrev pub other_outranks : Task → Task → Bool
other_outranks s t = not (same_outranks s.outranks t.outranks)

-- the sheets say something else, beside their names; a weight does only where weights count
unfoldable pub is_changed : Bool → Task → Task → Bool
is_changed weighs s t =
    other_weight weighs s t
    || (not (nat_eq s.period t.period)
    || (not (nat_eq s.deadline t.deadline)
    || (not (nat_eq (own_cost s) (own_cost t))
    || (other_sections s t
    || (not (nat_eq (own_jitter s) (own_jitter t))
    || other_outranks s t)))))

-- ---- what was, and what is
-- a word, and a number before and after
abbrev pub pair_words : List ℕ → Option ℕ → Option ℕ → List ℕ
pair_words word old new = word ++ some_words old ++ codes " " ++ some_words new

-- the same behind a space, where the number is another one
abbrev pub number_words : List ℕ → Bool → ℕ → ℕ → List ℕ
number_words word differs old new =
    if differs then pair_words (codes " " ++ word ++ codes " ") (Some old) (Some new) else []

-- names, each behind a sign `+`
abbrev pub plus_rest : List (List ℕ) → List ℕ
plus_rest [] = []
plus_rest (n ∷ ns) = codes "+" ++ n ++ plus_rest ns

-- names with a sign `+` between each two, or `-` for none
abbrev pub plus_names : List (List ℕ) → List ℕ
plus_names [] = codes "-"
plus_names (n ∷ ns) = n ++ plus_rest ns

-- a section at a place as `LOCK+LOCK@AT:LEN`, or `-` for none
abbrev pub section_word : Task → ℕ → Option CriticalSection → List ℕ
section_word t place None = codes "-"
section_word t place (Some x) =
    plus_names x.locks ++ codes "@" ++ decimal (own_at t place x) ++ codes ":" ++ decimal (own_len t x)

-- those at a place, which is counted from 1, where they differ
abbrev pub section_words : Task → Task → ℕ → List ℕ
section_words s t place =
    if other_section s t place then
    codes " section " ++ decimal (place + 1) ++ codes " "
    ++ section_word s place (slice_get s.sections place) ++ codes " "
    ++ section_word t place (slice_get t.sections place)
    else []

-- the texts of the indexes below a number
abbrev pub words_below : ℕ → (ℕ → List ℕ) → List ℕ
words_below zero words = []
words_below (suc n) words = words_below n words ++ words n

-- the tasks that must be outranked as `NAME+NAME`, `-` for none, or `*` for all others
abbrev pub outranks_word : OutranksData → List ℕ
outranks_word (Named names) = plus_names names
outranks_word AllOthers = codes "*"

-- those, where they differ
abbrev pub outranks_words : Task → Task → List ℕ
outranks_words s t =
    if other_outranks s t then
    codes " outranks " ++ outranks_word s.outranks ++ codes " " ++ outranks_word t.outranks
    else []

-- those of weight, period, deadline and cost in which the sheets differ
abbrev pub first_words : Bool → Task → Task → List ℕ
first_words weighs s t =
    number_words (codes "weight") (other_weight weighs s t) s.weight t.weight
    ++ number_words (codes "period") (not (nat_eq s.period t.period)) s.period t.period
    ++ number_words (codes "deadline") (not (nat_eq s.deadline t.deadline)) s.deadline t.deadline
    ++ number_words (codes "cost") (not (nat_eq (own_cost s) (own_cost t))) (own_cost s) (own_cost t)

-- those of the others
abbrev pub other_words : Task → Task → List ℕ
other_words s t =
    words_below SECTION_LIMIT (section_words s t)
    ++ number_words (codes "jitter") (not (nat_eq (own_jitter s) (own_jitter t))) (own_jitter s)
    (own_jitter t)
    ++ outranks_words s t

-- the keys in which the sheets differ, each with what was and what is
unfoldable pub keys_words : Bool → Task → Task → List ℕ
keys_words weighs s t = codes " keys" ++ first_words weighs s t ++ other_words s t
