-- The tests of settings, one element after the other.
use Rattle.std.proofs.Common.{◌≡◌, ℕ, ◌+◌, ◌<◌, max, add-one, Bool, true, false, cond, not, nat_lt, ◌==◌}
use Rattle.std.proofs.Common.{List, [], ◌∷◌, length, get_or, take, drop, Some, refl, arith}
use Rattle.std.proofs.Common.{slice_get}
use Rattle.std.specs.List.{find, list_any}
use Rattle.std.proofs.lemmas.List.{drop_more, take_more}
use Rattle.std.proofs.lemmas.Option.{slice_get_within, get_or_from_slice_get}
use Rattle.task_sheet.proofs.Common.{Task, greatest_below}
use Rattle.judge.specs.SettingFaults.{is_set, line_again, mutexless, setting_number, top_number}
use Rattle.judge.specs.SettingFaults.{low_lock, wrong_lock}
use Rattle.judge.specs.declared.rows.Setting.{Setting}

-- the first element from a place on that passes, by the element there
pub find_step : {X : Type 0} (test : X → Bool) (xs : List X) (k : ℕ) (x : X) (b : Bool)
    → slice_get xs k ≡ Some x → b ≡ test x
    → find test (drop k xs) ≡ cond b (Some x) (find test (drop (k + 1) xs))
find_step test xs k x b at is =
    rw (drop_more xs k x (slice_get_within xs k x at), get_or_from_slice_get xs k x x at, is) refl

-- where there are mutexes, the first lock that has none
pub mutexless_some : (locks : List (List ℕ)) (mutexes : List Setting) → 0 < length mutexes
    → find (λ lock. not (is_set mutexes lock)) locks ≡ mutexless locks mutexes
mutexless_some locks [] some = absurd (omega arith)
mutexless_some locks (m ∷ mutexes) some = refl

-- where there are mutexes, the first lock whose mutex is wrong
pub wrong_some : (U : List Task) (locks : List (List ℕ)) (threads mutexes : List Setting)
    → 0 < length mutexes
    → find (λ lock. not (setting_number mutexes lock == top_number U threads lock)) locks
    ≡ wrong_lock U locks threads mutexes
wrong_some U locks threads [] some = absurd (omega arith)
wrong_some U locks threads (m ∷ mutexes) some = refl

-- where there are mutexes, the first lock whose mutex is too low
pub low_some : (U : List Task) (locks : List (List ℕ)) (threads mutexes : List Setting)
    → 0 < length mutexes
    → find (λ lock. nat_lt (setting_number mutexes lock) (top_number U threads lock)) locks
    ≡ low_lock U locks threads mutexes
low_some U locks threads [] some = absurd (omega arith)
low_some U locks threads (m ∷ mutexes) some = refl

-- the settings from a place on, with those before it
pub again_step : (alike : Setting → Setting → Bool) (xs : List Setting) (k : ℕ) (x : Setting)
    (b : Bool) → k < length xs → x ≡ get_or xs k x
    → b ≡ list_any (λ before. alike before x) (take k xs)
    → line_again alike (take k xs) (drop k xs)
    ≡ cond b (Some x.line) (line_again alike (take (k + 1) xs) (drop (k + 1) xs))
again_step alike xs k x b lt same is =
    rw (drop_more xs k x lt, take_more xs k x lt, ← same, is) refl

-- one more task
pub top_step : (f : ℕ → ℕ) (k top next n : ℕ) (b : Bool) → top ≡ greatest_below k f
    → f k ≡ cond b n 0 → next ≡ cond b (max top n) top → next ≡ greatest_below (k + 1) f
top_step f k top next n true so here is = rw add-one (omega arith)
top_step f k top next n false so here is = rw add-one (omega arith)
