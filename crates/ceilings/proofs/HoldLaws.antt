-- What one hold, one section and one task more add to the longest section that is reached.
use Rattle.std.proofs.Common.{◌≡◌, ℕ, ◌+◌, ◌<◌, Bool, true, false, ◌||◌, cond, max, List, []}
use Rattle.std.proofs.Common.{◌∷◌, length, take, get_or, sym, ◌∙◌, arith}
use Rattle.std.proofs.Math.Bool.{or-false}
use Rattle.std.proofs.lemmas.List.{take_more}
use Rattle.std.proofs.lemmas.List.Folds.{list_any-append}
use Rattle.std.specs.FinSet as set
use Rattle.std.specs.Ordering.{nat_cmp}
use Rattle.task_sheet.proofs.Common.{indexes_of, meet, greatest_of}
use Rattle.task_sheet.proofs.Below.{greatest_of-push}
use Rattle.ceilings.specs.Table.{Table, users_in, some_uses}

-- one element more
pub greatest-more : {X : Type 0} (f : X → ℕ) (xs : List X) (k : ℕ) (x : X) → k < length xs
    → x ≡ get_or xs k x → greatest_of f (take (k + 1) xs) ≡ max (greatest_of f (take k xs)) (f x)
greatest-more f xs k x lt is = rw (take_more xs k x lt, ← is) (greatest_of-push f (take k xs) x)

pub greatest-next : {X : Type 0} (f : X → ℕ) (xs : List X) (k : ℕ) (x : X) (now next : ℕ)
    → k < length xs → x ≡ get_or xs k x
    → now ≡ greatest_of f (take k xs) → next ≡ max now (f x)
    → next ≡ greatest_of f (take (k + 1) xs)
greatest-next f xs k x now next lt is h e = e ∙ rw h (sym (greatest-more f xs k x lt is))

pub some_uses-more : (table : Table) (members : set.FinSet nat_cmp) (locks : List (List ℕ)) (i : ℕ)
    (lock : List ℕ) → i < length locks → lock ≡ get_or locks i lock
    → some_uses table members (take (i + 1) locks) ≡ (some_uses table members (take i locks)
    || meet (indexes_of (users_in table lock)) (indexes_of members))
some_uses-more table members locks i lock lt is =
    let p : List ℕ → Bool = λ x. meet (indexes_of (users_in table x)) (indexes_of members) in
    rw (take_more locks i lock lt, ← is, list_any-append p (take i locks) (lock ∷ [])) (rw or-false)

-- one lock more of a section
pub lock-more : (b m : Bool) (len first now next : ℕ) → now ≡ max first (cond b len 0)
    → next ≡ max now (cond m len 0) → next ≡ max first (cond (b || m) len 0)
lock-more true true len first now next h e = omega arith
lock-more true false len first now next h e = omega arith
lock-more false true len first now next h e = omega arith
lock-more false false len first now next h e = omega arith
