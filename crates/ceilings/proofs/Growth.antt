-- What a table has after one user more, and after a task's.
use Rattle.std.proofs.Common.{◌≡◌, ℕ, ◌+◌, Bool, true, false, ◌||◌, ◌&&◌, cond, List, [], ◌∷◌, ◌++◌}
use Rattle.std.proofs.Common.{inl, inr, refl, sym, ◌∙◌, ap}
use Rattle.std.proofs.Math.Bool.{or_comm, or_assoc, or-false, and-or_distrib_right}
use Rattle.std.proofs.lemmas.Bool.{cases_Bool, both_ways}
use Rattle.std.proofs.lemmas.List.Folds.{list_any-append}
use Rattle.std.proofs.lemmas.List.Sums.{fold-append}
use Rattle.std.specs.Cmp.{nat_cmp_total}
use Rattle.std.specs.Cmp.Lexicographic.{nat_list_eq_equiv}
use Rattle.std.specs.FinSet as set
use Rattle.std.specs.List.{list_any, fold, flat_map}
use Rattle.std.specs.Map.{keys_of}
use Rattle.std.specs.Ordering.{nat_cmp, eq_by_cmp}
use Rattle.indexmap.specs.IndexMap.{insert_entry}
use Rattle.task_sheet.proofs.Common.{CriticalSection, Task, same_bytes, uses}
use Rattle.task_sheet.proofs.NameLaws.{same_own, same_is}
use Rattle.ceilings.specs.Table.{Table, locks_in, users_in, with_user, with_section, with_user_of}
use Rattle.ceilings.specs.IsTableOf.{with_name}

-- ---- the users of a lock

users_first : (e : List ℕ × set.FinSet nat_cmp) (table : Table) (lock : List ℕ)
    → users_in (e ∷ table) lock ≡ cond (same_bytes lock e.0) e.1 (users_in table lock)
users_first e table lock = elim (cases_Bool (same_bytes lock e.0)) [
  | inl here ↦ rw here
  | inr other ↦ rw other
]

twice : {A : Type 0} (b : Bool) (x y z : A) → cond b x z ≡ cond b x (cond b y z)
twice true x y z = refl
twice false x y z = refl

apart : {A : Type 0} (a b : Bool) (x y z : A) → (a ≡ true → b ≡ true → ⊥)
    → cond a x (cond b y z) ≡ cond b y (cond a x z)
apart true true x y z h = absurd (h refl refl)
apart true false x y z h = refl
apart false true x y z h = refl
apart false false x y z h = refl

users_inserted : (table : Table) (name : List ℕ) (users : set.FinSet nat_cmp) (lock : List ℕ)
    → users_in (insert_entry same_bytes table name users) lock
    ≡ cond (same_bytes lock name) users (users_in table lock)
users_inserted [] name users lock = users_first (name, users) [] lock
users_inserted (e ∷ table) name users lock = elim (cases_Bool (same_bytes name e.0)) [
  | inl here ↦ rw here (users_first (e.0, users) table lock
      ∙ rw (same_is name e.0 here, users_first e table lock)
      (twice (same_bytes lock e.0) users e.1 (users_in table lock)))
  | inr other ↦ rw other (users_first e (insert_entry same_bytes table name users) lock
      ∙ rw (users_inserted table name users lock, users_first e table lock)
      (apart (same_bytes lock e.0) (same_bytes lock name) e.1 users (users_in table lock)
      (λ first second. both_ways (same_bytes name e.0) other
      (rw (sym (same_is lock name second) ∙ same_is lock e.0 first) (same_own e.0)))))
]

-- the task at an index among the users of a lock
abbrev is_user : Table → List ℕ → ℕ → Bool
is_user table lock k = set.contains (users_in table lock) k

user_added : (index : ℕ) (table : Table) (name lock : List ℕ) (k : ℕ)
    → is_user (with_user index table name) lock k
    ≡ (is_user table lock k || (same_bytes name lock && eq_by_cmp nat_cmp k index))
user_added index table name lock k =
    ap (λ s. set.contains s k)
    (users_inserted table name (set.insert (users_in table name) index) lock)
    ∙ rw (nat_list_eq_equiv.symm name lock) (elim (cases_Bool (same_bytes lock name)) [
      | inl here ↦ rw here (set.contains-insert nat_cmp_total (users_in table name) index k
          ∙ rw (same_is lock name here) (or_comm (eq_by_cmp nat_cmp k index) (is_user table name k)))
      | inr other ↦ rw other (sym (or-false (is_user table lock k)))
    ])

-- one user more of each of some locks
names_added : (index : ℕ) (names : List (List ℕ)) (table : Table) (lock : List ℕ) (k : ℕ)
    → is_user (fold (with_user index) table names) lock k ≡ (is_user table lock k
    || (list_any (λ name. same_bytes name lock) names && eq_by_cmp nat_cmp k index))
names_added index [] table lock k = sym (or-false (is_user table lock k))
names_added index (name ∷ names) table lock k =
    let some = list_any (λ n. same_bytes n lock) names in
    let at = eq_by_cmp nat_cmp k index in
    names_added index names (with_user index table name) lock k
    ∙ ap (λ b. b || (some && at)) (user_added index table name lock k)
    ∙ or_assoc (is_user table lock k) (same_bytes name lock && at) (some && at)
    ∙ ap (λ b. is_user table lock k || b) (sym (and-or_distrib_right (same_bytes name lock) some at))

sections_noted : (index : ℕ) (sections : List CriticalSection) (table : Table)
    → fold (with_section index) table sections
    ≡ fold (with_user index) table (flat_map (λ s. s.locks) sections)
sections_noted index [] table = refl
sections_noted index (s ∷ sections) table =
    sections_noted index sections (with_section index table s)
    ∙ sym (fold-append (with_user index) table s.locks (flat_map (λ x. x.locks) sections))

pub any_within : {X : Type 0} (p : List ℕ → Bool) (f : X → List (List ℕ)) (xs : List X)
    → list_any p (flat_map f xs) ≡ list_any (λ x. list_any p (f x)) xs
any_within p f [] = refl
any_within p f (x ∷ xs) = list_any-append p (f x) (flat_map f xs)
    ∙ ap (λ b. list_any p (f x) || b) (any_within p f xs)

-- after a task's locks are noted, it is among the users of those that it uses
pub task_added : (index : ℕ) (t : Task) (table : Table) (lock : List ℕ) (k : ℕ)
    → is_user (with_user_of index table t) lock k
    ≡ (is_user table lock k || (uses t lock && eq_by_cmp nat_cmp k index))
task_added index t table lock k =
    ap (λ found. is_user found lock k) (sections_noted index t.sections table)
    ∙ names_added index (flat_map (λ s. s.locks) t.sections) table lock k
    ∙ rw (any_within (λ name. same_bytes name lock) (λ (s : CriticalSection). s.locks) t.sections)
    refl

-- ---- the locks

locks_inserted : (table : Table) (name : List ℕ) (users : set.FinSet nat_cmp)
    → keys_of (insert_entry same_bytes table name users) ≡ with_name (keys_of table) name
locks_inserted [] name users = refl
locks_inserted (e ∷ table) name users = elim (cases_Bool (same_bytes name e.0)) [
  | inl here ↦ rw here refl
  | inr other ↦ rw other (ap (λ names. e.0 ∷ names) (locks_inserted table name users)
      ∙ behind (list_any (same_bytes name) (keys_of table)))
]
  where
    behind : (b : Bool) → e.0 ∷ cond b (keys_of table) (keys_of table ++ name ∷ [])
        ≡ cond b (e.0 ∷ keys_of table) (e.0 ∷ (keys_of table ++ name ∷ []))
    behind true = refl
    behind false = refl

locks_noted : (index : ℕ) (names : List (List ℕ)) (table : Table)
    → locks_in (fold (with_user index) table names) ≡ fold with_name (locks_in table) names
locks_noted index [] table = refl
locks_noted index (name ∷ names) table =
    locks_noted index names (with_user index table name)
    ∙ ap (λ found. fold with_name found names)
    (locks_inserted table name (set.insert (users_in table name) index))

-- after a task's locks are noted, those that were not seen before stand behind the others
pub task_noted : (index : ℕ) (t : Task) (table : Table) → locks_in (with_user_of index table t)
    ≡ fold with_name (locks_in table) (flat_map (λ s. s.locks) t.sections)
task_noted index t table = ap locks_in (sections_noted index t.sections table)
    ∙ locks_noted index (flat_map (λ s. s.locks) t.sections) table
