-- Blocking and demand by the ceilings that mutexes are given.
use Rattle.std.proofs.Common.{◌≡◌, ◌∙◌, ℕ, ◌+◌, ◌<◌, ◌≤◌, inl, inr, Bool, true, false, ◌&&◌, cond}
use Rattle.std.proofs.Common.{List, [], ◌∷◌, ◌++◌, length, get_or, drop, refl, sym, ap, arith}
use Rattle.std.specs.List.{list_any}
use Rattle.std.proofs.lemmas.Bool.{and_from, and_parts, cases_Bool, cases_eq, le-leb, leb-true, lt-ltb, ne_eqb}
use Rattle.std.proofs.lemmas.List.Folds.{Any-from_list_any, list_any_at}
use Rattle.std.specs.Prelude.{Contains}
use Rattle.task_sheet.proofs.Common.{Task, CriticalSection, AllTasks, IsTask, IsTaskSet, task_at, Indexes, among, uses}
use Rattle.task_sheet.proofs.Common.{with_index, reaches, longest_reached, blocking_of, demand_of, greatest_below}
use Rattle.std.proofs.lemmas.List.Elements.{recursion_from_All}
use Rattle.task_sheet.specs.Locks.{names_lock, shares_lock}
use Rattle.task_sheet.specs.Orders.{all_of}
use Rattle.task_sheet.specs.Sheet.{same_bytes}
use Rattle.task_sheet.proofs.IndexLaws.{IsOrderOf-among}
use Rattle.task_sheet.proofs.NameLaws.{same_own}
use Rattle.task_sheet.proofs.Below.{cond-le, greatest_below-le, le-greatest_below, greatest_below-some}
use Rattle.task_sheet.proofs.Below.{greatest_of-le, greatest_of-mono, greatest_of-some, le-greatest_of}
use Rattle.task_sheet.proofs.Below.{some_below-at, some_below-witness}
use Rattle.task_sheet.proofs.DemandFits.{cost-fits}
use Rattle.task_sheet.proofs.TaskLaws.{IsTask-from_valid, valid_at}
use Rattle.task_sheet.proofs.DemandLaws.{demand_does_not_fall}
use Rattle.task_sheet.proofs.ResponseLaws.{DoesNotFall}
use Rattle.task_sheet.proofs.Trails.{IsWalk, walk-count}
use Rattle.task_sheet.specs.Responses.{iterate}
use Rattle.explain.specs.Needs.{EndsWith}
use Rattle.judge.specs.Ceilings.{blocking_at, ceiling_in, demand_blocked, longest_raised, raises_to}
use Rattle.judge.specs.SettingFaults.{thread_number, top_number, setting_number}
use Rattle.judge.specs.Node.{IsOrderBy}
use Rattle.judge.specs.declared.rows.Setting.{Setting}
use Rattle.judge.proofs.OrderLaws.{above_more, below_less}

-- ---- a demand with more blocking
module _ (U : List Task) (i : ℕ) (H : Indexes) (more : ℕ) where
  abbrev pub longer : ℕ → ℕ
  longer = demand_blocked (blocking_of U i H + more) U i H

  pub longer-is : (t : ℕ) → longer t ≡ demand_of U i H t + more
  unfolding demand_of demand_blocked
  longer-is t = omega arith

  pub longer-steady : AllTasks U → i < length U → DoesNotFall longer
  longer-steady valid lt =
      let steady = demand_does_not_fall U valid i H lt in
      record {
        positive = λ t. omega (arith, steady.positive t, longer-is t);
        rises = λ t s le. omega (arith, steady.rises t s le, longer-is t, longer-is s);
      }

-- ---- the two last numbers of a walk
ends_from : (x : ℕ) (xs : List ℕ) (t : ℕ) → (before : ℕ) × EndsWith ((x ∷ xs) ++ t ∷ []) before t
ends_from x [] t = (x, ([], refl))
ends_from x (y ∷ ys) t =
    let rest = ends_from y ys t in
    (rest.0, (x ∷ rest.1.0, ap (λ (zs : List ℕ). x ∷ zs) rest.1.1))

pub walk_ends : (W : ℕ → ℕ) (limit : ℕ) (numbers : List ℕ) (t : ℕ) → IsWalk W limit numbers t
    → 1 ≤ limit → limit < t → (before : ℕ) × EndsWith (numbers ++ t ∷ []) before t
walk_ends W limit [] t walk some past =
    let none : walk.count ≡ 0 = sym (walk-count W limit [] t walk).0 in
    let one : t ≡ 1 = walk.next ∙ ap (iterate W) none in
    absurd (omega (arith, one, some, past))
walk_ends W limit (x ∷ xs) t walk some past = ends_from x xs t

-- ---- given ceilings and the least
any_more : {X : Type 0} (p q : X → Bool) (xs : List X) → ((x : X) → p x ≡ true → q x ≡ true)
    → list_any p xs ≡ true → list_any q xs ≡ true
any_more p q [] more so = so
any_more p q (x ∷ xs) more so = elim (cases_Bool (p x)) [
  | inl here ↦ rw (more x here) refl
  | inr not_here ↦ elim (cases_Bool (q x)) [
    | inl has ↦ rw has refl
    | inr has_not ↦ rw has_not (any_more p q xs more (rw not_here at so))
  ]
]

cond_more : (b c : Bool) (len : ℕ) → (b ≡ true → c ≡ true) → cond b len 0 ≤ cond c len 0
cond_more true c len more = rw (more refl) (omega arith)
cond_more false c len more = omega arith

-- longer sections that are reached
greatest_below-mono : (n : ℕ) (f g : ℕ → ℕ) → ((k : ℕ) → f k ≤ g k)
    → greatest_below n f ≤ greatest_below n g
greatest_below-mono n f g le = greatest_below-le n f (greatest_below n g)
    (λ k lt. omega (arith, le k, le-greatest_below n g k lt))

module _ (U : List Task) (threads mutexes : List Setting) where
  abbrev pub ceiling : List ℕ → ℕ
  ceiling = ceiling_in U threads mutexes

  -- the ceiling of a lock is at the number of each of its users or above
  ceiling-user : (lock : List ℕ) (k : ℕ) → k < length U → uses (task_at U k) lock ≡ true
      → thread_number U threads k ≤ ceiling lock
  ceiling-user lock k lt used =
      let here = le-greatest_below (length U)
      (λ j. cond (uses (task_at U j) lock) (thread_number U threads j) 0) k lt in
      omega (arith, rw used at here)

  -- what a task reaches, is at the numbers up to its own
  raised-user : (number k : ℕ) (s : CriticalSection) → k < length U
      → number ≤ thread_number U threads k → shares_lock (task_at U k) s ≡ true
      → raises_to ceiling number s ≡ true
  raised-user number k s lt le shares = any_more _ _ s.locks
      (λ lock used. let there = ceiling-user lock k lt used in
      le-leb number (ceiling lock) (omega (arith, le, there))) shares

  module _ (number i : ℕ) (H : Indexes)
      (above : (k : ℕ) → with_index H i k ≡ true → number ≤ thread_number U threads k) where
    reached-raised : (s : CriticalSection) → reaches U (with_index H i) s ≡ true
        → raises_to ceiling number s ≡ true
    reached-raised s reached =
        let (k, lt, both) = some_below-witness (length U) _ reached in
        let parts = and_parts _ _ both in
        raised-user number k s lt (above k parts.0) parts.1

    pub blocking-least : blocking_of U i H ≤ blocking_at ceiling number U i H
    unfolding blocking_of blocking_at
    blocking-least = greatest_below-mono (length U) _ _ (λ k. elim (cases_Bool (with_index H i k)) [
      | inl inside ↦ rw inside (omega arith)
      | inr outside ↦ rw outside (greatest_of-mono _ _ (task_at U k).sections
          (λ s. cond_more (reaches U (with_index H i) s) (raises_to ceiling number s) s.len
          (reached-raised s)))
    ])

  -- those above a place of an order have greater numbers
  pub order-above : (order : List ℕ) (place : ℕ) → IsOrderBy U threads order → place < length order
      → (k : ℕ) → with_index (among (drop (place + 1) order)) (get_or order place 0) k ≡ true
      → thread_number U threads (get_or order place 0) ≤ thread_number U threads k
  order-above order place by lt k has =
      let i = get_or order place 0 in
      elim (cases_eq k i) [
        | inl e ↦ rw e (omega arith)
        | inr ne ↦
            let later = above_more (thread_number U threads) place order k by.rises lt
            (rw (ne_eqb k i ne) at has) in
            omega (arith, later)
      ]

  -- ---- where no mutex is above the highest user of its lock
  module _ (order : List ℕ) (place : ℕ) (by : IsOrderBy U threads order) (within : place < length order)
      (least : (lock : List ℕ) → setting_number mutexes lock ≤ top_number U threads lock) where
    abbrev here : ℕ
    here = get_or order place 0

    abbrev up : Indexes
    up = with_index (among (drop (place + 1) order)) here

    -- a task below has a lesser number
    lower-less : (k : ℕ) → k < length U → up k ≡ false
        → thread_number U threads k < thread_number U threads here
    lower-less k lt out = below_less (thread_number U threads) place order k by.rises within
        (ap (λ (X : Indexes). X k) (IsOrderOf-among (all_of U) order by.each_once)
        ∙ lt-ltb k (length U) lt) out

    -- a lock of a task below that is at this number or above has a user that isn't below
    used-up : (k : ℕ) (lock : List ℕ) → k < length U → up k ≡ false → uses (task_at U k) lock ≡ true
        → thread_number U threads here ≤ ceiling lock
        → (j : ℕ) × (j < length U) × (up j ≡ true) × (uses (task_at U j) lock ≡ true)
    used-up k lock lt out used le =
        let number = thread_number U threads here in
        let f : ℕ → ℕ = λ j. cond (uses (task_at U j) lock) (thread_number U threads j) 0 in
        let less = lower-less k lt out in
        let top : number ≤ greatest_below (length U) f = omega (arith, le, least lock) in
        elim (greatest_below-some (length U) f) [
          | inl none ↦ absurd (omega (arith, none, top, less))
          | inr some ↦ elim (cases_Bool (uses (task_at U some.0) lock)) [
            | inr unused ↦ absurd (omega (arith, rw unused at some.2, top, less))
            | inl user ↦
                let at : greatest_below (length U) f ≡ thread_number U threads some.0 =
                rw user at some.2 in
                elim (cases_Bool (up some.0)) [
                  | inl is ↦ (some.0, some.1, is, user)
                  | inr below ↦ absurd (omega (arith, lower-less some.0 some.1 below, at, top))
                ]
          ]
        ]

    raised-reached : (k : ℕ) (s : CriticalSection) → k < length U → up k ≡ false
        → Contains (task_at U k).sections s
        → raises_to ceiling (thread_number U threads here) s ≡ true → reaches U up s ≡ true
    raised-reached k s lt out has raised =
        let (q, lock, qlt, at, high) = Any-from_list_any _ s.locks raised in
        let le = leb-true (thread_number U threads here) (ceiling lock) high in
        let names : names_lock s lock ≡ true =
        list_any_at (λ name. same_bytes name lock) s.locks q lock qlt (rw at (same_own lock)) in
        let used : uses (task_at U k) lock ≡ true =
        list_any_at (λ x. names_lock x lock) (task_at U k).sections has.0 s has.1 (rw has.2 names) in
        let (j, jlt, is, user) = used-up k lock lt out used le in
        let shares : shares_lock (task_at U j) s ≡ true =
        list_any_at (λ l. uses (task_at U j) l) s.locks q lock qlt (rw at user) in
        some_below-at (length U) (λ m. up m && shares_lock (task_at U m) s) j jlt
        (and_from _ _ is shares)

    -- no section is longer
    short : (k : ℕ) → k < length U → up k ≡ false
        → longest_raised ceiling (thread_number U threads here) (task_at U k)
        ≤ longest_reached U up (task_at U k)
    short k lt out =
        let ss = (task_at U k).sections in
        let f : CriticalSection → ℕ =
        λ s. cond (raises_to ceiling (thread_number U threads here) s) s.len 0 in
        elim (greatest_of-some f ss) [
          | inl none ↦ omega (arith, none)
          | inr some ↦
              let (s, has, is) = some in
              elim (cases_Bool (raises_to ceiling (thread_number U threads here) s)) [
                | inl raised ↦
                    let there = le-greatest_of (λ x. cond (reaches U up x) x.len 0) ss has.0 s has.1
                    has.2 in
                    omega (
                      arith,
                      is,
                      rw raised at is,
                      rw (raised-reached k s lt out has raised) at there,
                    )
                | inr low ↦ omega (arith, rw low at is)
              ]
        ]

    pub blocking-same : blocking_at ceiling (thread_number U threads here) U here
        (among (drop (place + 1) order)) ≡ blocking_of U here (among (drop (place + 1) order))
    unfolding blocking_of blocking_at
    blocking-same =
        let more = blocking-least (thread_number U threads here) here
        (among (drop (place + 1) order)) (order-above order place by within) in
        let less = greatest_below-le (length U)
        (λ k. cond (up k) 0
        (longest_raised ceiling (thread_number U threads here) (task_at U k)))
        (greatest_below (length U) (λ k. cond (up k) 0 (longest_reached U up (task_at U k))))
        (λ k lt.
        let there = le-greatest_below (length U)
        (λ j. cond (up j) 0 (longest_reached U up (task_at U j))) k lt in
        elim (cases_Bool (up k)) [
          | inl inside ↦ rw inside (omega arith)
          | inr out ↦ rw out (omega (arith, short k lt out, rw out at there))
        ]) in
        omega (arith, more, less)

-- ---- how long it may be
longest-fits : (ceiling : List ℕ → ℕ) (number : ℕ) (t : Task) → IsTask t
    → longest_raised ceiling number t ≤ t.cost
longest-fits ceiling number t valid =
    greatest_of-le _ t.cost t.sections
    (recursion_from_All (λ s. cond (raises_to ceiling number s) s.len 0 ≤ t.cost) t.sections
    (λ k d lt.
    let within = valid.within k d lt in
    let short : (get_or t.sections k d).len ≤ t.cost = omega arith in
    cond-le _ _ 0 t.cost short (omega arith)))

pub blocking-fits : (ceiling : List ℕ → ℕ) (number : ℕ) (U : List Task) (i : ℕ) (H : Indexes)
    → IsTaskSet U → blocking_at ceiling number U i H ≤ 10000000
unfolding blocking_at
blocking-fits ceiling number U i H set = greatest_below-le (length U) _ 10000000 (λ k lt.
    let longest = longest-fits ceiling number (task_at U k)
    (IsTask-from_valid _ (valid_at U k set lt)) in
    cond-le (with_index H i k) 0 (longest_raised ceiling number (task_at U k)) 10000000
    (omega arith) (omega (arith, longest, cost-fits U set k lt)))
