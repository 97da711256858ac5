-- Interrupts that are moved to other accounts.
use Rattle.std.proofs.Common.{◌≡◌, ◌∙◌, ℕ, zero, suc, ◌+◌, ◌*◌, ◌<◌, ◌≤◌, ◌==◌, nat_lt, Bool, true, false, List, [], ◌∷◌, ◌++◌, length, refl, sym, ap, arith, Option, Some, None, position, unwrap_or, if◌then◌else◌}
use Rattle.std.specs.List.{All, sum_by}
use Rattle.std.proofs.lemmas.Bool.{eq-eqb, ne_eqb}
use Rattle.std.proofs.lemmas.List.Elements.{All-cons, All-head, All-tail}
use Rattle.std.proofs.lemmas.List.Quantifiers.{position-Some}
use Rattle.std.proofs.lemmas.List.Sums.{sum_by-cons, sum_by-append}
use Rattle.task_sheet.specs.declared.node.Interrupt.{Interrupt}
use Rattle.task_sheet.specs.Sheet.{Task, AreInterrupts, IsInterrupt, interrupted, no_task, task_at}
use Rattle.task_sheet.specs.Demand.{interrupt_within, interrupts_of, interrupts_within, releases_within}
use Rattle.task_sheet.specs.Indexes.{sum_below}
use Rattle.task_sheet.proofs.Below.{sum_below-both, sum_below-fits, sum_below-one, sum_below-same}
use Rattle.owners.specs.Accounts.{AccountsKeepTime, account_by, account_of, accounted_from, interrupts_on, own_from, own_if}
use Rattle.task_sheet.specs.declared.node.TheConstants.{INTERRUPT_LIMIT}
use Rattle.owners.specs.Owners.{has_task, interrupt_team}
use Rattle.task_lines.specs.declared.owner.Owner.{Owner}

-- one more that is on the account or not, by a test
abbrev own-with : Bool → Interrupt → List Interrupt → List Interrupt
own-with mine x rest = own_if mine x ++ rest

with-length : (mine : Bool) (x : Interrupt) (rest : List Interrupt) (n : ℕ) → length rest ≤ n
    → length (own-with mine x rest) ≤ n + 1
with-length true x rest n le = omega (arith, le)
with-length false x rest n le = omega (arith, le)

with-valid : (P : Interrupt → Type 0) (mine : Bool) (x : Interrupt) (rest : List Interrupt) → P x
    → All P rest → All P (own-with mine x rest)
with-valid P true x rest here all = All-cons P x rest here all
with-valid P false x rest here all = all

module _ (owners : List Owner) (U : List Task) where
  -- ---- limits
  own-length : (task place : ℕ) (xs : List Interrupt)
      → length (own_from owners U task place xs) ≤ length xs
  own-length task place [] = omega arith
  own-length task place (x ∷ xs) =
      omega (
        arith,
        with-length (account_of owners U place == task) x (own_from owners U task (place + 1) xs)
            (length xs) (own-length task (place + 1) xs),
      )

  own-valid : (P : Interrupt → Type 0) (task place : ℕ) (xs : List Interrupt)
      → All P xs → All P (own_from owners U task place xs)
  own-valid P task place [] all = all
  own-valid P task place (x ∷ xs) all =
      with-valid P (account_of owners U place == task) x (own_from owners U task (place + 1) xs)
      (All-head P x xs all) (own-valid P task (place + 1) xs (All-tail P x xs all))

  -- ---- places
  accounted-length : (xs : List Interrupt) (task : ℕ) (ts : List Task)
      → length (accounted_from owners U xs task ts) ≡ length ts
  accounted-length xs task [] = refl
  accounted-length xs task (t ∷ ts) = ap suc (accounted-length xs (task + 1) ts)

  -- the task at a place has its own
  accounted-at : (xs : List Interrupt) (task : ℕ) (ts : List Task) (k : ℕ) → k < length ts
      → task_at (accounted_from owners U xs task ts) k
      ≡ interrupted (task_at ts k) (own_from owners U (task + k) 0 xs)
  accounted-at xs task [] k lt = absurd (omega arith)
  accounted-at xs task (t ∷ ts) zero lt = ap (λ n. interrupted t (own_from owners U n 0 xs)) (omega arith)
  accounted-at xs task (t ∷ ts) (suc k) lt =
      accounted-at xs (task + 1) ts k (omega arith)
      ∙ ap (λ n. interrupted (task_at ts k) (own_from owners U n 0 xs)) (omega arith)

  -- an account is one of the tasks'
  account-by-within : 0 < length U → (team : Option (List ℕ)) → account_by owners U team < length U
  account-by-within some None = some
  account-by-within some (Some team) = by (position (has_task owners team) U) refl
    where
      by : (found : Option ℕ) → position (has_task owners team) U ≡ found
          → unwrap_or found 0 < length U
      by None is = some
      by (Some k) is = (position-Some (has_task owners team) U k no_task is).0

  account-within : 0 < length U → (place : ℕ) → account_of owners U place < length U
  account-within some place = account-by-within some (interrupt_team owners place)

  -- ---- sums
  module _ (f : Interrupt → ℕ) (some : 0 < length U) where
    -- each interrupt is on one account
    spread : (place : ℕ) (xs : List Interrupt)
        → sum_below (length U) (λ k. sum_by f (own_from owners U k place xs)) ≡ sum_by f xs
    spread place [] =
        omega (arith, sum_below-fits (length U) 0 (λ k. 0) (λ k lt. omega arith))
    spread place (x ∷ xs) =
        let a : ℕ = account_of owners U place in
        let one = sum_below-one (length U) (λ k. sum_by f (own_from owners U k place (x ∷ xs)))
        (λ k. sum_by f (own_from owners U k (place + 1) xs)) a (account-within some place)
        (λ k lt ne. elsewhere k ne) in
        omega (arith, one, spread (place + 1) xs, sum_by-cons f x xs, here)
      where
        elsewhere : (k : ℕ) → (k ≡ account_of owners U place → ⊥)
            → sum_by f (own_from owners U k place (x ∷ xs))
            ≡ sum_by f (own_from owners U k (place + 1) xs)
        elsewhere k ne =
            let is : (account_of owners U place == k) ≡ false = ne_eqb (account_of owners U place) k (λ e. ne (sym e)) in
            rw is refl

        here : sum_by f (own_from owners U (account_of owners U place) place (x ∷ xs))
            ≡ f x + sum_by f (own_from owners U (account_of owners U place) (place + 1) xs)
        here =
            let is : (account_of owners U place == account_of owners U place) ≡ true = eq-eqb (account_of owners U place) (account_of owners U place) refl in
            rw is (sum_by-cons f x (own_from owners U (account_of owners U place) (place + 1) xs))

-- ---- all
-- the first of what is summed, and the rest
sum-first : (n : ℕ) (g : ℕ → ℕ) → sum_below (suc n) g ≡ g 0 + sum_below n (λ k. g (suc k))
sum-first zero g = omega arith
sum-first (suc n) g = omega (arith, sum-first n g)

-- what the interrupts of all tasks come to
on-sum : (f : Interrupt → ℕ) (U : List Task)
    → sum_below (length U) (λ k. sum_by f (task_at U k).interrupts) ≡ sum_by f (interrupts_on U)
on-sum f [] = refl
on-sum f (t ∷ U) = omega (
  arith,
  sum-first (length U) (λ k. sum_by f (task_at (t ∷ U) k).interrupts),
  on-sum f U,
  sum_by-append f t.interrupts (interrupts_on U),
)

-- what a task takes beside its interrupts, and what these take
abbrev own-time : (time : ℕ) (t : Task) → ℕ
own-time time t = releases_within t time * t.node.release

moved_law : (owners : List Owner) (U : List Task) (time : ℕ) → 0 < length U
    → interrupts_within (accounted_from owners U (interrupts_on U) 0 U) time ≡ interrupts_within U time
unfolding interrupts_within
moved_law owners U time some =
    let xs : List Interrupt = interrupts_on U in
    let V : List Task = accounted_from owners U xs 0 U in
    let f : Interrupt → ℕ = interrupt_within time in
    let n : ℕ = length U in
    let own : ℕ → ℕ = λ k. own-time time (task_at U k) in
    let moved : ℕ → ℕ = λ k. sum_by f (own_from owners U k 0 xs) in
    let count : length V ≡ n = accounted-length owners U xs 0 U in
    let at : (k : ℕ) → k < n → task_at V k ≡ interrupted (task_at U k) (own_from owners U k 0 xs) =
    λ k lt. accounted-at owners U xs 0 U k lt
    ∙ ap (λ m. interrupted (task_at U k) (own_from owners U m 0 xs)) (omega arith) in
    let now : sum_below n (λ k. interrupts_of time (task_at V k)) ≡ sum_below n (λ k. own k + moved k) =
    sum_below-same n (λ k. interrupts_of time (task_at V k)) (λ k. own k + moved k)
    (λ k lt. ap (interrupts_of time) (at k lt)) in
    ap (λ m. sum_below m (λ k. interrupts_of time (task_at V k))) count
    ∙ omega (
      arith,
      now,
      on-sum f U,
      sum_below-both n own moved,
      sum_below-both n own (λ k. sum_by f (task_at U k).interrupts),
      spread owners U f some 0 xs,
    )

pub keep_law : AccountsKeepTime
keep_law owners [] time = refl
keep_law owners (t ∷ ts) time = by (nat_lt INTERRUPT_LIMIT (length (interrupts_on (t ∷ ts))))
  where
    by : (many : Bool) → interrupts_within (if many then t ∷ ts
        else accounted_from owners (t ∷ ts) (interrupts_on (t ∷ ts)) 0 (t ∷ ts)) time
        ≡ interrupts_within (t ∷ ts) time
    by true = refl
    by false = moved_law owners (t ∷ ts) time (omega arith)

pub own_limits : (owners : List Owner) (U : List Task) (task : ℕ) (xs : List Interrupt)
    → AreInterrupts xs → AreInterrupts (own_from owners U task 0 xs)
own_limits owners U task xs are = record {
  valid = own-valid owners U IsInterrupt task 0 xs are.valid;
  few = omega (arith, own-length owners U task 0 xs, are.few);
}
