-- A set in another order and with other weights has the same passing orders, but for the numbers of its tasks: two of its tasks
-- are exchanged, or weights are replaced, and so any permutation is reached.
use Rattle.std.proofs.Common.{◌≡◌, ℕ, ◌<◌, ◌≤◌, inl, inr, Bool, cond, ◌&&◌, ◌||◌, ◌==◌, List}
use Rattle.std.proofs.Common.{[], ◌∷◌, length, map, refl, sym, ◌∙◌, ap, subst, arith, ◌↔◌, zero}
use Rattle.std.proofs.Common.{suc, slice_set}
use Rattle.std.proofs.Math.Path.{fun_ext}
use Rattle.std.specs.List.{count_by, swap}
use Rattle.std.proofs.lemmas.Bool.{cases_Bool, cases_eq, cases_lt, both_ways, lt-ltb, le-ltb}
use Rattle.std.proofs.lemmas.Bool.{eq-eqb, ne_eqb}
use Rattle.std.proofs.lemmas.List.Sums.{sum_by-cons}
use Rattle.task_sheet.proofs.Common.{CriticalSection, Task, task_at, no_task, Indexes, below, among}
use Rattle.task_sheet.proofs.Common.{with_index, sum_below, greatest_below, some_below, shares_lock}
use Rattle.task_sheet.proofs.Common.{reaches, greatest_of, longest_reached, blocking_of}
use Rattle.task_sheet.proofs.Common.{interference_of, interrupts_of, interrupts_within, demand_of}
use Rattle.task_sheet.proofs.Common.{IsByRank, limit_of, must_outrank, must_outrank_any, Stands, AllStand}
use Rattle.task_sheet.proofs.Common.{IsPassingOrder, IsFeasible}
use Rattle.task_sheet.specs.Sheet.{weighing}
use Rattle.chain_tables.specs.Tables.{WrittenData}
use Rattle.preferences.specs.Preferences.{order_names, KeepsOrders, longer_limits, lower_tasks}
use Rattle.preferences.specs.Preferences.{weighed, unweighed, IsPreferred}
use Rattle.task_sheet.proofs.Below.{greatest_below-le, le-greatest_below, some_below-at}
use Rattle.task_sheet.proofs.Below.{some_below-witness, some_below-none, sum_below-same}
use Rattle.task_sheet.proofs.Below.{sum_below-one}
use Rattle.std.specs.List.Sorted.{IsPermutation}
use Rattle.std.proofs.lemmas.Bool.Decides.{nat_tests}
use Rattle.std.proofs.lemmas.List.{get_or-set_same, get_or-set_other, length-set, length-map}
use Rattle.std.proofs.lemmas.List.Edits.{swap_is, length-swap}
use Rattle.std.proofs.lemmas.List.Sorted.{IsPermutation-refl, IsPermutation-map}
use Rattle.std.proofs.lemmas.List.Sorted.{IsPermutation-keeps}
use Rattle.task_sheet.specs.declared.prefer.Preference.{Preference}
use Rattle.task_sheet.specs.declared.prefer.Preference.TheVariants.{Weights, Deadline, Chains}

-- a renumbering of the tasks below n that turns itself back
pub record IsRenumbering (n : ℕ) (turn : ℕ → ℕ) : Type 0 where
  pub back : (k : ℕ) → turn (turn k) ≡ k
  pub within : (k : ℕ) → k < n → turn k < n
  pub sums : (f : ℕ → ℕ) → sum_below n (λ k. f (turn k)) ≡ sum_below n f

-- as many tasks, renumbered, that differ in their weights alone
pub record AreRenumbered (turn : ℕ → ℕ) (U V : List Task) : Type 0 where
  pub turns : IsRenumbering (length U) turn
  pub count : length V ≡ length U
  pub same : (k : ℕ) → (weight : ℕ) × (task_at V k ≡ weighing (task_at U (turn k)) weight)

module _ (n : ℕ) (turn : ℕ → ℕ) (turns : IsRenumbering n turn) where
  some-turned : (p : ℕ → Bool) → some_below n (λ k. p (turn k)) ≡ some_below n p
  some-turned p = elim (cases_Bool (some_below n p)) [
    | inl so ↦
        let found = some_below-witness n p so in
        some_below-at n (λ k. p (turn k)) (turn found.0) (turns.within found.0 found.1)
        (ap p (turns.back found.0) ∙ found.2) ∙ sym so
    | inr none ↦
        some_below-none n (λ k. p (turn k)) (λ k lt. elim (cases_Bool (p (turn k))) [
          | inl so ↦ absurd (both_ways (some_below n p) none
              (some_below-at n p (turn k) (turns.within k lt) so))
          | inr out ↦ out
        ]) ∙ sym none
  ]

  greatest-turned : (f : ℕ → ℕ) → greatest_below n (λ k. f (turn k)) ≡ greatest_below n f
  greatest-turned f =
      let low : greatest_below n (λ k. f (turn k)) ≤ greatest_below n f =
      greatest_below-le n (λ k. f (turn k)) (greatest_below n f)
      (λ k lt. le-greatest_below n f (turn k) (turns.within k lt)) in
      let high : greatest_below n f ≤ greatest_below n (λ k. f (turn k)) =
      greatest_below-le n f (greatest_below n (λ k. f (turn k))) (λ k lt.
      omega (
        arith,
        ap f (turns.back k),
        le-greatest_below n (λ k. f (turn k)) (turn k)
            (turns.within k lt),
      )) in
      omega (arith, low, high)

  -- ---- sets of indexes, renumbered
  same-number : (i k : ℕ) → (k == turn i) ≡ (turn k == i)
  same-number i k = elim (cases_eq k (turn i)) [
    | inl e ↦ eq-eqb k (turn i) e ∙ sym (eq-eqb (turn k) i (ap turn e ∙ turns.back i))
    | inr ne ↦ ne_eqb k (turn i) ne
        ∙ sym (ne_eqb (turn k) i (λ e. ne (sym (turns.back k) ∙ ap turn e)))
  ]

  with-turned : (H : Indexes) (i : ℕ)
      → with_index (λ k. H (turn k)) (turn i) ≡ (λ k. with_index H i (turn k))
  with-turned H i = fun_ext (λ k. ap (λ b. b || H (turn k)) (same-number i k))

  among-turned : (order : List ℕ) → among (map turn order) ≡ (λ k. among order (turn k))
  among-turned order = fun_ext (λ k. along order k)
    where
      along : (xs : List ℕ) (k : ℕ) → among (map turn xs) k ≡ among xs (turn k)
      along [] k = refl
      along (x ∷ xs) k = rw (along xs k, ← same-number k x) refl

  count-turned : (order : List ℕ) (k : ℕ)
      → count_by (λ x. x == k) (map turn order) ≡ count_by (λ x. x == turn k) order
  count-turned [] k = refl
  count-turned (x ∷ xs) k =
      sum_by-cons (λ y. cond (y == k) 1 0) (turn x) (map turn xs)
      ∙ rw (count-turned xs k, ← same-number k x)
      (sym (sum_by-cons (λ y. cond (y == turn k) 1 0) x xs))

  below-turned : (k : ℕ) → below n (turn k) ≡ below n k
  below-turned k = elim (cases_lt k n) [
    | inl lt ↦ lt-ltb (turn k) n (turns.within k lt) ∙ sym (lt-ltb k n lt)
    | inr past ↦ elim (cases_lt (turn k) n) [
      | inl lt ↦ let lt' : k < n = subst (λ j. j < n) (turns.back k) (turns.within (turn k) lt) in
          absurd (omega arith)
      | inr past' ↦ le-ltb (turn k) n past' ∙ sym (le-ltb k n past)
    ]
  ]

-- ---- the analysis of a renumbered set
module _ (turn : ℕ → ℕ) (U V : List Task) (are : AreRenumbered turn U V) where
  -- what is gathered of the numbers of one set, and of those of the other
  along : {A : Type 0} (gather : ℕ → (ℕ → A) → A) (f g : ℕ → A)
      → gather (length U) (λ k. g (turn k)) ≡ gather (length U) g
      → ((k : ℕ) → f k ≡ g (turn k)) → gather (length V) f ≡ gather (length U) g
  along gather f g turned same = ap (λ m. gather m f) are.count
      ∙ ap (gather (length U)) (fun_ext same) ∙ turned

  reaches-turned : (X : Indexes) (s : CriticalSection)
      → reaches V (λ k. X (turn k)) s ≡ reaches U X s
  reaches-turned X s =
      let p : Indexes = λ k. X k && shares_lock (task_at U k) s in
      along some_below (λ k. X (turn k) && shares_lock (task_at V k) s) p
      (some-turned (length U) turn are.turns p)
      (λ k. ap (λ (t : Task). X (turn k) && shares_lock t s) (are.same k).1)

  longest-turned : (X : Indexes) (t : Task)
      → longest_reached V (λ k. X (turn k)) t ≡ longest_reached U X t
  longest-turned X t = ap (λ (r : CriticalSection → Bool). greatest_of
      (λ (s : CriticalSection). cond (r s) s.len 0) t.sections) (fun_ext (reaches-turned X))

  blocking-turned : (i : ℕ) (H : Indexes)
      → blocking_of V (turn i) (λ k. H (turn k)) ≡ blocking_of U i H
  unfolding blocking_of
  blocking-turned i H =
      let W : Indexes = with_index H i in
      let f : ℕ → ℕ = λ k. cond (W k) 0 (longest_reached U W (task_at U k)) in
      ap (λ (X : Indexes). greatest_below (length V) (λ k. cond (X k) 0
      (longest_reached V X (task_at V k)))) (with-turned (length U) turn are.turns H i)
      ∙ along greatest_below (λ k. cond (W (turn k)) 0
      (longest_reached V (λ j. W (turn j)) (task_at V k))) f
      (greatest-turned (length U) turn are.turns f)
      (λ k. ap (λ m. cond (W (turn k)) 0 m) (longest-turned W (task_at V k)
      ∙ ap (λ (t : Task). longest_reached U W t) (are.same k).1))

  interference-turned : (H : Indexes) (t : ℕ)
      → sum_below (length V) (λ h. cond (H (turn h)) (interference_of (task_at V h) t) 0)
      ≡ sum_below (length U) (λ h. cond (H h) (interference_of (task_at U h) t) 0)
  interference-turned H t =
      let f : ℕ → ℕ = λ h. cond (H h) (interference_of (task_at U h) t) 0 in
      along sum_below (λ h. cond (H (turn h)) (interference_of (task_at V h) t) 0) f
      (are.turns.sums f)
      (λ h. ap (λ (x : Task). cond (H (turn h)) (interference_of x t) 0) (are.same h).1)

  interrupts-turned : (t : ℕ) → interrupts_within V t ≡ interrupts_within U t
  unfolding interrupts_within
  interrupts-turned t =
      along sum_below (λ k. interrupts_of t (task_at V k)) (λ k. interrupts_of t (task_at U k))
      (are.turns.sums (λ k. interrupts_of t (task_at U k)))
      (λ k. ap (λ (x : Task). interrupts_of t x) (are.same k).1)

  own : (i : ℕ) → (weight : ℕ) × (task_at V (turn i) ≡ weighing (task_at U i) weight)
  own i =
      let there = are.same (turn i) in
      (there.0, there.1 ∙ ap (λ k. weighing (task_at U k) there.0) (are.turns.back i))

  demand-turned : (i : ℕ) (H : Indexes) (t : ℕ)
      → demand_of V (turn i) (λ k. H (turn k)) t ≡ demand_of U i H t
  unfolding demand_of
  demand-turned i H t = omega (
    arith,
    ap (λ (x : Task). x.cost) (own i).1,
    blocking-turned i H,
    interference-turned H t,
    interrupts-turned t,
  )

  bound-turned : (i : ℕ) (H : Indexes) → must_outrank_any V (turn i) (λ k. H (turn k)) ≡ must_outrank_any U i H
  unfolding must_outrank_any
  bound-turned i H =
      let p : Indexes = λ k. H k && must_outrank U i k in
      along some_below (λ k. H (turn k) && must_outrank V (turn i) k) p
      (some-turned (length U) turn are.turns p) (λ k. rw ((are.same k).1, (own i).1) refl)

  Stands-turned : (i : ℕ) (H : Indexes) → Stands U i H → Stands V (turn i) (λ k. H (turn k))
  Stands-turned i H stands =
      let passes = stands.0 in
      let limit = ap (λ (t : Task). limit_of t) (own i).1 in (
        (
          passes.0,
          passes.1,
          omega (arith, passes.2, limit),
          omega (arith, demand-turned i H passes.0, passes.3),
        ),
        bound-turned i H ∙ stands.1,
      )

  AllStand-turned : (order : List ℕ) → AllStand U order → AllStand V (map turn order)
  AllStand-turned [] all = tt
  AllStand-turned (i ∷ above) all = (
    rw (among-turned (length U) turn are.turns above) (Stands-turned i (among above) all.0),
    AllStand-turned above all.1,
  )

  pub IsPassingOrder-turned : (order : List ℕ) → IsPassingOrder U order
      → IsPassingOrder V (map turn order)
  IsPassingOrder-turned order passing = record {
    each_once = λ k.
        count-turned (length U) turn are.turns order k
        ∙ passing.each_once (turn k)
        ∙ ap (λ b. cond b 1 0) (below-turned (length U) turn are.turns k
        ∙ ap (λ m. below m k) (sym are.count));
    each_stands = AllStand-turned order passing.each_stands;
  }

  -- the other way
  pub renumbered-back : AreRenumbered turn V U
  renumbered-back = record {
    turns = subst (λ m. IsRenumbering m turn) (sym are.count) are.turns;
    count = sym are.count;
    same = λ k.
        ((task_at U k).weight, ap (λ (t : Task). weighing t (task_at U k).weight) (sym (own k).1));
  }

  names-turned : (order : List ℕ) → order_names V (map turn order) ≡ order_names U order
  names-turned [] = refl
  names-turned (i ∷ above) =
      ap (λ (t : Task). t.name ∷ order_names V (map turn above)) (own i).1
      ∙ ap (λ (ns : List (List ℕ)). (task_at U i).name ∷ ns) (names-turned above)

  pub KeepsOrders-turned : KeepsOrders U V
  KeepsOrders-turned order passing =
      (map turn order, IsPassingOrder-turned order passing, names-turned order)

-- ---- orders that are kept
pub KeepsOrders-self : (U : List Task) → KeepsOrders U U
KeepsOrders-self U order passing = (order, passing, refl)

pub KeepsOrders-trans : (U V W : List Task) → KeepsOrders U V → KeepsOrders V W → KeepsOrders U W
KeepsOrders-trans U V W first second order passing =
    let there = first order passing in
    let last = second there.0 there.1 in
    (last.0, last.1, last.2 ∙ there.2)

pub IsFeasible-kept : (U V : List Task) → KeepsOrders U V → IsFeasible U → IsFeasible V
IsFeasible-kept U V keeps feasible = let there = keeps feasible.0 feasible.1 in (there.0, there.1)

-- ---- an exchange of two numbers
abbrev exchange : ℕ → ℕ → ℕ → ℕ
exchange a b k = cond (k == a) b (cond (k == b) a k)

exchange-first : (a b k : ℕ) → k ≡ a → exchange a b k ≡ b
exchange-first a b k e = ap (λ c. cond c b (cond (k == b) a k)) (eq-eqb k a e)

exchange-second : (a b k : ℕ) → k ≡ b → exchange a b k ≡ a
exchange-second a b k e = grind (arith, nat_tests)

exchange-other : (a b k : ℕ) → (k ≡ a → ⊥) → (k ≡ b → ⊥) → exchange a b k ≡ k
exchange-other a b k ne ne' = rw (ne_eqb k a ne, ne_eqb k b ne') refl

exchange-back : (a b k : ℕ) → exchange a b (exchange a b k) ≡ k
exchange-back a b k = grind (arith, nat_tests)

exchange-within : (n a b k : ℕ) → a < n → b < n → k < n → exchange a b k < n
exchange-within n a b k la lb lt = grind (arith, nat_tests)

exchange-sums : (n a b : ℕ) (f : ℕ → ℕ) → a < n → b < n
    → sum_below n (λ k. f (exchange a b k)) ≡ sum_below n f
exchange-sums n a b f la lb = elim (cases_eq a b) [
  | inl e ↦ sum_below-same n (λ k. f (exchange a b k)) f (λ k lt. elim (cases_eq k a) [
    | inl is ↦ ap f (exchange-first a b k is ∙ sym e ∙ sym is)
    | inr ne ↦ ap f (exchange-other a b k ne (λ is. ne (is ∙ sym e)))
  ])
  | inr apart ↦
      let mid : ℕ → ℕ = λ k. cond (k == a) (f b) (f k) in
      let mid-a : mid a ≡ f b = ap (λ c. cond c (f b) (f a)) (eq-eqb a a refl) in
      let mid-b : mid b ≡ f b = ap (λ c. cond c (f b) (f b)) (ne_eqb b a (λ e. apart (sym e))) in
      let first =
      sum_below-one n mid f a la (λ k _ ne. ap (λ c. cond c (f b) (f k)) (ne_eqb k a ne)) in
      let second =
      sum_below-one n (λ k. f (exchange a b k)) mid b lb (λ k _ ne. elim (cases_eq k a) [
        | inl is ↦ ap f (exchange-first a b k is)
            ∙ sym (ap (λ c. cond c (f b) (f k)) (eq-eqb k a is))
        | inr ne' ↦ ap f (exchange-other a b k ne' ne)
            ∙ sym (ap (λ c. cond c (f b) (f k)) (ne_eqb k a ne'))
      ]) in
      omega (arith, first, second, mid-a, mid-b, ap f (exchange-second a b b refl))
]

IsRenumbering-exchange : (n a b : ℕ) → a < n → b < n → IsRenumbering n (exchange a b)
IsRenumbering-exchange n a b la lb = record {
  back = exchange-back a b;
  within = λ k lt. exchange-within n a b k la lb lt;
  sums = λ f. exchange-sums n a b f la lb;
}

-- ---- two tasks exchanged
task-exchanged : (U : List Task) (a b k : ℕ) → a < length U → b < length U
    → task_at (swap U a b) k ≡ task_at U (exchange a b k)
task-exchanged U a b k la lb =
    let W : List Task = slice_set U a (task_at U b) in
    let lw : b < length W = omega (arith, length-set U a (task_at U b)) in
    rw (← swap_is U a b no_task la lb) (elim (cases_eq k b) [
      | inl e ↦ rw (exchange-second a b k e, e) (get_or-set_same W b (task_at U a) no_task lw)
      | inr ne ↦ get_or-set_other W b k (task_at U a) no_task ne ∙ elim (cases_eq k a) as
          (λ _. task_at W k ≡ task_at U (exchange a b k)) [
            | inl e ↦
                rw (exchange-first a b k e, e) (get_or-set_same U a (task_at U b) no_task la)
            | inr ne' ↦
                rw (exchange-other a b k ne' ne) (get_or-set_other U a k (task_at U b) no_task ne')
          ]
    ])

AreRenumbered-exchange : (U : List Task) (a b : ℕ) → a < length U → b < length U
    → AreRenumbered (exchange a b) U (swap U a b)
AreRenumbered-exchange U a b la lb = record {
  turns = IsRenumbering-exchange (length U) a b la lb;
  count = length-swap U a b;
  same = λ k. ((task_at U (exchange a b k)).weight, task-exchanged U a b k la lb);
}

-- the passing orders of each are those of the other
abbrev pub ShareOrders : List Task → List Task → Type 0
ShareOrders U V = KeepsOrders U V × KeepsOrders V U

ShareOrders-turned : (turn : ℕ → ℕ) (U V : List Task) → AreRenumbered turn U V → ShareOrders U V
ShareOrders-turned turn U V are =
    (KeepsOrders-turned turn U V are, KeepsOrders-turned turn V U (renumbered-back turn U V are))

ShareOrders-trans : (U V W : List Task) → ShareOrders U V → ShareOrders V W → ShareOrders U W
ShareOrders-trans U V W first second =
    (KeepsOrders-trans U V W first.0 second.0, KeepsOrders-trans W V U second.1 first.1)

ShareOrders-permutation : (U V : List Task) → IsPermutation U V → ShareOrders U V
ShareOrders-permutation U V =
    IsPermutation-keeps U (λ (xs : List Task). ShareOrders U xs)
    (KeepsOrders-self U, KeepsOrders-self U) (λ xs a b la lb before.
    ShareOrders-trans U xs (swap xs a b) before (ShareOrders-turned (exchange a b) xs (swap xs a b)
    (AreRenumbered-exchange xs a b la lb))) V

-- ---- other weights
task-weighed : (weight : Task → ℕ) (xs : List Task) (k : ℕ) → (n : ℕ)
    × (task_at (weighed weight xs) k ≡ weighing (task_at xs k) n)
task-weighed weight [] k = (0, refl)
task-weighed weight (t ∷ ts) zero = (weight t, refl)
task-weighed weight (t ∷ ts) (suc k) = task-weighed weight ts k

AreRenumbered-weighed : (weight : Task → ℕ) (U : List Task)
    → AreRenumbered (λ k. k) U (weighed weight U)
AreRenumbered-weighed weight U = record {
  turns = record { back = λ k. refl; within = λ k lt. lt; sums = λ f. refl };
  count = length-map U (λ (t : Task). weighing t (weight t));
  same = task-weighed weight U;
}

ShareOrders-weighed : (weight : Task → ℕ) (U V : List Task) → IsByRank (weighed weight U) V
    → ShareOrders U V
ShareOrders-weighed weight U V is =
    ShareOrders-trans U (weighed weight U) V (ShareOrders-turned (λ k. k) U (weighed weight U)
    (AreRenumbered-weighed weight U)) (ShareOrders-permutation (weighed weight U) V is.permutation)

pub ShareOrders-preferred : (preference : Preference) (chains : List WrittenData) (U V : List Task)
    → IsPreferred preference chains U V → ShareOrders U V
ShareOrders-preferred Weights chains U V same = rw same (KeepsOrders-self U, KeepsOrders-self U)
ShareOrders-preferred Deadline chains U V is =
    ShareOrders-weighed (λ t. longer_limits U (limit_of t)) U V is
ShareOrders-preferred Chains chains U V is = ShareOrders-weighed (lower_tasks chains U) U V is

pub IsFeasible-preferred : (preference : Preference) (chains : List WrittenData) (U V : List Task)
    → IsPreferred preference chains U V → IsFeasible U ↔ IsFeasible V
IsFeasible-preferred preference chains U V preferred =
    let share = ShareOrders-preferred preference chains U V preferred in
    (IsFeasible-kept U V share.0, IsFeasible-kept V U share.1)

-- ---- the same tasks
unweighed-all : (weight : Task → ℕ) (xs : List Task) → unweighed (weighed weight xs) ≡ unweighed xs
unweighed-all weight [] = refl
unweighed-all weight (t ∷ ts) =
    ap (λ (us : List Task). weighing t 0 ∷ us) (unweighed-all weight ts)

unweighed-weighed : (weight : Task → ℕ) (U V : List Task) → IsByRank (weighed weight U) V
    → IsPermutation (unweighed U) (unweighed V)
unweighed-weighed weight U V is = rw (unweighed-all weight U)
    at (IsPermutation-map (λ (t : Task). weighing t 0) (weighed weight U) V is.permutation)

pub unweighed-preferred : (preference : Preference) (chains : List WrittenData) (U V : List Task)
    → IsPreferred preference chains U V → IsPermutation (unweighed U) (unweighed V)
unweighed-preferred Weights chains U V same = rw same (IsPermutation-refl (unweighed U))
unweighed-preferred Deadline chains U V is =
    unweighed-weighed (λ t. longer_limits U (limit_of t)) U V is
unweighed-preferred Chains chains U V is = unweighed-weighed (lower_tasks chains U) U V is
