-- To ask less takes no order away, in each sense of less that sums, greatest values and fewer jobs keep.
use Rattle.std.proofs.Common.{◌≡◌, ℕ, zero, suc, ◌+◌, ◌*◌, ◌<◌, ◌≤◌, Bool, true, false, cond, ◌&&◌, max}
use Rattle.std.proofs.Common.{◌↔◌, List, [], ◌∷◌, length, sum_by, Option, Some, None, refl, ◌∙◌, sym, ap, subst, arith}
use Rattle.std.proofs.Math.Nat.{mul-le-mul, mul-le-mul_left}
use Rattle.std.proofs.Math.Path.{fun_ext}
use Rattle.std.specs.Int.{div_ceil}
use Rattle.std.specs.List.{list_any, AllZip}
use Rattle.std.proofs.lemmas.Grind.{common_steps}
use Rattle.std.proofs.lemmas.List.Sums.{sum_by-cons}
use Rattle.task_sheet.specs.Demand.{jobs_within}
use Rattle.task_sheet.specs.declared.node.Interrupt.{Interrupt}
use Rattle.task_sheet.specs.declared.node.Node.{Node}
use Rattle.task_sheet.proofs.Common.{CriticalSection, Task, task_at, Indexes, with_index, some_below}
use Rattle.task_sheet.proofs.Common.{sum_below, greatest_below, greatest_of, names_lock, uses}
use Rattle.task_sheet.proofs.Common.{shares_lock, reaches, longest_reached, blocking_of, limit_of}
use Rattle.task_sheet.proofs.Common.{interrupt_within, interrupts_of, interrupts_within, demand_of}
use Rattle.task_sheet.proofs.Common.{interference_within, must_outrank, must_outrank_any, Passes}
use Rattle.task_sheet.proofs.Common.{Stands, IsPassingOrder, IsFeasible}
use Rattle.task_sheet.proofs.Releases.{div_ceil-le, div_ceil-mono}
use Rattle.latest_first.specs.Tested.{StandsBy, IsPassingBy}
use Rattle.latest_first.proofs.LaterLimits.{PassesWhere, covers-eased}
use Rattle.latest_first.proofs.OneOrder.{Covering, IsPassingBy-to, IsPassing-by}
use Rattle.ceilings.specs.Holds.{longest_outside}
use Rattle.other_numbers.specs.Easier.{IsShorter, IsCheaper, AreEasierBy, IsEasier, AreEasier}
use Rattle.other_numbers.specs.InOrder.{PassesIn, PassesInBy}

-- a sense of no more that these keep
pub record IsKept (AtMost : ℕ → ℕ → Type 0) : Type 0 where
  pub none : AtMost 0 0
  pub add : (a b x y : ℕ) → AtMost a x → AtMost b y → AtMost (a + b) (x + y)
  pub greatest : (a b x y : ℕ) → AtMost a x → AtMost b y → AtMost (max a b) (max x y)
  pub jobs : (n m a x : ℕ) → n ≤ m → AtMost a x → AtMost (n * a) (m * x)

-- sets of as many tasks, of the same names
pub must_outrank_any-same : (V U : List Task) → length V ≡ length U
    → ((k : ℕ) → (task_at V k).name ≡ (task_at U k).name)
    → ((k : ℕ) → (task_at V k).outranks ≡ (task_at U k).outranks) → (i : ℕ) (H : Indexes)
    → must_outrank_any V i H ≡ must_outrank_any U i H
unfolding must_outrank_any
must_outrank_any-same V U count names outranks i H =
    ap (λ n. some_below n (λ k. H k && must_outrank V i k)) count
    ∙ ap (λ (p : ℕ → Bool). some_below (length U) (λ k. H k && p k))
    (fun_ext (λ k. rw (names k, outranks k, outranks i) refl))

module _ (AtMost : ℕ → ℕ → Type 0) (kept : IsKept AtMost) where
  -- ---- choices, sums, greatest values
  cond-less : (b : Bool) (a c x y : ℕ) → AtMost a x → AtMost c y → AtMost (cond b a c) (cond b x y)
  cond-less true a c x y le le' = le
  cond-less false a c x y le le' = le'

  sum-less : (n : ℕ) (f g : ℕ → ℕ) → ((k : ℕ) → AtMost (f k) (g k))
      → AtMost (sum_below n f) (sum_below n g)
  sum-less zero f g each = kept.none
  sum-less (suc n) f g each = kept.add _ _ _ _ (sum-less n f g each) (each n)

  greatest-less : (n : ℕ) (f g : ℕ → ℕ) → ((k : ℕ) → AtMost (f k) (g k))
      → AtMost (greatest_below n f) (greatest_below n g)
  greatest-less zero f g each = kept.none
  greatest-less (suc n) f g each = kept.greatest _ _ _ _ (greatest-less n f g each) (each n)

  -- ---- interrupts and sections, one by one
  interrupts-less : (t : ℕ) (xs ys : List Interrupt) → AllZip (IsCheaper AtMost) xs ys
      → AtMost (sum_by (interrupt_within t) xs) (sum_by (interrupt_within t) ys)
  interrupts-less t [] [] cheap = kept.none
  interrupts-less t [] (y ∷ ys) cheap = absurd cheap
  interrupts-less t (x ∷ xs) [] cheap = absurd cheap
  interrupts-less t (x ∷ xs) (y ∷ ys) (first, cheap) =
      rw (sum_by-cons (interrupt_within t) x xs, sum_by-cons (interrupt_within t) y ys)
      (kept.add _ _ _ _ (kept.jobs _ _ _ _ (first.rarer t) first.cost) (interrupts-less t xs ys cheap))

  uses-same : (xs ys : List CriticalSection) (lock : List ℕ) → AllZip (IsShorter AtMost) xs ys
      → list_any (λ (s : CriticalSection). names_lock s lock) xs
      ≡ list_any (λ (s : CriticalSection). names_lock s lock) ys
  uses-same [] [] lock short = refl
  uses-same [] (y ∷ ys) lock short = absurd short
  uses-same (x ∷ xs) [] lock short = absurd short
  uses-same (x ∷ xs) (y ∷ ys) lock (first, short) = rw (first.locks, uses-same xs ys lock short) refl

  longest-of : (p : List (List ℕ) → Bool) (xs ys : List CriticalSection)
      → AllZip (IsShorter AtMost) xs ys
      → AtMost (greatest_of (λ (s : CriticalSection). cond (p s.locks) s.len 0) xs)
      (greatest_of (λ (s : CriticalSection). cond (p s.locks) s.len 0) ys)
  longest-of p [] [] short = kept.none
  longest-of p [] (y ∷ ys) short = absurd short
  longest-of p (x ∷ xs) [] short = absurd short
  longest-of p (x ∷ xs) (y ∷ ys) (first, short) = rw first.locks
      (kept.greatest _ _ _ _ (cond-less (p y.locks) _ _ _ _ first.len kept.none) (longest-of p xs ys short))

  -- ---- blocking, which speaks of sections alone: one is reached for its locks
  module _ (V U : List Task) (count : length V ≡ length U)
      (short : (k : ℕ) → AllZip (IsShorter AtMost) (task_at V k).sections (task_at U k).sections) where
    reaches-same : (X : Indexes) → reaches V X ≡ reaches U X
    reaches-same X = fun_ext (λ s. ap (λ n. some_below n (λ k. X k && shares_lock (task_at V k) s))
        count ∙ ap (λ (p : ℕ → Bool). some_below (length U) (λ k. X k && p k)) (fun_ext (λ k.
        ap (λ (p : List ℕ → Bool). list_any p s.locks) (fun_ext (λ lock. uses-same _ _ lock
        (short k))))))

    reached-less : (X : Indexes) (k : ℕ)
        → AtMost (longest_reached V X (task_at V k)) (longest_reached U X (task_at U k))
    reached-less X k = subst (λ (r : CriticalSection → Bool). AtMost (greatest_of (λ s. cond
        (r s) s.len 0) (task_at V k).sections) (longest_reached U X (task_at U k)))
        (sym (reaches-same X)) (longest-of (λ locks. some_below (length U)
        (λ k. X k && list_any (λ lock. uses (task_at U k) lock) locks)) _ _ (short k))

    pub outside-less : (X : Indexes) → AtMost (longest_outside V X) (longest_outside U X)
    outside-less X =
        subst (λ n. AtMost (longest_outside V X) (greatest_below n (λ k. cond (X k) 0
        (longest_reached U X (task_at U k))))) count
        (greatest-less (length V) _ _ (λ k. cond-less (X k) _ _ _ _ kept.none (reached-less X k)))

    pub blocking-less : (i : ℕ) (H : Indexes) → AtMost (blocking_of V i H) (blocking_of U i H)
    unfolding blocking_of
    blocking-less i H = outside-less (with_index H i)

  -- ---- a set that asks less
  module _ (V U : List Task) (easy : AreEasierBy AtMost V U) where
    pub blocking-easier : (i : ℕ) (H : Indexes) → AtMost (blocking_of V i H) (blocking_of U i H)
    blocking-easier = blocking-less V U easy.count (λ k. (easy.each k).sections)

    pub interference-easier : (H : Indexes) (t : ℕ)
        → AtMost (interference_within V H t) (interference_within U H t)
    interference-easier H t = rw easy.count (sum-less (length U) _ _ (λ k. cond-less (H k) _ _ _ _
        (kept.jobs _ _ _ _ ((easy.each k).rarer t) (easy.each k).cost) kept.none))

    pub interrupts-easier : (t : ℕ) → AtMost (interrupts_within V t) (interrupts_within U t)
    unfolding interrupts_within
    interrupts-easier t = rw easy.count (sum-less (length U) (λ k. interrupts_of t (task_at V k))
        (λ k. interrupts_of t (task_at U k)) (λ k. kept.add _ _ _ _
        (kept.jobs _ _ _ _ ((easy.each k).rarer t) (easy.each k).release)
        (interrupts-less t _ _ (easy.each k).interrupts)))

    pub demand-easier : (i : ℕ) (H : Indexes) (t : ℕ) → AtMost (demand_of V i H t) (demand_of U i H t)
    unfolding demand_of
    demand-easier i H t = kept.add _ _ _ _ (kept.add _ _ _ _
        (kept.add _ _ _ _ (easy.each i).cost (blocking-easier i H)) (interference-easier H t))
        (interrupts-easier t)

    pub limit-easier : (i : ℕ) → limit_of (task_at U i) ≤ limit_of (task_at V i)
    limit-easier i = omega (arith, (easy.each i).deadline, (easy.each i).jitter)

    -- with a test that a demand which is less passes where the other one passes one
    module _ (Is Other : (need time : ℕ) → Type 0)
        (eased : (low high time : ℕ) → AtMost low high → Is high time → Other low time) where
      pub PassesWhere-easier : (i : ℕ) (H : Indexes) → PassesWhere Is U i H → PassesWhere Other V i H
      PassesWhere-easier i H (t, positive, within, is) = (
        t,
        positive,
        omega (arith, limit-easier i, within),
        eased _ _ t (demand-easier i H t) is,
      )

      pub StandsBy-easier : (i : ℕ) (H : Indexes) → StandsBy (PassesWhere Is U) U i H
          → StandsBy (PassesWhere Other V) V i H
      StandsBy-easier i H stands = (
        PassesWhere-easier i H stands.0,
        must_outrank_any-same V U easy.count (λ k. (easy.each k).name) (λ k. (easy.each k).outranks) i H
            ∙ stands.1,
      )

      pub IsPassingBy-easier : (order : List ℕ) → IsPassingBy (PassesWhere Is U) U order
          → IsPassingBy (PassesWhere Other V) V order
      IsPassingBy-easier =
          IsPassingBy-to (PassesWhere Is U) (PassesWhere Other V) U V easy.count StandsBy-easier

      pub PassesInBy-easier : (order : Option (List ℕ)) → PassesInBy (PassesWhere Is U) order U
          → PassesInBy (PassesWhere Other V) order V
      PassesInBy-easier (Some order) passes = IsPassingBy-easier order passes
      PassesInBy-easier None (order, passing) = (order, IsPassingBy-easier order passing)

-- the analysis is such a test
pub PassesIn-by : (order : Option (List ℕ)) (U : List Task)
    → PassesIn order U ↔ PassesInBy (PassesWhere Covering U) order U
PassesIn-by (Some order) U = IsPassing-by U order
PassesIn-by None U = (
  λ (order, passing). (order, (IsPassing-by U order).0 passing),
  λ (order, passing). (order, (IsPassing-by U order).1 passing),
)

-- ---- no number greater
pub kept-le : IsKept ◌≤◌
kept-le = record {
  none = omega arith;
  add = λ a b x y le le'. omega (arith, le, le');
  greatest = λ a b x y le le'. omega (arith, le, le');
  jobs = λ n m a x fewer le. mul-le-mul fewer le;
}

pub PassesIn-easier : (order : Option (List ℕ)) (V U : List Task) → AreEasier V U → PassesIn order U
    → PassesIn order V
PassesIn-easier order V U easy passes = (PassesIn-by order V).1
    (PassesInBy-easier ◌≤◌ kept-le V U easy Covering Covering covers-eased order ((PassesIn-by order U).0 passes))

module _ (V U : List Task) (easy : AreEasier V U) where
  pub Passes-easier : (i : ℕ) (H : Indexes) → Passes U i H → Passes V i H
  Passes-easier = PassesWhere-easier ◌≤◌ kept-le V U easy Covering Covering covers-eased

  pub Stands-easier : (i : ℕ) (H : Indexes) → Stands U i H → Stands V i H
  Stands-easier = StandsBy-easier ◌≤◌ kept-le V U easy Covering Covering covers-eased

  pub IsPassingOrder-easier : (order : List ℕ) → IsPassingOrder U order → IsPassingOrder V order
  IsPassingOrder-easier order = PassesIn-easier (Some order) V U easy

  pub IsFeasible-easier : IsFeasible U → IsFeasible V
  IsFeasible-easier = PassesIn-easier None V U easy

-- ---- what asks no more
pub jobs-rarer : (long short less more time : ℕ) → 0 < short → short ≤ long → less ≤ more
    → jobs_within long less time ≤ jobs_within short more time
jobs-rarer long short less more time some le late =
    let n = div_ceil (time + less) short in
    let far : time + less ≤ n * short = grind (arith, common_steps) in
    let further : n * short ≤ n * long = mul-le-mul_left n le in
    omega (
      arith,
      div_ceil-le (time + less) long n (omega arith) (omega arith),
      div_ceil-mono (time + less) (time + more) short (omega (arith, late)),
    )

AllZip-refl : {X : Type 0} (R : X → X → Type 0) → ((x : X) → R x x) → (xs : List X) → AllZip R xs xs
AllZip-refl R each [] = tt
AllZip-refl R each (x ∷ xs) = (each x, AllZip-refl R each xs)

pub shorter-refl : (xs : List CriticalSection) → AllZip (IsShorter ◌≤◌) xs xs
shorter-refl = AllZip-refl (IsShorter ◌≤◌) (λ x. record { locks = refl; len = omega arith })

pub cheaper-refl : (xs : List Interrupt) → AllZip (IsCheaper ◌≤◌) xs xs
cheaper-refl = AllZip-refl (IsCheaper ◌≤◌) (λ x. record { rarer = λ time. omega arith; cost = omega arith })

pub outside-same : (V U : List Task) (X : Indexes) → length V ≡ length U
    → ((k : ℕ) → (task_at V k).sections ≡ (task_at U k).sections)
    → longest_outside V X ≡ longest_outside U X
outside-same V U X count same = omega (
  arith,
  outside-less ◌≤◌ kept-le V U count (λ k. rw (same k) (shorter-refl _)) X,
  outside-less ◌≤◌ kept-le U V (sym count) (λ k. rw (same k) (shorter-refl _)) X,
)

pub blocking-same : (V U : List Task) (i : ℕ) (H : Indexes) → length V ≡ length U
    → ((k : ℕ) → (task_at V k).sections ≡ (task_at U k).sections)
    → blocking_of V i H ≡ blocking_of U i H
unfolding blocking_of
blocking-same V U i H = outside-same V U (with_index H i)

-- tasks of the same names, on the same node
pub easier-by : (x y : Task) → x.name ≡ y.name → x.outranks ≡ y.outranks → x.node ≡ y.node
    → x.cost ≤ y.cost → x.jitter ≤ y.jitter
    → ((time : ℕ) → jobs_within x.period x.jitter time ≤ jobs_within y.period y.jitter time)
    → y.deadline ≤ x.deadline → AllZip (IsShorter ◌≤◌) x.sections y.sections
    → AllZip (IsCheaper ◌≤◌) x.interrupts y.interrupts → IsEasier x y
easier-by x y name outranks node cost jitter rarer deadline sections interrupts = record {
  name = name;
  outranks = outranks;
  cost = cost;
  jitter = jitter;
  rarer = rarer;
  deadline = deadline;
  sections = sections;
  release = omega (arith, ap (λ (n : Node). n.release) node);
  interrupts = interrupts;
}

pub easier-same : (x easy hard : Task) → easy ≡ x → hard ≡ x → IsEasier easy hard
easier-same x easy hard e f = rw (e, f) (easier-by x x refl refl refl (omega arith) (omega arith)
    (λ time. omega arith) (omega arith) (shorter-refl x.sections) (cheaper-refl x.interrupts))

pub easier-itself : (U : List Task) → AreEasier U U
easier-itself U = record { count = refl; each = λ k. easier-same (task_at U k) _ _ refl refl }
