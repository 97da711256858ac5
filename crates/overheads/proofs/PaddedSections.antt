-- Sections with what the node takes: one after the other, as many, and as they were where it takes nothing.
use Rattle.std.proofs.Common.{◌≡◌, ℕ, zero, suc, ◌+◌, ◌-◌, ◌<◌, ◌≤◌, List, [], ◌∷◌, ◌++◌, length}
use Rattle.std.proofs.Common.{get_or, take, refl, sym, ◌∙◌, ap, arith}
use Rattle.std.proofs.Math.Nat.{mul-le-mul_right, zero-mul}
use Rattle.std.proofs.lemmas.List.{take_more}
use Rattle.std.proofs.lemmas.List.Sums.{sum_by-cons, sum_by_more_le}
use Rattle.task_sheet.specs.Sheet.{CriticalSection, Task, AreSections, IsValidSheet, no_overhead}
use Rattle.task_sheet.specs.Overheads.{calls, calls_in}
use Rattle.task_sheet.specs.declared.node.Node.{Node}
use Rattle.overheads.specs.Padding.{padded_section, padded_sections, padded_cost}

-- ---- the calls
pub calls-within : (node : Node) (xs : List CriticalSection) (i : ℕ) (x : CriticalSection)
    → i < length xs → x ≡ get_or xs i x
    → calls_in node (take i xs) + calls node x ≤ calls_in node xs
calls-within node xs i x lt is = rw is (sum_by_more_le (calls node) xs i x lt)

pub calls-mono : (light heavy : Node) (x : CriticalSection) → light.lock ≤ heavy.lock
    → calls light x ≤ calls heavy x
calls-mono light heavy x le = mul-le-mul_right (length x.locks) le

pub calls_in-mono : (light heavy : Node) (xs : List CriticalSection) → light.lock ≤ heavy.lock
    → calls_in light xs ≤ calls_in heavy xs
calls_in-mono light heavy [] le = omega arith
calls_in-mono light heavy (x ∷ xs) le =
    omega (
      arith,
      calls-mono light heavy x le,
      calls_in-mono light heavy xs le,
      sum_by-cons (calls light) x xs,
      sum_by-cons (calls heavy) x xs,
    )

calls-none : (x : CriticalSection) → calls no_overhead x ≡ 0
calls-none x = zero-mul (length x.locks)

pub calls_in-none : (xs : List CriticalSection) → calls_in no_overhead xs ≡ 0
calls_in-none [] = refl
calls_in-none (x ∷ xs) =
    omega (arith, calls-none x, calls_in-none xs, sum_by-cons (calls no_overhead) x xs)

-- ---- the sections
pub sections-are : (node : Node) (before from start cost top : ℕ) (xs : List CriticalSection)
    → AreSections start cost xs → from ≤ start + before → cost + before + calls_in node xs ≤ top
    → AreSections from top (padded_sections node before xs)
sections-are node before from start cost top [] are le fits = tt
sections-are node before from start cost top (x ∷ xs) are le fits =
    let sum = sum_by-cons (calls node) x xs in (
      record {
        named = are.0.named;
        some = are.0.some;
        few = are.0.few;
        distinct = are.0.distinct;
        runs = omega (arith, are.0.runs);
        apart = omega (arith, are.0.apart, le);
        within = omega (arith, are.0.within, fits, sum);
      },
      sections-are node (before + calls node x) (x.at + before + (x.len + calls node x))
          (x.at + x.len) cost top xs are.1 (omega arith) (omega (arith, fits, sum)),
    )

pub count-sections : (node : Node) (before : ℕ) (xs : List CriticalSection)
    → length (padded_sections node before xs) ≡ length xs
count-sections node before [] = refl
count-sections node before (x ∷ xs) = ap suc (count-sections node (before + calls node x) xs)

section-none : (before : ℕ) (x : CriticalSection) → before ≡ 0
    → padded_section no_overhead before x ≡ x
section-none before x none =
    let at : x.at + before ≡ x.at = omega (arith, none) in
    let len : x.len + calls no_overhead x ≡ x.len = omega (arith, calls-none x) in
    λ i. record x { at = at i; len = len i }

pub sections-none : (before : ℕ) (xs : List CriticalSection) → before ≡ 0
    → padded_sections no_overhead before xs ≡ xs
sections-none before [] none = refl
sections-none before (x ∷ xs) none =
    ap (λ (y : CriticalSection). y ∷ padded_sections no_overhead (before + calls no_overhead x) xs)
    (section-none before x none)
    ∙ ap (λ (ys : List CriticalSection). x ∷ ys)
    (sections-none (before + calls no_overhead x) xs (omega (arith, none, calls-none x)))

-- ---- one section more
sections-push : (node : Node) (before : ℕ) (xs : List CriticalSection) (y : CriticalSection)
    → padded_sections node before (xs ++ y ∷ []) ≡ padded_sections node before xs
    ++ padded_section node (before + calls_in node xs) y ∷ []
sections-push node before [] y =
    let same : before ≡ before + calls_in node [] = omega arith in
    ap (λ b. padded_section node b y ∷ []) same
sections-push node before (x ∷ xs) y =
    let same : before + calls node x + calls_in node xs ≡ before + calls_in node (x ∷ xs) =
    omega (arith, sum_by-cons (calls node) x xs) in
    ap (λ (ss : List CriticalSection). padded_section node before x ∷ ss)
    (sections-push node (before + calls node x) xs y ∙ ap (λ b. padded_sections node
    (before + calls node x) xs ++ padded_section node b y ∷ []) same)

pub sections-step : (node : Node) (before : ℕ) (items : List CriticalSection) (i : ℕ)
    (x y : CriticalSection) (b : ℕ) (xs ys : List CriticalSection) → i < length items
    → x ≡ get_or items i x
    → b ≡ before + calls_in node (take i items) → xs ≡ padded_sections node before (take i items)
    → y ≡ padded_section node b x → ys ≡ xs ++ y ∷ []
    → ys ≡ padded_sections node before (take (i + 1) items)
sections-step node before items i x y b xs ys lt is begins held pads pushed =
    pushed ∙ rw (held, pads, begins, take_more items i x lt, ← is)
    (sym (sections-push node before (take i items) x))

-- a section lies within the cost
pub section-within : (from cost : ℕ) (xs : List CriticalSection) (i : ℕ) (x : CriticalSection)
    → AreSections from cost xs → i < length xs → x ≡ get_or xs i x → x.at + x.len ≤ cost
section-within from cost [] i x are lt is = absurd (omega arith)
section-within from cost (y ∷ ys) zero x are lt is = rw is are.0.within
section-within from cost (y ∷ ys) (suc i) x are lt is =
    section-within (y.at + y.len) cost ys i x are.1 (omega arith) is

-- and what is put into it, within the longest period
pub section-fits : (node : Node) (t : Task) (items : List CriticalSection) (i : ℕ)
    (x : CriticalSection) (before : ℕ) → IsValidSheet t → padded_cost node t ≤ t.period
    → items ≡ t.sections → i < length items
    → x ≡ get_or items i x → before ≡ node.job - node.release + calls_in node (take i items)
    → x.at + x.len + (before + calls node x) ≤ 10000000
section-fits node t items i x before valid room same lt is begins =
    omega (
      arith,
      section-within 0 t.cost items i x (rw same valid.sections) lt is,
      calls-within node items i x lt is,
      ap (calls_in node) same,
      room,
      begins,
      valid.period_to,
    )
