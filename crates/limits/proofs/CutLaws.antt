-- Shorter sections of a lock take no order away, and leave a set.
use Rattle.std.proofs.Common.{◌≡◌, ◌↔◌, ℕ, zero, suc, ◌+◌, ◌-◌, ◌<◌, ◌≤◌, inl, inr, Bool, true, false, cond, List, [], ◌∷◌}
use Rattle.std.proofs.Common.{None, Some, Option, length, map, refl, sym, ◌∙◌, ap, subst, arith}
use Rattle.std.proofs.lemmas.Bool.{cases_Bool, cases_lt}
use Rattle.std.proofs.lemmas.List.Elements.{recursion_from_All}
use Rattle.std.specs.List.{All, AllByRecursion, AllZip}
use Rattle.task_sheet.specs.declared.node.Node.{Node}
use Rattle.task_sheet.proofs.Common.{CriticalSection, Task, AreSections, IsValidSheet, no_task, task_at}
use Rattle.task_sheet.proofs.Common.{IsTaskSet, IsByRank, sheets_fault, names_lock, greatest_of}
use Rattle.overheads.proofs.MappedSets.{KeepsRanks, IsByRank-mapped, no_fault-mapped, set-mapped}
use Rattle.overheads.proofs.MappedSets.{count-mapped, mapped-at, mapped-past}
use Rattle.other_numbers.specs.Easier.{IsShorter, IsEasier, AreEasier}
use Rattle.other_numbers.proofs.EasierLaws.{easier-by, easier-same, cheaper-refl}
use Rattle.limits.specs.InOrder.{PassesIn}
use Rattle.limits.specs.Cuts.{Following, none_follows, len_on, longest_on, cut_len, cut_sections}
use Rattle.limits.specs.Cuts.{cut_task, cut, IsMostOn, AnswersMostOn}
use Rattle.limits.proofs.NumberLaws.{PassesIn-easier}

-- ---- one section
cut_len-mono : (lock : List ℕ) (low high : ℕ) (node : Node) (x : CriticalSection) → low ≤ high
    → cut_len lock low node x ≤ cut_len lock high node x
cut_len-mono lock low high node x le = elim (cases_Bool (names_lock x lock)) [
  | inl so ↦ rw so (omega (arith, le))
  | inr out ↦ rw out (omega arith)
]

cut_len-within : (lock : List ℕ) (most : ℕ) (node : Node) (x : CriticalSection)
    → cut_len lock most node x ≤ x.len
cut_len-within lock most node x = elim (cases_Bool (names_lock x lock)) [
  | inl so ↦ rw so (omega arith)
  | inr out ↦ rw out (omega arith)
]

cut_len-some : (lock : List ℕ) (most : ℕ) (node : Node) (x : CriticalSection) → 1 ≤ most
    → 0 < x.len → 0 < cut_len lock most node x
cut_len-some lock most node x some runs = elim (cases_Bool (names_lock x lock)) [
  | inl so ↦ rw so (omega (arith, some, runs))
  | inr out ↦ rw out runs
]

cut_len-whole : (lock : List ℕ) (most : ℕ) (node : Node) (x : CriticalSection)
    → len_on lock node x ≤ most → cut_len lock most node x ≡ x.len
cut_len-whole lock most node x = elim (cases_Bool (names_lock x lock)) [
  | inl so ↦ rw so (λ le. omega (arith, le))
  | inr out ↦ rw out (λ le. refl)
]

-- ---- the sections of a task
shorter-cut : (follows goes : ℕ → Bool) (lock : List ℕ) (low high : ℕ) (node : Node)
    (place other less more : ℕ) (xs : List CriticalSection) → low ≤ high
    → AllZip (IsShorter ◌≤◌) (cut_sections follows lock low node place less xs)
    (cut_sections goes lock high node other more xs)
shorter-cut follows goes lock low high node place other less more [] le = tt
shorter-cut follows goes lock low high node place other less more (x ∷ xs) le = (
  record { locks = refl; len = cut_len-mono lock low high node x le },
  shorter-cut follows goes lock low high node (place + 1) (other + 1)
      (cond (follows place) less 0 + (x.len - cut_len lock low node x))
      (cond (goes other) more 0 + (x.len - cut_len lock high node x)) xs le,
)

count-cut : (follows : ℕ → Bool) (lock : List ℕ) (most : ℕ) (node : Node) (place less : ℕ)
    (xs : List CriticalSection)
    → length (cut_sections follows lock most node place less xs) ≡ length xs
count-cut follows lock most node place less [] = refl
count-cut follows lock most node place less (x ∷ xs) = ap suc (count-cut follows lock most node
    (place + 1) (cond (follows place) less 0 + (x.len - cut_len lock most node x)) xs)

before-less : (b : Bool) (less : ℕ) → cond b less 0 ≤ less
before-less true less = omega arith
before-less false less = omega arith

AreSections-cut : (follows : ℕ → Bool) (lock : List ℕ) (most : ℕ) (node : Node)
    (place less from cost : ℕ) (xs : List CriticalSection) → 1 ≤ most → less ≤ from
    → AreSections from cost xs
    → AreSections (from - less) cost (cut_sections follows lock most node place less xs)
AreSections-cut follows lock most node place less from cost [] some le are = tt
AreSections-cut follows lock most node place less from cost (x ∷ xs) some le are =
    let is = are.0 in
    let before = cond (follows place) less 0 in
    let len = cut_len lock most node x in
    let early : before ≤ less = before-less (follows place) less in
    let short : len ≤ x.len = cut_len-within lock most node x in
    let rest = AreSections-cut follows lock most node (place + 1) (before + (x.len - len)) (x.at + x.len)
    cost xs some (omega (arith, early, le, is.apart, short)) are.1 in
    let end : x.at + x.len - (before + (x.len - len)) ≡ x.at - before + len =
    omega (arith, early, le, is.apart, short) in (
      record {
        named = is.named;
        some = is.some;
        few = is.few;
        distinct = is.distinct;
        runs = cut_len-some lock most node x some is.runs;
        apart = omega (arith, early, is.apart);
        within = omega (arith, short, is.within);
      },
      subst (λ n. AreSections n cost (cut_sections follows lock most node (place + 1)
          (before + (x.len - len)) xs)) end rest,
    )

-- ---- a task, and a set
pub valid-cut : (follows : Following) (lock : List ℕ) (most : ℕ) (t : Task) → 1 ≤ most → IsValidSheet t
    → IsValidSheet (cut_task follows lock most t)
valid-cut follows lock most t some valid = record {
  named = valid.named;
  weight = valid.weight;
  period_from = valid.period_from;
  period_to = valid.period_to;
  deadline_from = valid.deadline_from;
  deadline_to = valid.deadline_to;
  cost_from = valid.cost_from;
  cost_to = valid.cost_to;
  few = omega (arith, valid.few, count-cut (follows t.name) lock most t.node 0 0 t.sections);
  sections = AreSections-cut (follows t.name) lock most t.node 0 0 0 t.cost t.sections some
      (omega arith) valid.sections;
  jitter = valid.jitter;
  outranked = valid.outranked;
  overheads = valid.overheads;
  interrupts = valid.interrupts;
}

keeps-cut : (follows : Following) (lock : List ℕ) (most : ℕ) → KeepsRanks (cut_task follows lock most)
keeps-cut follows lock most = record { ranks = λ x y. refl; names = λ x y. refl }

pub IsByRank-cut : (follows : Following) (lock : List ℕ) (most : ℕ) (U V : List Task) → IsTaskSet U
    → IsByRank (cut follows lock most U) V → V ≡ cut follows lock most U
IsByRank-cut follows lock most U V set by_rank =
    IsByRank-mapped (cut_task follows lock most) (keeps-cut follows lock most) U V set by_rank

pub no_fault-cut : (follows : Following) (lock : List ℕ) (most : ℕ) (U : List Task) → IsTaskSet U
    → sheets_fault (cut follows lock most U) ≡ None
no_fault-cut follows lock most U set =
    no_fault-mapped (cut_task follows lock most) (keeps-cut follows lock most) U set

all-valid : (follows : Following) (lock : List ℕ) (most : ℕ) (U : List Task) → 1 ≤ most
    → All IsValidSheet U → All IsValidSheet (cut follows lock most U)
all-valid follows lock most [] some all k d lt = absurd (omega (arith, lt))
all-valid follows lock most (t ∷ ts) some all zero d lt =
    valid-cut follows lock most t some (all zero d (omega arith))
all-valid follows lock most (t ∷ ts) some all (suc k) d lt =
    all-valid follows lock most ts some (λ n e l. all (suc n) e (omega (arith, l))) k d
    (omega (arith, lt))

pub set-cut : (follows : Following) (lock : List ℕ) (most : ℕ) (U : List Task) → 1 ≤ most
    → IsTaskSet U → IsTaskSet (cut follows lock most U)
set-cut follows lock most U some set =
    set-mapped (cut_task follows lock most) (keeps-cut follows lock most) U set
    (all-valid follows lock most U some set.valid)

easier-cut : (follows goes : Following) (lock : List ℕ) (low high : ℕ) (t : Task) → low ≤ high
    → IsEasier (cut_task follows lock low t) (cut_task goes lock high t)
easier-cut follows goes lock low high t le = easier-by _ _ refl refl refl (omega arith) (omega arith)
    (λ time. omega arith) (omega arith)
    (shorter-cut (follows t.name) (goes t.name) lock low high t.node 0 0 0 0 t.sections le)
    (cheaper-refl t.interrupts)

AreEasier-cut : (follows goes : Following) (lock : List ℕ) (low high : ℕ) (U : List Task) → low ≤ high
    → AreEasier (cut follows lock low U) (cut goes lock high U)
AreEasier-cut follows goes lock low high U le =
    let f = cut_task follows lock low in
    let g = cut_task goes lock high in
    record {
      count = count-mapped f U ∙ sym (count-mapped g U);
      each = λ k. elim (cases_lt k (length U)) [
        | inl lt ↦ rw (mapped-at f U k lt, mapped-at g U k lt)
            (easier-cut follows goes lock low high (task_at U k) le)
        | inr past ↦ easier-same no_task _ _ (mapped-past f U k past) (mapped-past g U k past)
      ];
    }

-- with shorter ones it passes, too, whichever move along
pub passes-cut : (follows goes : Following) (lock : List ℕ) (low high : ℕ) (U : List Task)
    (order : Option (List ℕ)) → low ≤ high → PassesIn order (cut goes lock high U)
    → PassesIn order (cut follows lock low U)
passes-cut follows goes lock low high U order le =
    PassesIn-easier order _ _ (AreEasier-cut follows goes lock low high U le)

-- ---- the longest
sections-whole : (follows : ℕ → Bool) (lock : List ℕ) (most : ℕ) (node : Node) (place : ℕ)
    (xs : List CriticalSection) → greatest_of (len_on lock node) xs ≤ most
    → cut_sections follows lock most node place 0 xs ≡ xs
sections-whole follows lock most node place [] le = refl
sections-whole follows lock most node place (x ∷ xs) le =
    let same : cut_len lock most node x ≡ x.len = cut_len-whole lock most node x (omega (arith, le)) in
    let before : ℕ = cond (follows place) 0 0 in
    let none : before ≡ 0 = omega (arith, before-less (follows place) 0) in
    let at : x.at - before ≡ x.at = omega (arith, none) in
    let less : before + (x.len - cut_len lock most node x) ≡ 0 = omega (arith, none, same) in
    (λ i. record { locks = x.locks; at = at i; len = same i }
    ∷ cut_sections follows lock most node (place + 1) (less i) xs)
    ∙ ap (λ (ys : List CriticalSection). x ∷ ys)
    (sections-whole follows lock most node (place + 1) xs (omega (arith, le)))

-- no section is longer than its task, nor that than any
len_on-within : (lock : List ℕ) (node : Node) (x : CriticalSection) → len_on lock node x ≤ x.len
len_on-within lock node x = elim (cases_Bool (names_lock x lock)) [
  | inl so ↦ rw so (omega arith)
  | inr out ↦ rw out (omega arith)
]

longest_in-short : (lock : List ℕ) (node : Node) (from cost : ℕ) (xs : List CriticalSection)
    → AreSections from cost xs → greatest_of (len_on lock node) xs ≤ cost
longest_in-short lock node from cost [] are = omega arith
longest_in-short lock node from cost (x ∷ xs) are = omega (
  arith,
  len_on-within lock node x,
  are.0.within,
  longest_in-short lock node (x.at + x.len) cost xs are.1,
)

longest_all-short : (lock : List ℕ) (U : List Task) → AllByRecursion IsValidSheet U
    → longest_on lock U ≤ 10000000
longest_all-short lock [] all = omega arith
longest_all-short lock (t ∷ ts) all = omega (
  arith,
  longest_in-short lock t.node 0 t.cost t.sections all.0.sections,
  all.0.cost_to,
  all.0.period_to,
  longest_all-short lock ts all.1,
)

pub longest-short : (lock : List ℕ) (U : List Task) → IsTaskSet U → longest_on lock U ≤ 10000000
longest-short lock U set = longest_all-short lock U (recursion_from_All IsValidSheet U set.valid)

pub cut-whole : (follows : Following) (lock : List ℕ) (most : ℕ) (U : List Task)
    → longest_on lock U ≤ most → cut follows lock most U ≡ U
cut-whole follows lock most [] le = refl
cut-whole follows lock most (t ∷ ts) le =
    let here : cut_task follows lock most t ≡ t =
    ap (λ (xs : List CriticalSection). record t { sections = xs })
    (sections-whole (follows t.name) lock most t.node 0 t.sections (omega (arith, le))) in
    λ i. here i ∷ cut-whole follows lock most ts (omega (arith, le)) i

-- ---- the most
module _ (U : List Task) (lock : List ℕ) (order : Option (List ℕ)) where
  pub most-whole : (follows : Following) (longest : ℕ) → longest ≡ longest_on lock U → 1 ≤ longest
      → PassesIn order (cut none_follows lock longest U)
      → AnswersMostOn follows U lock order (Some longest)
  most-whole follows longest is some passes = record {
    some = some;
    within = omega (arith, is);
    passes = passes-cut follows none_follows lock longest longest U order (omega arith) passes;
    furthest = λ other le passes. omega (arith, le, is);
  }

  pub most-none : (follows : Following) → ¬ PassesIn order (cut none_follows lock 1 U)
      → AnswersMostOn follows U lock order None
  most-none follows fails most some passes =
      fails (passes-cut none_follows follows lock 1 most U order some passes)

  pub most-last : (follows : Following) (longest most : ℕ) → longest ≡ longest_on lock U → 1 ≤ most
      → most ≤ longest → PassesIn order (cut none_follows lock most U)
      → ((more : ℕ) → most < more → more ≤ longest → ¬ PassesIn order (cut none_follows lock more U))
      → AnswersMostOn follows U lock order (Some most)
  most-last follows longest most is some within passes fails = record {
    some = some;
    within = omega (arith, within, is);
    passes = passes-cut follows none_follows lock most most U order (omega arith) passes;
    furthest = λ other le passes. elim (cases_lt most other) [
      | inl lt ↦ absurd (fails other lt (omega (arith, le, is)) (passes-cut none_follows follows lock
          other other U order (omega arith) passes))
      | inr le ↦ le
    ];
  }

  pub most-each : (follows : Following) (most value : ℕ) → IsMostOn follows U lock order most
      → value ≤ longest_on lock U → PassesIn order (cut follows lock value U) ↔ (value ≤ most)
  most-each follows most value is within = (
    is.furthest value within,
    λ le. passes-cut follows follows lock value most U order le is.passes,
  )

  pub most-own : (follows : Following) (most : ℕ) → IsMostOn follows U lock order most
      → PassesIn order U ↔ (longest_on lock U ≤ most)
  most-own follows most is = rw (cut-whole follows lock (longest_on lock U) U (omega arith))
      at (most-each follows most (longest_on lock U) is (omega arith))

  -- where nothing helps it fails
  pub most-never : (follows : Following) → AnswersMostOn follows U lock order None → ¬ PassesIn order U
  most-never follows never = rw (cut-whole follows lock (1 + longest_on lock U) U (omega arith))
      at (never (1 + longest_on lock U) (omega arith))

pub most-one : (follows goes : Following) (U : List Task) (lock : List ℕ) (order : Option (List ℕ))
    (first second : ℕ) → IsMostOn follows U lock order first
    → IsMostOn goes U lock order second → first ≡ second
most-one follows goes U lock order first second f s = omega (
  arith,
  s.furthest first f.within
      (passes-cut goes follows lock first first U order (omega arith) f.passes),
  f.furthest second s.within
      (passes-cut follows goes lock second second U order (omega arith) s.passes),
)

-- ---- sections that stay where they are
abbrev pub cut_one : List ℕ → (most : ℕ) → Node → CriticalSection → CriticalSection
cut_one lock most node x = record { locks = x.locks; at = x.at; len = cut_len lock most node x }

pub sections-stay : (lock : List ℕ) (most : ℕ) (node : Node) (place less : ℕ) (xs : List CriticalSection)
    → cut_sections (λ place. false) lock most node place less xs ≡ map (cut_one lock most node) xs
sections-stay lock most node place less [] = refl
sections-stay lock most node place less (x ∷ xs) =
    let at : x.at - 0 ≡ x.at = omega arith in
    let rest = sections-stay lock most node (place + 1) (0 + (x.len - cut_len lock most node x)) xs in
    λ i. record { locks = x.locks; at = at i; len = cut_len lock most node x } ∷ rest i
