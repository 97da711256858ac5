-- What the laws need of a node: levels, ceilings, and sections apart.
use Rattle.std.proofs.Common.{ℕ, ◌+◌, ◌<◌, ◌≤◌, ◌≡◌, inl, inr, refl, sym, ap, ◌∙◌, subst, arith}
use Rattle.std.proofs.Common.{true, false, cond, ◌==◌, nat_lt, List, [], ◌∷◌, length, Option, Some}
use Rattle.std.proofs.Common.{None, eqb, count_by}
use Rattle.std.specs.Option.{option_or, unwrap_or}
use Rattle.std.proofs.lemmas.Bool.{cases_Bool, cases_lt, true≢false, eqb-true, eq-eqb, lt-ltb}
use Rattle.std.proofs.lemmas.Bool.{ltb-true, le-ltb, cases_eq}
use Rattle.std.proofs.lemmas.List.{get_or_past}
use Rattle.std.proofs.lemmas.List.Elements.{All-get_or}
use Rattle.std.proofs.lemmas.List.Sums.{sum_by-cons}
use Rattle.task_sheet.proofs.Common.{Task, CriticalSection, AreSections, IsSection, IsValidSheet}
use Rattle.task_sheet.proofs.Common.{no_task, task_at, uses, ceiling_from, among, Stands, AllStand}
use Rattle.task_sheet.proofs.Common.{limit_of}
use Rattle.ceiling_kernel.proofs.Common.{AreApart, Node, level_from, level_in_order, ceiling}
use Rattle.ceiling_kernel.proofs.Common.{IsNode, lateness_of, above_of, after_of}

-- ---- sections
apart_of : (begin cost : ℕ) (ss : List CriticalSection) → begin ≤ cost → AreSections begin cost ss
    → AreApart begin ss cost
apart_of begin cost [] within h = within
apart_of begin cost (s ∷ ss) within h =
    let here : IsSection begin cost s = h.0 in
    (here.apart, here.runs, apart_of (s.at + s.len) cost ss here.within h.1)

-- ---- levels
-- how often the order names an index
unfoldable pub times : ℕ → List ℕ → ℕ
times i order = count_by (λ x. x == i) order

pub times-nil : (i : ℕ) → times i [] ≡ 0
unfolding times
times-nil i = refl

pub times-here : (i x : ℕ) (xs : List ℕ) → (x == i) ≡ true → times i (x ∷ xs) ≡ 1 + times i xs
unfolding times
times-here i x xs h = sum_by-cons (λ y. cond (y == i) 1 0) x xs
    ∙ ap (λ b. cond b 1 0 + times i xs) h

pub times-not : (i x : ℕ) (xs : List ℕ) → (x == i) ≡ false → times i (x ∷ xs) ≡ times i xs
unfolding times
times-not i x xs h = sum_by-cons (λ y. cond (y == i) 1 0) x xs
    ∙ (ap (λ b. cond b 1 0 + times i xs) h ∙ omega arith)

pub times-grow : (i x : ℕ) (xs : List ℕ) → times i xs ≤ times i (x ∷ xs)
times-grow i x xs = elim (cases_Bool (x == i)) [
  | inl here ↦ omega (arith, times-here i x xs here)
  | inr not ↦ omega (arith, times-not i x xs not)
]

pub level_named : (l : ℕ) (order : List ℕ) (i : ℕ) → 0 < times i order → l ≤ level_from l order i
level_named l [] i h = absurd (omega (arith, times-nil i))
level_named l (x ∷ order) i h =
    elim (cases_Bool (x == i)) [
      | inl here ↦ rw here (omega arith)
      | inr not ↦
          let more : times i (x ∷ order) ≡ times i order = times-not i x order not in
          let ih : l + 1 ≤ level_from (l + 1) order i = level_named (l + 1) order i (omega arith) in
          rw not (omega arith)
    ]

pub level_past : (l : ℕ) (order : List ℕ) (i : ℕ) → times i order ≡ 0 → level_from l order i ≡ 0
level_past l [] i h = refl
level_past l (x ∷ order) i h =
    elim (cases_Bool (x == i)) [
      | inl here ↦ absurd (omega (arith, times-here i x order here))
      | inr not ↦
          let more : times i (x ∷ order) ≡ times i order = times-not i x order not in
          rw not (level_past (l + 1) order i (omega arith))
    ]

same_level : (l : ℕ) (order : List ℕ) (i k : ℕ) → 0 < times i order → 0 < times k order
    → level_from l order i ≡ level_from l order k → i ≡ k
same_level l [] i k hi hk e = absurd (omega (arith, times-nil i))
same_level l (x ∷ order) i k hi hk e =
    elim (cases_Bool (x == i)) [
      | inl xi ↦ elim (cases_Bool (x == k)) [
        | inl xk ↦ sym (eqb-true x i xi) ∙ eqb-true x k xk
        | inr nk ↦
            let more : times k (x ∷ order) ≡ times k order = times-not k x order nk in
            let up = level_named (l + 1) order k (omega arith) in
            let e' : l ≡ level_from (l + 1) order k = rw (xi, nk) at e in
            absurd (omega arith)
      ]
      | inr ni ↦
          let more_i : times i (x ∷ order) ≡ times i order = times-not i x order ni in
          elim (cases_Bool (x == k)) [
            | inl xk ↦
                let up = level_named (l + 1) order i (omega arith) in
                let e' : level_from (l + 1) order i ≡ l = rw (ni, xk) at e in
                absurd (omega arith)
            | inr nk ↦
                let more_k : times k (x ∷ order) ≡ times k order = times-not k x order nk in
                let e' : level_from (l + 1) order i ≡ level_from (l + 1) order k =
                rw (ni, nk) at e in
                same_level (l + 1) order i k (omega arith) (omega arith) e'
          ]
    ]

-- ---- ceilings
ceiling_above : (U : List Task) (l : ℕ) (order : List ℕ) (lock : List ℕ) (c : ℕ)
    → ceiling_from l U order lock ≡ Some c → l ≤ c
ceiling_above U l [] lock c e = absurd (cc)
ceiling_above U l (x ∷ order) lock c e =
    elim (ceiling_from (l + 1) U order lock) as (λ o. ceiling_from (l + 1) U order lock ≡ o
    → option_or o (cond (uses (task_at U x) lock) (Some l) None) ≡ Some c → l ≤ c) [
      | Some d ↦ λ is h.
          let up : l + 1 ≤ d = ceiling_above U (l + 1) order lock d is in
          let same : d ≡ c = cc in
          omega arith
      | None ↦ λ is h. elim (cases_Bool (uses (task_at U x) lock)) [
        | inl here ↦
            let h' : ◌≡◌ {A = Option ℕ} (Some l) (Some c) = rw here at h in
            let same : l ≡ c = cc in
            omega arith
        | inr not ↦ (let h' : ◌≡◌ {A = Option ℕ} None (Some c) = rw not at h in absurd (cc))
      ]
    ] refl e

-- a user's level is at most the ceiling
user_level : (U : List Task) (l : ℕ) (order : List ℕ) (lock : List ℕ) (i : ℕ) → 0 < times i order
    → uses (task_at U i) lock ≡ true
    → level_from l order i ≤ unwrap_or (ceiling_from l U order lock) 0
user_level U l [] lock i h u = absurd (omega (arith, times-nil i))
user_level U l (x ∷ order) lock i h u =
    elim (ceiling_from (l + 1) U order lock) as
    (λ o. ceiling_from (l + 1) U order lock ≡ o → level_from l (x ∷ order) i
    ≤ unwrap_or (option_or o (cond (uses (task_at U x) lock) (Some l) None)) 0) [
      | Some d ↦ λ is.
          let up : l + 1 ≤ d = ceiling_above U (l + 1) order lock d is in
          elim (cases_Bool (x == i)) [
            | inl here ↦ rw here (omega arith)
            | inr not ↦
                let more : times i (x ∷ order) ≡ times i order = times-not i x order not in
                let ih = user_level U (l + 1) order lock i (omega arith) u in
                let ih' : level_from (l + 1) order i ≤ d = rw is at ih in
                rw not ih'
          ]
      | None ↦ λ is. elim (cases_Bool (x == i)) [
        | inl here ↦
            let ux = subst (λ z. uses (task_at U z) lock ≡ true) (sym (eqb-true x i here)) u in
            rw (here, ux) (omega arith)
        | inr not ↦
            let more : times i (x ∷ order) ≡ times i order = times-not i x order not in
            let ih = user_level U (l + 1) order lock i (omega arith) u in
            let ih' : level_from (l + 1) order i ≤ 0 = rw is at ih in
            let up = level_named (l + 1) order i (omega arith) in
            absurd (omega arith)
      ]
    ] refl

-- some user stands at the ceiling
pub record IsUserAt (U : List Task) (l : ℕ) (order : List ℕ) (lock : List ℕ) (c : ℕ) : Type 0 where
  pub task : ℕ
  pub named : 0 < times task order
  pub level : level_from l order task ≡ c
  pub user : uses (task_at U task) lock ≡ true

ceiling_user : (U : List Task) (l : ℕ) (order : List ℕ) (lock : List ℕ) (c : ℕ)
    → ((k : ℕ) → times k order ≤ 1) → ceiling_from l U order lock ≡ Some c
    → IsUserAt U l order lock c
ceiling_user U l [] lock c once e = absurd (cc)
ceiling_user U l (x ∷ order) lock c once e =
    elim (ceiling_from (l + 1) U order lock) as (λ o. ceiling_from (l + 1) U order lock ≡ o
    → option_or o (cond (uses (task_at U x) lock) (Some l) None) ≡ Some c
    → IsUserAt U l (x ∷ order) lock c) [
      | Some d ↦ λ is h.
          let same : d ≡ c = cc in
          let ih = ceiling_user U (l + 1) order lock d (λ k. omega
          (arith, once k, times-grow k x order)) is in
          let i : ℕ = ih.task in
          let o : times i (x ∷ order) ≤ 1 = once i in
          let n : 0 < times i order = ih.named in
          let grow : times i order ≤ times i (x ∷ order) = times-grow i x order in
          elim (cases_Bool (x == i)) [
            | inl here ↦ absurd (omega (arith, times-here i x order here))
            | inr not ↦ record {
              task = i;
              named = omega arith;
              level = rw not (ih.level ∙ same);
              user = ih.user;
            }
          ]
      | None ↦ λ is h. elim (cases_Bool (uses (task_at U x) lock)) [
        | inl here ↦
            let h' : ◌≡◌ {A = Option ℕ} (Some l) (Some c) = rw here at h in
            let same : l ≡ c = cc in
            let t : eqb x x ≡ true = eq-eqb x x refl in
            let more : times x (x ∷ order) ≡ 1 + times x order = times-here x x order t in
            record { task = x; named = omega arith; level = rw t same; user = here }
        | inr not ↦ (let h' : ◌≡◌ {A = Option ℕ} None (Some c) = rw not at h in absurd (cc))
      ]
    ] refl e

-- ---- who stands above
among-times : (order : List ℕ) (h : ℕ) → among order h ≡ nat_lt 0 (times h order)
among-times [] h = sym (le-ltb 0 (times h []) (omega (arith, times-nil h)))
among-times (x ∷ order) h =
    elim (cases_Bool (x == h)) [
      | inl here ↦ (let t = lt-ltb 0 (times h (x ∷ order))
          (omega (arith, times-here h x order here)) in rw (here, t))
      | inr not ↦ rw (not, times-not h x order not) (among-times order h)
    ]

among-some : (order : List ℕ) (h : ℕ) → 0 < times h order → among order h ≡ true
among-some order h some = among-times order h ∙ lt-ltb 0 (times h order) some

among-none : (order : List ℕ) (h : ℕ) → times h order ≡ 0 → among order h ≡ false
among-none order h none = among-times order h ∙ le-ltb 0 (times h order) (omega arith)

-- where the tasks of an order stand, each stands below those after it
stands-after : (U : List Task) (order : List ℕ) (i : ℕ) → AllStand U order → 0 < times i order
    → Stands U i (among (after_of order i))
stands-after U [] i all named = absurd (omega (arith, times-nil i))
stands-after U (x ∷ order) i all named =
    elim (cases_Bool (x == i)) [
      | inl here ↦ rw here (subst (λ k. Stands U k (among order)) (eqb-true x i here) all.0)
      | inr not ↦ rw not (stands-after U order i all.1
          (omega (arith, times-not i x order not)))
    ]

-- who stands after a task stands at a higher level
after-higher : (l : ℕ) (order : List ℕ) (i : ℕ) → 0 < l → ((k : ℕ) → times k order ≤ 1)
    → 0 < times i order → (h : ℕ)
    → among (after_of order i) h ≡ nat_lt (level_from l order i) (level_from l order h)
after-higher l [] i some once named h = absurd (omega (arith, times-nil i))
after-higher l (x ∷ order) i some once named h =
    elim (cases_Bool (x == i)) [
      | inl here ↦ rw here (elim (cases_Bool (x == h)) [
        | inl xh ↦
            let none : times h order ≡ 0 = omega (arith, once h, times-here h x order xh) in
            let f : nat_lt l l ≡ false = le-ltb l l (omega arith) in
            rw (xh, f) (among-none order h none)
        | inr nh ↦ elim (cases_eq (times h order) 0) [
          | inl none ↦
              let f : nat_lt l 0 ≡ false = le-ltb l 0 (omega arith) in
              rw (nh, level_past (l + 1) order h none, f) (among-none order h none)
          | inr one ↦
              let up = level_named (l + 1) order h (omega arith) in
              let t = lt-ltb l (level_from (l + 1) order h) (omega arith) in
              rw (nh, t) (among-some order h (omega arith))
        ]
      ])
      | inr not ↦
          let some_i : 0 < times i order = omega (arith, times-not i x order not) in
          let ih = after-higher (l + 1) order i (omega arith)
          (λ k. omega (arith, once k, times-grow k x order)) some_i h in
          let up : l + 1 ≤ level_from (l + 1) order i = level_named (l + 1) order i some_i in
          rw not (elim (cases_Bool (x == h)) [
            | inl xh ↦
                let none : times h order ≡ 0 =
                omega (arith, once h, times-here h x order xh) in
                let f = le-ltb (level_from (l + 1) order i) l (omega arith) in
                let g = le-ltb (level_from (l + 1) order i) 0 (omega arith) in
                rw (xh, f) (ih ∙ (ap (nat_lt (level_from (l + 1) order i))
                (level_past (l + 1) order h none) ∙ g))
            | inr nh ↦ rw nh ih
          ])
    ]

-- ---- how late jobs may be
-- the limit leaves room in the deadline for the lateness
late_room : (t : Task) → IsValidSheet t → limit_of t + lateness_of t ≤ t.deadline
late_room t v = omega (arith, v.jitter)

late_less : (t : Task) → IsValidSheet t → lateness_of t < t.period
late_less t v = omega (arith, v.jitter, v.deadline_to)

-- ---- a node as the laws need it
pub record IsSoundTask (node : Node) (i : ℕ) : Type 0 where
  pub level_from_one : 0 < level_in_order node i
  pub takes_time : 0 < (task_at node.tasks i).cost
  pub apart : AreApart 0 (task_at node.tasks i).sections (task_at node.tasks i).cost
  pub deadline_within : (task_at node.tasks i).deadline ≤ (task_at node.tasks i).period
  pub period_from_one : 0 < (task_at node.tasks i).period
  -- its jobs are late by what its limit leaves of the deadline at most, and by less than a period
  pub late_within : limit_of (task_at node.tasks i) + lateness_of (task_at node.tasks i)
      ≤ (task_at node.tasks i).deadline
  pub late_before : lateness_of (task_at node.tasks i) < (task_at node.tasks i).period

pub record IsSound (node : Node) : Type 0 where
  pub each : (i : ℕ) → i < length node.tasks → IsSoundTask node i
  pub levels_differ : (i k : ℕ) → i < length node.tasks → k < length node.tasks
      → level_in_order node i ≡ level_in_order node k → i ≡ k
  pub users_below : (i : ℕ) (lock : List ℕ) → uses (task_at node.tasks i) lock ≡ true
      → level_in_order node i ≤ ceiling node lock

module _ (node : Node) (ok : IsNode node) where
  pub times-order : (i : ℕ) → times i node.order ≡ cond (nat_lt i (length node.tasks)) 1 0
  unfolding times
  times-order i = ok.order i

  named : (i : ℕ) → i < length node.tasks → 0 < times i node.order
  named i lt =
      let one : times i node.order ≡ 1 = rw (lt-ltb i (length node.tasks) lt) at (times-order i) in
      omega arith

  pub at_most_once : (i : ℕ) → times i node.order ≤ 1
  at_most_once i =
      let once : times i node.order ≡ cond (nat_lt i (length node.tasks)) 1 0 = times-order i in
      elim (cases_Bool (nat_lt i (length node.tasks))) [
        | inl t ↦ (let e : times i node.order ≡ 1 = rw t at once in omega arith)
        | inr f ↦ (let e : times i node.order ≡ 0 = rw f at once in omega arith)
      ]

  valid_at : (i : ℕ) → i < length node.tasks → IsValidSheet (task_at node.tasks i)
  valid_at i lt = All-get_or IsValidSheet node.tasks i no_task lt ok.tasks.valid

  pub sound : IsSound node
  sound = record {
    each = λ i lt.
        let v : IsValidSheet (task_at node.tasks i) = valid_at i lt in
        let up : 1 ≤ level_in_order node i = level_named 1 node.order i (named i lt) in
        record {
          level_from_one = omega arith;
          takes_time = v.cost_from;
          apart = apart_of 0 (task_at node.tasks i).cost (task_at node.tasks i).sections
              (omega arith) v.sections;
          deadline_within = v.deadline_to;
          period_from_one =
              omega (arith, v.period_from);
          late_within = late_room (task_at node.tasks i) v;
          late_before = late_less (task_at node.tasks i) v;
        };
    levels_differ = λ i k li lk e. same_level 1 node.order i k (named i li) (named k lk) e;
    users_below = λ i lock u. elim (cases_lt i (length node.tasks)) [
      | inl lt ↦ user_level node.tasks 1 node.order lock i (named i lt) u
      | inr past ↦
          let u' : false ≡ true = subst (λ t. uses t lock ≡ true)
          (get_or_past node.tasks i no_task past) u in
          absurd (true≢false (sym u'))
    ];
  }

  -- who stands at the ceiling of a lock, where that is at least a level
  pub top_user : (lock : List ℕ) (level : ℕ) → 0 < level → level ≤ ceiling node lock → (h : ℕ)
      × (h < length node.tasks) × (level ≤ level_in_order node h)
      × (uses (task_at node.tasks h) lock ≡ true)
  top_user lock level some le =
      elim (ceiling_from 1 node.tasks node.order lock) as (λ o. ceiling_from 1 node.tasks node.order
      lock ≡ o → level ≤ unwrap_or o 0 → (h : ℕ) × (h < length node.tasks)
      × (level ≤ level_in_order node h) × (uses (task_at node.tasks h) lock ≡ true)) [
        | None ↦ λ is h. absurd (omega arith)
        | Some c ↦ λ is h.
            let at_top = ceiling_user node.tasks 1 node.order lock c at_most_once is in
            let i : ℕ = at_top.task in
            let n : 0 < times i node.order = at_top.named in
            let l : level_in_order node i ≡ c = at_top.level in
            elim (cases_Bool (nat_lt i (length node.tasks))) [
              | inl t ↦ (i, ltb-true i (length node.tasks) t, omega arith, at_top.user)
              | inr f ↦ (let e : times i node.order ≡ 0 = rw f at (times-order i) in absurd
                  (omega arith))
            ]
      ] refl le

pub after_is_above : (node : Node) → IsNode node → (i h : ℕ) → i < length node.tasks
    → among (after_of node.order i) h ≡ above_of node i h
after_is_above node ok i h lt =
    after-higher 1 node.order i (omega arith) (at_most_once node ok) (named node ok i lt) h

pub stands_above : (node : Node) → IsNode node → AllStand node.tasks node.order → (i : ℕ)
    → i < length node.tasks → Stands node.tasks i (above_of node i)
stands_above node ok all i lt =
    let same : among (after_of node.order i) ≡ above_of node i =
    λ x h. after_is_above node ok i h lt x in
    subst (λ H. Stands node.tasks i H) same
    (stands-after node.tasks node.order i all (named node ok i lt))
