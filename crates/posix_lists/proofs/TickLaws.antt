-- Lists with the running thread at the head of its own: what they keep from tick to tick, and whom
-- the tick rule picks.
use Rattle.std.proofs.Common.{ℕ, suc, ◌+◌, ◌<◌, ◌≤◌, ◌≡◌, ◌≢◌, inl, inr, refl, sym, ap, ◌∙◌, subst}
use Rattle.std.proofs.Common.{arith, Bool, true, false, ◌==◌, if◌then◌else◌, max, List, [], length}
use Rattle.std.proofs.Common.{Some, None}
use Rattle.std.proofs.lemmas.Bool.{cases_eq, cases_lt, cases_Bool, cases_order, true≢false, eq-eqb}
use Rattle.std.proofs.lemmas.Bool.{ne_eqb}
use Rattle.ceiling_kernel.specs.Tick.{Node, Job, job_at, level_of_job, is_pending, active_of}
use Rattle.ceiling_kernel.specs.Tick.{held_ceiling, ceiling, executed_before, picked}
use Rattle.ceiling_kernel.specs.Waits.{IsNode, AreLegalJobs, NoOverrunBy}
use Rattle.ceiling_kernel.proofs.NodeLaws.{IsSound, sound}
use Rattle.ceiling_kernel.proofs.BehaviourLaws.{spans_of, uses_of}
use Rattle.ceiling_kernel.proofs.PickLaws.{best_is, best_none_is}
use Rattle.ceiling_kernel.proofs.MachineLaws.{idle_of, own_of, other_of, pending_from}
use Rattle.ceiling_kernel.proofs.MachineLaws.{pending_parts}
use Rattle.ceiling_kernel.proofs.LockLaws.{some_names}
use Rattle.ceiling_kernel.proofs.NestLaws.{none_below, two_pending}
use Rattle.posix_lists.specs.ThreadLists.{with_head, with_tail}
use Rattle.posix_lists.proofs.LockLaws.{held_start}
use Rattle.posix_lists.proofs.QueueLaws.{In, none_in, IsBelow, Rising, rising_longer, head_here}
use Rattle.posix_lists.proofs.QueueLaws.{head_else, tail_here, tail_else, from_head, to_head}
use Rattle.posix_lists.proofs.QueueLaws.{own_head, from_tail, to_tail, own_tail}

-- at tick t each list has the pending threads of its priority, by rising own level
pub record Queued (node : Node) (jobs : List Job) (t : ℕ) (ex : ℕ → ℕ) (come : ℕ → Bool)
    (list : ℕ → List ℕ) : Type 0 where
  pub executed : (j : ℕ) → ex j ≡ executed_before node jobs t j
  pub came : (j : ℕ) → come j ≡ true → (j < length jobs) × ((job_at jobs j).ready ≤ t)
  pub fresh : (j : ℕ) → come j ≡ false → ex j ≡ 0
  pub listed : (q j : ℕ) → In j (list q) → (come j ≡ true) × (ex j < (job_at jobs j).executes)
      × (active_of node jobs ex j ≡ q)
  pub complete : (j : ℕ) → come j ≡ true → ex j < (job_at jobs j).executes
      → In j (list (active_of node jobs ex j))
  pub rising : (q : ℕ) → Rising (level_of_job node jobs) (list q)

-- one tick more of thread p
abbrev pub one_on : (ℕ → ℕ) → ℕ → ℕ → ℕ
one_on ex p j = if p == j then ex j + 1 else ex j

-- of the first n threads each that is due has come; of all
abbrev pub HaveCome : List Job → (n t : ℕ) → (ℕ → Bool) → Type 0
HaveCome jobs n t come = (j : ℕ) → j < n → (job_at jobs j).ready ≤ t
    → 0 < (job_at jobs j).executes → come j ≡ true

abbrev pub AllCame : List Job → ℕ → (ℕ → Bool) → Type 0
AllCame jobs t come = HaveCome jobs (length jobs) t come

-- the same lists, said otherwise
pub queued_same : {node : Node} {jobs : List Job} {t : ℕ} {ex : ℕ → ℕ} {come : ℕ → Bool}
    {v : ℕ → List ℕ} (w : ℕ → List ℕ) → ((q : ℕ) → v q ≡ w q) → Queued node jobs t ex come v
    → Queued node jobs t ex come w
queued_same {node} {jobs} {ex = ex} w same qd = record {
  executed = qd.executed;
  came = qd.came;
  fresh = qd.fresh;
  listed = λ q j at. qd.listed q j (subst (In j) (sym (same q)) at);
  complete = λ j c u. subst (In j) (same (active_of node jobs ex j)) (qd.complete j c u);
  rising = λ q. subst (Rising (level_of_job node jobs)) (same q) (qd.rising q);
}

-- the priority of a thread depends on what it has executed
pub active_same : (node : Node) (jobs : List Job) (ex ex' : ℕ → ℕ) (j : ℕ) → ex j ≡ ex' j
    → active_of node jobs ex j ≡ active_of node jobs ex' j
active_same node jobs ex ex' j e =
    ap (λ n. max (level_of_job node jobs j) (held_ceiling node (job_at jobs j).sections n)) e

module _ {node : Node} {jobs : List Job} (ok : IsNode node) (legal : AreLegalJobs node jobs) where
  abbrev level : ℕ → ℕ
  level j = level_of_job node jobs j

  abbrev active : (ℕ → ℕ) → ℕ → ℕ
  active ex j = active_of node jobs ex j

  valid : IsSound node
  valid = sound node ok

  uses_own : (j : ℕ) (r : List ℕ) → some_names (job_at jobs j).sections r ≡ true
      → level j ≤ ceiling node r
  uses_own j r names =
      valid.users_below (job_at jobs j).task r (uses_of node jobs legal.within j r names)

  -- two pending jobs have different levels
  apart : {t : ℕ} {ex : ℕ → ℕ} {come : ℕ → Bool} {list : ℕ → List ℕ}
      → Queued node jobs t ex come list → NoOverrunBy node jobs t → (j k : ℕ) → j ≢ k
      → (j < length jobs) × ((job_at jobs j).ready ≤ t) → ex j < (job_at jobs j).executes
      → (k < length jobs) × ((job_at jobs k).ready ≤ t) → ex k < (job_at jobs k).executes
      → level j ≢ level k
  apart {t} qd none j k ne cj uj ck uk same =
      let task = valid.levels_differ (job_at jobs j).task (job_at jobs k).task (legal.known j cj.0)
      (legal.known k ck.0) same in
      let spans = spans_of node jobs legal.within in
      elim (cases_order j k) [
        | inl e ↦ ne e
        | inr differ ↦ elim differ [
          | inl before ↦ two_pending node jobs valid legal.known spans uses_own t j k before ck.0
              none task ck.1 (omega (arith, qd.executed j))
          | inr after ↦ two_pending node jobs valid legal.known spans uses_own t k j after cj.0
              none (sym task) cj.1 (omega (arith, qd.executed k))
        ]
      ]

  -- a thread becomes runnable
  pub wakes : {t : ℕ} {ex : ℕ → ℕ} {come : ℕ → Bool} {list : ℕ → List ℕ}
      → Queued node jobs t ex come list → NoOverrunBy node jobs t
      → (j : ℕ) → j < length jobs → (job_at jobs j).ready ≤ t → 0 < (job_at jobs j).executes
      → come j ≡ false
      → Queued node jobs t ex (λ k. if j == k then true else come k)
      (with_tail list (active ex j) j)
  wakes {t} {ex} {come} {list} qd none j lt due some blocked = record {
    executed = qd.executed;
    came = λ k c. elim (cases_eq j k) [
      | inl e ↦ subst (λ x. (x < length jobs) × ((job_at jobs x).ready ≤ t)) e (lt, due)
      | inr ne ↦ qd.came k (rw (ne_eqb j k ne) at c)
    ];
    fresh = λ k c. elim (cases_eq j k) [
      | inl e ↦ (let wrong : true ≡ false = rw (eq-eqb j k e) at c in
          absurd (true≢false wrong))
      | inr ne ↦ qd.fresh k (rw (ne_eqb j k ne) at c)
    ];
    listed = λ q k at. elim (from_tail list (active ex j) j q k at) [
      | inl was ↦ (let s = qd.listed q k was in (still k s.0, s.1, s.2))
      | inr own ↦ subst (λ x. ((if j == x then true else come x) ≡ true)
          × (ex x < (job_at jobs x).executes) × (active ex x ≡ q)) own.1
          (has_come, pending, own.0)
    ];
    complete = λ k c u. elim (cases_eq j k) [
      | inl e ↦
          subst (λ x. In x (with_tail list (active ex j) j (active ex x)))
          e (own_tail list (active ex j) j)
      | inr ne ↦ to_tail list (active ex j)
          j (active ex k) k (qd.complete k (rw (ne_eqb j k ne) at c) u)
    ];
    rising = λ q. elim (cases_eq (active ex j) q) [
      | inl e ↦ subst (Rising level)
          (sym (tail_here list (active ex j) j q e))
          (rising_longer level (list q) j (qd.rising q) (λ k at. below q k e at))
      | inr ne ↦ subst (Rising level)
          (sym (tail_else list (active ex j) j q ne)) (qd.rising q)
    ];
  }
    where
      pending : ex j < (job_at jobs j).executes
      pending = omega (arith, qd.fresh j blocked)

      has_come : (if j == j then true else come j) ≡ true
      has_come = rw (eq-eqb j j refl)

      still : (k : ℕ) → come k ≡ true → (if j == k then true else come k) ≡ true
      still k c = elim (cases_Bool (j == k)) [ inl b ↦ rw b | inr b ↦ rw b c ]

      -- it holds nothing
      own_level : active ex j ≡ level j
      own_level =
          omega (
            arith,
            ap (held_ceiling node (job_at jobs j).sections) (qd.fresh j blocked),
            held_start node (job_at jobs j).sections,
          )

      below : (q k : ℕ) → active ex j ≡ q → In k (list q)
          → level k < level j
      below q k e at =
          let s = qd.listed q k at in
          let c : (k < length jobs) × ((job_at jobs k).ready ≤ t) = qd.came k s.0 in
          let other : k ≢ j = λ same. true≢false (sym s.0 ∙ (ap come same ∙ blocked)) in
          let top : active ex k ≡ q = s.2 in
          elim (cases_eq (level k) (level j)) [
            | inl same ↦
                absurd (apart qd none k j other c s.1 (lt, due) pending same)
            | inr differ ↦ omega (arith, own_level)
          ]

  -- ---- the pick
  pub idle_pick : {t : ℕ} {ex : ℕ → ℕ} {come : ℕ → Bool} {list : ℕ → List ℕ}
      → Queued node jobs t ex come list → AllCame jobs t come → ((q : ℕ) → list q ≡ [])
      → picked node jobs t ≡ None
  unfolding picked
  idle_pick {t} {ex} {come} {list} qd all empty =
      best_none_is (is_pending jobs (executed_before node jobs t) t)
      (active (executed_before node jobs t)) level (length jobs)
      (λ k lt. elim (cases_Bool (is_pending jobs (executed_before node jobs t) t k)) [
        | inr rests ↦ rests
        | inl waits ↦
            let pp = pending_parts node jobs t k waits in
            let e : ex k ≡ executed_before node jobs t k = qd.executed k in
            let c : come k ≡ true = all k lt pp.0 (omega (arith, pp.1)) in
            absurd (none_in (list (active ex k)) k (empty (active ex k))
            (qd.complete k c (omega (arith, pp.1))))
      ])

  -- ---- thread p runs, and stands at the head of its list
  module _ {t : ℕ} {ex : ℕ → ℕ} {come : ℕ → Bool} (list : ℕ → List ℕ) (p : ℕ)
      (qd : Queued node jobs t ex come (with_head list (active ex p) p))
      (highest : (q : ℕ) → active ex p < q → list q ≡ []) where
    abbrev pub a : ℕ
    a = active ex p

    -- it is pending
    own : (come p ≡ true) × (ex p < (job_at jobs p).executes)
        × (active ex p ≡ active ex p)
    own = qd.listed a p (own_head list a p)

    first : IsBelow level p (list a) × Rising level (list a)
    first = subst (Rising level) (head_here list a p a refl) (qd.rising a)

    -- it stands nowhere else
    nowhere : (q : ℕ) → In p (list q) → ⊥
    nowhere q at =
        let here : In p (list a) = subst (λ x. In p (list x))
        (sym (qd.listed q p (to_head list a p q p at)).2) at in
        omega (arith, first.0 p here)

    rest_rising : (q : ℕ) → Rising level (list q)
    rest_rising q = elim (cases_eq a q) [
      | inl e ↦ subst (λ x. Rising level (list x)) e first.1
      | inr ne ↦ subst (Rising level) (head_else list a p q ne) (qd.rising q)
    ]

    of_rest : (q k : ℕ) → In k (list q) → (come k ≡ true) × (ex k < (job_at jobs k).executes)
        × (active ex k ≡ q)
    of_rest q k at = qd.listed q k (to_head list a p q k at)

    pub running_pick : AllCame jobs t come → picked node jobs t ≡ Some p
    unfolding picked
    running_pick all =
        let c : (p < length jobs) × ((job_at jobs p).ready ≤ t) = qd.came p own.0 in
        let ep : ex p ≡ executed_before node jobs t p = qd.executed p in
        let unfinished : ex p < (job_at jobs p).executes = own.1 in
        best_is (is_pending jobs (executed_before node jobs t) t)
        (active (executed_before node jobs t)) level
        (length jobs) p c.0 (pending_from node jobs t p c.1 (omega arith))
        (λ k lt waits other.
        let pp = pending_parts node jobs t k waits in
        let ek : ex k ≡ executed_before node jobs t k = qd.executed k in
        let ck : come k ≡ true = all k lt pp.0 (omega (arith, pp.1)) in
        let ap_ = active_same node jobs ex (executed_before node jobs t) p ep in
        let ak = active_same node jobs ex (executed_before node jobs t) k ek in
        elim (from_head list a p (active ex k) k
        (qd.complete k ck (omega (arith, pp.1)))) [
          | inr mine ↦ absurd (other (sym mine.1))
          | inl at ↦ elim (cases_order (active ex k) (active ex p)) [
            | inl tied ↦
                let lower = first.0 k (subst (λ x. In k (list x)) tied at) in
                inr (sym ak ∙ (tied ∙ ap_), lower)
            | inr differ ↦ elim differ [
              | inl less ↦ inl (omega arith)
              | inr more ↦ absurd (none_in (list (active ex k)) k
                  (highest (active ex k) more) at)
            ]
          ]
        ])

    -- ---- it executes the tick
    other_tick : (j : ℕ) → p ≢ j → one_on ex p j ≡ ex j
    other_tick j ne = rw (ne_eqb p j ne)

    executed_on : picked node jobs t ≡ Some p → (j : ℕ)
        → one_on ex p j ≡ executed_before node jobs (suc t) j
    executed_on pick j =
        elim (cases_eq p j) [
          | inl same ↦
              rw (eq-eqb p j same) (omega (
                arith,
                qd.executed j,
                own_of node jobs t j (pick ∙ ap Some same),
              ))
          | inr ne ↦ other_tick j ne
              ∙ (qd.executed j ∙ sym (other_of node jobs t p j pick (λ same. ne (sym same))))
        ]

    came_on : (j : ℕ) → come j ≡ true → (j < length jobs) × ((job_at jobs j).ready ≤ suc t)
    came_on j c = ((qd.came j c).0, omega (arith, (qd.came j c).1))

    fresh_on : (j : ℕ) → come j ≡ false → one_on ex p j ≡ 0
    fresh_on j c =
        let ne : p ≢ j = λ same. true≢false (sym own.0 ∙ (ap come same ∙ c)) in
        other_tick j ne ∙ qd.fresh j c

    -- the others stand where they stood
    rest_on : (q k : ℕ) → In k (list q) → (come k ≡ true)
        × (one_on ex p k < (job_at jobs k).executes) × (active (one_on ex p) k ≡ q)
    rest_on q k at =
        let ne : p ≢ k = λ same. nowhere q (subst (λ x. In x (list q)) (sym same) at) in
        let s = of_rest q k at in
        let e : one_on ex p k ≡ ex k = other_tick k ne in (
          s.0,
          subst (λ n. n < (job_at jobs k).executes) (sym e) s.1,
          active_same node jobs
              (one_on ex p) ex k e ∙ s.2,
        )

    other_in : (k : ℕ) → p ≢ k → come k ≡ true → one_on ex p k < (job_at jobs k).executes
        → In k (list (active (one_on ex p) k))
    other_in k ne c u =
        let e : one_on ex p k ≡ ex k = other_tick k ne in
        let at = qd.complete k c (subst (λ n. n < (job_at jobs k).executes) e u) in
        elim (from_head list a p (active ex k) k at) [
          | inl was ↦ subst (λ q. In k (list q))
              (sym (active_same node jobs (one_on ex p) ex k e)) was
          | inr mine ↦ absurd (ne mine.1)
        ]

    -- its own level is below that of all in its list
    pub below_on : NoOverrunBy node jobs t → (q k : ℕ) → active (one_on ex p) p ≡ q
        → In k (list q) → level p < level k
    below_on none q k at_q at =
        let s = of_rest q k at in
        let ne : p ≢ k = λ same. nowhere q (subst (λ x. In x (list q)) (sym same) at) in
        elim (cases_order (active ex p) q) [
          | inl same ↦ first.0 k (subst (λ x. In k (list x)) (sym same) at)
          | inr differ ↦ elim differ [
            | inl raised ↦ absurd (none_in (list q) k (highest q raised) at)
            | inr lowered ↦ elim (cases_lt (level p) (level k)) [
              | inl lt ↦ lt
              | inr ge ↦
                  let cp = qd.came p own.0 in
                  let ck = qd.came k s.0 in
                  let less : level k < level p =
                  elim (cases_eq (level p) (level
                  k)) [
                    | inl e ↦ absurd (apart qd none p k ne cp own.1 ck s.1 e)
                    | inr other ↦ omega arith
                  ] in
                  let hp = ap (held_ceiling node (job_at jobs p).sections) (qd.executed p) in
                  let hk = ap (held_ceiling node (job_at jobs k).sections) (qd.executed k) in
                  let top : active ex k ≡ q = s.2 in
                  absurd (none_below node jobs valid legal.known (spans_of node jobs legal.within)
                  uses_own t p k less (omega arith) (omega arith))
            ]
          ]
        ]

    -- it isn't finished, and is put back to the head of its list
    pub goes_on : NoOverrunBy node jobs t → picked node jobs t ≡ Some p
        → one_on ex p p < (job_at jobs p).executes
        → Queued node jobs (suc t) (one_on ex p) come
        (with_head list (active (one_on ex p) p) p)
    goes_on none pick more = record {
      executed = executed_on pick;
      came = came_on;
      fresh = fresh_on;
      listed = λ q k at. elim (from_head list (active (one_on ex p) p) p q k at) [
        | inl was ↦ rest_on q k was
        | inr mine ↦ subst (λ x. (come x ≡ true) × (one_on ex p x < (job_at jobs x).executes)
            × (active (one_on ex p) x ≡ q)) mine.1 (own.0, more, mine.0)
      ];
      complete = λ k c u. elim (cases_eq p k) [
        | inl e ↦ subst (λ x. In x (with_head list (active (one_on ex p) p) p
            (active (one_on ex p) x))) e
            (own_head list (active (one_on ex p) p) p)
        | inr ne ↦ to_head list (active (one_on ex p) p) p
            (active (one_on ex p) k) k (other_in k ne c u)
      ];
      rising = λ q. elim (cases_eq (active (one_on ex p) p) q) [
        | inl e ↦ subst (Rising level)
            (sym (head_here list (active (one_on ex p) p) p q e))
            (λ k at. below_on none q k e at, rest_rising q)
        | inr ne ↦ subst (Rising level)
            (sym (head_else list (active (one_on ex p) p) p q ne)) (rest_rising q)
      ];
    }

    -- it is finished
    pub ends : picked node jobs t ≡ Some p → (job_at jobs p).executes ≤ one_on ex p p
        → Queued node jobs (suc t) (one_on ex p) come list
    ends pick done = record {
      executed = executed_on pick;
      came = came_on;
      fresh = fresh_on;
      listed = rest_on;
      complete = λ k c u. elim (cases_eq p k) [
        | inl e ↦ absurd (omega (
          arith,
          subst (λ x. one_on ex p x < (job_at jobs x).executes)
              (sym e) u,
        ))
        | inr ne ↦ other_in k ne c u
      ];
      rising = rest_rising;
    }

-- nobody runs
pub idles : {node : Node} {jobs : List Job} {t : ℕ} {ex : ℕ → ℕ} {come : ℕ → Bool}
    {list : ℕ → List ℕ} → Queued node jobs t ex come list → picked node jobs t ≡ None
    → Queued node jobs (suc t) ex come list
idles {node} {jobs} {t} qd none = record {
  executed = λ j. qd.executed j ∙ sym (idle_of node jobs t j none);
  came = λ j c. ((qd.came j c).0, omega (arith, (qd.came j c).1));
  fresh = qd.fresh;
  listed = qd.listed;
  complete = qd.complete;
  rising = qd.rising;
}
