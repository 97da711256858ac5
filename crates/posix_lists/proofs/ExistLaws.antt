-- There is a run of the lists.
use Rattle.std.proofs.Common.{ℕ, zero, suc, ◌<◌, ◌≤◌, ◌≡◌, ◌⊎◌, inl, inr, refl, sym, ap, ◌∙◌}
use Rattle.std.proofs.Common.{subst, arith, true, List, [], ◌∷◌, length, Some, None}
use Rattle.std.proofs.Common.{if◌then◌else◌, ◌==◌, nat_lt, Option, Bool}
use Rattle.std.proofs.lemmas.Bool.{cases_eq, cases_lt, cases_Bool, true≢false, eq-eqb, ne_eqb}
use Rattle.std.proofs.lemmas.Bool.{lt-ltb, le-ltb}
use Rattle.std.proofs.lemmas.Option.{none-some}
use Rattle.ceiling_kernel.specs.Tick.{Node, Job, job_at, level_of_job, active_of, executed_before}
use Rattle.ceiling_kernel.specs.Tick.{picked}
use Rattle.ceiling_kernel.specs.Waits.{IsNode, AreLegalJobs, NoOverrun, NoOverrunBy}
use Rattle.ceiling_kernel.proofs.MachineLaws.{IsPick, picked_is, pending_from, pending_parts}
use Rattle.ceiling_kernel.proofs.MachineLaws.{none_pending}
use Rattle.posix_lists.specs.ThreadLists.{Threads, at_first, with_head, with_tail, with_list}
use Rattle.posix_lists.specs.ThreadLists.{BecomesRunnable, IsMove, AreMoves, IsPreempted}
use Rattle.posix_lists.specs.ThreadLists.{IsSelected, IsAtRest, Settles, AnyWay, WhereRaised}
use Rattle.posix_lists.specs.ThreadLists.{ticked, IsTick, IsRun, CanRun}
use Rattle.posix_lists.proofs.QueueLaws.{In, none_in, empty_from, from_head, to_head, own_head}
use Rattle.posix_lists.proofs.QueueLaws.{head_here, Rising}
use Rattle.posix_lists.proofs.TickLaws.{HaveCome, AllCame, active_same}
use Rattle.posix_lists.proofs.ListLaws.{shown_of, Agrees, known_runs, move_keeps}
use Rattle.posix_lists.proofs.ListLaws.{tick_keeps, begins, empty_raised}

-- one move more
more_moves : (node : Node) (jobs : List Job) (t n : ℕ) (s u v : Threads)
    → AreMoves node jobs t n s u → IsMove node jobs t u v → AreMoves node jobs t (suc n) s v
more_moves node jobs t zero s u v h move =
    (v, subst (λ x. IsMove node jobs t x v) (sym h) move, refl)
more_moves node jobs t (suc n) s u v h move = (h.0, h.1, more_moves node jobs t n h.0 u v h.2 move)

module _ (node : Node) (jobs : List Job) (ok : IsNode node) (legal : AreLegalJobs node jobs)
    (none : NoOverrun node jobs) where
  by : (t : ℕ) → NoOverrunBy node jobs t
  by t k lt ready = none k lt

  -- what moves lead to
  record Reached (t : ℕ) (s u : Threads) : Type 0 where
    pub moves : ℕ
    pub are : AreMoves node jobs t moves s u
    pub agrees : Agrees node jobs t u

  further : (t : ℕ) (s u v : Threads) → Reached t s u → IsMove node jobs t u v → Reached t s v
  further t s u v r move = record {
    moves = suc r.moves;
    are = more_moves node jobs t r.moves s u v r.are move;
    agrees = move_keeps ok legal u v (by t) r.agrees move;
  }

  -- ---- the first n threads that are due come
  one_more : (n t : ℕ) (come : ℕ → Bool) → HaveCome jobs n t come
      → ((job_at jobs n).ready ≤ t → 0 < (job_at jobs n).executes → come n ≡ true)
      → HaveCome jobs (suc n) t come
  one_more n t come before last j lt due some = elim (cases_eq j n) [
    | inl e ↦ rw e (last (rw e at due) (rw e at some))
    | inr ne ↦ before j (omega arith) due some
  ]

  wake : (t : ℕ) (s : Threads) → Agrees node jobs t s → (n : ℕ) → n ≤ length jobs
      → (u : Threads) × Reached t s u × HaveCome jobs n t u.has_come
  wake t s h zero le =
      (s, record { moves = 0; are = refl; agrees = h }, λ j lt. absurd (omega arith))
  wake t s h (suc n) le =
      let w = wake t s h n (omega arith) in
      let u : Threads = w.0 in
      elim (cases_Bool (u.has_come n)) [
        | inl come ↦ (u, w.1, one_more n t u.has_come w.2 (λ _ _. come))
        | inr blocked ↦ elim (cases_lt t (job_at jobs n).ready) [
          | inl later ↦ (u, w.1, one_more n t u.has_come w.2 (λ due _. absurd (omega arith)))
          | inr due_now ↦ elim (cases_eq (job_at jobs n).executes 0) [
            | inl nothing ↦ (u, w.1, one_more n t u.has_come w.2 (λ _ some. absurd (omega arith)))
            | inr something ↦
                let v : Threads = record u {
                  has_come = λ j. if n == j then true else u.has_come j;
                  list = with_tail u.list (active_of node jobs u.executed n) n;
                } in
                let move : BecomesRunnable node jobs t u v = record {
                  thread = n;
                  is_job = omega arith;
                  due = due_now;
                  executes = omega arith;
                  was_blocked = blocked;
                  moved = refl;
                } in (
                  v,
                  further t s u v w.1 (inl move),
                  one_more n t v.has_come
                      (λ j lt due some. rw (ne_eqb n j (λ e. omega arith)) (w.2 j lt due some))
                      (λ _ _. rw (eq-eqb n n refl)),
                )
          ]
        ]
      ]

  -- ---- the thread that the tick rule picks is selected
  module _ (t p : ℕ) (is : IsPick node jobs t p) where
    -- a thread in line has a pending job, and doesn't go before p
    behind : (u : Threads) → Agrees node jobs t u → (q k : ℕ)
        → In k (shown_of node jobs u.running u.executed u.list q)
        → (q < active_of node jobs u.executed p) ⊎ ((q ≡ active_of node jobs u.executed p)
        × (level_of_job node jobs p ≤ level_of_job node jobs k))
    behind u h q k at =
        let l = h.listed q k at in
        let c : (k < length jobs) × ((job_at jobs k).ready ≤ t) = h.came k l.0 in
        let ak = active_same node jobs u.executed (executed_before node jobs t) k (h.executed k) in
        let a = active_same node jobs u.executed (executed_before node jobs t) p (h.executed p) in
        let top : active_of node jobs u.executed k ≡ q = l.2 in
        elim (is.first k c.0 (pending_from node jobs t k c.1 (omega (arith, l.1)))) [
          | inl less ↦ inl (omega arith)
          | inr tied ↦ inr (omega (arith, tied.0), tied.1)
        ]

    in_line : (u : Threads) → Agrees node jobs t u → AllCame jobs t u.has_come
        → In p (shown_of node jobs u.running u.executed u.list (active_of node jobs u.executed p))
    in_line u h all =
        let pp = pending_parts node jobs t p is.is_pending in
        let e : u.executed p ≡ executed_before node jobs t p = h.executed p in
        h.complete p (all p is.below pp.0 (omega (arith, pp.1))) (omega (arith, pp.1))

    -- it runs: the lists are at rest
    rests : (u : Threads) → Agrees node jobs t u → AllCame jobs t u.has_come → u.running ≡ Some p
        → IsAtRest node jobs t u
    rests u h all runs = record {
      all_came = all;
      none_higher = λ j higher r above.
          let same : j ≡ p = cc (r, runs) in
          let a = ap (active_of node jobs u.executed) same in
          empty_from (u.list higher) (λ k at. elim (behind u h higher k
          (subst (λ r. In k (shown_of node jobs r u.executed u.list higher)) (sym runs)
          (to_head u.list (active_of node jobs u.executed p) p higher k at))) [
            | inl less ↦ omega arith
            | inr tied ↦ omega (arith, tied.0)
          ]);
      none_runnable = λ q r. absurd (none-some p (sym r ∙ runs));
    }

    -- nobody runs: it is at the head of the highest list
    select : (s u : Threads) → Reached t s u → AllCame jobs t u.has_come → u.running ≡ None
        → (v : Threads) × Settles node jobs t s v × Agrees node jobs t v
    select s u r all nobody =
        let h : Agrees node jobs t u = r.agrees in
        let a : ℕ = active_of node jobs u.executed p in
        let at = subst (λ o. In p (shown_of node jobs o u.executed u.list a)) nobody
        (in_line u h all) in
        let after : (q k : ℕ) → In k (u.list q) → (q < a)
        ⊎ ((q ≡ a) × (level_of_job node jobs p ≤ level_of_job node jobs k)) =
        λ q k in_q. behind u h q k
        (subst (λ o. In k (shown_of node jobs o u.executed u.list q)) (sym nobody) in_q) in
        let head = first_of (u.list a) at ((known_runs u nobody h).rising a)
        (λ k in_a.
        elim (after a k in_a) [ inl less ↦ absurd (omega arith) | inr tied ↦ tied.1 ]) in
        let v : Threads = record u { running = Some p; list = with_list u.list a head.0 } in
        let move : IsSelected u v = record {
          nobody = nobody;
          priority = a;
          thread = p;
          rest = head.0;
          head = head.1;
          highest = λ higher above. empty_from (u.list higher) (λ k in_q. elim (after higher k
              in_q) [ inl less ↦ omega arith | inr tied ↦ omega (arith, tied.0) ]);
          moved = refl;
        } in
        let there : Reached t s v = further t s u v r (inr (inr move)) in
        (v, (there.moves, there.are, rests v there.agrees all refl), there.agrees)
      where
        first_of : (xs : List ℕ) → In p xs → Rising (level_of_job node jobs) xs
            → ((k : ℕ) → In k xs → level_of_job node jobs p ≤ level_of_job node jobs k)
            → (rest : List ℕ) × (xs ≡ p ∷ rest)
        first_of [] at rising least = absurd at
        first_of (x ∷ xs) at rising least = elim at [
          | inl e ↦ (xs, ap (λ y. y ∷ xs) e)
          | inr later ↦ absurd (omega (arith, rising.0 p later, least x (inl refl)))
        ]

    settle_busy : (s u : Threads) → Reached t s u → AllCame jobs t u.has_come → (v : Threads)
        × Settles node jobs t s v × Agrees node jobs t v
    settle_busy s u r all =
        let h : Agrees node jobs t u = r.agrees in
        elim u.running as (λ o. u.running ≡ o → (v : Threads) × Settles node jobs t s v
        × Agrees node jobs t v) [
          | None ↦ λ nobody. select s u r all nobody
          | Some x ↦ λ runs. elim (cases_eq x p) [
            | inl same ↦ (u, (r.moves, r.are, rests u h all (runs ∙ ap Some same)), h)
            | inr other ↦
                let a : ℕ = active_of node jobs u.executed p in
                let b : ℕ = active_of node jobs u.executed x in
                let line = subst (λ o. In p (shown_of node jobs o u.executed u.list a)) runs
                (in_line u h all) in
                let at : In p (u.list a) = elim (from_head u.list b x a p line) [
                  | inl was ↦ was
                  | inr mine ↦ absurd (other mine.1)
                ] in
                let lower : b < a = elim (behind u h b x (subst (λ o. In x
                (shown_of node jobs o u.executed u.list b)) (sym runs) (own_head u.list b x))) [
                  | inl less ↦ less
                  | inr tied ↦
                      let up = subst (Rising (level_of_job node jobs)) (head_here u.list b x b refl)
                      ((known_runs u runs h).rising b) in
                      absurd (omega (
                        arith,
                        up.0 p (subst (λ q. In p (u.list q)) (sym tied.0) at),
                        tied.1,
                      ))
                ] in
                let v : Threads = record u { running = None; list = with_head u.list b x } in
                let move : IsPreempted node jobs u v =
                record {
                  thread = x;
                  was_running = runs;
                  higher = a;
                  is_higher = lower;
                  runnable = λ none. none_in (u.list a) p none at;
                  moved = refl;
                } in
                select s v (further t s u v r (inr (inl move))) all refl
          ]
        ] refl

  -- ---- nobody is picked: the lists are at rest
  settle_idle : (t : ℕ) (u : Threads) → Agrees node jobs t u → AllCame jobs t u.has_come
      → picked node jobs t ≡ None → IsAtRest node jobs t u
  settle_idle t u h all idle = record {
    all_came = all;
    none_higher = λ j higher r above. absurd (nobody (active_of node jobs u.executed j) j
        (subst (λ o. In j (shown_of node jobs o u.executed u.list (active_of node jobs u.executed
        j))) (sym r) (own_head u.list (active_of node jobs u.executed j) j)));
    none_runnable = λ q r. empty_from (u.list q) (λ k at. nobody q k
        (subst (λ o. In k (shown_of node jobs o u.executed u.list q)) (sym r) at));
  }
    where
      nobody : (q k : ℕ) → In k (shown_of node jobs u.running u.executed u.list q) → ⊥
      nobody q k at =
          let l = h.listed q k at in
          let c : (k < length jobs) × ((job_at jobs k).ready ≤ t) = h.came k l.0 in
          let e : u.executed k ≡ executed_before node jobs t k = h.executed k in
          true≢false (sym (pending_from node jobs t k c.1 (omega (arith, l.1)))
          ∙ none_pending node jobs t k idle c.0)

  settle : (t : ℕ) (s : Threads) → Agrees node jobs t s → (v : Threads) × Settles node jobs t s v
      × Agrees node jobs t v
  settle t s h =
      let w = wake t s h (length jobs) (omega arith) in
      elim (picked node jobs t) as (λ o. picked node jobs t ≡ o → (v : Threads)
      × Settles node jobs t s v × Agrees node jobs t v) [
        | None ↦
            λ idle. (w.0, (w.1.moves, w.1.are, settle_idle t w.0 w.1.agrees w.2 idle), w.1.agrees)
        | Some p ↦ λ pick. settle_busy t p (picked_is node jobs t p pick) s w.0 w.1 w.2
      ] refl

  -- a thread that isn't finished goes on
  after : Threads → Option ℕ → Threads
  after s None = s
  after s (Some p) =
      if nat_lt ((ticked s p).executed p) (job_at jobs p).executes then ticked s p
      else record (ticked s p) { running = None }

  ticks : (TailAt : ℕ → ℕ → Type 0) (s : Threads) → IsTick TailAt node jobs s (after s s.running)
  unfolding after
  ticks TailAt s =
      elim s.running as (λ o. s.running ≡ o → IsTick TailAt node jobs s (after s o)) [
        | None ↦ λ nobody. inl (nobody, refl)
        | Some p ↦ λ runs. inr (record {
          thread = p;
          was_running = runs;
          ends = λ done. rw (le-ltb ((ticked s p).executed p) (job_at jobs p).executes done) refl;
          goes_on = λ more. inl
              (rw (lt-ltb ((ticked s p).executed p) (job_at jobs p).executes more) refl);
        })
      ] refl

  -- ---- the run
  record State (t : ℕ) : Type 0 where
    pub threads : Threads
    pub agrees : Agrees node jobs t threads
    pub rests : IsAtRest node jobs t threads

  settled : (t : ℕ) (s : Threads) → Agrees node jobs t s → State t
  settled t s h =
      record { threads = (settle t s h).0; agrees = (settle t s h).2; rests = (settle t s h).1.2 }

  on : (t : ℕ) (x : State t) → Agrees node jobs (suc t) (after x.threads x.threads.running)
  on t x = tick_keeps ok legal WhereRaised (empty_raised ok legal) x.threads
      (after x.threads x.threads.running) (by t) x.agrees x.rests (ticks WhereRaised x.threads)

  state : (t : ℕ) → State t
  state zero = settled 0 at_first (begins ok legal)
  state (suc t) =
      settled (suc t) (after (state t).threads (state t).threads.running) (on t (state t))

  is_run : (TailAt : ℕ → ℕ → Type 0) → IsRun TailAt node jobs (λ t. (state t).threads)
  unfolding state settled
  is_run TailAt = record {
    start = (settle 0 at_first (begins ok legal)).1;
    next = λ t. (
      after (state t).threads (state t).threads.running,
      ticks TailAt (state t).threads,
      (settle (suc t) (after (state t).threads (state t).threads.running) (on t (state t))).1,
    );
  }

  pub can_run : CanRun node jobs
  can_run = (λ t. (state t).threads, is_run WhereRaised, is_run AnyWay)
