-- POSIX's lists run whom the tick rule picks.
use Rattle.std.proofs.Common.{ℕ, zero, suc, ◌<◌, ◌≤◌, ◌≡◌, inl, inr, refl, sym, ap, ◌∙◌, subst}
use Rattle.std.proofs.Common.{arith, true, false, List, [], Option, Some, None}
use Rattle.std.proofs.lemmas.Bool.{cases_lt, cases_eq, true≢false, eq-eqb}
use Rattle.ceiling_kernel.proofs.Common.{Node, Job, job_at, level_of_job, active_of, held_ceiling}
use Rattle.ceiling_kernel.proofs.Common.{picked, IsNode, AreLegalJobs, NoOverrunBy, TakeTurns}
use Rattle.ceiling_kernel.specs.Waits.{AskAnew, holds_lock}
use Rattle.ceiling_kernel.specs.Waits.{asks_lock}
use Rattle.ceiling_kernel.proofs.MachineLaws.{start_of}
use Rattle.ceiling_kernel.proofs.BehaviourLaws.{turns_apart}
use Rattle.ceiling_kernel.proofs.LockLaws.{anew_law}
use Rattle.ceiling_kernel.proofs.NestLaws.{free_law}
use Rattle.posix_lists.specs.ThreadLists.{Threads, at_first, with_head, with_tail, with_list}
use Rattle.posix_lists.specs.ThreadLists.{IsMove, AreMoves, IsAtRest, changes_locks, AnyWay}
use Rattle.posix_lists.specs.ThreadLists.{WhereRaised, ticked, IsTick, IsRun, EachTickIsRuled}
use Rattle.posix_lists.proofs.LockLaws.{left_after}
use Rattle.posix_lists.proofs.QueueLaws.{In, empty_from, to_head, tail_behind_head, head_back}
use Rattle.posix_lists.proofs.QueueLaws.{head_is_tail}
use Rattle.posix_lists.proofs.TickLaws.{Queued, one_on, queued_same, wakes, idle_pick, running_pick}
use Rattle.posix_lists.proofs.TickLaws.{below_on, goes_on, ends, idles}

-- the lists, with the running thread at the head of its own
abbrev pub shown_of : Node → List Job → Option ℕ → (ex : ℕ → ℕ) → (list : ℕ → List ℕ) → ℕ → List ℕ
shown_of node jobs None ex list q = list q
shown_of node jobs (Some p) ex list q = with_head list (active_of node jobs ex p) p q

-- at tick t a state has the pending threads in order
abbrev pub Agrees : Node → List Job → ℕ → Threads → Type 0
Agrees node jobs t s =
    Queued node jobs t s.executed s.has_come (λ q. shown_of node jobs s.running s.executed s.list q)

shown_tail : (node : Node) (jobs : List Job) (r : Option ℕ) (ex : ℕ → ℕ) (list : ℕ → List ℕ)
    (a j q : ℕ)
    → with_tail (λ x. shown_of node jobs r ex list x) a j q
    ≡ shown_of node jobs r ex (with_tail list a j) q
shown_tail node jobs None ex list a j q = refl
shown_tail node jobs (Some p) ex list a j q =
    tail_behind_head list a j (active_of node jobs ex p) p q

-- the same where it is known who runs
pub known_runs : {node : Node} {jobs : List Job} {t : ℕ} {r : Option ℕ} (s : Threads)
    → s.running ≡ r → Agrees node jobs t s
    → Queued node jobs t s.executed s.has_come (λ q. shown_of node jobs r s.executed s.list q)
known_runs {node} {jobs} {t} s e h = subst (λ r. Queued node jobs t s.executed s.has_come
    (λ q. shown_of node jobs r s.executed s.list q)) e h

module _ {node : Node} {jobs : List Job} (ok : IsNode node) (legal : AreLegalJobs node jobs) where
  -- the priority of a thread, and that after one tick more of it
  abbrev active : Threads → ℕ → ℕ
  active s p = active_of node jobs s.executed p

  abbrev next : Threads → ℕ → ℕ
  next s p = active_of node jobs (one_on s.executed p) p

  -- ---- moves
  pub move_keeps : {t : ℕ} (s u : Threads) → NoOverrunBy node jobs t → Agrees node jobs t s
      → IsMove node jobs t s u → Agrees node jobs t u
  move_keeps {t} s u none h move =
      elim move [
        | inl w ↦ subst (Agrees node jobs t) (sym w.moved)
            (queued_same (λ q. shown_of node jobs s.running s.executed
            (with_tail s.list (active s w.thread) w.thread) q)
            (shown_tail node jobs s.running s.executed s.list (active s w.thread) w.thread)
            (wakes ok legal h none w.thread w.is_job w.due w.executes w.was_blocked))
        | inr other ↦ elim other [
          | inl pre ↦ subst (Agrees node jobs t) (sym pre.moved) (known_runs s pre.was_running h)
          | inr sel ↦
              let qd = known_runs s sel.nobody h in
              let rest : ℕ → List ℕ = with_list s.list sel.priority sel.rest in
              let at : In sel.thread (s.list sel.priority) = subst (In sel.thread) (sym sel.head)
              (inl refl) in
              let a = (qd.listed sel.priority sel.thread at).2 in
              subst (Agrees node jobs t) (sym sel.moved)
              (queued_same (with_head rest (active s sel.thread) sel.thread)
              (λ q. subst (λ x. s.list q ≡ with_head rest x sel.thread q) (sym a)
              (head_back s.list sel.priority sel.thread sel.rest sel.head q)) qd)
        ]
      ]

  moves_keep : {t : ℕ} (n : ℕ) (s u : Threads) → NoOverrunBy node jobs t → Agrees node jobs t s
      → AreMoves node jobs t n s u → Agrees node jobs t u
  moves_keep {t} zero s u none h moves = subst (Agrees node jobs t) moves h
  moves_keep (suc n) s u none h moves =
      moves_keep n moves.0 u none (move_keeps s moves.0 none h moves.1) moves.2

  -- ---- the thread at rest is the pick
  pub rest_picks : {t : ℕ} (s : Threads) → Agrees node jobs t s → IsAtRest node jobs t s
      → s.running ≡ picked node jobs t
  rest_picks {t} s h rest =
      elim s.running as (λ r. s.running ≡ r → r ≡ picked node jobs t) [
        | None ↦ λ e. sym (idle_pick ok legal (known_runs s e h) rest.all_came
            (λ q. rest.none_runnable q e))
        | Some p ↦ λ e. sym (running_pick ok legal s.list p (known_runs s e h)
            (λ q lt. rest.none_higher p q e lt) rest.all_came)
      ] refl

  -- ---- at first
  pub begins : Agrees node jobs 0 at_first
  begins = record {
    executed = λ j. sym (start_of node jobs j);
    came = λ j c. absurd (true≢false (sym c));
    fresh = λ j c. refl;
    listed = λ q j never. absurd never;
    complete = λ j c u. absurd (true≢false (sym c));
    rising = λ q. tt;
  }

  -- ---- a tick
  -- where a thread comes to the tail, the list is empty
  abbrev pub EmptyTails : (ℕ → ℕ → Type 0) → Type 0
  EmptyTails TailAt = (t : ℕ) (s : Threads) (p : ℕ) → Agrees node jobs t s
      → IsAtRest node jobs t s → NoOverrunBy node jobs t → s.running ≡ Some p
      → changes_locks (job_at jobs p).sections (s.executed p) ≡ true
      → TailAt (active s p) (next s p) → s.list (next s p) ≡ []

  module _ (TailAt : ℕ → ℕ → Type 0) (empties : EmptyTails TailAt) where
    pub tick_keeps : {t : ℕ} (s u : Threads) → NoOverrunBy node jobs t → Agrees node jobs t s
        → IsAtRest node jobs t s → IsTick TailAt node jobs s u → Agrees node jobs (suc t) u
    tick_keeps {t} s u none h rest tick =
        let pick : s.running ≡ picked node jobs t = rest_picks s h rest in
        elim tick [
          | inl idle ↦ subst (Agrees node jobs (suc t)) (sym idle.1) (idles h (sym pick ∙ idle.0))
          | inr busy ↦
              let p : ℕ = busy.thread in
              let runs : s.running ≡ Some p = busy.was_running in
              let qd = known_runs s runs h in
              let higher : (q : ℕ) → active s p < q → s.list q ≡ [] =
              λ q lt. rest.none_higher p q runs lt in
              elim (cases_lt ((ticked s p).executed p) (job_at jobs p).executes) [
                | inr done ↦ subst (Agrees node jobs (suc t)) (sym (busy.ends done))
                    (ends ok legal s.list p qd higher (sym pick ∙ runs) done)
                | inl left ↦
                    let kept = goes_on ok legal s.list p qd higher none (sym pick ∙ runs) left in
                    elim (busy.goes_on left) [
                      | inl on ↦ subst (Agrees node jobs (suc t)) (sym on)
                          (subst (λ r. Queued node jobs (suc t) (one_on s.executed p) s.has_come
                          (λ q. shown_of node jobs r (one_on s.executed p) s.list q))
                          (sym runs) kept)
                      | inr moved ↦ elim moved.1 [
                        | inl head ↦ subst (Agrees node jobs (suc t)) (sym head) kept
                        | inr tail ↦ subst (Agrees node jobs (suc t)) (sym tail.1)
                            (queued_same (with_tail s.list (next s p) p)
                            (head_is_tail s.list (next s p) p
                            (empties t s p h rest none runs moved.0 tail.0)) kept)
                      ]
                    ]
              ]
        ]

    -- ---- a run
    module _ (run : ℕ → Threads) (is : IsRun TailAt node jobs run) where
      rest_at : (t : ℕ) → IsAtRest node jobs t (run t)
      rest_at zero = is.start.2
      rest_at (suc t) = (is.next t).2.2

      agrees_at : (t : ℕ) → NoOverrunBy node jobs t → Agrees node jobs t (run t)
      agrees_at zero none = moves_keep is.start.0 at_first (run 0) none begins is.start.1
      agrees_at (suc t) none =
          let before : NoOverrunBy node jobs t = λ k lt ready. none k lt (omega arith) in
          let tick = is.next t in
          moves_keep tick.2.0 tick.0 (run (suc t)) none
          (tick_keeps (run t) tick.0 before (agrees_at t before) (rest_at t) tick.1) tick.2.1

      pub ruled : AskAnew jobs → EachTickIsRuled node jobs run
      ruled anew t none =
          let h : Agrees node jobs t (run t) = agrees_at t none in
          let pick : (run t).running ≡ picked node jobs t = rest_picks (run t) h (rest_at t) in
          let free = λ (p : ℕ) (lock : List ℕ) (runs : (run t).running ≡ Some p)
          (asks : asks_lock (job_at jobs p).sections ((run t).executed p) lock ≡ true).
          free_law node jobs ok legal anew t p lock none (sym pick ∙ runs)
          (subst (λ e. asks_lock (job_at jobs p).sections e lock ≡ true) (h.executed p) asks) in
          record {
            runs = pick;
            nobody_owns = λ p k lock runs asks lt ne.
                subst (λ e. holds_lock (job_at jobs k).sections e lock ≡ false) (sym (h.executed k))
                ((free p lock runs asks).is_free k lt);
            within_ceiling = λ p lock runs asks. (free p lock runs asks).within_ceiling;
          }

  -- ---- the places that are allowed
  pub empty_raised : EmptyTails WhereRaised
  empty_raised t s p h rest none runs changes raised = rest.none_higher p (next s p) runs raised

  empty_turns : TakeTurns jobs → EmptyTails AnyWay
  empty_turns turns t s p h rest none runs changes any =
      let qd = known_runs s runs h in
      elim (cases_lt (active s p) (next s p)) [
        | inl raised ↦ rest.none_higher p (next s p) runs raised
        | inr no_higher ↦
            let own = own_after no_higher in
            empty_from (s.list (next s p)) (λ k at.
            let lower = below_on ok legal s.list p qd (λ q lt. rest.none_higher p q runs lt) none
            (next s p) k refl at in
            let a = (qd.listed (next s p) k (to_head s.list (active s p) p (next s p) k at)).2 in
            omega arith)
      ]
    where
      own_after : next s p ≤ active s p → next s p ≡ level_of_job node jobs p
      own_after no_higher =
          let one : one_on s.executed p p ≡ suc (s.executed p) =
          rw (eq-eqb p p refl) (omega arith) in
          let on = ap (held_ceiling node (job_at jobs p).sections) one in
          elim (cases_eq (held_ceiling node (job_at jobs p).sections (s.executed p)) 0) [
            | inl nothing ↦ omega arith
            | inr some ↦
                let left = left_after node 0 (job_at jobs p).executes (job_at jobs p).sections
                (s.executed p) (turns_apart jobs turns p) changes (omega arith) in
                omega arith
          ]

  pub turns_law : TakeTurns jobs → (run : ℕ → Threads) → IsRun AnyWay node jobs run
      → EachTickIsRuled node jobs run
  turns_law turns run is = ruled AnyWay (empty_turns turns) run is (anew_law jobs turns)

  pub nested_law : AskAnew jobs → (run : ℕ → Threads) → IsRun WhereRaised node jobs run
      → EachTickIsRuled node jobs run
  nested_law anew run is = ruled WhereRaised empty_raised run is anew
