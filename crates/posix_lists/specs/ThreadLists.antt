-- One processor under SCHED_FIFO with PTHREAD_PRIO_PROTECT mutexes, as POSIX.1-2017 words it: thread lists, one for each
-- priority (System Interfaces, 2.8.4 Process Scheduling), and the priority at which an owner of mutexes executes
-- (pthread_mutexattr_getprotocol). Each job is a thread: blocked until it is ready, and gone when it has executed all that
-- it executes. Nothing but the execution happens within a tick; between two ticks no time passes, and what happens there
-- happens one move after the other.
use Rattle.std.specs.Prelude.{◌≡◌, ◌≢◌, ℕ, zero, suc, ◌+◌, ◌<◌, ◌≤◌, ◌⊎◌, Bool, true, false, ◌||◌, ◌==◌, if◌then◌else◌, Option, Some, None, List, [], ◌∷◌, ◌++◌, length}
use Rattle.std.specs.List.{list_any}
use Rattle.task_sheet.specs.Sheet.{CriticalSection}
use Rattle.ceiling_kernel.specs.Tick.{Node, Job, job_at, level_of_job, active_of, ceiling, picked}
use Rattle.ceiling_kernel.specs.Waits.{holds_lock, asks_lock, NoOverrunBy}

-- how many ticks each thread has executed, which have become runnable, which one is running, and the list of each
-- priority; the running thread is in no list
pub record Threads : Type 0 where
  pub executed : ℕ → ℕ
  pub has_come : ℕ → Bool
  pub running : Option ℕ
  pub list : ℕ → List ℕ

-- at first all threads are blocked
abbrev pub at_first : Threads
at_first =
    record { executed = λ j. 0; has_come = λ j. false; running = None; list = λ priority. [] }

-- A thread executes at the higher of its own priority and the highest ceiling of the mutexes that it owns, whether or not
-- others are blocked on them (pthread_mutexattr_getprotocol).
abbrev pub priority_of : Node → List Job → Threads → ℕ → ℕ
priority_of node jobs s j = active_of node jobs s.executed j

-- ---- lists
-- a list, in the place of the list for a priority
abbrev pub with_list : (list : ℕ → List ℕ) → (priority : ℕ) → List ℕ → ℕ → List ℕ
with_list list priority xs q = if priority == q then xs else list q

-- a thread at the head of the list for a priority, and at the tail
abbrev pub with_head : (list : ℕ → List ℕ) → (priority j : ℕ) → ℕ → List ℕ
with_head list priority j q = if priority == q then j ∷ list q else list q

abbrev pub with_tail : (list : ℕ → List ℕ) → (priority j : ℕ) → ℕ → List ℕ
with_tail list priority j q = if priority == q then list q ++ j ∷ [] else list q

-- the running thread becomes the head of the list for its priority, or the tail
abbrev pub at_head : Node → List Job → Threads → ℕ → Threads
at_head node jobs s p = record s { running = None; list = with_head s.list (priority_of node jobs s p) p }

abbrev pub at_tail : Node → List Job → Threads → ℕ → Threads
at_tail node jobs s p = record s { running = None; list = with_tail s.list (priority_of node jobs s p) p }

-- ---- moves between two ticks
-- SCHED_FIFO, rule 2: when a blocked thread becomes a runnable thread, it becomes the tail of the thread list for its priority
pub record BecomesRunnable (node : Node) (jobs : List Job) (t : ℕ) (s u : Threads) : Type 0 where
  pub thread : ℕ
  pub is_job : thread < length jobs
  pub due : (job_at jobs thread).ready ≤ t
  pub executes : 0 < (job_at jobs thread).executes
  pub was_blocked : s.has_come thread ≡ false
  pub moved : u ≡ record s {
    has_come = λ j. if thread == j then true else s.has_come j;
    list = with_tail s.list (priority_of node jobs s thread) thread;
  }

-- SCHED_FIFO, rule 1: when a running thread becomes a preempted thread, it becomes the head of the thread list for its
-- priority; it is preempted because a thread of a higher priority is runnable (Base Definitions, Preempted Thread)
pub record IsPreempted (node : Node) (jobs : List Job) (s u : Threads) : Type 0 where
  pub thread : ℕ
  pub was_running : s.running ≡ Some thread
  pub higher : ℕ
  pub is_higher : priority_of node jobs s thread < higher
  pub runnable : s.list higher ≢ []
  pub moved : u ≡ at_head node jobs s thread

-- 2.8.4: the thread at the head of the highest priority non-empty thread list becomes a running thread, and is removed
-- from its list
pub record IsSelected (s u : Threads) : Type 0 where
  pub nobody : s.running ≡ None
  pub priority : ℕ
  pub thread : ℕ
  pub rest : List ℕ
  pub head : s.list priority ≡ thread ∷ rest
  pub highest : (higher : ℕ) → priority < higher → s.list higher ≡ []
  pub moved : u ≡ record s { running = Some thread; list = with_list s.list priority rest }

-- one move
abbrev pub IsMove : Node → List Job → ℕ → Threads → Threads → Type 0
IsMove node jobs t s u = BecomesRunnable node jobs t s u ⊎ (IsPreempted node jobs s u ⊎ IsSelected s u)

-- n moves, one after the other
abbrev pub AreMoves : Node → List Job → (t n : ℕ) → Threads → Threads → Type 0
AreMoves node jobs t zero s u = s ≡ u
AreMoves node jobs t (suc n) s u = (m : Threads) × IsMove node jobs t s m × AreMoves node jobs t n m u

-- no move is left: each thread that is due has come, none of a higher priority than the running one is runnable, and where
-- none runs, none is
pub record IsAtRest (node : Node) (jobs : List Job) (t : ℕ) (s : Threads) : Type 0 where
  pub all_came : (j : ℕ) → j < length jobs → (job_at jobs j).ready ≤ t
      → 0 < (job_at jobs j).executes → s.has_come j ≡ true
  pub none_higher : (j higher : ℕ) → s.running ≡ Some j → priority_of node jobs s j < higher
      → s.list higher ≡ []
  pub none_runnable : (priority : ℕ) → s.running ≡ None → s.list priority ≡ []

-- the moves before tick t
abbrev pub Settles : Node → List Job → ℕ → Threads → Threads → Type 0
Settles node jobs t s u = (n : ℕ) × AreMoves node jobs t n s u × IsAtRest node jobs t u

-- ---- the place of a thread that locks or unlocks a mutex
-- POSIX has no rule for it: rules 7 and 8 of SCHED_FIFO are about calls that set a policy or a priority, and by rule 10 at
-- no other time is a place affected. Of a thread that unlocks, pthread_mutexattr_getprotocol says that it isn't moved to the
-- tail where its original priority is changed. Systems differ, so the machine allows each place.

-- a thread with these sections locks a mutex in the tick that it executes after e others, or unlocks one at its end
abbrev pub changes_locks : List CriticalSection → ℕ → Bool
changes_locks sections e = list_any (λ s. (s.at == e) || (s.at + s.len == e + 1)) sections

-- at the tail of the list for its priority, whatever that was before the tick and is after it
abbrev pub AnyWay : (before after : ℕ) → Type 0
AnyWay before after = Unit {0}

-- at the tail only where its priority was raised, as Linux does
abbrev pub WhereRaised : (before after : ℕ) → Type 0
WhereRaised before after = before < after

-- ---- a tick
-- thread p has executed one more
abbrev pub ticked : Threads → ℕ → Threads
ticked s p = record s { executed = λ j. if p == j then s.executed j + 1 else s.executed j }

-- it goes on running; or it locked or unlocked a mutex, and has come to an end of the list for its priority
abbrev pub GoesOn : (TailAt : ℕ → ℕ → Type 0) → Node → List Job → (p : ℕ) → (old s u : Threads) → Type 0
GoesOn TailAt node jobs p old s u =
    (u ≡ s)
    ⊎ ((changes_locks (job_at jobs p).sections (old.executed p) ≡ true)
    × ((u ≡ at_head node jobs s p)
    ⊎ (TailAt (priority_of node jobs old p) (priority_of node jobs s p)
    × (u ≡ at_tail node jobs s p))))

-- the running thread executes the tick, and ends with it or goes on
pub record Ticks (TailAt : ℕ → ℕ → Type 0) (node : Node) (jobs : List Job) (s u : Threads) : Type 0 where
  pub thread : ℕ
  pub was_running : s.running ≡ Some thread
  pub ends : (job_at jobs thread).executes ≤ (ticked s thread).executed thread
      → u ≡ record (ticked s thread) { running = None }
  pub goes_on : (ticked s thread).executed thread < (job_at jobs thread).executes
      → GoesOn TailAt node jobs thread s (ticked s thread) u

-- one tick, in which a thread runs or none does
abbrev pub IsTick : (TailAt : ℕ → ℕ → Type 0) → Node → List Job → Threads → Threads → Type 0
IsTick TailAt node jobs s u = ((s.running ≡ None) × (u ≡ s)) ⊎ Ticks TailAt node jobs s u

-- ---- a run
-- `run t` is what executes tick t, after the moves before it
pub record IsRun (TailAt : ℕ → ℕ → Type 0) (node : Node) (jobs : List Job) (run : ℕ → Threads) : Type 0 where
  pub start : Settles node jobs 0 at_first (run 0)
  pub next : (t : ℕ) → (m : Threads) × IsTick TailAt node jobs (run t) m
      × Settles node jobs (suc t) m (run (suc t))

-- there is a run, in which a thread comes to the tail at most where its priority was raised
abbrev pub CanRun : Node → List Job → Type 0
CanRun node jobs =
    (run : ℕ → Threads) × IsRun WhereRaised node jobs run × IsRun AnyWay node jobs run

-- ---- the law
-- The thread that executes tick t is the job that the tick rule picks, and it waits for no mutex: nobody else owns one for
-- which it asks, and its own priority is at most the mutex's ceiling, without which there is EINVAL.
pub record RunsAsRuled (node : Node) (jobs : List Job) (run : ℕ → Threads) (t : ℕ) : Type 0 where
  pub runs : (run t).running ≡ picked node jobs t
  pub nobody_owns : (p k : ℕ) (lock : List ℕ) → (run t).running ≡ Some p
      → asks_lock (job_at jobs p).sections ((run t).executed p) lock ≡ true
      → k < length jobs → k ≢ p
      → holds_lock (job_at jobs k).sections ((run t).executed k) lock ≡ false
  pub within_ceiling : (p : ℕ) (lock : List ℕ) → (run t).running ≡ Some p
      → asks_lock (job_at jobs p).sections ((run t).executed p) lock ≡ true
      → level_of_job node jobs p ≤ ceiling node lock

-- in each tick, as long as no job overran the one before it
abbrev pub EachTickIsRuled : Node → List Job → (ℕ → Threads) → Type 0
EachTickIsRuled node jobs run = (t : ℕ) → NoOverrunBy node jobs t → RunsAsRuled node jobs run t
