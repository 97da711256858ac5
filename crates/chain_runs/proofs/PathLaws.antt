-- What stands of a task as time goes by, and the samples along a path, from the first task on.
use Rattle.std.proofs.Common.{ℕ, suc, ◌≤◌, ◌≡◌, refl, ap, subst, arith, List, [], ◌∷◌, length, Option, Some, None}
use Rattle.ceiling_kernel.proofs.Common.{Node, Job, job_at}
use Rattle.chains.specs.Starts.{IsReadAt, IsWrittenAt}
use Rattle.chains.specs.Paths.{IsNewest, Reads, LeadsTo, last_task}
use Rattle.chains.specs.declared.bounds.Writes.{Writes}
use Rattle.chains.specs.declared.bounds.Writes.TheVariants.{AtFinish, AtDeadline}
use Rattle.chains.proofs.AgeLaws.{leads_own}
use Rattle.chains.proofs.NewestLaws.{start_once}
use Rattle.chain_runs.specs.Runs.{IsSampled}

-- what is kept of a sample is one, or there is none
abbrev pub Is : (ℕ → Type 0) → Option ℕ → Type 0
Is P None = (s : ℕ) → P s → ⊥
Is P (Some s) = P s

pub is_same : (P Q : ℕ → Type 0) (o : Option ℕ) → ((s : ℕ) → P s → Q s) → ((s : ℕ) → Q s → P s)
    → Is P o → Is Q o
is_same P Q None to from is = λ s has. is s (from s has)
is_same P Q (Some s) to from is = to s is

pub no_cons : (i : ℕ) (others : List ℕ) → ◌≡◌ {A = List ℕ} [] (i ∷ others) → ⊥
no_cons i others e = (let z : 0 ≡ suc (length others) = ap length e in absurd (omega arith))

-- a job reads once
pub read_once : (writes : Writes) (node : Node) (jobs : List Job) (j s t : ℕ)
    → IsReadAt writes node jobs j s → IsReadAt writes node jobs j t → s ≡ t
read_once AtFinish node jobs j s t one other =
    omega (arith, start_once node jobs j s t one other, start_once node jobs j t s other one)
read_once AtDeadline node jobs j s t one other = omega (arith, one.1, other.1)

module _ (writes : Writes) (node : Node) (jobs : List Job) where
  -- ---- what stands
  -- no job of task i writes after t and until u
  abbrev pub NoneComes : (i t u : ℕ) → Type 0
  NoneComes i t u =
      (q g : ℕ) → (job_at jobs q).task ≡ i → IsWrittenAt writes node jobs q g → g ≤ u → g ≤ t

  -- the newest job of a task stays the newest until the next comes
  newest_later : (i t u p : ℕ) → t ≤ u → NoneComes i t u → IsNewest writes node jobs i t p
      → IsNewest writes node jobs i u p
  newest_later i t u p le none is =
      let in_time = is.in_time in
      record {
        is_job = is.is_job;
        own = is.own;
        finish = is.finish;
        finished = is.finished;
        in_time = omega arith;
        last = λ q g lt own fin by. is.last q g lt own fin (none q g own fin by);
      }

  newest_before : (i t u p : ℕ) → t ≤ u → NoneComes i t u → IsNewest writes node jobs i u p
      → IsNewest writes node jobs i t p
  newest_before i t u p le none is =
      record {
        is_job = is.is_job;
        own = is.own;
        finish = is.finish;
        finished = is.finished;
        in_time = none p is.finish is.own is.finished is.in_time;
        last = λ q g lt own fin by. is.last q g lt own fin (omega arith);
      }

  -- the sample behind it, by those of which jobs S speaks
  abbrev pub Stands : (i : ℕ) → (S : ℕ → ℕ → Type 0) → (t : ℕ) → ℕ → Type 0
  Stands i S t s = (p : ℕ) × IsNewest writes node jobs i t p × S p s

  -- it stays
  pub stands_on : (i t u : ℕ) (S : ℕ → ℕ → Type 0) (o : Option ℕ) → t ≤ u → NoneComes i t u
      → Is (Stands i S t) o → Is (Stands i S u) o
  stands_on i t u S o le none is =
      is_same (Stands i S t) (Stands i S u) o
      (λ s has. (has.0, newest_later i t u has.0 le none has.1, has.2))
      (λ s has. (has.0, newest_before i t u has.0 le none has.1, has.2))
      is

  -- ---- samples, from the first task on
  -- a job has read a sample that stands behind what a job of the task before has written
  abbrev pub HasRead : (i : ℕ) → (S : ℕ → ℕ → Type 0) → ℕ → ℕ → Type 0
  HasRead i S q s = (u : ℕ) × IsReadAt writes node jobs q u × Stands i S u s

  -- what stands as it reads
  pub has_read : (i j t : ℕ) (S : ℕ → ℕ → Type 0) (o : Option ℕ) → IsReadAt writes node jobs j t
      → Is (Stands i S t) o → Is (HasRead i S j) o
  has_read i j t S o read is =
      is_same (Stands i S t) (HasRead i S j) o
      (λ s has. (t, read, has))
      (λ s has. subst (λ u. Stands i S u s) (read_once writes node jobs j has.0 t has.1 read) has.2)
      is

  abbrev pub Sampled : (i : ℕ) → (others : List ℕ) → (S : ℕ → ℕ → Type 0) → ℕ → ℕ → Type 0
  Sampled i [] S = S
  Sampled i (c ∷ others) S = Sampled c others (HasRead i S)

  sampled_from : (i : ℕ) (others : List ℕ) (S : ℕ → ℕ → Type 0) (k s p : ℕ) → S p s
      → LeadsTo writes node jobs i others p k → Sampled i others S k s
  sampled_from i [] S k s p has same = subst (λ x. S x s) same has
  sampled_from i (c ∷ others) S k s p has leads =
      let reads : Reads writes node jobs c leads.0 i p = leads.1 in
      sampled_from c others (HasRead i S) k s leads.0
      (reads.start, reads.started, (p, reads.newest, has)) leads.2

  sampled_to : (i : ℕ) (others : List ℕ) (S : ℕ → ℕ → Type 0) (k s : ℕ)
      → (job_at jobs k).task ≡ last_task i others → Sampled i others S k s
      → (p : ℕ) × S p s × LeadsTo writes node jobs i others p k
  sampled_to i [] S k s own has = (k, has, refl)
  sampled_to i (c ∷ others) S k s own has =
      let b : (q : ℕ) × HasRead i S q s × LeadsTo writes node jobs c others q k =
      sampled_to c others (HasRead i S) k s own has in
      let reads : Reads writes node jobs c b.0 i b.1.2.0 = record {
        own = leads_own writes node jobs c others b.0 k own b.2;
        start = b.1.0;
        started = b.1.1;
        newest = b.1.2.1;
      } in
      (b.1.2.0, b.1.2.2, (b.0, reads, b.2))

  pub sampled_is : (i : ℕ) (others : List ℕ) (k : ℕ) (o : Option ℕ)
      → (job_at jobs k).task ≡ last_task i others
      → Is (Sampled i others (IsReadAt writes node jobs) k) o → IsSampled writes node jobs i others k o
  sampled_is i others k None own is = λ s of.
      is s (sampled_from i others (IsReadAt writes node jobs) k s of.job of.started of.path)
  sampled_is i others k (Some s) own is =
      let b = sampled_to i others (IsReadAt writes node jobs) k s own is in
      record { job = b.0; started = b.1; path = b.2 }
