-- The greatest age and the greatest reaction of a chain's outputs.
use Rattle.std.proofs.Common.{ℕ, ◌+◌, ◌-◌, ◌<◌, ◌≤◌, ◌≡◌, inl, inr, refl, sym, ◌∙◌, subst, arith}
use Rattle.std.proofs.Common.{max, nat_lt, List, [], ◌∷◌, Option, Some, None}
use Rattle.std.proofs.lemmas.Bool.{cases_Bool, cases_lt}
use Rattle.std.proofs.lemmas.Option.{none-some, same_Some}
use Rattle.ceiling_kernel.proofs.Common.{IsNode, Node, Job, job_at, jobs_of}
use Rattle.ceiling_kernel.proofs.EndLaws.{legal_from}
use Rattle.chains.specs.Starts.{IsReadAt, IsWrittenAt}
use Rattle.chains.specs.Paths.{IsNewest, IsSampleOf, LeadsTo, Reads, last_task}
use Rattle.chains.specs.declared.bounds.Writes.{Writes}
use Rattle.chains.specs.declared.bounds.Writes.TheVariants.{AtFinish, AtDeadline}
use Rattle.chains.proofs.AgeLaws.{ages_law}
use Rattle.chain_runs.specs.ChainOutputs.{outputs_of}
use Rattle.chain_runs.specs.Outcomes.{age_by, age_at, ages_of, greater, later_than, next_of}
use Rattle.chain_runs.specs.Outcomes.{reaction_by, reaction_at, reactions_of}
use Rattle.chain_runs.specs.Runs.{AreOutputs, AtMost, IsOutput, IsSampled, NoneIsOlder, RunsAreWithin}
use Rattle.chain_runs.specs.Runs.{WritesInTime}
use Rattle.chain_runs.specs.declared.outputs.ChainOutput.{ChainOutput}
use Rattle.chain_runs.proofs.OrderLaws.{AreInTurn, in_turn, newest_once}
use Rattle.chain_runs.proofs.PathLaws.{read_once}
use Rattle.chain_runs.proofs.RunLaws.{outputs_law}

-- ---- the greater of two
pub greater_within : (b : ℕ) (x y : Option ℕ) → AtMost b x → AtMost b y → AtMost b (greater x y)
greater_within b None y one other = other
greater_within b (Some x) None one other = one
greater_within b (Some x) (Some y) one other = omega arith

-- a number is found that is no less
abbrev pub NoLess : ℕ → Option ℕ → Type 0
NoLess n o = (a : ℕ) × (o ≡ Some a) × (n ≤ a)

pub greater_left : (n : ℕ) (x y : Option ℕ) → NoLess n x → NoLess n (greater x y)
greater_left n None y has = absurd (none-some has.0 has.1)
greater_left n (Some x) None has = has
greater_left n (Some x) (Some y) has =
    (let same : x ≡ has.0 = same_Some x has.0 has.1 in (max x y, refl, omega (arith, has.2)))

pub greater_right : (n : ℕ) (x y : Option ℕ) → NoLess n y → NoLess n (greater x y)
greater_right n None y has = has
greater_right n (Some x) None has = absurd (none-some has.0 has.1)
greater_right n (Some x) (Some y) has =
    (let same : y ≡ has.0 = same_Some y has.0 has.1 in (max x y, refl, omega (arith, has.2)))

module _ (writes : Writes) (node : Node) (jobs : List Job) (turn : AreInTurn writes node jobs) where
  -- a path begins with one job
  path_once : (i : ℕ) (others : List ℕ) (p q k : ℕ) → LeadsTo writes node jobs i others p k
      → LeadsTo writes node jobs i others q k → p ≡ q
  path_once i [] p q k one other = one ∙ sym other
  path_once i (c ∷ others) p q k one other =
      let reads : Reads writes node jobs c one.0 i p = one.1 in
      let reads' : Reads writes node jobs c other.0 i q = other.1 in
      let by : one.0 ≡ other.0 = path_once c others one.0 other.0 k one.2 other.2 in
      let started = subst (λ x. IsReadAt writes node jobs x reads.start) by reads.started in
      let at : reads.start ≡ reads'.start = read_once writes node jobs other.0 reads.start reads'.start started reads'.started in
      newest_once writes node jobs turn i reads'.start p q (subst (λ t. IsNewest writes node jobs i t p) at reads.newest) reads'.newest

  -- so an output has one sample at the most
  pub sample_once : (i : ℕ) (others : List ℕ) (k s u : ℕ) → IsSampleOf writes node jobs i others k s
      → IsSampleOf writes node jobs i others k u → s ≡ u
  sample_once i others k s u one other =
      let same : one.job ≡ other.job = path_once i others one.job other.job k one.path other.path in
      read_once writes node jobs other.job s u (subst (λ x. IsReadAt writes node jobs x s) same one.started) other.started

  -- a sample is older than its output
  pub sample_before : (i : ℕ) (others : List ℕ) (p k s f : ℕ) → IsReadAt writes node jobs p s
      → LeadsTo writes node jobs i others p k → IsWrittenAt writes node jobs k f → s < f
  sample_before i [] p k s f start same is =
      turn.before k s f (subst (λ x. IsReadAt writes node jobs x s) same start) is
  sample_before i (c ∷ others) p k s f start leads is =
      let reads : Reads writes node jobs c leads.0 i p = leads.1 in
      let by = reads.newest.in_time in
      omega (
        arith,
        turn.before p s reads.newest.finish start reads.newest.finished,
        sample_before c others leads.0 k reads.start f reads.started leads.2 is,
      )

  module _ (first : ℕ) (others : List ℕ) (until : ℕ) where
    abbrev last : ℕ
    last = last_task first others

    -- ---- none is older
    older_by : (after : ℕ) (os : List ChainOutput) → AreOutputs writes node jobs first others after until os
        → (t k s : ℕ) → t ≤ until → (is : IsNewest writes node jobs last t k) → after < is.finish
        → IsSampleOf writes node jobs first others k s → NoLess (t - s) (ages_of until os)
    older_by after [] are t k s le is past of =
        let in_time = is.in_time in
        absurd (omega (arith, are k is.finish is.own is.finished (omega arith)))
    older_by after (o ∷ os) are t k s le is past of =
        let j : (j : ℕ) × IsOutput writes node jobs first others after o j = are.2 in
        let from : o.finish ≤ is.finish = j.1.next k is.finish is.own is.finished past in
        elim (cases_lt o.finish is.finish) [
          | inl later ↦ greater_right (t - s) (age_at until o os) (ages_of until os)
              (older_by o.finish os are.3 t k s le is later of)
          | inr low ↦
              let at : is.finish ≡ o.finish = omega arith in
              let same : k ≡ j.0 = turn.apart k j.0 o.finish (is.own ∙ sym j.1.own)
              (subst (λ f. IsWrittenAt writes node jobs k f) at is.finished) j.1.finished in
              let sample = subst (λ x. IsSampleOf writes node jobs first others x s) same of in
              let stands : t ≤ next_of until os = stands_to after o os are t k le is at in
              greater_left (t - s) (age_at until o os) (ages_of until os)
              (elim o.sample as (λ x. IsSampled writes node jobs first others j.0 x
              → NoLess (t - s) (age_by x (next_of until os))) [
                | None ↦ λ none. absurd (none s sample)
                | Some u ↦ λ has.
                    let once : s ≡ u = sample_once first others j.0 s u sample has in
                    (next_of until os - u, refl, omega arith)
              ] j.1.sampled)
        ]
      where
        stands_to : (after : ℕ) (o : ChainOutput) (os : List ChainOutput)
            → AreOutputs writes node jobs first others after until (o ∷ os) → (t k : ℕ) → t ≤ until
            → (is : IsNewest writes node jobs last t k) → is.finish ≡ o.finish → t ≤ next_of until os
        stands_to after o [] are t k le is at = le
        stands_to after o (o' ∷ os) are t k le is at =
            elim (cases_lt o'.finish t) [
              | inr ge ↦ ge
              | inl past ↦
                  let next : (j : ℕ) × IsOutput writes node jobs first others o.finish o' j = are.3.2 in
                  let more = are.3.0 in
                  absurd (omega (arith, is.last next.0 o'.finish next.1.is_job next.1.own next.1.finished (omega arith)))
            ]

    -- the job of an output is the newest up to the next one
    pub stands_at : (after : ℕ) (o : ChainOutput) (os : List ChainOutput) (k t : ℕ)
        → AreOutputs writes node jobs first others after until (o ∷ os)
        → IsOutput writes node jobs first others after o k → o.finish ≤ t → t ≤ until
        → ((q g : ℕ) → (job_at jobs q).task ≡ last → IsWrittenAt writes node jobs q g → g ≤ t → g ≤ o.finish)
        → IsNewest writes node jobs last t k
    stands_at after o os k t are is le in_run none = record {
      is_job = is.is_job;
      own = is.own;
      finish = o.finish;
      finished = is.finished;
      in_time = le;
      last = λ q g lt own fin by. none q g own fin by;
    }

    -- ---- within the bound
    module _ (bound : ℕ) (younger : (t k s : ℕ) → t ≤ until → IsNewest writes node jobs last t k
        → IsSampleOf writes node jobs first others k s → t < s + bound) where
      gets : (after : ℕ) (o : ChainOutput) (os : List ChainOutput) (k s : ℕ)
          → AreOutputs writes node jobs first others after until (o ∷ os)
          → IsOutput writes node jobs first others after o k → IsSampleOf writes node jobs first others k s
          → next_of until os ≤ s + bound
      gets after o [] k s are is of =
          omega (
            arith,
            younger until k s (omega arith) (stands_at after o [] k until are is are.1
                (omega arith) are.3) of,
          )
      gets after o (o' ∷ os) k s are is of =
          let more : o.finish < o'.finish = are.3.0 in
          let within : o'.finish ≤ until = are.3.1 in
          let next : (j : ℕ) × IsOutput writes node jobs first others o.finish o' j = are.3.2 in
          let stands = stands_at after o (o' ∷ os) k (o'.finish - 1) are is (omega arith) (omega arith)
          (λ q g own fin by. elim (cases_lt o.finish g) [
            | inr kept ↦ kept
            | inl past ↦ absurd (omega (arith, next.1.next q g own fin past))
          ]) in
          omega (arith, younger (o'.finish - 1) k s (omega arith) stands of)

      age_within : (end : ℕ) (k : ℕ) (o : Option ℕ) → IsSampled writes node jobs first others k o
          → ((s : ℕ) → IsSampleOf writes node jobs first others k s → end ≤ s + bound)
          → AtMost bound (age_by o end)
      age_within end k None of within = tt
      age_within end k (Some s) of within = omega (arith, within s of)

      later_within : (s end : ℕ) (o : Option ℕ) → end ≤ s + bound → AtMost bound (later_than s end o)
      later_within s end None le = tt
      later_within s end (Some later) le =
          elim (cases_Bool (nat_lt s later)) [ inl more ↦ rw more (omega arith) | inr low ↦ rw low tt ]

      reaction_within : (k : ℕ) (o : Option ℕ) (os : List ChainOutput) → IsSampled writes node jobs first others k o
          → ((s : ℕ) → IsSampleOf writes node jobs first others k s → next_of until os ≤ s + bound)
          → AtMost bound (reaction_by o os)
      reaction_within k None os of within = tt
      reaction_within k (Some s) [] of within = tt
      reaction_within k (Some s) (o ∷ os) of within = later_within s o.finish o.sample (within s of)

      pub all_within : (after : ℕ) (os : List ChainOutput) → AreOutputs writes node jobs first others after until os
          → AtMost bound (ages_of until os) × AtMost bound (reactions_of os)
      all_within after [] are = (tt, tt)
      all_within after (o ∷ os) are =
          let k : (k : ℕ) × IsOutput writes node jobs first others after o k = are.2 in
          let rest : AtMost bound (ages_of until os) × AtMost bound (reactions_of os) =
          all_within o.finish os are.3 in
          let here : (s : ℕ) → IsSampleOf writes node jobs first others k.0 s → next_of until os ≤ s + bound =
          λ s of. gets after o os k.0 s are k.1 of in (
            greater_within bound (age_at until o os) (ages_of until os)
                (age_within (next_of until os) k.0 o.sample k.1.sampled here) rest.0,
            greater_within bound (reaction_at o os) (reactions_of os)
                (reaction_within k.0 o.sample os k.1.sampled here) rest.1,
          )

pub older_law : NoneIsOlder
older_law writes node rs until trace first others valid ran t k s le is of =
    let jobs = jobs_of node.tasks rs in
    let turn = in_turn writes node rs until trace valid ran in
    let before = sample_before writes node jobs turn first others of.job k s is.finish of.started of.path
    is.finished in
    let found : NoLess (t - s)
    (ages_of until (outputs_of writes node.tasks until trace (first ∷ others))) =
    older_by writes node jobs turn first others until 0
    (outputs_of writes node.tasks until trace (first ∷ others))
    (outputs_law writes node rs until trace first others valid ran) t k s le is (omega arith) of in
    (found.0, found.1, omega (arith, found.2))

-- a valid set's tasks write in time
in_time_of : (writes : Writes) (node : Node) → IsNode node → WritesInTime writes node
in_time_of AtFinish node valid = tt
in_time_of AtDeadline node valid = valid

pub within_law : RunsAreWithin
within_law writes offsets node rs until shift trace response first others bound valid ran acts steady others_steady keep is =
    let jobs = jobs_of node.tasks rs in
    let in_time = in_time_of writes node valid in
    all_within writes node jobs (in_turn writes node rs until trace in_time ran) first others until bound
    (λ t k s le newest of. ages_law writes node jobs valid (legal_from node rs until valid ran.0) until shift
    response offsets first others bound acts steady others_steady keep is t k s le newest of) 0
    (outputs_of writes node.tasks until trace (first ∷ others))
    (outputs_law writes node rs until trace first others in_time ran)
