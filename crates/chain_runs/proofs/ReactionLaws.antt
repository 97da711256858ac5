-- The greatest reaction of a chain's outputs, and that what is found is reached.
use Rattle.std.proofs.Common.{ℕ, ◌+◌, ◌-◌, ◌<◌, ◌≤◌, ◌≡◌, ◌⊎◌, inl, inr, refl, sym, ap, ◌∙◌, subst, arith}
use Rattle.std.proofs.Common.{max, true, nat_lt, List, [], ◌∷◌, Option, Some, None}
use Rattle.std.proofs.lemmas.Bool.{cases_Bool, cases_lt, lt-ltb, ltb-true}
use Rattle.std.proofs.lemmas.Option.{none-some, same_Some}
use Rattle.ceiling_kernel.proofs.Common.{Node, Job, job_at, jobs_of}
use Rattle.chains.specs.Starts.{IsWrittenAt}
use Rattle.chains.specs.Paths.{IsNewest, IsSampleOf, last_task}
use Rattle.chains.specs.Reactions.{ReactsBy}
use Rattle.chains.specs.declared.bounds.Writes.{Writes}
use Rattle.chain_runs.specs.ChainOutputs.{outputs_of}
use Rattle.chain_runs.specs.Outcomes.{age_by, age_at, ages_of, greater, later_than, next_of}
use Rattle.chain_runs.specs.Outcomes.{reaction_by, reaction_at, reactions_of}
use Rattle.chain_runs.specs.Runs.{AreOutputs, IsAge, IsOutput, IsReaction, IsSampled}
use Rattle.chain_runs.specs.Runs.{AgesAreReached, NoneIsSlower, ReactionsAreReached}
use Rattle.chain_runs.specs.declared.outputs.ChainOutput.{ChainOutput}
use Rattle.chain_runs.proofs.OrderLaws.{AreInTurn, in_turn}
use Rattle.chain_runs.proofs.TurnLaws.{has_sample, never_back}
use Rattle.chain_runs.proofs.AgeLaws.{sample_before, NoLess, greater_left, greater_right, sample_once, stands_at}
use Rattle.chain_runs.proofs.RunLaws.{outputs_law}

-- the greater of two is one of them
one_of : (x y : Option ℕ) (a : ℕ) → greater x y ≡ Some a → (x ≡ Some a) ⊎ (y ≡ Some a)
one_of None y a e = inr e
one_of (Some x) None a e = inl e
one_of (Some x) (Some y) a e =
    let same : max x y ≡ a = same_Some (max x y) a e in
    elim (cases_lt x y) [
      | inl less ↦ (let at : y ≡ a = omega arith in inr (ap Some at))
      | inr ge ↦ (let at : x ≡ a = omega arith in inl (ap Some at))
    ]

module _ (writes : Writes) (node : Node) (jobs : List Job) (turn : AreInTurn writes node jobs) (first : ℕ)
    (others : List ℕ) (until : ℕ) where
  abbrev last : ℕ
  last = last_task first others

  -- ---- ages
  age_of : (k f : ℕ) (o : Option ℕ) (end a : ℕ) → IsSampled writes node jobs first others k o
      → IsWrittenAt writes node jobs k f → f ≤ end → age_by o end ≡ Some a
      → (s : ℕ) × IsSampleOf writes node jobs first others k s × (s + a ≡ end)
  age_of k f None end a sampled is le e = absurd (none-some a e)
  age_of k f (Some s) end a sampled is le e =
      let before = sample_before writes node jobs turn first others sampled.job k s f sampled.started sampled.path is in
      let same : end - s ≡ a = same_Some (end - s) a e in
      (s, sampled, omega arith)

  up_to : (after : ℕ) (o : ChainOutput) (os : List ChainOutput) (k : ℕ)
      → AreOutputs writes node jobs first others after until (o ∷ os)
      → IsOutput writes node jobs first others after o k
      → (next_of until os ≤ until) × (o.finish ≤ next_of until os) × ((IsNewest writes node jobs last (next_of until os) k)
      ⊎ (IsNewest writes node jobs last (next_of until os - 1) k))
  up_to after o [] k are is =
      (omega arith, are.1, inl (stands_at writes node jobs turn first others until after o [] k until are is are.1 (omega arith) are.3))
  up_to after o (o' ∷ os) k are is =
      let more : o.finish < o'.finish = are.3.0 in
      let within : o'.finish ≤ until = are.3.1 in
      let next : (j : ℕ) × IsOutput writes node jobs first others o.finish o' j = are.3.2 in (
        within,
        omega arith,
        inr (stands_at writes node jobs turn first others until after o (o' ∷ os) k (o'.finish - 1) are is
            (omega arith) (omega arith)
            (λ q g own fin by. elim (cases_lt o.finish g) [
              | inr low ↦ low
              | inl past ↦ absurd (omega (arith, next.1.next q g own fin past))
            ])),
      )

  ages_by : (after : ℕ) (os : List ChainOutput) (a : ℕ) → AreOutputs writes node jobs first others after until os
      → ages_of until os ≡ Some a → IsAge writes node jobs first others until a
  ages_by after [] a are e = absurd (none-some a e)
  ages_by after (o ∷ os) a are e =
      let k : (k : ℕ) × IsOutput writes node jobs first others after o k = are.2 in
      elim (one_of (age_at until o os) (ages_of until os) a e) [
        | inr rest ↦ ages_by o.finish os a are.3 rest
        | inl here ↦
            let stands = up_to after o os k.0 are k.1 in
            let of : (s : ℕ) × IsSampleOf writes node jobs first others k.0 s × (s + a ≡ next_of until os) =
            age_of k.0 o.finish o.sample (next_of until os) a k.1.sampled k.1.finished stands.1 here in
            record {
              output = k.0;
              sample = of.0;
              sampled = of.1;
              time = next_of until os;
              in_run = stands.0;
              stands = stands.2;
              is = of.2;
            }
      ]

  -- ---- reactions
  later_is : (s end : ℕ) (o : Option ℕ) (r : ℕ) → later_than s end o ≡ Some r
      → (w : ℕ) × (o ≡ Some w) × (s < w) × (end - s ≡ r)
  later_is s end None r e = absurd (none-some r e)
  later_is s end (Some w) r e =
      elim (cases_Bool (nat_lt s w)) [
        | inl less ↦ (w, refl, ltb-true s w less, same_Some (end - s) r (rw less at e))
        | inr not ↦ absurd (none-some r (rw not at e))
      ]

  -- the reaction to a sample of output k is that to the next output
  reaction_is : (after : ℕ) (o : ChainOutput) (os : List ChainOutput) (r : ℕ)
      → AreOutputs writes node jobs first others after until (o ∷ os)
      → reaction_at o os ≡ Some r → IsReaction writes node jobs first others until r
  reaction_is after o os r are e =
      let k : (k : ℕ) × IsOutput writes node jobs first others after o k = are.2 in
      by_sample k.0 k.1 o.sample os k.1.sampled are.3 e
    where
      by_sample : (k : ℕ) → IsOutput writes node jobs first others after o k → (x : Option ℕ)
          → (os : List ChainOutput) → IsSampled writes node jobs first others k x
          → AreOutputs writes node jobs first others o.finish until os → reaction_by x os ≡ Some r
          → IsReaction writes node jobs first others until r
      by_sample k is None os sampled are e = absurd (none-some r e)
      by_sample k is (Some s) [] sampled are e = absurd (none-some r e)
      by_sample k is (Some s) (o' ∷ os) sampled are e =
          let next : (j : ℕ) × IsOutput writes node jobs first others o.finish o' j = are.2 in
          let later : (w : ℕ) × (o'.sample ≡ Some w) × (s < w) × (o'.finish - s ≡ r) =
          later_is s o'.finish o'.sample r e in
          let of : IsSampleOf writes node jobs first others next.0 later.0 =
          subst (λ x. IsSampled writes node jobs first others next.0 x) later.1 next.1.sampled in
          record {
            output = k;
            own = is.own;
            finish = o.finish;
            finished = is.finished;
            sample = s;
            sampled = sampled;
            time = o'.finish;
            in_run = are.1;
            acted = record {
              output = next.0;
              own = next.1.own;
              finish = o'.finish;
              finished = next.1.finished;
              in_time = omega arith;
              sample = later.0;
              sampled = of;
              later = omega (arith, later.2);
            };
            soonest = λ by reacts.
                let in_time = reacts.in_time in
                let more = reacts.later in
                elim (cases_lt o.finish reacts.finish) [
                  | inl past ↦ omega (arith, next.1.next reacts.output reacts.finish reacts.own reacts.finished past)
                  | inr low ↦ absurd (omega (
                    arith,
                    never_back writes node jobs turn first others reacts.output k reacts.finish o.finish
                        reacts.sample s reacts.own is.own reacts.finished is.finished low reacts.sampled sampled,
                  ))
                ];
            is = omega (
              arith,
              later.3,
              are.0,
              sample_before writes node jobs turn first others sampled.job k s o.finish sampled.started sampled.path is.finished,
            );
          }

  reactions_by : (after : ℕ) (os : List ChainOutput) (r : ℕ)
      → AreOutputs writes node jobs first others after until os → reactions_of os ≡ Some r
      → IsReaction writes node jobs first others until r
  reactions_by after [] r are e = absurd (none-some r e)
  reactions_by after (o ∷ os) r are e =
      elim (one_of (reaction_at o os) (reactions_of os) r e) [
        | inr rest ↦ reactions_by o.finish os r are.3 rest
        | inl here ↦ reaction_is after o os r are here
      ]

  -- ---- none is slower
  -- an output m with a later sample than s, which comes in the run
  module _ (s m w h : ℕ) (own : (job_at jobs m).task ≡ last) (fin : IsWrittenAt writes node jobs m h)
      (in_run : h ≤ until) (of : IsSampleOf writes node jobs first others m w) (later : s < w) where
    abbrev Found : List ChainOutput → Type 0
    Found os =
        (n : ℕ) × NoLess n (reactions_of os) × ((r : ℕ) → n ≤ r → ReactsBy writes node jobs first others (s + 1) (s + r))

    skip : (o : ChainOutput) (os : List ChainOutput) → Found os → Found (o ∷ os)
    skip o os found = (found.0, greater_right found.0 (reaction_at o os) (reactions_of os) found.1, found.2)

    -- from an output on whose sample isn't later
    from : (after u : ℕ) (o : ChainOutput) (os : List ChainOutput)
        → AreOutputs writes node jobs first others after until (o ∷ os) → o.sample ≡ Some u → u ≤ s
        → o.finish < h → Found (o ∷ os)
    from after u o [] are is le before = absurd (omega (arith, are.3 m h own fin in_run))
    from after u o (o' ∷ os) are is le before =
        let k : (k : ℕ) × IsOutput writes node jobs first others after o k = are.2 in
        let next : (j : ℕ) × IsOutput writes node jobs first others o.finish o' j = are.3.2 in
        let ordered : o.finish < o'.finish = are.3.0 in
        let by : o'.finish ≤ h = next.1.next m h own fin before in
        let mine = subst (λ x. IsSampled writes node jobs first others k.0 x) is k.1.sampled in
        let has = has_sample writes node jobs turn first others k.0 next.0 o.finish o'.finish u
        next.1.own k.1.finished next.1.finished (omega arith) mine in
        elim o'.sample as (λ x. o'.sample ≡ x → IsSampled writes node jobs first others next.0 x
        → Found (o ∷ o' ∷ os)) [
          | None ↦ λ e none. absurd (none has.0 has.1)
          | Some v ↦ λ e sampled. elim (cases_lt s v) [
            | inl more ↦
                let less : nat_lt u v ≡ true = lt-ltb u v (omega arith) in
                let here : reaction_at o (o' ∷ os) ≡ Some (o'.finish - u) =
                ap (λ x. reaction_by x (o' ∷ os)) is
                ∙ (ap (λ x. later_than u o'.finish x) e ∙ rw less refl) in (
                  o'.finish - s,
                  greater_left (o'.finish - s) (reaction_at o (o' ∷ os)) (reactions_of (o' ∷ os))
                      (o'.finish - u, here, omega arith),
                  λ r enough. record {
                    output = next.0;
                    own = next.1.own;
                    finish = o'.finish;
                    finished = next.1.finished;
                    in_time = omega arith;
                    sample = v;
                    sampled = sampled;
                    later = omega arith;
                  },
                )
            | inr low ↦
                let past : o'.finish < h = elim (cases_lt o'.finish h) [
                  | inl less ↦ less
                  | inr ge ↦
                      let at : h ≡ o'.finish = omega arith in
                      let same = turn.apart m next.0 o'.finish (own ∙ sym next.1.own)
                      (subst (λ x. IsWrittenAt writes node jobs m x) at fin) next.1.finished in
                      absurd (omega (
                        arith,
                        sample_once writes node jobs turn first others next.0 w v
                            (subst (λ x. IsSampleOf writes node jobs first others x w) same of) sampled,
                      ))
                ] in
                skip o (o' ∷ os) (from o.finish v o' os are.3 e low past)
          ]
        ] refl next.1.sampled

    -- output k with sample s
    pub acted : (after : ℕ) (os : List ChainOutput) → AreOutputs writes node jobs first others after until os
        → (k f : ℕ) → (job_at jobs k).task ≡ last → IsWrittenAt writes node jobs k f → after < f → f < h
        → IsSampleOf writes node jobs first others k s → Found os
    acted after [] are k f mine is past before sample =
        absurd (omega (arith, are k f mine is (omega arith)))
    acted after (o ∷ os) are k f mine is past before sample =
        let j : (j : ℕ) × IsOutput writes node jobs first others after o j = are.2 in
        let le : o.finish ≤ f = j.1.next k f mine is past in
        elim (cases_lt o.finish f) [
          | inl more ↦ skip o os (acted o.finish os are.3 k f mine is more before sample)
          | inr low ↦
              let at : f ≡ o.finish = omega arith in
              let same = turn.apart k j.0 o.finish (mine ∙ sym j.1.own)
              (subst (λ x. IsWrittenAt writes node jobs k x) at is) j.1.finished in
              let of_it = subst (λ x. IsSampleOf writes node jobs first others x s) same sample in
              elim o.sample as (λ x. o.sample ≡ x → IsSampled writes node jobs first others j.0 x → Found (o ∷ os)) [
                | None ↦ λ e none. absurd (none s of_it)
                | Some u ↦ λ e sampled. from after u o os are e
                    (omega (arith, sample_once writes node jobs turn first others j.0 s u of_it sampled)) (omega arith)
              ] refl j.1.sampled
        ]

pub ages_reached : AgesAreReached
ages_reached writes node rs until trace first others age valid ran e =
    ages_by writes node (jobs_of node.tasks rs) (in_turn writes node rs until trace valid ran) first others
    until 0 (outputs_of writes node.tasks until trace (first ∷ others)) age
    (outputs_law writes node rs until trace first others valid ran) e

pub reactions_reached : ReactionsAreReached
reactions_reached writes node rs until trace first others reaction valid ran e =
    reactions_by writes node (jobs_of node.tasks rs) (in_turn writes node rs until trace valid ran) first
    others until 0 (outputs_of writes node.tasks until trace (first ∷ others)) reaction
    (outputs_law writes node rs until trace first others valid ran) e

pub slower_law : NoneIsSlower
slower_law writes node rs until trace first others valid ran k f s own is sample reacts =
    let jobs = jobs_of node.tasks rs in
    let turn = in_turn writes node rs until trace valid ran in
    let some = sample_before writes node jobs turn first others sample.job k s f sample.started sample.path is in
    let more = reacts.later in
    let in_time = reacts.in_time in
    let before : f < reacts.finish = elim (cases_lt f reacts.finish) [
      | inl less ↦ less
      | inr ge ↦ absurd (omega (
        arith,
        never_back writes node jobs turn first others reacts.output k reacts.finish f reacts.sample s
            reacts.own own reacts.finished is ge reacts.sampled sample,
      ))
    ] in
    let found = acted writes node jobs turn first others until s reacts.output reacts.sample reacts.finish
    reacts.own reacts.finished in_time reacts.sampled (omega arith) 0
    (outputs_of writes node.tasks until trace (first ∷ others))
    (outputs_law writes node rs until trace first others valid ran) k f own is (omega arith) before sample in
    (found.1.0, found.1.1, found.2 found.1.0 found.1.2)
