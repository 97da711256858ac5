-- The numbers of an accepted certificate's chains bound ages and reactions.
use Rattle.std.proofs.Common.{◌≡◌, ℕ, ◌+◌, ◌<◌, ◌≤◌, true, false, List, [], ◌∷◌, length, Option, None, Some}
use Rattle.std.proofs.Common.{refl, sym, ◌∙◌, ap, subst, arith, inl, inr}
use Rattle.std.proofs.Math.Path.{fun_ext}
use Rattle.std.proofs.lemmas.Bool.{cases_eq, eq-eqb, ne_eqb, leb-true, lt-ltb, both_ways}
use Rattle.task_sheet.proofs.Common.{Task, task_at, IsTaskSet, Indexes, among, all_of, IsOrderOf}
use Rattle.task_sheet.proofs.Common.{LevelData, order_of, AllReady, IsReadyOrder, without_index, demand_of}
use Rattle.task_sheet.proofs.Common.{limit_of}
use Rattle.task_sheet.specs.Ready.{time_of}
use Rattle.task_sheet.proofs.IndexLaws.{IsOrderOf-among, IsOrderOf-rest}
use Rattle.ceiling_kernel.specs.Bounds.{after_of}
use Rattle.ceiling_kernel.proofs.Common.{Job, Node, IsNode, above_of}
use Rattle.ceiling_kernel.proofs.NodeLaws.{after_is_above}
use Rattle.chains.specs.Handovers.{RespondsBy}
use Rattle.chains.specs.Bounds.{AllAct}
use Rattle.chains.specs.Walks.{bound_by}
use Rattle.chains.specs.Parts.{steps_of}
use Rattle.chains.proofs.AgeLaws.{ages_law}
use Rattle.chains.proofs.ReactionLaws.{reactions_law}
use Rattle.chain_tables.specs.Chains.{ChainData}
use Rattle.certificate.specs.Body.{CertLevelData, Best, Cert}
use Rattle.certificate.specs.declared.value.CertChain.{CertChain}
use Rattle.cert_checker.specs.Ages.{covers_chain, is_enough, node_of, response_in, steps_in}
use Rattle.cert_checker.specs.Bounded.{AllWork, AreBounded, IsBounded}
use Rattle.cert_checker.specs.Ready.{levels_of, AreReadyChains, IsReadyBody, IsReady}

-- a number that is enough is no less than the bound
enough : (bound : Option ℕ) (number : ℕ) → is_enough bound number ≡ true
    → (b : ℕ) × (bound ≡ Some b) × (b ≤ number)
enough None number covers = absurd cc
enough (Some b) number covers = (b, refl, leb-true b number covers)

-- a level's number shows that its task passes below those that stand above it
record Passing (U : List Task) (i : ℕ) (H : Indexes) (r : ℕ) : Type 0 where
  time : ℕ
  from_one : 0 < time
  within : time ≤ limit_of (task_at U i)
  covers : demand_of U i H time ≤ time
  response : time + (task_at U i).jitter ≡ r

passing-at : (U : List Task) (L : Indexes) (levels : List LevelData) (i : ℕ)
    → IsOrderOf L (order_of levels) → AllReady U L levels → among (order_of levels) i ≡ true
    → Passing U i (among (after_of (order_of levels) i)) (response_in levels i)
passing-at U L [] i each ready is = absurd (both_ways false refl is)
passing-at U L (l ∷ levels) i each ready is = elim (cases_eq l.task i) [
  | inl own ↦
      let so = eq-eqb l.task i own in
      let rest = IsOrderOf-among (without_index L l.task) (order_of levels)
      (IsOrderOf-rest L l.task (order_of levels) each) in
      let here : Passing U l.task (among (order_of levels)) l.response = record {
        time = time_of U l;
        from_one = ready.0.positive;
        within = ready.0.within;
        covers = rw (sym rest) at ready.0.covers;
        response = omega (arith, ready.0.positive);
      } in
      rw so (subst (λ k. Passing U k (among (order_of levels)) l.response) own here)
  | inr ne ↦
      let so = ne_eqb l.task i ne in
      rw so (passing-at U (without_index L l.task) levels i
      (IsOrderOf-rest L l.task (order_of levels) each) ready.1 (rw so at is))
]

module _ (U : List Task) (set : IsTaskSet U) (levels : List LevelData) (ready : IsReadyOrder U levels)
  where
    abbrev node : Node
    node = node_of U levels

    is-node : IsNode node
    is-node = record { tasks = set; order = ready.each_once }

    responds : (i : ℕ) → i < length U → RespondsBy node i (response_in levels i)
    responds i lt =
        let named : among (order_of levels) i ≡ true =
        ap (λ (X : Indexes). X i) (IsOrderOf-among (all_of U) (order_of levels) ready.each_once)
        ∙ lt-ltb i (length U) lt in
        let same : among (after_of (order_of levels) i) ≡ above_of node i =
        fun_ext (λ h. after_is_above node is-node i h lt) in
        let is = passing-at U (all_of U) levels i ready.each_once ready.ready named in
        record {
          time = is.time;
          passes = record {
            from_one = is.from_one;
            in_time = is.within;
            enough = rw same at is.covers;
          };
          response = is.response;
        }

    all-act : (jobs : List Job) (first : ℕ) (others : List ℕ) → AllWork U jobs first others
        → AllAct node jobs (response_in levels) first others
    all-act jobs i [] work = record { responds = responds i work.within; works = work.works }
    all-act jobs i (c ∷ others) work = (
      record { responds = responds i work.0.within; works = work.0.works },
      work.1,
      all-act jobs c others work.2,
    )

    bounded : (c : ChainData) (number : ℕ) → covers_chain U levels c number ≡ true
        → IsBounded c.writes c.offsets U levels c.tasks number
    bounded c number covers = by c.tasks (enough (bound_by (steps_in U levels c)) number covers)
      where
        by : (tasks : List ℕ)
            → (b : ℕ) × (bound_by (steps_of c.writes c.offsets node (response_in levels) tasks) ≡ Some b)
            × (b ≤ number)
            → IsBounded c.writes c.offsets U levels tasks number
        by [] has = tt
        by (first ∷ others) (bound, is', least) = λ jobs until shift legal work steady senders clock.
            let act = all-act jobs first others work in (
              λ t k s in_time newest sampled.
                  let old = ages_law c.writes node jobs is-node legal until shift (response_in levels)
                  c.offsets first others bound act steady senders clock is' t k s in_time newest sampled in
                  omega (arith, old, least),
              λ z begun all_begun in_time.
                  let reacts = reactions_law c.writes node jobs is-node legal until shift
                  (response_in levels) c.offsets first others bound act steady senders clock is' z begun
                  all_begun (omega (arith, least, in_time)) in
                  record {
                    output = reacts.output;
                    own = reacts.own;
                    finish = reacts.finish;
                    finished = reacts.finished;
                    in_time = omega (arith, reacts.in_time, least);
                    sample = reacts.sample;
                    sampled = reacts.sampled;
                    later = reacts.later;
                  },
            )

    all-bounded : (chains : List ChainData) (said : List CertChain)
        → AreReadyChains U levels chains said → AreBounded U levels chains said
    all-bounded [] said are = tt
    all-bounded (c ∷ chains) [] are = absurd are
    all-bounded (c ∷ chains) (s ∷ said) are =
        (bounded c s.number are.1, all-bounded chains said are.2)

pub numbers-bound : (U : List Task) (chains : List ChainData) (c : Cert) (levels : List CertLevelData)
    → IsTaskSet U → IsReady U chains c → c.body ≡ Best levels
    → AreBounded U (levels_of U levels) chains c.chains
numbers-bound U chains c levels set ready best =
    let body : IsReadyBody U chains (Best levels) c.chains = rw best at ready.body in
    all-bounded U set (levels_of U levels) body.0 chains c.chains body.1
