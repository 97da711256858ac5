-- While the jobs of each task read and write in turn, the paths of a chain's outputs don't cross.
use Rattle.std.proofs.Common.{ℕ, ◌≤◌, ◌≡◌, refl, sym, ◌∙◌, subst, arith, List, [], ◌∷◌}
use Rattle.ceiling_kernel.proofs.Common.{Node, Job, job_at}
use Rattle.chains.specs.Starts.{IsReadAt, IsWrittenAt}
use Rattle.chains.specs.Paths.{IsNewest, IsSampleOf, LeadsTo, Reads, last_task}
use Rattle.chains.specs.declared.bounds.Writes.{Writes}
use Rattle.chains.proofs.AgeLaws.{leads_own}
use Rattle.chains.proofs.NewestLaws.{newest_exists}
use Rattle.chains.proofs.WriteLaws.{written_read}
use Rattle.chain_runs.proofs.OrderLaws.{AreInTurn}

-- job p writes no later than job q
record EndsBy (writes : Writes) (node : Node) (jobs : List Job) (p q : ℕ) : Type 0 where
  one : ℕ
  other : ℕ
  one_is : IsWrittenAt writes node jobs p one
  other_is : IsWrittenAt writes node jobs q other
  ordered : one ≤ other

module _ (writes : Writes) (node : Node) (jobs : List Job) (turn : AreInTurn writes node jobs) where
  -- of two jobs of a task, one that writes no later reads no later
  reads_by : (p q s u : ℕ) → (job_at jobs p).task ≡ (job_at jobs q).task
      → IsReadAt writes node jobs p s → IsReadAt writes node jobs q u → EndsBy writes node jobs p q
      → s ≤ u
  reads_by p q s u same read read' ends =
      turn.turns p q s u ends.one ends.other same read read' ends.one_is ends.other_is ends.ordered

  back : (i : ℕ) (others : List ℕ) (p q k l : ℕ) → EndsBy writes node jobs k l
      → LeadsTo writes node jobs i others p k → LeadsTo writes node jobs i others q l
      → EndsBy writes node jobs p q
  back i [] p q k l ends leads leads' =
      subst (λ x. EndsBy writes node jobs x q) {y = p} (sym leads)
      (subst (λ x. EndsBy writes node jobs k x) {y = q} (sym leads') ends)
  back i (c ∷ others) p q k l ends leads leads' =
      let reads : Reads writes node jobs c leads.0 i p = leads.1 in
      let reads' : Reads writes node jobs c leads'.0 i q = leads'.1 in
      let rest : EndsBy writes node jobs leads.0 leads'.0 =
      back c others leads.0 leads'.0 k l ends leads.2 leads'.2 in
      let starts = reads_by leads.0 leads'.0 reads.start reads'.start (reads.own ∙ sym reads'.own)
      reads.started reads'.started rest in
      let by = reads.newest.in_time in
      record {
        one = reads.newest.finish;
        other = reads'.newest.finish;
        one_is = reads.newest.finished;
        other_is = reads'.newest.finished;
        ordered = reads'.newest.last p reads.newest.finish reads.newest.is_job reads.newest.own
            reads.newest.finished (omega arith);
      }

  -- of two outputs, the one that comes no earlier has no older sample
  pub never_back : (first : ℕ) (others : List ℕ) (k l f g s u : ℕ)
      → (job_at jobs k).task ≡ last_task first others → (job_at jobs l).task ≡ last_task first others
      → IsWrittenAt writes node jobs k f → IsWrittenAt writes node jobs l g → f ≤ g
      → IsSampleOf writes node jobs first others k s → IsSampleOf writes node jobs first others l u
      → s ≤ u
  never_back first others k l f g s u own own' is is' le sample sample' =
      let ends : EndsBy writes node jobs sample.job sample'.job =
      back first others sample.job sample'.job k l
      (record { one = f; other = g; one_is = is; other_is = is'; ordered = le }) sample.path sample'.path in
      reads_by sample.job sample'.job s u
      (leads_own writes node jobs first others sample.job k own sample.path
      ∙ sym (leads_own writes node jobs first others sample'.job l own' sample'.path))
      sample.started sample'.started ends

  go_on : (i : ℕ) (others : List ℕ) (p k l : ℕ) → EndsBy writes node jobs k l
      → (job_at jobs l).task ≡ last_task i others → LeadsTo writes node jobs i others p k
      → (q : ℕ) × LeadsTo writes node jobs i others q l × EndsBy writes node jobs p q
  go_on i [] p k l ends own leads =
      (l, refl, subst (λ x. EndsBy writes node jobs x l) {y = p} (sym leads) ends)
  go_on i (c ∷ others) p k l ends own leads =
      let reads : Reads writes node jobs c leads.0 i p = leads.1 in
      let rest : (q : ℕ) × LeadsTo writes node jobs c others q l
      × EndsBy writes node jobs leads.0 q =
      go_on c others leads.0 k l ends own leads.2 in
      let v : (s : ℕ) × (s ≤ rest.2.other) × IsReadAt writes node jobs rest.0 s =
      written_read writes node jobs rest.0 rest.2.other rest.2.other_is in
      let own' = leads_own writes node jobs c others rest.0 l own rest.1 in
      let starts = reads_by leads.0 rest.0 reads.start v.0 (reads.own ∙ sym own') reads.started v.2 rest.2 in
      let by = reads.newest.in_time in
      let q : (q : ℕ) × IsNewest writes node jobs i v.0 q = newest_exists writes node jobs i v.0 p
      reads.newest.finish reads.newest.is_job reads.newest.own reads.newest.finished (omega arith) in (
        q.0,
        (rest.0, record { own = own'; start = v.0; started = v.2; newest = q.1 }, rest.1),
        record {
          one = reads.newest.finish;
          other = q.1.finish;
          one_is = reads.newest.finished;
          other_is = q.1.finished;
          ordered = q.1.last p reads.newest.finish reads.newest.is_job reads.newest.own
              reads.newest.finished (omega arith);
        },
      )

  -- once an output has a sample, each that comes no earlier has one
  pub has_sample : (first : ℕ) (others : List ℕ) (k l f g s : ℕ)
      → (job_at jobs l).task ≡ last_task first others
      → IsWrittenAt writes node jobs k f → IsWrittenAt writes node jobs l g → f ≤ g
      → IsSampleOf writes node jobs first others k s
      → (u : ℕ) × IsSampleOf writes node jobs first others l u
  has_sample first others k l f g s own is is' le sample =
      let q : (q : ℕ) × LeadsTo writes node jobs first others q l
      × EndsBy writes node jobs sample.job q =
      go_on first others sample.job k l
      (record { one = f; other = g; one_is = is; other_is = is'; ordered = le }) own sample.path in
      let u : (s : ℕ) × (s ≤ q.2.other) × IsReadAt writes node jobs q.0 s =
      written_read writes node jobs q.0 q.2.other q.2.other_is in
      (u.0, record { job = q.0; started = u.2; path = q.1 })
