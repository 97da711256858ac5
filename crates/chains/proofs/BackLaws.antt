-- The paths of outputs don't cross.
use Rattle.std.proofs.Common.{ℕ, ◌≤◌, ◌≡◌, inl, inr, refl, sym, subst, arith, List, [], ◌∷◌}
use Rattle.ceiling_kernel.proofs.Common.{Node, Job, job_at, AreLegalJobs, IsNode}
use Rattle.chains.specs.Starts.{IsReadAt, IsWrittenAt}
use Rattle.chains.specs.Paths.{IsNewest, Reads, LeadsTo, last_task}
use Rattle.chains.specs.Bounds.{AllAct}
use Rattle.chains.specs.Ages.{SamplesNeverGoBack, AgesAreReactions, PathsGoOn}
use Rattle.chains.specs.declared.bounds.Writes.{Writes}
use Rattle.std.proofs.lemmas.Bool.{cases_lt}
use Rattle.chains.proofs.AgeLaws.{first_acts, leads_own}
use Rattle.chains.proofs.NewestLaws.{newest_exists}
use Rattle.chains.proofs.WriteLaws.{reads_by_write, written_read}

-- job p writes no later than job q
record EndsBy (writes : Writes) (node : Node) (jobs : List Job) (p q : ℕ) : Type 0 where
  one : ℕ
  other : ℕ
  one_is : IsWrittenAt writes node jobs p one
  other_is : IsWrittenAt writes node jobs q other
  ordered : one ≤ other

module _ (writes : Writes) (node : Node) (jobs : List Job) (valid : IsNode node)
    (legal : AreLegalJobs node jobs) (response : ℕ → ℕ) where
  back : (i : ℕ) (others : List ℕ) → AllAct node jobs response i others
      → (p q k l : ℕ) → EndsBy writes node jobs k l → LeadsTo writes node jobs i others p k
      → LeadsTo writes node jobs i others q l → EndsBy writes node jobs p q
  back i [] acts p q k l ends leads leads' =
      subst (λ x. EndsBy writes node jobs x q) {y = p} (sym leads)
      (subst (λ x. EndsBy writes node jobs k x) {y = q} (sym leads') ends)
  back i (c ∷ others) acts p q k l ends leads leads' =
      let reads : Reads writes node jobs c leads.0 i p = leads.1 in
      let reads' : Reads writes node jobs c leads'.0 i q = leads'.1 in
      let rest : EndsBy writes node jobs leads.0 leads'.0 =
      back c others acts.2 leads.0 leads'.0 k l ends leads.2 leads'.2 in
      let starts : reads.start ≤ reads'.start = reads_by_write writes node jobs valid legal c
      (response c) leads.0 leads'.0 reads.start reads'.start reads.own reads'.own
      (first_acts node jobs response c others acts.2).responds reads.started reads'.started rest.one
      rest.other rest.one_is rest.other_is rest.ordered in
      let by = reads.newest.in_time in
      record {
        one = reads.newest.finish;
        other = reads'.newest.finish;
        one_is = reads.newest.finished;
        other_is = reads'.newest.finished;
        ordered = reads'.newest.last p reads.newest.finish reads.newest.is_job reads.newest.own
            reads.newest.finished (omega arith);
      }

  -- an output that comes later has a path, too
  go_on : (i : ℕ) (others : List ℕ) → AllAct node jobs response i others
      → (p k l : ℕ) → EndsBy writes node jobs k l → (job_at jobs l).task ≡ last_task i others
      → LeadsTo writes node jobs i others p k
      → (q : ℕ) × LeadsTo writes node jobs i others q l × EndsBy writes node jobs p q
  go_on i [] acts p k l ends own leads =
      (l, refl, subst (λ x. EndsBy writes node jobs x l) {y = p} (sym leads) ends)
  go_on i (c ∷ others) acts p k l ends own leads =
      let reads : Reads writes node jobs c leads.0 i p = leads.1 in
      let rest : (q : ℕ) × LeadsTo writes node jobs c others q l × EndsBy writes node jobs leads.0 q =
      go_on c others acts.2 leads.0 k l ends own leads.2 in
      let v : (s : ℕ) × (s ≤ rest.2.other) × IsReadAt writes node jobs rest.0 s =
      written_read writes node jobs rest.0 rest.2.other rest.2.other_is in
      let own' = leads_own writes node jobs c others rest.0 l own rest.1 in
      let starts : reads.start ≤ v.0 = reads_by_write writes node jobs valid legal c (response c)
      leads.0 rest.0 reads.start v.0 reads.own own'
      (first_acts node jobs response c others acts.2).responds reads.started v.2 rest.2.one
      rest.2.other rest.2.one_is rest.2.other_is rest.2.ordered in
      let by = reads.newest.in_time in
      let q : (q : ℕ) × IsNewest writes node jobs i v.0 q = newest_exists writes node jobs i v.0 p
      reads.newest.finish reads.newest.is_job reads.newest.own reads.newest.finished (omega arith) in (
        q.0,
        (rest.0, record { own = own'; start = v.0; started = v.2; newest = q.1 }, rest.1),
        record {
          one = reads.newest.finish;
          other = q.1.finish;
          one_is = reads.newest.finished;
          other_is = q.1.finished;
          ordered = q.1.last p reads.newest.finish reads.newest.is_job reads.newest.own
              reads.newest.finished (omega arith);
        },
      )

pub go_on_law : (writes : Writes) (node : Node) (jobs : List Job) → IsNode node
    → AreLegalJobs node jobs → PathsGoOn writes node jobs
go_on_law writes node jobs valid legal response first others acts k l f g s klt kown llt lown is is' le sample =
    let q : (q : ℕ) × LeadsTo writes node jobs first others q l
    × EndsBy writes node jobs sample.job q =
    go_on writes node jobs valid legal response first others acts sample.job k l
    (record { one = f; other = g; one_is = is; other_is = is'; ordered = le }) lown sample.path in
    let u : (s : ℕ) × (s ≤ q.2.other) × IsReadAt writes node jobs q.0 s =
    written_read writes node jobs q.0 q.2.other q.2.other_is in
    (u.0, record { job = q.0; started = u.2; path = q.1 })

pub back_law : (writes : Writes) (node : Node) (jobs : List Job) → IsNode node → AreLegalJobs node jobs
    → SamplesNeverGoBack writes node jobs
back_law writes node jobs valid legal response first others acts k l f g s u klt kown llt lown is is' le sample sample' =
    let ends : EndsBy writes node jobs sample.job sample'.job =
    back writes node jobs valid legal response first others acts sample.job sample'.job k l
    (record { one = f; other = g; one_is = is; other_is = is'; ordered = le }) sample.path
    sample'.path in
    reads_by_write writes node jobs valid legal first (response first) sample.job sample'.job s u
    (leads_own writes node jobs first others sample.job k kown sample.path)
    (leads_own writes node jobs first others sample'.job l lown sample'.path)
    (first_acts node jobs response first others acts).responds sample.started sample'.started ends.one
    ends.other ends.one_is ends.other_is ends.ordered

pub stands_law : (writes : Writes) (node : Node) (jobs : List Job) → IsNode node
    → AreLegalJobs node jobs → AgesAreReactions writes node jobs
stands_law writes node jobs valid legal response first others acts t k s newest sample m h w mlt mown is sample' less =
    elim (cases_lt t h) [
      | inl after ↦ after
      | inr by ↦ absurd (omega (
        arith,
        back_law writes node jobs valid legal response first others acts m k h newest.finish w s mlt
            mown newest.is_job newest.own is newest.finished (newest.last m h mlt mown is by) sample'
            sample,
      ))
    ]
