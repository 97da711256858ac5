-- What goes by with each slice is what the chain's tasks have read and written: so what comes of the last one is its outputs.
use Rattle.std.proofs.Common.{ℕ, suc, ap₂, ◌-◌, ◌<◌, ◌≤◌, ◌≡◌, inl, inr, refl, sym, ap, ◌∙◌, subst, arith}
use Rattle.std.proofs.Common.{true, false, not, ◌==◌, List, [], ◌∷◌, map, Option, Some, None}
use Rattle.std.proofs.lemmas.Bool.{cases_Bool, cases_eq, cases_lt, eq-eqb, ne_eqb, true≢false}
use Rattle.std.proofs.lemmas.Option.{none-some, same_Some}
use Rattle.ceiling_kernel.specs.Readings.{IsFinishAt}
use Rattle.ceiling_kernel.specs.Waits.{NoOverrun}
use Rattle.ceiling_kernel.proofs.Common.{Node, Job, job_at, executed_before, picked}
use Rattle.ceiling_kernel.proofs.FinishLaws.{done_grows}
use Rattle.ceiling_kernel.proofs.MachineLaws.{start_of, own_of}
use Rattle.chains.specs.Starts.{IsStartAt}
use Rattle.chains.specs.Paths.{IsNewest, last_task}
use Rattle.chains.specs.declared.bounds.Writes.TheVariants.{AtFinish}
use Rattle.chain_runs.specs.Outputs.{fresh, read_by, after_own, after_slice, output_at, along, last_output}
use Rattle.chain_runs.specs.declared.slices.TaskSlice.{TaskSlice}
use Rattle.chain_runs.specs.declared.outputs.ChainOutput.{ChainOutput}
use Rattle.chain_runs.specs.declared.outputs.Station.{Station}
use Rattle.chain_runs.proofs.OrderLaws.{newest_once, turns_finish}
use Rattle.chain_runs.proofs.PathLaws.{HasRead, Is, NoneComes, Sampled, Stands, has_read, is_same, no_cons, stands_on}
use Rattle.chain_runs.proofs.TickLaws.{InFlight, OnlyPicks, comes_picked, finish_picked}
use Rattle.chain_runs.proofs.TickLaws.{one_flies, picked_parts, still}

task_kept : (s : TaskSlice) (offered : Option ℕ) (st : Station) → (after_slice s offered st).task ≡ st.task
task_kept s offered st =
    elim (cases_Bool (st.task == s.task)) [ inl own ↦ rw own refl | inr not ↦ rw not refl ]

-- the tasks stay
pub tasks_kept : (s : TaskSlice) (offered : Option ℕ) (sts : List Station)
    → map (λ (st : Station). st.task) (along s offered sts) ≡ map (λ (st : Station). st.task) sts
tasks_kept s offered [] = refl
tasks_kept s offered (st ∷ sts) =
    ap₂ (λ (i : ℕ) (tasks : List ℕ). i ∷ tasks) (task_kept s offered st) (tasks_kept s st.written sts)

module _ (node : Node) (jobs : List Job) where
  -- ---- what is known of a task at a time
  pub record IsAt (S : ℕ → ℕ → Type 0) (t : ℕ) (st : Station) : Type 0 where
    pub written : Is (Stands AtFinish node jobs st.task S t) st.written
    pub read : (q : ℕ) → (job_at jobs q).task ≡ st.task → InFlight node jobs t q
        → (st.runs ≡ true) × Is (S q) st.read
    pub flies : st.runs ≡ true
        → (q : ℕ) × ((job_at jobs q).task ≡ st.task) × InFlight node jobs t q

  abbrev pub AllAt : (S : ℕ → ℕ → Type 0) → (t : ℕ) → List Station → Type 0
  AllAt S t [] = Unit {0}
  AllAt S t (st ∷ sts) = IsAt S t st × AllAt (HasRead AtFinish node jobs st.task S) t sts

  -- before the first tick
  first_at : (S : ℕ → ℕ → Type 0) (i : ℕ) → IsAt S 0 (fresh i)
  first_at S i = record {
    written = λ s has.
        let newest : IsNewest AtFinish node jobs i 0 has.0 = has.1 in
        let in_time = newest.in_time in
        let some = newest.finished.some in
        omega arith;
    read = λ q own flies. absurd (omega (arith, start_of node jobs q, flies.0));
    flies = λ runs. absurd (true≢false (sym runs));
  }

  pub all_first : (S : ℕ → ℕ → Type 0) (tasks : List ℕ) → AllAt S 0 (map fresh tasks)
  all_first S [] = tt
  all_first S (i ∷ tasks) = (first_at S i, all_first (HasRead AtFinish node jobs i S) tasks)

  -- what comes of task i with a slice of job j, from these samples
  abbrev pub Comes : (s : TaskSlice) → (t j i : ℕ) → (R : ℕ → ℕ → Type 0) → Option ChainOutput → Type 0
  Comes s t j i R None = NoneComes AtFinish node jobs i t s.stop
  Comes s t j i R (Some o) =
      (o.finish ≡ s.stop) × ((job_at jobs j).task ≡ i) × IsFinishAt node jobs j s.stop
      × Is (R j) o.sample

  abbrev ComesOf : (s : TaskSlice) → (t j : ℕ) → (S : ℕ → ℕ → Type 0) → Option ChainOutput → List ℕ → Type 0
  ComesOf s t j S o [] = Unit {0}
  ComesOf s t j S o (i ∷ others) = Comes s t j (last_task i others) (Sampled AtFinish node jobs i others S) o

  -- a slice has gone by
  pub record Passed (s : TaskSlice) (t j : ℕ) (sts : List Station) (i : ℕ) (others : List ℕ) : Type 0 where
    pub after : AllAt (IsStartAt node jobs) s.stop (along s (Some s.start) sts)
    pub comes : Comes s t j (last_task i others) (Sampled AtFinish node jobs i others (IsStartAt node jobs))
        (last_output None s (Some s.start) sts)
    pub early : (q g : ℕ) → IsFinishAt node jobs q g → t < g → g ≤ s.stop → g ≡ s.stop

  -- ---- a slice, and the idle ticks before it
  module _ (no_overrun : NoOverrun node jobs) (s : TaskSlice) (t j : ℕ) (le : t ≤ s.start)
      (some : s.start < s.stop)
      (quiet : (v : ℕ) → t ≤ v → v < s.start → picked node jobs v ≡ None)
      (busy : (v : ℕ) → s.start ≤ v → v < s.stop → picked node jobs v ≡ Some j)
      (own : s.task ≡ (job_at jobs j).task)
      (ended : s.ends ≡ true → IsFinishAt node jobs j s.stop)
      (open_ : s.ends ≡ false → executed_before node jobs s.stop j < (job_at jobs j).executes)
    where
      none_before : (p v : ℕ) → t ≤ v → v < s.start → picked node jobs v ≡ Some p → ⊥
      none_before p v lo hi e = none-some p (sym (quiet v lo hi) ∙ e)

      only : OnlyPicks node jobs j t s.stop
      only v p lo hi e =
          elim (cases_lt v s.start) [
            | inl before ↦ absurd (none_before p v lo before e)
            | inr within ↦ same_Some p j (sym e ∙ busy v within hi)
          ]

      -- it is the same for each job when the slice begins
      begins : (q : ℕ) → executed_before node jobs s.start q ≡ executed_before node jobs t q
      begins q = still node jobs q t s.start le (none_before q)

      -- and for each other job when it stops
      other_still : (q : ℕ) → (q ≡ j → ⊥) → executed_before node jobs s.stop q ≡ executed_before node jobs t q
      other_still q ne = still node jobs q t s.stop (omega arith) (λ v lo hi e. ne (only v q lo hi e))

      runs_first : picked node jobs s.start ≡ Some j
      runs_first = busy s.start (omega arith) some

      -- the job has executed something by then
      has_run : 0 < executed_before node jobs s.stop j
      has_run = omega (
        arith,
        own_of node jobs s.start j runs_first,
        done_grows node jobs j (suc s.start) s.stop (omega arith),
      )

      -- nothing comes before the slice stops
      none_early : (q g : ℕ) → IsFinishAt node jobs q g → t < g → g ≤ s.stop → (q ≡ j) × (g ≡ s.stop)
      none_early q g is lo hi =
          let same : q ≡ j = comes_picked node jobs j t s.stop q g only is lo hi in (
            same,
            elim (cases_lt g s.stop) [
              | inr ge ↦ omega arith
              | inl early ↦
                  let mine : IsFinishAt node jobs j g = subst (λ x. IsFinishAt node jobs x g) same is in
                  let after = mine.after in
                  let parts = picked_parts node jobs g j (busy g (elim (cases_lt g s.start) [
                    | inl before ↦ absurd (none_before q (g - 1) (omega arith) (omega arith) (finish_picked node jobs q g is))
                    | inr ge ↦ ge
                  ]) early) in
                  absurd (omega (arith, parts.2))
            ],
          )

      none_start : (i : ℕ) → NoneComes AtFinish node jobs i t s.start
      none_start i q g mine is hi =
          elim (cases_lt t g) [
            | inr kept ↦ kept
            | inl lo ↦ (let early = none_early q g is lo (omega arith) in absurd (omega (arith, early.1)))
          ]

      -- of the tasks of other jobs, and of its own where it goes on, none comes at all
      none_other : (i : ℕ) → (i ≡ s.task → s.ends ≡ false) → NoneComes AtFinish node jobs i t s.stop
      none_other i goes_on q g mine is hi =
          elim (cases_lt t g) [
            | inr kept ↦ kept
            | inl lo ↦
                let early = none_early q g is lo hi in
                let of_it : i ≡ s.task = sym mine ∙ (ap (λ x. (job_at jobs x).task) early.0 ∙ sym own) in
                let less = open_ (goes_on of_it) in
                let after = (subst (λ x. IsFinishAt node jobs x g) early.0 is).after in
                let at : executed_before node jobs g j ≡ executed_before node jobs s.stop j = ap (λ x. executed_before node jobs x j) early.1 in
                absurd (omega arith)
          ]

      -- who is in flight then was before, or is the job of the slice
      flew : (q : ℕ) → (q ≡ j → ⊥) → InFlight node jobs s.stop q → InFlight node jobs t q
      flew q ne flies =
          let same = other_still q ne in (omega (arith, flies.0), omega (arith, flies.1))

      -- a job of the slice's task that is in flight before is the job of the slice
      flies_on : (q : ℕ) → (job_at jobs q).task ≡ s.task → InFlight node jobs t q → q ≡ j
      flies_on q mine flies =
          one_flies node jobs no_overrun t s.start q j le (begins q) flies runs_first (mine ∙ own)

      module _ (S : ℕ → ℕ → Type 0) (offered : Option ℕ) (st : Station) (is_at : IsAt S t st)
          (offers : IsStartAt node jobs j s.start → Is (S j) offered) where
        -- what the job has read
        reading : st.task ≡ s.task → Is (S j) (read_by st offered)
        reading mine =
            elim (cases_Bool st.runs) [
              | inl runs ↦
                  let f = is_at.flies runs in
                  let same : f.0 ≡ j = flies_on f.0 (f.1 ∙ mine) f.2 in
                  rw runs (is_at.read j (sym own ∙ sym mine) (subst (λ x. InFlight node jobs t x) same f.2)).1
              | inr idle ↦
                  let parts = picked_parts node jobs s.start j runs_first in
                  let begun = begins j in
                  let none : executed_before node jobs s.start j ≡ 0 =
                  elim (cases_lt 0 (executed_before node jobs t j)) [
                    | inr low ↦ omega arith
                    | inl more ↦ absurd (true≢false (sym (is_at.read j (sym own ∙ sym mine) (more, omega (arith, parts.2))).0 ∙ idle))
                  ] in
                  rw idle (offers (record { runs = runs_first; first = none }))
            ]

        -- a task of other jobs
        at_other : (st.task ≡ s.task → ⊥) → IsAt S s.stop st
        at_other ne =
            let none = none_other st.task (λ e. absurd (ne e)) in
            let differ : (q : ℕ) → (job_at jobs q).task ≡ st.task → q ≡ j → ⊥ =
            λ q mine same. ne (sym mine ∙ (ap (λ x. (job_at jobs x).task) same ∙ sym own)) in
            record {
              written = stands_on AtFinish node jobs st.task t s.stop S st.written (omega arith) none is_at.written;
              read = λ q mine flies. is_at.read q mine (flew q (differ q mine) flies);
              flies = λ runs.
                  let f = is_at.flies runs in
                  let same = other_still f.0 (differ f.0 f.1) in
                  (f.0, f.1, (omega (arith, f.2.0), omega (arith, f.2.1)));
            }

        -- its own, where the job goes on
        at_open : st.task ≡ s.task → s.ends ≡ false → IsAt S s.stop (after_own s offered st)
        at_open mine goes =
            let none = none_other st.task (λ e. goes) in
            let here : Is (S j) (read_by st offered) = reading mine in
            let stays : Is (Stands AtFinish node jobs st.task S s.stop) st.written =
            stands_on AtFinish node jobs st.task t s.stop S st.written (omega arith) none is_at.written in
            record {
              written = rw goes stays;
              read = λ q of flies. elim (cases_eq q j) [
                | inl same ↦ (rw goes refl, subst (λ x. Is (S x) (read_by st offered)) (sym same) here)
                | inr ne ↦ absurd (ne (flies_on q (of ∙ mine) (flew q ne flies)))
              ];
              flies = λ runs. (j, sym own ∙ sym mine, (has_run, open_ goes));
            }

        -- its own, where the job finishes
        at_end : st.task ≡ s.task → s.ends ≡ true → IsAt S s.stop (after_own s offered st)
        at_end mine ends =
            let fin : IsFinishAt node jobs j s.stop = ended ends in
            let parts = picked_parts node jobs s.start j runs_first in
            let newest : IsNewest AtFinish node jobs st.task s.stop j = record {
              is_job = parts.0;
              own = sym own ∙ sym mine;
              finish = s.stop;
              finished = fin;
              in_time = omega arith;
              last = λ q g lt of is by. by;
            } in
            let now : Is (Stands AtFinish node jobs st.task S s.stop) (read_by st offered) =
            is_same (S j) (Stands AtFinish node jobs st.task S s.stop) (read_by st offered)
            (λ u has. (j, newest, has))
            (λ u has. subst (λ x. S x u) (newest_once AtFinish node jobs (turns_finish node jobs no_overrun) st.task
            s.stop has.0 j has.1 newest) has.2)
            (reading mine) in
            record {
              written = rw ends now;
              read = λ q of flies. elim (cases_eq q j) [
                | inl same ↦
                    let after = fin.after in
                    let less = (subst (λ x. InFlight node jobs s.stop x) same flies).1 in
                    absurd (omega arith)
                | inr ne ↦ absurd (ne (flies_on q (of ∙ mine) (flew q ne flies)))
              ];
              flies = λ runs. absurd (true≢false (sym (rw ends at runs)));
            }

        at_own : st.task ≡ s.task → IsAt S s.stop (after_own s offered st)
        at_own mine =
            elim (cases_Bool s.ends) [ inl ends ↦ at_end mine ends | inr goes ↦ at_open mine goes ]

        pub at_after : IsAt S s.stop (after_slice s offered st)
        at_after =
            elim (cases_eq st.task s.task) [
              | inl mine ↦ rw (eq-eqb st.task s.task mine) (at_own mine)
              | inr ne ↦ rw (ne_eqb st.task s.task ne) (at_other ne)
            ]

        -- what it offers the next task
        pub offers_next : IsStartAt node jobs j s.start → Is (HasRead AtFinish node jobs st.task S j) st.written
        offers_next start =
            has_read AtFinish node jobs st.task j s.start S st.written start
            (stands_on AtFinish node jobs st.task t s.start S st.written le (none_start st.task) is_at.written)

        -- what it writes
        pub comes_at : Comes s t j st.task S (output_at s offered st)
        comes_at =
            elim (cases_eq st.task s.task) [
              | inr ne ↦ rw (ne_eqb st.task s.task ne) (none_other st.task (λ e. absurd (ne e)))
              | inl mine ↦ elim (cases_Bool s.ends) [
                | inl ends ↦ rw (eq-eqb st.task s.task mine, ends)
                    (refl, sym own ∙ sym mine, ended ends, reading mine)
                | inr goes ↦ rw (eq-eqb st.task s.task mine, goes) (none_other st.task (λ e. goes))
              ]
            ]

      -- ---- all tasks of a chain
      all_after : (S : ℕ → ℕ → Type 0) (offered : Option ℕ) (sts : List Station) → AllAt S t sts
          → (IsStartAt node jobs j s.start → Is (S j) offered) → AllAt S s.stop (along s offered sts)
      all_after S offered [] at offers = tt
      all_after S offered (st ∷ sts) at offers = (
        at_after S offered st at.0 offers,
        subst (λ i. AllAt (HasRead AtFinish node jobs i S) s.stop (along s st.written sts)) (sym (task_kept s offered st))
            (all_after (HasRead AtFinish node jobs st.task S) st.written sts at.1 (offers_next S offered st at.0 offers)),
      )

      comes_along : (S : ℕ → ℕ → Type 0) (offered : Option ℕ) (st : Station) (sts : List Station)
          (found : Option ChainOutput) → AllAt S t (st ∷ sts)
          → (IsStartAt node jobs j s.start → Is (S j) offered)
          → Comes s t j (last_task st.task (map (λ (x : Station). x.task) sts))
          (Sampled AtFinish node jobs st.task (map (λ (x : Station). x.task) sts) S)
          (last_output found s offered (st ∷ sts))
      comes_along S offered st [] found at offers = comes_at S offered st at.0 offers
      comes_along S offered st (st' ∷ sts) found at offers =
          comes_along (HasRead AtFinish node jobs st.task S) st.written st' sts (output_at s offered st) at.1
          (offers_next S offered st at.0 offers)

      all_come : (S : ℕ → ℕ → Type 0) (offered : Option ℕ) (sts : List Station) (i : ℕ)
          (others : List ℕ) → map (λ (x : Station). x.task) sts ≡ i ∷ others → AllAt S t sts
          → (IsStartAt node jobs j s.start → Is (S j) offered)
          → Comes s t j (last_task i others) (Sampled AtFinish node jobs i others S) (last_output None s offered sts)
      all_come S offered [] i others e at offers = absurd (no_cons i others e)
      all_come S offered (st ∷ sts) i others e at offers =
          subst (ComesOf s t j S (last_output None s offered (st ∷ sts))) e
          (comes_along S offered st sts None at offers)

      pub passes : (sts : List Station) (i : ℕ) (others : List ℕ)
          → map (λ (x : Station). x.task) sts ≡ i ∷ others → AllAt (IsStartAt node jobs) t sts
          → Passed s t j sts i others
      passes sts i others e at = record {
        after = all_after (IsStartAt node jobs) (Some s.start) sts at (λ start. start);
        comes = all_come (IsStartAt node jobs) (Some s.start) sts i others e at (λ start. start);
        early = λ q g is lo hi. (none_early q g is lo hi).1;
      }
