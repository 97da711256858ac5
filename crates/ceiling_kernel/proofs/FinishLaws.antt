-- When a job finishes.
use Rattle.std.proofs.Common.{Option, ap, ◌-◌, ℕ, zero, suc, ◌+◌, ◌<◌, ◌≤◌, ◌≡◌, ◌⊎◌, inl, inr}
use Rattle.std.proofs.Common.{refl, sym, ◌∙◌, subst, arith, cond, List, Some, None}
use Rattle.std.proofs.Common.{nat_le, add-suc, add-zero}
use Rattle.std.proofs.lemmas.Option.{none-some}
use Rattle.std.specs.Option.{option_or}
use Rattle.std.proofs.lemmas.Bool.{cases_eq, cases_lt, le-leb, lt-leb}
use Rattle.ceiling_kernel.proofs.Common.{Node, Job, job_at, executed_before, picked, finish_before}
use Rattle.ceiling_kernel.specs.Readings.{IsFinishAt}
use Rattle.ceiling_kernel.proofs.MachineLaws.{start_of, idle_of, own_of, other_of}

module _ (node : Node) (jobs : List Job) (j : ℕ) where
  abbrev done : ℕ → ℕ
  done t = executed_before node jobs t j

  abbrev cost : ℕ
  cost = (job_at jobs j).executes

  pub finish_start : finish_before node jobs 0 j ≡ None
  unfolding finish_before
  finish_start = refl

  pub finish_step : (t : ℕ) → finish_before node jobs (suc t) j ≡ option_or
      (finish_before node jobs t j) (cond (nat_le cost (done (suc t))) (Some (suc t)) None)
  unfolding finish_before
  finish_step t = refl

  grows : (t : ℕ) → done t ≤ done (suc t)
  grows t =
      elim (picked node jobs t) as (λ r. picked node jobs t ≡ r → done t ≤ done (suc t)) [
        | None ↦ λ e. (omega (arith, idle_of node jobs t j e))
        | Some p ↦ λ e. elim (cases_eq j p) [
          | inl same ↦ omega (
            arith,
            subst (λ x. executed_before node jobs (suc t) x ≡ suc
                (executed_before node jobs t x))
                (sym same) (own_of node jobs t p e),
          )
          | inr ne ↦ omega (arith, other_of node jobs t p j e ne)
        ]
      ] refl

  pub grows_by : (t k : ℕ) → done t ≤ done (t + k)
  grows_by t zero = rw add-zero (omega arith)
  grows_by t (suc k) = rw add-suc (omega (arith, grows_by t k, grows (t + k)))

  -- what it has executed never falls
  pub done_grows : (t u : ℕ) → t ≤ u → done t ≤ done u
  done_grows t u le = (let at : t + (u - t) ≡ u = omega arith in
      subst (λ v. done t ≤ done v) at (grows_by t (u - t)))

  -- an unfinished job has no finish
  pub finish_none : (t : ℕ) → done t < cost → finish_before node jobs t j ≡ None
  finish_none zero lt = finish_start
  finish_none (suc t) lt =
      let g : done t ≤ done (suc t) = grows t in
      let before : finish_before node jobs t j ≡ None = finish_none t (omega arith) in
      finish_step t ∙ rw (before, lt-leb cost (done (suc t)) lt)

  -- a finished one has
  pub finish_some : (t : ℕ) → 0 < cost → cost ≤ done t → (f : ℕ)
      × (finish_before node jobs t j ≡ Some f)
  finish_some zero some le = let z : done 0 ≡ 0 = start_of node jobs j in absurd (omega arith)
  finish_some (suc t) some le =
      elim (finish_before node jobs t j) as (λ o. finish_before node jobs t j ≡ o → (f : ℕ)
      × (finish_before node jobs (suc t) j ≡ Some f)) [
        | None ↦ λ e. (suc t, finish_step t ∙ rw (e, le-leb cost (done (suc t)) le))
        | Some f ↦ λ e. (f, finish_step t ∙ rw e)
      ] refl

  pub finish_later : (t k f : ℕ) → finish_before node jobs t j ≡ Some f
      → finish_before node jobs (t + k) j ≡ Some f
  finish_later t zero f e = rw add-zero e
  finish_later t (suc k) f e =
      rw add-suc (finish_step (t + k) ∙ rw (finish_later t k f e))

  -- what is known of its finish stays while it executes nothing, or doesn't finish
  pub finish_stays : (t u : ℕ) → t ≤ u → 0 < cost → (done u ≡ done t) ⊎ (done u < cost)
      → finish_before node jobs u j ≡ finish_before node jobs t j
  finish_stays t u le some h =
      elim (cases_lt (done t) cost) [
        | inl open_ ↦
            let still : done u < cost = elim h [ inl same ↦ omega arith | inr less ↦ less ] in
            finish_none u still ∙ sym (finish_none t open_)
        | inr full ↦
            let f : (f : ℕ) × (finish_before node jobs t j ≡ Some f) = finish_some t some full in
            let to : t + (u - t) ≡ u = omega arith in
            ap (λ x. finish_before node jobs x j) (sym to)
            ∙ (finish_later t (u - t) f.0 f.1 ∙ sym f.1)
      ]

  -- a job that finishes with a tick
  pub finish_now : (t : ℕ) → done t < cost → cost ≤ done (suc t)
      → finish_before node jobs (suc t) j ≡ Some (suc t)
  finish_now t before after =
      finish_step t ∙ rw (finish_none t before, le-leb cost (done (suc t)) after)

  -- the finish is the end of the tick in which the job executes the last of its cost
  pub finish_is : (t f : ℕ) → 0 < cost → finish_before node jobs t j ≡ Some f → (f ≤ t)
      × IsFinishAt node jobs j f
  finish_is zero f some e = absurd (none-some f (sym finish_start ∙ e))
  finish_is (suc t) f some e =
      elim (finish_before node jobs t j) as
      (λ o. finish_before node jobs t j ≡ o → (f ≤ suc t) × IsFinishAt node jobs j f) [
        | Some g ↦ λ is.
            let later : finish_before node jobs (suc t) j ≡ Some g = finish_step t ∙ rw is in
            let same : g ≡ f = cc (sym later ∙ e) in
            let was : (f ≤ t) × IsFinishAt node jobs j f = finish_is t f some (is ∙ ap Some same) in
            (omega (arith, was.0), was.1)
        | None ↦ λ is.
            let now : cond (nat_le cost (done (suc t))) (Some (suc t)) None ≡ Some f =
            sym (finish_step t ∙ rw is) ∙ e in
            let open_ : done t < cost = elim (cases_lt (done t) cost) [
              | inl lt ↦ lt
              | inr ge ↦ (let g : (g : ℕ) × (finish_before node jobs t j ≡ Some g) =
                  finish_some t some ge in absurd (none-some g.0 (sym is ∙ g.1)))
            ] in
            elim (cases_lt (done (suc t)) cost) [
              | inl less ↦
                  (let m : ◌≡◌ {A = Option ℕ} None (Some f) = rw (lt-leb cost (done (suc t)) less)
                  at now in absurd (none-some f m))
              | inr full ↦
                  let n : ◌≡◌ {A = Option ℕ} (Some (suc t)) (Some f) = rw
                  (le-leb cost (done (suc t)) full) at now in
                  let same : suc t ≡ f = cc (n) in
                  let back : suc t - 1 ≡ t = omega arith in
                  let mine : IsFinishAt node jobs j (suc t) = record {
                    some = omega arith;
                    before =
                        subst (λ x. done x < cost) (sym back) open_;
                    after = full;
                  } in
                  (omega arith, subst (IsFinishAt node jobs j) same mine)
            ]
      ] refl

  -- a job without a finish is unfinished
  pub unfinished_is : (t : ℕ) → 0 < cost → finish_before node jobs t j ≡ None → done t < cost
  unfinished_is t some e =
      elim (cases_lt (done t) cost) [
        | inl lt ↦ lt
        | inr ge ↦ (let g = finish_some t some ge in absurd (none-some g.0 (sym e ∙ g.1)))
      ]
