-- What has come of timers and interrupts, and how much of it is done.
use Rattle.std.proofs.Common.{ℕ, zero, suc, ◌+◌, ◌-◌, ◌<◌, ◌≤◌, ◌≡◌, inl, inr, refl, subst, arith}
use Rattle.std.proofs.Common.{if◌then◌else◌, true, false, nat_lt, add-zero, add-suc}
use Rattle.std.proofs.lemmas.Bool.{cases_lt, cases_Bool, lt-ltb, le-ltb, ltb-true}
use Rattle.task_sheet.specs.Indexes.{sum_below}
use Rattle.interrupted_runs.specs.Interrupted.{come_before, is_taken}
unfoldable use Rattle.interrupted_runs.specs.Interrupted.{taken_before}

module _ (comes : ℕ → ℕ) where
  come_later : (s k : ℕ) → come_before comes s ≤ come_before comes (s + k)
  come_later s zero = rw add-zero (omega arith)
  come_later s (suc k) = rw add-suc (omega (arith, come_later s k))

  pub come_grows : (s t : ℕ) → s ≤ t → come_before comes s ≤ come_before comes t
  come_grows s t le =
      let there : s + (t - s) ≡ t = omega arith in
      subst (λ x. come_before comes s ≤ come_before comes x) there (come_later s (t - s))

  pub taken_more : (t : ℕ) → is_taken comes t ≡ true
      → taken_before comes (suc t) ≡ suc (taken_before comes t)
  unfolding taken_before
  taken_more t is = rw is

  pub taken_stays : (t : ℕ) → is_taken comes t ≡ false
      → taken_before comes (suc t) ≡ taken_before comes t
  unfolding taken_before
  taken_stays t not = rw not

  pub taken_first : taken_before comes 0 ≡ 0
  unfolding taken_before
  taken_first = refl

  -- ---- when what is done next has come
  -- where so much is done that has come by tick t
  abbrev pub since : (done t : ℕ) → ℕ
  since done zero = 0
  since done (suc t) = if nat_lt done (come_before comes (suc t)) then since done t else suc t

  pub record IsSince (done t s : ℕ) : Type 0 where
    pub by : s ≤ t
    pub from : come_before comes s ≤ done
    pub to : done < come_before comes (suc s)

  pub since_is : (done t : ℕ) → done < come_before comes (suc t) → IsSince done t (since done t)
  since_is done zero lt = record { by = omega arith; from = omega arith; to = lt }
  since_is done (suc t) lt =
      elim (cases_lt done (come_before comes (suc t))) [
        | inl less ↦
            let ih : IsSince done t (since done t) = since_is done t less in
            rw (lt-ltb done (come_before comes (suc t)) less)
            (record { by = omega (arith, ih.by); from = ih.from; to = ih.to })
        | inr past ↦ rw (le-ltb done (come_before comes (suc t)) past)
            (record { by = omega arith; from = past; to = lt })
      ]

  -- ---- how many ticks they take
  taken-le_come : (t : ℕ) → taken_before comes t ≤ come_before comes t
  taken-le_come zero = omega (arith, taken_first)
  taken-le_come (suc t) = elim (cases_Bool (is_taken comes t)) [
    | inl is ↦ omega (
      arith,
      taken_more t is,
      ltb-true (taken_before comes t) (come_before comes (suc t)) is,
    )
    | inr not ↦ omega (arith, taken_stays t not, taken-le_come t)
  ]

  -- each tick is one
  taken_next : (t : ℕ) → (taken_before comes t ≤ taken_before comes (suc t))
      × (taken_before comes (suc t) ≤ suc (taken_before comes t))
  taken_next t = elim (cases_Bool (is_taken comes t)) [
    | inl is ↦ (let more = taken_more t is in (omega arith, omega arith))
    | inr not ↦ (let same = taken_stays t not in (omega arith, omega arith))
  ]

  taken_after : (t k : ℕ) → taken_before comes (t + k) ≤ taken_before comes t + k
  taken_after t zero = rw add-zero (omega arith)
  taken_after t (suc k) = rw add-suc (omega (arith, taken_after t k, taken_next (t + k)))

  -- the last tick before which nothing is left; they take each since
  record IsLastDone (t q : ℕ) : Type 0 where
    pub by : q ≤ t
    pub all : taken_before comes q ≡ come_before comes q
    pub each : taken_before comes t ≡ taken_before comes q + (t - q)

  last_done : (t : ℕ) → (q : ℕ) × IsLastDone t q
  last_done zero = (0, record { by = omega arith; all = omega (arith, taken_first); each = omega arith })
  last_done (suc t) =
      let most = taken-le_come (suc t) in
      let step = taken_next t in
      elim (cases_lt (taken_before comes (suc t)) (come_before comes (suc t))) [
        | inr all ↦ (suc t, record { by = omega arith; all = omega arith; each = omega arith })
        | inl left ↦
            let is : is_taken comes t ≡ true =
            lt-ltb (taken_before comes t) (come_before comes (suc t)) (omega (arith, step.0)) in
            let more = taken_more t is in
            let before = last_done t in
            let last : IsLastDone t before.0 = before.1 in (
              before.0,
              record {
                by = omega (arith, last.by);
                all = last.all;
                each = omega (arith, last.by, last.each);
              },
            )
      ]

  come_parts : (q t : ℕ) → come_before comes (q + t)
      ≡ come_before comes q + sum_below t (λ s. comes (q + s))
  come_parts q zero = rw add-zero (omega arith)
  come_parts q (suc t) = rw add-suc (omega (arith, come_parts q t))

  -- in a window no more than comes in one as long
  pub taken_most : (most a t : ℕ) → ((q : ℕ) → sum_below t (λ s. comes (q + s)) ≤ most)
      → taken_before comes (a + t) ≤ taken_before comes a + most
  taken_most most a t counted =
      let found = last_done a in
      let q : ℕ = found.0 in
      let last : IsLastDone a q = found.1 in
      let there : q + t + (a - q) ≡ a + t = omega (arith, last.by) in
      let later : taken_before comes (a + t) ≤ taken_before comes (q + t) + (a - q) =
      subst (λ x. taken_before comes x ≤ taken_before comes (q + t) + (a - q)) there
      (taken_after (q + t) (a - q)) in
      omega (
        arith,
        later,
        taken-le_come (q + t),
        come_parts q t,
        counted q,
        last.all,
        last.each,
      )
