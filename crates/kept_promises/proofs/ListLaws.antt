-- What holds of each thing that is seen, and of the last job of a name.
use Rattle.std.proofs.Common.{ℕ, suc, ◌+◌, ◌<◌, ◌≤◌, ◌≡◌, ◌⊎◌, inl, inr, refl, sym, ap, ◌∙◌, subst}
use Rattle.std.proofs.Common.{arith, true, List, [], ◌∷◌, length, take, Option, None, Some}
use Rattle.std.proofs.Common.{slice_index_or, ◌-◌, cond, false, is_some}
use Rattle.std.proofs.lemmas.Bool.{cases_Bool}
use Rattle.std.proofs.lemmas.Option.{same_Some}
use Rattle.std.specs.List.{AllByRecursion}
use Rattle.task_sheet.proofs.Common.{Task, same_bytes, greatest_of}
use Rattle.trace_text.specs.declared.rows.TraceJob.{TraceJob}
use Rattle.observed.specs.Observed.{seen_from, with_seen}
use Rattle.observed.specs.Pieces.{level_of}
use Rattle.observed.specs.Promises.{no_promise}
use Rattle.observed.specs.Seen.{closest_to, last_from, seen_job}
use Rattle.observed.specs.declared.pieces.Piece.{Piece}
use Rattle.observed.specs.declared.promises.Promise.{Promise}
use Rattle.observed.specs.SeenJob.{SeenData}

-- what is within a bound for each element, is for the greatest
pub greatest_most : {X : Type 0} (f : X → ℕ) (b : ℕ) (xs : List X) (d : X)
    → ((k : ℕ) → k < length xs → f (slice_index_or xs k d) ≤ b) → greatest_of f xs ≤ b
greatest_most f b [] d each = omega arith
greatest_most f b (x ∷ xs) d each =
    let here : f x ≤ b = each 0 (omega arith) in
    let rest : greatest_of f xs ≤ b =
    greatest_most f b xs d (λ k lt. each (suc k) (omega (arith, lt))) in
    omega (arith, here, rest)

-- what holds of what is seen of each job that has a level
pub each_seen : (P : SeenData → Type 0) (U : List Task) (promises : List Promise) (end : ℕ) (pieces : List Piece)
    (all : List TraceJob) (d : TraceJob)
    → ((j level : ℕ) → j < length all → level_of promises (slice_index_or all j d).name ≡ Some level
    → P (seen_job U promises (slice_index_or promises level no_promise) level end pieces (take j all)
    (slice_index_or all j d)))
    → (place : ℕ) (rest : List TraceJob) → ((k : ℕ) → k < length rest → (place + k < length all)
    × (slice_index_or rest k d ≡ slice_index_or all (place + k) d))
    → AllByRecursion P (seen_from U promises end pieces all place rest)
each_seen P U promises end pieces all d each place [] are = tt
each_seen P U promises end pieces all d each place (job ∷ rest) are =
    let here = are 0 (omega arith) in
    let z : place + 0 ≡ place = omega arith in
    let is : job ≡ slice_index_or all place d = here.1 ∙ ap (λ k. slice_index_or all k d) z in
    let within : place < length all = omega (arith, here.0) in
    let more : AllByRecursion P (seen_from U promises end pieces all (place + 1) rest) =
    each_seen P U promises end pieces all d each (place + 1) rest (λ k lt.
    let next = are (suc k) (omega (arith, lt)) in
    let e : place + suc k ≡ place + 1 + k = omega arith in
    (omega (arith, next.0), next.1 ∙ ap (λ k. slice_index_or all k d) e)) in
    elim (level_of promises job.name) as
    (λ o. level_of promises job.name ≡ o → AllByRecursion P (with_seen U promises end pieces
    (take place all) job o (seen_from U promises end pieces all (place + 1) rest))) [
      | None ↦ λ _. more
      | Some level ↦ λ at. (
        subst (λ (x : TraceJob). P (seen_job U promises (slice_index_or promises level no_promise) level end
            pieces (take place all) x)) (sym is) (each place level within
            (ap (λ (x : TraceJob). level_of promises x.name) (sym is) ∙ at)),
        more,
      )
    ] refl

-- the last job is what came before, or one of the jobs that has the name
pub last_found : (name : List ℕ) (last : Option TraceJob) (js : List TraceJob) (b d : TraceJob)
    → last_from name last js ≡ Some b
    → (last ≡ Some b)
    ⊎ ((i : ℕ) × (i < length js) × (same_bytes (slice_index_or js i d).name name ≡ true)
    × (slice_index_or js i d ≡ b))
last_found name last [] b d h = inl h
last_found name last (j ∷ js) b d h =
    elim (cases_Bool (same_bytes j.name name)) [
      | inl so ↦
          let rest : last_from name (Some j) js ≡ Some b = rw so at h in
          elim (last_found name (Some j) js b d rest) [
            | inl is ↦ inr (0, omega arith, so, same_Some j b is)
            | inr found ↦ inr (suc found.0, omega (arith, found.1), found.2, found.3)
          ]
      | inr not_so ↦
          let rest : last_from name last js ≡ Some b = rw not_so at h in
          elim (last_found name last js b d rest) [
            | inl is ↦ inl is
            | inr found ↦ inr (suc found.0, omega (arith, found.1), found.2, found.3)
          ]
    ]

-- the least time between two arrivals as they are seen is no longer than the period
pub closest-short : (promise : Promise) (before : Option TraceJob)
    → closest_to promise before ≤ promise.period
closest-short promise None = omega arith
closest-short promise (Some before) =
    elim (is_some before.ready) as (λ b. cond b promise.period (promise.period - promise.jitter)
    ≤ promise.period) [ true ↦ omega arith | false ↦ omega arith ]
