-- The longest span: it begins at one of the starts, and is no longer where no step is.
use Rattle.std.proofs.Common.{ℕ, zero, suc, ◌+◌, ◌*◌, ◌%◌, ◌==◌, ◌<◌, ◌≤◌, ◌≡◌, inl, inr, refl, sym, ap, ◌∙◌, arith}
use Rattle.std.proofs.Common.{List, [], ◌∷◌, Option, Some, None, true, false, ◌&&◌, cond, if◌then◌else◌}
use Rattle.std.specs.Prelude.{Bool, drop, find, is_some, option_map, unwrap_or}
use Rattle.std.specs.List.{AllZip}
use Rattle.std.proofs.Math.Nat.{le-max_left}
use Rattle.std.proofs.lemmas.Bool.{cases_eq, eq-eqb, ne_eqb}
use Rattle.std.proofs.lemmas.Option.{none-some, same_Some}
use Rattle.task_sheet.proofs.Common.{Task, greatest_of}
use Rattle.chains.specs.Walks.{IsNoLonger, NoLongerSteps, are_below, are_whole, arrivals, bound_by, first_whole}
use Rattle.chains.specs.Walks.{is_below, longest_start, next_by, span_from, starts_by, starts_of, steps_with, walk_from}
use Rattle.chains.specs.declared.walks.Step.{Step}
use Rattle.chains.specs.declared.walks.TheConstants.{ARRIVAL_LIMIT}
use Rattle.chains.proofs.RoundLaws.{first_found, next_grows}

-- ---- where it begins
-- of numbers of which the greatest is more than 0, one has it
found_some : (f : ℕ → ℕ) (ts : List ℕ) (bound : ℕ) → greatest_of f ts ≡ bound → 0 < bound
    → f (unwrap_or (find (λ t. f t == bound) ts) 0) ≡ bound
found_some f [] bound is some = absurd (omega (arith, is))
found_some f (t ∷ ts) bound is some =
    elim (cases_eq (f t) bound) [
      | inl here ↦ (let so = eq-eqb (f t) bound here in rw so here)
      | inr not ↦
          let so = ne_eqb (f t) bound not in
          rw so (found_some f ts bound (omega (arith, is, not)) some)
    ]

-- of any, if there is one
found : (f : ℕ → ℕ) (t : ℕ) (ts : List ℕ) (bound : ℕ) → greatest_of f (t ∷ ts) ≡ bound
    → f (unwrap_or (find (λ u. f u == bound) (t ∷ ts)) 0) ≡ bound
found f t ts bound is =
    elim (cases_eq (f t) bound) [
      | inl here ↦ (let so = eq-eqb (f t) bound here in rw so here)
      | inr not ↦ found_some f (t ∷ ts) bound is (omega (
        arith,
        not,
        is,
        le-max_left (f t) (greatest_of f ts),
      ))
    ]

-- there is a first start
starts_some : (steps : List Step) (ts : List ℕ) → starts_of steps ≡ Some ts
    → (u : ℕ) × (us : List ℕ) × (ts ≡ u ∷ us)
starts_some [] ts is = (0, [], sym (same_Some (0 ∷ []) ts is))
starts_some (s ∷ steps) ts is = by s.offset is
  where
    rest : (offset : ℕ) (b : Bool) (w : Option ℕ)
        → ((n : ℕ) → w ≡ Some n → 1 ≤ n)
        → (if b then option_map (λ n. arrivals offset s.period n) w else None) ≡ Some ts
        → (u : ℕ) × (us : List ℕ) × (ts ≡ u ∷ us)
    rest offset true (Some zero) some is = absurd (omega (arith, some 0 refl))
    rest offset true (Some (suc n)) some is = (
      offset,
      arrivals (offset + s.period) s.period n,
      sym (same_Some (arrivals offset s.period (suc n)) ts is),
    )
    rest offset true None some is = absurd (none-some ts is)
    rest offset false w some is = absurd (none-some ts is)

    by : (o : Option ℕ) → starts_by o s.period (s ∷ steps) ≡ Some ts
        → (u : ℕ) × (us : List ℕ) × (ts ≡ u ∷ us)
    by None is = (0, [], sym (same_Some (0 ∷ []) ts is))
    by (Some offset) is =
        rest offset (are_below (s ∷ steps)) (first_whole (s ∷ steps) s.period ARRIVAL_LIMIT 1)
        (λ n found. (first_found (s ∷ steps) s.period ARRIVAL_LIMIT 1 n found).0) is

-- THE LONGEST SPAN is that from the start that is named
pub longest_is_bound : (steps : List Step) (bound : ℕ) → bound_by steps ≡ Some bound
    → span_from steps (longest_start steps) ≡ bound
longest_is_bound steps bound is = by (starts_of steps) refl
  where
    f : ℕ → ℕ
    f t = span_from steps t

    by : (w : Option (List ℕ)) → starts_of steps ≡ w → span_from steps (longest_start steps) ≡ bound
    by None none = absurd (none-some bound (ap (option_map (λ ts. greatest_of f ts)) (sym none) ∙ is))
    by (Some ts) some =
        let same : Some (greatest_of f ts) ≡ Some bound =
        ap (option_map (λ us. greatest_of f us)) (sym some) ∙ is in
        let first = starts_some steps ts some in
        let greatest : greatest_of f (first.0 ∷ first.1) ≡ bound =
        ap (λ us. greatest_of f us) (sym first.2) ∙ same_Some (greatest_of f ts) bound same in
        rw (is, some, first.2) (found f first.0 first.1 bound greatest)

-- ---- where no step is longer
-- a walk that begins no later and has no longer steps ends no later
walk_longer : (steps others : List Step) (t u : ℕ) → AllZip IsNoLonger steps others → t ≤ u
    → walk_from steps t ≤ walk_from others u
walk_longer [] [] t u zip le = le
walk_longer [] (r ∷ others) t u zip le = elim zip [ ]
walk_longer (s ∷ steps) [] t u zip le = elim zip [ ]
walk_longer (s ∷ steps) (r ∷ others) t u zip le =
    let delay = zip.0.delay in
    let same : next_by s.offset s.period t ≡ next_by r.offset r.period t =
    ap (λ o. next_by o s.period t) zip.0.offset ∙ ap (λ p. next_by r.offset p t) zip.0.period in
    walk_longer steps others (next_by s.offset s.period t + s.delay)
    (next_by r.offset r.period u + r.delay) zip.1
    (omega (arith, same, next_grows r.offset r.period t u le))

span_longer : (steps others : List Step) (t : ℕ) → AllZip IsNoLonger steps others
    → span_from steps t ≤ span_from others t
span_longer [] [] t zip = omega arith
span_longer [] (r ∷ others) t zip = elim zip [ ]
span_longer (s ∷ steps) [] t zip = elim zip [ ]
span_longer (s ∷ steps) (r ∷ others) t zip =
    let delay = zip.0.delay in
    let period = zip.0.period in
    omega (
      arith,
      walk_longer steps others (t + s.period + s.delay) (t + r.period + r.delay) zip.1 (omega arith),
    )

-- and the same starts
same_below : (steps others : List Step) → AllZip IsNoLonger steps others
    → are_below steps ≡ are_below others
same_below [] [] zip = refl
same_below [] (r ∷ others) zip = elim zip [ ]
same_below (s ∷ steps) [] zip = elim zip [ ]
same_below (s ∷ steps) (r ∷ others) zip =
    ap (λ o. is_below o s.period && are_below steps) zip.0.offset
    ∙ (ap (λ p. is_below r.offset p && are_below steps) zip.0.period
    ∙ ap (λ b. is_below r.offset r.period && b) (same_below steps others zip.1))

same_whole : (steps others : List Step) (round : ℕ) → AllZip IsNoLonger steps others
    → are_whole steps round ≡ are_whole others round
same_whole [] [] round zip = refl
same_whole [] (r ∷ others) round zip = elim zip [ ]
same_whole (s ∷ steps) [] round zip = elim zip [ ]
same_whole (s ∷ steps) (r ∷ others) round zip =
    ap (λ p. (round % p == 0) && are_whole steps round) zip.0.period
    ∙ ap (λ b. (round % r.period == 0) && b) (same_whole steps others round zip.1)

same_first : (steps others : List Step) (period many n : ℕ) → AllZip IsNoLonger steps others
    → first_whole steps period many n ≡ first_whole others period many n
unfolding first_whole
same_first steps others period zero n zip = refl
same_first steps others period (suc many) n zip =
    ap (λ b. cond b (Some n) (first_whole steps period many (n + 1)))
    (same_whole steps others (n * period) zip)
    ∙ ap (λ o. cond (are_whole others (n * period)) (Some n) o)
    (same_first steps others period many (n + 1) zip)

same_by : (o : Option ℕ) (period : ℕ) (steps others : List Step) → AllZip IsNoLonger steps others
    → starts_by o period steps ≡ starts_by o period others
same_by None period steps others zip = refl
same_by (Some offset) period steps others zip =
    ap (λ b. cond b (option_map (λ n. arrivals offset period n)
    (first_whole steps period ARRIVAL_LIMIT 1)) None) (same_below steps others zip)
    ∙ ap (λ w. cond (are_below others) (option_map (λ n. arrivals offset period n) w) None)
    (same_first steps others period ARRIVAL_LIMIT 1 zip)

pub same_starts : (steps others : List Step) → AllZip IsNoLonger steps others
    → starts_of steps ≡ starts_of others
same_starts [] [] zip = refl
same_starts [] (r ∷ others) zip = elim zip [ ]
same_starts (s ∷ steps) [] zip = elim zip [ ]
same_starts (s ∷ steps) (r ∷ others) zip =
    ap (λ o. starts_by o s.period (s ∷ steps)) zip.0.offset
    ∙ (ap (λ p. starts_by r.offset p (s ∷ steps)) zip.0.period
    ∙ same_by r.offset r.period (s ∷ steps) (r ∷ others) zip)

-- so no delay moves where walks begin
no_delays : (U : List Task) (offsets delays tasks : List ℕ)
    → AllZip IsNoLonger (steps_with U offsets [] tasks) (steps_with U offsets delays tasks)
no_delays U offsets delays [] = tt
no_delays U offsets delays (i ∷ tasks) = (
  record { period = refl; offset = refl; delay = omega arith },
  no_delays U (drop 1 offsets) (drop 1 delays) tasks,
)

pub delays_keep_starts : (U : List Task) (offsets first second tasks : List ℕ)
    → starts_of (steps_with U offsets first tasks) ≡ starts_of (steps_with U offsets second tasks)
delays_keep_starts U offsets first second tasks =
    sym (same_starts (steps_with U offsets [] tasks) (steps_with U offsets first tasks)
    (no_delays U offsets first tasks))
    ∙ same_starts (steps_with U offsets [] tasks) (steps_with U offsets second tasks)
    (no_delays U offsets second tasks)

-- and where they begin somewhere there is a bound
pub bound_some : (steps : List Step) → is_some (starts_of steps) ≡ true
    → (bound : ℕ) × (bound_by steps ≡ Some bound)
bound_some steps some = by (starts_of steps) refl
  where
    by : (o : Option (List ℕ)) → starts_of steps ≡ o → (bound : ℕ) × (bound_by steps ≡ Some bound)
    by None is = let none : false ≡ true = rw is at some in absurd cc
    by (Some ts) is = (greatest_of (λ t. span_from steps t) ts, rw is refl)

pub some_starts : (steps : List Step) (bound : ℕ) → bound_by steps ≡ Some bound
    → is_some (starts_of steps) ≡ true
some_starts steps bound is = by (starts_of steps) is
  where
    by : (o : Option (List ℕ)) → option_map (λ ts. greatest_of (λ t. span_from steps t) ts) o ≡ Some bound
        → is_some o ≡ true
    by None none = absurd (none-some bound none)
    by (Some ts) some = refl

-- the greatest of no lesser numbers is no less
greatest_grows : (f g : ℕ → ℕ) → ((t : ℕ) → f t ≤ g t) → (ts : List ℕ)
    → greatest_of f ts ≤ greatest_of g ts
greatest_grows f g le [] = omega arith
greatest_grows f g le (t ∷ ts) =
    omega (arith, le t, greatest_grows f g le ts)

-- that of numbers within a bound is, too
pub greatest_within : (f : ℕ → ℕ) (bound : ℕ) → ((t : ℕ) → f t ≤ bound) → (ts : List ℕ)
    → greatest_of f ts ≤ bound
greatest_within f bound le [] = omega arith
greatest_within f bound le (t ∷ ts) = omega (arith, le t, greatest_within f bound le ts)

pub no_longer_law : NoLongerSteps
no_longer_law steps others bound other zip is is' = by (starts_of others) refl
  where
    f : ℕ → ℕ
    f t = span_from steps t

    g : ℕ → ℕ
    g t = span_from others t

    by : (w : Option (List ℕ)) → starts_of others ≡ w → bound ≤ other
    by None none = absurd (none-some other (ap (option_map (λ ts. greatest_of g ts)) (sym none) ∙ is'))
    by (Some ts) some =
        let one : Some (greatest_of f ts) ≡ Some bound =
        ap (option_map (λ us. greatest_of f us)) (sym (same_starts steps others zip ∙ some)) ∙ is in
        let two : Some (greatest_of g ts) ≡ Some other =
        ap (option_map (λ us. greatest_of g us)) (sym some) ∙ is' in
        omega (
          arith,
          same_Some (greatest_of f ts) bound one,
          same_Some (greatest_of g ts) other two,
          greatest_grows f g (λ t. span_longer steps others t zip) ts,
        )
