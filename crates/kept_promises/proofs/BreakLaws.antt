-- Of jobs that keep to the demand nothing is said to be broken, and of no others.
use Rattle.std.proofs.Common.{Bool, ℕ, suc, ◌-◌, ◌≤◌, ◌≡◌, refl, sym, ap, ◌∙◌, arith, All, true, false, not}
use Rattle.std.proofs.Common.{get_or}
use Rattle.std.proofs.Common.{List, [], ◌∷◌, ◌++◌, Option, None, Some, IfSome, is_some}
use Rattle.std.proofs.lemmas.Bool.{false_from_ne_true, le-ltb, ltb-false, or_parts, true≢false}
use Rattle.std.proofs.lemmas.List.Folds.{list_all_at}
use Rattle.std.specs.List.{list_all}
use Rattle.observed.specs.SeenJob.{SeenData}
use Rattle.observed_lines.specs.Breaks.{breaks_any, breaks_blocking, breaks_bound, breaks_cost}
use Rattle.observed_lines.specs.Breaks.{breaks_foreign, breaks_idle, breaks_jitter, breaks_period, breaks_priority}
use Rattle.observed_lines.specs.Breaks.{is_kept, is_over, is_short, may_idle}
use Rattle.observed_lines.specs.Broken.{broken_lines, own_lines, own_words, wait_lines, wait_words}
use Rattle.observed_lines.specs.Causes.{behind_in, sources_in}
use Rattle.kept_promises.specs.KeptPromises.{Keeps, KeepsToDemand}

-- a time that isn't short of a limit, is short of it by no tolerance
not_short : (tolerance : ℕ) (time : Option ℕ) (limit : ℕ) → IfSome time (λ t. limit ≤ t)
    → is_short tolerance time limit ≡ false
not_short tolerance None limit enough = refl
not_short tolerance (Some t) limit enough = le-ltb tolerance (limit - t) (omega (arith, enough))

-- one that isn't past it, is past it by none
not_over : (tolerance : ℕ) (time : Option ℕ) (limit : ℕ) → IfSome time (λ t. t ≤ limit)
    → is_over tolerance time limit ≡ false
not_over tolerance None limit short = refl
not_over tolerance (Some t) limit short = le-ltb tolerance (t - limit) (omega (arith, short))

-- a lesser limit, too
lesser : (time : Option ℕ) (limit less : ℕ) → less ≤ limit → IfSome time (λ t. limit ≤ t)
    → IfSome time (λ t. less ≤ t)
lesser None limit less le enough = tt
lesser (Some t) limit less le enough = omega (arith, le, enough)

-- who keeps what is promised keeps to the demand, which has room for more
pub keeps-to_demand : (s : SeenData) → s.promise.cost ≤ s.may_execute → s.closest ≤ s.promise.period
    → s.promise.blocking ≤ s.may_be_blocked → Keeps s → KeepsToDemand s
keeps-to_demand s cost closest blocking keeps = record {
  priority = keeps.priority;
  cost = omega (arith, cost, keeps.cost);
  period = lesser s.gap s.promise.period s.closest closest keeps.period;
  jitter = keeps.jitter;
  bound = keeps.bound;
  blocking = omega (arith, blocking, keeps.blocking);
  taken = omega (arith, keeps.foreign, keeps.idle);
}

module _ (tolerance : ℕ) (s : SeenData) (keeps : KeepsToDemand s) where
  priority : breaks_priority s ≡ false
  priority = ap (λ (o : Option ℕ). is_some o) keeps.priority

  cost : breaks_cost tolerance s ≡ false
  cost = le-ltb tolerance (s.executed - s.may_execute) (omega (arith, keeps.cost))

  period : breaks_period tolerance s ≡ false
  period = not_short tolerance s.gap s.closest keeps.period

  jitter : breaks_jitter tolerance s ≡ false
  jitter = not_over tolerance s.delay s.promise.jitter keeps.jitter

  bound : breaks_bound tolerance s ≡ false
  bound = le-ltb tolerance (s.lasted - s.promise.bound) (omega (arith, keeps.bound))

  blocking : breaks_blocking tolerance s ≡ false
  blocking = le-ltb tolerance (s.blocked - s.may_be_blocked) (omega (arith, keeps.blocking))

  foreign : breaks_foreign tolerance s ≡ false
  foreign = le-ltb tolerance (s.foreign - s.may_be_taken) (omega (arith, keeps.taken))

  idle : breaks_idle tolerance s ≡ false
  idle = le-ltb tolerance (s.idle - may_idle s) (omega (arith, keeps.taken))

  any : breaks_any tolerance s ≡ false
  any = rw (priority, cost, period, jitter, bound, blocking, foreign, idle) refl

  own : own_words tolerance s ≡ []
  own = rw (priority, cost, period, jitter) refl

  -- neither among what follows from something, nor among what doesn't
  waits : (follows : Bool) (all : List SeenData)
      → wait_words follows (behind_in tolerance (sources_in tolerance all) s) tolerance s ≡ []
  waits true all = rw (bound, blocking) refl
  waits false all = rw (bound, blocking, foreign, idle) refl

-- behind the first, too
rest_keeps : (s : SeenData) (seen : List SeenData) → All KeepsToDemand (s ∷ seen) → All KeepsToDemand seen
rest_keeps s seen all k d lt = all (suc k) d (omega (arith, lt))

pub all_are_kept : (tolerance : ℕ) (seen : List SeenData) → All KeepsToDemand seen
    → is_kept tolerance seen ≡ true
all_are_kept tolerance [] all = refl
all_are_kept tolerance (s ∷ seen) all =
    let here : breaks_any tolerance s ≡ false = any tolerance s (all 0 s (omega arith)) in
    let rest : list_all (λ (x : SeenData). not (breaks_any tolerance x)) seen ≡ true =
    all_are_kept tolerance seen (rest_keeps s seen all) in
    rw (here, rest) refl

none_own : (tolerance : ℕ) (seen : List SeenData) → All KeepsToDemand seen → own_lines tolerance seen ≡ []
none_own tolerance [] all = refl
none_own tolerance (s ∷ seen) all =
    let here : own_words tolerance s ≡ [] = own tolerance s (all 0 s (omega arith)) in
    ap (λ (words : List ℕ). words ++ own_lines tolerance seen) here
    ∙ none_own tolerance seen (rest_keeps s seen all)

none_waits : (tolerance : ℕ) (follows : Bool) (every seen : List SeenData) → All KeepsToDemand seen
    → wait_lines follows (sources_in tolerance every) tolerance seen ≡ []
none_waits tolerance follows every [] all = refl
none_waits tolerance follows every (s ∷ seen) all =
    let here : wait_words follows (behind_in tolerance (sources_in tolerance every) s) tolerance s ≡ [] =
    waits tolerance s (all 0 s (omega arith)) follows every in
    ap (λ (words : List ℕ). words ++ wait_lines follows (sources_in tolerance every) tolerance seen) here
    ∙ none_waits tolerance follows every seen (rest_keeps s seen all)

pub none_written : (tolerance : ℕ) (seen : List SeenData) → All KeepsToDemand seen
    → broken_lines tolerance seen ≡ []
none_written tolerance seen all =
    let later : List ℕ = wait_lines true (sources_in tolerance seen) tolerance seen in
    ap (λ (words : List ℕ). words ++ wait_lines false (sources_in tolerance seen) tolerance seen
    ++ later) (none_own tolerance seen all)
    ∙ ap (λ (words : List ℕ). words ++ later) (none_waits tolerance false seen seen all)
    ∙ none_waits tolerance true seen seen all

-- ---- of no others
-- a time that isn't short
enough : (time : Option ℕ) (limit : ℕ) → is_short 0 time limit ≡ false
    → IfSome time (λ t. limit ≤ t)
enough None limit not_so = tt
enough (Some t) limit not_so = omega (arith, ltb-false 0 (limit - t) not_so)

-- a time that isn't over
within : (time : Option ℕ) (limit : ℕ) → is_over 0 time limit ≡ false
    → IfSome time (λ t. t ≤ limit)
within None limit not_so = tt
within (Some t) limit not_so = omega (arith, ltb-false 0 (t - limit) not_so)

-- none that is said
no_some : (o : Option ℕ) → is_some o ≡ false → o ≡ None
no_some None none = refl
no_some (Some n) none = absurd (true≢false none)

-- who breaks nothing keeps to the demand
kept_one : (s : SeenData) → breaks_any 0 s ≡ false → KeepsToDemand s
kept_one s none =
    let p = or_parts (breaks_priority s) _ none in
    let a = or_parts (breaks_cost 0 s) _ p.1 in
    let b = or_parts (breaks_period 0 s) _ a.1 in
    let j = or_parts (breaks_jitter 0 s) _ b.1 in
    let c = or_parts (breaks_bound 0 s) _ j.1 in
    let d = or_parts (breaks_blocking 0 s) _ c.1 in
    let e = or_parts (breaks_foreign 0 s) _ d.1 in
    record {
      priority = no_some s.stray p.0;
      cost = omega (arith, ltb-false 0 (s.executed - s.may_execute) a.0);
      period = enough s.gap s.closest b.0;
      jitter = within s.delay s.promise.jitter j.0;
      bound = omega (arith, ltb-false 0 (s.lasted - s.promise.bound) c.0);
      blocking = omega (arith, ltb-false 0 (s.blocked - s.may_be_blocked) d.0);
      taken = omega (
        arith,
        ltb-false 0 (s.foreign - s.may_be_taken) e.0,
        ltb-false 0 (s.idle - may_idle s) e.1,
      );
    }

pub kept_all : (seen : List SeenData) → is_kept 0 seen ≡ true → All KeepsToDemand seen
kept_all seen kept k d lt =
    let s = get_or seen k d in
    let none : breaks_any 0 s ≡ false = false_from_ne_true _ (λ broken. true≢false (sym kept
    ∙ list_all_at (λ (x : SeenData). not (breaks_any 0 x)) seen k d lt (ap not broken))) in
    kept_one s none
