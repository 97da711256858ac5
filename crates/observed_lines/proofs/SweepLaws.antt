-- Who delays a job is found among the causes that are there.
use Rattle.std.proofs.Common.{◌≡◌, ◌∙◌, ℕ, ◌+◌, ◌≤◌, ◌&&◌, nat_le, nat_lt, Bool, true, false, cond, List}
use Rattle.std.proofs.Common.{[], ◌∷◌, ◌++◌, Option, Some, None, refl, sym, ap, arith, append_assoc}
use Rattle.std.specs.List.{filter, find}
use Rattle.std.specs.Option.{option_or}
use Rattle.std.proofs.lemmas.Bool.{and_left, and_parts, and_right, leb-true, le-leb, le-ltb, ltb-false}
use Rattle.observed.specs.SeenJob.{SeenData}
use Rattle.observed_lines.specs.Causes.{delays, is_there, may_delay}
use Rattle.observed_lines.specs.Sweeps.{Agree, come_from}
use Rattle.observed_lines.specs.declared.causes.Source.{Source}

-- who is over by the arrival of a job doesn't delay it
pub gone : (time : ℕ) (b : Bool) (l : ℕ) (c : Source) (s : SeenData) → is_there time c ≡ false → time ≤ s.arrival
    → delays b l c s ≡ false
gone time b l c s over le =
    let past : c.cause.arrival + c.lasted ≤ time = ltb-false time (c.cause.arrival + c.lasted) over in
    let behind : is_there s.arrival c ≡ false =
    le-ltb s.arrival (c.cause.arrival + c.lasted) (omega (arith, past, le)) in
    and_left (nat_lt c.cause.arrival (s.arrival + s.lasted) && is_there s.arrival c) (may_delay b c s && nat_le l c.costs)
    (and_right (nat_lt c.cause.arrival (s.arrival + s.lasted)) (is_there s.arrival c) behind)

-- nor does who comes behind its end
pub later : (b : Bool) (l : ℕ) (c : Source) (s : SeenData) → s.arrival + s.lasted ≤ c.cause.arrival
    → delays b l c s ≡ false
later b l c s le =
    let late : nat_lt c.cause.arrival (s.arrival + s.lasted) ≡ false =
    le-ltb c.cause.arrival (s.arrival + s.lasted) le in
    and_left (nat_lt c.cause.arrival (s.arrival + s.lasted) && is_there s.arrival c) (may_delay b c s && nat_le l c.costs)
    (and_left (nat_lt c.cause.arrival (s.arrival + s.lasted)) (is_there s.arrival c) late)

-- the first that passes, without one that doesn't
pub find_skip : (p : Source → Bool) (xs : List Source) (c : Source) (ys : List Source)
    → p c ≡ false → find p (xs ++ c ∷ ys) ≡ find p (xs ++ ys)
find_skip p [] c ys fails = ap (λ b. cond b (Some c) (find p ys)) fails
find_skip p (x ∷ xs) c ys fails =
    ap (λ (o : Option Source). cond (p x) (Some x) o) (find_skip p xs c ys fails)

-- the first that passes, without those that another test leaves out
pub find_kept : (p q : Source → Bool) (xs ys : List Source) → ((c : Source) → q c ≡ false → p c ≡ false)
    → find p (filter q xs ++ ys) ≡ find p (xs ++ ys)
find_kept p q [] ys out = refl
find_kept p q (x ∷ xs) ys out = go (find_kept p q xs ys out) (q x) refl
  where
    go : find p (filter q xs ++ ys) ≡ find p (xs ++ ys) → (b : Bool) → q x ≡ b
        → find p (cond b (x ∷ filter q xs) (filter q xs) ++ ys) ≡ find p (x ∷ xs ++ ys)
    go more true keeps = ap (λ (o : Option Source). cond (p x) (Some x) o) more
    go more false goes =
        more ∙ sym (ap (λ b. cond b (Some x) (find p (xs ++ ys))) (out x goes))

-- the first of both
pub find_append : (p : Source → Bool) (xs ys : List Source)
    → find p (xs ++ ys) ≡ option_or (find p xs) (find p ys)
find_append p [] ys = refl
find_append p (x ∷ xs) ys = go (find_append p xs ys) (p x)
  where
    go : find p (xs ++ ys) ≡ option_or (find p xs) (find p ys) → (b : Bool)
        → cond b (Some x) (find p (xs ++ ys))
        ≡ option_or (cond b (Some x) (find p xs)) (find p ys)
    go more true = refl
    go more false = more

-- those that come no sooner than a time
pub lower : (least : ℕ) (cs : List Source) → come_from least cs ≡ true → come_from 0 cs ≡ true
lower least [] comes = refl
lower least (c ∷ cs) comes = rw (le-leb 0 c.cause.arrival (omega arith))
    (and_parts (nat_le least c.cause.arrival) (come_from c.cause.arrival cs) comes).1

-- of those that come no sooner than its end none delays a job
pub none_ahead : (b : Bool) (l : ℕ) (s : SeenData) (least : ℕ) (cs : List Source) → s.arrival + s.lasted ≤ least
    → come_from least cs ≡ true → find (λ c. delays b l c s) cs ≡ None
none_ahead b l s least [] le comes = refl
none_ahead b l s least (c ∷ cs) le comes =
    let each = and_parts (nat_le least c.cause.arrival) (come_from c.cause.arrival cs) comes in
    let at : least ≤ c.cause.arrival = leb-true least c.cause.arrival each.0 in
    ap (λ x. cond x (Some c) (find (λ d. delays b l d s) cs)) (later b l c s (omega (arith, le, at)))
    ∙ none_ahead b l s c.cause.arrival cs (omega (arith, le, at)) each.1

-- those that aren't over by a time are as good as all
pub kept_agree : (time : ℕ) (xs ys : List Source) → Agree time (filter (is_there time) xs ++ ys) (xs ++ ys)
kept_agree time xs ys b l s le =
    find_kept (λ c. delays b l c s) (is_there time) xs ys (λ c over. gone time b l c s over le)

-- one that is over is left out
pub skip_agree : (time : ℕ) (xs : List Source) (c : Source) (ys : List Source) → is_there time c ≡ false
    → Agree time (xs ++ ys) (xs ++ c ∷ ys)
skip_agree time xs c ys over b l s le =
    sym (find_skip (λ d. delays b l d s) xs c ys (gone time b l c s over le))

-- one that isn't is moved
pub push_agree : (time : ℕ) (xs : List Source) (c : Source) (ys : List Source)
    → Agree time ((xs ++ c ∷ []) ++ ys) (xs ++ c ∷ ys)
push_agree time xs c ys b l s le = ap (λ (cs : List Source). find (λ d. delays b l d s) cs) (append_assoc xs (c ∷ []) ys)

pub trans_agree : (time : ℕ) (xs ys zs : List Source) → Agree time xs ys → Agree time ys zs
    → Agree time xs zs
trans_agree time xs ys zs first second b l s le = first b l s le ∙ second b l s le

-- of those that arrive later, too
pub later_agree : (early late : ℕ) (xs ys : List Source) → early ≤ late → Agree early xs ys → Agree late xs ys
later_agree early late xs ys le same b l s at = same b l s (omega (arith, le, at))
