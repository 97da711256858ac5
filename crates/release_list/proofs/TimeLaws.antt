-- The list of streams, from one time to the next.
use Rattle.std.proofs.Common.{◌≡◌, ℕ, zero, suc, ◌+◌, ◌<◌, ◌≤◌, inl, inr, true, false, nat_lt}
use Rattle.std.proofs.Common.{Option}
use Rattle.std.proofs.Common.{Some, None, List, [], ◌∷◌, ◌++◌, length, drop, get_or, refl, sym, ◌∙◌}
use Rattle.std.proofs.Common.{ap}
use Rattle.std.proofs.Common.{append_assoc, arith}
use Rattle.std.specs.Option.{option_or}
use Rattle.std.proofs.lemmas.List.{length-append, append-nil, drop_more}
use Rattle.std.proofs.lemmas.Bool.{and_left, cases_eq, cases_lt, lt-ltb, le-ltb}
use Rattle.std.proofs.lemmas.Option.{none-some}
use Rattle.release_list.specs.declared.stream.Stream.{Stream}
use Rattle.ceiling_kernel.specs.declared.trace.Release.{Release}
use Rattle.ceiling_kernel.specs.declared.trace.RunFault.{RunFault}
use Rattle.ceiling_kernel.specs.declared.trace.RunFault.TheVariants as fault
use Rattle.ceiling_kernel.specs.Releases.{refuse_if, IsRefusal}
use Rattle.release_list.specs.Streams.{stream_at, arrives, late_at, release_of, is_listed}
use Rattle.release_list.specs.Streams.{releases_at, releases_before, list_of, count_refusal}

-- ---- refusals
-- out of memory may come where nothing is refused, and nothing else
nothing_else : (e : RunFault) (o : Option RunFault) → IsRefusal e None → IsRefusal e o
nothing_else fault.OutOfMemory o h = tt
nothing_else e o h = absurd (none-some e h)

-- a list that is longer is refused as well
pub refusal_grows : (e : RunFault) (m n : ℕ) → m ≤ n
    → IsRefusal e (refuse_if (nat_lt 10000 m) fault.TooMany)
    → IsRefusal e (refuse_if (nat_lt 10000 n) fault.TooMany)
refusal_grows e m n le h = elim (cases_lt 10000 m) [
  | inl many ↦ rw (lt-ltb 10000 n (omega arith)) (rw (lt-ltb 10000 m many) at h)
  | inr few ↦ nothing_else e (refuse_if (nat_lt 10000 n) fault.TooMany)
      (rw (le-ltb 10000 m few) at h)
]

-- what the reason to refuse a list says of its length
pub few_from : (n : ℕ) → refuse_if (nat_lt 10000 n) fault.TooMany ≡ None → n ≤ 10000
few_from n h = elim (cases_lt 10000 n) [
  | inl many ↦ absurd (none-some fault.TooMany (sym (rw (lt-ltb 10000 n many) at h)))
  | inr few ↦ few
]

pub many_from : (n : ℕ) → refuse_if (nat_lt 10000 n) fault.TooMany ≡ Some fault.TooMany → 10000 < n
many_from n h = elim (cases_lt 10000 n) [
  | inl many ↦ many
  | inr few ↦ absurd (none-some fault.TooMany (rw (le-ltb 10000 n few) at h))
]

-- what that of one with an end says
pub within_from : (until : ℕ) (o : Option RunFault)
    → option_or (refuse_if (nat_lt 60000000 until) fault.PastHorizon) o ≡ None
    → (until ≤ 60000000) × (o ≡ None)
within_from until o h = elim (cases_lt 60000000 until) [
  | inl past ↦ absurd (none-some fault.PastHorizon (sym (rw (lt-ltb 60000000 until past) at h)))
  | inr within ↦ (within, rw (le-ltb 60000000 until within) at h)
]

-- where both keep within the bounds there is none
pub none_refused : (until n : ℕ) → until ≤ 60000000 → n ≤ 10000
    → option_or (refuse_if (nat_lt 60000000 until) fault.PastHorizon)
    (refuse_if (nat_lt 10000 n) fault.TooMany) ≡ None
none_refused until n within few = rw (le-ltb 60000000 until within, le-ltb 10000 n few)

-- a list to which each step adds gets no shorter
pub longer : (list more : ℕ → List Release) → ((n : ℕ) → list (suc n) ≡ list n ++ more n)
    → (k n : ℕ) → k ≤ n → length (list k) ≤ length (list n)
longer list more step k zero le =
    (let e : length (list k) ≡ length (list 0) = ap (λ m. length (list m)) (omega arith) in
    omega arith)
longer list more step k (suc n) le = elim (cases_eq k (suc n)) [
  | inl same ↦ rw same (omega arith)
  | inr other ↦ omega (
    arith,
    longer list more step k n (omega arith),
    ap length (step n),
    length-append (list n) (more n),
  )
]

-- ---- what the code does with the releases of a time
-- where no job arrives there is none
pub none_at : (ss : List Stream) (time until : ℕ)
    → ((i : ℕ) → i < length ss → arrives time (stream_at ss i) ≡ false)
    → releases_at ss time until ≡ []
none_at [] time until h = refl
none_at (s ∷ ss) time until h =
    let off : is_listed time until s ≡ false =
    and_left (arrives time s) (nat_lt (time + late_at time s) until) (h 0 (omega arith)) in
    rw off (none_at ss time until (λ i lt. h (suc i) (omega arith)))

-- those of the streams before a place stand behind others
pub record ArePushed (ss : List Stream) (time until : ℕ) (old items : List Release)
    (i : ℕ) : Type 0 where
  pub rest : items ++ releases_at (drop i ss) time until ≡ old ++ releases_at ss time until
  pub few : length items ≤ 10000

module _ {ss : List Stream} {time until : ℕ} {old items : List Release} {i : ℕ} {s : Stream}
    (are : ArePushed ss time until old items i) (lt : i < length ss) (is : s ≡ get_or ss i s) where
  next : items ++ releases_at (s ∷ drop (i + 1) ss) time until ≡ old ++ releases_at ss time until
  next =
      let e : drop i ss ≡ s ∷ drop (i + 1) ss = rw (← is) at (drop_more ss i s lt) in
      sym (ap (λ (xs : List Stream). items ++ releases_at xs time until) e) ∙ are.rest

  pub push_next : {then : List Release} {r : Release} → is_listed time until s ≡ true
      → length items < 10000 → then ≡ items ++ r ∷ [] → r ≡ release_of time s
      → ArePushed ss time until old then (i + 1)
  push_next {then} {r} on room pushed made = record {
    rest = rw (pushed, made, append_assoc) (rw on at next);
    few = omega (arith, ap length pushed, length-append items (r ∷ []));
  }

  pub pass_next : is_listed time until s ≡ false → ArePushed ss time until old items (i + 1)
  pass_next off = record { rest = rw off at next; few = are.few }

  -- one more than there may be
  pub too_many : is_listed time until s ≡ true → length items ≡ 10000
      → refuse_if (nat_lt 10000 (length (old ++ releases_at ss time until))) fault.TooMany
      ≡ Some fault.TooMany
  too_many on full =
      let more = rw on at next in
      let long = length-append items (release_of time s ∷ releases_at (drop (i + 1) ss) time until)
      in
      rw (lt-ltb 10000 (length (old ++ releases_at ss time until))
      (omega (arith, ap length more, long))) refl

-- ---- from one time to the next
-- those before a time stand in a list
pub record AreListed (ss : List Stream) (until time : ℕ) (items : List Release) : Type 0 where
  pub within : time ≤ until
  pub are : items ≡ releases_before ss time until
  pub few : length items ≤ 10000

pub listed_first : {ss : List Stream} {until : ℕ} {items : List Release} → items ≡ []
    → AreListed ss until 0 items
unfolding releases_before
listed_first none = record { within = omega arith; are = none; few = omega (arith, ap length none) }

-- over times at which there is none
leap : (ss : List Stream) (time next until : ℕ) → time < next
    → ((t : ℕ) → time < t → t < next → releases_at ss t until ≡ [])
    → releases_before ss next until ≡ releases_before ss time until ++ releases_at ss time until
unfolding releases_before
leap ss time zero until less h = absurd (omega arith)
leap ss time (suc next) until less h = elim (cases_eq time next) [
  | inl same ↦ rw same
  | inr other ↦ rw (h next (omega arith) (omega arith), append-nil)
      (leap ss time next until (omega arith) (λ t a b. h t a (omega arith)))
]

module _ {ss : List Stream} {until time : ℕ} {items : List Release}
    (are : AreListed ss until time items) where
  pub listed_next : {next : ℕ} {then : List Release} → then ≡ items ++ releases_at ss time until
      → length then ≤ 10000 → time < next → next ≤ until
      → ((t : ℕ) → time < t → t < next → releases_at ss t until ≡ [])
      → AreListed ss until next then
  listed_next {next} pushed few later within none = record {
    within = within;
    are = rw (pushed, are.are, leap ss time next until later none);
    few = few;
  }

  -- too many before some time are too many
  pub listed_refused : (e : RunFault) → time < until
      → IsRefusal e
      (refuse_if (nat_lt 10000 (length (items ++ releases_at ss time until))) fault.TooMany)
      → IsRefusal e (count_refusal ss until)
  unfolding releases_before
  listed_refused e less h =
      refusal_grows e (length (items ++ releases_at ss time until)) (length (list_of ss until))
      (rw are.are (longer (λ n. releases_before ss n until) (λ n. releases_at ss n until)
      (λ n. refl) (suc time) until (omega arith))) h
