-- Which values a number of a valid sheet may have.
use Rattle.std.proofs.Common.{◌≡◌, ℕ, zero, suc, ◌+◌, ◌-◌, ◌<◌, ◌≤◌, max, min, List, [], ◌∷◌}
use Rattle.std.proofs.Common.{length, get_or, refl, ◌∙◌, ap, subst, arith}
use Rattle.std.proofs.lemmas.List.{get_or_read}
use Rattle.task_sheet.specs.Sheet.{CriticalSection, Task, AreSections, IsValidSheet}
use Rattle.other_numbers.specs.Costs.{with_cost, last_end}
use Rattle.other_numbers.proofs.CostLaws.{last_end-within, may_cost}
use Rattle.limits.specs.declared.number.Number.{Number}
use Rattle.limits.specs.declared.number.Number.TheVariants.{Cost, Period, Deadline, Jitter, Len}
use Rattle.limits.specs.declared.number.Number.TheVariants.{InterruptCost, InterruptPeriod}
use Rattle.limits.specs.Numbers.{no_section, section_at, moved, with_len, with_number, IsSpan}
use Rattle.limits.specs.Numbers.{at_distance}
use Rattle.limits.specs.Numbers.{distance}
use Rattle.limits.specs.Rooms.{room_end, end_of, most_len}

pub IsSpan-cost : (t : Task) (easiest length : ℕ) → IsValidSheet t → easiest ≡ max (last_end t) 1
    → length ≡ t.period - easiest → IsSpan t Cost easiest length
IsSpan-cost t easiest length valid from to =
    let within = last_end-within t valid in
    record {
      may = λ far le. may_cost t (easiest + far) valid (omega (arith, from))
          (omega (arith, le, from, to, within, valid.cost_to, valid.cost_from))
          (omega (arith, from));
      all = λ value may. let end = last_end-within (with_cost t value) may in (
        value - easiest,
        omega (arith, from, to, may.cost_to),
        omega (arith, from, end, may.cost_from),
      );
      rises = λ near far le. omega (arith, le);
    }

-- a sheet stays valid with another period, deadline and jitter within their limits
valid-timed : (t : Task) (period deadline jitter : ℕ) → IsValidSheet t → 1000 ≤ period
    → period ≤ 10000000 → deadline ≤ period → t.cost ≤ period → jitter < deadline
    → IsValidSheet (record t { period = period; deadline = deadline; jitter = jitter })
valid-timed t period deadline jitter valid from to within room late = record {
  named = valid.named;
  weight = valid.weight;
  period_from = from;
  period_to = to;
  deadline_from = omega (arith, late);
  deadline_to = within;
  cost_from = valid.cost_from;
  cost_to = room;
  few = valid.few;
  sections = valid.sections;
  jitter = late;
  outranked = valid.outranked;
  overheads = valid.overheads;
  interrupts = valid.interrupts;
}

pub IsSpan-period : (t : Task) (least length : ℕ) → IsValidSheet t → least ≡ max
    (max t.cost (t.jitter + 1)) 1000 → length ≡ 10000000 - least → IsSpan t Period 10000000 length
IsSpan-period t least length valid from to =
    let fits : least ≤ 10000000 =
    omega (arith, from, valid.cost_to, valid.jitter, valid.deadline_to, valid.period_to) in
    record {
      may = λ far le. valid-timed t (10000000 - far) (min t.deadline (10000000 - far)) t.jitter
          valid
          (omega (arith, le, from, to, fits)) (omega arith) (omega arith)
          (omega (arith, le, from, to, fits))
          (omega (arith, le, from, to, fits, valid.jitter));
      all = λ value may. (
        10000000 - value,
        omega (
          arith,
          from,
          to,
          may.cost_to,
          may.jitter,
          may.period_from,
        ),
        omega (arith, may.period_to),
      );
      rises = λ near far le. omega (arith, le);
    }

pub IsSpan-deadline : (t : Task) (length : ℕ) → IsValidSheet t → length ≡ 10000000 - (t.jitter + 1)
    → IsSpan t Deadline 10000000 length
IsSpan-deadline t length valid to =
    let fits : t.jitter + 1 ≤ 10000000 =
    omega (arith, valid.jitter, valid.deadline_to, valid.period_to) in
    record {
      may = λ far le. valid-timed t (max t.period (10000000 - far)) (10000000 - far) t.jitter valid
          (omega (arith, valid.period_from)) (omega (arith, valid.period_to)) (omega arith)
          (omega (arith, valid.cost_to)) (omega (arith, le, to, fits));
      all = λ value may.
          (10000000 - value, omega (arith, to, may.jitter), omega (arith, may.period_to));
      rises = λ near far le. omega (arith, le);
    }

pub IsSpan-jitter : (t : Task) (length : ℕ) → IsValidSheet t → length ≡ t.deadline - 1
    → IsSpan t Jitter 0 length
IsSpan-jitter t length valid to = record {
  may = λ far le. valid-timed t t.period t.deadline (0 + far) valid valid.period_from
      valid.period_to valid.deadline_to valid.cost_to (omega (arith, le, to, valid.deadline_from));
  all = λ value may. (value, omega (arith, to, may.jitter), omega arith);
  rises = λ near far le. omega (arith, le);
}

-- ---- sections
-- behind a section so many others have their ends one after the other, within the cost
ends-rise : (y : CriticalSection) (from cost : ℕ) (xs : List CriticalSection) (along : ℕ)
    → along ≤ length xs → AreSections from cost (y ∷ xs)
    → (y.at + y.len ≤ end_of (y ∷ xs) along)
    × (end_of (y ∷ xs) along ≤ room_end cost (y ∷ xs) along)
    × (room_end cost (y ∷ xs) along ≤ cost)
ends-rise y from cost [] zero le h = (omega arith, h.0.within, omega arith)
ends-rise y from cost [] (suc along) le h = absurd (omega (arith, le))
ends-rise y from cost (x ∷ xs) zero le h =
    (omega arith, h.1.0.apart, omega (arith, h.1.0.within))
ends-rise y from cost (x ∷ xs) (suc along) le h =
    let more = ends-rise x (y.at + y.len) cost xs along (omega (arith, le)) h.1 in
    (omega (arith, more.0, h.1.0.apart), more.1, more.2)

-- so many sections behind one that ends as much later stand with the others, where the last of them has room
moved-stand : (y : CriticalSection) (cost : ℕ) (xs : List CriticalSection) (along more less : ℕ)
    → along ≤ length xs → AreSections (y.at + y.len) cost xs → less ≤ y.at + y.len
    → end_of (y ∷ xs) along + more ≤ room_end cost (y ∷ xs) along + less
    → AreSections (y.at + y.len + more - less) cost (moved along more less xs)
moved-stand y cost [] zero more less few h short fits = tt
moved-stand y cost [] (suc along) more less few h short fits = tt
moved-stand y cost (x ∷ xs) zero more less few h short fits = (
  record {
    named = h.0.named;
    some = h.0.some;
    few = h.0.few;
    distinct = h.0.distinct;
    runs = h.0.runs;
    apart = omega (arith, fits, short);
    within = h.0.within;
  },
  h.1,
)
moved-stand y cost (x ∷ xs) (suc along) more less few h short fits =
    let rise = ends-rise x (y.at + y.len) cost xs along (omega (arith, few)) h in
    let here : x.at + x.len + more - less ≡ x.at + more - less + x.len =
    omega (arith, h.0.apart, short) in (
      record {
        named = h.0.named;
        some = h.0.some;
        few = h.0.few;
        distinct = h.0.distinct;
        runs = h.0.runs;
        apart = omega (arith, h.0.apart);
        within = omega (arith, fits, rise.0, rise.2, h.0.apart, short);
      },
      subst (λ from. AreSections from cost (moved along more less xs)) here
          (moved-stand x cost xs along more less (omega (arith, few)) h.1
          (omega (arith, h.0.apart, short)) fits),
    )

-- and no others
moved-room : (y : CriticalSection) (cost : ℕ) (xs : List CriticalSection) (along more less : ℕ)
    → along ≤ length xs → AreSections (y.at + y.len) cost xs → less ≤ y.at + y.len
    → y.at + y.len + more ≤ cost + less
    → AreSections (y.at + y.len + more - less) cost (moved along more less xs)
    → end_of (y ∷ xs) along + more ≤ room_end cost (y ∷ xs) along + less
moved-room y cost [] zero more less few h short within stand = within
moved-room y cost [] (suc along) more less few h short within stand = absurd (omega (arith, few))
moved-room y cost (x ∷ xs) zero more less few h short within stand =
    omega (arith, stand.0.apart)
moved-room y cost (x ∷ xs) (suc along) more less few h short within stand =
    let here : x.at + more - less + x.len ≡ x.at + x.len + more - less =
    omega (arith, h.0.apart, short) in
    moved-room x cost xs along more less (omega (arith, few)) h.1 (omega (arith, h.0.apart, short))
    (omega (arith, stand.0.within, h.0.apart, short))
    (subst (λ from. AreSections from cost (moved along more less xs)) here stand.1)

-- a section of a length above 0 up to its greatest stands with the others
sections-len : (from cost : ℕ) (xs : List CriticalSection) (k along len : ℕ) → k + along < length xs
    → AreSections from cost xs → 0 < len → len ≤ most_len cost xs k along
    → AreSections from cost (with_len xs k along len)
sections-len from cost [] k along len lt h some fits = absurd (omega (arith, lt))
sections-len from cost (x ∷ xs) zero along len lt h some fits =
    let rise = ends-rise x from cost xs along (omega (arith, lt)) h in
    let here : x.at + x.len + len - x.len ≡ x.at + len = omega arith in (
      record {
        named = h.0.named;
        some = h.0.some;
        few = h.0.few;
        distinct = h.0.distinct;
        runs = some;
        apart = h.0.apart;
        within = omega (arith, fits, rise.0, rise.1, rise.2);
      },
      subst (λ from. AreSections from cost (moved along len x.len xs)) here
          (moved-stand x cost xs along len x.len (omega (arith, lt)) h.1 (omega arith)
          (omega (arith, fits, rise.1))),
    )
sections-len from cost (x ∷ xs) (suc k) along len lt h some fits =
    (h.0, sections-len (x.at + x.len) cost xs k along len (omega (arith, lt)) h.1 some fits)

-- and no other
pub sections-room : (from cost : ℕ) (xs : List CriticalSection) (k along len : ℕ)
    → k + along < length xs → AreSections from cost xs
    → AreSections from cost (with_len xs k along len)
    → (0 < len) × (len ≤ most_len cost xs k along)
sections-room from cost [] k along len lt h stand = absurd (omega (arith, lt))
sections-room from cost (x ∷ xs) zero along len lt h stand =
    let here : x.at + len ≡ x.at + x.len + len - x.len = omega arith in
    let room = moved-room x cost xs along len x.len (omega (arith, lt)) h.1 (omega arith)
    (omega (arith, stand.0.within))
    (subst (λ from. AreSections from cost (moved along len x.len xs)) here stand.1) in
    (stand.0.runs, omega (arith, room))
sections-room from cost (x ∷ xs) (suc k) along len lt h stand =
    sections-room (x.at + x.len) cost xs k along len (omega (arith, lt)) h.1 stand.1

-- the greatest length is its own or more, and what there is more of it is within the cost
pub most_len-own : (from cost : ℕ) (xs : List CriticalSection) (k along : ℕ) → k + along < length xs
    → AreSections from cost xs
    → ((section_at xs k).len ≤ most_len cost xs k along) × (0 < (section_at xs k).len)
    × (most_len cost xs k along ≤ cost)
most_len-own from cost [] k along lt h = absurd (omega (arith, lt))
most_len-own from cost (x ∷ xs) zero along lt h =
    let rise = ends-rise x from cost xs along (omega (arith, lt)) h in
    (omega arith, h.0.runs, omega (arith, rise.0, rise.1, rise.2))
most_len-own from cost (x ∷ xs) (suc k) along lt h =
    most_len-own (x.at + x.len) cost xs k along (omega (arith, lt)) h.1

-- it is made of the section, the last that moves along, and where that may reach
pub most_len-is : (cost : ℕ) (xs : List CriticalSection) (k along : ℕ) → k + along < length xs
    → most_len cost xs k along
    ≡ (section_at xs k).len + (room_end cost xs (k + along) - end_of xs (k + along))
most_len-is cost [] k along lt = absurd (omega (arith, lt))
most_len-is cost (x ∷ xs) zero along lt =
    let here : along ≡ 0 + along = omega arith in
    ap (λ m. x.len + (room_end cost (x ∷ xs) m - end_of (x ∷ xs) m)) here
most_len-is cost (x ∷ xs) (suc k) along lt =
    let here : suc (k + along) ≡ suc k + along = omega arith in
    most_len-is cost xs k along (omega (arith, lt))
    ∙ ap (λ m. (section_at xs k).len + (room_end cost (x ∷ xs) m - end_of (x ∷ xs) m)) here

-- a section ends where it may
pub end-room : (from cost : ℕ) (xs : List CriticalSection) (k : ℕ) → k < length xs
    → AreSections from cost xs → (end_of xs k ≤ room_end cost xs k) × (room_end cost xs k ≤ cost)
end-room from cost [] k lt h = absurd (omega (arith, lt))
end-room from cost (x ∷ xs) zero lt h =
    let rise = ends-rise x from cost xs 0 (omega arith) h in (rise.1, rise.2)
end-room from cost (x ∷ xs) (suc k) lt h =
    end-room (x.at + x.len) cost xs k (omega (arith, lt)) h.1

length-moved : (along more less : ℕ) (xs : List CriticalSection)
    → length (moved along more less xs) ≡ length xs
length-moved zero more less xs = refl
length-moved (suc along) more less [] = refl
length-moved (suc along) more less (x ∷ xs) =
    omega (arith, length-moved along more less xs)

length-len : (xs : List CriticalSection) (k along len : ℕ)
    → length (with_len xs k along len) ≡ length xs
length-len [] k along len = refl
length-len (x ∷ xs) zero along len = omega (arith, length-moved along len x.len xs)
length-len (x ∷ xs) (suc k) along len = omega (arith, length-len xs k along len)

pub IsSpan-len : (t : Task) (k along long : ℕ) → IsValidSheet t → k + along < length t.sections
    → long ≡ most_len t.cost t.sections k along - 1 → IsSpan t (Len k along) 1 long
IsSpan-len t k along long valid inside to =
    let own = most_len-own 0 t.cost t.sections k along inside valid.sections in
    record {
      may = λ far le. record {
        named = valid.named;
        weight = valid.weight;
        period_from = valid.period_from;
        period_to = valid.period_to;
        deadline_from = valid.deadline_from;
        deadline_to = valid.deadline_to;
        cost_from = valid.cost_from;
        cost_to = valid.cost_to;
        few = omega (arith, valid.few, length-len t.sections k along (1 + far));
        sections = sections-len 0 t.cost t.sections k along (1 + far) inside valid.sections
            (omega arith) (omega (arith, le, to, own.0, own.1));
        jitter = valid.jitter;
        outranked = valid.outranked;
        overheads = valid.overheads;
        interrupts = valid.interrupts;
      };
      all = λ value may.
          let room = sections-room 0 t.cost t.sections k along value inside valid.sections may.sections in
          (value - 1, omega (arith, to, room.0, room.1), omega (arith, room.0));
      rises = λ near far le. omega (arith, le);
    }

-- where the section after one begins
pub begin_of-room : (cost : ℕ) (xs : List CriticalSection) (k : ℕ) → suc k < length xs
    → room_end cost xs k ≡ (section_at xs (suc k)).at
begin_of-room cost [] k lt = absurd (omega (arith, lt))
begin_of-room cost (x ∷ []) k lt = absurd (omega (arith, lt))
begin_of-room cost (x ∷ (y ∷ ys)) zero lt = refl
begin_of-room cost (x ∷ (y ∷ ys)) (suc k) lt = begin_of-room cost (y ∷ ys) k (omega (arith, lt))

pub cost-room : (cost : ℕ) (xs : List CriticalSection) (k : ℕ) → length xs ≤ suc k
    → room_end cost xs k ≡ cost
cost-room cost [] k le = refl
cost-room cost (x ∷ []) zero le = refl
cost-room cost (x ∷ (y ∷ ys)) zero le = absurd (omega (arith, le))
cost-room cost (x ∷ []) (suc k) le = refl
cost-room cost (x ∷ (y ∷ ys)) (suc k) le = cost-room cost (y ∷ ys) k (omega (arith, le))

pub at-start : (number : Number) (easiest : ℕ) → at_distance number easiest 0 ≡ easiest
at-start Cost easiest = omega arith
at-start Period easiest = omega arith
at-start Deadline easiest = omega arith
at-start Jitter easiest = omega arith
at-start (Len k along) easiest = omega arith
at-start (InterruptCost k) easiest = omega arith
at-start (InterruptPeriod k) easiest = omega arith

-- a section that is read from a sheet's sections
pub section_read : (xs ys : List CriticalSection) (k : ℕ) (x : CriticalSection) → ys ≡ xs
    → k < length xs → x ≡ get_or ys k x → x ≡ section_at xs k
section_read xs ys k x same lt is =
    get_or_read xs k x lt (is ∙ ap (λ zs. get_or zs k x) same) no_section

-- ---- distances
far-back : (number : Number) (easiest far : ℕ)
    → (distance number easiest (at_distance number easiest far) ≤ far) × (at_distance number easiest
    (distance number easiest (at_distance number easiest far)) ≡ at_distance number easiest far)
far-back Cost easiest far = (omega arith, omega arith)
far-back Period easiest far = (omega arith, omega arith)
far-back Deadline easiest far = (omega arith, omega arith)
far-back Jitter easiest far = (omega arith, omega arith)
far-back (Len k along) easiest far = (omega arith, omega arith)
far-back (InterruptCost k) easiest far = (omega arith, omega arith)
far-back (InterruptPeriod k) easiest far = (omega arith, omega arith)

-- a value that the sheet may have stands within the span, at its distance
pub far-known : (t : Task) (number : Number) (easiest length value : ℕ)
    → IsSpan t number easiest length → IsValidSheet (with_number number t value)
    → (distance number easiest value ≤ length)
    × (at_distance number easiest (distance number easiest value) ≡ value)
far-known t number easiest length value span may =
    let there = span.all value may in
    let back = far-back number easiest there.0 in (
      rw there.2 (omega (arith, there.1, back.0)),
      rw there.2 back.1,
    )
