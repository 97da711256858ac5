-- The part of a task in an order that passes, and the least one.
use Rattle.std.proofs.Common.{◌≡◌, ◌≢◌, ℕ, ◌+◌, ◌-◌, ◌<◌, ◌≤◌, inl, inr, Bool, true, false, ◌==◌, nat_lt}
use Rattle.std.proofs.Common.{List, [], ◌∷◌, length, cond, Option, Some, None, unwrap_or, refl, sym}
use Rattle.std.proofs.Common.{◌∙◌, ap, subst, arith}
use Rattle.std.proofs.lemmas.Bool.{cases_Bool, cases_eq, cases_order, both_ways, eq-eqb, ne_eqb}
use Rattle.std.proofs.lemmas.Bool.{lt-ltb, le-ltb, ltb-true, cases_lt, false_from_ne_true}
use Rattle.task_sheet.proofs.Common.{Task, AllTasks, IsFeasible, task_at, Indexes, IsPart, among}
use Rattle.task_sheet.proofs.Common.{all_of, IsTaskSet, IsResponseOf}
use Rattle.task_sheet.proofs.Common.{AllStand, IsPassingOrder, demand_of, past_jitter}
use Rattle.task_sheet.proofs.IndexLaws.{IsOrderOf-among}
use Rattle.task_sheet.proofs.TaskLaws.{AllTasks-from_set}
use Rattle.task_sheet.proofs.PassingLaws.{IsResponseOf-one, Passes-iff_response}
use Rattle.task_sheet.proofs.DemandLaws.{demand_does_not_fall}
use Rattle.task_sheet.proofs.ResponseLaws.{Covers-iff_response, IsResponse-one}
use Rattle.task_sheet.proofs.Exchange.{demand-part}
use Rattle.ceiling_kernel.specs.Bounds.{after_of}
use Rattle.ceiling_kernel.proofs.Common.{Node, level_in_order, node_in, above_of, IsNode, lateness_of}
use Rattle.ceiling_kernel.proofs.NodeLaws.{after_is_above, level_past, sound, stands_above, times-order}
use Rattle.chains.specs.Handovers.{RespondsBy}
use Rattle.chains.specs.Parts.{order_of, response_in, time_in}
use Rattle.chains.specs.declared.bounds.Level.{Level}
use Rattle.chains.specs.declared.bounds.BoundPart.{BoundPart}
use Rattle.chains.specs.declared.bounds.PartKind.TheVariants.{Jitter, Handover}
use Rattle.chains.specs.declared.bounds.Writes.TheVariants.{AtFinish, AtDeadline}
use Rattle.chains.proofs.CountLaws.{count_law}
use Rattle.least_chains.specs.LeastAbove.{IsLeastAbove}
use Rattle.least_chains.specs.LeastBound.{HaveResponses, ArePassing, HasResponse, IsLeastPart, least_time, part_in}

-- ---- responses
-- the response of a level's task, where it stands
has_some : (U : List Task) (i : ℕ) (H : Indexes) (o : Option ℕ) → HasResponse U i H o
    → (r : ℕ) × (o ≡ Some r) × IsResponseOf U i H r
has_some U i H None is = absurd is
has_some U i H (Some r) is = (r, refl, is)

-- a task of the levels has its response with those above it
respond-at : (U : List Task) (levels : List Level) (i : ℕ) → HaveResponses U levels
    → among (order_of levels) i ≡ true
    → (r : ℕ) × (response_in levels i ≡ Some r)
    × IsResponseOf U i (among (after_of (order_of levels) i)) r
respond-at U [] i all is = absurd (both_ways false refl is)
respond-at U (l ∷ levels) i all is = elim (cases_eq l.task i) [
  | inl own ↦
      let here = has_some U l.task (among (order_of levels)) l.response all.0 in
      let so = eq-eqb l.task i own in
      (here.0, rw so here.1, rw so (subst (λ k. IsResponseOf U k (among (order_of levels)) here.0) own here.2))
  | inr ne ↦
      let so = ne_eqb l.task i ne in
      let later = respond-at U levels i all.1 (rw so at is) in
      (later.0, rw so later.1, rw so later.2)
]

-- another one has none
pub none-at : (levels : List Level) (i : ℕ) → among (order_of levels) i ≡ false
    → response_in levels i ≡ None
none-at [] i out = refl
none-at (l ∷ levels) i out = elim (cases_eq l.task i) [
  | inl own ↦ absurd (both_ways _ (rw (eq-eqb l.task i own) at out) refl)
  | inr ne ↦ (let so = ne_eqb l.task i ne in rw so (none-at levels i (rw so at out)))
]

module _ (U : List Task) (set : IsTaskSet U) where
  valid : AllTasks U
  valid = AllTasks-from_set U set

  -- ---- each order that passes has its levels
  levels-of : (order : List ℕ) → IsPart (among order) (all_of U) → AllStand U order
      → (levels : List Level) × (order_of levels ≡ order) × HaveResponses U levels
  levels-of [] part all = ([], refl, tt)
  levels-of (i ∷ above) part all =
      let own = eq-eqb i i refl in
      let within = ltb-true i (length U) (part i (rw own refl)) in
      let (levels, same, each) = levels-of above
      (λ k h. part k (elim (cases_Bool (i == k)) [ inl t ↦ rw t refl | inr f ↦ rw f h ])) all.1 in
      let (r, is, in_time) = (Passes-iff_response U valid i (among above) within).0 all.0.0 in (
        record { task = i; response = Some r } ∷ levels,
        ap (λ xs. i ∷ xs) same,
        (subst (λ xs. IsResponseOf U i (among xs) r) (sym same) is, each),
      )

  pub passing-levels : (order : List ℕ) → IsPassingOrder U order
      → (levels : List Level) × (order_of levels ≡ order) × ArePassing U levels
  passing-levels order passing =
      let named = IsOrderOf-among (all_of U) order passing.each_once in
      let (levels, same, each) = levels-of order (λ k h. ap (λ (X : Indexes). X k) (sym named) ∙ h)
      passing.each_stands in
      (levels, same, record { order = subst (λ xs. IsPassingOrder U xs) (sym same) passing; each = each })

  -- more tasks above make no response less
  response-part : (i : ℕ) (H G : Indexes) (r s : ℕ) → i < length U → IsPart H G → IsResponseOf U i H r
      → IsResponseOf U i G s → r ≤ s
  response-part i H G r s within part first second =
      let t = past_jitter (task_at U i) s in
      let covered : demand_of U i H t ≤ t =
      omega (arith, demand-part U valid i H G part t second.positive, second.fixed) in
      let (u, is, le) = (Covers-iff_response (demand_of U i H) (demand_does_not_fall U valid i H within) t).0
      (t, second.positive, omega arith, covered) in
      omega (
        arith,
        IsResponse-one (demand_of U i H) (past_jitter (task_at U i) r) u first is,
        first.positive,
        second.positive,
      )

  -- ---- in an order that passes
  module _ (levels : List Level) (are : ArePassing U levels) where
    abbrev node : Node
    node = node_in U (order_of levels)

    abbrev above : ℕ → Indexes
    above i = among (after_of (order_of levels) i)

    abbrev handed_by : ℕ → ℕ → Bool → BoundPart
    handed_by i c b = cond b (record { kind = Jitter; task = i; time = lateness_of (task_at U i) })
        (record { kind = Handover c; task = i; time = time_in levels i - (task_at U c).cost })

    is_node : IsNode node
    is_node = record { tasks = set; order = are.order.each_once }

    -- the response of a task of the set
    pub own-response : (i : ℕ) → i < length U → IsResponseOf U i (above i) (time_in levels i)
    own-response i within =
        let named : among (order_of levels) i ≡ true =
        ap (λ (X : Indexes). X i) (IsOrderOf-among (all_of U) (order_of levels) are.order.each_once)
        ∙ lt-ltb i (length U) within in
        let (r, is, response) = respond-at U levels i are.each named in
        rw is response

    -- a task that isn't of the set has no level
    no-level : (c : ℕ) → length U ≤ c → level_in_order node c ≡ 0
    no-level c past =
        let out : nat_lt c (length U) ≡ false = le-ltb c (length U) past in
        level_past 1 (order_of levels) c (times-order node is_node c ∙ ap (λ b. cond b 1 0) out)

    higher : (i c : ℕ) → i < length U → above i c ≡ true
        → level_in_order node i < level_in_order node c
    higher i c within is = ltb-true (level_in_order node i) (level_in_order node c)
        (sym (after_is_above node is_node i c within) ∙ is)

    lower : (i c : ℕ) → i < length U → c ≢ i → above i c ≡ false
        → level_in_order node c < level_in_order node i
    lower i c within ne is = elim (cases_lt c (length U)) [
      | inl within' ↦ elim (cases_order (level_in_order node c) (level_in_order node i)) [
        | inl same ↦ absurd (ne ((sound node is_node).levels_differ c i within' within same))
        | inr (inl lt) ↦ lt
        | inr (inr gt) ↦ absurd (both_ways _ (sym (after_is_above node is_node i c within) ∙ is)
            (lt-ltb (level_in_order node i) (level_in_order node c) gt))
      ]
      | inr past ↦ omega (
        arith,
        no-level c past,
        ((sound node is_node).each i within).level_from_one,
      )
    ]

    -- a response counts the cost of each task above
    pub counts-cost : (i c : ℕ) → i < length U → above i c ≡ true
        → (task_at U i).jitter + (task_at U c).cost ≤ time_in levels i
    counts-cost i c within is =
        let up = higher i c within is in
        let within' : c < length U = elim (cases_lt c (length U)) [
          | inl lt ↦ lt
          | inr past ↦ absurd (omega (arith, no-level c past, up))
        ] in
        let same : above i ≡ above_of node i = λ x h. after_is_above node is_node i h within x in
        let s = time_in levels i in
        let response : IsResponseOf U i (above_of node i) s =
        subst (λ X. IsResponseOf U i X s) same (own-response i within) in
        let stands = stands_above node is_node are.order.each_stands i within in
        let (r, is_r, in_time) = (Passes-iff_response U valid i (above_of node i) within).0 stands.0 in
        let one = IsResponseOf-one U i (above_of node i) r s is_r response in
        let responds : RespondsBy node i s = record {
          time = past_jitter (task_at U i) s;
          passes = record {
            from_one = response.positive;
            in_time = omega (arith, one, in_time);
            enough = omega (arith, response.fixed);
          };
          response = omega (arith, response.positive);
        } in
        omega (arith, count_law node is_node i c s within' responds up)

    -- what is handed over, by which of both stands higher
    handed : (i c : ℕ) (others : List ℕ) (b : Bool)
        → nat_lt (level_in_order node c) (level_in_order node i) ≡ b
        → part_in AtFinish U levels i (c ∷ others)
        ≡ cond b (task_at U i).jitter (time_in levels i - (task_at U c).cost)
    handed i c others true is = ap (λ b. (handed_by i c b).time) is
    handed i c others false is = ap (λ b. (handed_by i c b).time) is

    -- the part of a task, by who stands above it
    pub part-is : (i : ℕ) → i < length U → (others : List ℕ)
        → part_in AtFinish U levels i others ≡ least_time U i (above i) (time_in levels i) others
    part-is i within [] = refl
    part-is i within (c ∷ others) = elim (cases_eq c i) [
      | inl own ↦
          let so = eq-eqb c i own in
          let not_below = le-ltb (level_in_order node c) (level_in_order node i)
          (omega (arith, ap (level_in_order node) own)) in
          handed i c others false not_below ∙ rw so refl
      | inr ne ↦
          let so = ne_eqb c i ne in
          elim (cases_Bool (above i c)) [
            | inl is ↦
                let not_below = le-ltb (level_in_order node c) (level_in_order node i)
                (omega (arith, higher i c within is)) in
                handed i c others false not_below ∙ rw (so, is) refl
            | inr out ↦
                let under = lt-ltb (level_in_order node c) (level_in_order node i)
                (lower i c within ne out) in
                handed i c others true under ∙ rw (so, out) refl
          ]
    ]

    -- it is no less than the least one, by who stands above it in each order
    part-from : (i : ℕ) (H : Indexes) (r : ℕ) → i < length U → IsPart H (above i) → IsResponseOf U i H r
        → (others : List ℕ) → least_time U i H r others ≤ part_in AtFinish U levels i others
    part-from i H r within part first others = subst (λ m. least_time U i H r others ≤ m)
        (sym (part-is i within others)) (by others)
      where
        longer : r ≤ time_in levels i
        longer = response-part i H (above i) r (time_in levels i) within part first (own-response i within)

        by : (others : List ℕ)
            → least_time U i H r others ≤ least_time U i (above i) (time_in levels i) others
        by [] = longer
        by (c ∷ others) = elim (cases_Bool (c == i)) [
          | inl own ↦ rw own (omega (arith, longer))
          | inr ne ↦ elim (cases_Bool (above i c)) [
            | inl is ↦ elim (cases_Bool (H c)) [
              | inl too ↦ rw (ne, is, too) (omega (arith, longer))
              | inr not ↦ rw (ne, is, not) (omega (arith, counts-cost i c within is))
            ]
            | inr out ↦
                let not : H c ≡ false = false_from_ne_true _ (λ h. both_ways _ out (part c h)) in
                rw (ne, out, not) (omega arith)
          ]
        ]

    -- a task that isn't of the set adds nothing
    pub strange-part : (i : ℕ) (others : List ℕ) → length U ≤ i → part_in AtFinish U levels i others ≡ 0
    strange-part i others past =
        let named : among (order_of levels) i ≡ false =
        ap (λ (X : Indexes). X i) (IsOrderOf-among (all_of U) (order_of levels) are.order.each_once)
        ∙ le-ltb i (length U) past in
        let none : time_in levels i ≡ 0 = ap (λ o. unwrap_or o 0) (none-at levels i named) in
        by none others
      where
        by : time_in levels i ≡ 0 → (others : List ℕ) → part_in AtFinish U levels i others ≡ 0
        by none [] = none
        by none (c ∷ others) =
            let not_below = le-ltb (level_in_order node c) (level_in_order node i)
            (omega (arith, no-level i past)) in
            handed i c others false not_below ∙ omega (arith, none)

  -- ---- the least part
  pub least-part : (i : ℕ) (H : Indexes) (r : ℕ) → i < length U → IsLeastAbove U i H
      → IsResponseOf U i H r → (others : List ℕ)
      → IsLeastPart AtFinish U i others (least_time U i H r others)
  least-part i H r within is first others =
      let (order, passing, same) = is.reached in
      let (levels, ordered, are) = passing-levels order passing in
      let exactly : among (after_of (order_of levels) i) ≡ H =
      ap (λ xs. among (after_of xs i)) ordered ∙ same in
      let response = subst (λ X. IsResponseOf U i X (time_in levels i)) exactly
      (own-response levels are i within) in
      let one = IsResponseOf-one U i H (time_in levels i) r response first in
      record {
        reached = (
          levels,
          are,
          part-is levels are i within others
              ∙ (ap (λ X. least_time U i X (time_in levels i) others) exactly
              ∙ ap (λ m. least_time U i H m others) one),
        );
        least = λ levels are. part-from levels are i H r within
            (is.always (order_of levels) are.order) first others;
      }

  pub strange-least : (i : ℕ) (others : List ℕ) → length U ≤ i → IsFeasible U
      → IsLeastPart AtFinish U i others 0
  strange-least i others past (order, passing) =
      let (levels, ordered, are) = passing-levels order passing in
      record {
        reached = (levels, are, strange-part levels are i others past);
        least = λ levels are. omega arith;
      }

  -- a task that writes at its deadline does so in each order
  pub deadline-least : (i : ℕ) (others : List ℕ) → IsFeasible U
      → IsLeastPart AtDeadline U i others (task_at U i).deadline
  deadline-least i others (order, passing) =
      let (levels, ordered, are) = passing-levels order passing in
      record { reached = (levels, are, refl); least = λ levels are. omega arith }
