-- Each event of a run keeps the lists.
use Rattle.std.proofs.Common.{ℕ, ◌<◌, ◌≤◌, ◌≡◌, ◌≢◌, ◌⊎◌, ◌==◌, inl, inr, sym, ap, ◌∙◌, subst}
use Rattle.std.proofs.Common.{arith, List, [], ◌∷◌, ◌++◌, length, drop, set, replicate, false}
use Rattle.std.proofs.Common.{Option, Some, None, slice_index_or, get_or-set_same}
use Rattle.std.proofs.Common.{get_or-set_other, length-set}
use Rattle.std.proofs.lemmas.Option.{none-some, same_Some}
use Rattle.std.proofs.lemmas.Bool.{cases_eq, cases_lt, eq-eqb, ne_eqb, lt-ltb, le-ltb}
use Rattle.std.proofs.lemmas.List.{get_or_past}
use Rattle.ceiling_kernel.specs.declared.trace.Release.{Release}
use Rattle.ceiling_kernel.specs.declared.run.Pending.{Pending}
use Rattle.ceiling_kernel.specs.declared.run.Simulation.{Simulation}
use Rattle.ceiling_kernel.proofs.Common.{Node, level_in_order, jobs_of, has_come, best_slot}
use Rattle.ceiling_kernel.proofs.Common.{IsRunnable, IsRunning, listed, list_at, Queues}
use Rattle.ceiling_kernel.specs.States.{IsPending}
use Rattle.ceiling_kernel.specs.Lists.{with_tail, without_head}
use Rattle.ceiling_kernel.specs.Lists.{moved_to, StandsAt, IsAlone}
use Rattle.ceiling_kernel.proofs.PriorityLaws.{level_within}
use Rattle.ceiling_kernel.proofs.ListsLaws.{head_is_tail, listed_length}
use Rattle.ceiling_kernel.proofs.ReleaseLaws.{replicated}
use Rattle.ceiling_kernel.proofs.QueueLaws.{head_leaves, tail_joins, place_stays, pending_same}
use Rattle.ceiling_kernel.proofs.QueueLaws.{stands_empty, empty_from, head_of}
use Rattle.ceiling_kernel.proofs.KeptLaws.{written, is_sound, is_best, slot, is_p, task_in}
use Rattle.ceiling_kernel.proofs.KeptLaws.{task_in_slots}

pub alone_start : (n : ℕ) → IsAlone (λ i. slice_index_or (replicate n None) i None)
alone_start n i k q r at_i at_k ne above e =
    none-some q (sym (replicated {X = Option Pending} n i None) ∙ at_i)

pub queues_start : (n m : ℕ)
    → Queues (λ i. slice_index_or (replicate n None) i None) (list_at (replicate m []))
queues_start n m = record {
  sound = λ p k i st. absurd (stands_empty (list_at (replicate m []) p) k i (no_list p) st);
  complete = λ i q e. absurd (none-some q (sym (replicated {X = Option Pending} n i None) ∙ e));
  rising =
      λ p k h i j q r lt st. absurd (stands_empty (list_at (replicate m []) p) k i (no_list p) st);
}
  where
    no_list : (p : ℕ) → list_at (replicate m []) p ≡ []
    no_list p = replicated {X = List ℕ} m p []

module _ {node : Node} {rs : List Release} {turns : List (ℕ × ℕ)}
    (runnable : IsRunnable node rs turns) {s : Simulation}
    (running : IsRunning node rs turns s) where
  abbrev slots : List (Option Pending)
  slots = s.slots.items

  abbrev lists : List (List ℕ)
  lists = listed s.lists.items

  abbrev slot_at : ℕ → Option Pending
  slot_at i = slice_index_or slots i None

  -- the pending job of a slot
  level_of_slot : (k : ℕ) (r : Pending) → slot_at k ≡ Some r → (r.level ≡ level_in_order node k)
      × (r.level ≤ r.active) × (k < length node.tasks)
  level_of_slot k r at_k =
      let m : IsPending node (jobs_of node.tasks rs) s.now (has_come turns s.next) k r =
      running.kept.pending k r at_k in
      let known = runnable.legal.known r.job (running.kept.within r.job m.released) in
      (m.level, omega (arith, m.level, m.active), omega (arith, m.own))

  -- at the priority of task i's own level, other pending jobs have lower own levels
  lower : (i a n k : ℕ) (r : Pending) → i < length node.tasks → level_in_order node i ≡ a
      → StandsAt (list_at lists a) n k → slot_at k ≡ Some r → k ≢ i → r.level < a
  lower i a n k r in_tasks own st at_k ne =
      let l = level_of_slot k r at_k in
      let q = running.queues.sound a n k st in
      elim (cases_eq r.level a) [
        | inl same ↦ absurd (ne ((is_sound runnable).levels_differ k i l.2 in_tasks
            (sym l.0 ∙ (same ∙ sym own))))
        | inr differ ↦ omega (
          arith,
          l.1,
          q.2,
          ap (λ x. x.active) (pending_same (slot_at k) q.0 r q.1 at_k),
        )
      ]

  -- a job becomes pending: its task comes to the tail of the list of its own level
  module _ (p : Pending) (i : ℕ) (in_tasks : i < length node.tasks)
      (level : p.level ≡ level_in_order node i) (active : p.active ≡ level_in_order node i) where
    pub queues_admit : slot_at i ≡ None → Queues (λ k. slice_index_or (set slots i (Some p)) k None)
        (list_at (with_tail lists p.active i))
    queues_admit free =
        let in_slots : i < length slots = omega (arith, running.kept.slot_count) in
        let in_lists : p.active < length lists = omega (
          arith,
          listed_length s.lists.items,
          running.list_count,
          level_within node runnable.of_node i,
        ) in
        tail_joins slot_at (list_at lists) running.queues
        (λ k. slice_index_or (set slots i (Some p)) k None) i
        (λ k ne. get_or-set_other slots i k (Some p) None ne)
        (list_at (with_tail lists p.active i)) p free
        (get_or-set_same slots i (Some p) None in_slots)
        (get_or-set_same lists p.active (list_at lists p.active ++ i ∷ []) [] in_lists)
        (λ l ne. get_or-set_other lists p.active l (list_at lists p.active ++ i ∷ []) [] ne)
        (λ n k r st at_k. omega (
          arith,
          lower i p.active n k r in_tasks (sym active) st at_k
              (λ same. none-some r (sym free ∙ subst (λ x. slot_at x ≡ Some r) same at_k)),
        ))

    pub alone_admit : IsAlone (λ k. slice_index_or (set slots i (Some p)) k None)
    alone_admit h k q r at_h at_k ne above e =
        let in_slots : i < length slots = omega (arith, running.kept.slot_count) in
        elim (written slots i (Some p) in_slots h q at_h) [
          | inl new ↦
              let one : p ≡ q = same_Some p q new.1 in
              omega (arith, ap (λ x. x.level) one, ap (λ x. x.active) one)
          | inr was ↦ elim (written slots i (Some p) in_slots k r at_k) [
            | inr also ↦ running.alone h k q r was.1 also.1 ne above e
            | inl new ↦
                let a = ap (λ x. x.active) (same_Some p r new.1) in
                let l = level_of_slot h q was.1 in
                was.0 ((is_sound runnable).levels_differ h i l.2 in_tasks
                (sym l.0 ∙ (sym e ∙ (sym a ∙ active))))
          ]
        ]

  -- ---- the pending job p goes first
  module _ {p : Pending} (best : best_slot slots None ≡ Some p) where
    at_p : slot_at p.task ≡ Some p
    at_p = slot runnable running best

    in_slots : p.task < length slots
    in_slots = task_in_slots runnable running best

    -- nobody stands above it
    none_above : (l n k : ℕ) → p.active < l → StandsAt (list_at lists l) n k → ⊥
    none_above l n k lt st =
        let q = running.queues.sound l n k st in
        let a : q.0.active ≡ l = q.2 in
        elim ((is_best runnable running best).first k q.0 q.1) [
          | inl less ↦ omega arith
          | inr tied ↦ omega (arith, tied.0)
        ]

    -- it stands first in its list
    stands_first : StandsAt (list_at lists p.active) 0 p.task
    stands_first =
        let place = running.queues.complete p.task p at_p in
        let head = head_of (list_at lists p.active) place.0 p.task place.1 in
        let q = running.queues.sound p.active 0 head.0 head.1 in
        elim (cases_eq place.0 0) [
          | inl first ↦ subst (λ x. StandsAt (list_at lists p.active) x p.task) first place.1
          | inr behind ↦
              let lt : q.0.level < p.level = running.queues.rising p.active 0 place.0 head.0 p.task
              q.0 p (omega arith) head.1 place.1 q.1 at_p in
              let a : q.0.active ≡ p.active = q.2 in
              elim ((is_best runnable running best).first head.0 q.0 q.1) [
                | inl less ↦ absurd (omega arith)
                | inr tied ↦ absurd (omega (arith, tied.1))
              ]
        ]

    pub list_is : p.active < length lists
    list_is = elim (cases_lt p.active (length lists)) [
      | inl lt ↦ lt
      | inr past ↦ absurd (stands_empty (list_at lists p.active) 0 p.task
          (get_or_past lists p.active [] past) stands_first)
    ]

    -- it is finished
    pub queues_finish : Queues (λ k. slice_index_or (set slots p.task None) k None)
        (list_at (without_head lists p.active))
    queues_finish = head_leaves slot_at (list_at lists) running.queues
        (λ k. slice_index_or (set slots p.task None) k None) p.task
        (λ k ne. get_or-set_other slots p.task k None None ne)
        (list_at (without_head lists p.active)) p stands_first at_p
        (get_or-set_same slots p.task None None in_slots)
        (get_or-set_same lists p.active (drop 1 (list_at lists p.active)) [] list_is)
        (λ l ne. get_or-set_other lists p.active l (drop 1 (list_at lists p.active)) [] ne)

    pub alone_finish : IsAlone (λ k. slice_index_or (set slots p.task None) k None)
    alone_finish h k q r at_h at_k ne above e =
        elim (written slots p.task None in_slots h q at_h) [
          | inl new ↦ none-some q new.1
          | inr was ↦ elim (written slots p.task None in_slots k r at_k) [
            | inl new ↦ none-some r new.1
            | inr also ↦ running.alone h k q r was.1 also.1 ne above e
          ]
        ]

    -- it has executed, and isn't finished
    module _ (q : Pending) (level : q.level ≡ p.level)
        (next_is : (q.active ≡ level_in_order node p.task) ⊎ (p.active ≤ q.active)) where
      own : p.level ≡ level_in_order node p.task
      own = (is_p runnable running best).level

      -- nobody stands where a job comes back to its own level
      none_there : q.active < p.active → list_at (without_head lists p.active) q.active ≡ []
      none_there lt =
          let o : p.level ≡ level_in_order node p.task = own in
          let ne : q.active ≢ p.active = λ same. omega arith in
          let back : q.active ≡ level_in_order node p.task =
          elim next_is [ inl level_is ↦ level_is | inr more ↦ absurd (omega arith) ] in
          let none = empty_from (list_at lists q.active) (λ k st.
          let r = running.queues.sound q.active 0 k st in
          let a : r.0.active ≡ q.active = r.2 in
          let other : p.task ≢ k = λ same. omega (
            arith,
            ap (λ x. x.active) (pending_same (slot_at k) p r.0
                (subst (λ x. slot_at x ≡ Some p) same at_p) r.1),
          ) in
          running.alone p.task k p r.0 at_p r.1 other (omega arith) (omega arith)) in
          get_or-set_other lists p.active q.active (drop 1 (list_at lists p.active)) [] ne ∙ none

      below : (n k : ℕ) (r : Pending) → q.active ≢ p.active
          → StandsAt (list_at lists q.active) n k → slot_at k ≡ Some r → k ≢ p.task
          → r.level < q.level
      below n k r ne st at_k other = elim next_is [
        | inl level_is ↦ omega (
          arith,
          lower p.task q.active n k r (task_in runnable running best) (sym level_is) st at_k other,
          own,
        )
        | inr more ↦ absurd (none_above q.active n k (omega arith) st)
      ]

      moved : p.active ≢ q.active → q.active < length lists
          → Queues (λ k. slice_index_or (set slots p.task (Some q)) k None)
          (list_at (with_tail (without_head lists p.active) q.active p.task))
      moved differ in_lists =
          let ne : q.active ≢ p.active = λ same. differ (sym same) in
          let n = length-set lists p.active (drop 1 (list_at lists p.active)) in
          tail_joins (λ k. slice_index_or (set slots p.task None) k None)
          (list_at (without_head lists p.active)) queues_finish
          (λ k. slice_index_or (set slots p.task (Some q)) k None) p.task
          (λ k other. get_or-set_other slots p.task k (Some q) None other
          ∙ sym (get_or-set_other slots p.task k None None other))
          (list_at (with_tail (without_head lists p.active) q.active p.task)) q
          (get_or-set_same slots p.task None None in_slots)
          (get_or-set_same slots p.task (Some q) None in_slots)
          (get_or-set_same (without_head lists p.active) q.active
          (list_at (without_head lists p.active) q.active ++ p.task ∷ []) [] (omega arith))
          (λ l other. get_or-set_other (without_head lists p.active) q.active l
          (list_at (without_head lists p.active) q.active ++ p.task ∷ []) [] other)
          (λ m k r st at_k. elim (written slots p.task None in_slots k r at_k) [
            | inl same ↦ absurd (none-some r same.1)
            | inr other ↦ below m k r ne (subst (λ x. StandsAt x m k) (get_or-set_other lists
                p.active q.active (drop 1 (list_at lists p.active)) [] ne) st) other.1 other.0
          ])

      pub queues_run : q.active < length lists
          → Queues (λ k. slice_index_or (set slots p.task (Some q)) k None)
          (list_at (moved_to lists p.active q.active p.task))
      queues_run in_lists =
          elim (cases_eq p.active q.active) [
            | inl same ↦ rw (eq-eqb p.active q.active same) (place_stays slot_at (list_at lists)
                running.queues (λ k. slice_index_or (set slots p.task (Some q)) k None) p.task
                (λ k ne. get_or-set_other slots p.task k (Some q) None ne) p q at_p
                (get_or-set_same slots p.task (Some q) None in_slots) (sym same) level)
            | inr differ ↦
                let e : (p.active == q.active) ≡ false = ne_eqb p.active q.active differ in
                elim (cases_lt q.active p.active) [
                  | inr higher ↦ rw (e, le-ltb q.active p.active higher) (moved differ in_lists)
                  | inl lower ↦
                      let same = head_is_tail (without_head lists p.active) q.active p.task
                      (none_there lower) in
                      rw (e, lt-ltb q.active p.active lower)
                      (subst (λ x. Queues (λ k. slice_index_or (set slots p.task (Some q)) k None)
                      (list_at x)) (sym same) (moved differ in_lists))
                ]
          ]

      pub alone_run : IsAlone (λ k. slice_index_or (set slots p.task (Some q)) k None)
      alone_run h k a b at_h at_k ne above e =
          let lp = level_of_slot p.task p at_p in
          elim (written slots p.task (Some q) in_slots h a at_h) [
            | inl new ↦ elim (written slots p.task (Some q) in_slots k b at_k) [
              | inl also ↦ ne (new.0 ∙ sym also.0)
              | inr other ↦
                  let l : q.level ≡ a.level = ap (λ x. x.level) (same_Some q a new.1) in
                  let lb = level_of_slot k b other.1 in
                  elim (cases_lt p.level p.active) [
                    | inl raised ↦ running.alone p.task k p b at_p other.1
                        (λ same. other.0 (sym same)) raised (e ∙ (sym l ∙ level))
                    | inr at_own ↦
                        let tied : b.active ≡ p.active = omega (arith, lp.1) in
                        elim ((is_best runnable running best).first k b other.1) [
                          | inl less ↦ omega arith
                          | inr behind ↦
                              let same : b.level ≡ p.level = omega (arith, lb.1, lp.1, behind.1) in
                              other.0 ((is_sound runnable).levels_differ k p.task lb.2 lp.2
                              (sym lb.0 ∙ (same ∙ lp.0)))
                        ]
                  ]
            ]
            | inr was ↦ elim (written slots p.task (Some q) in_slots k b at_k) [
              | inr also ↦ running.alone h k a b was.1 also.1 ne above e
              | inl new ↦
                  let n : q.active ≡ b.active = ap (λ x. x.active) (same_Some q b new.1) in
                  let l = level_of_slot h a was.1 in
                  elim next_is [
                    | inl own_level ↦ was.0 ((is_sound runnable).levels_differ h p.task l.2 lp.2
                        (sym l.0 ∙ (sym e ∙ (sym n ∙ own_level))))
                    | inr more ↦ elim ((is_best runnable running best).first h a was.1) [
                      | inl less ↦ omega arith
                      | inr tied ↦ omega (arith, tied.0)
                    ]
                  ]
            ]
          ]
