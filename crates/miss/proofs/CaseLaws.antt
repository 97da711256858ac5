-- The streams of a task's worst case.
use Rattle.std.proofs.Common.{◌≡◌, ◌≢◌, ℕ, zero, suc, ◌+◌, ◌-◌, ◌<◌, ◌≤◌, ◌⊎◌, inl, inr, false}
use Rattle.std.proofs.Common.{◌==◌, Some, None, Option, List, [], ◌∷◌, ◌++◌, length, map, get_or}
use Rattle.std.proofs.Common.{refl, sym, ◌∙◌, ap, subst, arith}
use Rattle.std.specs.Prelude.{slice_get}
use Rattle.std.proofs.Math.ListN.{get_or-append}
use Rattle.std.proofs.Math.Seq.{get_or-append_right}
use Rattle.std.proofs.lemmas.List.{length-append, length-map, get_or_default}
use Rattle.std.proofs.lemmas.Option.{get_or_from_slice_get, none-some}
use Rattle.std.proofs.lemmas.Bool.{cases_lt, cases_eq, eq-eqb, true≢false, or_parts}
use Rattle.task_sheet.proofs.Common.{Task, CriticalSection, IsValidSheet, AreSections}
use Rattle.task_sheet.proofs.Common.{no_task, task_at, IsTaskSet, with_index, among, greatest_of}
use Rattle.task_sheet.proofs.Common.{blocking_of}
use Rattle.task_sheet.proofs.Below.{le-greatest_of}
use Rattle.ceiling_kernel.proofs.Common.{Node, level_in_order, IsNode, lateness_of, above_of}
use Rattle.ceiling_kernel.proofs.Common.{after_of}
use Rattle.ceiling_kernel.proofs.AcceptLaws.{not_lt}
use Rattle.ceiling_kernel.proofs.NodeLaws.{sound, after_is_above}
use Rattle.explain.specs.Blocking.{BlockerData, BlocksAt, IsBlockerOf}
use Rattle.release_list.specs.declared.stream.Stream.{Stream}
use Rattle.release_list.specs.Streams.{no_stream, stream_at}
use Rattle.miss.specs.Misses.{section_of, lead_of, instant_of, member_stream, blocker_streams}
use Rattle.miss.specs.Misses.{worst_streams, no_section}
use Rattle.release_list.proofs.FitLaws.{IsFit, AreFit}
use Rattle.miss.proofs.MemberLaws.{member_in, members_differ}

map_at : (f : ℕ → Stream) (xs : List ℕ) (q : ℕ) → q < length xs
    → get_or (map f xs) q no_stream ≡ f (get_or xs q 0)
map_at f [] q lt = absurd (omega arith)
map_at f (x ∷ xs) zero lt = refl
map_at f (x ∷ xs) (suc q) lt = map_at f xs q (omega arith)

greatest_most : (f : ℕ → ℕ) (xs : List ℕ) (m : ℕ) → ((k : ℕ) → f k ≤ m) → greatest_of f xs ≤ m
greatest_most f [] m h = omega arith
greatest_most f (x ∷ xs) m h = omega (arith, h x, greatest_most f xs m h)

section_in : (from cost : ℕ) (ss : List CriticalSection) (p : ℕ) (s : CriticalSection)
    → AreSections from cost ss → slice_get ss p ≡ Some s → (s.at + s.len ≤ cost) × (0 < s.len)
section_in from cost [] p s h e = absurd (none-some s e)
section_in from cost (x ∷ ss) zero s h e =
    let is : x ≡ s = cc (e) in
    let here = h.0 in
    subst (λ y. (y.at + y.len ≤ cost) × (0 < y.len)) is (here.within, here.runs)
section_in from cost (x ∷ ss) (suc p) s h e = section_in (x.at + x.len) cost ss p s h.1 e

-- the indexes of the streams' tasks
abbrev pub tasks_of : Option BlockerData → List ℕ
tasks_of None = []
tasks_of (Some b) = b.task ∷ []

-- ---- which stream stands at a place
module _ (U : List Task) (members : List ℕ) (instant until : ℕ) where
  abbrev streams_of : Option BlockerData → List Stream
  streams_of b = map (member_stream U instant) members ++ blocker_streams U instant until b

  abbrev pub index_of : Option BlockerData → ℕ → ℕ
  index_of b q = get_or (members ++ tasks_of b) q 0

  pub record IsMember (b : Option BlockerData) (q : ℕ) : Type 0 where
    pub place : q < length members
    pub stream : stream_at (streams_of b) q ≡ member_stream U instant (get_or members q 0)
    pub index : index_of b q ≡ get_or members q 0

  abbrev pub the_blocker : BlockerData → Stream
  the_blocker b = record {
    name = (task_at U b.task).name;
    first = instant - lead_of U (Some b);
    late = 0;
    period = until + (task_at U b.task).period;
  }

  pub record IsBlocker (b : Option BlockerData) (q : ℕ) : Type 0 where
    pub blocker : BlockerData
    pub is : b ≡ Some blocker
    pub place : q ≡ length members
    pub stream : stream_at (streams_of b) q ≡ the_blocker blocker
    pub index : index_of b q ≡ blocker.task

  long : length (map (member_stream U instant) members) ≡ length members
  long = length-map members (member_stream U instant)

  pub member_at : (b : Option BlockerData) (q : ℕ) → q < length members → IsMember b q
  member_at b q lt = record {
    place = lt;
    stream = get_or-append (map (member_stream U instant) members)
        (blocker_streams U instant until b) no_stream q (omega (arith, long))
        ∙ map_at (member_stream U instant) members q lt;
    index = get_or-append members (tasks_of b) 0 q lt;
  }

  pub blocker_at : (b : BlockerData) → IsBlocker (Some b) (length members)
  blocker_at b =
      let n : ℕ = length members in
      let z : length members - length (map (member_stream U instant) members) ≡ 0 =
      omega (arith, long) in
      let w : n - length members ≡ 0 = omega arith in
      record {
        blocker = b;
        is = refl;
        place = refl;
        stream = get_or-append_right (map (member_stream U instant) members)
            (blocker_streams U instant until (Some b)) n no_stream (omega (arith, long))
            ∙ ap (λ k. stream_at (blocker_streams U instant until (Some b)) k) z;
        index = get_or-append_right members (tasks_of (Some b)) n 0 (omega arith)
            ∙ ap (λ k. get_or (tasks_of (Some b)) k 0) w;
      }

  pub streams_length : (b : Option BlockerData)
      → length (streams_of b) ≡ length members + length (tasks_of b)
  streams_length None = length-append (map (member_stream U instant) members) []
      ∙ ap (λ n. n + 0) long
  streams_length (Some b) = length-append (map (member_stream U instant) members)
      (blocker_streams U instant until (Some b)) ∙ ap (λ n. n + 1) long

  pub which : (b : Option BlockerData) (q : ℕ) → q < length (streams_of b) → IsMember b q
      ⊎ IsBlocker b q
  which b q lt =
      elim (cases_lt q (length members)) [
        | inl front ↦ inl (member_at b q front)
        | inr back ↦ inr (last b q back lt)
      ]
    where
      last : (b : Option BlockerData) (q : ℕ) → length members ≤ q → q < length (streams_of b)
          → IsBlocker b q
      last None q back lt = absurd (omega (arith, streams_length None))
      last (Some b) q back lt =
          let e : length members ≡ q = omega (arith, streams_length (Some b)) in
          subst (λ k. IsBlocker (Some b) k) e (blocker_at b)

-- ---- the worst case of a task in an order
module _ (node : Node) (ok : IsNode node) (i : ℕ) (lt : i < length node.tasks)
    (b : Option BlockerData) (is_b : IsBlockerOf node.tasks i (among (after_of node.order i)) b)
    (until : ℕ) where
  abbrev U : List Task
  U = node.tasks

  abbrev above : List ℕ
  above = after_of node.order i

  abbrev members : List ℕ
  members = i ∷ above

  abbrev pub instant : ℕ
  instant = instant_of U members b

  abbrev ss : List Stream
  ss = worst_streams U members b until

  abbrev index : ℕ → ℕ
  index q = index_of U members instant until b q

  set : IsTaskSet node.tasks
  set = ok.tasks

  valid : (k : ℕ) → k < length U → IsValidSheet (task_at U k)
  valid k small = set.valid k no_task small

  late_small : (k : ℕ) → lateness_of (task_at U k) ≤ 10000000
  late_small k =
      elim (cases_lt k (length U)) [
        | inl small ↦ (let v = valid k small in
            omega (arith, v.jitter, v.deadline_to, v.period_to))
        | inr past ↦
            let none = past_end U k past in
            subst (λ t. lateness_of t ≤ 10000000) (sym none) (omega arith)
      ]
    where
      past_end : (xs : List Task) (k : ℕ) → length xs ≤ k → task_at xs k ≡ no_task
      past_end [] k le = refl
      past_end (x ∷ xs) zero le = absurd (omega arith)
      past_end (x ∷ xs) (suc k) le = past_end xs k (omega arith)

  -- the blocker and its section
  pub record IsPlacedBlocker (bb : BlockerData) : Type 0 where
    pub section : CriticalSection
    pub blocks : BlocksAt U i (among above) bb.task bb.place section
    pub is : section_of U bb ≡ section
    pub long : section.len ≡ blocking_of U i (above_of node i)
    pub within : section.at + section.len ≤ (task_at U bb.task).cost
    pub runs : 0 < section.len
    pub lower : level_in_order node bb.task < level_in_order node i

  pub placed : (bb : BlockerData) → b ≡ Some bb → IsPlacedBlocker bb
  placed bb e =
      let f = subst (λ x. IsBlockerOf U i (among above) x) e is_b in
      let at : BlocksAt U i (among above) bb.task bb.place f.section = f.blocks in
      let v = valid bb.task at.in_set in
      let room = section_in 0 (task_at U bb.task).cost (task_at U bb.task).sections bb.place
      f.section
      v.sections at.section in
      let same : among above ≡ above_of node i = λ x h. after_is_above node ok i h lt x in
      let outside = subst (λ H. with_index H i bb.task ≡ false) same at.outside in
      let not_i : bb.task ≢ i = λ s. absurd (true≢false (sym (eq-eqb bb.task i s)
      ∙ (or_parts (bb.task == i) (above_of node i bb.task) outside).0)) in
      let le = not_lt (level_in_order node i) (level_in_order node bb.task)
      (or_parts (bb.task == i) (above_of node i bb.task) outside).1 in
      let s = sound node ok in
      record {
        section = f.section;
        blocks = at;
        is = get_or_from_slice_get (task_at U bb.task).sections bb.place f.section no_section
            at.section;
        long = sym f.len ∙ (f.longest ∙ ap (blocking_of U i) same);
        within = room.0;
        runs = room.1;
        lower = elim (cases_eq (level_in_order node bb.task) (level_in_order node i)) [
          | inl tied ↦ absurd (not_i (s.levels_differ bb.task i at.in_set lt tied))
          | inr differ ↦ omega arith
        ];
      }

  lead_small : (o : Option BlockerData) → b ≡ o → lead_of U o ≤ 10000000
  lead_small None e = omega arith
  lead_small (Some bb) e =
      let p = placed bb e in
      let at = ap (λ x. x.at) p.is in
      let v = valid bb.task p.blocks.in_set in
      omega (arith, p.within, p.runs, at, v.cost_to, v.period_to)

  pub instant_small : instant ≤ 10000000
  instant_small =
      let g = greatest_most (λ k. lateness_of (task_at U k)) members 10000000 late_small in
      let l = lead_small b refl in
      omega arith

  pub member_late : (q : ℕ) → q < length members
      → lateness_of (task_at U (get_or members q 0)) ≤ instant
  member_late q small =
      let g : lateness_of (task_at U (get_or members q 0))
      ≤ greatest_of (λ k. lateness_of (task_at U k)) members =
      le-greatest_of (λ k. lateness_of (task_at U k)) members q (get_or members q 0) small
      (sym (get_or_default members q 0 (get_or members q 0) small)) in
      omega arith

  pub fit : AreFit U ss index
  fit = record {
    each = λ q small. elim (which U members instant until b q small) [
      | inl m ↦
          let k : ℕ = get_or members q 0 in
          let f : IsFit U (member_stream U instant k) k =
          record {
            in_set = (member_in node ok i lt q m.place).0;
            named = refl;
            apart =
                omega arith;
            prompt = omega arith;
          } in
          subst (λ x. IsFit U x (index q)) (sym m.stream)
          (subst (λ x. IsFit U (member_stream U instant k) x) (sym m.index) f)
      | inr m ↦
          let p = placed m.blocker m.is in
          let f : IsFit U (the_blocker U members instant until m.blocker) m.blocker.task =
          record {
            in_set = p.blocks.in_set;
            named = refl;
            apart = omega arith;
            prompt =
                omega arith;
          } in
          subst (λ x. IsFit U x (index q)) (sym m.stream) (subst (λ x. IsFit U
          (the_blocker U members instant until m.blocker) x) (sym m.index) f)
    ];
    distinct = λ q r sq sr e. elim (which U members instant until b q sq) [
      | inl m ↦ elim (which U members instant until b r sr) [
        | inl n ↦ members_differ node ok i lt q r m.place n.place (sym m.index ∙ (e ∙ n.index))
        | inr n ↦ absurd (apart_from q m n.blocker n.is (sym m.index ∙ (e ∙ n.index)))
      ]
      | inr m ↦ elim (which U members instant until b r sr) [
        | inl n ↦ absurd (apart_from r n m.blocker m.is (sym n.index ∙ (sym e ∙ m.index)))
        | inr n ↦ m.place ∙ sym n.place
      ]
    ];
  }
    where
      apart_from : (q : ℕ) (m : IsMember U members instant until b q) (bb : BlockerData)
          → b ≡ Some bb → get_or members q 0 ≡ bb.task → ⊥
      apart_from q m bb is e =
          let p = placed bb is in
          let up : level_in_order node i ≤ level_in_order node (get_or members q 0) =
          (member_in node ok i lt q m.place).1 in
          let same = ap (λ k. level_in_order node k) e in
          omega (arith, p.lower)
