-- What is seen of a job is seen in the pieces near it.
use Rattle.std.proofs.Common.{◌≡◌, ◌∙◌, ℕ, zero, suc, ◌+◌, ◌≤◌, ◌&&◌, nat_le, nat_lt, Bool, true, false, cond, List}
use Rattle.std.proofs.Common.{[], ◌∷◌, length, Option, None, option_map, refl, sym, ap, arith}
use Rattle.std.specs.Prelude.{if◌then◌else◌}
use Rattle.std.proofs.Math.Nat.{min-le_left, min-le_right, le-max_left, le-max_right}
use Rattle.std.proofs.lemmas.Bool.{and_parts, le-leb, leb-true}
use Rattle.task_sheet.specs.Sheet.{Task}
use Rattle.trace_text.specs.declared.rows.TraceJob.{TraceJob}
use Rattle.observed.specs.Near.{ahead, behind, near, rise_from}
use Rattle.observed.specs.Culprits.{culprits_below}
use Rattle.observed.specs.Ranks.{is_stray, is_wrong, stray_in}
use Rattle.observed.specs.Seen.{ready_by, seen_job, until_of}
use Rattle.observed.specs.Shares.{counts, overlap, share_of, time_in}
use Rattle.observed.specs.Strangers.{longest_of, longest_stranger, names_from, with_name}
use Rattle.observed.specs.declared.strangers.Stranger.{Stranger}
use Rattle.observed.specs.declared.pieces.Piece.{Piece}
use Rattle.observed.specs.declared.promises.Promise.{Promise}
use Rattle.observed.specs.declared.shares.Whom.{Whom}
use Rattle.observed.specs.declared.shares.Whom.TheVariants.{Job, Level, Below, Foreign, Thread, Anyone}

-- ---- what lies behind a time

-- from a later time on
pub behind-behind : (first time : ℕ) (pieces : List Piece) → first ≤ time
    → behind time (behind first pieces) ≡ behind time pieces
behind-behind first time [] le = refl
behind-behind first time (p ∷ pieces) le =
    go (behind-behind first time pieces le) (nat_le p.stop first) refl
  where
    go : behind time (behind first pieces) ≡ behind time pieces → (b : Bool)
        → nat_le p.stop first ≡ b
        → behind time (if b then behind first pieces else p ∷ pieces)
        ≡ (if nat_le p.stop time then behind time pieces else p ∷ pieces)
    go more true ended =
        let stop : p.stop ≤ first = leb-true p.stop first ended in
        rw (le-leb p.stop time (omega (arith, stop, le))) more
    go more false goes = refl

-- pieces that rise do so behind a time
lower : (least : ℕ) (pieces : List Piece) → rise_from least pieces ≡ true
    → rise_from 0 pieces ≡ true
lower least [] rises = refl
lower least (p ∷ pieces) rises = rw (le-leb 0 p.start (omega (arith))) (and_parts _ _ rises).1

pub behind-rises : (time : ℕ) (pieces : List Piece) → rise_from 0 pieces ≡ true
    → rise_from 0 (behind time pieces) ≡ true
behind-rises time [] rises = refl
behind-rises time (p ∷ pieces) rises = go
    (behind-rises time pieces (lower p.start pieces (and_parts _ _ rises).1)) (nat_le p.stop time)
  where
    go : rise_from 0 (behind time pieces) ≡ true → (b : Bool)
        → rise_from 0 (if b then behind time pieces else p ∷ pieces) ≡ true
    go more true = more
    go more false = rises

module _ (whom : Whom) (from to : ℕ) where
  abbrev share : Piece → ℕ
  share p = share_of whom from to p

  -- nothing of a piece that ends before, or begins after
  no_share : (p : Piece) → overlap from to p ≡ 0 → share p ≡ 0
  no_share p none = go (counts whom p)
    where
      go : (b : Bool) → (if b then overlap from to p else 0) ≡ 0
      go true = none
      go false = refl

  before : (p : Piece) → p.stop ≤ from → share p ≡ 0
  before p le = no_share p (omega (arith, le, min-le_left p.stop to, le-max_right p.start from))

  after : (p : Piece) → to ≤ p.start → share p ≡ 0
  after p le = no_share p (omega (arith, le, min-le_right p.stop to, le-max_left p.start from))

  -- so it adds nothing
  adds : (p : Piece) (pieces : List Piece) → share p ≡ 0
      → time_in whom from to (p ∷ pieces) ≡ time_in whom from to pieces
  adds p pieces none = omega (arith, none)

  -- the same is counted of both
  abbrev Same : List Piece → List Piece → Type 0
  Same xs ys = time_in whom from to xs ≡ time_in whom from to ys

  behind-same : (time : ℕ) (pieces : List Piece) → time ≤ from → Same (behind time pieces) pieces
  behind-same time [] le = refl
  behind-same time (p ∷ pieces) le = go (behind-same time pieces le) (nat_le p.stop time) refl
    where
      go : Same (behind time pieces) pieces → (b : Bool) → nat_le p.stop time ≡ b
          → Same (if b then behind time pieces else p ∷ pieces) (p ∷ pieces)
      go more true ended =
          let stop : p.stop ≤ time = leb-true p.stop time ended in
          let none : share p ≡ 0 = before p (omega (arith, stop, le)) in
          more ∙ sym (adds p pieces none)
      go more false goes = refl

  -- ---- what lies ahead of the end

  -- nothing of pieces that rise from there
  none_left : (least : ℕ) (pieces : List Piece) → to ≤ least → rise_from least pieces ≡ true
      → time_in whom from to pieces ≡ 0
  none_left least [] le rises = refl
  none_left least (p ∷ pieces) le rises =
      let each = and_parts (nat_le least p.start) (rise_from p.start pieces) rises in
      let start : least ≤ p.start = leb-true least p.start each.0 in
      let none = after p (omega (arith, le, start)) in
      let more = none_left p.start pieces (omega (arith, le, start)) each.1 in
      adds p pieces none ∙ more

  ahead-same : (least : ℕ) (pieces : List Piece) → rise_from least pieces ≡ true
      → Same (ahead to pieces) pieces
  ahead-same least [] rises = refl
  ahead-same least (p ∷ pieces) rises = go (ahead-same p.start pieces (and_parts
      (nat_le least p.start) (rise_from p.start pieces) rises).1) (nat_le to p.start) refl
    where
      each : (nat_le least p.start ≡ true) × (rise_from p.start pieces ≡ true)
      each = and_parts (nat_le least p.start) (rise_from p.start pieces) rises

      go : Same (ahead to pieces) pieces → (b : Bool) → nat_le to p.start ≡ b
          → Same (if b then [] else p ∷ ahead to pieces) (p ∷ pieces)
      go more true over =
          let start : to ≤ p.start = leb-true to p.start over in
          sym (adds p pieces (after p start) ∙ none_left p.start pieces start each.1)
      go more false goes = ap (λ n. share p + n) more

  -- both, where the pieces rise, or the first alone
  near-same : (b : Bool) (time : ℕ) (pieces : List Piece) → rise_from 0 pieces ≡ b → time ≤ from
      → Same (near b to (behind time pieces)) pieces
  near-same true time pieces rises le =
      let first = ahead-same 0 (behind time pieces) (behind-rises time pieces rises) in
      let rest = behind-same time pieces le in first ∙ rest
  near-same false time pieces rises le = behind-same time pieces le

-- the first priority at which a job may not run is seen in them, too
module _ (U : List Task) (promises : List Promise) (promise : Promise) (place from to : ℕ) where
  abbrev stray : List Piece → Option ℕ
  stray pieces = stray_in U promises promise place from to pieces

  abbrev own : Piece → ℕ
  own p = share (Job place) from to p

  -- a piece of which nothing lies between the times isn't it
  passed_over : (p : Piece) (pieces : List Piece) → own p ≡ 0 → stray (p ∷ pieces) ≡ stray pieces
  passed_over p pieces none = ap (λ n. cond (nat_lt 0 n && is_wrong U promises promise p.priority)
      p.priority (stray pieces)) none

  behind-stray : (time : ℕ) (pieces : List Piece) → time ≤ from
      → stray (behind time pieces) ≡ stray pieces
  behind-stray time [] le = refl
  behind-stray time (p ∷ pieces) le = go (behind-stray time pieces le) (nat_le p.stop time) refl
    where
      go : stray (behind time pieces) ≡ stray pieces → (b : Bool) → nat_le p.stop time ≡ b
          → stray (if b then behind time pieces else p ∷ pieces) ≡ stray (p ∷ pieces)
      go more true ended =
          let stop : p.stop ≤ time = leb-true p.stop time ended in
          let none : own p ≡ 0 = before (Job place) from to p (omega (arith, stop, le)) in
          more ∙ sym (passed_over p pieces none)
      go more false goes = refl

  no_stray : (least : ℕ) (pieces : List Piece) → to ≤ least → rise_from least pieces ≡ true
      → stray pieces ≡ None
  no_stray least [] le rises = refl
  no_stray least (p ∷ pieces) le rises =
      let each = and_parts (nat_le least p.start) (rise_from p.start pieces) rises in
      let start : least ≤ p.start = leb-true least p.start each.0 in
      let none = after (Job place) from to p (omega (arith, le, start)) in
      passed_over p pieces none ∙ no_stray p.start pieces (omega (arith, le, start)) each.1

  ahead-stray : (least : ℕ) (pieces : List Piece) → rise_from least pieces ≡ true
      → stray (ahead to pieces) ≡ stray pieces
  ahead-stray least [] rises = refl
  ahead-stray least (p ∷ pieces) rises = go (ahead-stray p.start pieces (and_parts
      (nat_le least p.start) (rise_from p.start pieces) rises).1) (nat_le to p.start) refl
    where
      each : (nat_le least p.start ≡ true) × (rise_from p.start pieces ≡ true)
      each = and_parts (nat_le least p.start) (rise_from p.start pieces) rises

      go : stray (ahead to pieces) ≡ stray pieces → (b : Bool) → nat_le to p.start ≡ b
          → stray (if b then [] else p ∷ ahead to pieces) ≡ stray (p ∷ pieces)
      go more true over =
          let start : to ≤ p.start = leb-true to p.start over in
          let none = after (Job place) from to p start in
          sym (passed_over p pieces none ∙ no_stray p.start pieces start each.1)
      go more false goes =
          ap (λ (o : Option ℕ). cond (is_stray U promises promise place from to p) p.priority o) more

  near-stray : (b : Bool) (time : ℕ) (pieces : List Piece) → rise_from 0 pieces ≡ b → time ≤ from
      → stray (near b to (behind time pieces)) ≡ stray pieces
  near-stray true time pieces rises le = ahead-stray 0 (behind time pieces)
      (behind-rises time pieces rises) ∙ behind-stray time pieces le
  near-stray false time pieces rises le = behind-stray time pieces le

-- who executes below a level is seen in them, too
culprits_near : (promises : List Promise) (from to : ℕ) (b : Bool) (time : ℕ)
    (pieces : List Piece) → rise_from 0 pieces ≡ b → time ≤ from → (level : ℕ)
    → culprits_below promises from to (near b to (behind time pieces)) level
    ≡ culprits_below promises from to pieces level
culprits_near promises from to b time pieces rises le zero = refl
culprits_near promises from to b time pieces rises le (suc level) =
    rw (
      culprits_near promises from to b time pieces rises le level,
      near-same (Level level) from to b time pieces rises le,
    )
    refl

-- which threads of the node's own execute, is seen in them, too
module _ (from to : ℕ) where
  abbrev there : Piece → ℕ
  there p = share Foreign from to p

  -- a piece of which nothing lies between the times adds no name
  adds_none : (names : List (List ℕ)) (p : Piece) (pieces : List Piece) → there p ≡ 0
      → names_from from to names (p ∷ pieces) ≡ names_from from to names pieces
  adds_none names p pieces none =
      ap (λ n. names_from from to (cond (nat_lt 0 n) (with_name p.name names) names) pieces) none

  behind-names : (names : List (List ℕ)) (time : ℕ) (pieces : List Piece) → time ≤ from
      → names_from from to names (behind time pieces) ≡ names_from from to names pieces
  behind-names names time [] le = refl
  behind-names names time (p ∷ pieces) le = go (behind-names names time pieces le)
      (nat_le p.stop time) refl
    where
      go : names_from from to names (behind time pieces) ≡ names_from from to names pieces → (b : Bool)
          → nat_le p.stop time ≡ b
          → names_from from to names (if b then behind time pieces else p ∷ pieces)
          ≡ names_from from to names (p ∷ pieces)
      go more true ended =
          let stop : p.stop ≤ time = leb-true p.stop time ended in
          let none : there p ≡ 0 = before Foreign from to p (omega (arith, stop, le)) in
          more ∙ sym (adds_none names p pieces none)
      go more false goes = refl

  no_names : (names : List (List ℕ)) (least : ℕ) (pieces : List Piece) → to ≤ least
      → rise_from least pieces ≡ true → names_from from to names pieces ≡ names
  no_names names least [] le rises = refl
  no_names names least (p ∷ pieces) le rises =
      let each = and_parts (nat_le least p.start) (rise_from p.start pieces) rises in
      let start : least ≤ p.start = leb-true least p.start each.0 in
      let none = after Foreign from to p (omega (arith, le, start)) in
      adds_none names p pieces none
      ∙ no_names names p.start pieces (omega (arith, le, start)) each.1

  ahead-names : (names : List (List ℕ)) (least : ℕ) (pieces : List Piece) → rise_from least pieces ≡ true
      → names_from from to names (ahead to pieces) ≡ names_from from to names pieces
  ahead-names names least [] rises = refl
  ahead-names names least (p ∷ pieces) rises = go (nat_le to p.start) refl
      (ahead-names (if nat_lt 0 (there p) then with_name p.name names else names) p.start pieces
      (and_parts (nat_le least p.start) (rise_from p.start pieces) rises).1)
    where
      each : (nat_le least p.start ≡ true) × (rise_from p.start pieces ≡ true)
      each = and_parts (nat_le least p.start) (rise_from p.start pieces) rises

      go : (b : Bool) → nat_le to p.start ≡ b
          → names_from from to (if nat_lt 0 (there p) then with_name p.name names else names)
          (ahead to pieces)
          ≡ names_from from to (if nat_lt 0 (there p) then with_name p.name names else names) pieces
          → names_from from to names (if b then [] else p ∷ ahead to pieces)
          ≡ names_from from to names (p ∷ pieces)
      go true over more =
          let start : to ≤ p.start = leb-true to p.start over in
          let none = after Foreign from to p start in
          sym (adds_none names p pieces none ∙ no_names names p.start pieces start each.1)
      go false goes more = more

  near-names : (b : Bool) (time : ℕ) (pieces : List Piece) → rise_from 0 pieces ≡ b → time ≤ from
      → names_from from to [] (near b to (behind time pieces)) ≡ names_from from to [] pieces
  near-names true time pieces rises le = ahead-names [] 0 (behind time pieces)
      (behind-rises time pieces rises) ∙ behind-names [] time pieces le
  near-names false time pieces rises le = behind-names [] time pieces le

  near-longest : (b : Bool) (time : ℕ) (pieces : List Piece) → rise_from 0 pieces ≡ b → time ≤ from
      → (names : List (List ℕ)) → longest_of from to (near b to (behind time pieces)) names
      ≡ longest_of from to pieces names
  near-longest b time pieces rises le [] = refl
  near-longest b time pieces rises le (n ∷ names) =
      rw (
        near-longest b time pieces rises le names,
        near-same (Thread n) from to b time pieces rises le,
      )
      refl

  near-stranger : (b : Bool) (time : ℕ) (pieces : List Piece) → rise_from 0 pieces ≡ b → time ≤ from
      → longest_stranger from to (near b to (behind time pieces)) ≡ longest_stranger from to pieces
  near-stranger b time pieces rises le =
      ap (λ (ns : List (List ℕ)). option_map (λ (s : Stranger). s.name)
      (longest_of from to (near b to (behind time pieces)) ns)) (near-names b time pieces rises le)
      ∙ ap (λ (o : Option Stranger). option_map (λ (s : Stranger). s.name) o)
      (near-longest b time pieces rises le (names_from from to [] pieces))

-- what is seen of a job is seen in the pieces near it
pub seen-near : (U : List Task) (promises : List Promise) (promise : Promise) (level end : ℕ)
    (pieces : List Piece) (past : List TraceJob) (job : TraceJob)
    → seen_job U promises promise level end (near (rise_from 0 pieces) (until_of end job)
    (behind job.arrival pieces)) past job
    ≡ seen_job U promises promise level end pieces past job
seen-near U promises promise level end pieces past job =
    let b = rise_from 0 pieces in
    let to = until_of end job in
    let ready = ready_by promise job in
    let at : job.arrival ≤ job.arrival = omega (arith) in
    let soon : job.arrival ≤ ready = omega (arith) in
    let foreign = near-same Foreign ready to b job.arrival pieces refl soon in
    rw (
      near-same (Job (length past)) job.arrival to b job.arrival pieces refl at,
      near-stray U promises promise (length past) job.arrival to b job.arrival pieces refl at,
      near-same (Below level) ready to b job.arrival pieces refl soon,
      culprits_near promises ready to b job.arrival pieces refl soon level,
      foreign,
      near-stranger ready to b job.arrival pieces refl soon,
      near-same Anyone ready to b job.arrival pieces refl soon,
    )
    refl
