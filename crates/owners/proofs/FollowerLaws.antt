-- The sections that follow, one more, and how many move along.
use Rattle.std.proofs.Common.{◌≡◌, ◌∙◌, ◌++◌, ◌+◌, ◌-◌, ◌<◌, ℕ, zero, suc, true, false, List, length}
use Rattle.std.proofs.Common.{get_or, drop, refl, sym, ap, arith, append_assoc}
use Rattle.std.proofs.lemmas.List.{drop_more}
use Rattle.toml.specs.Data.{item}
use Rattle.toml.specs.View.{view, items_view}
use Rattle.toml.specs.declared.value.Value.{Value}
use Rattle.owners.specs.Followers.{along, follower_if, follows, followers_by, followers_from, followers_of, says_no_begin}
use Rattle.task_lines.specs.declared.owner.Owner.{Owner}

items-step : (vs : List Value) (i : ℕ) (d : Value) → i < length vs → d ≡ get_or vs i d
    → items_view (drop i vs) ≡ item (view d) (items_view (drop (i + 1) vs))
items-step vs i d lt is = rw (drop_more vs i d lt, ← is) refl

pub section-step : (task : List ℕ) (vs : List Value) (i : ℕ) (d : Value)
    (held more whole : List Owner) → i < length vs → d ≡ get_or vs i d
    → more ≡ held ++ follower_if (says_no_begin (view d)) task i
    → held ++ followers_from task i (items_view (drop i vs)) ≡ whole
    → more ++ followers_from task (i + 1) (items_view (drop (i + 1) vs)) ≡ whole
section-step task vs i d held more whole lt is pushed all =
    let rest = followers_from task (i + 1) (items_view (drop (i + 1) vs)) in
    let own = follower_if (says_no_begin (view d)) task i in
    ap (λ (l : List Owner). l ++ rest) pushed ∙ append_assoc held own rest
    ∙ ap (λ ds. held ++ followers_from task i ds) (sym (items-step vs i d lt is))
    ∙ all

pub task-step : (vs : List Value) (i : ℕ) (d : Value)
    (held more whole : List Owner) → i < length vs → d ≡ get_or vs i d
    → more ≡ held ++ followers_by (view d)
    → held ++ followers_of (items_view (drop i vs)) ≡ whole
    → more ++ followers_of (items_view (drop (i + 1) vs)) ≡ whole
task-step vs i d held more whole lt is pushed all =
    let rest = followers_of (items_view (drop (i + 1) vs)) in
    ap (λ (l : List Owner). l ++ rest) pushed ∙ append_assoc held (followers_by (view d)) rest
    ∙ ap (λ ds. held ++ followers_of ds) (sym (items-step vs i d lt is))
    ∙ all

-- ---- what moves along
pub along-start : (owners : List Owner) (name : List ℕ) (place behind : ℕ)
    → 0 + along owners name (place + 0) (behind - 0) ≡ along owners name place behind
along-start owners name place behind =
    let at : place + 0 ≡ place = omega arith in
    let all : behind - 0 ≡ behind = omega arith in
    let none : 0 + along owners name place behind ≡ along owners name place behind = omega arith in
    rw (at, all) none

pub along-more : (owners : List Owner) (name : List ℕ) (place behind next : ℕ) → next < behind
    → follows owners name (place + next + 1) ≡ true
    → along owners name (place + next) (behind - next)
    ≡ along owners name (place + (next + 1)) (behind - (next + 1)) + 1
along-more owners name place behind next lt so =
    let left : behind - next ≡ suc (behind - (next + 1)) = omega (arith, lt) in
    let at : place + next + 1 ≡ place + (next + 1) = omega arith in
    let one : suc (along owners name (place + (next + 1)) (behind - (next + 1)))
    ≡ along owners name (place + (next + 1)) (behind - (next + 1)) + 1 = omega arith in
    rw (left, so, at) one

pub along-last : (owners : List Owner) (name : List ℕ) (place behind next : ℕ)
    → follows owners name (place + next + 1) ≡ false
    → along owners name (place + next) (behind - next) ≡ 0
along-last owners name place behind next so = none (behind - next)
  where
    none : (left : ℕ) → along owners name (place + next) left ≡ 0
    none zero = refl
    none (suc left) = rw so refl

pub along-end : (owners : List Owner) (name : List ℕ) (place behind next : ℕ)
    → behind - next ≡ 0 → along owners name (place + next) (behind - next) ≡ 0
along-end owners name place behind next all = rw all refl
