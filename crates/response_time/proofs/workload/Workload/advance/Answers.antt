use Rattle.std.proofs.Common.{List, ℕ, ◌≡◌, ◌≤◌, ◌+◌, ◌∙◌, ◌++◌, sum_by, refl, take, drop, length}
use Rattle.std.proofs.Common.{ap, arith}
use Rattle.std.proofs.lemmas.List.{length-take, length-take-le, take-append-le, take_all}
use Rattle.response_time.specs.Workload.{ShareData, WorkloadData, IsCarried, work_within}
use Rattle.response_time.specs.Workload.{further_work, share_within}
use Rattle.response_time.specs.WorkloadFields.{workload_of, IsKept}
use Rattle.response_time.specs.declared.workload.Workload.TheInside.{Inside}
use Rattle.response_time.proofs.Shares.{sum-further, sum-counted, sum-fits, IsCarried-further}
use Rattle.response_time.proofs.workload.Workload.advance.Goals as goal

-- the demand is that of the longer window
total-is : (w : WorkloadData) (time work : ℕ) → IsCarried w → w.time ≤ time
    → work ≡ sum_by (further_work time) w.shares → w.total + work ≡ work_within time w
total-is w time work h le is =
    omega (arith, h.total, is, sum-further w.time time le w.shares h.counted)

total-fits : (a : Inside) (v : WorkloadData) (time work : ℕ) → IsKept a → workload_of a ≡ v
    → v.time ≤ time → time ≤ 10000000 → work ≡ sum_by (further_work time) (workload_of a).shares
    → a.total + work ≤ 1940000000
total-fits a v time work kept view longer short is =
    let w = workload_of a in
    let le : w.time ≤ time = omega (arith, ap (λ (x : WorkloadData). x.time) view) in
    omega (
      arith,
      total-is w time work kept.3 le is,
      sum-fits w.time time w.shares short kept.3.counted,
      length-take a.count a.shares,
      kept.0,
      kept.1,
    )

pub overflow_add-self : goal.overflow_add-self
overflow_add-self c = omega (
  arith,
  total-fits c.self.inside c.args.self.now c.args.time c.count_all-work.result c.self.invariant
      c.self.view_is c.requires.longer c.requires.time c.count_all-work.ensures.work,
)

pub returns-clause-fits : goal.returns-clause-fits
returns-clause-fits c = omega (
  arith,
  total-fits c.self.inside c.args.self.now c.args.time c.count_all-work.result c.self.invariant
      c.self.view_is c.requires.longer c.requires.time c.count_all-work.ensures.work,
)

pub returns-clause-is : goal.returns-clause-is
returns-clause-is c =
    let longer : c.self.inside.time ≤ c.args.time =
    omega (arith, ap (λ (v : WorkloadData). v.time) c.self.view_is, c.requires.longer) in
    total-is (workload_of c.self.inside) c.args.time c.count_all-work.result c.self.invariant.3
    longer c.count_all-work.ensures.work ∙ ap (work_within c.args.time) c.self.view_is

-- the first shares of the array are those that were written
written : (count : ℕ) (new rest : List ShareData) → length new ≡ count
    → take count (new ++ rest) ≡ new
written count new rest long = take-append-le count new rest (omega (arith, long))
    ∙ take_all count new (omega (arith, long))

pub invariant_of-self : goal.invariant_of-self
invariant_of-self c =
    let w = workload_of c.self.inside in
    let longer : w.time ≤ c.args.time =
    omega (arith, ap (λ (v : WorkloadData). v.time) c.self.view_is, c.requires.longer) in
    let shares = take c.self.inside.count
    (c.count_all-work.new.shares ++ drop c.self.inside.count c.self.inside.shares) in
    let v : WorkloadData = record {
      always = c.self.inside.always;
      shares = shares;
      time =
          c.args.time;
      total = c.self.inside.total + c.count_all-work.result;
    } in
    let long : length c.count_all-work.new.shares ≡ c.self.inside.count =
    c.count_all-work.auto.shares ∙ length-take-le c.self.inside.count c.self.inside.shares
    (omega (arith, c.self.invariant.0)) in
    let same : shares ≡ c.count_all-work.new.shares =
    written c.self.inside.count c.count_all-work.new.shares _ long in (
      c.self.invariant.0,
      c.self.invariant.1,
      c.requires.time,
      IsCarried-further w v c.self.invariant.3 longer refl (same ∙ c.count_all-work.ensures.counted)
          (ap (λ n. c.self.inside.total + n) c.count_all-work.ensures.work),
    )

pub returns-clause-same : goal.returns-clause-same
returns-clause-same c = λ t.
    let shares = take c.self.inside.count
    (c.count_all-work.new.shares ++ drop c.self.inside.count c.self.inside.shares) in
    let long : length c.count_all-work.new.shares ≡ c.self.inside.count =
    c.count_all-work.auto.shares ∙ length-take-le c.self.inside.count c.self.inside.shares
    (omega (arith, c.self.invariant.0)) in
    let same : shares ≡ c.count_all-work.new.shares =
    written c.self.inside.count c.count_all-work.new.shares _ long in
    let sums : sum_by (share_within t) shares
    ≡ sum_by (share_within t) (take c.self.inside.count c.self.inside.shares) =
    ap (sum_by (share_within t)) (same ∙ c.count_all-work.ensures.counted)
    ∙ sum-counted t c.args.time (take c.self.inside.count c.self.inside.shares) in
    ap (λ n. c.self.inside.always + n) sums ∙ ap (work_within t) c.self.view_is
