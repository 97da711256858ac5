use Rattle.std.proofs.Common.{◌≡◌, ℕ, replicate, None, Option, refl, sym, ap, ◌∙◌, length, subst}
use Rattle.std.proofs.Common.{List, [], ◌+◌, slice_index_or}
use Rattle.ceiling_kernel.specs.declared.run.Pending.{Pending}
use Rattle.ceiling_kernel.proofs.Common.{picked, jobs_of, has_come, AreFinishes, list_at, Queues}
use Rattle.ceiling_kernel.specs.States.{Kept}
use Rattle.ceiling_kernel.specs.Lists.{IsAlone}
use Rattle.ceiling_kernel.proofs.ListsLaws.{count_started}
use Rattle.ceiling_kernel.proofs.KeptLaws.{kept_start}
use Rattle.ceiling_kernel.proofs.MoveLaws.{queues_start, alone_start}
use Rattle.ceiling_kernel.proofs.ReleaseLaws.{no_slices}
use Rattle.ceiling_kernel.proofs.RunLaws.{finishes_start}
use Rattle.ceiling_kernel.proofs.run.Simulation.start.Goals as goal

pub returns : goal.returns
returns c = λ rs turns runnable jobs.
    let node = c.args.kernel.now in
    let tasks : length node.tasks ≡ length c.tasks-count.result.now =
    sym c.tasks-count.ensures.count in
    let slots : c.in_ok-slots.slots.items ≡ replicate (length node.tasks) None =
    c.in_ok-slots.ensures
    ∙ ap (λ n. let r : List (Option Pending) = replicate n None in r) (sym tasks) in
    let finishes : c.in_ok-finishes.finishes.items ≡ replicate (length rs) None =
    c.in_ok-finishes.ensures
    ∙ ap (λ n. let r : List (Option ℕ) = replicate n None in r) (sym jobs) in (
      record {
        kept = subst (λ x. Kept node (jobs_of node.tasks rs) 0 (has_come turns 0) x) (sym slots)
            (kept_start runnable);
        list_count = count_started c.in_ok-lists.lists.items (length c.tasks-count.result.now + 1)
            c.in_ok-lists.ensures ∙ ap (λ n. n + 1) (sym tasks);
        queues = subst (λ x. Queues (λ i. slice_index_or c.in_ok-slots.slots.items i None)
            (list_at x)) (sym c.in_ok-lists.ensures)
            (subst (λ x. Queues (λ i. slice_index_or x i None)
            (list_at (replicate (length c.tasks-count.result.now + 1) []))) (sym slots)
            (queues_start (length node.tasks) (length c.tasks-count.result.now + 1)));
        alone = subst (λ x. IsAlone (λ i. slice_index_or x i None)) (sym slots)
            (alone_start (length node.tasks));
        slices = no_slices (picked node (jobs_of node.tasks rs));
        tidy = c.new.ensures.items;
        finishes = subst (λ x. AreFinishes node rs 0 x) (sym finishes)
            (finishes_start runnable);
      },
      refl,
    )
