-- What a printed bound of a chain promises of the kernel's runs in its order.
use Rattle.std.specs.Prelude.{◌≡◌, ℕ, List, ◌∷◌, Some, Ok}
use Rattle.task_sheet.specs.Sheet.{Task}
use Rattle.ceiling_kernel.specs.Tick.{Node, node_in}
use Rattle.ceiling_kernel.specs.Releases.{jobs_of}
use Rattle.ceiling_kernel.specs.Runs.{Runs}
use Rattle.ceiling_kernel.specs.Waits.{IsNode}
use Rattle.ceiling_kernel.specs.declared.trace.Release.{Release}
use Rattle.ceiling_kernel.specs.declared.trace.Trace.{Trace}
use Rattle.chains.specs.Clocks.{KeepClock}
use Rattle.chains.specs.Gaps.{AreSteady, OthersSteady}
use Rattle.chains.specs.Handovers.{RespondsBy}
use Rattle.chains.specs.Parts.{order_of, response_in}
use Rattle.chains.specs.declared.bounds.Level.{Level}
use Rattle.chains.specs.declared.bounds.Writes.{Writes}
use Rattle.chain_runs.specs.Outcomes.{ages_of, reactions_of}
use Rattle.chain_runs.specs.ChainOutputs.{outputs_of}
use Rattle.chain_runs.specs.Runs.{AtMost}
pub use Rattle.cert_checker.specs.Bounded.{AllWork, HoldsInRuns}

-- ---- an order and its responses
-- the levels of an order of a valid set, passing or not: a response that one gives its task is one with which that passes
pub record AreResponses (U : List Task) (levels : List Level) : Type 0 where
  pub order : IsNode (node_in U (order_of levels))
  pub each : (i r : ℕ) → response_in levels i ≡ Some r → RespondsBy (node_in U (order_of levels)) i r

-- ---- the promise
-- in a simulated one both that are found are within it
abbrev pub HoldsWhereSimulated : Writes → (offsets : List ℕ) → Node → (first : ℕ) → (others : List ℕ)
    → (bound : ℕ) → Type 0
HoldsWhereSimulated writes offsets node first others bound =
    (rs : List Release) (until shift : ℕ) (trace : Trace) → Runs node rs until (Ok trace)
    → AllWork node.tasks (jobs_of node.tasks rs) first others
    → AreSteady node (jobs_of node.tasks rs) until first
    → OthersSteady node (jobs_of node.tasks rs) until first others
    → KeepClock node (jobs_of node.tasks rs) shift offsets (first ∷ others)
    → AtMost bound (ages_of until (outputs_of writes node.tasks until trace (first ∷ others)))
    × AtMost bound (reactions_of (outputs_of writes node.tasks until trace (first ∷ others)))
