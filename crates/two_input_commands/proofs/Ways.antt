-- Why no way is drawn.
use Rattle.std.proofs.Common.{◌≡◌, ℕ, List, None, refl}
use Rattle.std.specs.Prelude.{Ok, Err}
use Rattle.task_sheet.specs.Sheet.{Task}
use Rattle.command_line.specs.declared.calls.Options.{Options}
use Rattle.chain_tables.specs.Chains.{ChainData}
use Rattle.answering.specs.Asked.{asked_chain, no_such_chain}
use Rattle.answering.specs.declared.refusal.CommandRefusal.{CommandRefusal}
use Rattle.answering.specs.declared.refusal.CommandRefusal.TheVariants as refusal
use Rattle.two_input_commands.specs.Draw.{DrawsText}
use Rattle.two_input_commands.specs.Way.{DrawsWay}
use Rattle.two_input_commands.specs.declared.draw.Drawing.{Drawing}

-- nothing is drawn
pub undrawn : (word : List ℕ) (options : Options) (chains : List ChainData) (U : List Task)
    (text : List ℕ) (r : CommandRefusal) → DrawsText options U text (Err r)
    → DrawsWay word options chains U text (Err r)
undrawn word options chains U text (refusal.NoSuchChain name) is = absurd is
undrawn word options chains U text _ is = is

-- no chain has the name
pub unknown : (word : List ℕ) (options : Options) (chains : List ChainData) (U : List Task)
    (text : List ℕ) (d : Drawing) → DrawsText options U text (Ok d) → asked_chain chains word ≡ None
    → DrawsWay word options chains U text (Err (no_such_chain word))
unknown word options chains U text d drawn none = (d, drawn, none, refl)
