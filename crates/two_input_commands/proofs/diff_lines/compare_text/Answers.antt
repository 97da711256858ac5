use Rattle.std.proofs.Common.{refl}
use Rattle.two_input_commands.proofs.diff_lines.compare_text.Goals as goal

pub returns : goal.returns
returns c =
    record {
      old = refl;
      new = c.in_ok-set.ensures.0;
      owners = c.in_ok-owners.ensures;
      was = c.in_ok-was.ensures;
      is = c.in_ok-is.ensures;
      chains = (
        c.in_ok-set.linked.items,
        c.in_ok-set.ensures.1,
        rw c.deref.ensures.value at c.in_ok-chains.ensures,
      );
    }
