use Rattle.std.proofs.Common.{rules, ◌≤◌, length, arith}
use Rattle.spec_core.specs.Theories.{theory_of}
use Rattle.rewriter.proofs.Calls.{counted}
use Rattle.rewriter.proofs.Links.{has_room}
use Rattle.rewriter.proofs.equations.most_variables.Goals as goal

pub returns : goal.returns
returns c =
    let past : length c.args.algebra.now.equations.items ≤ c.loop-place.place = search rules in
    record {
      room = has_room (theory_of c.args.algebra.now) c.requires.executable c.loop-place.most
          (λ j l. c.loop-place.invariant.room j (omega (arith, l, past, counted c.args.algebra.now)) l);
    }
