use Rattle.std.proofs.Common.{arith, refl}
use Rattle.spec_core.specs.Sorts.{EquationFits}
use Rattle.spec_core.specs.Theories.{theory_of}
use Rattle.spec_core.proofs.Lists.{each-at}
use Rattle.cover_search.specs.Heads.{headed_equation}
use Rattle.cover_check.proofs.sorts.+some_asks.Goals as goal

pub asks_in-requires : goal.asks_in-requires
asks_in-requires t c =
    let within = c.in-len1-up.len_at_least in
    record {
      fits = each-at (EquationFits (theory_of c.args.algebra.now)) headed_equation _ _ _ c.first-item.result refl (omega (arith, within)) c.first-item.is c.requires.fit;
    }
