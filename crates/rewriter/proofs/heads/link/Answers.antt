use Rattle.std.proofs.Common.{◌<◌, length, slice_index_or, arith}
use Rattle.spec_core.specs.Theories.{Heads, theory_of}
use Rattle.rewriter.specs.Steps.{equation_at}
use Rattle.rewriter.proofs.Links.{linked, head_below, defaults}
use Rattle.rewriter.proofs.heads.link.Goals as goal

pub returns : goal.returns
returns c =
    let t = theory_of c.args.algebra.now in
    let op = c.head_of.result.0.0 in
    let hd : Heads op (equation_at t c.args.place) = (c.head_of.ensures.call.0, c.head_of.ensures.call.1) in
    let b = head_below t c.requires.executable c.args.place op c.requires.there hd in
    let l : op < length c.args.first.now = omega (arith, b, c.requires.linked.as_many) in
    record {
      linked = linked t c.requires.executable c.args.place op
          (slice_index_or c.args.first.now op 0) c.args.first.now c.args.next.now c.requires.there hd
          (defaults c.args.first.now op 0 (length t.equations) l) c.requires.linked;
    }
