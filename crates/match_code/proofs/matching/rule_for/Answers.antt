use Rattle.std.proofs.Common.{rules, IsTrue, sym, subst}
use Rattle.std.proofs.lemmas.Option.{IfSome_then}
use Rattle.spec_core.specs.Lists.{Each}
use Rattle.spec_core.specs.Terms.{apply}
use Rattle.spec_core.specs.Theories.{theory_of}
use Rattle.value_nodes.specs.Nodes.{IsNode}
use Rattle.rewriter.specs.Calls.{arguments_of}
use Rattle.rewriter.specs.Steps.{equation_at, IsMatch}
use Rattle.rewriter.proofs.Tops.{each_top}
use Rattle.match_code.proofs.matching.rule_for.Goals as goal

pub seek-requires-clause-left : goal.seek-requires-clause-left
seek-requires-clause-left c =
    subst (Each (IsNode c.args.nodes.now)) (sym c.top.ensures.seen)
    (each_top (IsNode c.args.nodes.now) c.args.count c.args.values.now c.requires.values)

pub returns-in-Some-clause-rule : goal.returns-in-Some-clause-rule
returns-in-Some-clause-rule c =
    let t = theory_of c.args.algebra.now in
    let noted : IsTrue c.is_unconditional.result = search rules in
    IfSome_then c.right.result c.right.ensures
    (λ r made. record {
      right = made.1 t c.requires.forms;
      unconditional = c.is_unconditional.ensures.yes noted t c.requires.forms;
      fits = subst (λ p. IsMatch c.args.nodes.now c.seek.new.bound (equation_at t p).left
          (apply c.args.op.0 (arguments_of c.args.nodes.now c.args.count c.args.values.now))) (sym made.0) c.in-Some.ensures.fits;
    })
