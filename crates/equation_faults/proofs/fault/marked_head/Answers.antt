use Rattle.std.proofs.Common.{◌≡◌, map, rules}
use Rattle.std.specs.List.{slice_get}
use Rattle.spec_core.specs.declared.term.Term.TheFolds.{the_lemmas}
use Rattle.spec_core.specs.Constructors.{IsMarked}
use Rattle.spec_core.specs.Terms.{apply, terms, term_of}
use Rattle.spec_core.specs.TermText.{operation_name}
use Rattle.spec_core.specs.Theories.{theory_of, equation_of}
use Rattle.equation_faults.specs.Faults.{IsMarkedHead}
use Rattle.equation_faults.proofs.Options.{both_some}
use Rattle.equation_faults.proofs.fault.marked_head.Goals as goal

pub returns-in-App-clause-marked : goal.returns-in-App-clause-marked
returns-in-App-clause-marked c =
    let theory = theory_of c.args.algebra.now in
    let f = c.in-App.op.0 in
    let ps = terms (map term_of c.in-App.field-1.items) in
    let k : term_of c.args.equation.now.left ≡ apply f ps = search (rules, the_lemmas) in
    both_some c.marked_name.result (λ name. IsMarked theory f) (λ name. operation_name (slice_get theory.operations f) ≡ name.now)
    (λ name. IsMarkedHead theory (equation_of c.args.equation.now) name.now) (λ name m e. (f, (ps, k), m, e))
    c.marked_name.ensures.marked c.marked_name.ensures.name
