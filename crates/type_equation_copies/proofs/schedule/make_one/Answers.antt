use Rattle.std.proofs.Common.{map, ap, sym, ◌∙◌}
use Rattle.spec_core.specs.Theories.{equation_of}
use Rattle.type_equation_copies.specs.Contents.{made_by}
use Rattle.type_equation_copies.specs.Views.{made_at}
use Rattle.type_equation_copies.proofs.Schedules.{one_made}
use Rattle.type_equation_copies.proofs.schedule.make_one.Goals as goal

pub returns-clause-settled : goal.returns-clause-settled
returns-clause-settled c n ready settled =
    let types = c.args.prepared.now.types.now in
    one_made types c.args.own.now c.args.found.now.items n c.args.number c.in_ok-equations.equations c.index-prepared-number.result c.index-own-number.result c.requires.own c.requires.length c.requires.number c.index-prepared-number.is c.index-own-number.is
    (c.in_ok-equations.ensures
    ∙ ap (made_by types (map made_at c.deref.result.now) (map equation_of c.deref-2.result.now)) (sym c.index-prepared-number.is)
    ∙ ap (λ f. made_by types (map made_at f) (map equation_of c.deref-2.result.now) c.index-prepared-number.result) c.deref.ensures.value
    ∙ ap (λ o. made_by types (map made_at c.args.found.now.items) (map equation_of o) c.index-prepared-number.result) c.deref-2.ensures.value)
    ready settled
