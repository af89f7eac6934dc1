use Rattle.sort_overloads.specs.Views.{context_of}
use Rattle.static_equations.specs.Variables.{all_variables, declarations}
use Rattle.static_equations.proofs.Scopes.{restored}
use Rattle.static_equations.proofs.body.add_part_of_sort.Goals as goal

pub returns-clause-context : goal.returns-clause-context
returns-clause-context c =
    let old = c.args.scope.now in
    restored old c.put_variables.new.scope c.truncate.new.self (all_variables (context_of old).sorts (declarations c.deref-2.result.now)) c.len-outer.result
    c.in_ok-put_variables.ensures.context c.len-outer.ensures.count c.truncate.ensures
