use Rattle.std.proofs.Common.{◌∙◌, sym}
use Rattle.sort_overloads.specs.Listed.{is_same_name}
use Rattle.sort_overloads.proofs.Any.{any-in}
use Rattle.static_equations.proofs.names.has_sort.Goals as goal

pub returns-then-has_name : goal.returns-then-has_name
returns-then-has_name c =
    any-in (λ other. is_same_name other c.args.name.now) _ _ _ c.loop-sort-test.true c.sort-item.is (sym c.has_name.ensures ∙ c.if-has_name.true)
