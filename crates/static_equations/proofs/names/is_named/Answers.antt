use Rattle.std.proofs.Common.{◌∙◌, sym, ap}
use Rattle.std.proofs.lemmas.Option.{slice_get_past}
use Rattle.spec_core.proofs.Lists.{slice_get_next}
use Rattle.sort_overloads.specs.Listed.{is_name_of}
use Rattle.static_equations.proofs.names.is_named.Goals as goal

pub returns-then-place-sorts : goal.returns-then-place-sorts
returns-then-place-sorts c = c.has_name.ensures ∙ sym (ap (is_name_of c.args.name.now) (slice_get_next c.args.sorts.now c.args.sort.0 c.index-sorts-place.result c.if-place-sorts.true c.index-sorts-place.is))

pub returns-else-place-sorts : goal.returns-else-place-sorts
returns-else-place-sorts c = sym (ap (is_name_of c.args.name.now) (slice_get_past c.args.sorts.now c.args.sort.0 c.if-place-sorts.false))
