use Rattle.std.proofs.Common.{◌∙◌, ◌++◌, ap, sym, map, drop}
use Rattle.std.proofs.lemmas.List.{drop-map}
use Rattle.spec_core.specs.Code.{variable_of}
use Rattle.sort_overloads.specs.Views.{declared_of}
use Rattle.static_readings.specs.Declarations.{numbered_from}
use Rattle.static_readings.proofs.site.numbered.Goals as goal

pub loop-i-init : goal.loop-i-init
loop-i-init c =
    ap (λ all. map variable_of all ++ numbered_from c.args.first (map declared_of (drop c.args.first c.args.variables.now))) c.new-all.ensures.items
    ∙ ap (numbered_from c.args.first) (sym (drop-map declared_of c.args.first c.args.variables.now))
