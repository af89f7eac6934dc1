use Rattle.std.proofs.Common.{map, subst}
use Rattle.std.specs.Prelude.{option_map}
use Rattle.spec_core.specs.Code.{node_of}
use Rattle.static_readings.specs.Views.{functionality_of}
use Rattle.static_compiler.specs.Parts.{Stands}
use Rattle.static_compiler.specs.Views.{maker_of}
use Rattle.static_compiler.proofs.Closed.{layers_read}
use Rattle.static_compiler.proofs.closing.close_layers.Goals as goal

pub returns-in_ok-put_layers-in-Some-clause-stands : goal.returns-in_ok-put_layers-in-Some-clause-stands
returns-in_ok-put_layers-in-Some-clause-stands c = λ base x at s. layers_read base x (functionality_of c.in-Some.ends) c.args.from (map maker_of c.args.all.items)
    (map node_of c.args.out.now.code.items) (map node_of c.put_layers.new.out.code.items) at c.in_ok-put_layers-in-Some.ensures.code
    (subst (λ f. Stands base x (map node_of c.args.out.now.code.items) (option_map functionality_of f)) c.in-Some.is s)
