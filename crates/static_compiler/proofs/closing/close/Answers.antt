use Rattle.std.proofs.Common.{map, subst, sym}
use Rattle.std.specs.Prelude.{option_map}
use Rattle.spec_core.specs.Code.{node_of}
use Rattle.static_readings.specs.Views.{functionality_of}
use Rattle.static_compiler.specs.Frames.{framed}
use Rattle.static_compiler.specs.Parts.{Stands}
use Rattle.static_compiler.specs.Views.{frame_of}
use Rattle.static_compiler.proofs.closing.close.Goals as goal

pub returns-in-Hindered-clause-stands : goal.returns-in-Hindered-clause-stands
returns-in-Hindered-clause-stands c = λ base x at s.
    subst (λ f. Stands base (framed c.args.opened.mark.from (frame_of f) x) (map node_of c.close_hindered.new.out.code.items) (option_map functionality_of c.close_hindered.result))
    (sym c.in-Hindered.is) (c.close_hindered.ensures.stands base x (option_map functionality_of c.args.found) at s)
