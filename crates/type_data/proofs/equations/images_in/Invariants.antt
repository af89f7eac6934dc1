use Rattle.std.proofs.Common.{◌≡◌, map, take}
use Rattle.std.specs.List.{filter}
use Rattle.spec_core.specs.Theories.{equation_of}
use Rattle.type_images.specs.Same.{is_in}
use Rattle.type_images.specs.Groups.{equations_of}
use Rattle.type_images.specs.Images.{equation_image}
use Rattle.type_images.specs.Views.{numbers_of, shared_of}
use Rattle.type_data.proofs.equations.images_in.Given as goal

abbrev pub invariant-loop-equation : goal.invariant-loop-equation
invariant-loop-equation l = map equation_of l.all.items ≡ map (equation_image (numbers_of l.news)) (filter (is_in (equations_of l.set)) (map shared_of (take l.equation-index l.equations)))
