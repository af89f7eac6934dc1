use Rattle.std.proofs.Common.{map, ◌++◌, ap, ◌∙◌}
use Rattle.std.specs.List.{slice_index_or}
use Rattle.type_images.specs.Views.{shared_of}
use Rattle.type_equation_copies.specs.Contents.{all_of, no_equations}
use Rattle.type_equation_copies.specs.Views.{made_at}
use Rattle.type_equation_copies.proofs.Lists.{gathered_behind}
use Rattle.type_equation_copies.proofs.made.add_all_of.Goals as goal

pub loop-name-preserved : goal.loop-name-preserved
loop-name-preserved c =
    let table = map made_at c.args.found.now in
    let now = map shared_of c.loop-name.all.items in
    gathered_behind (all_of c.args.prepared.now.types.now table) (map shared_of c.args.all.now.items) now (map shared_of c.add_shared.new.all.items) c.args.names.now c.loop-name.name-index c.name-item.result c.loop-name-test.true c.name-item.is c.loop-name.invariant
    (c.in_ok-add_shared.ensures ∙ ap (λ z. now ++ z) (c.all_at.ensures ∙ ap (λ k. (slice_index_or table k no_equations).all) c.in_ok-number.ensures))
