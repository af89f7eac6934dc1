use Rattle.std.proofs.Common.{map, sym, ◌∙◌}
use Rattle.std.proofs.lemmas.List.{length-map}
use Rattle.type_images.specs.Views.{shared_of}
use Rattle.type_equation_copies.specs.Contents.{no_equations}
use Rattle.type_equation_copies.specs.Views.{made_at}
use Rattle.type_data.proofs.Lists.{of_data_next}
use Rattle.type_data.proofs.equations.all_of_data.Goals as goal

pub loop-number-preserved : goal.loop-number-preserved
loop-number-preserved c = of_data_next (λ z. z.all) no_equations c.args.formal.now (map made_at c.args.found.now) c.loop-number.number _ (map shared_of c.loop-number.all.items) (map shared_of c.add_type.new.all.items) c.loop-number-test.true (c.requires ∙ sym (length-map c.args.found.now made_at)) c.loop-number.invariant c.in_ok-add_type.ensures
