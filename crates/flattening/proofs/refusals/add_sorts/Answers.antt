use Rattle.std.proofs.Common.{ap, ◌∙◌, ◌++◌}
use Rattle.std.specs.List.{flat_map}
use Rattle.lotos_ast.specs.declared.types.TypeDef.{TypeDef}
use Rattle.type_contents.specs.Contents.{Content, no_content}
use Rattle.type_copies.specs.UnknownSorts.{unknown_sorts}
use Rattle.flattening.proofs.Gathered.{zipped_next, zipped_all}
use Rattle.flattening.proofs.refusals.add_sorts.Goals as goal

pub loop-number-preserved : goal.loop-number-preserved
loop-number-preserved c = zipped_next (λ (e : TypeDef × Content). unknown_sorts e.1.items e.0) _ _ _ c.args.types.now c.args.contents.now c.loop-number.number c.index-types-number.result no_content c.loop-number-test.true c.requires c.index-types-number.is c.loop-number.invariant c.in_ok-add_sorts_of.ensures

pub returns : goal.returns
returns c = c.loop-number.invariant ∙ ap (λ zs. c.args.refusals.now.items ++ flat_map (λ (e : TypeDef × Content). unknown_sorts e.1.items e.0) zs) (zipped_all c.args.types.now c.args.contents.now c.loop-number.number c.loop-number-test.false)
