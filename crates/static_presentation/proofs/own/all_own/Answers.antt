use Rattle.std.proofs.Common.{[], map}
use Rattle.type_contents.specs.Views.{described_of}
use Rattle.static_equations.proofs.Gatherings.{adds-none}
use Rattle.static_presentation.specs.Own.{IsOwnOf}
use Rattle.static_presentation.specs.Views.{equations_of}
use Rattle.static_presentation.proofs.OwnReadings.{own-next, own-all}
use Rattle.static_presentation.proofs.own.all_own.Goals as goal

pub loop-number-init : goal.loop-number-init
loop-number-init c =
    rw c.new-all.ensures.items (adds-none (IsOwnOf (map described_of c.args.flat.now.sorts.items) (map described_of c.args.flat.now.operations.items)) [] c.args.refusals.now.items)

pub loop-number-preserved : goal.loop-number-preserved
loop-number-preserved c =
    own-next (map described_of c.args.flat.now.sorts.items) (map described_of c.args.flat.now.operations.items) c.args.types.now c.args.flat.now.contents c.loop-number.number c.index-types-number.result
    c.loop-number.all.items c.push.new.self.items c.in_ok-own.own c.args.refusals.now.items c.loop-number.refusals.items c.own_of.new.refusals.items
    c.loop-number-test.true c.requires.as_many c.index-types-number.is c.loop-number.invariant c.in_ok-push.ensures.items c.in_ok-own.ensures.read

pub returns : goal.returns
returns c = record {
  own = own-all (map described_of c.args.flat.now.sorts.items) (map described_of c.args.flat.now.operations.items) c.args.types.now c.args.flat.now.contents c.loop-number.number (map equations_of c.loop-number.all.items)
      c.args.refusals.now.items c.loop-number.refusals.items c.loop-number-test.false c.loop-number.invariant;
}
