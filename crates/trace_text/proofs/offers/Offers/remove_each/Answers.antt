use Rattle.std.proofs.Common.{subst, take}
use Rattle.trace_text.specs.Pending.{without_offers}
use Rattle.trace_text.specs.Standing.{HasOffers}
use Rattle.trace_text.proofs.OfferSets.{without_more}
use Rattle.trace_text.proofs.offers.Offers.remove_each.Goals as goal

pub loop-name-preserved : goal.loop-name-preserved
loop-name-preserved c offers h =
    subst (HasOffers c.remove.new.self) (without_more c.args.names.now c.loop-name.name-index _ offers c.loop-name-test.true)
    (c.remove.ensures (without_offers (take c.loop-name.name-index c.args.names.now) offers) (c.loop-name.invariant offers h))
