use Rattle.std.proofs.Common.{rules, map, drop, refl, ap, [], ◌∷◌, ◌+◌, ◌∙◌}
use Rattle.std.proofs.lemmas.List.{map-append}
use Rattle.spec_core.proofs.Lists.{each-at, map_drop}
use Rattle.script_text.specs.Scripts.{WishFits}
use Rattle.script_text.specs.Wishes.{wished_of}
use Rattle.match_code.specs.Prepared.{program_in}
use Rattle.script_offers.specs.Given.{given_by, IsValuedWithin}
use Rattle.rule_model.specs.WishViews.{wish_of}
use Rattle.script_offers.specs.Valued.{IsValuedWish}
use Rattle.script_offers.proofs.Comings.{handed_on}
use Rattle.script_offers.proofs.Gathered.{gathered_more, gathered_fault}
use Rattle.script_offers.proofs.offers.valued.Goals as goal

pub offer_of-requires-clause-fits : goal.offer_of-requires-clause-fits
offer_of-requires-clause-fits c =
    each-at (WishFits (program_in c.args.prepared.now)) wished_of c.args.wishes.now c.args.wishes.now c.loop-wish.wish-index
    c.wish-item.result refl c.loop-wish-test.true c.wish-item.is c.requires.fit

pub returns-in_err-offer_of-clause-fault : goal.returns-in_err-offer_of-clause-fault
returns-in_err-offer_of-clause-fault c =
    handed_on c.from_residual.result _ c.in_err-offer_of.field-0.0 (search rules)
    (gathered_fault (program_in c.args.prepared.now).theory c.args.budget (IsValuedWish (program_in c.args.prepared.now).theory)
    (λ w. given_by w.fields) (map wished_of c.args.wishes.now) (map wish_of c.loop-wish.all.items) (wished_of c.wish-item.result)
    (map wished_of (drop c.loop-wish.wish-index c.args.wishes.now)) (map wished_of (drop (c.loop-wish.wish-index + 1) c.args.wishes.now))
    c.in_err-offer_of.field-0.0 c.loop-wish.invariant
    (map_drop wished_of c.args.wishes.now c.loop-wish.wish-index c.wish-item.result c.loop-wish-test.true c.wish-item.is)
    c.in_err-offer_of.ensures.fault)

pub loop-wish-preserved : goal.loop-wish-preserved
loop-wish-preserved c =
    gathered_more (IsValuedWish (program_in c.args.prepared.now).theory) (λ w. given_by w.fields)
    (IsValuedWithin (program_in c.args.prepared.now).theory c.args.budget) (map wished_of c.args.wishes.now)
    (map wish_of c.loop-wish.all.items) (map wish_of c.push.new.self.items) (wished_of c.wish-item.result)
    (wish_of c.in_ok-offer_of.field-0) (map wished_of (drop c.loop-wish.wish-index c.args.wishes.now))
    (map wished_of (drop (c.loop-wish.wish-index + 1) c.args.wishes.now)) c.loop-wish.invariant
    (map_drop wished_of c.args.wishes.now c.loop-wish.wish-index c.wish-item.result c.loop-wish-test.true c.wish-item.is)
    c.in_ok-offer_of.ensures.valued c.in_ok-offer_of.ensures.within
    (ap (map wish_of) c.in_ok-push.ensures.items ∙ map-append wish_of c.loop-wish.all.items (c.in_ok-offer_of.field-0 ∷ []))
