use Rattle.std.proofs.Common.{rules, map, drop, refl, sym, ap, subst, [], ◌∷◌, ◌+◌, ◌∙◌}
use Rattle.std.proofs.lemmas.List.{map-append}
use Rattle.spec_core.specs.Lists.{Each}
use Rattle.spec_core.proofs.Lists.{each-at, map_drop}
use Rattle.script_text.specs.Scripts.{WishFits}
use Rattle.script_text.specs.Wishes.{wished_of, all_wished_of}
use Rattle.match_code.specs.Prepared.{program_in}
use Rattle.script_offers.specs.Faults.{IsFaultOf}
use Rattle.script_offers.specs.Given.{all_given, IsValuedWithin}
use Rattle.script_offers.specs.Valued.{all_wishes_of, AreValued}
use Rattle.script_offers.proofs.Comings.{handed_on}
use Rattle.script_offers.proofs.Gathered.{gathered_more, gathered_fault}
use Rattle.script_offers.proofs.clients.valued_clients.Goals as goal

pub offers_of-requires-clause-fit : goal.offers_of-requires-clause-fit
offers_of-requires-clause-fit c =
    subst (λ ws. Each (WishFits (program_in c.args.prepared.now)) (map wished_of ws)) (sym c.deref.ensures.value)
    (each-at (Each (WishFits (program_in c.args.prepared.now))) all_wished_of c.args.clients.now c.args.clients.now
    c.loop-wishes.wishes-index c.wishes-item.result refl c.loop-wishes-test.true c.wishes-item.is c.requires.fit)

pub returns-in_err-offers_of-clause-fault : goal.returns-in_err-offers_of-clause-fault
returns-in_err-offers_of-clause-fault c =
    handed_on c.from_residual.result _ c.in_err-offers_of.field-0.0 (search rules)
    (gathered_fault (program_in c.args.prepared.now).theory c.args.budget (AreValued (program_in c.args.prepared.now).theory) all_given
    (map all_wished_of c.args.clients.now) (map all_wishes_of c.loop-wishes.all.items) (all_wished_of c.wishes-item.result)
    (map all_wished_of (drop c.loop-wishes.wishes-index c.args.clients.now))
    (map all_wished_of (drop (c.loop-wishes.wishes-index + 1) c.args.clients.now)) c.in_err-offers_of.field-0.0 c.loop-wishes.invariant
    (map_drop all_wished_of c.args.clients.now c.loop-wishes.wishes-index c.wishes-item.result c.loop-wishes-test.true c.wishes-item.is)
    (subst
    (λ ws. IsFaultOf (program_in c.args.prepared.now).theory c.args.budget (all_given (map wished_of ws)) c.in_err-offers_of.field-0.0)
    c.deref.ensures.value c.in_err-offers_of.ensures.fault))

pub loop-wishes-preserved : goal.loop-wishes-preserved
loop-wishes-preserved c =
    gathered_more (AreValued (program_in c.args.prepared.now).theory) all_given
    (IsValuedWithin (program_in c.args.prepared.now).theory c.args.budget) (map all_wished_of c.args.clients.now)
    (map all_wishes_of c.loop-wishes.all.items) (map all_wishes_of c.push.new.self.items) (all_wished_of c.wishes-item.result)
    (all_wishes_of c.in_ok-offers_of.field-0) (map all_wished_of (drop c.loop-wishes.wishes-index c.args.clients.now))
    (map all_wished_of (drop (c.loop-wishes.wishes-index + 1) c.args.clients.now)) c.loop-wishes.invariant
    (map_drop all_wished_of c.args.clients.now c.loop-wishes.wishes-index c.wishes-item.result c.loop-wishes-test.true c.wishes-item.is)
    (subst (λ ws. AreValued (program_in c.args.prepared.now).theory (map wished_of ws) (all_wishes_of c.in_ok-offers_of.field-0))
    c.deref.ensures.value c.in_ok-offers_of.ensures.valued)
    (subst (λ ws. Each (IsValuedWithin (program_in c.args.prepared.now).theory c.args.budget) (all_given (map wished_of ws)))
    c.deref.ensures.value c.in_ok-offers_of.ensures.within)
    (ap (map all_wishes_of) c.in_ok-push.ensures.items
    ∙ map-append all_wishes_of c.loop-wishes.all.items (c.in_ok-offers_of.field-0 ∷ []))
