use Rattle.std.proofs.Common.{map, drop}
use Rattle.spec_core.specs.Theories.{theory_of}
use Rattle.script_text.specs.Wishes.{wished_of}
use Rattle.script_offers.specs.Given.{given_by, IsValuedWithin}
use Rattle.rule_model.specs.WishViews.{wish_of}
use Rattle.script_offers.specs.Valued.{IsValuedWish}
use Rattle.script_offers.proofs.Gathered.{Gathered}
use Rattle.script_offers.proofs.offers.valued.Given as goal

abbrev pub invariant-loop-wish : goal.invariant-loop-wish
invariant-loop-wish l =
    Gathered (IsValuedWish (theory_of l.prepared.checked.now.algebra)) (λ w. given_by w.fields)
    (IsValuedWithin (theory_of l.prepared.checked.now.algebra) l.budget) (map wished_of l.wishes) (map wish_of l.all.items)
    (map wished_of (drop l.wish-index l.wishes))
