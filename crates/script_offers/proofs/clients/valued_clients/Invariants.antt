use Rattle.std.proofs.Common.{map, drop}
use Rattle.spec_core.specs.Theories.{theory_of}
use Rattle.script_text.specs.Wishes.{all_wished_of}
use Rattle.script_offers.specs.Given.{all_given, IsValuedWithin}
use Rattle.script_offers.specs.Valued.{all_wishes_of, AreValued}
use Rattle.script_offers.proofs.Gathered.{Gathered}
use Rattle.script_offers.proofs.clients.valued_clients.Given as goal

abbrev pub invariant-loop-wishes : goal.invariant-loop-wishes
invariant-loop-wishes l =
    Gathered (AreValued (theory_of l.prepared.checked.now.algebra)) all_given (IsValuedWithin (theory_of l.prepared.checked.now.algebra) l.budget)
    (map all_wished_of l.clients) (map all_wishes_of l.all.items) (map all_wished_of (drop l.wishes-index l.clients))
