use Rattle.std.proofs.Common.{map, drop}
use Rattle.spec_core.specs.Theories.{theory_of}
use Rattle.script_text.specs.Wishes.{wished_field_of}
use Rattle.script_offers.specs.Given.{given_in, IsValuedWithin}
use Rattle.script_offers.specs.Valued.{IsValuedField}
use Rattle.script_offers.proofs.Gathered.{Gathered}
use Rattle.script_offers.proofs.offers.valued_fields.Given as goal

abbrev pub invariant-loop-field : goal.invariant-loop-field
invariant-loop-field l =
    Gathered (IsValuedField (theory_of l.prepared.checked.now.algebra)) given_in (IsValuedWithin (theory_of l.prepared.checked.now.algebra) l.budget)
    (map wished_field_of l.fields) l.all.items (map wished_field_of (drop l.field-index l.fields))
