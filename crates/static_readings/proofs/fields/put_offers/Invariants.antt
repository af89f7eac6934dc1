use Rattle.std.proofs.Common.{◌≡◌, take}
use Rattle.static_readings.specs.Offers.{offered_variables}
use Rattle.static_readings.specs.Sites.{with_variables}
use Rattle.static_readings.proofs.fields.put_offers.Given as goal

abbrev pub invariant-loop-one : goal.invariant-loop-one
invariant-loop-one l = l.site ≡ with_variables l.fn.site (offered_variables l.fn.site (take l.one-index l.from))
