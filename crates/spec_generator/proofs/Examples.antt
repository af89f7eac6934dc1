-- Generated texts, written out.
use Rattle.std.proofs.Common.{refl}
use Rattle.std.specs.Fmt.{digits}
use Rattle.spec_generator.specs.Examples.{AreAsWritten}

pub are_as_written : AreAsWritten
unfolding digits
are_as_written = record { one = refl; three = refl; four = refl; script_one = refl; script_three = refl }
