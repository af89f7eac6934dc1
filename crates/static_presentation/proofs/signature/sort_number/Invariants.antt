use Rattle.std.proofs.Common.{◌≡◌, ℕ, ◌<◌, get_or, false}
use Rattle.std.specs.Str.{bytes_eq}
use Rattle.type_contents.specs.declared.own.Declared.{Declared}
use Rattle.type_contents.specs.Views.{described_of}
use Rattle.static_presentation.proofs.signature.sort_number.Given as goal

abbrev pub invariant-loop-i : goal.invariant-loop-i
invariant-loop-i l = (k : ℕ) (d : Declared) → k < l.i → bytes_eq (described_of (get_or l.sorts k d)).item.name l.name ≡ false
