use Rattle.std.proofs.Common.{◌≡◌, ℕ, ◌<◌, get_or, false}
use Rattle.lotos_ast.specs.declared.types.TypeDef.{TypeDef}
use Rattle.type_contents.specs.Items.{small}
use Rattle.type_contents.specs.Uses.{is_called}
use Rattle.type_contents.proofs.numbers.number_of.Given as goal

abbrev pub invariant-loop-i : goal.invariant-loop-i
invariant-loop-i l = (k : ℕ) (d : TypeDef) → k < l.i → is_called (small l.name) (get_or l.types k d) ≡ false
