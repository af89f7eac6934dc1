use Rattle.std.proofs.Common.{rules, Bool, true, false, ◌≡◌, refl, sym, subst, ◌∙◌}
use denote.Enum.Bare.{sameb, same_true, same_false}
use Rattle.lotos_ast.specs.contracts.mark.Mark.{the_type}
use Rattle.lotos_ast.specs.declared.mark.Mark.{Mark}
use Rattle.lotos_ast.specs.MarkNumbers.{is_same_mark}
use Rattle.lotos_ast.proofs.OneReading.{same_itself}
use Rattle.lotos_ast.proofs.Tables.{same_equal}
use Rattle.lotos_ast.proofs.mark.Mark.is_same.Goals as goal

differing : (a b : Mark) (x : Bool) → is_same_mark a b ≡ x → (a ≡ b → ⊥) → x ≡ false
differing a b true h n = absurd (n (same_equal a b h))
differing a b false h n = refl

by_equality : (a b : Mark) (x : Bool) → sameb the_type a b ≡ x → x ≡ is_same_mark a b
by_equality a b true h = sym (subst (λ z. is_same_mark a z ≡ true) (same_true the_type (search rules) a b h) (same_itself a))
by_equality a b false h = sym (differing a b (is_same_mark a b) refl (same_false the_type a b h))

pub returns : goal.returns
returns c = c.eq.ensures ∙ by_equality c.args.self c.args.other _ refl
