use Rattle.std.proofs.Common.{◌∙◌, sym, refl, Bor}
use Rattle.lotos_ast.specs.declared.token.Token.{Token}
use Rattle.sort_overloads.specs.Listed.{is_same_name}
use Rattle.static_check.proofs.Any.{any-at}
use Rattle.lotos_front.proofs.libraries.is_named.Goals as goal

pub returns-then-has_name : goal.returns-then-has_name
returns-then-has_name c =
    any-at (λ (t : Token). is_same_name t.text c.args.word.now) (λ (t : Bor Token). t.now) c.args.names.now _ _ _ refl c.loop-name-test.true c.name-item.is
    (sym c.has_name.ensures ∙ c.if-has_name.true)
