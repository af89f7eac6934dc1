use Rattle.std.proofs.Common.{arith, ap, ◌∙◌, ◌≡◌, ◌||◌}
use Rattle.std.specs.List.{list_any}
use Rattle.sort_overloads.specs.Expressions.{between}
use Rattle.sort_overloads.specs.Listed.{is_same_name}
use Rattle.sort_overloads.specs.Readings.{spelling}
use Rattle.sort_overloads.specs.Refused.{is_called}
use Rattle.sort_overloads.proofs.Numbered.{either-known}
use Rattle.sort_overloads.proofs.unknowns.has_operation.Goals as goal

pub returns : goal.returns
returns c = λ operations h.
    let name = c.args.name.now in
    let alone = c.in_ok-before.ensures.known operations h in
    let infix_one = c.in_ok-between.ensures.known operations h ∙ ap (λ z. list_any (λ d. is_same_name d.name z) operations) (c.as_str.ensures.value ∙ c.in_ok-spelled.ensures) in
    let both_known : c.in_ok-before.before || c.in_ok-between.between ≡ list_any (is_called name) operations =
    ap (λ z. z || c.in_ok-between.between) alone ∙ ap (λ z. list_any (λ d. is_same_name d.name name) operations || z) infix_one ∙ either-known name (spelling between name) operations in
    grind (arith, both_known)
