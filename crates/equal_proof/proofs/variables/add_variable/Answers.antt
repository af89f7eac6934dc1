use Rattle.std.proofs.Common.{◌≡◌, ◌+◌, ◌-◌, ◌∷◌, ◌++◌, ◌∙◌, [], ap, sym, true, false, nat_eq, if◌then◌else◌}
use Rattle.std.specs.List.{list_any}
use Rattle.equal_proof.proofs.variables.add_variable.Goals as goal

pub returns-in_ok-push : goal.returns-in_ok-push
returns-in_ok-push c =
    let n : list_any (nat_eq c.args.variable) c.args.found.now.items ≡ false =
    ap (list_any (nat_eq c.args.variable)) (sym c.deref.ensures.value) ∙ sym c.is_found.ensures ∙ c.if-not-is_found.true in
    c.in_ok-push.ensures.items
    ∙ ap (λ b. if b then c.args.found.now.items else c.args.found.now.items ++ c.args.variable ∷ []) (sym n)

pub returns-else-not-is_found : goal.returns-else-not-is_found
returns-else-not-is_found c =
    let n : list_any (nat_eq c.args.variable) c.args.found.now.items ≡ true =
    ap (list_any (nat_eq c.args.variable)) (sym c.deref.ensures.value) ∙ sym c.is_found.ensures ∙ c.if-not-is_found.false in
    ap (λ b. if b then c.args.found.now.items else c.args.found.now.items ++ c.args.variable ∷ []) (sym n)
