use Rattle.std.proofs.Common.{◌∙◌, ap, subst, ◌++◌, Bor, map}
use Rattle.std.specs.List.{flat_map}
use Rattle.lotos_ast.specs.declared.token.Token.{Token}
use Rattle.type_names.specs.NameSets.{IsSetOf, unless_known}
use Rattle.type_names.proofs.Sets.{unknown_by}
use Rattle.type_names.proofs.unknown.add_unknown_uses.Goals as goal

pub returns : goal.returns
returns c =
    let old = c.args.refusals.now.items in
    let known = c.in_ok-known.known in
    c.in_ok-add_each_unless_known.ensures
    ∙ ap (λ ts. old ++ flat_map (unless_known known) ts) (ap (map (λ (t : Bor Token). t.now)) c.deref-2.ensures.value ∙ c.in_ok-uses.ensures)
    ∙ ap (λ z. old ++ z) (unknown_by known c.args.types.now _
    (subst (λ ts. IsSetOf known ts) (ap (map (λ (t : Bor Token). t.now)) c.deref.ensures.value ∙ c.in_ok-names.ensures) c.in_ok-known.ensures))
