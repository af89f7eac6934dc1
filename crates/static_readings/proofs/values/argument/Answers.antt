use Rattle.std.proofs.Common.{rules, ◌≡◌, length, option_map, Some, None, sym, ap, subst}
use Rattle.spec_core.specs.declared.term.Term.TheFolds.{the_lemmas}
use Rattle.spec_core.specs.declared.term.Term.TheVariants.{Var}
use Rattle.spec_core.specs.Terms.{term_of, variable}
use Rattle.sort_overloads.specs.Judged.{Adds}
use Rattle.static_readings.specs.Calls.{IsArgumentRead, IsValueRead}
use Rattle.static_readings.specs.Views.{sort_if_known}
use Rattle.static_readings.proofs.Single.{argument_open}
use Rattle.static_readings.proofs.values.argument.Goals as goal

pub returns-then-len-before : goal.returns-then-len-before
returns-then-len-before c =
    let same : length c.value.new.refusals.items ≡ length c.args.refusals.now.items = search rules in
    let none : sort_if_known c.args.sort ≡ None = ap sort_if_known c.in-None.is in
    let first : term_of (Var 0) ≡ variable 0 = search (rules, the_lemmas) in
    subst (λ t. Adds (IsArgumentRead c.args.site.now (sort_if_known c.args.sort) c.args.expr.now (Some t)) c.args.refusals.now.items
    c.value.new.refusals.items) (sym first)
    (subst (λ o. Adds (IsArgumentRead c.args.site.now o c.args.expr.now (Some (variable 0))) c.args.refusals.now.items
    c.value.new.refusals.items) (sym none)
    (argument_open c.args.site.now c.args.expr.now (option_map term_of c.in_ok-found.found) c.args.refusals.now.items
    c.value.new.refusals.items
    (subst (λ o. Adds (IsValueRead c.args.site.now o c.args.expr.now (option_map term_of c.in_ok-found.found)) c.args.refusals.now.items
    c.value.new.refusals.items) none c.in_ok-found.ensures) same))
