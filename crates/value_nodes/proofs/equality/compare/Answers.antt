use Rattle.std.proofs.Common.{rules, ◌≡◌, ◌++◌, ◌∷◌, [], refl, sym, subst}
use Rattle.spec_core.specs.Lists.{Each}
use Rattle.spec_core.specs.Terms.{no_terms}
use Rattle.spec_core.proofs.Lists.{each_push}
use Rattle.value_nodes.specs.declared.equality.Pair.TheVariants.{Whole, Arguments}
use Rattle.value_nodes.specs.Nodes.{arguments, tree_at}
use Rattle.value_nodes.specs.Parts.{IsAlike, IsPair}
use Rattle.value_nodes.proofs.Nodes.{within}
use Rattle.value_nodes.proofs.Parts.{each_less, same_parts}
use Rattle.value_nodes.proofs.equality.compare.Goals as goal

pub returns-in_ok-push-in-One-at-2-clause-there : goal.returns-in_ok-push-in-One-at-2-clause-there
returns-in_ok-push-in-One-at-2-clause-there c = λ h.
    let q : c.push-in-One-at-2.new.self.items ≡ c.args.pairs.now.items ++ Whole c.in-One.arg c.in-One-at-2.other ∷ [] = search rules in
    subst (Each (IsPair c.args.nodes.now)) (sym q)
    (each_push (IsPair c.args.nodes.now) c.args.pairs.now.items (Whole c.in-One.arg c.in-One-at-2.other) c.requires.others (
      within c.args.nodes.now c.in-One.arg c.in-One.ensures.seen.0,
      within c.args.nodes.now c.in-One-at-2.other c.in-One-at-2.ensures.seen.0,
    ))

pub returns-in_ok-push-in-One-at-2-clause-to : goal.returns-in_ok-push-in-One-at-2-clause-to
returns-in_ok-push-in-One-at-2-clause-to c = λ h all.
    let q : c.push-in-One-at-2.new.self.items ≡ c.args.pairs.now.items ++ Whole c.in-One.arg c.in-One-at-2.other ∷ [] = search rules in
    let o = each_less (IsAlike c.args.nodes.now) c.args.pairs.now.items (Whole c.in-One.arg c.in-One-at-2.other)
    (subst (Each (IsAlike c.args.nodes.now)) q all) in (
      subst (IsAlike c.args.nodes.now) (sym c.in-Arguments.is)
          (same_parts c.in-One.op.0 c.in-One-at-2.op.0 (tree_at c.args.nodes.now c.in-Arguments.a)
          (tree_at c.args.nodes.now c.in-Arguments.b) (tree_at c.args.nodes.now c.in-One.arg)
          (tree_at c.args.nodes.now c.in-One-at-2.other) no_terms no_terms c.in-One.ensures.seen.1 c.in-One-at-2.ensures.seen.1 o.1 refl),
      o.0,
    )

pub returns-in_ok-push-in-More-at-3-2-clause-there :
    goal.returns-in_ok-push-in-More-at-3-2-clause-there
returns-in_ok-push-in-More-at-3-2-clause-there c = λ h.
    let q : c.push-in-More-at-3.new.self.items ≡ c.args.pairs.now.items ++ Arguments c.in-More.rest c.in-More-at-3.others ∷ [] =
    search rules in
    let r : c.push-in-More-at-3-2.new.self.items ≡ c.push-in-More-at-3.new.self.items ++ Whole c.in-More.arg c.in-More-at-3.other ∷ [] =
    search rules in
    let a = subst (Each (IsPair c.args.nodes.now)) (sym q)
    (each_push (IsPair c.args.nodes.now) c.args.pairs.now.items (Arguments c.in-More.rest c.in-More-at-3.others) c.requires.others (
      within c.args.nodes.now c.in-More.rest c.in-More.ensures.seen.1,
      within c.args.nodes.now c.in-More-at-3.others c.in-More-at-3.ensures.seen.1,
    )) in
    subst (Each (IsPair c.args.nodes.now)) (sym r)
    (each_push (IsPair c.args.nodes.now) c.push-in-More-at-3.new.self.items (Whole c.in-More.arg c.in-More-at-3.other) a (
      within c.args.nodes.now c.in-More.arg c.in-More.ensures.seen.0,
      within c.args.nodes.now c.in-More-at-3.other c.in-More-at-3.ensures.seen.0,
    ))

pub returns-in_ok-push-in-More-at-3-2-clause-to : goal.returns-in_ok-push-in-More-at-3-2-clause-to
returns-in_ok-push-in-More-at-3-2-clause-to c = λ h all.
    let q : c.push-in-More-at-3.new.self.items ≡ c.args.pairs.now.items ++ Arguments c.in-More.rest c.in-More-at-3.others ∷ [] =
    search rules in
    let r : c.push-in-More-at-3-2.new.self.items ≡ c.push-in-More-at-3.new.self.items ++ Whole c.in-More.arg c.in-More-at-3.other ∷ [] =
    search rules in
    let o = each_less (IsAlike c.args.nodes.now) c.push-in-More-at-3.new.self.items (Whole c.in-More.arg c.in-More-at-3.other)
    (subst (Each (IsAlike c.args.nodes.now)) r all) in
    let p = each_less (IsAlike c.args.nodes.now) c.args.pairs.now.items (Arguments c.in-More.rest c.in-More-at-3.others)
    (subst (Each (IsAlike c.args.nodes.now)) q o.0) in (
      subst (IsAlike c.args.nodes.now) (sym c.in-Arguments.is)
          (same_parts c.in-More.op.0 c.in-More-at-3.op.0 (tree_at c.args.nodes.now c.in-Arguments.a)
          (tree_at c.args.nodes.now c.in-Arguments.b) (tree_at c.args.nodes.now c.in-More.arg)
          (tree_at c.args.nodes.now c.in-More-at-3.other) (arguments (tree_at c.args.nodes.now c.in-More.rest))
          (arguments (tree_at c.args.nodes.now c.in-More-at-3.others)) c.in-More.ensures.seen.2 c.in-More-at-3.ensures.seen.2 o.1 p.1),
      p.0,
    )
