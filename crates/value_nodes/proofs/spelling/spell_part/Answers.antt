use Rattle.std.proofs.Common.{rules, ◌≡◌, ◌++◌, ◌∷◌, [], map, sym, ap, subst, ◌∙◌}
use Rattle.spec_core.specs.Lists.{Each}
use Rattle.spec_core.specs.Numbers.{op_number}
use Rattle.spec_core.proofs.Lists.{each_push}
use Rattle.value_nodes.specs.declared.spelling.Part.TheVariants.{Whole, Arguments}
use Rattle.value_nodes.specs.Parts.{word, words, IsPart}
use Rattle.value_nodes.proofs.Nodes.{within}
use Rattle.value_nodes.proofs.Parts.{whole_spelled, one_spelled, more_spelled}
use Rattle.value_nodes.proofs.spelling.spell_part.Goals as goal

pub returns-in_ok-push-in-Whole-2-clause-spelled :
    goal.returns-in_ok-push-in-Whole-2-clause-spelled
returns-in_ok-push-in-Whole-2-clause-spelled c =
    let p : c.push.new.self.items ≡ c.args.ops.now.items ++ c.op.result ∷ [] = search rules in
    let q : c.push-in-Whole.new.self.items ≡ c.args.parts.now.items ++ Arguments c.in-Whole.node ∷ [] = search rules in
    ap (λ os. map op_number os ++ words c.args.nodes.now c.push-in-Whole.new.self.items) p
    ∙ ap (λ ps. map op_number (c.args.ops.now.items ++ c.op.result ∷ []) ++ words c.args.nodes.now ps) q
    ∙ whole_spelled c.args.nodes.now c.args.ops.now.items c.op.result c.in-Whole.node c.args.parts.now.items c.op.ensures.head
    ∙ ap (λ p. map op_number c.args.ops.now.items ++ (word c.args.nodes.now p ++ words c.args.nodes.now c.args.parts.now.items))
    (sym c.in-Whole.is)

pub returns-in_ok-push-in-One-clause-there : goal.returns-in_ok-push-in-One-clause-there
returns-in_ok-push-in-One-clause-there c =
    let q : c.push-in-One.new.self.items ≡ c.args.parts.now.items ++ Whole c.in-One.arg ∷ [] = search rules in
    subst (Each (IsPart c.args.nodes.now)) (sym q)
    (each_push (IsPart c.args.nodes.now) c.args.parts.now.items (Whole c.in-One.arg) c.requires.others
    (within c.args.nodes.now c.in-One.arg c.in-One.ensures.seen.0))

pub returns-in_ok-push-in-One-clause-spelled : goal.returns-in_ok-push-in-One-clause-spelled
returns-in_ok-push-in-One-clause-spelled c =
    let q : c.push-in-One.new.self.items ≡ c.args.parts.now.items ++ Whole c.in-One.arg ∷ [] = search rules in
    ap (λ us. map op_number c.args.ops.now.items ++ us)
    (ap (words c.args.nodes.now) q
    ∙ one_spelled c.args.nodes.now c.in-One.op.0 c.in-Arguments.node c.in-One.arg c.args.parts.now.items c.in-One.ensures.seen.1
    ∙ ap (λ p. word c.args.nodes.now p ++ words c.args.nodes.now c.args.parts.now.items) (sym c.in-Arguments.is))

pub returns-in_ok-push-in-More-2-clause-there : goal.returns-in_ok-push-in-More-2-clause-there
returns-in_ok-push-in-More-2-clause-there c =
    let q : c.push-in-More.new.self.items ≡ c.args.parts.now.items ++ Arguments c.in-More.rest ∷ [] = search rules in
    let r : c.push-in-More-2.new.self.items ≡ c.push-in-More.new.self.items ++ Whole c.in-More.arg ∷ [] = search rules in
    let a = subst (Each (IsPart c.args.nodes.now)) (sym q)
    (each_push (IsPart c.args.nodes.now) c.args.parts.now.items (Arguments c.in-More.rest) c.requires.others
    (within c.args.nodes.now c.in-More.rest c.in-More.ensures.seen.1)) in
    subst (Each (IsPart c.args.nodes.now)) (sym r)
    (each_push (IsPart c.args.nodes.now) c.push-in-More.new.self.items (Whole c.in-More.arg) a
    (within c.args.nodes.now c.in-More.arg c.in-More.ensures.seen.0))

pub returns-in_ok-push-in-More-2-clause-spelled : goal.returns-in_ok-push-in-More-2-clause-spelled
returns-in_ok-push-in-More-2-clause-spelled c =
    let q : c.push-in-More.new.self.items ≡ c.args.parts.now.items ++ Arguments c.in-More.rest ∷ [] = search rules in
    let r : c.push-in-More-2.new.self.items ≡ c.push-in-More.new.self.items ++ Whole c.in-More.arg ∷ [] = search rules in
    ap (λ us. map op_number c.args.ops.now.items ++ us)
    (ap (words c.args.nodes.now) (r ∙ ap (λ ps. ps ++ Whole c.in-More.arg ∷ []) q)
    ∙ more_spelled c.args.nodes.now c.in-More.op.0 c.in-Arguments.node c.in-More.arg c.in-More.rest c.args.parts.now.items
    c.in-More.ensures.seen.2
    ∙ ap (λ p. word c.args.nodes.now p ++ words c.args.nodes.now c.args.parts.now.items) (sym c.in-Arguments.is))
