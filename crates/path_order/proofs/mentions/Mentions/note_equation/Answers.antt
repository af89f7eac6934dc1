use Rattle.std.proofs.Common.{rules, ◌≡◌, ◌⊎◌, map, sym, ap, subst, ◌∙◌}
use Rattle.path_order.specs.Mentioning.{AreNoted, MentionsAt}
use Rattle.spec_core.specs.Order.{HasOperation, PremisesHaveOperation}
use Rattle.spec_core.specs.Terms.{term_of, terms, apply}
use Rattle.spec_core.specs.Theories.{premise_of, equation_of}
use Rattle.spec_core.specs.declared.term.Term.TheFolds.{the_lemmas}
use Rattle.path_order.proofs.Noting.{noted_for_one, noted_so}
use Rattle.path_order.proofs.mentions.Mentions.note_equation.Goals as goal

pub returns-in_ok-note_premises-in-App : goal.returns-in_ok-note_premises-in-App
returns-in_ok-note_premises-in-App c =
    let e = equation_of c.args.equation.now in
    let f = c.in-App.op.0 in
    let ts = terms (map term_of c.in-App.field-1.items) in
    let k : term_of c.args.equation.now.left ≡ apply f ts = search (rules, the_lemmas) in
    let old = c.args.self.now in
    let left = c.note_term.new.self in
    let right = c.note_term-in-App.new.self in
    let new = c.note_premises.new.self in
    let premises = subst (λ ps. AreNoted (λ g h. PremisesHaveOperation g (map premise_of ps) × (h ≡ f)) right new) c.deref.ensures.value
    c.in_ok-note_premises-in-App.ensures in
    noted_so (λ g h. (HasOperation g e.left ⊎ HasOperation g e.right ⊎ PremisesHaveOperation g e.premises) × (h ≡ f)) (MentionsAt e) old new
    (λ g h r. ((ts, k ∙ ap (λ n. apply n ts) (sym r.1)), r.0))
    (λ g h m. (m.1, let same : apply f ts ≡ apply h m.0.0 = sym k ∙ m.0.1 in cc))
    (noted_for_one (λ g. HasOperation g e.left) (λ g. HasOperation g e.right ⊎ PremisesHaveOperation g e.premises) f old left new
    c.in_ok-note_term-in-App.ensures
    (noted_for_one (λ g. HasOperation g e.right) (λ g. PremisesHaveOperation g e.premises) f left right new c.in_ok-note_term-in-App-2.ensures premises))
