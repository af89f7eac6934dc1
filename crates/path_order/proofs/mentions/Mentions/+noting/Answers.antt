use Rattle.std.proofs.Common.{rules, ◌≡◌, map, sym, subst}
use Rattle.path_order.specs.Mentioning.{AreNoted}
use Rattle.spec_core.specs.Lists.{OneOf}
use Rattle.spec_core.specs.Order.{HasOperation, AnyHasOperation}
use Rattle.spec_core.specs.Terms.{term_of, terms, apply}
use Rattle.spec_core.specs.declared.term.Term.TheFolds.{the_lemmas}
use Rattle.path_order.proofs.Noting.{noted_for_one, noted_so, noted_next, noted_end, any_one, one_any, one_beside, beside_one}
use Rattle.path_order.proofs.mentions.Mentions.+noting.Goals as goal

pub note_term-returns-in_ok-note_terms-in-App : goal.note_term-returns-in_ok-note_terms-in-App
note_term-returns-in_ok-note_terms-in-App t c =
    let x = c.args.head.0 in
    let ts = terms (map term_of c.in-App.args.items) in
    let k : term_of c.args.term.now ≡ apply c.in-App.op.0 ts = search (rules, the_lemmas) in
    let rest = subst (λ xs. AreNoted (λ g h. AnyHasOperation g (terms (map term_of xs)) × (h ≡ x)) c.note.new.self c.note_terms.new.self) c.deref.ensures.value
    c.in_ok-note_terms-in-App.ensures in
    subst (λ u. AreNoted (λ g h. HasOperation g u × (h ≡ x)) c.args.self.now c.note_terms.new.self) (sym k)
    (noted_for_one (λ g. g ≡ c.in-App.op.0) (λ g. AnyHasOperation g ts) x c.args.self.now c.note.new.self c.note_terms.new.self
    c.in_ok-note-in-App.ensures rest)

pub note_terms-loop-term-preserved : goal.note_terms-loop-term-preserved
note_terms-loop-term-preserved t c =
    noted_next (λ t g h. HasOperation g (term_of t) × (h ≡ c.args.head.0)) c.args.all.now c.loop-term.term-index c.term-item.result
    c.args.self.now c.loop-term.self c.note_term.new.self c.loop-term-test.true c.term-item.is c.loop-term.invariant c.in_ok-note_term.ensures

pub note_terms-returns : goal.note_terms-returns
note_terms-returns t c =
    let ts = c.args.all.now in
    let x = c.args.head.0 in
    noted_so (λ g h. OneOf (λ t. HasOperation g (term_of t) × (h ≡ x)) ts) (λ g h. AnyHasOperation g (terms (map term_of ts)) × (h ≡ x))
    c.args.self.now c.loop-term.self
    (λ g h o. let r = beside_one (λ t. HasOperation g (term_of t)) (h ≡ x) ts o in (one_any g ts r.0, r.1))
    (λ g h r. one_beside (λ t. HasOperation g (term_of t)) (h ≡ x) ts (any_one g ts r.0, r.1))
    (noted_end (λ t g h. HasOperation g (term_of t) × (h ≡ x)) ts c.loop-term.term-index c.args.self.now c.loop-term.self c.loop-term-test.false c.loop-term.invariant)
