use Rattle.std.proofs.Common.{rules, ◌≡◌, length, sym, ap, subst, ◌∙◌}
use Rattle.spec_core.specs.Theories.{theory_of}
use Rattle.rewriter.specs.Calls.{HasRoom}
use Rattle.rewriter.proofs.Links.{written}
use Rattle.match_code.specs.States.{IsStore}
use Rattle.match_code.proofs.States.{none_kept}
use Rattle.match_code.proofs.engine.Engine.value.Goals as goal

pub evaluate-requires-clause-store : goal.evaluate-requires-clause-store
evaluate-requires-clause-store c =
    let t = theory_of c.args.self.now.algebra.now in
    c.next_store-store.ensures.store t (subst (IsStore t) (sym c.replace-before.ensures.value) c.requires.engine.store)

pub returns-in_err-value-clause-engine : goal.returns-in_err-value-clause-engine
returns-in_err-value-clause-engine c =
    let t = theory_of c.args.self.now.algebra.now in
    let before = c.args.self.now.bound in
    let after = c.evaluate.new.bound in
    let lent : c.deref_mut.result.now ≡ before.items = search rules in
    let long : before.len ≡ length before.items = search rules in
    let kept : length after ≡ length before.items = c.in_err-value.ensures.room ∙ ap length lent in
    record {
      forms = c.requires.engine.forms;
      room = subst (HasRoom t) (sym kept ∙ ap length (sym (written after before.items before.len (sym kept) long))) c.requires.engine.room;
      store = subst (IsStore t) (sym c.replace-before.ensures.after)
          (none_kept t c.new.result c.new.ensures.nodes c.new.ensures.entries);
    }
