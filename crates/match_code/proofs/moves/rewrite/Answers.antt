use Rattle.std.proofs.Common.{ℕ, ◌<◌, length, refl, arith}
use Rattle.std.proofs.lemmas.Result.{err_from_is_err_and}
use Rattle.spec_core.proofs.Lists.{each_implied}
use Rattle.spec_core.specs.Terms.{term_of, Occurs}
use Rattle.spec_core.specs.Theories.{theory_of}
use Rattle.value_nodes.specs.Nodes.{IsNode}
use Rattle.rewriter.specs.Steps.{equation_at, bound_at}
use Rattle.rewriter.proofs.Calls.{tight_at}
use Rattle.match_code.proofs.Postfix.{on_variables, node_of, state_rewritten, state_overspent}
use Rattle.match_code.proofs.States.{at_equal}
use Rattle.match_code.proofs.moves.rewrite.Goals as goal

pub use_right-requires : goal.use_right-requires
use_right-requires c =
    let t = theory_of c.args.algebra.now in
    let right = c.in-Some.right.now in
    let rule = c.in-Some.ensures.rule in
    let room : (x : ℕ) → Occurs x (equation_at t right.place).right → x < length c.rule_for.new.bound = λ x o.
    let h = c.requires.room right.place rule.right.there x
    ((tight_at t c.requires.forms.executable right.place rule.right.there).right x o) in
    omega (arith, h, c.rule_for.ensures.room) in
    record {
      first = each_implied (λ x. Occurs x (equation_at t right.place).right) (λ x. x < length c.rule_for.new.bound) right.first.items room
          rule.right.postfix.first_there;
      there = each_implied (λ x. Occurs x (equation_at t right.place).right)
          (λ x. IsNode c.args.store.now.nodes (bound_at c.rule_for.new.bound x)) right.first.items
          (node_of t c.requires.forms.executable (term_of c.args.term.now) c.args.budget c.args.store.now.nodes c.args.runs.now.frames c.args.op
          c.args.count c.args.runs.now.todo c.args.runs.now.values c.args.runs.now.uses c.requires.stands.state c.rule_for.new.bound right rule)
          rule.right.postfix.first_there;
      rest = on_variables (λ x. Occurs x (equation_at t right.place).right) (λ x. x < length c.rule_for.new.bound) room right.rest
          rule.right.postfix.rest_there;
    }

pub returns-in_ok-use_right-in-Some-clause-stands : goal.returns-in_ok-use_right-in-Some-clause-stands
returns-in_ok-use_right-in-Some-clause-stands c =
    let t = theory_of c.args.algebra.now in
    let ex = c.requires.forms.executable in
    let term = term_of c.args.term.now in
    let rows = c.args.store.now.nodes in
    let runs = c.args.runs.now in
    let right = c.in-Some.right.now in
    let rule = c.in-Some.ensures.rule in
    let bound = c.rule_for.new.bound in
    let now = c.use_right.new.runs in
    let made = c.in_ok-use_right-in-Some.ensures in
    let s = c.requires.stands.state in
    let node = node_of t ex term c.args.budget rows runs.frames c.args.op c.args.count runs.todo runs.values runs.uses s bound right rule in
    record {
      state = at_equal t term c.args.budget rows runs.frames now.frames now.todo now.todo now.values now.values now.uses now.uses
          (state_rewritten t ex term c.args.budget rows runs.frames c.args.op c.args.count runs.todo runs.values runs.uses s bound right rule
          now.todo now.values now.uses (made.planned t rows)
          (made.steps t rows
          (on_variables (λ x. Occurs x (equation_at t right.place).right) (λ x. IsNode rows (bound_at bound x)) node right.rest
          rule.right.postfix.rest_there) rule.right.arities s.ready.steps.1)
          made.values made.uses made.within)
          made.frames refl refl refl;
      remembers = c.requires.stands.remembers;
    }

pub returns-in_err-use_right-in-Some-clause-cause : goal.returns-in_err-use_right-in-Some-clause-cause
returns-in_err-use_right-in-Some-clause-cause c =
    let runs = c.args.runs.now in
    let p = err_from_is_err_and c.from_residual.result c.from_residual.ensures.1 in
    rw (p.1, p.2)
    (record {
      spent = λ e. state_overspent (theory_of c.args.algebra.now) c.requires.forms.executable (term_of c.args.term.now) c.args.budget
          c.args.store.now.nodes runs.frames c.args.op c.args.count runs.todo runs.values runs.uses c.requires.stands.state c.rule_for.new.bound
          c.in-Some.right.now c.in-Some.ensures.rule (c.in_err-use_right-in-Some.ensures.spent e);
      large = λ e. absurd (c.in_err-use_right-in-Some.ensures.small e);
    })
