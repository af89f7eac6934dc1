use Rattle.std.proofs.Common.{◌≡◌, map, refl, subst}
use Rattle.spec_core.specs.Terms.{term_of, apply, terms}
use Rattle.spec_core.specs.Theories.{theory_of}
use Rattle.value_nodes.specs.Nodes.{tree_at}
use Rattle.match_code.proofs.States.{state_found, at_equal}
use Rattle.match_code.proofs.moves.build.Goals as goal

pub returns-in_ok-put_value-in-Some-clause-stands : goal.returns-in_ok-put_value-in-Some-clause-stands
returns-in_ok-put_value-in-Some-clause-stands c =
    let theory = theory_of c.args.algebra.now in
    let t = term_of c.args.term.now in
    let rows = c.args.store.now.nodes in
    let runs = c.args.runs.now in
    let n = c.in-Some.node in
    let is = subst (λ args. tree_at rows n ≡ apply c.args.op.0 (terms (map (tree_at rows) args))) c.top-2.ensures.seen
    c.in-Some.ensures.tree in
    record {
      state = at_equal theory t c.args.budget rows runs.frames runs.frames runs.todo runs.todo _ c.put_value.new.values runs.uses runs.uses
          (state_found theory c.requires.forms.executable t c.args.budget rows runs.frames c.args.op c.args.count runs.todo runs.values runs.uses
          c.requires.stands.state n c.requires.constructor c.in-Some.ensures.there is)
          refl refl c.in_ok-put_value-in-Some.ensures.put refl;
      remembers = c.requires.stands.remembers;
    }
