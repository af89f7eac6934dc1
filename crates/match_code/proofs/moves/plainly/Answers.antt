use Rattle.std.proofs.Common.{◌∷◌}
use Rattle.std.proofs.lemmas.Result.{err_from_is_err_and}
use Rattle.spec_core.specs.Terms.{term_of}
use Rattle.spec_core.specs.Theories.{theory_of}
use Rattle.match_code.proofs.States.{state_stepped, state_spent, state_large, still_entries}
use Rattle.match_code.proofs.moves.plainly.Goals as goal

pub returns-in_err-runs-clause-cause : goal.returns-in_err-runs-clause-cause
returns-in_err-runs-clause-cause c =
    let t = theory_of c.args.algebra.now in
    let todo = c.args.step ∷ c.args.runs.now.todo in
    let p = err_from_is_err_and c.from_residual.result c.from_residual.ensures.1 in
    rw (p.1, p.2)
    (record {
      spent = λ e. state_spent t c.requires.forms.executable (term_of c.args.term.now) c.args.budget c.args.store.now.nodes c.args.runs.now.frames
          todo c.args.runs.now.values c.args.runs.now.uses c.requires.stands.state (c.in_err-runs.ensures.spent e);
      large = λ e. state_large t c.requires.forms.executable (term_of c.args.term.now) c.args.budget c.args.store.now.nodes c.args.runs.now.frames
          todo c.args.runs.now.values c.args.runs.now.uses c.requires.stands.state (c.in_err-runs.ensures.large e);
    })

pub returns-clause-stands : goal.returns-clause-stands
returns-clause-stands c =
    let t = theory_of c.args.algebra.now in
    let rows = c.args.store.now.nodes in
    let runs = c.args.runs.now in
    let made = c.in_ok-runs.ensures in
    record {
      state = state_stepped t c.requires.forms.executable (term_of c.args.term.now) c.args.budget rows runs.frames c.perform.new.nodes
          (c.args.step ∷ runs.todo) c.perform.new.todo runs.values c.perform.new.values runs.uses c.in_ok-runs.field-0
          c.requires.stands.state made.longer made.ready made.within made.kept;
      remembers = still_entries t rows c.perform.new.nodes made.longer c.args.store.now.memo.entries.items c.requires.stands.remembers;
    }
