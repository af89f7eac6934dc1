use Rattle.std.proofs.Common.{◌∷◌, refl, sym, ◌∙◌}
use Rattle.spec_core.specs.Terms.{term_of}
use Rattle.spec_core.specs.Theories.{theory_of}
use Rattle.match_code.proofs.States.{at_equal}
use Rattle.match_code.proofs.run.turn.Goals as goal

pub take_step-requires-clause-stands : goal.take_step-requires-clause-stands
take_step-requires-clause-stands c =
    let runs = c.args.runs.now in
    record {
      state = at_equal (theory_of c.args.algebra.now) (term_of c.args.term.now) c.args.budget c.args.store.now.nodes runs.frames runs.frames
          runs.todo (c.in-Some.step ∷ c.pop.new.self) runs.values runs.values runs.uses runs.uses c.requires.stands.state refl
          (sym c.in-Some.ensures.popped) refl refl;
      remembers = c.requires.stands.remembers;
    }

pub leave-requires-clause-stands : goal.leave-requires-clause-stands
leave-requires-clause-stands c =
    let runs = c.args.runs.now in
    record {
      state = at_equal (theory_of c.args.algebra.now) (term_of c.args.term.now) c.args.budget c.args.store.now.nodes runs.frames runs.frames
          runs.todo c.pop.new.self runs.values runs.values runs.uses runs.uses c.requires.stands.state refl
          (c.in-None.ensures.popped.1 ∙ sym c.in-None.ensures.popped.0) refl refl;
      remembers = c.requires.stands.remembers;
    }

pub returns-in_ok-take_step-in-Some-clause-store : goal.returns-in_ok-take_step-in-Some-clause-store
returns-in_ok-take_step-in-Some-clause-store c =
    let s = c.in_ok-take_step-in-Some.ensures.stands in
    record { own = s.state.ready.own; small = s.state.ready.small; remembers = s.remembers }
