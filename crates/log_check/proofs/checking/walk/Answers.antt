use Rattle.std.proofs.Common.{rules, ◌≡◌, ◌<◌, ◌+◌, sym, subst, map, take, drop, length, get_or}
use Rattle.rule_model.specs.Events.{event_of}
use Rattle.rule_model.specs.Legal.{IsDerivation}
use Rattle.match_code.specs.Prepared.{program_in}
use Rattle.log_check.specs.Views.{state_of}
use Rattle.log_check.specs.Checked.{EntriesAreWithin}
use Rattle.log_check.specs.Entries.{EntryFails}
use Rattle.log_check.proofs.Asked.{within_further}
use Rattle.log_check.proofs.Derivations.{events_next, events_split, events_before, further}
use Rattle.log_check.proofs.checking.walk.Goals as goal

pub loop-place-preserved : goal.loop-place-preserved
loop-place-preserved c =
    let program = program_in c.args.prepared.now in
    let es = c.args.entries.now in
    let i = c.loop-place.place in
    let e = c.index-entries-place.result in
    let within : i < length es = search rules in
    let at : e ≡ get_or es i e = search rules in
    let before = map event_of (take i es) in
    record {
      derivation = subst (λ log. IsDerivation program log (state_of c.args.state.now) (state_of c.go_on.new.state)) (sym (events_next es i e within at))
          (further program before (event_of e) (state_of c.args.state.now) (state_of c.loop-place.state) (state_of c.go_on.new.state) c.loop-place.invariant.derivation
          c.in-Ok.ensures.next);
      within = subst (λ log. EntriesAreWithin program log (state_of c.args.state.now) c.args.budget) (sym (events_next es i e within at))
          (within_further program c.requires.ready.executable c.args.budget before (event_of e) (state_of c.args.state.now) (state_of c.loop-place.state)
          c.loop-place.invariant.derivation c.loop-place.invariant.within c.in-Ok.ensures.within);
    }

pub returns-in-Err-clause-fault : goal.returns-in-Err-clause-fault
returns-in-Err-clause-fault c =
    let program = program_in c.args.prepared.now in
    let es = c.args.entries.now in
    let i = c.loop-place.place in
    let e = c.index-entries-place.result in
    let within : i < length es = search rules in
    let at : e ≡ get_or es i e = search rules in
    record {
      before = map event_of (take i es);
      event = event_of e;
      after = map event_of (drop (i + 1) es);
      state = state_of c.loop-place.state;
      all = events_split es i e within at;
      derivation = c.loop-place.invariant.derivation;
      within = c.loop-place.invariant.within;
      fails = subst (λ n. EntryFails program (state_of c.loop-place.state) (event_of e) n c.args.budget c.in-Err.fault) (sym (events_before es i within)) c.in-Err.ensures.fault;
    }
