use Rattle.std.proofs.Common.{sym, subst, IfOk, Ok}
use Rattle.rule_model.specs.Events.{event_of}
use Rattle.match_code.specs.Prepared.{program_in}
use Rattle.log_check.specs.Views.{state_of}
use Rattle.log_check.specs.Entries.{Becomes, EntryAsks}
use Rattle.rule_walk.specs.declared.fault.FireFault.{FireFault}
use Rattle.log_check.proofs.Asked.{asked_nowhere}
use Rattle.log_check.proofs.entry.take.Goals as goal

pub returns-in-Pend-clause-next : goal.returns-in-Pend-clause-next
returns-in-Pend-clause-next c =
    subst (λ e. IfOk c.offer.result (Becomes (program_in c.args.prepared.now) (state_of c.args.state.now) (event_of e) (state_of c.offer.new.state))) (sym c.in-Pend.is)
    c.offer.ensures.next

pub returns-in-Pend-clause-within : goal.returns-in-Pend-clause-within
returns-in-Pend-clause-within c =
    asked_nowhere (program_in c.args.prepared.now) c.offer.result (state_of c.args.state.now) (event_of c.args.entry.now) c.args.budget
    (λ x h. subst (λ e. EntryAsks (program_in c.args.prepared.now) (state_of c.args.state.now) (event_of e) x) c.in-Pend.is h)

pub returns-in-Reply-clause-within : goal.returns-in-Reply-clause-within
returns-in-Reply-clause-within c =
    asked_nowhere (program_in c.args.prepared.now) c.answer.result (state_of c.args.state.now) (event_of c.args.entry.now) c.args.budget
    (λ x h. subst (λ e. EntryAsks (program_in c.args.prepared.now) (state_of c.args.state.now) (event_of e) x) c.in-Reply.is h)

pub returns-in-Stall-clause-within : goal.returns-in-Stall-clause-within
returns-in-Stall-clause-within c =
    asked_nowhere (program_in c.args.prepared.now) {E = FireFault} (Ok c.stall.result) (state_of c.args.state.now) (event_of c.args.entry.now) c.args.budget
    (λ x h. subst (λ e. EntryAsks (program_in c.args.prepared.now) (state_of c.args.state.now) (event_of e) x) c.in-Stall.is h)

pub returns-in-Leave-clause-within : goal.returns-in-Leave-clause-within
returns-in-Leave-clause-within c =
    asked_nowhere (program_in c.args.prepared.now) c.leave.result (state_of c.args.state.now) (event_of c.args.entry.now) c.args.budget
    (λ x h. subst (λ e. EntryAsks (program_in c.args.prepared.now) (state_of c.args.state.now) (event_of e) x) c.in-Leave.is h)
