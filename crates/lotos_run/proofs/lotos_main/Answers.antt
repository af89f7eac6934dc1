use Rattle.std.proofs.Common.{◌≡◌, inl, map, refl, string_bytes, subst, sym}
use Rattle.spec_core.specs.Code.{program_of}
use Rattle.lotos_outside.specs.Sink.{AppendsPrefix, with_more}
use Rattle.command_lines.specs.Inputs.{inlet}
use Rattle.command_words.specs.Commands.{command_of}
use Rattle.lotos_run.specs.Due.{IsDueNow, IsDueUnread}
use Rattle.lotos_run.specs.Outside.{outside, shelved}
use Rattle.lotos_run.specs.declared.status.Status.TheVariants.{Memory}
use Rattle.lotos_run.proofs.Calls.{answered_sim, broken_sim, cut_sim}
use Rattle.lotos_run.proofs.Derivations.{nothing_derives, simulated_derives, written_derives}
use Rattle.lotos_run.proofs.lotos_main.Goals as goal

pub returns-in-Ok-Text-clause-due : goal.returns-in-Ok-Text-clause-due
returns-in-Ok-Text-clause-due g c = λ final.
    let answer = c.in-Ok-Text.answer in
    let command = command_of (map string_bytes c.args.words.now) in
    let shelf = shelved (g.F.Shelf.files c.args.shelf.now) (g.F.Shelf.failed c.args.shelf.now) (g.F.Shelf.failed c.due_for.new.shelf) in
    let due = subst (IsDueNow shelf command) c.in-Ok-Text.field-0-is c.in-Ok-Text.ensures.due in (
      answer.text.items,
      inl (subst (λ s. IsDueUnread shelf command s answer.text.items) (sym (c.write.ensures.same final)) due),
      subst (λ text. g.O.Sink.written c.write.new.out ≡ with_more text (g.O.Sink.written c.args.out.now)) c.deref.ensures.value
          (c.write.ensures.written final),
    )

pub returns-in-Ok-Simulation-clause-due : goal.returns-in-Ok-Simulation-clause-due
returns-in-Ok-Simulation-clause-due g c = λ final.
    let command = command_of (map string_bytes c.args.words.now) in
    let rest = g.I.Source.rest in
    let faults = g.I.Source.faults in
    let shelf = shelved (g.F.Shelf.files c.args.shelf.now) (g.F.Shelf.failed c.args.shelf.now) (g.F.Shelf.failed c.due_for.new.shelf) in
    let last = c.run_simulation.new.input in
    let input = inlet (rest c.args.input.now) (rest last) (faults c.args.input.now) (faults last) in
    let due = subst (IsDueNow shelf command) c.in-Ok-Simulation.field-0-is c.in-Ok-Simulation.ensures.due in
    answered_sim (outside shelf input (g.O.Sink.written c.args.out.now) (g.O.Sink.written c.run_simulation.new.out))
    (program_of c.in-Ok-Simulation.checked) c.in-Ok-Simulation.settings command c.run_simulation.result due.0 (c.run_simulation.ensures.ok final)

pub returns-in-Ok-Simulation-clause-prefix : goal.returns-in-Ok-Simulation-clause-prefix
returns-in-Ok-Simulation-clause-prefix g c = λ is.
    let command = command_of (map string_bytes c.args.words.now) in
    let rest = g.I.Source.rest in
    let faults = g.I.Source.faults in
    let shelf = shelved (g.F.Shelf.files c.args.shelf.now) (g.F.Shelf.failed c.args.shelf.now) (g.F.Shelf.failed c.due_for.new.shelf) in
    let last = c.run_simulation.new.input in
    let input = inlet (rest c.args.input.now) (rest last) (faults c.args.input.now) (faults last) in
    let due = subst (IsDueNow shelf command) c.in-Ok-Simulation.field-0-is c.in-Ok-Simulation.ensures.due in
    cut_sim (outside shelf input (g.O.Sink.written c.args.out.now) (g.O.Sink.written c.run_simulation.new.out))
    (program_of c.in-Ok-Simulation.checked) c.in-Ok-Simulation.settings command due.0 (c.run_simulation.ensures.cut is)

pub returns-in-Ok-Simulation-clause-memory : goal.returns-in-Ok-Simulation-clause-memory
returns-in-Ok-Simulation-clause-memory g c = λ is.
    let command = command_of (map string_bytes c.args.words.now) in
    let rest = g.I.Source.rest in
    let faults = g.I.Source.faults in
    let shelf = shelved (g.F.Shelf.files c.args.shelf.now) (g.F.Shelf.failed c.args.shelf.now) (g.F.Shelf.failed c.due_for.new.shelf) in
    let last = c.run_simulation.new.input in
    let input = inlet (rest c.args.input.now) (rest last) (faults c.args.input.now) (faults last) in
    let due = subst (IsDueNow shelf command) c.in-Ok-Simulation.field-0-is c.in-Ok-Simulation.ensures.due in
    broken_sim (outside shelf input (g.O.Sink.written c.args.out.now) (g.O.Sink.written c.run_simulation.new.out))
    (program_of c.in-Ok-Simulation.checked) c.in-Ok-Simulation.settings command due.0 (c.run_simulation.ensures.memory is)

pub returns-in-Ok-Text-clause-derivation : goal.returns-in-Ok-Text-clause-derivation
returns-in-Ok-Text-clause-derivation g c =
    let answer = c.in-Ok-Text.answer in
    let command = command_of (map string_bytes c.args.words.now) in
    let shelf = shelved (g.F.Shelf.files c.args.shelf.now) (g.F.Shelf.failed c.args.shelf.now) (g.F.Shelf.failed c.due_for.new.shelf) in
    let due = subst (IsDueNow shelf command) c.in-Ok-Text.field-0-is c.in-Ok-Text.ensures.due in
    let before = g.O.Sink.written c.args.out.now in
    let after = g.O.Sink.written c.write.new.out in
    written_derives shelf before after c.write.result answer.status answer.text.items command due
    (subst (λ text. AppendsPrefix text before after) c.deref.ensures.value c.write.ensures.prefix)
    (λ final. subst (λ text. after ≡ with_more text before) c.deref.ensures.value (c.write.ensures.written final))

pub returns-in-Ok-Simulation-clause-derivation : goal.returns-in-Ok-Simulation-clause-derivation
returns-in-Ok-Simulation-clause-derivation g c =
    let command = command_of (map string_bytes c.args.words.now) in
    let shelf = shelved (g.F.Shelf.files c.args.shelf.now) (g.F.Shelf.failed c.args.shelf.now) (g.F.Shelf.failed c.due_for.new.shelf) in
    let due = subst (IsDueNow shelf command) c.in-Ok-Simulation.field-0-is c.in-Ok-Simulation.ensures.due in
    simulated_derives shelf (g.O.Sink.written c.args.out.now) (g.O.Sink.written c.run_simulation.new.out) c.run_simulation.result
    (program_of c.in-Ok-Simulation.checked) c.in-Ok-Simulation.settings command due.0

pub returns-in-Err-clause-derivation : goal.returns-in-Err-clause-derivation
returns-in-Err-clause-derivation g c =
    let command = command_of (map string_bytes c.args.words.now) in
    let shelf = shelved (g.F.Shelf.files c.args.shelf.now) (g.F.Shelf.failed c.args.shelf.now) (g.F.Shelf.failed c.due_for.new.shelf) in
    let written = g.O.Sink.written c.args.out.now in
    nothing_derives shelf written written Memory refl command
