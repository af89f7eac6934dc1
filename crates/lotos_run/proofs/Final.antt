-- What is due is final.
use Rattle.std.proofs.Common.{ℕ, List, Option, Some, None, subst, sym}
use Rattle.rule_model.specs.declared.log.End.{End}
use Rattle.rule_model.specs.declared.log.End.TheVariants as ends
use Rattle.command_run.specs.declared.answer.Answer.TheVariants as ran
use Rattle.command_selfrun.specs.declared.answer.Answer.{Answer}
use Rattle.command_selfrun.specs.declared.answer.Answer.TheVariants as came
use Rattle.command_words.specs.Commands.{Command, run, check, equal, replay, migrate, sim, selfrun}
use Rattle.lotos_run.specs.declared.status.Status.{Status}
use Rattle.lotos_run.specs.declared.status.Status.TheVariants.{Done, Refused, Usage, ReadFault, WriteFault, Memory, Spent, Limit}
use Rattle.lotos_run.specs.declared.status.Status.TheVariants.{ScriptRefused, NotADerivation}
use Rattle.lotos_run.specs.Due.{IsDueUnread}
use Rattle.lotos_run.specs.Outside.{Shelved}
use Rattle.lotos_run.specs.RunTexts as runs
use Rattle.lotos_run.specs.Selfruns.{status_of, IsSelfrunDue}
use Rattle.lotos_run.specs.Statuses.{IsFinal}

end_final : (e : End) → IsFinal (runs.status_of_end e)
end_final ends.Exit = tt
end_final ends.Deadlock = tt
end_final ends.Waiting = tt
end_final ends.Beyond = tt
end_final (ends.Spent t) = tt
end_final (ends.TooLarge t) = tt
end_final (ends.Limit kind) = tt

answer_final : (a : Answer) → IsFinal (status_of a)
answer_final (came.Accepted checked (ran.Ran log end)) = end_final end
answer_final (came.Accepted checked (ran.Spent t)) = tt
answer_final (came.Accepted checked (ran.TooLarge t)) = tt
answer_final (came.Accepted checked (ran.Refused line kind)) = tt
answer_final (came.Refused refusal) = tt

selfrun_final : (seed size : ℕ) (status : Status) (text : List ℕ) → IsSelfrunDue seed size status text → IsFinal status
selfrun_final seed size status text h = subst IsFinal (sym h.due) (answer_final h.answered)

pub due_final : (shelf : Shelved) (command : Option Command) (status : Status) (text : List ℕ) → IsDueUnread shelf command status text → IsFinal status
due_final shelf command Done text h = tt
due_final shelf command Refused text h = tt
due_final shelf command Usage text h = tt
due_final shelf command ReadFault text h = tt
due_final shelf command Spent text h = tt
due_final shelf command Limit text h = tt
due_final shelf command ScriptRefused text h = tt
due_final shelf command NotADerivation text h = tt
due_final shelf None WriteFault text h = absurd h
due_final shelf (Some (run specification script settings workers format)) WriteFault text h = absurd h
due_final shelf (Some (check specification)) WriteFault text h = absurd h
due_final shelf (Some (equal specification first second budget)) WriteFault text h = absurd h
due_final shelf (Some (replay specification trace budget)) WriteFault text h = absurd h
due_final shelf (Some (migrate specification trace)) WriteFault text h = absurd h
due_final shelf (Some (sim specification settings)) WriteFault text h = absurd h
due_final shelf (Some (selfrun seed size workers)) WriteFault text h = selfrun_final seed size WriteFault text h
due_final shelf None Memory text h = absurd h
due_final shelf (Some (run specification script settings workers format)) Memory text h = absurd h
due_final shelf (Some (check specification)) Memory text h = absurd h
due_final shelf (Some (equal specification first second budget)) Memory text h = absurd h
due_final shelf (Some (replay specification trace budget)) Memory text h = absurd h
due_final shelf (Some (migrate specification trace)) Memory text h = absurd h
due_final shelf (Some (sim specification settings)) Memory text h = absurd h
due_final shelf (Some (selfrun seed size workers)) Memory text h = selfrun_final seed size Memory text h
