-- What is written in answer to a line (docs/FORMATS.md, "The simulator").
use Rattle.std.specs.Prelude.{ℕ, List, [], ◌++◌, Option, Some, None, Result, Ok, Err, codes, string_bytes}
use Rattle.rule_model.specs.Answers.{Answer, answer_of, taken, deadlock, stalls, beyond, not_now, ended, spent, too_large, limit}
use Rattle.simulator.specs.declared.answer.SimAnswer.{SimAnswer}
use Rattle.simulator.specs.declared.answer.SimAnswer.TheVariants as answers
use Rattle.simulator.specs.declared.answer.SimFault.{SimFault}
use Rattle.simulator.specs.declared.answer.SimFault.TheVariants as faults
use Rattle.trace_text.specs.Trace.{Names, action_text, limit_word}
use Rattle.command_sim.specs.declared.end.End.{End}
use Rattle.command_sim.specs.declared.end.End.TheVariants as ends

module _ (names : Names) where
  -- why no action was done, in a word; that an offer was taken or stalled is no such reason
  abbrev pub reply_line : Answer → List ℕ
  reply_line (taken at values) = []
  reply_line (stalls at) = []
  reply_line (deadlock at) = codes "deadlock\n"
  reply_line (beyond at d) = codes "beyond\n"
  reply_line (not_now at) = codes "notnow\n"
  reply_line (ended at) = codes "ended\n"
  reply_line (spent at term) = codes "spent " ++ names.term term ++ codes "\n"
  reply_line (too_large at term) = codes "large " ++ names.term term ++ codes "\n"
  reply_line (limit at kind) = limit_word kind ++ codes "\n"

  abbrev pub answer_text : SimAnswer → List ℕ
  answer_text (answers.Menu text) = string_bytes text
  answer_text (answers.Done action) = codes "done " ++ action_text names action ++ codes "\n"
  answer_text (answers.Answer reply) = reply_line (answer_of reply)
  answer_text (answers.Trace text) = string_bytes text
  answer_text answers.Bye = codes "bye\n"

  -- what is written for what a line comes to
  abbrev pub text_of : Result SimAnswer SimFault → List ℕ
  text_of (Ok answer) = answer_text answer
  text_of (Err faults.BadLine) = codes "bad line\n"
  text_of (Err faults.NoStep) = codes "no step\n"
  text_of (Err faults.Memory) = []

-- a line comes to something else than want of memory
abbrev pub HasAnswer : Result SimAnswer SimFault → Type 0
HasAnswer (Ok answer) = Unit {0}
HasAnswer (Err faults.BadLine) = Unit {0}
HasAnswer (Err faults.NoStep) = Unit {0}
HasAnswer (Err faults.Memory) = ⊥

-- how a reply ends the simulation, if it does: where it tells what has stopped the session, or that a term of the line has no value
abbrev pub end_by_reply : Answer → Option End
end_by_reply (taken at values) = None
end_by_reply (stalls at) = None
end_by_reply (deadlock at) = None
end_by_reply (beyond at d) = None
end_by_reply (not_now at) = None
end_by_reply (ended at) = None
end_by_reply (spent at term) = Some ends.Spent
end_by_reply (too_large at term) = Some ends.Limit
end_by_reply (limit at kind) = Some ends.Limit

-- how what a line comes to ends the simulation, if it does: by a stop reason, or by the line `quit`
abbrev pub end_by : Result SimAnswer SimFault → Option End
end_by (Ok (answers.Menu text)) = None
end_by (Ok (answers.Done action)) = None
end_by (Ok (answers.Answer reply)) = end_by_reply (answer_of reply)
end_by (Ok (answers.Trace text)) = None
end_by (Ok answers.Bye) = Some ends.Done
end_by (Err fault) = None
