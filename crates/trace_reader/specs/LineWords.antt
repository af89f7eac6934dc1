-- With which word a line of a trace, a reply and an end begin.
use Rattle.std.specs.Prelude.{ℕ, List, codes}
use Rattle.trace_text.specs.Trace.{limit_word}
use Rattle.trace_reader.specs.declared.line_word.EntryWord.{EntryWord}
use Rattle.trace_reader.specs.declared.line_word.EntryWord.TheVariants.{Pend, Ask, Act, Reply, Stall, Leave}
use Rattle.trace_reader.specs.declared.line_word.ReplyWord as declared_reply
use Rattle.trace_reader.specs.declared.line_word.ReplyWord.TheVariants.{Deadlock, NotNow, Ended, Beyond, Spent, Large, Limit}
use Rattle.trace_reader.specs.declared.line_word.EndWord as declared_end
use Rattle.trace_reader.specs.declared.line_word.EndWord.TheVariants as ends

abbrev pub entry_word : EntryWord → List ℕ
entry_word Pend = codes "pend "
entry_word Ask = codes "ask "
entry_word Act = codes "act "
entry_word Reply = codes "reply "
entry_word Stall = codes "stall"
entry_word Leave = codes "leave "

abbrev pub reply_word : declared_reply.ReplyWord → List ℕ
reply_word Deadlock = codes "deadlock"
reply_word NotNow = codes "notnow"
reply_word Ended = codes "ended"
reply_word Beyond = codes "beyond "
reply_word Spent = codes "spent "
reply_word Large = codes "large "
reply_word (Limit kind) = limit_word kind

abbrev pub ending_word : declared_end.EndWord → List ℕ
ending_word ends.Exit = codes "exit"
ending_word ends.Deadlock = codes "deadlock"
ending_word ends.Waiting = codes "waiting"
ending_word ends.Beyond = codes "beyond"
ending_word ends.Spent = codes "spent "
ending_word ends.Large = codes "large "
ending_word (ends.Limit kind) = limit_word kind
