use Rattle.std.proofs.Common.{rules, ◌≡◌, Some}
use Rattle.spec_core.specs.Code.{program_of}
use Rattle.spec_core.specs.Terms.{term_of}
use Rattle.trace_reader.specs.declared.line_word.EndWord.TheVariants as word
use Rattle.trace_reader.proofs.Entries.{end_beyond, end_deadlock, end_exit, end_large, end_limit, end_spent, end_waiting, no_ending}
use Rattle.trace_reader.proofs.reply.read_end.Goals as goal

pub returns-in-None-clause-finds : goal.returns-in-None-clause-finds
returns-in-None-clause-finds c x rest fits nothing e =
    absurd (no_ending (program_of c.args.vocabulary.now.checked.now) c.args.cursor.now c.take_end.new.cursor c.take_end.result c.take_end.ensures.finds c.in-None.is x rest e)

pub returns-in-Some-Exit-clause-finds : goal.returns-in-Some-Exit-clause-finds
returns-in-Some-Exit-clause-finds c =
    let k : c.take_end.result ≡ Some word.Exit = search rules in
    end_exit (program_of c.args.vocabulary.now.checked.now) c.args.cursor.now c.take_end.new.cursor c.take_end.result c.take_end.ensures.finds k

pub returns-in-Some-Deadlock-clause-finds : goal.returns-in-Some-Deadlock-clause-finds
returns-in-Some-Deadlock-clause-finds c =
    let k : c.take_end.result ≡ Some word.Deadlock = search rules in
    end_deadlock (program_of c.args.vocabulary.now.checked.now) c.args.cursor.now c.take_end.new.cursor c.take_end.result c.take_end.ensures.finds k

pub returns-in-Some-Waiting-clause-finds : goal.returns-in-Some-Waiting-clause-finds
returns-in-Some-Waiting-clause-finds c =
    let k : c.take_end.result ≡ Some word.Waiting = search rules in
    end_waiting (program_of c.args.vocabulary.now.checked.now) c.args.cursor.now c.take_end.new.cursor c.take_end.result c.take_end.ensures.finds k

pub returns-in-Some-Beyond-clause-finds : goal.returns-in-Some-Beyond-clause-finds
returns-in-Some-Beyond-clause-finds c =
    let k : c.take_end.result ≡ Some word.Beyond = search rules in
    end_beyond (program_of c.args.vocabulary.now.checked.now) c.args.cursor.now c.take_end.new.cursor c.take_end.result c.take_end.ensures.finds k

pub returns-in_ok-term-in-Some-Spent-clause-finds : goal.returns-in_ok-term-in-Some-Spent-clause-finds
returns-in_ok-term-in-Some-Spent-clause-finds c =
    let k : c.take_end.result ≡ Some word.Spent = search rules in
    end_spent (program_of c.args.vocabulary.now.checked.now) c.args.cursor.now c.take_end.new.cursor c.take_end.result c.take_end.ensures.finds k
    (term_of c.in_ok-term-in-Some-Spent.term) c.read_term.new.cursor c.in_ok-term-in-Some-Spent.ensures.finds

pub returns-in_ok-term-in-Some-Large-clause-finds : goal.returns-in_ok-term-in-Some-Large-clause-finds
returns-in_ok-term-in-Some-Large-clause-finds c =
    let k : c.take_end.result ≡ Some word.Large = search rules in
    end_large (program_of c.args.vocabulary.now.checked.now) c.args.cursor.now c.take_end.new.cursor c.take_end.result c.take_end.ensures.finds k
    (term_of c.in_ok-term-in-Some-Large.term) c.read_term-in-Some-Large.new.cursor c.in_ok-term-in-Some-Large.ensures.finds

pub returns-in-Some-Limit-clause-finds : goal.returns-in-Some-Limit-clause-finds
returns-in-Some-Limit-clause-finds c =
    let k : c.take_end.result ≡ Some (word.Limit c.in-Some-Limit.kind) = search rules in
    end_limit (program_of c.args.vocabulary.now.checked.now) c.args.cursor.now c.take_end.new.cursor c.take_end.result c.take_end.ensures.finds
    c.in-Some-Limit.kind k
