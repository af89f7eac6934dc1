use Rattle.std.proofs.Common.{rules, ◌≡◌, Some}
use Rattle.spec_core.specs.Code.{program_of}
use Rattle.spec_core.specs.Terms.{term_of}
use Rattle.rule_model.specs.Derivations.{derivation_of}
use Rattle.trace_reader.specs.declared.line_word.ReplyWord.TheVariants as word
use Rattle.trace_reader.proofs.Entries.{beyond_read, deadlock_read, ended_read, large_read, limit_read, no_reply, not_now_read, spent_read}
use Rattle.trace_reader.proofs.reply.read_reply.Goals as goal

pub returns-in-None-clause-finds : goal.returns-in-None-clause-finds
returns-in-None-clause-finds c x rest fits ends e =
    absurd (no_reply (program_of c.args.vocabulary.now.checked.now) c.args.cursor.now c.take_reply.new.cursor c.take_reply.result c.take_reply.ensures.finds c.in-None.is x rest fits e)

pub returns-in-Some-Deadlock-clause-finds : goal.returns-in-Some-Deadlock-clause-finds
returns-in-Some-Deadlock-clause-finds c =
    let k : c.take_reply.result ≡ Some word.Deadlock = search rules in
    deadlock_read (program_of c.args.vocabulary.now.checked.now) c.args.cursor.now c.take_reply.new.cursor c.take_reply.result c.take_reply.ensures.finds k

pub returns-in-Some-NotNow-clause-finds : goal.returns-in-Some-NotNow-clause-finds
returns-in-Some-NotNow-clause-finds c =
    let k : c.take_reply.result ≡ Some word.NotNow = search rules in
    not_now_read (program_of c.args.vocabulary.now.checked.now) c.args.cursor.now c.take_reply.new.cursor c.take_reply.result c.take_reply.ensures.finds k

pub returns-in-Some-Ended-clause-finds : goal.returns-in-Some-Ended-clause-finds
returns-in-Some-Ended-clause-finds c =
    let k : c.take_reply.result ≡ Some word.Ended = search rules in
    ended_read (program_of c.args.vocabulary.now.checked.now) c.args.cursor.now c.take_reply.new.cursor c.take_reply.result c.take_reply.ensures.finds k

pub returns-in_ok-rules-in-Some-Beyond-clause-finds : goal.returns-in_ok-rules-in-Some-Beyond-clause-finds
returns-in_ok-rules-in-Some-Beyond-clause-finds c =
    let k : c.take_reply.result ≡ Some word.Beyond = search rules in
    beyond_read (program_of c.args.vocabulary.now.checked.now) c.args.cursor.now c.take_reply.new.cursor c.take_reply.result c.take_reply.ensures.finds k
    (derivation_of c.in_ok-rules-in-Some-Beyond.rules) c.read_tree.new.cursor c.in_ok-rules-in-Some-Beyond.ensures.finds

pub returns-in_ok-term-in-Some-Spent-clause-finds : goal.returns-in_ok-term-in-Some-Spent-clause-finds
returns-in_ok-term-in-Some-Spent-clause-finds c =
    let k : c.take_reply.result ≡ Some word.Spent = search rules in
    spent_read (program_of c.args.vocabulary.now.checked.now) c.args.cursor.now c.take_reply.new.cursor c.take_reply.result c.take_reply.ensures.finds k
    (term_of c.in_ok-term-in-Some-Spent.term) c.read_term.new.cursor c.in_ok-term-in-Some-Spent.ensures.finds

pub returns-in_ok-term-in-Some-Large-clause-finds : goal.returns-in_ok-term-in-Some-Large-clause-finds
returns-in_ok-term-in-Some-Large-clause-finds c =
    let k : c.take_reply.result ≡ Some word.Large = search rules in
    large_read (program_of c.args.vocabulary.now.checked.now) c.args.cursor.now c.take_reply.new.cursor c.take_reply.result c.take_reply.ensures.finds k
    (term_of c.in_ok-term-in-Some-Large.term) c.read_term-in-Some-Large.new.cursor c.in_ok-term-in-Some-Large.ensures.finds

pub returns-in-Some-Limit-clause-finds : goal.returns-in-Some-Limit-clause-finds
returns-in-Some-Limit-clause-finds c =
    let k : c.take_reply.result ≡ Some (word.Limit c.in-Some-Limit.kind) = search rules in
    limit_read (program_of c.args.vocabulary.now.checked.now) c.args.cursor.now c.take_reply.new.cursor c.take_reply.result c.take_reply.ensures.finds
    c.in-Some-Limit.kind k
