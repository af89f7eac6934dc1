use Rattle.std.proofs.Common.{rules, ◌≡◌, ◌∙◌, [], Some, IsSome, ap, sym, subst, refl, decimal}
use Rattle.std.proofs.lemmas.List.{append-nil}
use Rattle.spec_core.specs.Code.{program_of}
use Rattle.trace_reader.specs.declared.line_word.EntryWord.TheVariants as word
use Rattle.trace_reader.proofs.Entries.{act_read, any_fits, any_numbered, ask_read, leave_read, no_entry, pend_read, reply_read, stall_read}
use Rattle.trace_reader.proofs.entry.read_entry.Goals as goal

pub returns-in-None-clause-finds : goal.returns-in-None-clause-finds
returns-in-None-clause-finds c x fits e =
    absurd (no_entry (program_of c.args.vocabulary.now.checked.now) c.args.format c.args.tree.now c.args.cursor.now c.take_entry.new.cursor c.take_entry.result c.take_entry.ensures.finds c.in-None.is x e)

pub returns-in-Some-Pend-clause-finds : goal.returns-in-Some-Pend-clause-finds
returns-in-Some-Pend-clause-finds c =
    let k : c.take_entry.result ≡ Some word.Pend = search rules in
    pend_read (program_of c.args.vocabulary.now.checked.now) c.args.format c.args.tree.now c.args.cursor.now c.take_entry.new.cursor c.read_offer_entry.new.cursor
    c.take_entry.result c.take_entry.ensures.finds k c.read_offer_entry.result c.read_offer_entry.ensures.finds

pub returns-in-Some-Pend-clause-numbered : goal.returns-in-Some-Pend-clause-numbered
returns-in-Some-Pend-clause-numbered c =
    any_numbered c.read_offer_entry.result c.args.actions c.read_offer_entry.ensures.numbered

pub returns-in-Some-Ask-clause-finds : goal.returns-in-Some-Ask-clause-finds
returns-in-Some-Ask-clause-finds c =
    let k : c.take_entry.result ≡ Some word.Ask = search rules in
    ask_read (program_of c.args.vocabulary.now.checked.now) c.args.format c.args.tree.now c.args.cursor.now c.take_entry.new.cursor c.read_offer_entry-in-Some-Ask.new.cursor
    c.take_entry.result c.take_entry.ensures.finds k c.read_offer_entry-in-Some-Ask.result c.read_offer_entry-in-Some-Ask.ensures.finds

pub returns-in-Some-Ask-clause-numbered : goal.returns-in-Some-Ask-clause-numbered
returns-in-Some-Ask-clause-numbered c =
    any_numbered c.read_offer_entry-in-Some-Ask.result c.args.actions c.read_offer_entry-in-Some-Ask.ensures.numbered

pub returns-in-Some-Act-clause-finds : goal.returns-in-Some-Act-clause-finds
returns-in-Some-Act-clause-finds c =
    let k : c.take_entry.result ≡ Some word.Act = search rules in
    act_read (program_of c.args.vocabulary.now.checked.now) c.args.format c.args.tree.now c.args.cursor.now c.take_entry.new.cursor c.read_act_entry.new.cursor
    c.take_entry.result c.take_entry.ensures.finds k c.read_act_entry.result c.read_act_entry.ensures.finds

pub returns-in-Some-Act-clause-numbered : goal.returns-in-Some-Act-clause-numbered
returns-in-Some-Act-clause-numbered c =
    any_numbered c.read_act_entry.result c.args.actions c.read_act_entry.ensures.numbered

pub returns-in-Some-Reply-clause-finds : goal.returns-in-Some-Reply-clause-finds
returns-in-Some-Reply-clause-finds c =
    let k : c.take_entry.result ≡ Some word.Reply = search rules in
    reply_read (program_of c.args.vocabulary.now.checked.now) c.args.format c.args.tree.now c.args.cursor.now c.take_entry.new.cursor c.read_reply_entry.new.cursor
    c.take_entry.result c.take_entry.ensures.finds k c.read_reply_entry.result c.read_reply_entry.ensures.finds

pub returns-in-Some-Stall-clause-finds : goal.returns-in-Some-Stall-clause-finds
returns-in-Some-Stall-clause-finds c =
    let k : c.take_entry.result ≡ Some word.Stall = search rules in
    stall_read (program_of c.args.vocabulary.now.checked.now) c.args.format c.args.tree.now c.args.cursor.now c.take_entry.new.cursor c.read_stall_entry.new.cursor
    c.take_entry.result c.take_entry.ensures.finds k c.read_stall_entry.result c.read_stall_entry.ensures.finds

pub returns-in-Some-Stall-clause-numbered : goal.returns-in-Some-Stall-clause-numbered
returns-in-Some-Stall-clause-numbered c =
    any_numbered c.read_stall_entry.result c.args.actions c.read_stall_entry.ensures.numbered

pub returns-in-Some-Stall-clause-fits : goal.returns-in-Some-Stall-clause-fits
returns-in-Some-Stall-clause-fits c =
    any_fits (program_of c.args.vocabulary.now.checked.now) c.read_stall_entry.new.cursor c.read_stall_entry.result c.read_stall_entry.ensures.fits

pub returns-in-Some-Leave-clause-finds : goal.returns-in-Some-Leave-clause-finds
returns-in-Some-Leave-clause-finds c =
    let k : c.take_entry.result ≡ Some word.Leave = search rules in
    leave_read (program_of c.args.vocabulary.now.checked.now) c.args.format c.args.tree.now c.args.cursor.now c.take_entry.new.cursor c.take_entry.result c.take_entry.ensures.finds k
    c.read_client.result c.read_client.new.cursor (λ n fits e.
    let q = c.read_client.ensures.finds n [] fits refl (e ∙ ap Some (sym (append-nil (decimal n)))) in (q.0, subst IsSome (sym q.1) refl))
