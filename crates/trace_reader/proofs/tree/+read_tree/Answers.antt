use Rattle.std.proofs.Common.{rules, ◌≡◌, ◌∙◌, Some, ap}
use Rattle.rule_model.specs.Derivations.{derivation_of, exiting, pre}
use Rattle.spec_core.specs.Code.{program_of}
use Rattle.trace_reader.specs.declared.rule_word.RuleWord.TheVariants as word
use Rattle.trace_reader.proofs.Trees.{both_read, exit_read, gate_read, int_read, no_rule, over_read, pre_read, val_read}
use Rattle.trace_reader.proofs.tree.+read_tree.Goals as goal

pub read_tree-returns-in-None-clause-finds : goal.read_tree-returns-in-None-clause-finds
read_tree-returns-in-None-clause-finds t c d rest fits ends e =
    absurd (no_rule (program_of c.args.vocabulary.now.checked.now) c.args.cursor.now c.take_rule.new.cursor c.take_rule.result c.take_rule.ensures.finds c.in-None.is d rest e)

pub read_tree-returns-in_ok-read_slots-in-Some-Pre-clause-finds : goal.read_tree-returns-in_ok-read_slots-in-Some-Pre-clause-finds
read_tree-returns-in_ok-read_slots-in-Some-Pre-clause-finds t c d rest fits ends e =
    let k : c.take_rule.result ≡ Some word.Pre = search rules in
    let q =
    pre_read (program_of c.args.vocabulary.now.checked.now) c.args.cursor.now c.take_rule.new.cursor c.take_rule.result c.take_rule.ensures.finds k
    c.in_ok-read_slots-in-Some-Pre.field-0.items c.read_slots.new.cursor c.in_ok-read_slots-in-Some-Pre.ensures.finds d rest fits ends e in
    (ap pre c.new.ensures ∙ q.0, q.1)

pub read_tree-returns-in-Some-Int-clause-finds : goal.read_tree-returns-in-Some-Int-clause-finds
read_tree-returns-in-Some-Int-clause-finds t c =
    let k : c.take_rule.result ≡ Some word.Int = search rules in
    int_read (program_of c.args.vocabulary.now.checked.now) c.args.cursor.now c.take_rule.new.cursor c.take_rule.result c.take_rule.ensures.finds k

pub read_tree-returns-in_ok-read_slots-in-Some-Exit-clause-finds : goal.read_tree-returns-in_ok-read_slots-in-Some-Exit-clause-finds
read_tree-returns-in_ok-read_slots-in-Some-Exit-clause-finds t c d rest fits ends e =
    let k : c.take_rule.result ≡ Some word.Exit = search rules in
    let q =
    exit_read (program_of c.args.vocabulary.now.checked.now) c.args.cursor.now c.take_rule.new.cursor c.take_rule.result c.take_rule.ensures.finds k
    c.in_ok-read_slots-in-Some-Exit.field-0.items c.read_slots-in-Some-Exit.new.cursor c.in_ok-read_slots-in-Some-Exit.ensures.finds d rest
    fits ends e in
    (ap exiting c.new-in-Some-Exit.ensures ∙ q.0, q.1)

pub read_tree-returns-in-Some-Val-clause-finds : goal.read_tree-returns-in-Some-Val-clause-finds
read_tree-returns-in-Some-Val-clause-finds t c =
    let k : c.take_rule.result ≡ Some word.Val = search rules in
    val_read (program_of c.args.vocabulary.now.checked.now) c.args.cursor.now c.take_rule.new.cursor c.take_rule.result c.take_rule.ensures.finds
    c.read_value_choice.new.cursor k c.read_value_choice.result c.read_value_choice.ensures.finds

pub read_tree-returns-in-Some-Gate-clause-finds : goal.read_tree-returns-in-Some-Gate-clause-finds
read_tree-returns-in-Some-Gate-clause-finds t c =
    let k : c.take_rule.result ≡ Some word.Gate = search rules in
    gate_read (program_of c.args.vocabulary.now.checked.now) c.args.cursor.now c.take_rule.new.cursor c.take_rule.result c.take_rule.ensures.finds
    c.read_gate_choice.new.cursor k c.read_gate_choice.result c.read_gate_choice.ensures.finds

pub read_tree-returns-in-Some-Both-clause-finds : goal.read_tree-returns-in-Some-Both-clause-finds
read_tree-returns-in-Some-Both-clause-finds t c =
    let k : c.take_rule.result ≡ Some word.Both = search rules in
    both_read (program_of c.args.vocabulary.now.checked.now) c.args.cursor.now c.take_rule.new.cursor c.take_rule.result c.take_rule.ensures.finds
    c.read_both.new.cursor k c.read_both.result c.read_both.ensures.finds

pub read_tree-returns-in_ok-part-in-Some-Over-clause-finds : goal.read_tree-returns-in_ok-part-in-Some-Over-clause-finds
read_tree-returns-in_ok-part-in-Some-Over-clause-finds t c =
    let k : c.take_rule.result ≡ Some (word.Over c.in-Some-Over.rule) = search rules in
    over_read (program_of c.args.vocabulary.now.checked.now) c.args.cursor.now c.take_rule.new.cursor c.take_rule.result c.take_rule.ensures.finds
    c.skip.new.self c.in-Some-Over.rule (derivation_of c.in_ok-part-in-Some-Over.part) c.read_tree.new.cursor k
    c.in_ok-part-in-Some-Over.ensures.finds c.skip.ensures c.over.result c.over.ensures
