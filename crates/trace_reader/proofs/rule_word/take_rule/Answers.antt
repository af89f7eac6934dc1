use Rattle.trace_reader.specs.declared.rule_word.TheConstants.{RULES}
use Rattle.trace_reader.specs.RuleWords.{rule_word}
use Rattle.trace_reader.proofs.WordsTaken.{at_rule, found}
use Rattle.trace_reader.proofs.rule_word.take_rule.Goals as goal

pub returns-clause-finds : goal.returns-clause-finds
returns-clause-finds c =
    found rule_word RULES at_rule c.args.cursor.now c.take_first.new.cursor c.take_first.result c.take_first.ensures.takes
