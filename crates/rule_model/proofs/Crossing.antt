-- Behaviours and trees of rules may go to other threads.
use denote.Param.Send.{IsSend}
use Rattle.rule_model.proofs.beh.Beh.TheLaws.TheKnot as beh
use Rattle.rule_model.proofs.rules.Rules.TheLaws.TheKnot as rules
use Rattle.rule_model.specs.contracts.beh.Beh as beh_row
use Rattle.rule_model.specs.contracts.rules.Rules as rules_row
use Rattle.spec_core.proofs.Crossing.{simple, term_send}

pub rules_send : IsSend (rules_row.the_field).row
rules_send = search (rules.crosses, simple) depth 60 fits 20000

pub beh_send : IsSend (beh_row.the_field).row
beh_send = search (term_send, beh.crosses, simple) depth 60 fits 20000
