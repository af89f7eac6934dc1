-- Why jobs stop a session. (This profile.)
use Rattle.std.specs.Prelude.{Option, Some, None}
use Rattle.rule_model.specs.declared.reply.LimitKind.TheVariants.{Spread}
use Rattle.node_values.specs.declared.stop.Stop.{Stop}
use Rattle.node_values.specs.declared.stop.Stop.TheVariants as causes
use Rattle.board_laws.specs.declared.stop_reason.StopReason.{StopReason}
use Rattle.board_laws.specs.declared.stop_reason.StopReason.TheVariants.{Spent, TooLarge, Limit}

-- the reason for which a job has no answer: a behaviour that is too wide passes the limit of what is looked at
abbrev pub reason_of : Stop → Option StopReason
reason_of (causes.Spent term) = Some (Spent term)
reason_of (causes.TooLarge term) = Some (TooLarge term)
reason_of (causes.Wide n) = Some (Limit Spread)
reason_of causes.Memory = None
