use Rattle.std.proofs.Common.{sym}
use Rattle.std.proofs.lemmas.List.{append-nil}
use Rattle.std.proofs.lemmas.Option.{slice_get_past}
use Rattle.type_names.proofs.cycle_refusal.add_name_at.Goals as goal

pub returns-else-number-types : goal.returns-else-number-types
returns-else-number-types c = rw (slice_get_past c.args.types.now c.args.number c.if-number-types.false) (sym (append-nil _))
