use Rattle.std.proofs.Common.{◌∙◌, sym}
use Rattle.std.proofs.lemmas.Bool.{true≢false}
use Rattle.log_states.proofs.Entries.{are_named, named_ascend, named_just}
use Rattle.log_states.proofs.state.SessionState.are_named.Goals as goal

pub returns-then-is_ascending : goal.returns-then-is_ascending
returns-then-is_ascending c b = (
  λ h. are_named b c.args.self.now c.args.names.now (sym c.is_ascending.ensures ∙ c.if-is_ascending.true) (sym c.names_just.ensures ∙ h),
  λ m. c.names_just.ensures ∙ named_just b c.args.self.now c.args.names.now m,
)

pub returns-else-is_ascending : goal.returns-else-is_ascending
returns-else-is_ascending c b =
    (λ h. absurd (true≢false (sym h ∙ c.if-is_ascending.false)), λ m. c.is_ascending.ensures ∙ named_ascend b c.args.self.now c.args.names.now m)
