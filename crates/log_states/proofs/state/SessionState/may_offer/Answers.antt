use Rattle.std.proofs.Common.{◌∙◌, sym}
use Rattle.std.proofs.lemmas.Bool.{true≢false}
use Rattle.log_states.proofs.state.SessionState.may_offer.Goals as goal

pub returns-then-is_free : goal.returns-then-is_free
returns-then-is_free c b = (
  λ h.
      let free = (c.is_free.ensures b).0 c.if-is_free.true in
      let fits = c.fits.ensures.0 h in
      record { is_open = free.is_open; idle = free.idle; next = fits.0; gate = fits.1 },
  λ m. c.fits.ensures.1 (m.next, m.gate),
)

pub returns-else-is_free : goal.returns-else-is_free
returns-else-is_free c b =
    (λ h. absurd (true≢false (sym h ∙ c.if-is_free.false)), λ m. (c.is_free.ensures b).1 (record { is_open = m.is_open; idle = m.idle }))
