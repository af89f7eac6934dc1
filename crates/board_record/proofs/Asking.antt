-- What the tests of a client say.
use Rattle.std.proofs.Common.{ℕ, ◌≡◌, ◌↔◌, ◌∙◌, sym, subst, Bool, true, false, IsTrue, Contains}
use Rattle.std.proofs.lemmas.Bool.{true≢false}
use Rattle.rule_model.specs.Behaviours.{Behaviour}
use Rattle.rule_model.specs.Legal.{IsIdle}
use Rattle.log_states.specs.declared.state.SessionState.{SessionState}
use Rattle.log_states.specs.Possible.{MayLeave}
use Rattle.log_states.specs.Views.{state_at, state_of}

module _ (s t : SessionState) (client : ℕ) (same : s ≡ t) where
  pub is_open : (b : Bool) → (IsTrue b ↔ Contains (state_of s).open_clients client) → b ≡ true → Contains (state_of t).open_clients client
  is_open b h e = subst (λ z. Contains (state_of z).open_clients client) same (h.0 e)

  pub not_open : (b : Bool) → (IsTrue b ↔ Contains (state_of s).open_clients client) → b ≡ false → Contains (state_of t).open_clients client → ⊥
  not_open b h e k = absurd (true≢false (sym (h.1 (subst (λ z. Contains (state_of z).open_clients client) (sym same) k)) ∙ e))

  pub is_idle : (b : Bool) → (IsTrue b ↔ IsIdle (state_of s) client) → b ≡ true → IsIdle (state_of t) client
  is_idle b h e = subst (λ z. IsIdle (state_of z) client) same (h.0 e)

  pub may_leave : (reached : Behaviour) (a b : Bool) → (IsTrue a ↔ Contains (state_of s).open_clients client) → (IsTrue b ↔ IsIdle (state_of s) client) →
      a ≡ true → b ≡ true → MayLeave (state_at reached t) client
  may_leave reached a b h k e f = record { is_open = is_open a h e; idle = is_idle b k f }
