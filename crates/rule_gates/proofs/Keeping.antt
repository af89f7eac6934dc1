-- What stays of the gates of a behaviour: more gates, terms for variables, other names.
use Rattle.std.proofs.Common.{ℕ, ◌≡◌, ◌⊎◌, ◌∙◌, ◌==◌, inl, inr, List, [], ◌∷◌, map, refl, subst, Bool, true, false, if◌then◌else◌}
use Rattle.std.proofs.lemmas.List.{length-map}
use Rattle.spec_core.specs.Code.{Program, Relabelling}
use Rattle.spec_core.specs.Functionality.{accepted, bound_variables}
use Rattle.spec_core.specs.Lists.{Each, IsOneOf}
use Rattle.spec_core.proofs.Lists.{each-map, each_append, each_implied}
use Rattle.rule_model.specs.Actions.{after, renamed}
use Rattle.rule_model.specs.Behaviours.{Behaviour, stop, exit, inner, action, choice, guarded, bound, value_choice, gate_choice, parallel}
use Rattle.rule_model.specs.Behaviours.{hide, enable, disable, call, relabel}
use Rattle.rule_model.specs.Substitution.{Assignment, put, tidied, without}
use Rattle.rule_gates.specs.Acting.{ActsAt}

module _ (program : Program) where
  or_more : (A P Q : ℕ → Type 0) → ((g : ℕ) → P g → Q g) → (g : ℕ) → A g ⊎ P g → A g ⊎ Q g
  or_more A P Q f g (inl a) = inl a
  or_more A P Q f g (inr p) = inr (f g p)

  pub more : (P Q : ℕ → Type 0) → ((g : ℕ) → P g → Q g) → (b : Behaviour) → ActsAt program P b → ActsAt program Q b
  more P Q f stop h = tt
  more P Q f (exit fields) h = tt
  more P Q f (inner b) h = more P Q f b h
  more P Q f (action g fields guard b) h = (f g h.0, more P Q f b h.1)
  more P Q f (choice b c) h = (more P Q f b h.0, more P Q f c h.1)
  more P Q f (guarded p b) h = more P Q f b h
  more P Q f (bound bindings b) h = more P Q f b h
  more P Q f (value_choice x b) h = more P Q f b h
  more P Q f (gate_choice g gates b) h = (
    each_implied P Q gates f h.0,
    more (λ k. (k ≡ g) ⊎ P k) (λ k. (k ≡ g) ⊎ Q k) (or_more (λ k. k ≡ g) P Q f) b h.1,
  )
  more P Q f (parallel gates b c) h = (more P Q f b h.0, more P Q f c h.1)
  more P Q f (hide gates b) h =
      more (λ k. IsOneOf k gates ⊎ P k) (λ k. IsOneOf k gates ⊎ Q k) (or_more (λ k. IsOneOf k gates) P Q f) b h
  more P Q f (enable b xs c) h = (more P Q f b h.0, more P Q f c h.1)
  more P Q f (disable b c) h = (more P Q f b h.0, more P Q f c h.1)
  more P Q f (call p gates terms) h = (each_implied P Q gates f h.0, h.1)
  more P Q f (relabel pairs b) h = (
    each_implied (λ (m : Relabelling). P m.to) (λ (m : Relabelling). Q m.to) pairs (λ m. f m.to) h.0,
    more (λ k. P (renamed pairs k)) (λ k. Q (renamed pairs k)) (λ k. f (renamed pairs k)) b h.1,
  )

  pub with_terms : (P : ℕ → Type 0) (s : Assignment) (b : Behaviour) → ActsAt program P b → ActsAt program P (put s b)
  with_terms P s stop h = tt
  with_terms P s (exit fields) h = tt
  with_terms P s (inner b) h = with_terms P s b h
  with_terms P s (action g fields guard b) h = (h.0, with_terms P (without (accepted fields) s) b h.1)
  with_terms P s (choice b c) h = (with_terms P s b h.0, with_terms P s c h.1)
  with_terms P s (guarded p b) h = with_terms P s b h
  with_terms P s (bound bindings b) h = with_terms P (without (bound_variables bindings) s) b h
  with_terms P s (value_choice x b) h = with_terms P (without (x ∷ []) s) b h
  with_terms P s (gate_choice g gates b) h = (h.0, with_terms (λ k. (k ≡ g) ⊎ P k) s b h.1)
  with_terms P s (parallel gates b c) h = (with_terms P s b h.0, with_terms P s c h.1)
  with_terms P s (hide gates b) h = with_terms (λ k. IsOneOf k gates ⊎ P k) s b h
  with_terms P s (enable b xs c) h = (with_terms P s b h.0, with_terms P (without xs s) c h.1)
  with_terms P s (disable b c) h = (with_terms P s b h.0, with_terms P s c h.1)
  with_terms P s (call p gates terms) h = h
  with_terms P s (relabel pairs b) h = (h.0, with_terms (λ k. P (renamed pairs k)) s b h.1)

  -- a relabelling by two lists, one after the other
  renamed_twice : (pairs before : List Relabelling) (g : ℕ) → renamed pairs (renamed before g) ≡ renamed (after pairs before) g
  renamed_twice pairs [] g = refl
  renamed_twice pairs (m ∷ before) g = by_test (g == m.from) (renamed_twice pairs before g)
    where
      by_test : (b : Bool) → renamed pairs (renamed before g) ≡ renamed (after pairs before) g →
          renamed pairs (if b then m.to else renamed before g) ≡ (if b then renamed pairs m.to else renamed (after pairs before) g)
      by_test true e = refl
      by_test false e = e

  pub tidied_acts : (P : ℕ → Type 0) (pairs : List Relabelling) → Each (λ m. P m.to) pairs → (b : Behaviour) →
      ActsAt program (λ k. P (renamed pairs k)) b → ActsAt program P (tidied pairs b)
  tidied_acts P pairs to stop h = (to, h)
  tidied_acts P pairs to (exit fields) h = (to, h)
  tidied_acts P pairs to (inner b) h = (to, h)
  tidied_acts P pairs to (action g fields guard b) h = (to, h)
  tidied_acts P pairs to (choice b c) h = (to, h)
  tidied_acts P pairs to (guarded p b) h = (to, h)
  tidied_acts P pairs to (bound bindings b) h = (to, h)
  tidied_acts P pairs to (value_choice x b) h = (to, h)
  tidied_acts P pairs to (gate_choice g gates b) h = (to, h)
  tidied_acts P pairs to (parallel gates b c) h = (to, h)
  tidied_acts P pairs to (hide gates b) h = (to, h)
  tidied_acts P pairs to (enable b xs c) h = (to, h)
  tidied_acts P pairs to (disable b c) h = (to, h)
  tidied_acts P pairs to (call p gates terms) h = (
    each-map P (renamed pairs) gates h.0,
    λ formal xs part e. length-map gates (renamed pairs) ∙ h.1 formal xs part e,
  )
  tidied_acts P pairs to (relabel before b) h =
      tidied_acts P (after pairs before)
      (each_append (λ (m : Relabelling). P m.to) (map (λ (m : Relabelling). record { from = m.from; to = renamed pairs m.to }) before) pairs
      (each-map (λ (m : Relabelling). P m.to) (λ (m : Relabelling). record { from = m.from; to = renamed pairs m.to }) before h.0) to)
      b (more (λ k. P (renamed pairs (renamed before k))) (λ k. P (renamed (after pairs before) k))
      (λ k. subst P (renamed_twice pairs before k)) b h.1)
