-- In a tree no more calls stand in one another than the code has constructs.
use Rattle.std.proofs.Common.{ℕ, zero, suc, ◌≡◌, ◌⊎◌, ◌≤◌, ◌<◌, ◌+◌, inl, inr, List, [], ◌∷◌, length, refl, sym, subst, arith, false}
use Rattle.std.proofs.Common.{eqb}
use Rattle.std.specs.List.{IsDistinct, AllByRecursion}
use Rattle.std.proofs.lemmas.Bool.Decides.{eqb_tells}
use Rattle.std.proofs.lemmas.Map.Keys.{IsDistinct-cons}
use Rattle.std.proofs.lemmas.Option.{slice_get_within}
use Rattle.spec_core.specs.Code as code
use Rattle.spec_core.specs.Terms.{TermTree}
use Rattle.spec_core.specs.Code.{Program, Variable}
use Rattle.spec_core.specs.Ready.{IsGuarded, CallsAtOnce, here, within, LeadsAtOnce, one_call, more_calls}
use Rattle.data_laws.proofs.Depth.{at_most}
use Rattle.rule_model.specs.Actions.{Kind, at_gate, ends, pairs_of}
use Rattle.rule_model.specs.Behaviours.{Behaviour, choice, guarded, bound, value_choice, gate_choice, parallel}
use Rattle.rule_model.specs.Behaviours.{hide, enable, disable, call, relabel}
use Rattle.rule_model.specs.Code.{StandsAt, IsDefinition}
use Rattle.rule_model.specs.Derivations.{Derivation, pre, int, exiting, chl, chr, val, gate, guard, letting, parl, parr, both, hiding, pass}
use Rattle.rule_model.specs.Derivations.{enstep, enend, disstep, disend, distake, calling, rel}
use Rattle.symbolic_rules.specs.Windows.{Windows}
use Rattle.symbolic_rules.specs.MarkedTerms.{MarkedAssignment, unmarked, with_marked}
use Rattle.symbolic_rules.specs.MarkedFields.{MarkedField}
use Rattle.symbolic_rules.specs.MayDerive.{MayDeriveWith}
use Rattle.symbolic_composites.specs.TreeLists.{Nests}
use Rattle.symbolic_composites.specs.ReadyLaws.{CallsNestWithinTheCode}

-- the behaviour calls the process before any action
abbrev Calls : Behaviour → ℕ → Type 0
Calls (choice b c) q = Calls b q ⊎ Calls c q
Calls (guarded p b) q = Calls b q
Calls (bound bindings b) q = Calls b q
Calls (value_choice x b) q = Calls b q
Calls (gate_choice g gates b) q = Calls b q
Calls (parallel gates b c) q = Calls b q ⊎ Calls c q
Calls (hide gates b) q = Calls b q
Calls (enable b xs c) q = Calls b q
Calls (disable b c) q = Calls b q ⊎ Calls c q
Calls (call p gates terms) q = p ≡ q
Calls (relabel pairs b) q = Calls b q
Calls _ q = ⊥

module _ (program : Program) (no_cycle : IsGuarded program) where
  calls_at_once : (n : ℕ) (b : Behaviour) (q : ℕ) → StandsAt program n b → Calls b q → CallsAtOnce program q n
  calls_at_once n (choice b c) q s (inl h) = within (code.choice s.0 s.1) s.0 s.2 (inl refl) (calls_at_once s.0 b q s.3 h)
  calls_at_once n (choice b c) q s (inr h) = within (code.choice s.0 s.1) s.1 s.2 (inr (inl refl)) (calls_at_once s.1 c q s.4 h)
  calls_at_once n (guarded p b) q s h = within (code.guarded p s.0) s.0 s.1 (inl refl) (calls_at_once s.0 b q s.2 h)
  calls_at_once n (bound bindings b) q s h = within (code.bound bindings s.0) s.0 s.1 (inl refl) (calls_at_once s.0 b q s.2 h)
  calls_at_once n (value_choice x b) q s h = within (code.value_choice x s.0) s.0 s.1 (inl refl) (calls_at_once s.0 b q s.2 h)
  calls_at_once n (gate_choice g gates b) q s h =
      within (code.gate_choice g gates s.0) s.0 s.1 (inl refl) (calls_at_once s.0 b q s.2 h)
  calls_at_once n (parallel gates b c) q s (inl h) =
      within (code.parallel gates s.0 s.1) s.0 s.2 (inl refl) (calls_at_once s.0 b q s.3 h)
  calls_at_once n (parallel gates b c) q s (inr h) =
      within (code.parallel gates s.0 s.1) s.1 s.2 (inr (inl refl)) (calls_at_once s.1 c q s.4 h)
  calls_at_once n (hide gates b) q s h = within (code.hide gates s.0) s.0 s.1 (inl refl) (calls_at_once s.0 b q s.2 h)
  calls_at_once n (enable b xs c) q s h = within (code.enable s.0 xs s.1) s.0 s.2 (inl refl) (calls_at_once s.0 b q s.3 h)
  calls_at_once n (disable b c) q s (inl h) = within (code.disable s.0 s.1) s.0 s.2 (inl refl) (calls_at_once s.0 b q s.3 h)
  calls_at_once n (disable b c) q s (inr h) = within (code.disable s.0 s.1) s.1 s.2 (inr (inl refl)) (calls_at_once s.1 c q s.4 h)
  calls_at_once n (call p gates terms) q s h = here (code.call p gates terms) s (sym h)
  calls_at_once n (relabel pairs b) q s h = within (code.relabel pairs s.0) s.0 s.1 (inl refl) (calls_at_once s.0 b q s.2 h)
  calls_at_once n _ q s h = absurd h

  further : (p q r : ℕ) → LeadsAtOnce program p q → CallsAtOnce program r q → LeadsAtOnce program p r
  further p q r (one_call c) d = more_calls q c (one_call d)
  further p q r (more_calls o c l) d = more_calls o c (further o q r l d)

  all_further : (q r : ℕ) (ps : List ℕ) → CallsAtOnce program r q → AllByRecursion (λ p. LeadsAtOnce program p q) ps →
      AllByRecursion (λ p. LeadsAtOnce program p r) ps
  all_further q r [] d h = tt
  all_further q r (p ∷ ps) d h = (further p q r h.0 d, all_further q r ps d h.1)

  not_equal : (a b : ℕ) → (a ≡ b → ⊥) → eqb a b ≡ false
  not_equal a b out = elim (eqb_tells a b) [ inl e ↦ absurd (out e.1) | inr e ↦ e.0 ]

  -- what leads to a process at once is another one
  all_others : (q : ℕ) (ps : List ℕ) → AllByRecursion (λ p. LeadsAtOnce program p q) ps → AllByRecursion (λ p. eqb q p ≡ false) ps
  all_others q [] h = tt
  all_others q (p ∷ ps) h =
      (not_equal q p (λ e. no_cycle q (subst (λ z. LeadsAtOnce program z q) (sym e) h.0)), all_others q ps h.1)

  -- The tree stands below calls of these processes: no two are one, all are in the code, and each leads to what the behaviour calls.
  record Below (ps : List ℕ) (b : Behaviour) : Type 0 where
    distinct : IsDistinct eqb ps
    in_code : AllByRecursion (λ p. p < length program.code) ps
    lead : (q : ℕ) → Calls b q → AllByRecursion (λ p. LeadsAtOnce program p q) ps

  below_part : (ps : List ℕ) (b c : Behaviour) → ((q : ℕ) → Calls c q → Calls b q) → Below ps b → Below ps c
  below_part ps b c part h = record { distinct = h.distinct; in_code = h.in_code; lead = λ q i. h.lead q (part q i) }

  -- below a call, too
  below_call : (p : ℕ) (gates : List ℕ) (xs : List Variable) (body : Behaviour) (actual : List ℕ) (terms : List TermTree) (ps : List ℕ) →
      IsDefinition program p gates xs body → Below ps (call p actual terms) → Below (p ∷ ps) (relabel (pairs_of gates actual) body)
  below_call p gates xs body actual terms ps h below = record {
    distinct = IsDistinct-cons eqb p ps (all_others p ps leads) below.distinct;
    in_code = (slice_get_within program.code p node h.defines, below.in_code);
    lead = λ q i. (one_call (called q i), all_further p q ps (called q i) leads);
  }
    where
      node : code.Node
      node = code.process gates xs h.part

      leads : AllByRecursion (λ x. LeadsAtOnce program x p) ps
      leads = below.lead p refl

      called : (q : ℕ) → Calls body q → CallsAtOnce program q p
      called q i = within node h.part h.defines (inl refl) (calls_at_once h.part body q h.stands i)

  module _ (w : Windows) where
    nests : (d : Derivation) (n : ℕ) (ps : List ℕ) (b : Behaviour) (m : MarkedAssignment) (k : Kind) (fs : List MarkedField) →
        Below ps b → length program.code ≤ n + length ps → MayDeriveWith program w m b d k fs → Nests n d
    nests (pre slots) n ps b m k fs below l h = tt
    nests int n ps b m k fs below l h = tt
    nests (exiting slots) n ps b m k fs below l h = tt
    nests (chl d) n ps (choice x y) m k fs below l h = nests d n ps x m k fs (below_part ps (choice x y) x (λ q i. inl i) below) l h
    nests (chr d) n ps (choice x y) m k fs below l h = nests d n ps y m k fs (below_part ps (choice x y) y (λ q i. inr i) below) l h
    nests (val slot d) n ps (value_choice x body) m k fs below l h =
        nests d n ps body (with_marked x h.0 m) k fs (below_part ps (value_choice x body) body (λ q i. i) below) l h.3
    nests (gate j d) n ps (gate_choice g gates body) m k fs below l h =
        let named = relabel (record { from = g; to = h.1 } ∷ []) body in
        nests d n ps named m k fs (below_part ps (gate_choice g gates body) named (λ q i. i) below) l h.4
    nests (guard d) n ps (guarded p body) m k fs below l h =
        nests d n ps body m k fs (below_part ps (guarded p body) body (λ q i. i) below) l h.1
    nests (letting d) n ps (bound bindings body) m k fs below l h =
        nests d n ps body h.0 k fs (below_part ps (bound bindings body) body (λ q i. i) below) l h.2
    nests (parl d) n ps (parallel gates x y) m k fs below l h =
        nests d n ps x m k fs (below_part ps (parallel gates x y) x (λ q i. inl i) below) l h.0
    nests (parr d) n ps (parallel gates x y) m k fs below l h =
        nests d n ps y m k fs (below_part ps (parallel gates x y) y (λ q i. inr i) below) l h.0
    nests (both d f) n ps (parallel gates x y) m k fs below l h = (
      nests d n ps x m k h.0 (below_part ps (parallel gates x y) x (λ q i. inl i) below) l h.2,
      nests f n ps y m k h.1 (below_part ps (parallel gates x y) y (λ q i. inr i) below) l h.3,
    )
    nests (hiding d) n ps (hide gates body) m k fs below l h =
        nests d n ps body m (at_gate h.0) h.1 (below_part ps (hide gates body) body (λ q i. i) below) l h.2
    nests (pass d) n ps (hide gates body) m k fs below l h =
        nests d n ps body m k fs (below_part ps (hide gates body) body (λ q i. i) below) l h.0
    nests (enstep d) n ps (enable x xs y) m k fs below l h =
        nests d n ps x m k fs (below_part ps (enable x xs y) x (λ q i. i) below) l h.0
    nests (enend d) n ps (enable x xs y) m k fs below l h =
        nests d n ps x m ends h.0 (below_part ps (enable x xs y) x (λ q i. i) below) l h.1
    nests (disstep d) n ps (disable x y) m k fs below l h =
        nests d n ps x m k fs (below_part ps (disable x y) x (λ q i. inl i) below) l h.0
    nests (disend d) n ps (disable x y) m k fs below l h =
        nests d n ps x m k fs (below_part ps (disable x y) x (λ q i. inl i) below) l h.0
    nests (distake d) n ps (disable x y) m k fs below l h =
        nests d n ps y m k fs (below_part ps (disable x y) y (λ q i. inr i) below) l h
    nests (calling d) zero ps (call p actual terms) m k fs below l h =
        let now = below_call p h.0 h.1 h.2 actual terms ps h.4 below in
        let few = at_most (length program.code) (p ∷ ps) now.distinct now.in_code in
        absurd (omega (arith, l, few))
    nests (calling d) (suc n) ps (call p actual terms) m k fs below l h =
        nests d n (p ∷ ps) (relabel (pairs_of h.0 actual) h.2) h.3 k fs (below_call p h.0 h.1 h.2 actual terms ps h.4 below)
        (omega (arith, l)) h.6
    nests (rel d) n ps (relabel pairs body) m k fs below l h =
        nests d n ps body m h.0 fs (below_part ps (relabel pairs body) body (λ q i. i) below) l h.1
    nests _ n ps _ m k fs below l h = absurd h

below_none : (program : Program) (no_cycle : IsGuarded program) (b : Behaviour) → Below program no_cycle [] b
unfolding IsDistinct
below_none program no_cycle b = record { distinct = tt; in_code = tt; lead = λ q i. tt }

pub calls_nest_within_the_code : CallsNestWithinTheCode
calls_nest_within_the_code program no_cycle w b o d k h =
    nests program no_cycle w d (length program.code) [] b unmarked k h.fields (below_none program no_cycle b) (omega arith) h.derives
