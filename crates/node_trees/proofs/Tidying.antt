-- Relabellings one over another, tidied.
use Rattle.std.proofs.Common.{ℕ, ◌≡◌, ◌==◌, ◌<◌, ◌≤◌, Bool, true, false, if◌then◌else◌, List, [], ◌∷◌, map, length, refl, sym, ap, subst, ◌∙◌, arith}
use Rattle.spec_core.specs.Code.{Relabelling, relabelling_of}
use Rattle.spec_core.specs.declared.items.Gate.{Gate}
use Rattle.rule_model.specs.Actions.{renamed, after}
use Rattle.rule_model.specs.Behaviours.{Behaviour, stop, exit, inner, action, choice, guarded, bound, value_choice, gate_choice, parallel}
use Rattle.rule_model.specs.Behaviours.{hide, enable, disable, call, relabel}
use Rattle.rule_model.specs.Constructs.{OnCall, OnRelabel}
use Rattle.rule_model.specs.Substitution.{Assignment, put, tidied}
use Rattle.rule_origins.proofs.Tidied.{stays}
use Rattle.spec_core.specs.Terms.{TermTree}
use Rattle.node_trees.specs.Origins.{relabelled_by, IsCall}

-- a gate's place after both relabellings
by_both : (g : ℕ) (m : Relabelling) (pairs rest : List Relabelling) (b : Bool) →
    renamed (after pairs rest) g ≡ renamed pairs (renamed rest g) →
    (if b then renamed pairs m.to else renamed (after pairs rest) g) ≡ renamed pairs (if b then m.to else renamed rest g)
by_both g m pairs rest true h = refl
by_both g m pairs rest false h = h

renamed_twice : (pairs before : List Relabelling) (g : ℕ) → renamed (after pairs before) g ≡ renamed pairs (renamed before g)
renamed_twice pairs [] g = refl
renamed_twice pairs (m ∷ before) g = by_both g m pairs before (g == m.from) (renamed_twice pairs before g)

gates_twice : (pairs before : List Relabelling) (gates : List ℕ) →
    map (renamed pairs) (map (renamed before) gates) ≡ map (renamed (after pairs before)) gates
gates_twice pairs before [] = refl
gates_twice pairs before (g ∷ gates) =
    ap (λ h. h ∷ map (renamed pairs) (map (renamed before) gates)) (sym (renamed_twice pairs before g))
    ∙ ap (λ hs. renamed (after pairs before) g ∷ hs) (gates_twice pairs before gates)

-- three relabellings are grouped either way
grouped : (pairs middle before : List Relabelling) → after pairs (after middle before) ≡ after (after pairs middle) before
grouped pairs middle [] = refl
grouped pairs middle (m ∷ before) =
    ap (λ k. record { from = m.from; to = k } ∷ after pairs (after middle before)) (sym (renamed_twice pairs middle m.to))
    ∙ ap (λ l. record { from = m.from; to = renamed (after pairs middle) m.to } ∷ l) (grouped pairs middle before)

-- two tidyings are one
pub tidied_twice : (b : Behaviour) (pairs before : List Relabelling) → tidied pairs (tidied before b) ≡ tidied (after pairs before) b
tidied_twice (relabel first b) pairs before =
    tidied_twice b pairs (after before first) ∙ ap (λ l. tidied l b) (grouped pairs before first)
tidied_twice (call p gates terms) pairs before = ap (λ gs. call p gs terms) (gates_twice pairs before gates)
tidied_twice stop pairs before = refl
tidied_twice (exit fields) pairs before = refl
tidied_twice (inner b) pairs before = refl
tidied_twice (action g fields p b) pairs before = refl
tidied_twice (choice b c) pairs before = refl
tidied_twice (guarded p b) pairs before = refl
tidied_twice (bound bindings b) pairs before = refl
tidied_twice (value_choice x b) pairs before = refl
tidied_twice (gate_choice g gates b) pairs before = refl
tidied_twice (parallel gates b c) pairs before = refl
tidied_twice (hide gates b) pairs before = refl
tidied_twice (enable b xs c) pairs before = refl
tidied_twice (disable b c) pairs before = refl

same_gates : (gates : List ℕ) → map (renamed []) gates ≡ gates
same_gates [] = refl
same_gates (g ∷ gates) = ap (λ l. g ∷ l) (same_gates gates)

-- a call is relabelled in its gates, by an empty relabelling too
pub relabelled_call : (pairs : List Relabelling) (b : Behaviour) → IsCall b → relabelled_by pairs b ≡ tidied pairs b
relabelled_call [] (call p gates terms) h = ap (λ gs. call p gs terms) (sym (same_gates gates))
relabelled_call (m ∷ pairs) b h = refl
relabelled_call [] _ h = absurd h

-- an origin under a relabelling
pub tidied_leaf : (pairs before : List Relabelling) (b : Behaviour) → tidied pairs (relabelled_by before b) ≡ tidied (after pairs before)
    b
tidied_leaf pairs [] b = refl
tidied_leaf pairs (m ∷ before) b = tidied_twice b pairs (m ∷ before)

-- a relabelling and values are put in either way round
put_tidied : (s : Assignment) (b : Behaviour) (pairs : List Relabelling) → put s (tidied pairs b) ≡ tidied pairs (put s b)
put_tidied s (relabel before b) pairs = put_tidied s b (after pairs before)
put_tidied s (call p gates terms) pairs = refl
put_tidied s stop pairs = refl
put_tidied s (exit fields) pairs = refl
put_tidied s (inner b) pairs = refl
put_tidied s (action g fields p b) pairs = refl
put_tidied s (choice b c) pairs = refl
put_tidied s (guarded p b) pairs = refl
put_tidied s (bound bindings b) pairs = refl
put_tidied s (value_choice x b) pairs = refl
put_tidied s (gate_choice g gates b) pairs = refl
put_tidied s (parallel gates b c) pairs = refl
put_tidied s (hide gates b) pairs = refl
put_tidied s (enable b xs c) pairs = refl
put_tidied s (disable b c) pairs = refl

pub put_relabelled : (s : Assignment) (pairs : List Relabelling) (b : Behaviour) →
    put s (relabelled_by pairs b) ≡ relabelled_by pairs (put s b)
put_relabelled s [] b = refl
put_relabelled s (m ∷ pairs) b = put_tidied s b (m ∷ pairs)

-- an empty relabelling is none, and one with a pair stays
pub none_relabelled : (pairs : List (Gate × Gate)) (b : Behaviour) → length pairs < 1 → relabelled_by (map relabelling_of pairs) b ≡ b
none_relabelled [] b h = refl
none_relabelled (m ∷ pairs) b h = absurd (omega (arith, h))

pub some_relabelled : (pairs : List (Gate × Gate)) (b : Behaviour) → 1 ≤ length pairs →
    relabelled_by (map relabelling_of pairs) b ≡ tidied (map relabelling_of pairs) b
some_relabelled [] b h = absurd (omega (arith, h))
some_relabelled (m ∷ pairs) b h = refl

-- Code with values for its variables, where two relabellings over its behaviours make one behaviour.

pub tidied_scoped : (s : Assignment) (pairs all : List Relabelling) (b c : Behaviour) → tidied pairs b ≡ tidied all c →
    tidied pairs (put s b) ≡ tidied all (put s c)
tidied_scoped s pairs all b c e = sym (put_tidied s b pairs) ∙ ap (put s) e ∙ put_tidied s c all

pub stays_scoped : (s : Assignment) (all : List Relabelling) (c : Behaviour) → (OnRelabel c (λ _ _. Unit {0}) → ⊥) →
    (OnCall c (λ _ _ _. Unit {0}) → ⊥) → tidied all (put s c) ≡ relabel all (put s c)
stays_scoped s all c r k = sym (put_tidied s c all) ∙ ap (put s) (stays all c r k)

pub call_scoped : (s : Assignment) (c : Behaviour) (p : ℕ) (gates : List ℕ) (terms : List TermTree) → c ≡ call p gates terms →
    IsCall (put s c)
call_scoped s c p gates terms is = subst (λ z. IsCall (put s z)) (sym is) tt
