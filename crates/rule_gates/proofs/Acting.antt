-- What behaviours do is at their own gates, and what they become has no others.
use Rattle.std.proofs.Common.{ℕ, ◌≡◌, ◌⊎◌, ◌<◌, ◌==◌, inl, inr, List, [], ◌∷◌, length, refl, sym, subst, Bool, true, false, if◌then◌else◌}
use Rattle.std.proofs.lemmas.Bool.{eq-eqb}
use Rattle.spec_core.specs.Code.{Program, Relabelling, Variable}
use Rattle.spec_core.specs.Functionality.{IsGateInScope}
use Rattle.spec_core.specs.Lists.{Each, IsOneOf}
use Rattle.spec_core.specs.Ready.{IsReady}
use Rattle.spec_core.specs.Terms.{variable}
use Rattle.spec_core.proofs.Lists.{each_slice_get}
use Rattle.rule_model.specs.declared.action.Action.{Action}
use Rattle.rule_model.specs.declared.action.Action.TheVariants.{At, Exit, Inner}
use Rattle.rule_model.specs.declared.rules.Slot.TheVariants.{Of}
use Rattle.rule_model.specs.Actions.{Kind, IsUnhidden, among, at_gate, doing, ends, inside, kind_of, pairs_of, renamed, renamed_action}
use Rattle.rule_model.specs.Behaviours.{Behaviour, stop, exit, inner, action, choice, guarded, bound, value_choice, gate_choice, parallel}
use Rattle.rule_model.specs.Behaviours.{hide, enable, disable, call, relabel}
use Rattle.rule_model.specs.Code.{IsDefinition, IsStart}
use Rattle.rule_model.specs.Derivations.{Derivation, pre, int, exiting, chl, chr, val, gate, guard, letting, parl, parr, both, hiding, pass}
use Rattle.rule_model.specs.Derivations.{enstep, enend, disstep, disend, distake, calling, rel}
use Rattle.rule_model.specs.Derives.{DerivesWith}
use Rattle.rule_model.specs.Events as events
use Rattle.rule_model.specs.Events.{Event, acted, pended, replied, stalled}
use Rattle.rule_model.specs.Legal.{IsDerivation, IsPossible}
use Rattle.rule_model.specs.States.{State, start_state}
use Rattle.rule_model.specs.Substitution.{Assignment, put, tidied, with_term, without}
use Rattle.rule_gates.specs.Acting.{ActsAt, IsAt, IsOfHeading}
use Rattle.rule_gates.specs.Laws.{ActionsAreAtGatesOfTheHeading}
use Rattle.rule_gates.proofs.Keeping.{more, tidied_acts, with_terms}
use Rattle.rule_gates.proofs.Standing.{other_gate, stands, under_names}

-- a gate that isn't found among others is none of them
not_among : (g : ℕ) (gates : List ℕ) → among g gates ≡ false → IsOneOf g gates → ⊥
not_among g [] e i = i
not_among g (h ∷ gates) e i = by_test (g == h) refl e i (not_among g gates)
  where
    by_test : (b : Bool) → (g == h) ≡ b → (if b then true else among g gates) ≡ false → IsOneOf g (h ∷ gates) →
        (among g gates ≡ false → IsOneOf g gates → ⊥) → ⊥
    by_test true f e i rest = let never : ⊥ = cc in never
    by_test false f e (inl same) rest = other_gate g h same f
    by_test false f e (inr i) rest = rest e i

-- an action at gates of which some are hidden is at one of the others, if it isn't hidden
unhidden : (P : ℕ → Type 0) (gates : List ℕ) (k : Kind) → IsAt (λ g. IsOneOf g gates ⊎ P g) k → IsUnhidden gates k → IsAt P k
unhidden P gates inside h u = tt
unhidden P gates ends h u = tt
unhidden P gates (at_gate g) (inl i) u = absurd (not_among g gates u i)
unhidden P gates (at_gate g) (inr p) u = p

-- the gate that stands in the place of an action's
renamed_at : (P : ℕ → Type 0) (pairs : List Relabelling) (a : Action) → IsAt (λ g. P (renamed pairs g)) (kind_of a) →
    IsAt P (kind_of (renamed_action pairs a))
renamed_at P pairs Inner h = tt
renamed_at P pairs (Exit values) h = tt
renamed_at P pairs (At g values) h = h

module _ (program : Program) where
  -- P holds of each gate of the heading
  abbrev Covers : (ℕ → Type 0) → Type 0
  Covers P = (g : ℕ) → g < length program.gates → P g

  names_cover : (P : ℕ → Type 0) (pairs : List Relabelling) → Covers P → Each (λ m. P m.to) pairs → Covers (λ g. P (renamed pairs g))
  names_cover P pairs c to g low = under_names P pairs to g (inr (c g low))

  -- a gate of a process's definition stands for one of the call
  called : (P : ℕ → Type 0) → Covers P → (formal actual : List ℕ) → length actual ≡ length formal → Each P actual → (g : ℕ) →
      (g < length program.gates) ⊎ IsOneOf g formal → P (renamed (pairs_of formal actual) g)
  called P c [] [] same all g (inl low) = c g low
  called P c [] [] same all g (inr i) = absurd i
  called P c [] (h ∷ actual) same all g i = let never : ⊥ = cc in absurd never
  called P c (f ∷ formal) [] same all g i = let never : ⊥ = cc in absurd never
  called P c (f ∷ formal) (h ∷ actual) same all g i =
      by_test (g == f) refl i (called P c formal actual (let e : length actual ≡ length formal = cc in e) all.1 g)
    where
      by_test : (b : Bool) → (g == f) ≡ b → (g < length program.gates) ⊎ IsOneOf g (f ∷ formal) →
          ((g < length program.gates) ⊎ IsOneOf g formal → P (renamed (pairs_of formal actual) g)) →
          P (if b then h else renamed (pairs_of formal actual) g)
      by_test true e i rest = all.0
      by_test false e (inl low) rest = rest (inl low)
      by_test false e (inr (inl is)) rest = absurd (other_gate g f is e)
      by_test false e (inr (inr i)) rest = rest (inr i)

  tos : (P : ℕ → Type 0) (formal actual : List ℕ) → Each P actual → Each (λ m. P m.to) (pairs_of formal actual)
  tos P [] actual all = tt
  tos P (f ∷ formal) [] all = tt
  tos P (f ∷ formal) (h ∷ actual) all = (all.0, tos P formal actual all.1)

  module _ (ready : IsReady program) where
    body_acts : (P : ℕ → Type 0) → Covers P → (p : ℕ) (formal actual : List ℕ) (xs : List Variable) (body : Behaviour) →
        IsDefinition program p formal xs body → Each P actual → length actual ≡ length formal →
        ActsAt program P (relabel (pairs_of formal actual) body)
    body_acts P c p formal actual xs body is all same =
        let fits = (ready.well_formed.processes p formal xs is.part is.defines).1 in (
          tos P formal actual all,
          more program (IsGateInScope program formal) (λ g. P (renamed (pairs_of formal actual) g)) (called P c formal actual same all) body
              (stands program ready.well_formed.functionalities body formal is.part is.stands (record { vars = _; f = fits.0; has = fits.1 })),
        )

    -- the body of a choice of a gate, with the gate that is chosen
    chosen : (P : ℕ → Type 0) (g h : ℕ) → P h → (body : Behaviour) → ActsAt program (λ k. (k ≡ g) ⊎ P k) body →
        ActsAt program P (relabel (record { from = g; to = h } ∷ []) body)
    chosen P g h p body acts = (
      (p, tt),
      more program (λ k. (k ≡ g) ⊎ P k) (λ k. P (renamed (record { from = g; to = h } ∷ []) k)) by_name body acts,
    )
      where
        by_name : (k : ℕ) → (k ≡ g) ⊎ P k → P (if k == g then h else k)
        by_name k (inl e) = subst (λ (z : Bool). P (if z then h else k)) (sym (eq-eqb k g e)) p
        by_name k (inr q) = by_test (k == g)
          where
            by_test : (z : Bool) → P (if z then h else k)
            by_test true = p
            by_test false = q

    abbrev Does : (ℕ → Type 0) → Action → Behaviour → Type 0
    Does P a c = IsAt P (kind_of a) × ActsAt program P c

    done : (P : ℕ → Type 0) (a b : Action) (c d : Behaviour) → a ≡ b → c ≡ d → Does P b d → Does P a c
    done P a b c d e f h =
        (subst (λ (z : Action). IsAt P (kind_of z)) (sym e) h.0, subst (ActsAt program P) (sym f) h.1)

    act : (d : Derivation) (P : ℕ → Type 0) → Covers P → (b : Behaviour) (s : Assignment) (a : Action) (c : Behaviour) → ActsAt program P b →
        DerivesWith program s b d a c → Does P a c
    act (pre slots) P v (action g fields p rest) s a c i h =
        done P a (doing g h.0) c (put h.1 rest) h.2 h.5 (i.0, with_terms program P h.1 rest i.1)
    act int P v (inner rest) s a c i h = done P a Inner c (put s rest) h.0 h.1 (tt, with_terms program P s rest i)
    act (exiting slots) P v (exit fields) s a c i h = done P a (Exit h.0) c stop h.1 h.3 (tt, tt)
    act (chl d) P v (choice left right) s a c i h = act d P v left s a c i.0 h
    act (chr d) P v (choice left right) s a c i h = act d P v right s a c i.1 h
    act (val (Of u) d) P v (value_choice x body) s a c i h = act d P v body (with_term x h.0 s) a c i h.2
    act (gate j d) P v (gate_choice g gates body) s a c i h =
        act d P v (relabel (record { from = g; to = h.1 } ∷ []) body) s a c
        (chosen P g h.1 (each_slice_get P gates h.0 h.1 i.0 h.3) body i.1) h.4
    act (guard d) P v (guarded p body) s a c i h = act d P v body s a c i h.1
    act (letting d) P v (bound bindings body) s a c i h = act d P v body h.0 a c i h.2
    act (parl d) P v (parallel gates left right) s a c i h =
        let r = act d P v left s a h.0 i.0 h.1 in
        done P a a c (parallel gates h.0 (put s right)) refl h.3 (r.0, (r.1, with_terms program P s right i.1))
    act (parr d) P v (parallel gates left right) s a c i h =
        let r = act d P v right s a h.0 i.1 h.1 in
        done P a a c (parallel gates (put s left) h.0) refl h.3 (r.0, (with_terms program P s left i.0, r.1))
    act (both d e) P v (parallel gates left right) s a c i h =
        let r = act d P v left s a h.0 i.0 h.2 in
        let q = act e P v right s a h.1 i.1 h.3 in
        done P a a c (parallel gates h.0 h.1) refl h.5 (r.0, (r.1, q.1))
    act (hiding d) P v (hide gates body) s a c i h =
        let r = act d (λ g. IsOneOf g gates ⊎ P g) (λ g low. inr (v g low)) body s (doing h.0 h.1) h.2 i h.3 in
        done P a Inner c (hide gates h.2) h.5 h.6 (tt, r.1)
    act (pass d) P v (hide gates body) s a c i h =
        let r = act d (λ g. IsOneOf g gates ⊎ P g) (λ g low. inr (v g low)) body s a h.0 i h.1 in
        done P a a c (hide gates h.0) refl h.3 (unhidden P gates (kind_of a) r.0 h.2, r.1)
    act (enstep d) P v (enable left xs right) s a c i h =
        let r = act d P v left s a h.0 i.0 h.1 in
        done P a a c (enable h.0 xs (put (without xs s) right)) refl h.3 (r.0, (r.1, with_terms program P (without xs s) right i.1))
    act (enend d) P v (enable left xs right) s a c i h =
        done P a Inner c (put h.2 right) h.4 h.6 (tt, with_terms program P h.2 right i.1)
    act (disstep d) P v (disable left right) s a c i h =
        let r = act d P v left s a h.0 i.0 h.1 in
        done P a a c (disable h.0 (put s right)) refl h.3 (r.0, (r.1, with_terms program P s right i.1))
    act (disend d) P v (disable left right) s a c i h = act d P v left s a c i.0 h.0
    act (distake d) P v (disable left right) s a c i h = act d P v right s a c i.1 h
    act (calling d) P v (call p actual terms) s a c i h =
        act d P v (relabel (pairs_of h.0 actual) h.2) h.3 a c
        (body_acts P v p h.0 actual h.1 h.2 h.4 i.0 (i.1 h.0 h.1 h.4.part h.4.defines)) h.6
    act (rel d) P v (relabel pairs body) s a c i h =
        let r = act d (λ g. P (renamed pairs g)) (names_cover P pairs v i.0) body s h.0 h.1 i.1 h.2 in
        done P a (renamed_action pairs h.0) c (tidied pairs h.1) h.3 h.4 (renamed_at P pairs h.0 r.0, tidied_acts program P pairs i.0 h.1 r.1)
    act _ P v _ s a c i h = absurd h

    start_acts : (b : Behaviour) → IsStart program b → ActsAt program (IsOfHeading program) b
    start_acts b is =
        more program (IsGateInScope program []) (IsOfHeading program) of_heading b
        (stands program ready.well_formed.functionalities b [] program.start is
        (record { vars = _; f = ready.well_formed.whole; has = ready.well_formed.start }))
      where
        of_heading : (g : ℕ) → IsGateInScope program [] g → IsOfHeading program g
        of_heading g (inl low) = low
        of_heading g (inr i) = absurd i

    stays : (s : State) (event : Event) (t : State) → IsPossible program s event t → ActsAt program (IsOfHeading program) s.behaviour →
        ActsAt program (IsOfHeading program) t.behaviour
    stays s (pended client number offer ask) t h i =
        subst (λ (z : State). ActsAt program (IsOfHeading program) z.behaviour) (sym h.4) i
    stays s (acted a d by) t h i =
        subst (λ (z : State). ActsAt program (IsOfHeading program) z.behaviour) (sym h.3)
        (act d (IsOfHeading program) (λ g low. low) s.behaviour variable a h.0 i h.1).1
    stays s (replied client number answer) t h i =
        subst (λ (z : State). ActsAt program (IsOfHeading program) z.behaviour) (sym h.2) i
    stays s (stalled names) t h i = subst (λ (z : State). ActsAt program (IsOfHeading program) z.behaviour) (sym h.2) i
    stays s (events.left client) t h i = subst (λ (z : State). ActsAt program (IsOfHeading program) z.behaviour) (sym h.2) i

    reached : (log : List Event) (s t : State) → IsDerivation program log s t → ActsAt program (IsOfHeading program) s.behaviour →
        ActsAt program (IsOfHeading program) t.behaviour
    reached [] s t h i = subst (λ (z : State). ActsAt program (IsOfHeading program) z.behaviour) (sym h) i
    reached (event ∷ log) s t h i = reached log h.0 t h.2 (stays s event h.0 h.1 i)

pub actions_are_at_gates_of_the_heading : ActionsAreAtGatesOfTheHeading
actions_are_at_gates_of_the_heading program ready start is clients log s h d a c derives =
    (act program ready d (IsOfHeading program) (λ g low. low) s.behaviour variable a c
    (reached program ready log (start_state start clients) s h (start_acts program ready start is)) derives).0
