-- What a behaviour may do by a tree is one action, or none.
use Rattle.std.proofs.Common.{ℕ, zero, suc, ◌≡◌, inl, inr, List, [], ◌∷◌, refl, sym, ap, subst, ◌∙◌, Option, Some, None, Bool, true}
use Rattle.std.proofs.Common.{false}
use Rattle.std.specs.List.{slice_get}
use Rattle.std.proofs.lemmas.Option.{none-some, same_Some}
use Rattle.std.proofs.lemmas.Bool.{false≢true}
use Rattle.spec_core.specs.Lists.{Each}
use Rattle.spec_core.specs.Code.{Program, Variable, Relabelling}
use Rattle.rule_model.specs.declared.offer.Offer.{Offer}
use Rattle.rule_model.specs.Actions.{Kind, inside, ends, at_gate, among, pairs_of, IsAlone, IsJoint, IsUnhidden, IsNoEnd, IsEnd}
use Rattle.rule_model.specs.Behaviours.{Behaviour, exit, inner, action, choice, guarded, bound, value_choice, gate_choice, parallel}
use Rattle.rule_model.specs.Behaviours.{hide, enable, disable, call, relabel}
use Rattle.rule_model.specs.Code.{IsDefinition}
use Rattle.rule_model.specs.Derivations.{Derivation, pre, int, exiting, chl, chr, val, gate, guard, letting, parl, parr, both, hiding, pass}
use Rattle.rule_model.specs.Derivations.{enstep, enend, disstep, disend, distake, calling, rel}
use Rattle.symbolic_rules.specs.Windows.{Windows}
use Rattle.symbolic_rules.specs.MarkedTerms.{MarkedTerm, MarkedAssignment, unmarked, with_marked, PremiseMayHold, GuardMayHold}
use Rattle.symbolic_rules.specs.MarkedFields.{MarkedField, chosen_by, AllAgree, HaveSortsOf, IsWithin, Chooses, FieldsMayHave, ExitMayHave}
use Rattle.symbolic_rules.specs.MarkedFields.{BindingsMayHave, ArgumentsMayHave}
use Rattle.symbolic_rules.specs.MayDerive.{renamed_kind, MayDeriveWith}
use Rattle.symbolic_rules.specs.Trees.{MayMeet, IsSeen}
use Rattle.symbolic_composites.specs.Evaluations.{Definition, Evaluation, IsExact}
use Rattle.symbolic_composites.specs.TestableLaws.{TreesShowOneAction, SeenCanBeTested}
use Rattle.symbolic_composites.proofs.One.{IsKnown, One, known_both, known_as, one_as, one_where, one_then}
use Rattle.symbolic_composites.proofs.Parts.{is_true_known, same_kind_known, alone_known, joint_known, unhidden_known}
use Rattle.symbolic_composites.proofs.Parts.{no_end_known, end_known, one_choice, premise_known, guard_known, one_binding, one_argument}
use Rattle.symbolic_composites.proofs.Parts.{one_fields, one_exit}
use Rattle.symbolic_composites.proofs.Meeting.{all_agree, sorts_known, all_within_known, within_known, meets_known}

-- the kind of an action, and its fields
abbrev Shown : Type 0
Shown = Kind × List MarkedField

-- the gate at a place of the list
abbrev IsGateAt : List ℕ → ℕ → ℕ × ℕ → Type 0
IsGateAt gates j p = (j ≡ suc p.0) × (slice_get gates p.0 ≡ Some p.1)

one_gate : (gates : List ℕ) (j : ℕ) → One (IsGateAt gates j)
one_gate gates zero = inr (λ p h. let e : zero ≡ suc p.0 = h.0 in cc)
one_gate gates (suc i) = by_place (slice_get gates i) refl
  where
    place : (p : ℕ × ℕ) → IsGateAt gates (suc i) p → p.0 ≡ i
    place p h = let e : suc i ≡ suc p.0 = h.0 in cc

    by_place : (o : Option ℕ) → slice_get gates i ≡ o → One (IsGateAt gates (suc i))
    by_place None q = inr (λ p h. none-some _ (sym q ∙ subst (λ n. slice_get gates n ≡ Some p.1) (place p h) h.1))
    by_place (Some g) q = inl ((i, g), (refl, q), only)
      where
        only : (p : ℕ × ℕ) → IsGateAt gates (suc i) p → p ≡ (i, g)
        only p h =
            let at : slice_get gates i ≡ Some p.1 = subst (λ n. slice_get gates n ≡ Some p.1) (place p h) h.1 in
            ap (λ n. (n, p.1)) (place p h) ∙ ap (λ n. (i, n)) (same_Some _ _ (sym at ∙ q))

module _ (program : Program) (e : Evaluation) (exact : IsExact program e) (w : Windows) where
  abbrev MayShow : MarkedAssignment → Behaviour → Derivation → Shown → Type 0
  MayShow m b d p = MayDeriveWith program w m b d p.0 p.1

  -- where a condition holds, what the part shows
  one_under : (P : Type 0) (Q : Shown → Type 0) → IsKnown P → One Q → One (λ p. P × Q p)
  one_under P Q (inr out) q = inr (λ p h. out h.0)
  one_under P Q (inl i) q = one_as Q (λ p. P × Q p) (λ p h. (i, h)) (λ p h. h.1) q

  one_definition : (p : ℕ) → One (λ (d : Definition). IsDefinition program p d.gates d.variables d.body)
  one_definition p = by_answer (e.definition p) refl
    where
      by_answer : (o : Option Definition) → e.definition p ≡ o → One (λ (d : Definition). IsDefinition program p d.gates d.variables d.body)
      by_answer None q = inr (λ d h. none-some _ (sym q ∙ (exact.definition p d).0 h))
      by_answer (Some d) q = inl (d, (exact.definition p d).1 q, λ c h. same_Some _ _ (sym ((exact.definition p c).0 h) ∙ q))

  -- what turns internal, where a condition holds of it
  one_turned : (Q : Shown → Type 0) (R : Shown → Type 0) → One Q → ((p : Shown) → IsKnown (R p)) →
      One (λ (p : Shown). (q : Shown) × (Q q × R q) × ((p.0 ≡ inside) × (p.1 ≡ [])))
  one_turned Q R q known =
      one_then (λ p. Q p × R p) (λ q p. (p.0 ≡ inside) × (p.1 ≡ [])) (one_where Q R q known) (λ p h. alone)
    where
      alone : One (λ (p : Shown). (p.0 ≡ inside) × (p.1 ≡ []))
      alone = inl ((inside, []), (refl, refl), only)
        where
          only : (p : Shown) → (p.0 ≡ inside) × (p.1 ≡ []) → p ≡ (inside, [])
          only p h = ap (λ k. (k, p.1)) h.0 ∙ ap (λ l. (inside, l)) h.1

  -- an action at a hidden gate, within the windows
  abbrev IsHidden : List ℕ → Shown → Type 0
  IsHidden gates p = (g : ℕ) × (p.0 ≡ at_gate g) × (among g gates ≡ true) × Each (IsWithin program.theory w) p.1

  hidden_known : (gates : List ℕ) (p : Shown) → IsKnown (IsHidden gates p)
  hidden_known gates (inside, fs) = inr (λ h. let e : inside ≡ at_gate h.0 = h.1 in cc)
  hidden_known gates (ends, fs) = inr (λ h. let e : ends ≡ at_gate h.0 = h.1 in cc)
  hidden_known gates (at_gate g, fs) =
      known_as ((among g gates ≡ true) × Each (IsWithin program.theory w) fs) (IsHidden gates (at_gate g, fs))
      (λ h. (g, refl, h.0, h.1)) back
      (known_both (among g gates ≡ true) (Each (IsWithin program.theory w) fs) (is_true_known (among g gates))
      (all_within_known program.theory w fs))
    where
      back : IsHidden gates (at_gate g, fs) → (among g gates ≡ true) × Each (IsWithin program.theory w) fs
      back h = let same : h.0 ≡ g = gate_of (h.1) in (subst (λ x. among x gates ≡ true) same h.2, h.3)
        where
          gate_of : at_gate g ≡ at_gate h.0 → h.0 ≡ g
          gate_of e = cc

  -- a termination with fields of these sorts, within the windows
  abbrev IsHandedOn : List Variable → Shown → Type 0
  IsHandedOn xs p = (p.0 ≡ ends) × (HaveSortsOf program.theory xs p.1 × Each (IsWithin program.theory w) p.1)

  handed_known : (xs : List Variable) (p : Shown) → IsKnown (IsHandedOn xs p)
  handed_known xs p =
      known_both (p.0 ≡ ends) (HaveSortsOf program.theory xs p.1 × Each (IsWithin program.theory w) p.1) (same_kind_known p.0 ends)
      (known_both (HaveSortsOf program.theory xs p.1) (Each (IsWithin program.theory w) p.1) (sorts_known program.theory xs p.1)
      (all_within_known program.theory w p.1))

  -- both sides do one action together
  abbrev Together : (Kind → Type 0) → (Shown → Type 0) → (Shown → Type 0) → Shown → Type 0
  Together joint left right p =
      (gs hs : List MarkedField) × left (p.0, gs) × right (p.0, hs) × joint p.0 × AllAgree program.theory gs hs p.1

  one_together : (joint : Kind → Type 0) (left right : Shown → Type 0) → ((k : Kind) → IsKnown (joint k)) → One left → One right →
      One (Together joint left right)
  one_together joint left right known (inr out) r = inr (λ p h. out (p.0, h.0) h.2)
  one_together joint left right known (inl l) (inr out) = inr (λ p h. out (p.0, h.1) h.3)
  one_together joint left right known (inl l) (inl r) = by_kind (same_kind_known l.0.0 r.0.0)
    where
      kind_left : (p : Shown) → Together joint left right p → p.0 ≡ l.0.0
      kind_left p h = ap (λ (q : Shown). q.0) (l.2 (p.0, h.0) h.2)

      kind_right : (p : Shown) → Together joint left right p → p.0 ≡ r.0.0
      kind_right p h = ap (λ (q : Shown). q.0) (r.2 (p.0, h.1) h.3)

      -- the fields that agree are those of both
      agree_so : (p : Shown) → Together joint left right p → AllAgree program.theory l.0.1 r.0.1 p.1
      agree_so p h =
          subst (λ z. AllAgree program.theory z r.0.1 p.1) (ap (λ (q : Shown). q.1) (l.2 (p.0, h.0) h.2))
          (subst (λ z. AllAgree program.theory h.0 z p.1) (ap (λ (q : Shown). q.1) (r.2 (p.0, h.1) h.3)) h.5)

      by_kind : IsKnown (l.0.0 ≡ r.0.0) → One (Together joint left right)
      by_kind (inr out) = inr (λ p h. out (sym (kind_left p h) ∙ kind_right p h))
      by_kind (inl same) = by_joint (known l.0.0) (all_agree program.theory l.0.1 r.0.1)
        where
          by_joint : IsKnown (joint l.0.0) → One (AllAgree program.theory l.0.1 r.0.1) → One (Together joint left right)
          by_joint (inr out) a = inr (λ p h. out (subst joint (kind_left p h) h.4))
          by_joint (inl j) (inr out) = inr (λ p h. out p.1 (agree_so p h))
          by_joint (inl j) (inl a) = inl (
            (l.0.0, a.0),
            (l.0.1, r.0.1, l.1, subst (λ k. right (k, r.0.1)) (sym same) r.1, j, a.1),
            only,
          )
            where
              only : (p : Shown) → Together joint left right p → p ≡ (l.0.0, a.0)
              only p h = ap (λ k. (k, p.1)) (kind_left p h) ∙ ap (λ z. (l.0.0, z)) (a.2 p.1 (agree_so p h))

  -- a relabelled behaviour does it at another gate
  one_renamed : (pairs : List Relabelling) (Q : Shown → Type 0) → One Q →
      One (λ (p : Shown). (j : Kind) × Q (j, p.1) × (p.0 ≡ renamed_kind pairs j))
  one_renamed pairs Q (inr out) = inr (λ p h. out (h.0, p.1) h.1)
  one_renamed pairs Q (inl q) = inl ((renamed_kind pairs q.0.0, q.0.1), (q.0.0, q.1, refl), only)
    where
      only : (p : Shown) → (j : Kind) × Q (j, p.1) × (p.0 ≡ renamed_kind pairs j) → p ≡ (renamed_kind pairs q.0.0, q.0.1)
      only p h =
          let same = q.2 (h.0, p.1) h.1 in
          ap (λ k. (k, p.1)) (h.2 ∙ ap (λ (z : Shown). renamed_kind pairs z.0) same)
          ∙ ap (λ (z : Shown). (renamed_kind pairs q.0.0, z.1)) same

  -- a prefix acts at its gate, where its predicate may hold
  one_prefix : (g : ℕ) (F : List MarkedField × MarkedAssignment → Type 0) (G : MarkedAssignment → Type 0) → One F →
      ((r : MarkedAssignment) → IsKnown (G r)) → One (λ (p : Shown). (r : MarkedAssignment) × (p.0 ≡ at_gate g) × F (p.1, r) × G r)
  one_prefix g F G (inr out) known = inr (λ p h. out (p.1, h.0) h.2)
  one_prefix g F G (inl f) known = by_guard (known f.0.1)
    where
      scope : (p : Shown) → (h : (r : MarkedAssignment) × (p.0 ≡ at_gate g) × F (p.1, r) × G r) → h.0 ≡ f.0.1
      scope p h = ap (λ (z : List MarkedField × MarkedAssignment). z.1) (f.2 (p.1, h.0) h.2)

      by_guard : IsKnown (G f.0.1) → One (λ (p : Shown). (r : MarkedAssignment) × (p.0 ≡ at_gate g) × F (p.1, r) × G r)
      by_guard (inr out) = inr (λ p h. out (subst G (scope p h) h.3))
      by_guard (inl i) = inl ((at_gate g, f.0.0), (f.0.1, refl, f.1, i), only)
        where
          only : (p : Shown) → (r : MarkedAssignment) × (p.0 ≡ at_gate g) × F (p.1, r) × G r → p ≡ (at_gate g, f.0.0)
          only p h =
              ap (λ k. (k, p.1)) h.1 ∙ ap (λ (z : List MarkedField × MarkedAssignment). (at_gate g, z.0)) (f.2 (p.1, h.0) h.2)

  -- an action of this kind with fields of which there are one or none
  one_of_kind : (k : Kind) (F : List MarkedField → Type 0) → One F → One (λ (p : Shown). (p.0 ≡ k) × F p.1)
  one_of_kind k F (inr out) = inr (λ p h. out p.1 h.1)
  one_of_kind k F (inl f) = inl ((k, f.0), (refl, f.1), only)
    where
      only : (p : Shown) → (p.0 ≡ k) × F p.1 → p ≡ (k, f.0)
      only p h = ap (λ j. (j, p.1)) h.0 ∙ ap (λ z. (k, z)) (f.2 p.1 h.1)

  one_shown : (d : Derivation) (b : Behaviour) (m : MarkedAssignment) → One (MayShow m b d)
  one_shown (pre slots) (action g fields p rest) m =
      one_prefix g (λ q. FieldsMayHave program.theory w m m fields slots q.0 q.1) (λ r. GuardMayHold program.theory r p)
      (one_fields program e exact w m m fields slots) (λ r. guard_known program e exact w r p)
  one_shown int (inner rest) m = one_of_kind inside (λ fs. fs ≡ []) (inl ([], refl, λ fs h. h))
  one_shown (exiting slots) (exit fields) m =
      one_of_kind ends (ExitMayHave program.theory w m fields slots) (one_exit program e exact w m fields slots)
  one_shown (chl d) (choice x y) m = one_shown d x m
  one_shown (chr d) (choice x y) m = one_shown d y m
  one_shown (val slot d) (value_choice x body) m =
      one_as (λ p. (n : MarkedTerm) × (Chooses program.theory w slot x.sort n × IsWithin program.theory w (chosen_by n)) ×
      MayShow (with_marked x n m) body d p) (MayShow m (value_choice x body) (val slot d)) (λ p h. (h.0, h.1.0, h.1.1, h.2))
      (λ p h. (h.0, (h.1, h.2), h.3))
      (one_then (λ n. Chooses program.theory w slot x.sort n × IsWithin program.theory w (chosen_by n))
      (λ n p. MayShow (with_marked x n m) body d p)
      (one_where (Chooses program.theory w slot x.sort) (λ n. IsWithin program.theory w (chosen_by n))
      (one_choice program e exact w slot x.sort) (λ n. within_known program.theory w (chosen_by n)))
      (λ n h. one_shown d body (with_marked x n m)))
  one_shown (gate j d) (gate_choice g gates body) m =
      one_as (λ p. (q : ℕ × ℕ) × IsGateAt gates j q × MayShow m (relabel (record { from = g; to = q.1 } ∷ []) body) d p)
      (MayShow m (gate_choice g gates body) (gate j d)) (λ p h. (h.0.0, h.0.1, h.1.0, h.1.1, h.2))
      (λ p h. ((h.0, h.1), (h.2, h.3), h.4))
      (one_then (IsGateAt gates j) (λ q p. MayShow m (relabel (record { from = g; to = q.1 } ∷ []) body) d p) (one_gate gates j)
      (λ q h. one_shown d (relabel (record { from = g; to = q.1 } ∷ []) body) m))
  one_shown (guard d) (guarded p body) m =
      one_under (PremiseMayHold program.theory m p) (MayShow m body d) (premise_known program e exact w m p) (one_shown d body m)
  one_shown (letting d) (bound bindings body) m =
      one_then (BindingsMayHave program.theory m m bindings) (λ r p. MayShow r body d p) (one_binding program e exact w m m bindings)
      (λ r h. one_shown d body r)
  one_shown (parl d) (parallel gates x y) m =
      one_where (MayShow m x d) (λ p. IsAlone gates p.0) (one_shown d x m) (λ p. alone_known gates p.0)
  one_shown (parr d) (parallel gates x y) m =
      one_where (MayShow m y d) (λ p. IsAlone gates p.0) (one_shown d y m) (λ p. alone_known gates p.0)
  one_shown (both d f) (parallel gates x y) m =
      one_together (IsJoint gates) (MayShow m x d) (MayShow m y f) (joint_known gates) (one_shown d x m) (one_shown f y m)
  one_shown (hiding d) (hide gates body) m =
      one_as (λ p. (q : Shown) × (MayShow m body d q × IsHidden gates q) × ((p.0 ≡ inside) × (p.1 ≡ [])))
      (MayShow m (hide gates body) (hiding d))
      (λ p h. (
        h.1.1.0,
        h.0.1,
        subst (λ k. MayDeriveWith program w m body d k h.0.1) h.1.1.1 h.1.0,
        h.1.1.2,
        h.1.1.3,
        h.2.0,
        h.2.1,
      ))
      (λ p h. ((at_gate h.0, h.1), (h.2, (h.0, refl, h.3, h.4)), (h.5, h.6)))
      (one_turned (MayShow m body d) (IsHidden gates) (one_shown d body m) (hidden_known gates))
  one_shown (pass d) (hide gates body) m =
      one_where (MayShow m body d) (λ p. IsUnhidden gates p.0) (one_shown d body m) (λ p. unhidden_known gates p.0)
  one_shown (enstep d) (enable x xs y) m =
      one_where (MayShow m x d) (λ p. IsNoEnd p.0) (one_shown d x m) (λ p. no_end_known p.0)
  one_shown (enend d) (enable x xs y) m =
      one_as (λ p. (q : Shown) × (MayShow m x d q × IsHandedOn xs q) × ((p.0 ≡ inside) × (p.1 ≡ [])))
      (MayShow m (enable x xs y) (enend d))
      (λ p h. (h.0.1, subst (λ k. MayDeriveWith program w m x d k h.0.1) h.1.1.0 h.1.0, h.1.1.1.0, h.1.1.1.1, h.2.0, h.2.1))
      (λ p h. ((ends, h.0), (h.1, (refl, (h.2, h.3))), (h.4, h.5)))
      (one_turned (MayShow m x d) (IsHandedOn xs) (one_shown d x m) (handed_known xs))
  one_shown (disstep d) (disable x y) m =
      one_where (MayShow m x d) (λ p. IsNoEnd p.0) (one_shown d x m) (λ p. no_end_known p.0)
  one_shown (disend d) (disable x y) m = one_where (MayShow m x d) (λ p. IsEnd p.0) (one_shown d x m) (λ p. end_known p.0)
  one_shown (distake d) (disable x y) m = one_shown d y m
  one_shown (calling d) (call p actual terms) m =
      one_as (λ q. (c : Definition) × IsDefinition program p c.gates c.variables c.body × ((r : MarkedAssignment) ×
      ArgumentsMayHave program.theory m unmarked c.variables terms r × MayShow r (relabel (pairs_of c.gates actual) c.body) d q))
      (MayShow m (call p actual terms) (calling d))
      (λ q h. (h.0.gates, h.0.variables, h.0.body, h.2.0, h.1, h.2.1, h.2.2))
      (λ q h. (record { gates = h.0; variables = h.1; body = h.2 }, h.4, (h.3, h.5, h.6)))
      (one_then (λ (c : Definition). IsDefinition program p c.gates c.variables c.body)
      (λ c q. (r : MarkedAssignment) × ArgumentsMayHave program.theory m unmarked c.variables terms r ×
      MayShow r (relabel (pairs_of c.gates actual) c.body) d q) (one_definition p)
      (λ c i. one_then (ArgumentsMayHave program.theory m unmarked c.variables terms)
      (λ r q. MayShow r (relabel (pairs_of c.gates actual) c.body) d q) (one_argument program e exact w m unmarked c.variables terms)
      (λ r h. one_shown d (relabel (pairs_of c.gates actual) c.body) r)))
  one_shown (rel d) (relabel pairs body) m = one_renamed pairs (MayShow m body d) (one_shown d body m)
  one_shown _ _ m = inr (λ p h. h)

pub trees_show_one_action : TreesShowOneAction
trees_show_one_action program e w exact m b d k j fs gs h i = by_shown (one_shown program e exact w d b m)
  where
    by_shown : One (λ (p : Kind × List MarkedField). MayDeriveWith program w m b d p.0 p.1) → (k ≡ j) × (fs ≡ gs)
    by_shown (inr out) = absurd (out (k, fs) h)
    by_shown (inl one) =
        let same : (k, fs) ≡ (j, gs) = one.2 (k, fs) h ∙ sym (one.2 (j, gs) i) in
        (ap (λ (p : Kind × List MarkedField). p.0) same, ap (λ (p : Kind × List MarkedField). p.1) same)

-- the answer to a question that is known
abbrev answer : {P : Type 0} → IsKnown P → Bool
answer (inl p) = true
answer (inr out) = false

answer_so : {P : Type 0} (known : IsKnown P) → answer known ≡ true → P
answer_so (inl p) e = p
answer_so (inr out) e = absurd (false≢true e)

so_answer : {P : Type 0} (known : IsKnown P) → P → answer known ≡ true
so_answer (inl p) h = refl
so_answer (inr out) h = absurd (out h)

seen_known : (program : Program) (e : Evaluation) (w : Windows) → IsExact program e → (b : Behaviour) (o : Option Offer) (d : Derivation) →
    IsKnown ((k : Kind) × IsSeen program w b o d k)
seen_known program e w exact b o d = by_shown (one_shown program e exact w d b unmarked)
  where
    by_shown : One (λ (p : Kind × List MarkedField). MayDeriveWith program w unmarked b d p.0 p.1) →
        IsKnown ((k : Kind) × IsSeen program w b o d k)
    by_shown (inr out) = inr (λ h. out (h.0, h.1.fields) h.1.derives)
    by_shown (inl one) =
        known_as (MayMeet program.theory w one.0.0 one.0.1 o) ((k : Kind) × IsSeen program w b o d k)
        (λ h. (one.0.0, record { fields = one.0.1; derives = one.1; meets = h }))
        (λ h. subst (λ (p : Kind × List MarkedField). MayMeet program.theory w p.0 p.1 o) (one.2 (h.0, h.1.fields) h.1.derives) h.1.meets)
        (meets_known program.theory w one.0.0 one.0.1 o)

pub seen_can_be_tested : SeenCanBeTested
seen_can_be_tested program e w exact b o = (
  λ d. answer (seen_known program e w exact b o d),
  λ d. (answer_so (seen_known program e w exact b o d), so_answer (seen_known program e w exact b o d)),
)
