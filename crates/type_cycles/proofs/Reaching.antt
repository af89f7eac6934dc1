-- Marks of what one type is made of.
use Rattle.std.proofs.Common.{ℕ, zero, suc, ◌≡◌, ◌<◌, ◌≤◌, ◌+◌, inl, inr, List, [], ◌∷◌, ◌++◌, length, take, get_or, set, replicate, arith, refl, ap, subst, sym, ◌∙◌, Bool, true, false, None}
use Rattle.std.specs.List.{slice_index_or, Contains}
use Rattle.std.proofs.lemmas.List.{take_more, get_or_past, get_or-replicate, get_or-set_same, get_or-set_other, length-set}
use Rattle.std.proofs.lemmas.List.Elements.{Contains-append_cases, Contains-append_left, Contains-append_right}
use Rattle.std.proofs.lemmas.Bool.{cases_eq, cases_lt}
use Rattle.spec_core.proofs.Members.{contains_none}
use Rattle.type_cycles.specs.Cycles.{cycle_of}
use Rattle.type_cycles.specs.Ends.{is_marked}
use Rattle.type_cycles.specs.Closed.{IsClosedBut, Marks, IsReached}
use Rattle.type_cycles.proofs.Reached.{Reaches, here, there, no_cycle_unless}

in_one : (x j : ℕ) → Contains (x ∷ []) j → x ≡ j
in_one x j (zero, within, at) = at
in_one x j (suc k, within, at) = absurd (omega arith)

pub as_many_still : (marks : List Bool) (k n : ℕ) (b : Bool) → length marks ≡ n → length (set marks k b) ≡ n
as_many_still marks k n b h = length-set marks k b ∙ h

pub reached_before : (links : List (List ℕ)) (k : ℕ) (marks : List Bool) (waiting : List ℕ) → is_marked marks k ≡ true → IsReached links k marks marks waiting waiting
reached_before links k marks waiting h = record { kept = λ i g. g; marked = h; waits = λ i j g c. inl g; still = λ j c. c }

pub reached_past : (links : List (List ℕ)) (k : ℕ) (marks : List Bool) (waiting : List ℕ) → length marks ≤ k → IsReached links k marks marks waiting waiting
reached_past links k marks waiting past = reached_before links k marks waiting (get_or_past marks k true past)

pub reached_new : (links : List (List ℕ)) (k : ℕ) (marks : List Bool) (before waiting used : List ℕ) → k < length marks → used ≡ slice_index_or links k [] → waiting ≡ before ++ used → IsReached links k marks (set marks k true) before waiting
reached_new links k marks before waiting used within at more = record {
  kept = λ i h. elim (cases_eq i k) [
    | inl e ↦ subst (λ z. is_marked (set marks k true) z ≡ true) (sym e) (get_or-set_same marks k true true within)
    | inr d ↦ get_or-set_other marks k i true true d ∙ h
  ];
  marked = get_or-set_same marks k true true within;
  waits = λ i j h c. elim (cases_eq i k) [
    | inl e ↦ inr (subst (λ zs. Contains zs j) (sym more) (Contains-append_right before used j (subst (λ zs. Contains zs j) (ap (λ z. slice_index_or links z []) e ∙ sym at) c)))
    | inr d ↦ inl (sym (get_or-set_other marks k i true true d) ∙ h)
  ];
  still = λ j c. subst (λ zs. Contains zs j) (sym more) (Contains-append_left before used j c);
}

pub no_marks : (links : List (List ℕ)) (marks : List Bool) → Marks links [] marks marks []
no_marks links marks = record { kept = λ i h. h; marked = λ j c. absurd (contains_none j c); waits = λ i j h c. inl h }

pub marks_next : (links : List (List ℕ)) (types : List ℕ) (i x : ℕ) (old now then : List Bool) (before waiting : List ℕ) → i < length types → x ≡ get_or types i x → Marks links (take i types) old now before → IsReached links x now then before waiting → Marks links (take (i + 1) types) old then waiting
marks_next links types i x old now then before waiting within at m r = record {
  kept = λ k h. r.kept k (m.kept k h);
  marked = λ j c. elim (Contains-append_cases (take i types) (x ∷ []) j (subst (λ zs. Contains zs j) (take_more types i x within ∙ ap (λ y. take i types ++ y ∷ []) (sym at)) c)) [
    | inl h ↦ r.kept j (m.marked j h)
    | inr h ↦ subst (λ z. is_marked then z ≡ true) (in_one x j h) r.marked
  ];
  waits = λ k j h c. elim (r.waits k j h c) [
    | inl g ↦ elim (m.waits k j g c) [ inl f ↦ inl f | inr w ↦ inr (r.still j w) ]
    | inr w ↦ inr w
  ];
}

pub first_closed : (links : List (List ℕ)) (k : ℕ) (marks : List Bool) (waiting : List ℕ) → marks ≡ replicate (length links) false → waiting ≡ slice_index_or links k [] → IsClosedBut links k marks waiting
first_closed links k marks waiting none at = record {
  from_marked = λ i j h c. elim (cases_lt i (length links)) [
    | inl w ↦ absurd (differ (sym (get_or-replicate (length links) i false true w) ∙ sym (ap (λ zs. get_or zs i true) none) ∙ h))
    | inr p ↦ absurd (contains_none j (subst (λ zs. Contains zs j) (get_or_past links i [] p) c))
  ];
  from_this = λ j c. inr (subst (λ zs. Contains zs j) (sym at) c);
}
  where
    differ : false ≡ true → ⊥
    differ e = cc

pub closed_next : (links : List (List ℕ)) (k : ℕ) (old new : List Bool) (before waiting : List ℕ) → IsClosedBut links k old before → Marks links before old new waiting → IsClosedBut links k new waiting
closed_next links k old new before waiting h m = record {
  from_marked = λ i j g c. elim (m.waits i j g c) [
    | inl f ↦ elim (h.from_marked i j f c) [ inl a ↦ inl (m.kept j a) | inr b ↦ inl (m.marked j b) ]
    | inr w ↦ inr w
  ];
  from_this = λ j c. elim (h.from_this j c) [ inl a ↦ inl (m.kept j a) | inr b ↦ inl (m.marked j b) ];
}

carried : {links : List (List ℕ)} {k n a b : ℕ} {marks : List Bool} → IsClosedBut links k marks [] → Reaches links n a b → is_marked marks a ≡ true → is_marked marks b ≡ true
carried h here m = m
carried {a = a} h (there {j = j} c r) m = carried h r (elim (h.from_marked a j m c) [ inl f ↦ f | inr w ↦ absurd (contains_none j w) ])

pub no_cycle_closed : (links : List (List ℕ)) (k : ℕ) (marks : List Bool) (waiting : List ℕ) → waiting ≡ [] → IsClosedBut links k marks waiting → is_marked marks k ≡ false → cycle_of links k ≡ None
no_cycle_closed links k marks waiting none h unmarked = no_cycle_unless links k (λ n r. by_first (subst (IsClosedBut links k marks) none h) r)
  where
    differ : true ≡ false → ⊥
    differ e = cc

    by_first : {n : ℕ} → IsClosedBut links k marks [] → Reaches links (suc n) k k → ⊥
    by_first closed (there {j = j} c r) = differ (sym (carried closed r (elim (closed.from_this j c) [ inl f ↦ f | inr w ↦ absurd (contains_none j w) ])) ∙ unmarked)

-- a type that is made of none
pub no_cycle_unlinked : (links : List (List ℕ)) (k : ℕ) → k < length links → slice_index_or links k [] ≡ [] → cycle_of links k ≡ None
no_cycle_unlinked links k within none =
    no_cycle_closed links k (replicate (length links) false) [] refl (first_closed links k (replicate (length links) false) [] refl (sym none)) (get_or-replicate (length links) k false true within)
