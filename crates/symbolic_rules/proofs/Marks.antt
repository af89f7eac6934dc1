-- Trees with marks in the places of some values.
use Rattle.std.proofs.Common.{◌≡◌, List, [], ◌∷◌, refl, ap, subst, ◌∙◌, inl, inr, true, false}
use Rattle.std.proofs.lemmas.Bool.{or_parts}
use Rattle.rule_model.specs.declared.rules.Slot.{Slot}
use Rattle.rule_model.specs.Derivations.{Derivation, pre, int, exiting, chl, chr, val, gate, guard, letting, parl, parr, both, hiding, pass}
use Rattle.rule_model.specs.Derivations.{enstep, enend, disstep, disend, distake, calling, rel}
use Rattle.symbolic_rules.specs.Trees.{is_mark, has_marks, has_mark, IsSlotMarkedAs, AreSlotsMarkedAs, IsMarkedAs}

-- a tree is itself with no further mark
pub same_slots : (slots : List Slot) → AreSlotsMarkedAs slots slots
same_slots [] = refl
same_slots (s ∷ slots) = (s, slots, refl, inl refl, same_slots slots)

pub same_tree : (d : Derivation) → IsMarkedAs d d
same_tree (pre slots) = (slots, refl, same_slots slots)
same_tree int = refl
same_tree (exiting slots) = (slots, refl, same_slots slots)
same_tree (chl d) = (d, refl, same_tree d)
same_tree (chr d) = (d, refl, same_tree d)
same_tree (val s d) = (s, d, refl, inl refl, same_tree d)
same_tree (gate j d) = (d, refl, same_tree d)
same_tree (guard d) = (d, refl, same_tree d)
same_tree (letting d) = (d, refl, same_tree d)
same_tree (parl d) = (d, refl, same_tree d)
same_tree (parr d) = (d, refl, same_tree d)
same_tree (both d e) = (d, e, refl, same_tree d, same_tree e)
same_tree (hiding d) = (d, refl, same_tree d)
same_tree (pass d) = (d, refl, same_tree d)
same_tree (enstep d) = (d, refl, same_tree d)
same_tree (enend d) = (d, refl, same_tree d)
same_tree (disstep d) = (d, refl, same_tree d)
same_tree (disend d) = (d, refl, same_tree d)
same_tree (distake d) = (d, refl, same_tree d)
same_tree (calling d) = (d, refl, same_tree d)
same_tree (rel d) = (d, refl, same_tree d)

-- marks, and then more marks
slot_twice : (s t r : Slot) → IsSlotMarkedAs s t → IsSlotMarkedAs t r → IsSlotMarkedAs s r
slot_twice s t r (inl e) (inl i) = inl (i ∙ e)
slot_twice s t r (inr e) (inl i) = inr (i ∙ e)
slot_twice s t r h (inr i) = inr i

slots_twice : (ss ts rs : List Slot) → AreSlotsMarkedAs ss ts → AreSlotsMarkedAs ts rs → AreSlotsMarkedAs ss rs
slots_twice [] ts rs h k = subst (λ (l : List Slot). AreSlotsMarkedAs l rs) h k
slots_twice (s ∷ ss) ts rs h k =
    let j = subst (λ (l : List Slot). AreSlotsMarkedAs l rs) h.2 k in
    (j.0, j.1, j.2, slot_twice s h.0 j.0 h.3 j.3, slots_twice ss h.1 j.1 h.4 j.4)

pub marked_twice : (d e f : Derivation) → IsMarkedAs d e → IsMarkedAs e f → IsMarkedAs d f
marked_twice (pre slots) e f h k =
    let j = subst (λ (t : Derivation). IsMarkedAs t f) h.1 k in (j.0, j.1, slots_twice slots h.0 j.0 h.2 j.2)
marked_twice int e f h k = subst (λ (t : Derivation). IsMarkedAs t f) h k
marked_twice (exiting slots) e f h k =
    let j = subst (λ (t : Derivation). IsMarkedAs t f) h.1 k in (j.0, j.1, slots_twice slots h.0 j.0 h.2 j.2)
marked_twice (chl d) e f h k =
    let j = subst (λ (t : Derivation). IsMarkedAs t f) h.1 k in (j.0, j.1, marked_twice d h.0 j.0 h.2 j.2)
marked_twice (chr d) e f h k =
    let j = subst (λ (t : Derivation). IsMarkedAs t f) h.1 k in (j.0, j.1, marked_twice d h.0 j.0 h.2 j.2)
marked_twice (val s d) e f h k =
    let j = subst (λ (t : Derivation). IsMarkedAs t f) h.2 k in
    (j.0, j.1, j.2, slot_twice s h.0 j.0 h.3 j.3, marked_twice d h.1 j.1 h.4 j.4)
marked_twice (gate n d) e f h k =
    let j = subst (λ (t : Derivation). IsMarkedAs t f) h.1 k in (j.0, j.1, marked_twice d h.0 j.0 h.2 j.2)
marked_twice (guard d) e f h k =
    let j = subst (λ (t : Derivation). IsMarkedAs t f) h.1 k in (j.0, j.1, marked_twice d h.0 j.0 h.2 j.2)
marked_twice (letting d) e f h k =
    let j = subst (λ (t : Derivation). IsMarkedAs t f) h.1 k in (j.0, j.1, marked_twice d h.0 j.0 h.2 j.2)
marked_twice (parl d) e f h k =
    let j = subst (λ (t : Derivation). IsMarkedAs t f) h.1 k in (j.0, j.1, marked_twice d h.0 j.0 h.2 j.2)
marked_twice (parr d) e f h k =
    let j = subst (λ (t : Derivation). IsMarkedAs t f) h.1 k in (j.0, j.1, marked_twice d h.0 j.0 h.2 j.2)
marked_twice (both d g) e f h k =
    let j = subst (λ (t : Derivation). IsMarkedAs t f) h.2 k in
    (j.0, j.1, j.2, marked_twice d h.0 j.0 h.3 j.3, marked_twice g h.1 j.1 h.4 j.4)
marked_twice (hiding d) e f h k =
    let j = subst (λ (t : Derivation). IsMarkedAs t f) h.1 k in (j.0, j.1, marked_twice d h.0 j.0 h.2 j.2)
marked_twice (pass d) e f h k =
    let j = subst (λ (t : Derivation). IsMarkedAs t f) h.1 k in (j.0, j.1, marked_twice d h.0 j.0 h.2 j.2)
marked_twice (enstep d) e f h k =
    let j = subst (λ (t : Derivation). IsMarkedAs t f) h.1 k in (j.0, j.1, marked_twice d h.0 j.0 h.2 j.2)
marked_twice (enend d) e f h k =
    let j = subst (λ (t : Derivation). IsMarkedAs t f) h.1 k in (j.0, j.1, marked_twice d h.0 j.0 h.2 j.2)
marked_twice (disstep d) e f h k =
    let j = subst (λ (t : Derivation). IsMarkedAs t f) h.1 k in (j.0, j.1, marked_twice d h.0 j.0 h.2 j.2)
marked_twice (disend d) e f h k =
    let j = subst (λ (t : Derivation). IsMarkedAs t f) h.1 k in (j.0, j.1, marked_twice d h.0 j.0 h.2 j.2)
marked_twice (distake d) e f h k =
    let j = subst (λ (t : Derivation). IsMarkedAs t f) h.1 k in (j.0, j.1, marked_twice d h.0 j.0 h.2 j.2)
marked_twice (calling d) e f h k =
    let j = subst (λ (t : Derivation). IsMarkedAs t f) h.1 k in (j.0, j.1, marked_twice d h.0 j.0 h.2 j.2)
marked_twice (rel d) e f h k =
    let j = subst (λ (t : Derivation). IsMarkedAs t f) h.1 k in (j.0, j.1, marked_twice d h.0 j.0 h.2 j.2)

-- a tree that got no mark is as it was
own_slot : (s t : Slot) → IsSlotMarkedAs s t → is_mark t ≡ false → t ≡ s
own_slot s t (inl e) u = e
own_slot s t (inr e) u = let no : true ≡ false = subst (λ (x : Slot). is_mark x ≡ false) e u in absurd cc

own_slots : (ss ts : List Slot) → AreSlotsMarkedAs ss ts → has_marks ts ≡ false → ts ≡ ss
own_slots [] ts h u = h
own_slots (s ∷ ss) ts h u =
    let v = or_parts (is_mark h.0) (has_marks h.1) (subst (λ (l : List Slot). has_marks l ≡ false) h.2 u) in
    h.2 ∙ ap (λ (x : Slot). x ∷ h.1) (own_slot s h.0 h.3 v.0) ∙ ap (λ (l : List Slot). s ∷ l) (own_slots ss h.1 h.4 v.1)

pub own_tree : (d e : Derivation) → IsMarkedAs d e → has_mark e ≡ false → e ≡ d
own_tree (pre slots) e h u = h.1 ∙ ap pre (own_slots slots h.0 h.2 (subst (λ (t : Derivation). has_mark t ≡ false) h.1 u))
own_tree int e h u = h
own_tree (exiting slots) e h u = h.1 ∙ ap exiting (own_slots slots h.0 h.2 (subst (λ (t : Derivation). has_mark t ≡ false) h.1 u))
own_tree (chl d) e h u = h.1 ∙ ap chl (own_tree d h.0 h.2 (subst (λ (t : Derivation). has_mark t ≡ false) h.1 u))
own_tree (chr d) e h u = h.1 ∙ ap chr (own_tree d h.0 h.2 (subst (λ (t : Derivation). has_mark t ≡ false) h.1 u))
own_tree (val s d) e h u =
    let v = or_parts (is_mark h.0) (has_mark h.1) (subst (λ (t : Derivation). has_mark t ≡ false) h.2 u) in
    h.2 ∙ ap (λ (x : Slot). val x h.1) (own_slot s h.0 h.3 v.0) ∙ ap (val s) (own_tree d h.1 h.4 v.1)
own_tree (gate n d) e h u = h.1 ∙ ap (gate n) (own_tree d h.0 h.2 (subst (λ (t : Derivation). has_mark t ≡ false) h.1 u))
own_tree (guard d) e h u = h.1 ∙ ap guard (own_tree d h.0 h.2 (subst (λ (t : Derivation). has_mark t ≡ false) h.1 u))
own_tree (letting d) e h u = h.1 ∙ ap letting (own_tree d h.0 h.2 (subst (λ (t : Derivation). has_mark t ≡ false) h.1 u))
own_tree (parl d) e h u = h.1 ∙ ap parl (own_tree d h.0 h.2 (subst (λ (t : Derivation). has_mark t ≡ false) h.1 u))
own_tree (parr d) e h u = h.1 ∙ ap parr (own_tree d h.0 h.2 (subst (λ (t : Derivation). has_mark t ≡ false) h.1 u))
own_tree (both d g) e h u =
    let v = or_parts (has_mark h.0) (has_mark h.1) (subst (λ (t : Derivation). has_mark t ≡ false) h.2 u) in
    h.2 ∙ ap (λ (x : Derivation). both x h.1) (own_tree d h.0 h.3 v.0) ∙ ap (both d) (own_tree g h.1 h.4 v.1)
own_tree (hiding d) e h u = h.1 ∙ ap hiding (own_tree d h.0 h.2 (subst (λ (t : Derivation). has_mark t ≡ false) h.1 u))
own_tree (pass d) e h u = h.1 ∙ ap pass (own_tree d h.0 h.2 (subst (λ (t : Derivation). has_mark t ≡ false) h.1 u))
own_tree (enstep d) e h u = h.1 ∙ ap enstep (own_tree d h.0 h.2 (subst (λ (t : Derivation). has_mark t ≡ false) h.1 u))
own_tree (enend d) e h u = h.1 ∙ ap enend (own_tree d h.0 h.2 (subst (λ (t : Derivation). has_mark t ≡ false) h.1 u))
own_tree (disstep d) e h u = h.1 ∙ ap disstep (own_tree d h.0 h.2 (subst (λ (t : Derivation). has_mark t ≡ false) h.1 u))
own_tree (disend d) e h u = h.1 ∙ ap disend (own_tree d h.0 h.2 (subst (λ (t : Derivation). has_mark t ≡ false) h.1 u))
own_tree (distake d) e h u = h.1 ∙ ap distake (own_tree d h.0 h.2 (subst (λ (t : Derivation). has_mark t ≡ false) h.1 u))
own_tree (calling d) e h u = h.1 ∙ ap calling (own_tree d h.0 h.2 (subst (λ (t : Derivation). has_mark t ≡ false) h.1 u))
own_tree (rel d) e h u = h.1 ∙ ap rel (own_tree d h.0 h.2 (subst (λ (t : Derivation). has_mark t ≡ false) h.1 u))
