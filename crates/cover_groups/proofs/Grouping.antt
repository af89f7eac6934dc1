-- Equations with one left side, and their premises under its names.
use Rattle.std.proofs.Common.{ℕ, ◌≡◌, List, [], ◌∷◌, ◌++◌, Option, Some, None, Result, Ok, Err, IfOk, MatchOption, map, refl, sym, ap, subst, ◌∙◌, inl, inr}
use Rattle.std.specs.List.{slice_get}
use Rattle.spec_core.specs.Lists.{Each, OneOf, IsOneOf}
use Rattle.spec_core.specs.Terms.{TermTree, TermTrees, variable, apply, no_terms, and_term, instance, instances, Occurs, OccursInAny}
use Rattle.spec_core.specs.Theories.{Premise, premise, ConditionalEquation, Theory, OccursInPremises}
use Rattle.spec_core.specs.Orthogonality.{HasNoLooseVariables, HasPatterns, renamed}
use Rattle.spec_core.specs.Cover.{IsFull, IsGroup, IsOfGroup}
use Rattle.spec_core.specs.Substitutions.{substitution_of}
use Rattle.spec_core.proofs.OneValue.{agree, same_instance}
use Rattle.spec_core.proofs.Lists.{each_push}
use Rattle.spec_core.proofs.Members.{some_left, some_last, some_of_each}
use Rattle.equation_shapes.specs.Shapes.{IsOfShape, AreOfShape}
use Rattle.cover_groups.specs.Groups.{HasFullGroup, AllFrom, AllGive, IsListAdded, premise_instance}
use Rattle.cover_groups.specs.Renamings.{IsRenaming}
use Rattle.cover_groups.proofs.Fullness.{Within, full_of_same}

abbrev under : (ℕ → ℕ) → TermTree → TermTree
under r t = instance (λ x. variable (r x)) t

-- a term under new names has the shape of itself
mutual
  pub shape_back : (r : ℕ → ℕ) (p : TermTree) → IsOfShape (under r p) p
  shape_back r (variable x) = tt
  shape_back r (apply f ps) = (refl, shapes_back r ps)

  shapes_back : (r : ℕ → ℕ) (ps : TermTrees) → AreOfShape (instances (λ x. variable (r x)) ps) ps
  shapes_back r no_terms = tt
  shapes_back r (and_term p ps) = (shape_back r p, shapes_back r ps)

abbrev number_of : TermTree → ℕ
number_of (variable y) = y
number_of (apply f ts) = 0

one_variable : (t : TermTree) (z : ℕ) → IsOfShape t (variable z) → t ≡ variable (number_of t)
one_variable (variable y) z h = refl
one_variable (apply f ts) z h = absurd h

-- where an instance has the term for one of its own, its variables stay variables
mutual
  variables_stay : (s : ℕ → TermTree) (p : TermTree) → IsOfShape (instance s p) p → (x : ℕ) → Occurs x p → s x ≡ variable (number_of (s x))
  variables_stay s (variable z) h x o = one_variable (s x) z (subst (λ y. IsOfShape (s y) (variable z)) (sym o) h)
  variables_stay s (apply f ps) h x o = all_variables_stay s ps h.1 x o

  all_variables_stay : (s : ℕ → TermTree) (ps : TermTrees) → AreOfShape (instances s ps) ps → (x : ℕ) → OccursInAny x ps →
      s x ≡ variable (number_of (s x))
  all_variables_stay s no_terms h x o = absurd o
  all_variables_stay s (and_term p ps) h x (inl o) = variables_stay s p h.0 x o
  all_variables_stay s (and_term p ps) h x (inr o) = all_variables_stay s ps h.1 x o

pub is_renaming : (p k : TermTree) (bound : List TermTree) → IsOfShape k p → instance (substitution_of bound) p ≡ k → IsRenaming p k bound
is_renaming p k bound h e =
    let s = substitution_of bound in
    let stay = variables_stay s p (subst (λ t. IsOfShape t p) (sym e) h) in (
      (λ x. number_of (s x)),
      same_instance (λ x. variable (number_of (s x))) s p (λ x o. sym (stay x o)) ∙ e,
      stay,
    )

pub no_renaming : (p k : TermTree) → (IsOfShape k p → ⊥) → (r : ℕ → ℕ) → under r p ≡ k → ⊥
no_renaming p k n r e = n (subst (λ t. IsOfShape t p) e (shape_back r p))

-- terms that agree with new names on premises' variables do the same to the premises
premises_renamed : (s : ℕ → TermTree) (r : ℕ → ℕ) (ps : List Premise) → ((x : ℕ) → OccursInPremises x ps → s x ≡ variable (r x)) →
    map (premise_instance s) ps ≡ map (renamed r) ps
premises_renamed s r [] h = refl
premises_renamed s r (premise a b ∷ ps) h =
    let one = same_instance s (λ x. variable (r x)) a (λ x o. h x (inl o)) in
    let other = same_instance s (λ x. variable (r x)) b (λ x o. h x (inr (inl o))) in
    let rest = premises_renamed s r ps (λ x o. h x (inr (inr o))) in
    ap (λ t. premise t (instance s b) ∷ map (premise_instance s) ps) one
    ∙ ap (λ t. premise (under r a) t ∷ map (premise_instance s) ps) other
    ∙ ap (λ qs. premise (under r a) (under r b) ∷ qs) rest

pub is_of_group : (l : TermTree) (e : ConditionalEquation) (bound : List TermTree) → HasNoLooseVariables e → IsRenaming e.left l bound →
    IsOfGroup l (map (premise_instance (substitution_of bound)) e.premises) e
is_of_group l e bound closed h = (h.0, h.1, premises_renamed (substitution_of bound) h.0 e.premises (λ x o. h.2 x (closed.premises x o)))

-- an equation gives a group one list
one_list : (l : TermTree) (e : ConditionalEquation) (ps qs : List Premise) → HasNoLooseVariables e → IsOfGroup l ps e → IsOfGroup l qs e →
    ps ≡ qs
one_list l e ps qs closed a b =
    let same : (x : ℕ) → OccursInPremises x e.premises → variable (a.0 x) ≡ variable (b.0 x) = λ x o.
    agree (λ y. variable (a.0 y)) (λ y. variable (b.0 y)) e.left (a.1 ∙ sym b.1) x (closed.premises x o) in
    a.2 ∙ sym (both e.premises a.0) ∙ premises_renamed (λ x. variable (a.0 x)) b.0 e.premises same ∙ sym b.2
  where
    both : (ps : List Premise) (r : ℕ → ℕ) → map (premise_instance (λ x. variable (r x))) ps ≡ map (renamed r) ps
    both ps r = premises_renamed (λ x. variable (r x)) r ps (λ x o. refl)

listed : (l : TermTree) (e : ConditionalEquation) (ps : List Premise) (ms : List (List Premise)) → HasNoLooseVariables e →
    IsOfGroup l ps e → OneOf (λ qs. IsOfGroup l qs e) ms → IsOneOf ps ms
listed l e ps [] closed g o = absurd o
listed l e ps (m ∷ ms) closed g (inl h) = inl (one_list l e ps m closed g h)
listed l e ps (m ∷ ms) closed g (inr o) = inr (listed l e ps ms closed g o)

pub one_group : (theory : Theory) (l : TermTree) (ls ms : List (List Premise)) → Each HasNoLooseVariables theory.equations →
    IsGroup theory l ls → IsGroup theory l ms → Within ls ms
one_group theory l ls ms closed a b ps o =
    let g = at ls a.from_equations o in
    let r = some_of_each HasNoLooseVariables (λ e. (r : ℕ → ℕ) → under r e.left ≡ l → OneOf (λ qs. IsOfGroup l qs e) ms) (IsOfGroup l ps) theory.equations closed b.all_equations g in
    listed l r.0 ps ms r.1 r.3 (r.2 r.3.0 r.3.1)
  where
    at : (xs : List (List Premise)) → Each (λ qs. OneOf (IsOfGroup l qs) theory.equations) xs → IsOneOf ps xs →
        OneOf (IsOfGroup l ps) theory.equations
    at [] h o = absurd o
    at (x ∷ xs) h (inl e) = subst (λ y. OneOf (IsOfGroup l y) theory.equations) (sym e) h.0
    at (x ∷ xs) h (inr o) = at xs h.1 o

pub full_group_if : (theory : Theory) (e : ConditionalEquation) (ls : List (List Premise)) → Each HasNoLooseVariables theory.equations →
    IsGroup theory e.left ls → HasFullGroup theory e → IsFull theory (slice_get e.sorts) ls
full_group_if theory e ls closed g h =
    full_of_same theory (slice_get e.sorts) h.full ls (one_group theory e.left h.lists ls closed h.group g) (one_group theory e.left ls h.lists closed g h.group)

still_give : (l : TermTree) (old : List (List Premise)) (ps : List Premise) (es : List ConditionalEquation) → AllGive l old es →
    AllGive l (old ++ ps ∷ []) es
still_give l old ps [] h = tt
still_give l old ps (e ∷ es) h = ((λ r k. some_left (λ qs. IsOfGroup l qs e) old (ps ∷ []) (h.0 r k)), still_give l old ps es h.1)

at_one_of : {A : Type 0} (P : A → Type 0) (x : A) (xs : List A) → IsOneOf x xs → P x → OneOf P xs
at_one_of P x [] o h = absurd o
at_one_of P x (y ∷ ys) (inl e) h = inl (subst P e h)
at_one_of P x (y ∷ ys) (inr o) h = inr (at_one_of P x ys o h)

pub from_more : (es : List ConditionalEquation) (l : TermTree) (e : ConditionalEquation) (old new : List (List Premise)) → IsOneOf e es →
    IsListAdded l e old new → AllFrom es l old → AllFrom es l new
from_more es l e old new o (inl a) h = subst (AllFrom es l) (sym a.2) (each_push (λ ps. OneOf (IsOfGroup l ps) es) old a.0 h (at_one_of (IsOfGroup l a.0) e es o a.1))
from_more es l e old new o (inr a) h = subst (AllFrom es l) (sym a.1) h

pub give_more : (l : TermTree) (e : ConditionalEquation) (old new : List (List Premise)) (es : List ConditionalEquation) →
    IsListAdded l e old new → AllGive l old es → AllGive l new (es ++ e ∷ [])
give_more l e old new es (inl a) h =
    subst (λ ls. AllGive l ls (es ++ e ∷ [])) (sym a.2)
    (each_push (λ d. (r : ℕ → ℕ) → under r d.left ≡ l → OneOf (λ ps. IsOfGroup l ps d) (old ++ a.0 ∷ [])) es e (still_give l old a.0 es h)
    (λ r k. some_last (λ ps. IsOfGroup l ps e) old a.0 a.1))
give_more l e old new es (inr a) h =
    subst (λ ls. AllGive l ls (es ++ e ∷ [])) (sym a.1)
    (each_push (λ d. (r : ℕ → ℕ) → under r d.left ≡ l → OneOf (λ ps. IsOfGroup l ps d) old) es e h (λ r k. absurd (a.0 r k)))

pub match_renames : {V E : Type 0} (items : V → List TermTree) (p k call : TermTree) → IsOfShape k p → call ≡ k →
    (r : Result (Option V) E) →
    IfOk r (λ m. MatchOption m (Unit {0}) (λ bound. instance (substitution_of (items bound)) p ≡ call)) →
    IfOk r (λ m. MatchOption m (Unit {0}) (λ bound. IsRenaming p k (items bound)))
match_renames items p k call h e (Ok None) f = tt
match_renames items p k call h e (Ok (Some b)) f = is_renaming p k (items b) h (f ∙ e)
match_renames items p k call h e (Err x) f = tt

pub no_variable : (theory : Theory) (e : ConditionalEquation) → HasPatterns theory e → (x : ℕ) → e.left ≡ variable x → ⊥
no_variable theory e h x k = let m : apply h.0 h.1 ≡ variable x = sym h.2 ∙ k in cc
