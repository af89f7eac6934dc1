-- What the walk finds is needed, and it finds something where anything is needed.
use Rattle.std.proofs.Common.{◌≡◌, inl, inr, List, [], ◌∷◌, ◌++◌, refl, sym, ap, subst, Option, Some, None, false}
use Rattle.spec_core.specs.Lists.{IsOneOf}
use Rattle.spec_core.proofs.Options.{some_none}
use Rattle.decision_trees.specs.Decisions.{Question, expand, judge, Answers, Decision, ends, asks_items, asks_verdict, result, asked, after}
use Rattle.decision_trees.specs.Known.{Knowledge, Extends, decided, IsMissing, known_or, unless_known, found, completed}
use Rattle.decision_trees.specs.Laws.{FoundAreNeeded, NeededIsFound, FoundAfter}
use Rattle.decision_trees.proofs.Asking.{known_case, decided_or_found}

among_case : {X A : Type 0} (P : Question A → Type 0) (o : Option X) (p q : Question A) (ns others : List (Question A)) → (o ≡ None → P p) →
    (IsOneOf q ns → P q × IsOneOf q others) → IsOneOf q (unless_known o p ns) → P q × IsOneOf q (p ∷ others)
among_case P None p q ns others missing h (inl e) = (subst P (sym e) (missing refl), inl e)
among_case P None p q ns others missing h (inr m) = ((h m).0, inr (h m).1)
among_case P (Some x) p q ns others missing h m = ((h m).0, inr (h m).1)

among : {I A R : Type 0} (known : Knowledge I A) (c : Decision I A R) (q : Question A) → IsOneOf q (found known c) →
    IsMissing known q × IsOneOf q (asked (completed known) c)
among known (ends r) q m = absurd m
among known (asks_items g k) q m =
    among_case (IsMissing known) (known.items g) (expand g) q (found known (k (known_or (known.items g) [])))
    (asked (completed known) (k (known_or (known.items g) []))) (λ e. e) (λ n. among known (k (known_or (known.items g) [])) q n) m
among known (asks_verdict a k) q m =
    among_case (IsMissing known) (known.verdict a) (judge a) q (found known (k (known_or (known.verdict a) false)))
    (asked (completed known) (k (known_or (known.verdict a) false))) (λ e. e) (λ n. among known (k (known_or (known.verdict a) false)) q n) m

pub found_are_needed : (I A R : Type 0) → FoundAreNeeded I A R
found_are_needed I A R known c q m =
    let n = among known c q m in
    record {
      missing = n.0;
      answers = completed known;
      possible = record { items = λ g xs e. ap (λ o. known_or o []) e; verdict = λ a b e. ap (λ o. known_or o false) e };
      asks = n.1;
    }

-- where the result is decided, every question that is asked has a known answer
all_known : {I A R : Type 0} (known : Knowledge I A) (c : Decision I A R) (r : R) (s : Answers I A) → Extends s known →
    decided known c ≡ Some r → (q : Question A) → IsOneOf q (asked s c) → IsMissing known q → ⊥
all_known known (ends r) t s x e q o m = o
all_known known (asks_items g k) t s x e q (inl o) m =
    let c = known_case (known.items g) (λ xs. decided known (k xs)) t e in
    some_none (known.items g) c.1 (subst (IsMissing known) o m)
all_known known (asks_items g k) t s x e q (inr o) m =
    let c = known_case (known.items g) (λ xs. decided known (k xs)) t e in
    all_known known (k c.0) t s x c.2 q (subst (λ xs. IsOneOf q (asked s (k xs))) (x.items g c.0 c.1) o) m
all_known known (asks_verdict a k) t s x e q (inl o) m =
    let c = known_case (known.verdict a) (λ b. decided known (k b)) t e in
    some_none (known.verdict a) c.1 (subst (IsMissing known) o m)
all_known known (asks_verdict a k) t s x e q (inr o) m =
    let c = known_case (known.verdict a) (λ b. decided known (k b)) t e in
    all_known known (k c.0) t s x c.2 q (subst (λ b. IsOneOf q (asked s (k b))) (x.verdict a c.0 c.1) o) m

not_both : {X : Type 0} {q : X} {qs : List X} (xs : List X) → xs ≡ [] → xs ≡ q ∷ qs → ⊥
not_both xs e f = cc

pub needed_is_found : (I A R : Type 0) → NeededIsFound I A R
needed_is_found I A R known c q n e = elim (decided_or_found I A R known c) [
  | inl d ↦ all_known known c d.0 n.answers n.possible d.1 q n.asks n.missing
  | inr f ↦ not_both (found known c) e f.3
]

after_case : {X Q : Type 0} (o : Option X) (q : Q) (ns ms others : List Q) → ns ≡ ms ++ others →
    unless_known o q ns ≡ unless_known o q ms ++ others
after_case None q ns ms others e = ap (λ qs. q ∷ qs) e
after_case (Some x) q ns ms others e = e

pub found_after : (I A R S : Type 0) → FoundAfter I A R S
found_after I A R S known (ends r) f = refl
found_after I A R S known (asks_items g k) f =
    let xs = known_or (known.items g) [] in
    after_case (known.items g) (expand g) (found known (after (k xs) f)) (found known (k xs))
    (found known (f (result (completed known) (k xs)))) (found_after I A R S known (k xs) f)
found_after I A R S known (asks_verdict a k) f =
    let b = known_or (known.verdict a) false in
    after_case (known.verdict a) (judge a) (found known (after (k b) f)) (found known (k b))
    (found known (f (result (completed known) (k b)))) (found_after I A R S known (k b) f)
