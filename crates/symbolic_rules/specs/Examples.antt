-- Worked examples of windowed and beyond trees, over any data, windows, gates and sorts.
use Rattle.std.specs.Prelude.{ℕ, ◌≡◌, ◌⊎◌, List, [], ◌∷◌, Option, Some, None, true, false, Contains}
use Rattle.spec_core.specs.Terms.{TermTree, variable, apply, no_terms, and_term, constant}
use Rattle.spec_core.specs.Theories.{Premise, premise}
use Rattle.spec_core.specs.Executable.{IsExecutable}
use Rattle.spec_core.specs.Values.{HasValue}
use Rattle.spec_core.specs.Code.{Program, Variable, exit_given, exit_any, give, accept, every_gate, these_gates}
use Rattle.rule_model.specs.declared.offer.Field.TheVariants.{Give, Take}
use Rattle.rule_model.specs.declared.offer.Offer.{Offer}
use Rattle.rule_model.specs.declared.rules.Slot.{Slot}
use Rattle.rule_model.specs.declared.rules.Slot.TheVariants.{Of, Mark}
use Rattle.rule_model.specs.Actions.{Kind, inside, at_gate}
use Rattle.rule_model.specs.Behaviours.{Behaviour, stop, exit, inner, action, choice, guarded, value_choice, parallel, hide, enable}
use Rattle.rule_model.specs.Derivations.{Derivation, pre, int, exiting, chr, val, guard, both, enend}
use Rattle.rule_model.specs.Fields.{Spells, PremiseHolds}
use Rattle.rule_model.specs.Meets.{result_sort}
use Rattle.rule_model.specs.Substitution.{with_term}
use Rattle.symbolic_rules.specs.Windows.{Windows, sort_of_value}
use Rattle.symbolic_rules.specs.Trees.{IsSeen, IsWindowed, IsBeyond}

-- the variables x, y and z of a sort
abbrev pub x_of : ℕ → Variable
x_of sort = record { number = 0; sort = sort }

abbrev pub y_of : ℕ → Variable
y_of sort = record { number = 1; sort = sort }

abbrev pub z_of : ℕ → Variable
z_of sort = record { number = 2; sort = sort }

-- `choice x:S [] g !E; stop`
abbrev pub offering : ℕ → ℕ → TermTree → Behaviour
offering g sort e = value_choice (x_of sort) (action g (give e ∷ []) None stop)

-- `choice x:S [] g; stop`
abbrev pub choosing : ℕ → ℕ → Behaviour
choosing g sort = value_choice (x_of sort) (action g [] None stop)

-- `g ?x:S [p]; stop`
abbrev pub taking : ℕ → Variable → Option Premise → Behaviour
taking g x p = action g (accept x ∷ []) p stop

-- `hide g in g ?x:S; stop`
abbrev pub taking_inside : ℕ → ℕ → Behaviour
taking_inside g sort = hide (g ∷ []) (taking g (x_of sort) None)

-- `exit(any S) >> accept x:S in stop`
abbrev pub handing_on : ℕ → Behaviour
handing_on sort = enable (exit (exit_any sort ∷ [])) (x_of sort ∷ []) stop

-- the offers `g !v` and `g ?S`
abbrev pub offer_of : ℕ → List ℕ → Offer
offer_of g v = record { gate = record { 0 = g }; fields = Give v ∷ [] }

abbrev pub offer_to_take : ℕ → ℕ → Offer
offer_to_take g sort = record { gate = record { 0 = g }; fields = Take (record { 0 = sort }) ∷ [] }

-- the list of operations spells a value of the sort, which is in its window
abbrev pub IsShown : Program → Windows → ℕ → List ℕ → Type 0
IsShown program w sort v = ((n : TermTree) × Spells program.theory v n sort) × Contains (w.values sort) v

-- the tree has a value of the window at its one slot, or the mark, where the window isn't complete
abbrev pub ShowsOne : Program → Windows → ℕ → (Slot → Derivation) → Derivation → Type 0
ShowsOne program w sort tree d =
    ((v : List ℕ) × IsShown program w sort v × (d ≡ tree (Of v))) ⊎ (w.complete sort ≡ false) × (d ≡ tree Mark)

-- Where nothing is offered, the trees of a behaviour are these: one for each value of the window of a sort, and where the window isn't
-- complete one more, with the mark. So it is of each behaviour with one value that nothing gives: of `choice x:S [] g !x; stop`, and of
-- `choice x:S [] g; stop`, where nothing uses the value; of `g ?x:S; stop`, and of the same at a hidden gate, which no offer meets; and of
-- `exit(any S) >> accept x:S in stop`.
pub record ShowsWindow (program : Program) (w : Windows) (sort : ℕ) (b : Behaviour) (k : Kind) (tree : Slot → Derivation) : Type 0 where
  pub within : (v : List ℕ) → IsShown program w sort v → IsWindowed program w b None (tree (Of v)) k
  pub beyond : w.complete sort ≡ false → IsBeyond program w b None (tree Mark) k
  pub no_other : (d : Derivation) (j : Kind) → IsSeen program w b None d j → ShowsOne program w sort tree d

-- `choice x:S [] g; stop`, where S has no value: nothing is seen, so there is no step
pub record EmptySort (program : Program) (w : Windows) (g sort : ℕ) : Type 0 where
  pub none : w.values sort ≡ [] → w.complete sort ≡ true → (d : Derivation) (k : Kind) → IsSeen program w (choosing g sort) None d k → ⊥

-- `choice x:S [] g !x; stop`, and the offer `g !v`. Where the window has v it is taken. Where it hasn't, and isn't complete, a beyond tree
-- meets the offer, and no windowed one does.
pub record OfferOfValue (program : Program) (w : Windows) (g sort : ℕ) (v : List ℕ) : Type 0 where
  pub within : IsShown program w sort v →
      IsWindowed program w (offering g sort (variable 0)) (Some (offer_of g v)) (val (Of v) (pre [])) (at_gate g)
  pub beyond : sort_of_value program.theory v ≡ sort → w.complete sort ≡ false →
      IsBeyond program w (offering g sort (variable 0)) (Some (offer_of g v)) (val Mark (pre [])) (at_gate g)
  pub not_windowed : IsExecutable program.theory → (Contains (w.values sort) v → ⊥) → (d : Derivation) (k : Kind) →
      IsWindowed program w (offering g sort (variable 0)) (Some (offer_of g v)) d k → ⊥

-- `g ?x:S; stop`, and the offer `g !v`: it gives the value, which may lie beyond the window
pub record OfferGives (program : Program) (w : Windows) (g sort : ℕ) : Type 0 where
  pub windowed : (v : List ℕ) (n : TermTree) → Spells program.theory v n sort →
      IsWindowed program w (taking g (x_of sort) None) (Some (offer_of g v)) (pre (Of v ∷ [])) (at_gate g)

-- `choice x:S [] g !x; stop || g ?y:S; stop`. The mark may give any value: y has the mark too, or takes a value of the window.
abbrev pub agreeing : ℕ → ℕ → Behaviour
agreeing g sort = parallel every_gate (offering g sort (variable 0)) (taking g (y_of sort) None)

pub record AgreedValues (program : Program) (w : Windows) (g sort : ℕ) : Type 0 where
  pub within : (v : List ℕ) → IsShown program w sort v →
      IsWindowed program w (agreeing g sort) None (both (val (Of v) (pre [])) (pre (Of v ∷ []))) (at_gate g)
  pub beyond : w.complete sort ≡ false →
      IsBeyond program w (agreeing g sort) None (both (val Mark (pre [])) (pre (Mark ∷ []))) (at_gate g)
  pub taken : w.complete sort ≡ false → (v : List ℕ) → IsShown program w sort v →
      IsBeyond program w (agreeing g sort) None (both (val Mark (pre [])) (pre (Of v ∷ []))) (at_gate g)

-- `choice x:S [] g !f(x); stop || g ?y:T; stop`, as `choice x:Nat [] g !(x eq 0); stop || g ?b:Bool; stop`. Where the window of T is
-- complete, y takes each of its values, and has no mark.
abbrev pub answering : ℕ → ℕ → ℕ → ℕ → Behaviour
answering g f sort other =
    parallel every_gate (offering g sort (apply f (and_term (variable 0) no_terms))) (taking g (y_of other) None)

pub record CompleteAnswers (program : Program) (w : Windows) (g f sort other : ℕ) : Type 0 where
  pub beyond : result_sort program.theory f ≡ other → w.complete sort ≡ false → (v : List ℕ) → IsShown program w other v →
      IsBeyond program w (answering g f sort other) None (both (val Mark (pre [])) (pre (Of v ∷ []))) (at_gate g)
  pub no_mark : w.complete other ≡ true → (o : Option Offer) (d : Derivation) (k : Kind) →
      IsSeen program w (answering g f sort other) o (both d (pre (Mark ∷ []))) k → ⊥

-- `(choice x:S [] g !x; stop || g ?y:S [y = E]; stop) || g ?z:S; stop`. The mark is given, whatever y is, so z may take a value; the
-- predicate of a mark is passed. Grouped to the right, y and z meet first, and a value and a mark that nobody gives don't agree.
abbrev pub left_first : ℕ → ℕ → TermTree → Behaviour
left_first g sort e =
    parallel every_gate
    (parallel every_gate (offering g sort (variable 0)) (taking g (y_of sort) (Some (premise (variable 1) e))))
    (taking g (z_of sort) None)

abbrev pub right_first : ℕ → ℕ → TermTree → Behaviour
right_first g sort e =
    parallel every_gate (offering g sort (variable 0))
    (parallel every_gate (taking g (y_of sort) (Some (premise (variable 1) e))) (taking g (z_of sort) None))

pub record GivenMarks (program : Program) (w : Windows) (g sort : ℕ) (e : TermTree) : Type 0 where
  pub beyond : w.complete sort ≡ false → (v : List ℕ) → IsShown program w sort v →
      IsBeyond program w (left_first g sort e) None (both (both (val Mark (pre [])) (pre (Mark ∷ []))) (pre (Of v ∷ []))) (at_gate g)
  pub not_seen : (o : Option Offer) (v : List ℕ) (d : Derivation) (k : Kind) →
      IsSeen program w (right_first g sort e) o (both d (both (pre (Mark ∷ [])) (pre (Of v ∷ [])))) k → ⊥

-- `choice x:S [] [x = E] -> i; stop`. The guard of a mark is passed, so an internal action may lie beyond the window.
pub record GuardedMark (program : Program) (w : Windows) (sort : ℕ) (e : TermTree) : Type 0 where
  pub beyond : w.complete sort ≡ false →
      IsBeyond program w (value_choice (x_of sort) (guarded (premise (variable 0) e) (inner stop))) None (val Mark (guard int)) inside

-- `exit(any S, c) ||| exit(e, any T) >> accept x:S, y:T in stop`, for constants c and e. Each side gives a value that the other one
-- chooses, so the tree is windowed wherever the windows end.
abbrev pub joining : ℕ → ℕ → ℕ → ℕ → Behaviour
joining sort c e other =
    enable
    (parallel (these_gates []) (exit (exit_any sort ∷ exit_given (constant c) ∷ []))
    (exit (exit_given (constant e) ∷ exit_any other ∷ [])))
    (x_of sort ∷ y_of other ∷ []) stop

pub record GivenValues (program : Program) (w : Windows) (sort c e other : ℕ) : Type 0 where
  pub windowed : (u v : List ℕ) (n m : TermTree) → HasValue program.theory (constant e) n → Spells program.theory u n sort →
      HasValue program.theory (constant c) m → Spells program.theory v m other →
      IsWindowed program w (joining sort c e other) None (enend (both (exiting (Of u ∷ [])) (exiting (Of v ∷ [])))) inside

-- `(g ?x:S; stop || g ?y:S [p]; stop) || g ?z:S [q]; stop`, and the offer `g ?S`. All three take one value of the window, for which both
-- predicates hold.
abbrev pub three_taking : ℕ → ℕ → Premise → Premise → Behaviour
three_taking g sort p q =
    parallel every_gate (parallel every_gate (taking g (x_of sort) None) (taking g (y_of sort) (Some p))) (taking g (z_of sort) (Some q))

pub record ThreeTake (program : Program) (w : Windows) (g sort : ℕ) (p q : Premise) : Type 0 where
  pub windowed : (v : List ℕ) (n : TermTree) → Spells program.theory v n sort → Contains (w.values sort) v →
      PremiseHolds program.theory (with_term (y_of sort) n variable) p → PremiseHolds program.theory (with_term (z_of sort) n variable) q →
      IsWindowed program w (three_taking g sort p q) (Some (offer_to_take g sort))
      (both (both (pre (Of v ∷ [])) (pre (Of v ∷ []))) (pre (Of v ∷ []))) (at_gate g)

-- `[p] -> a; stop [] b; stop`, where p doesn't hold: the right side alone has a tree
pub record FalseGuard (program : Program) (w : Windows) (a b : ℕ) (p : Premise) : Type 0 where
  pub only : (PremiseHolds program.theory variable p → ⊥) → (o : Option Offer) (d : Derivation) (k : Kind) →
      IsSeen program w (choice (guarded p (action a [] None stop)) (action b [] None stop)) o d k → (d ≡ chr (pre [])) × (k ≡ at_gate b)
