-- The terms that are asked of a behaviour that fits are ground terms of the data.
use Rattle.std.proofs.Common.{ℕ, zero, suc, ◌≡◌, ◌==◌, ◌⊎◌, inl, inr, List, [], ◌∷◌, sym, subst, Bool, true, false}
use Rattle.std.proofs.Common.{if◌then◌else◌, Option, Some, None}
use Rattle.std.specs.List.{slice_get}
use Rattle.std.proofs.lemmas.Option.{same_Some}
use Rattle.spec_core.specs.Code.{ActionField, Binding, ExitValue, Program, Variable, accept, exit_any, exit_given, give}
use Rattle.spec_core.specs.Functionality.{BindingFits, FieldFits, GuardFits, ValuesFit, accepted, bound_variables, with_variable}
use Rattle.spec_core.specs.Functionality.{with_variables}
use Rattle.spec_core.specs.Lists.{Each, OneOf}
use Rattle.spec_core.specs.Ready.{IsReady}
use Rattle.spec_core.specs.Sorts.{FitsData, FitsGround, HasSort, HaveSorts, OnSome, PremiseFits, no_variables}
use Rattle.spec_core.specs.Terms.{TermTree, TermTrees, and_term, apply, no_terms, variable}
use Rattle.spec_core.specs.Theories.{Operation, Premise, Theory, premise}
use Rattle.run_settings.specs.declared.settings.Settings.{Settings}
use Rattle.spec_core.proofs.Instances.{on_map}
use Rattle.rule_model.specs.declared.rules.Slot.{Slot}
use Rattle.rule_model.specs.declared.rules.Slot.TheVariants.{Blank, Mark, Of}
use Rattle.rule_model.specs.Actions.{pairs_of}
use Rattle.rule_model.specs.Behaviours.{Behaviour, stop, exit, inner, action, choice, guarded, bound, value_choice, gate_choice, parallel}
use Rattle.rule_model.specs.Behaviours.{hide, enable, disable, call, relabel}
use Rattle.rule_model.specs.Derivations.{Derivation, pre, exiting, chl, chr, val, gate, guard, letting, parl, parr, both, hiding, pass}
use Rattle.rule_model.specs.Derivations.{enstep, enend, disstep, disend, distake, calling, rel}
use Rattle.rule_model.specs.States.{State}
use Rattle.rule_sorts.specs.Fitting.{BehaviourFits, ExitFits, HasFewGates}
use Rattle.rule_sorts.proofs.Reached.{body_fits}
use Rattle.rule_sorts.proofs.Suiting.{Sorts, value_sort}
use Rattle.symbolic_rules.specs.MarkedFields.{ArgumentsMayHave, BindingsMayHave, Chooses, FieldsMayHave, MarkedField}
use Rattle.symbolic_rules.specs.MarkedTerms.{MarkedAssignment, MarkedTerm, MayHaveValue, applied, joined, mark, marked_instance}
use Rattle.symbolic_rules.specs.MarkedTerms.{marked_instances}
use Rattle.symbolic_rules.specs.MarkedTerms.{plain, unmarked, with_marked}
use Rattle.symbolic_rules.specs.Windows.{Windows}
use Rattle.symbolic_reach.specs.Reached.{AcceptsMayHave, ArgumentAsks, Asks, BindingAsks, ExitAsks, FieldAsks, GuardAsks, PremiseAsks}
use Rattle.symbolic_reach.specs.Reached.{Reaches}
use Rattle.symbolic_reach.specs.Reached.{ReachesBelow, ReachesIn}
use Rattle.node_verdict.specs.Asking.{TreeAsks}
use Rattle.board_laws.specs.Participants.{ActsIn, at_end, before_end, disabling, first_alone, first_chosen, first_of_both, hidden_action}
use Rattle.board_laws.specs.Participants.{itself, renamed, second_alone, second_chosen, second_of_both, seen_action, undisabled}
use Rattle.board_laws.specs.Participants.{undisabled_end}
use Rattle.board_laws.specs.Reasons.{IsAskedAlong, IsAskedNext}

-- what holds of each, and of some one
of_one : {A R : Type 0} (P Q : A → Type 0) (xs : List A) → Each P xs → OneOf Q xs → ((x : A) → P x → Q x → R) → R
of_one P Q [] h k follows = absurd k
of_one P Q (x ∷ xs) h (inl k) follows = follows x h.0 k
of_one P Q (x ∷ xs) h (inr k) follows = of_one P Q xs h.1 k follows

module _ (theory : Theory) where
  -- a term has the sort; a mark is of some sort
  abbrev MarkFits : MarkedTerm → ℕ → Type 0
  MarkFits (plain n) a = HasSort theory no_variables n a
  MarkFits (mark sort) a = Unit {0}

  abbrev AllMarkFit : Option TermTrees → List ℕ → Type 0
  AllMarkFit (Some ts) sorts = HaveSorts theory no_variables ts sorts
  AllMarkFit None sorts = Unit {0}

  -- the terms and marks suit the variables of these sorts
  abbrev pub SuitsMarked : Sorts → MarkedAssignment → Type 0
  SuitsMarked vars m = (y a : ℕ) → vars y ≡ Some a → MarkFits (m y) a

  pub none_suit : (m : MarkedAssignment) → SuitsMarked no_variables m
  none_suit m y a e = let n : ⊥ = cc in absurd n

  with_one : (vars : Sorts) (m : MarkedAssignment) → SuitsMarked vars m → (x : Variable) (k : MarkedTerm) → MarkFits k x.sort →
      SuitsMarked (with_variable x vars) (with_marked x k m)
  with_one vars m h x k fits y a e = by_test (y == x.number) e
    where
      by_test : (b : Bool) → (if b then Some x.sort else vars y) ≡ Some a → MarkFits (if b then k else m y) a
      by_test true f = subst (λ (z : ℕ). MarkFits k z) (same_Some _ _ f) fits
      by_test false f = h y a f

  chosen_fits : (w : Windows) (slot : Slot) (sort : ℕ) (k : MarkedTerm) → Chooses theory w slot sort k → MarkFits k sort
  chosen_fits w (Of v) sort k h = subst (λ (z : MarkedTerm). MarkFits z sort) (sym h.2) h.1.of_sort
  chosen_fits w Mark sort k h = subst (λ (z : MarkedTerm). MarkFits z sort) (sym h.1) tt
  chosen_fits w Blank sort k h = absurd h

  joined_fit : (k : MarkedTerm) (o : Option TermTrees) (a : ℕ) (sorts : List ℕ) → MarkFits k a → AllMarkFit o sorts →
      AllMarkFit (joined k o) (a ∷ sorts)
  joined_fit (plain t) (Some ts) a sorts h k = (h, k)
  joined_fit (plain t) None a sorts h k = tt
  joined_fit (mark sort) (Some ts) a sorts h k = tt
  joined_fit (mark sort) None a sorts h k = tt

  applied_fits : (f : ℕ) (o : Option TermTrees) (a : ℕ) →
      OnSome (slice_get theory.operations f) (λ (d : Operation). (d.result ≡ a) × AllMarkFit o d.args) → MarkFits (applied theory f o) a
  applied_fits f (Some ts) a h = h
  applied_fits f None a h = tt

  module _ (vars : Sorts) (m : MarkedAssignment) (suits : SuitsMarked vars m) where
    mutual
      instance_fits : (t : TermTree) (a : ℕ) → HasSort theory vars t a → MarkFits (marked_instance theory m t) a
      instance_fits (variable y) a h = suits y a h
      instance_fits (apply f ts) a h =
          applied_fits f (marked_instances theory m ts) a
          (on_map (slice_get theory.operations f) h (λ d p. (p.0, instances_fit ts d.args p.1)))

      instances_fit : (ts : TermTrees) (sorts : List ℕ) → HaveSorts theory vars ts sorts → AllMarkFit (marked_instances theory m ts) sorts
      instances_fit no_terms [] h = tt
      instances_fit no_terms (c ∷ sorts) h = absurd h
      instances_fit (and_term t ts) [] h = absurd h
      instances_fit (and_term t ts) (c ∷ sorts) h =
          joined_fit (marked_instance theory m t) (marked_instances theory m ts) c sorts (instance_fits t c h.0)
          (instances_fit ts sorts h.1)

    -- what is asked is a ground term
    asked : (u t : TermTree) (a : ℕ) → HasSort theory vars u a → Asks theory m u t → FitsGround theory t
    asked u t a h e = (a, subst (λ (z : MarkedTerm). MarkFits z a) e (instance_fits u a h))

    premise_asked : (p : Premise) (t : TermTree) → PremiseFits theory vars p → PremiseAsks theory m p t → FitsGround theory t
    premise_asked (premise u v) t h k = by_side k.4
      where
        by_side : (t ≡ k.0) ⊎ (t ≡ k.1) → FitsGround theory t
        by_side (inl e) = subst (FitsGround theory) (sym e) (asked u k.0 h.0 h.1 k.2)
        by_side (inr e) = subst (FitsGround theory) (sym e) (asked v k.1 h.0 h.2 k.3)

    guard_asked : (p : Option Premise) (t : TermTree) → GuardFits theory vars p → GuardAsks theory m p t → FitsGround theory t
    guard_asked None t h k = absurd k
    guard_asked (Some p) t h k = premise_asked p t h k

    field_asked : (fields : List ActionField) (t : TermTree) → Each (FieldFits theory vars) fields → OneOf (FieldAsks theory m t) fields →
        FitsGround theory t
    field_asked fields t h k = of_one (FieldFits theory vars) (FieldAsks theory m t) fields h k by_field
      where
        by_field : (f : ActionField) → FieldFits theory vars f → FieldAsks theory m t f → FitsGround theory t
        by_field (give u) i e = asked u t i.0 i.1 e
        by_field (accept x) i e = absurd e

    binding_asked : (bindings : List Binding) (t : TermTree) → Each (BindingFits theory vars) bindings →
        OneOf (BindingAsks theory m t) bindings → FitsGround theory t
    binding_asked bindings t h k =
        of_one (BindingFits theory vars) (BindingAsks theory m t) bindings h k (λ b i e. asked b.term t b.variable.sort i.0 e)

    argument_asked : (terms : List TermTree) (xs : List Variable) (t : TermTree) → ValuesFit theory vars terms xs →
        OneOf (ArgumentAsks theory m t) terms → FitsGround theory t
    argument_asked [] xs t h k = absurd k
    argument_asked (u ∷ terms) [] t h k = absurd h
    argument_asked (u ∷ terms) (x ∷ xs) t h (inl e) = asked u t x.sort h.0 e
    argument_asked (u ∷ terms) (x ∷ xs) t h (inr k) = argument_asked terms xs t h.1 k

    module _ (fits : FitsData theory) where
      value_fits : (q k : MarkedTerm) (a : ℕ) → MarkFits q a → MayHaveValue theory q k → MarkFits k a
      value_fits (plain t) k a i h = subst (λ (z : MarkedTerm). MarkFits z a) (sym h.2) (value_sort theory fits t h.0 a i h.1)
      value_fits (mark sort) k a i h = subst (λ (z : MarkedTerm). MarkFits z a) (sym h) tt

      valued : (e : TermTree) (k : MarkedTerm) (a : ℕ) → HasSort theory vars e a → MayHaveValue theory (marked_instance theory m e) k →
          MarkFits k a
      valued e k a h i = value_fits (marked_instance theory m e) k a (instance_fits e a h) i

      bindings_suit : (wars : Sorts) (l r : MarkedAssignment) (bindings : List Binding) → Each (BindingFits theory vars) bindings →
          SuitsMarked wars l → BindingsMayHave theory m l bindings r → SuitsMarked (with_variables (bound_variables bindings) wars) r
      bindings_suit wars l r [] i k h = subst (λ (z : MarkedAssignment). SuitsMarked wars z) (sym h) k
      bindings_suit wars l r (b ∷ bindings) i k h =
          bindings_suit (with_variable b.variable wars) (with_marked b.variable h.0 l) r bindings i.1
          (with_one wars l k b.variable h.0 (valued b.term h.0 b.variable.sort i.0.0 h.1)) h.2

      arguments_suit : (wars : Sorts) (l r : MarkedAssignment) (xs : List Variable) (terms : List TermTree) →
          ValuesFit theory vars terms xs → SuitsMarked wars l → ArgumentsMayHave theory m l xs terms r →
          SuitsMarked (with_variables xs wars) r
      arguments_suit wars l r [] [] i k h = subst (λ (z : MarkedAssignment). SuitsMarked wars z) (sym h) k
      arguments_suit wars l r (x ∷ xs) (e ∷ terms) i k h =
          arguments_suit (with_variable x wars) (with_marked x h.0 l) r xs terms i.1
          (with_one wars l k x h.0 (valued e h.0 x.sort i.0 h.1)) h.2
      arguments_suit wars l r [] (e ∷ terms) i k h = absurd i
      arguments_suit wars l r (x ∷ xs) [] i k h = absurd i

  -- what is chosen suits its variables

  fields_suit : (w : Windows) (wars : Sorts) (m l r : MarkedAssignment) (fields : List ActionField) (slots : List Slot)
      (fs : List MarkedField) → SuitsMarked wars l → FieldsMayHave theory w m l fields slots fs r →
      SuitsMarked (with_variables (accepted fields) wars) r
  fields_suit w wars m l r [] [] [] k h = subst (λ (z : MarkedAssignment). SuitsMarked wars z) (sym h) k
  fields_suit w wars m l r (give e ∷ fields) slots (f ∷ fs) k h = fields_suit w wars m l r fields slots fs k h.1
  fields_suit w wars m l r (accept x ∷ fields) (slot ∷ slots) (f ∷ fs) k h =
      fields_suit w (with_variable x wars) m (with_marked x h.0 l) r fields slots fs
      (with_one wars l k x h.0 (chosen_fits w slot x.sort h.0 h.1)) h.3
  fields_suit w wars m l r _ _ _ k h = absurd h

  accepts_suit : (w : Windows) (others : List (List ℕ)) (wars : Sorts) (l r : MarkedAssignment) (fields : List ActionField) →
      SuitsMarked wars l → AcceptsMayHave theory w others l fields r → SuitsMarked (with_variables (accepted fields) wars) r
  accepts_suit w others wars l r [] k h = subst (λ (z : MarkedAssignment). SuitsMarked wars z) (sym h) k
  accepts_suit w others wars l r (give e ∷ fields) k h = accepts_suit w others wars l r fields k h
  accepts_suit w others wars l r (accept x ∷ fields) k h =
      accepts_suit w others (with_variable x wars) (with_marked x h.1 l) r fields
      (with_one wars l k x h.1 (chosen_fits w h.0 x.sort h.1 h.2)) h.4

module _ (program : Program) where
  exit_asked : (vars : Sorts) (m : MarkedAssignment) → SuitsMarked program.theory vars m → (fields : List ExitValue) (t : TermTree) →
      Each (ExitFits program vars) fields → OneOf (ExitAsks program.theory m t) fields → FitsGround program.theory t
  exit_asked vars m suits fields t h k = of_one (ExitFits program vars) (ExitAsks program.theory m t) fields h k by_field
    where
      by_field : (f : ExitValue) → ExitFits program vars f → ExitAsks program.theory m t f → FitsGround program.theory t
      by_field (exit_given u) i e = asked program.theory vars m suits u t i.0 i.1 e
      by_field (exit_any sort) i e = absurd e

  module _ (ready : IsReady program) (few : HasFewGates program) (w : Windows) where
    abbrev AsksGround : (MarkedAssignment → Behaviour → TermTree → Type 0) → Type 0
    AsksGround Asked =
        (vars : Sorts) (m : MarkedAssignment) (b : Behaviour) (t : TermTree) → SuitsMarked program.theory vars m →
        BehaviourFits program vars b → Asked m b t → FitsGround program.theory t

    reached_in : (others : List (List ℕ)) (Called : MarkedAssignment → Behaviour → TermTree → Type 0) → AsksGround Called →
        (b : Behaviour) (vars : Sorts) (m : MarkedAssignment) (t : TermTree) → SuitsMarked program.theory vars m →
        BehaviourFits program vars b → ReachesIn program w others Called m b t → FitsGround program.theory t
    reached_in others Called called stop vars m t k i h = absurd h
    reached_in others Called called (exit fields) vars m t k i h = exit_asked vars m k fields t i h
    reached_in others Called called (inner b) vars m t k i h = absurd h
    reached_in others Called called (action g fields p rest) vars m t k i (inl h) = field_asked program.theory vars m k fields t i.0 h
    reached_in others Called called (action g fields p rest) vars m t k i (inr h) =
        guard_asked program.theory (with_variables (accepted fields) vars) h.0
        (accepts_suit program.theory w others vars m h.0 fields k h.1) p t i.1 h.2
    reached_in others Called called (choice b c) vars m t k i (inl h) = reached_in others Called called b vars m t k i.0 h
    reached_in others Called called (choice b c) vars m t k i (inr h) = reached_in others Called called c vars m t k i.1 h
    reached_in others Called called (guarded p b) vars m t k i (inl h) = premise_asked program.theory vars m k p t i.0 h
    reached_in others Called called (guarded p b) vars m t k i (inr h) = reached_in others Called called b vars m t k i.1 h.1
    reached_in others Called called (bound bindings b) vars m t k i (inl h) = binding_asked program.theory vars m k bindings t i.0 h
    reached_in others Called called (bound bindings b) vars m t k i (inr h) =
        reached_in others Called called b (with_variables (bound_variables bindings) vars) h.0 t
        (bindings_suit program.theory vars m k ready.executable.fits vars m h.0 bindings i.0 k h.1) i.1 h.2
    reached_in others Called called (value_choice x b) vars m t k i h =
        reached_in others Called called b (with_variable x vars) (with_marked x h.1 m) t
        (with_one program.theory vars m k x h.1 (chosen_fits program.theory w h.0 x.sort h.1 h.2)) i h.4
    reached_in others Called called (gate_choice g gates b) vars m t k i h = reached_in others Called called b vars m t k i.1 h.1
    reached_in others Called called (parallel gates b c) vars m t k i (inl h) = reached_in others Called called b vars m t k i.0 h
    reached_in others Called called (parallel gates b c) vars m t k i (inr h) = reached_in others Called called c vars m t k i.1 h
    reached_in others Called called (hide gates b) vars m t k i h = reached_in others Called called b vars m t k i h
    reached_in others Called called (enable b xs c) vars m t k i h = reached_in others Called called b vars m t k i.0 h
    reached_in others Called called (disable b c) vars m t k i (inl h) = reached_in others Called called b vars m t k i.0 h
    reached_in others Called called (disable b c) vars m t k i (inr h) = reached_in others Called called c vars m t k i.1 h
    reached_in others Called called (call p actual terms) vars m t k i h = by_part h.4
      where
        by_part : OneOf (ArgumentAsks program.theory m t) terms ⊎
            ((r : MarkedAssignment) × ArgumentsMayHave program.theory m unmarked h.1 terms r × Called r h.2 t) → FitsGround program.theory t
        by_part (inl a) = argument_asked program.theory vars m k terms h.1 t (i h.0 h.1 h.3.part h.3.defines) a
        by_part (inr a) =
            called (with_variables h.1 no_variables) a.0 h.2 t
            (arguments_suit program.theory vars m k ready.executable.fits no_variables unmarked a.0 h.1 terms
            (i h.0 h.1 h.3.part h.3.defines) (none_suit program.theory unmarked) a.1)
            (body_fits program ready few p h.0 h.1 h.2 h.3) a.2
    reached_in others Called called (relabel pairs b) vars m t k i h = reached_in others Called called b vars m t k i h

    reached_below : (others : List (List ℕ)) (n : ℕ) → AsksGround (ReachesBelow program w others n)
    reached_below others zero vars m b t k i h = absurd h
    reached_below others (suc n) vars m b t k i h =
        reached_in others (ReachesBelow program w others n) (reached_below others n) b vars m t k i h

    reached : (others : List (List ℕ)) → AsksGround (Reaches program w others)
    reached others vars m b t k i h =
        reached_in others (ReachesBelow program w others h.0) (reached_below others h.0) b vars m t k i h.1

    along : (d : Derivation) (vars : Sorts) (m : MarkedAssignment) (b : Behaviour) (t : TermTree) → SuitsMarked program.theory vars m →
        BehaviourFits program vars b → TreeAsks program w m b d t → FitsGround program.theory t
    along (pre slots) vars m (action g fields p rest) t k i (inl h) = field_asked program.theory vars m k fields t i.0 h
    along (pre slots) vars m (action g fields p rest) t k i (inr h) =
        guard_asked program.theory (with_variables (accepted fields) vars) h.1
        (fields_suit program.theory w vars m m h.1 fields slots h.0 k h.2) p t i.1 h.3
    along (exiting slots) vars m (exit fields) t k i h = exit_asked vars m k fields t i h
    along (chl d) vars m (choice b c) t k i h = along d vars m b t k i.0 h
    along (chr d) vars m (choice b c) t k i h = along d vars m c t k i.1 h
    along (val slot d) vars m (value_choice x body) t k i h =
        along d (with_variable x vars) (with_marked x h.0 m) body t
        (with_one program.theory vars m k x h.0 (chosen_fits program.theory w slot x.sort h.0 h.1)) i h.3
    along (gate j d) vars m (gate_choice g gates body) t k i h =
        along d vars m (relabel (record { from = g; to = h.1 } ∷ []) body) t k i.1 h.4
    along (guard d) vars m (guarded p body) t k i (inl h) = premise_asked program.theory vars m k p t i.0 h
    along (guard d) vars m (guarded p body) t k i (inr h) = along d vars m body t k i.1 h.1
    along (letting d) vars m (bound bindings body) t k i (inl h) = binding_asked program.theory vars m k bindings t i.0 h
    along (letting d) vars m (bound bindings body) t k i (inr h) =
        along d (with_variables (bound_variables bindings) vars) h.0 body t
        (bindings_suit program.theory vars m k ready.executable.fits vars m h.0 bindings i.0 k h.1) i.1 h.2
    along (parl d) vars m (parallel gates b c) t k i h = along d vars m b t k i.0 h
    along (parr d) vars m (parallel gates b c) t k i h = along d vars m c t k i.1 h
    along (both d e) vars m (parallel gates b c) t k i (inl h) = along d vars m b t k i.0 h
    along (both d e) vars m (parallel gates b c) t k i (inr h) = along e vars m c t k i.1 h.3
    along (hiding d) vars m (hide gates body) t k i h = along d vars m body t k i h
    along (pass d) vars m (hide gates body) t k i h = along d vars m body t k i h
    along (enstep d) vars m (enable b xs c) t k i h = along d vars m b t k i.0 h
    along (enend d) vars m (enable b xs c) t k i h = along d vars m b t k i.0 h
    along (disstep d) vars m (disable b c) t k i h = along d vars m b t k i.0 h
    along (disend d) vars m (disable b c) t k i h = along d vars m b t k i.0 h
    along (distake d) vars m (disable b c) t k i h = along d vars m c t k i.1 h
    along (calling d) vars m (call p actual terms) t k i h =
        by_part (λ r. along d (with_variables h.1 no_variables) r (relabel (pairs_of h.0 actual) h.2) t) h.4
      where
        by_part : ((r : MarkedAssignment) → SuitsMarked program.theory (with_variables h.1 no_variables) r →
            BehaviourFits program (with_variables h.1 no_variables) (relabel (pairs_of h.0 actual) h.2) →
            TreeAsks program w r (relabel (pairs_of h.0 actual) h.2) d t → FitsGround program.theory t) →
            OneOf (ArgumentAsks program.theory m t) terms ⊎
            ((r : MarkedAssignment) × ArgumentsMayHave program.theory m unmarked h.1 terms r ×
            TreeAsks program w r (relabel (pairs_of h.0 actual) h.2) d t) → FitsGround program.theory t
        by_part inside (inl a) = argument_asked program.theory vars m k terms h.1 t (i h.0 h.1 h.3.part h.3.defines) a
        by_part inside (inr a) =
            inside a.0
            (arguments_suit program.theory vars m k ready.executable.fits no_variables unmarked a.0 h.1 terms
            (i h.0 h.1 h.3.part h.3.defines) (none_suit program.theory unmarked) a.1)
            (body_fits program ready few p h.0 h.1 h.2 h.3) a.2
    along (rel d) vars m (relabel pairs body) t k i h = along d vars m body t k i h
    along _ vars m _ t k i h = absurd h

  -- a part that acts by a tree of a behaviour that fits does
  part_fits : (vars : Sorts) (c : Behaviour) (e : Derivation) (b : Behaviour) (d : Derivation) → ActsIn c e b d →
      BehaviourFits program vars b → BehaviourFits program vars c
  part_fits vars c e b d itself i = i
  part_fits vars c e b d (first_chosen l r f a) i = part_fits vars c e l f a i.0
  part_fits vars c e b d (second_chosen l r f a) i = part_fits vars c e r f a i.1
  part_fits vars c e b d (first_alone gates l r f a) i = part_fits vars c e l f a i.0
  part_fits vars c e b d (second_alone gates l r f a) i = part_fits vars c e r f a i.1
  part_fits vars c e b d (first_of_both gates l r f g a) i = part_fits vars c e l f a i.0
  part_fits vars c e b d (second_of_both gates l r f g a) i = part_fits vars c e r g a i.1
  part_fits vars c e b d (hidden_action gates body f a) i = part_fits vars c e body f a i
  part_fits vars c e b d (seen_action gates body f a) i = part_fits vars c e body f a i
  part_fits vars c e b d (before_end l xs r f a) i = part_fits vars c e l f a i.0
  part_fits vars c e b d (at_end l xs r f a) i = part_fits vars c e l f a i.0
  part_fits vars c e b d (undisabled l r f a) i = part_fits vars c e l f a i.0
  part_fits vars c e b d (undisabled_end l r f a) i = part_fits vars c e l f a i.0
  part_fits vars c e b d (disabling l r f a) i = part_fits vars c e r f a i.1
  part_fits vars c e b d (renamed pairs body f a) i = part_fits vars c e body f a i

  -- the term that is asked before the next action is a ground term
  pub asked_next : IsReady program → HasFewGates program → (settings : Settings) (s : State) (t : TermTree) →
      BehaviourFits program no_variables s.behaviour → IsAskedNext program settings s t → FitsGround program.theory t
  asked_next ready few settings s t i h = by_place h.asked
    where
      by_place : Reaches program h.windows [] unmarked s.behaviour t ⊎ IsAskedAlong program settings s h.windows t →
          FitsGround program.theory t
      by_place (inl r) = reached ready few h.windows [] no_variables unmarked s.behaviour t (none_suit program.theory unmarked) i r
      by_place (inr r) =
          along ready few h.windows r.rules no_variables unmarked r.part t (none_suit program.theory unmarked)
          (part_fits no_variables r.part r.rules s.behaviour r.tree r.acts i) r.asks
