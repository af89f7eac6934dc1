-- What is found of a construct by a rule, from what is found of its part.
use Rattle.std.proofs.Common.{ℕ, ◌≡◌, ◌⊎◌, inl, inr, List, sym, ap, subst, ◌∙◌, Option, Some, None, true}
use Rattle.std.proofs.Common.{false, Result, Ok, Err, option_map}
use Rattle.std.specs.List.{slice_get}
use Rattle.spec_core.specs.Code.{Program, Variable, Binding, Relabelling, Synchronised, ActionField, process}
use Rattle.spec_core.specs.Lists.{OneOf}
use Rattle.spec_core.specs.Ready.{IsReady}
use Rattle.spec_core.specs.Terms.{TermTree}
use Rattle.spec_core.specs.Theories.{Premise}
use Rattle.rule_model.specs.declared.rules.Slot.{Slot}
use Rattle.rule_model.specs.Actions.{Kind, pairs_of}
use Rattle.rule_model.specs.Behaviours.{Behaviour, action, bound, call}
use Rattle.rule_model.specs.Behaviours.{parallel, relabel, value_choice}
use Rattle.rule_model.specs.Code.{IsDefinition}
use Rattle.rule_model.specs.Derivations.{Derivation, pre, chl, chr, val, letting, parl, parr, both, hiding, pass}
use Rattle.rule_model.specs.Derivations.{enstep, enend, disstep, disend, distake, calling, rel}
use Rattle.node_values.proofs.OneStep.{one_definition}
use Rattle.rule_origins.specs.Parts.{behaviour_at}
use Rattle.rule_origins.proofs.Standing.{behaviours_stand}
use Rattle.symbolic_rules.specs.Windows.{Windows}
use Rattle.symbolic_rules.specs.MarkedTerms.{MarkedTerm, MarkedAssignment, unmarked, with_marked, GuardMayHold}
use Rattle.symbolic_rules.specs.MarkedFields.{MarkedField, chosen_by, IsWithin, Chooses, FieldsMayHave, BindingsMayHave}
use Rattle.symbolic_rules.specs.MarkedFields.{ArgumentsMayHave}
use Rattle.symbolic_rules.specs.MayDerive.{MayDeriveWith}
use Rattle.symbolic_composites.specs.Evaluations.{Evaluation, IsExact}
use Rattle.symbolic_composites.proofs.Parts.{one_choice, one_fields, one_binding, one_argument}
use Rattle.symbolic_composites.proofs.Answers.{exact_answers_exist}
use Rattle.symbolic_reach.specs.Reached.{ArgumentAsks}
use Rattle.node_values.specs.declared.scope.Given.{Given}
use Rattle.node_values.specs.declared.stop.Stop.{Stop}
use Rattle.node_values.specs.Scopes.{marked_of}
use Rattle.node_values.specs.Stops.{Stops, Never}
use Rattle.node_values.proofs.Stopping.{stops_on}
use Rattle.symbolic_actions.specs.declared.shown.Shown.{Shown}
use Rattle.symbolic_actions.specs.Deciding.{is_within}
use Rattle.symbolic_actions.specs.Models.{show_of}
use Rattle.symbolic_actions.specs.Shows.{ShowsWith, PartRule, of_left, of_right, left_alone, right_alone, hidden_in, seen_in, before_end}
use Rattle.symbolic_actions.specs.Shows.{handed_to, undisabled, ended, disabling, renamed_by, tree_over, IsOver, over_part, over_both}
use Rattle.symbolic_actions.proofs.Deciding.{fields_are_decided}
use Rattle.symbolic_actions.proofs.Folding.{shows_are_made_of_shows}
use Rattle.node_verdict.specs.Asking.{TreeAsks}
use Rattle.node_verdict.specs.Found.{IsChosen, chosen_field}
use Rattle.node_verdict.specs.Judged.{Judged, Made}

-- what is so of one thing alone
only_one : {A : Type 0} (P : A → Type 0) → ((a : A) × P a × ((b : A) → P b → b ≡ a)) ⊎ ((a : A) → P a → ⊥) → (a b : A) → P a → P b → b ≡ a
only_one P (inl h) a b p q = h.2 b q ∙ sym (h.2 a p)
only_one P (inr out) a b p q = absurd (out a p)

module _ (program : Program) (w : Windows) (budget : ℕ) where
  abbrev May : MarkedAssignment → Behaviour → Derivation → Kind → List MarkedField → Type 0
  May m b d k fs = MayDeriveWith program w m b d k fs

  abbrev Finds : MarkedAssignment → Behaviour → Derivation → Result (Option Shown) Stop → Type 0
  Finds m b d r = Judged program w budget m b d r

  -- nothing is shown
  pub nothing : (m : MarkedAssignment) (b : Behaviour) (d : Derivation) (r : Result (Option Shown) Stop) → r ≡ Ok None →
      ((k : Kind) (fs : List MarkedField) → May m b d k fs → ⊥) → Finds m b d r
  nothing m b d r is none = subst (Finds m b d) (sym is) (record { shows = none; stop = tt })

  -- there is a stop
  pub stopped : (m : MarkedAssignment) (b : Behaviour) (d : Derivation) (r : Result (Option Shown) Stop) (s : Stop) → r ≡ Err s →
      Stops program.theory budget (TreeAsks program w m b d) Never s → Finds m b d r
  stopped m b d r s is h = subst (Finds m b d) (sym is) (record { shows = tt; stop = h })

  pub stopped_by : (m : MarkedAssignment) (b : Behaviour) (d : Derivation) (r : Result (Option Shown) Stop) (s : Stop)
      (A : TermTree → Type 0) → r ≡ Err s → ((t : TermTree) → A t → TreeAsks program w m b d t) → Stops program.theory budget A Never s →
      Finds m b d r
  stopped_by m b d r s A is asks h =
      stopped m b d r s is (stops_on program.theory budget A (TreeAsks program w m b d) Never Never s asks (λ n v. v) h)

  -- what is shown may be done
  pub shown_of : (m : MarkedAssignment) (b : Behaviour) (d : Derivation) (o : Option Shown) (s : Shown) → o ≡ Some s → Finds m b d (Ok o) →
      May m b d (show_of s).kind (show_of s).fields
  shown_of m b d o s is h = subst (λ z. ShowsWith program w m b d (option_map show_of z)) is h.shows

  -- the whole may do by its tree what the part may do by its own
  pub carried : (m n : MarkedAssignment) (b c : Behaviour) (d e : Derivation) →
      ((k : Kind) (fs : List MarkedField) → May m c d k fs → May n b e k fs) →
      ((k : Kind) (fs : List MarkedField) → May n b e k fs → May m c d k fs) →
      ((t : TermTree) → TreeAsks program w m c d t → TreeAsks program w n b e t) → (r : Result (Option Shown) Stop) → Finds m c d r →
      Finds n b e r
  carried m n b c d e to from asks (Ok None) h = record { shows = λ k fs i. h.shows k fs (from k fs i); stop = tt }
  carried m n b c d e to from asks (Ok (Some s)) h = record { shows = to (show_of s).kind (show_of s).fields h.shows; stop = tt }
  carried m n b c d e to from asks (Err s) h = record {
    shows = tt;
    stop = stops_on program.theory budget (TreeAsks program w m c d) (TreeAsks program w n b e) Never Never s asks (λ k v. v) h.stop;
  }

  -- what a tree over a part asks of the whole
  asks_over : (m : MarkedAssignment) (r : PartRule) (b c : Behaviour) → IsOver r b c → (d : Derivation) (t : TermTree) →
      TreeAsks program w m c d t → TreeAsks program w m b (tree_over r d) t
  asks_over m of_left b c h d t q = subst (λ z. TreeAsks program w m z (chl d) t) (sym h.1) q
  asks_over m of_right b c h d t q = subst (λ z. TreeAsks program w m z (chr d) t) (sym h.1) q
  asks_over m (left_alone gates) b c h d t q = subst (λ z. TreeAsks program w m z (parl d) t) (sym h.1) q
  asks_over m (right_alone gates) b c h d t q = subst (λ z. TreeAsks program w m z (parr d) t) (sym h.1) q
  asks_over m (hidden_in gates) b c h d t q = subst (λ z. TreeAsks program w m z (hiding d) t) (sym h) q
  asks_over m (seen_in gates) b c h d t q = subst (λ z. TreeAsks program w m z (pass d) t) (sym h) q
  asks_over m before_end b c h d t q = subst (λ z. TreeAsks program w m z (enstep d) t) (sym h.2) q
  asks_over m (handed_to xs) b c h d t q = subst (λ z. TreeAsks program w m z (enend d) t) (sym h.1) q
  asks_over m undisabled b c h d t q = subst (λ z. TreeAsks program w m z (disstep d) t) (sym h.1) q
  asks_over m ended b c h d t q = subst (λ z. TreeAsks program w m z (disend d) t) (sym h.1) q
  asks_over m disabling b c h d t q = subst (λ z. TreeAsks program w m z (distake d) t) (sym h.1) q
  asks_over m (renamed_by pairs) b c h d t q = subst (λ z. TreeAsks program w m z (rel d) t) (sym h) q

  module _ (ready : IsReady program) where
    abbrev answers : Evaluation
    answers = (exact_answers_exist program ready).0

    abbrev exact : IsExact program answers
    exact = (exact_answers_exist program ready).1

    -- what a rule over a part makes
    pub over_judged : (m : MarkedAssignment) (r : PartRule) (b c : Behaviour) (d : Derivation) (p q : Result (Option Shown) Stop) →
        IsOver r b c → Finds m c d p → Made (over_part program.theory w r) p q → Finds m b (tree_over r d) q
    over_judged m r b c d (Ok o) (Ok i) over h made = record {
      shows =
          subst (ShowsWith program w m b (tree_over r d)) (sym made)
          ((shows_are_made_of_shows program answers w exact m).over_part r b c over d (option_map show_of o) h.shows);
      stop = tt;
    }
    over_judged m r b c d (Ok o) (Err s) over h made = absurd made
    over_judged m r b c d (Err s) q over h made =
        stopped_by m b (tree_over r d) q s (TreeAsks program w m c d) made (asks_over m r b c over d) h.stop

    -- both sides of a parallel composition together

    pub both_judged : (m : MarkedAssignment) (b x y : Behaviour) (gates : Synchronised) (d e : Derivation) (r : Result (Option Shown) Stop)
        (s t : Shown) (o : Option Shown) → b ≡ parallel gates x y → May m x d (show_of s).kind (show_of s).fields →
        May m y e (show_of t).kind (show_of t).fields → option_map show_of o ≡ over_both program.theory gates (show_of s) (show_of t) →
        r ≡ Ok o → Finds m b (both d e) r
    both_judged m b x y gates d e r s t o is left right made q =
        subst (λ z. Finds m z (both d e) r) (sym is)
        (subst (Finds m (parallel gates x y) (both d e)) (sym q) (record {
          shows =
              subst (ShowsWith program w m (parallel gates x y) (both d e)) (sym made)
              ((shows_are_made_of_shows program answers w exact m).over_both gates x y d e (Some (show_of s)) (Some (show_of t)) left right);
          stop = tt;
        }))

    -- a choice of a value

    same_choice : (slot : Slot) (sort : ℕ) (k j : MarkedTerm) → Chooses program.theory w slot sort k →
        Chooses program.theory w slot sort j → j ≡ k
    same_choice slot sort k j h i = only_one (Chooses program.theory w slot sort) (one_choice program answers exact w slot sort) k j h i

    pub value_judged : (m : MarkedAssignment) (b body : Behaviour) (x : Variable) (slot : Slot) (g : Given) (d : Derivation)
        (r : Result (Option Shown) Stop) → b ≡ value_choice x body → IsChosen program.theory w slot x.sort g →
        is_within program.theory w (chosen_field g) ≡ true → Finds (with_marked x (marked_of program.theory x.number g) m) body d r →
        Finds m b (val slot d) r
    value_judged m b body x slot g d r is chosen within h =
        let k = marked_of program.theory x.number g in
        let lies : IsWithin program.theory w (chosen_by k) =
        (fields_are_decided.within program.theory w (chosen_by k)).1
        (ap (is_within program.theory w) (chosen.field x.number) ∙ within) in
        subst (λ z. Finds m z (val slot d) r) (sym is)
        (carried (with_marked x k m) m (value_choice x body) body d (val slot d)
        (λ j fs i. (k, chosen.chooses x.number, lies, i))
        (λ j fs i. subst (λ n. May (with_marked x n m) body d j fs) (same_choice slot x.sort k i.0 (chosen.chooses x.number) i.1) i.3)
        (λ t i. (k, chosen.chooses x.number, lies, i)) r h)

    pub value_outside : (m : MarkedAssignment) (b body : Behaviour) (x : Variable) (slot : Slot) (g : Given) (d : Derivation)
        (r : Result (Option Shown) Stop) → b ≡ value_choice x body → IsChosen program.theory w slot x.sort g →
        is_within program.theory w (chosen_field g) ≡ false → r ≡ Ok None → Finds m b (val slot d) r
    value_outside m b body x slot g d r is chosen outside q =
        let k = marked_of program.theory x.number g in
        nothing m b (val slot d) r q (subst (λ z. (j : Kind) (fs : List MarkedField) → May m z (val slot d) j fs → ⊥) (sym is)
        (λ j fs i.
        let same = same_choice slot x.sort k i.0 (chosen.chooses x.number) i.1 in
        let lies = subst (λ n. IsWithin program.theory w (chosen_by n)) same i.2 in
        let yes : is_within program.theory w (chosen_field g) ≡ true =
        ap (is_within program.theory w) (sym (chosen.field x.number))
        ∙ (fields_are_decided.within program.theory w (chosen_by k)).0 lies in
        let no : false ≡ true = sym outside ∙ yes in
        absurd cc))

    -- a `let`

    pub let_judged : (m l : MarkedAssignment) (b body : Behaviour) (bindings : List Binding) (d : Derivation)
        (r : Result (Option Shown) Stop) → b ≡ bound bindings body → BindingsMayHave program.theory m m bindings l → Finds l body d r →
        Finds m b (letting d) r
    let_judged m l b body bindings d r is has h =
        subst (λ z. Finds m z (letting d) r) (sym is)
        (carried l m (bound bindings body) body d (letting d) (λ k fs i. (l, has, i))
        (λ k fs i. subst (λ n. May n body d k fs)
        (only_one (BindingsMayHave program.theory m m bindings) (one_binding program answers exact w m m bindings) l i.0 has i.1) i.2)
        (λ t i. inr (l, has, i)) r h)

    -- a call

    module _ (p n : ℕ) (formal : List ℕ) (xs : List Variable) (there : slice_get program.code p ≡ Some (process formal xs n)) where
      defined : IsDefinition program p formal xs (behaviour_at program n)
      defined = record {
        part = n;
        defines = there;
        stands = behaviours_stand program ready n (ready.parts p (process formal xs n) there).names.0;
      }

      pub call_judged : (m l : MarkedAssignment) (actual : List ℕ) (terms : List TermTree) (pairs : List Relabelling) (d : Derivation)
          (r : Result (Option Shown) Stop) → pairs ≡ pairs_of formal actual → ArgumentsMayHave program.theory m unmarked xs terms l →
          Finds l (relabel pairs (behaviour_at program n)) d r → Finds m (call p actual terms) (calling d) r
      call_judged m l actual terms pairs d r same has f =
          carried l m (call p actual terms) (relabel (pairs_of formal actual) (behaviour_at program n)) d (calling d)
          (λ k fs i. (formal, xs, behaviour_at program n, l, defined, has, i))
          (λ k fs i.
          let q = one_definition program p i.0 formal i.1 xs i.2 (behaviour_at program n) i.4 defined in
          let args = subst (λ ys. ArgumentsMayHave program.theory m unmarked ys terms i.3) q.1 i.5 in
          let scope = only_one (ArgumentsMayHave program.theory m unmarked xs terms)
          (one_argument program answers exact w m unmarked xs terms) l i.3 has args in
          subst (λ z. May z (relabel (pairs_of formal actual) (behaviour_at program n)) d k fs) scope
          (subst (λ z. May i.3 (relabel (pairs_of formal actual) z) d k fs) q.2
          (subst (λ z. May i.3 (relabel (pairs_of z actual) i.2) d k fs) q.0 i.6)))
          (λ t i. (formal, xs, behaviour_at program n, defined, inr (l, has, i))) r
          (subst (λ z. Finds l (relabel z (behaviour_at program n)) d r) same f)

      pub call_stops : (m : MarkedAssignment) (actual : List ℕ) (terms : List TermTree) (d : Derivation)
          (r : Result (Option Shown) Stop) (s : Stop) → r ≡ Err s →
          Stops program.theory budget (λ t. OneOf (ArgumentAsks program.theory m t) terms) Never s → Finds m (call p actual terms) (calling d) r
      call_stops m actual terms d r s q h =
          stopped_by m (call p actual terms) (calling d) r s (λ t. OneOf (ArgumentAsks program.theory m t) terms) q
          (λ t i. (formal, xs, behaviour_at program n, defined, inl i)) h

    -- actions and exits

    pub acts_failing : (m l : MarkedAssignment) (b rest : Behaviour) (g : ℕ) (fields : List ActionField) (p : Option Premise)
        (slots : List Slot) (gs : List MarkedField) (r : Result (Option Shown) Stop) → b ≡ action g fields p rest →
        FieldsMayHave program.theory w m m fields slots gs l → (GuardMayHold program.theory l p → ⊥) → r ≡ Ok None → Finds m b (pre slots) r
    acts_failing m l b rest g fields p slots gs r is has fails q =
        nothing m b (pre slots) r q (subst (λ z. (k : Kind) (fs : List MarkedField) → May m z (pre slots) k fs → ⊥) (sym is)
        (λ k fs i.
        let same = only_one (λ (z : List MarkedField × MarkedAssignment). FieldsMayHave program.theory w m m fields slots z.0 z.1)
        (one_fields program answers exact w m m fields slots) (gs, l) (fs, i.0) has i.2 in
        let scope : i.0 ≡ l = ap (λ (z : List MarkedField × MarkedAssignment). z.1) same in
        fails (subst (λ z. GuardMayHold program.theory z p) scope i.3)))
