-- What is done and left of the whole, from what is done and left of its parts.
use Rattle.std.proofs.Common.{ℕ, zero, suc, ◌≡◌, ◌+◌, List, [], ◌∷◌, ◌++◌, length, refl, sym, ap, subst, ◌∙◌, append_assoc, arith}
use Rattle.std.proofs.Common.{Option, Some, None, Bool, length-append}
use Rattle.std.proofs.lemmas.List.{append-nil}
use Rattle.spec_core.specs.Executable.{IsExecutable}
use Rattle.spec_core.specs.Code.{Program, Synchronised}
use Rattle.rule_model.specs.declared.action.Action.{Action}
use Rattle.rule_model.specs.declared.rules.Slot.{Slot}
use Rattle.rule_model.specs.declared.rules.Slot.TheVariants.{Blank}
use Rattle.rule_model.specs.declared.action.Action.TheVariants.{Exit}
use Rattle.rule_model.specs.Actions.{doing}
use Rattle.rule_model.specs.Behaviours.{Behaviour, parallel, hide}
use Rattle.rule_model.specs.Behaviours.{enable}
use Rattle.rule_model.specs.Constructs.{OnHide, OnEnable, OnParallel}
use Rattle.rule_model.specs.Derivations.{Derivation, pre, int, exiting, both, hiding, enend}
use Rattle.rule_model.specs.Derives.{DerivesWith}
use Rattle.rule_model.specs.Substitution.{Assignment, put}
use Rattle.rule_laws.proofs.Closed.{closed_behaviours_act}
use Rattle.rule_origins.specs.Values.{assignment}
use Rattle.rule_origins.proofs.Reading.{values_close}
use Rattle.symbolic_composites.specs.OpenFields.{OpenField}
use Rattle.symbolic_plans.specs.declared.scheme.Row.{Row}
use Rattle.symbolic_plans.specs.Plans.{Plan, prefix, internal, termination, below, hidden, handed_on, together, put_row}
use Rattle.node_trees.specs.Rests.{slots_of, does_of, done_in, remainder_of, left_in, left_beside, Fills, IsWayOf}
use Rattle.node_trees.proofs.Listing.{slots_first}
use Rattle.node_steps.specs.Parts.{own_or}
use Rattle.node_steps.specs.declared.turn.Entered.{Entered}
use Rattle.node_steps.specs.declared.turn.Turn.{Turn}
use Rattle.node_steps.specs.Blanks.{blank_tree, chosen_by, width, IsTreeOf, DoesNothingBy}
use Rattle.node_steps.specs.Frames.{Surrounding, surrounding_of, Makes, standing}
use Rattle.node_steps.specs.Turns.{Agrees, LeafTurnsOr, TurnsAt, NoTurn, TurnsOr, Enters, EntersOr, EntersHidden, EntersEnding, NoneWithin, WithinOr, LeavesOr}
use Rattle.node_steps.proofs.Parting.{parted, part_there, has_value}
use Rattle.node_steps.proofs.Filling.{tree_filled, tree_among, tree_width}

-- so many slots
abbrev some_slots : ℕ → List Slot
some_slots zero = []
some_slots (suc n) = Blank ∷ some_slots n

so_many : (n : ℕ) → length (some_slots n) ≡ n
so_many zero = refl
so_many (suc n) = ap (λ k. suc k) (so_many n)

module _ (program : Program) (executable : IsExecutable program.theory) where
  -- with other values, which are the same
  agrees_at : (chosen other : List Slot) (t : Turn) (a : Action) (c : Behaviour) → chosen ≡ other → Agrees program chosen t a c →
      Agrees program other t a c
  agrees_at chosen other t a c e h = subst (λ l. Agrees program l t a c) e h

  pub prefix_turns : (from : ℕ) (s : Assignment) (b : Behaviour) (takes : List Bool) (r : Option Turn) → LeafTurnsOr program from s b pre r →
      TurnsOr program from s b (prefix takes) r
  prefix_turns from s b takes None h = record {
    none = λ d a c tree k. h.none tree.0 a c (subst (λ (z : Derivation). DerivesWith program s b z a c) tree.1 k);
  }
  prefix_turns from s b takes (Some t) h = record {
    closed = tt;
    turns = λ before after d a c l tree k.
        agrees_at (before ++ (tree.0 ++ after)) (before ++ (slots_of d ++ after)) t a c
        (ap (λ (z : Derivation). before ++ (slots_of z ++ after)) (sym tree.1))
        (h.turns before after tree.0 a c l (subst (λ (z : Derivation). DerivesWith program s b z a c) tree.1 k));
  }

  pub exit_turns : (from : ℕ) (s : Assignment) (b : Behaviour) (takes : List Bool) (r : Option Turn) → LeafTurnsOr program from s b exiting r →
      TurnsOr program from s b (termination takes) r
  exit_turns from s b takes None h = record {
    none = λ d a c tree k. h.none tree.0 a c (subst (λ (z : Derivation). DerivesWith program s b z a c) tree.1 k);
  }
  exit_turns from s b takes (Some t) h = record {
    closed = tt;
    turns = λ before after d a c l tree k.
        agrees_at (before ++ (tree.0 ++ after)) (before ++ (slots_of d ++ after)) t a c
        (ap (λ (z : Derivation). before ++ (slots_of z ++ after)) (sym tree.1))
        (h.turns before after tree.0 a c l (subst (λ (z : Derivation). DerivesWith program s b z a c) tree.1 k));
  }

  pub inner_turns : (from : ℕ) (s : Assignment) (b : Behaviour) (r : Option Turn) → LeafTurnsOr program from s b (λ slots. int) r →
      TurnsOr program from s b internal r
  inner_turns from s b None h = record {
    none = λ d a c tree k. h.none [] a c (subst (λ (z : Derivation). DerivesWith program s b z a c) tree k);
  }
  inner_turns from s b (Some t) h = record {
    closed = tt;
    turns = λ before after d a c l tree k.
        agrees_at (before ++ ([] ++ after)) (before ++ (slots_of d ++ after)) t a c
        (ap (λ (z : Derivation). before ++ (slots_of z ++ after)) (sym tree))
        (h.turns before after [] a c l (subst (λ (z : Derivation). DerivesWith program s b z a c) tree k));
  }

  -- what is done and left of a part that was entered, and then of the whole
  pub within_turns : (values : List (ℕ × List ℕ)) (from : ℕ) (x : Entered) (p : Plan) (t : Turn) (r : Option Turn) →
      TurnsAt program from (assignment program.theory (own_or values x.values)) (standing program x.site) p t →
      LeavesOr program values (surrounding_of program x.frame) t r → WithinOr program from values (Some x) p r
  within_turns values from x p t None h leaves = record {
    none = λ d e a f c tree k makes.
        leaves.none (some_slots from ++ (slots_of d ++ [])) e a f c (h.turns (some_slots from) [] d e f (so_many from) tree k) makes;
  }
  within_turns values from x p t (Some u) h leaves = record {
    closed = h.closed;
    within = λ before after d e a f c l tree k makes.
        leaves.leaves (before ++ (slots_of d ++ after)) e a f c (h.turns before after d e f l tree k) makes;
  }

  pub none_within : (values : List (ℕ × List ℕ)) (x : Entered) (p : Plan) →
      NoTurn program (assignment program.theory (own_or values x.values)) (standing program x.site) p → NoneWithin program values x p
  none_within values x p h = record { none = λ d e a f c tree k makes. h.none d e f tree k }

  -- the same under a rule
  entered : (row : Row) (b : Behaviour) (values : List (ℕ × List ℕ)) (x : Entered) (d : Derivation) (a : Action) (c : Behaviour) →
      Enters program row values b x → DerivesWith program (assignment program.theory values) b (put_row row d) a c →
      (e : Action) × (f : Behaviour) × DerivesWith program (assignment program.theory (own_or values x.values)) (standing program x.site) d e f ×
      Makes program (assignment program.theory values) (surrounding_of program x.frame) e f a c
  entered row b values x d a c h k =
      let s = assignment program.theory values in
      let t = assignment program.theory (own_or values x.values) in
      let z = parted program executable row b s (λ u q. (u ≡ t) × (q ≡ standing program x.site)) d a c k h.part in (
        z.3,
        z.4,
        subst (λ (q : Behaviour). DerivesWith program t q d z.3 z.4) z.2.1
            (subst (λ (u : Assignment). DerivesWith program u z.1 d z.3 z.4) z.2.0 z.5),
        subst (λ (g : Surrounding). Makes program s g z.3 z.4 a c) (sym h.round) z.6,
      )

  pub under_turns : (row : Row) (b : Behaviour) (values : List (ℕ × List ℕ)) (from later : ℕ) (p : Plan) (o : Option Entered)
      (r : Option Turn) → later ≡ from + length (chosen_by row) → EntersOr program row values b o → WithinOr program later values o p r →
      TurnsOr program from (assignment program.theory values) b (below row p) r
  under_turns row b values from later p None None e h w = record {
    none = λ d a c tree k.
        h.none
        (part_there program executable row b (assignment program.theory values) tree.0 a c
        (subst (λ (z : Derivation). DerivesWith program (assignment program.theory values) b z a c) tree.1 k));
  }
  under_turns row b values from later p None (Some t) e h w = absurd w
  under_turns row b values from later p (Some x) None e h w = record {
    none = λ d a c tree k.
        let z = entered row b values x tree.0 a c h
        (subst (λ (z : Derivation). DerivesWith program (assignment program.theory values) b z a c) tree.1 k) in
        w.none tree.0 z.0 a z.1 c tree.2 z.2 z.3;
  }
  under_turns row b values from later p (Some x) (Some t) e h w = record {
    closed = (
      has_value program row b (assignment program.theory values)
          (λ u q. (u ≡ assignment program.theory (own_or values x.values)) × (q ≡ standing program x.site)) h.part,
      w.closed,
    );
    turns = λ before after d a c l tree k.
        let z = entered row b values x tree.0 a c h
        (subst (λ (z : Derivation). DerivesWith program (assignment program.theory values) b z a c) tree.1 k) in
        let slots : slots_of d ≡ chosen_by row ++ slots_of tree.0 = ap (λ (z : Derivation). slots_of z) tree.1 ∙ slots_first row tree.0 in
        let count : length (before ++ chosen_by row) ≡ later = length-append before (chosen_by row) ∙ omega (arith, l, e) in
        agrees_at ((before ++ chosen_by row) ++ (slots_of tree.0 ++ after)) (before ++ (slots_of d ++ after)) t a c
        (append_assoc before (chosen_by row) (slots_of tree.0 ++ after)
        ∙ ap (λ (m : List Slot). before ++ m) (sym (append_assoc (chosen_by row) (slots_of tree.0) after))
        ∙ ap (λ (m : List Slot). before ++ (m ++ after)) (sym slots))
        (w.within (before ++ chosen_by row) after tree.0 z.0 a z.1 c count tree.2 z.2 z.3);
  }

  -- the same of a hiding whose body acts at a hidden gate
  in_hiding : (b : Behaviour) (values : List (ℕ × List ℕ)) (x : Entered) (d : Derivation) (a : Action) (c : Behaviour) →
      EntersHidden program values b (Some x) → DerivesWith program (assignment program.theory values) b (hiding d) a c →
      (e : Action) × (f : Behaviour) × DerivesWith program (assignment program.theory (own_or values x.values)) (standing program x.site) d e f ×
      Makes program (assignment program.theory values) (surrounding_of program x.frame) e f a c
  in_hiding (hide gates body) values x d a c h k =
      let s = assignment program.theory values in
      let t = assignment program.theory (own_or values x.values) in (
        doing k.0 k.1,
        k.2,
        subst (λ (q : Behaviour). DerivesWith program t q d (doing k.0 k.1) k.2) h.2
            (subst (λ (u : Assignment). DerivesWith program u body d (doing k.0 k.1) k.2) h.1 k.3),
        subst (λ (g : Surrounding). Makes program s g (doing k.0 k.1) k.2 a c) (sym h.0) (k.5, k.6),
      )
  in_hiding _ values x d a c h k = absurd k

  hiding_there : (b : Behaviour) (s : Assignment) (d : Derivation) (a : Action) (c : Behaviour) → DerivesWith program s b (hiding d) a c →
      OnHide b (λ gates body. Unit {0})
  hiding_there (hide gates body) s d a c k = tt
  hiding_there _ s d a c k = absurd k

  pub hidden_turns : (b : Behaviour) (values : List (ℕ × List ℕ)) (from : ℕ) (fields : List OpenField) (p : Plan) (o : Option Entered)
      (r : Option Turn) → EntersHidden program values b o → WithinOr program from values o p r →
      TurnsOr program from (assignment program.theory values) b (hidden fields p) r
  hidden_turns b values from fields p None None h w = record {
    none = λ d a c tree k.
        h
        (hiding_there b (assignment program.theory values) tree.0 a c
        (subst (λ (z : Derivation). DerivesWith program (assignment program.theory values) b z a c) tree.1 k));
  }
  hidden_turns b values from fields p None (Some t) h w = absurd w
  hidden_turns b values from fields p (Some x) None h w = record {
    none = λ d a c tree k.
        let z = in_hiding b values x tree.0 a c h
        (subst (λ (z : Derivation). DerivesWith program (assignment program.theory values) b z a c) tree.1 k) in
        w.none tree.0 z.0 a z.1 c tree.2 z.2 z.3;
  }
  hidden_turns b values from fields p (Some x) (Some t) h w = record {
    closed = w.closed;
    turns = λ before after d a c l tree k.
        let z = in_hiding b values x tree.0 a c h
        (subst (λ (z : Derivation). DerivesWith program (assignment program.theory values) b z a c) tree.1 k) in
        agrees_at (before ++ (slots_of tree.0 ++ after)) (before ++ (slots_of d ++ after)) t a c
        (ap (λ (z : Derivation). before ++ (slots_of z ++ after)) (sym tree.1))
        (w.within before after tree.0 z.0 a z.1 c l tree.2 z.2 z.3);
  }

  -- the same of an enabling whose left side terminates
  in_ending : (b : Behaviour) (values : List (ℕ × List ℕ)) (x : Entered) (d : Derivation) (a : Action) (c : Behaviour) →
      EntersEnding program values b (Some x) → DerivesWith program (assignment program.theory values) b (enend d) a c →
      (e : Action) × (f : Behaviour) × DerivesWith program (assignment program.theory (own_or values x.values)) (standing program x.site) d e f ×
      Makes program (assignment program.theory values) (surrounding_of program x.frame) e f a c
  in_ending (enable left xs right) values x d a c h k =
      let s = assignment program.theory values in
      let t = assignment program.theory (own_or values x.values) in (
        Exit k.0,
        k.1,
        subst (λ (q : Behaviour). DerivesWith program t q d (Exit k.0) k.1) h.2
            (subst (λ (u : Assignment). DerivesWith program u left d (Exit k.0) k.1) h.1 k.3),
        subst (λ (g : Surrounding). Makes program s g (Exit k.0) k.1 a c) (sym h.0) (k.0, k.2, refl, k.4, k.5, k.6),
      )
  in_ending _ values x d a c h k = absurd k

  ending_there : (b : Behaviour) (s : Assignment) (d : Derivation) (a : Action) (c : Behaviour) → DerivesWith program s b (enend d) a c →
      OnEnable b (λ left xs right. Unit {0})
  ending_there (enable left xs right) s d a c k = tt
  ending_there _ s d a c k = absurd k

  pub ending_turns : (b : Behaviour) (values : List (ℕ × List ℕ)) (from : ℕ) (fields : List OpenField) (p : Plan) (o : Option Entered)
      (r : Option Turn) → EntersEnding program values b o → WithinOr program from values o p r →
      TurnsOr program from (assignment program.theory values) b (handed_on fields p) r
  ending_turns b values from fields p None None h w = record {
    none = λ d a c tree k.
        h
        (ending_there b (assignment program.theory values) tree.0 a c
        (subst (λ (z : Derivation). DerivesWith program (assignment program.theory values) b z a c) tree.1 k));
  }
  ending_turns b values from fields p None (Some t) h w = absurd w
  ending_turns b values from fields p (Some x) None h w = record {
    none = λ d a c tree k.
        let z = in_ending b values x tree.0 a c h
        (subst (λ (z : Derivation). DerivesWith program (assignment program.theory values) b z a c) tree.1 k) in
        w.none tree.0 z.0 a z.1 c tree.2 z.2 z.3;
  }
  ending_turns b values from fields p (Some x) (Some t) h w = record {
    closed = w.closed;
    turns = λ before after d a c l tree k.
        let z = in_ending b values x tree.0 a c h
        (subst (λ (z : Derivation). DerivesWith program (assignment program.theory values) b z a c) tree.1 k) in
        agrees_at (before ++ (slots_of tree.0 ++ after)) (before ++ (slots_of d ++ after)) t a c
        (ap (λ (z : Derivation). before ++ (slots_of z ++ after)) (sym tree.1))
        (w.within before after tree.0 z.0 a z.1 c l tree.2 z.2 z.3);
  }

  -- two sides that act together
  both_there : (b : Behaviour) (s : Assignment) (d e : Derivation) (a : Action) (c : Behaviour) → DerivesWith program s b (both d e) a c →
      OnParallel b (λ gates left right. Unit {0})
  both_there (parallel gates left right) s d e a c k = tt
  both_there _ s d e a c k = absurd k

  pub no_sides : (s : Assignment) (b : Behaviour) (p q : Plan) → (OnParallel b (λ gates left right. Unit {0}) → ⊥) →
      NoTurn program s b (together p q)
  no_sides s b p q none = record {
    none = λ d a c tree k. none (both_there b s tree.0 tree.1 a c (subst (λ (z : Derivation). DerivesWith program s b z a c) tree.2 k));
  }

  sided : (s : Assignment) (b : Behaviour) (gates : Synchronised) (left right : Behaviour) (p q : Plan) (d : Derivation) (a : Action)
      (c : Behaviour) (tree : IsTreeOf (together p q) d) → b ≡ parallel gates left right → DerivesWith program s b d a c →
      DerivesWith program s (parallel gates left right) (both tree.0 tree.1) a c
  sided s b gates left right p q d a c tree is k =
      subst (λ (z : Behaviour). DerivesWith program s z (both tree.0 tree.1) a c) is
      (subst (λ (z : Derivation). DerivesWith program s b z a c) tree.2 k)

  pub no_left : (s : Assignment) (b : Behaviour) (gates : Synchronised) (left right : Behaviour) (p q : Plan) → b ≡ parallel gates left right →
      NoTurn program s left p → NoTurn program s b (together p q)
  no_left s b gates left right p q is none = record {
    none = λ d a c tree k. let z = sided s b gates left right p q d a c tree is k in none.none tree.0 a z.0 tree.3 z.2;
  }

  pub no_right : (s : Assignment) (b : Behaviour) (gates : Synchronised) (left right : Behaviour) (p q : Plan) →
      b ≡ parallel gates left right → NoTurn program s right q → NoTurn program s b (together p q)
  no_right s b gates left right p q is none = record {
    none = λ d a c tree k. let z = sided s b gates left right p q d a c tree is k in none.none tree.1 a z.1 tree.4 z.3;
  }

  pub both_turns : (s : Assignment) (b : Behaviour) (gates : Synchronised) (left right : Behaviour) (from next : ℕ) (p q : Plan)
      (first second t : Turn) → b ≡ parallel gates left right → next ≡ from + width p →
      TurnsAt program from s left p first → TurnsAt program next s right q second →
      does_of t.action ≡ does_of first.action → remainder_of t.rest ≡ left_beside gates (remainder_of first.rest) (remainder_of second.rest) →
      TurnsAt program from s b (together p q) t
  both_turns s b gates left right from next p q first second t is place h k same rest = record {
    closed = (h.closed, k.closed);
    turns = λ before after d a c l tree derives.
        let z = sided s b gates left right p q d a c tree is derives in
        let slots : slots_of d ≡ slots_of tree.0 ++ slots_of tree.1 = ap (λ (z : Derivation). slots_of z) tree.2 in
        let chosen : before ++ (slots_of tree.0 ++ (slots_of tree.1 ++ after)) ≡ before ++ (slots_of d ++ after) =
        ap (λ (m : List Slot). before ++ m) (sym (append_assoc (slots_of tree.0) (slots_of tree.1) after))
        ∙ ap (λ (m : List Slot). before ++ (m ++ after)) (sym slots) in
        let count : length (before ++ slots_of tree.0) ≡ next =
        length-append before (slots_of tree.0) ∙ omega (arith, l, place, tree_width p tree.0 tree.3) in
        let one = agrees_at (before ++ (slots_of tree.0 ++ (slots_of tree.1 ++ after))) (before ++ (slots_of d ++ after)) first a z.0 chosen
        (h.turns before (slots_of tree.1 ++ after) tree.0 a z.0 l tree.3 z.2) in
        let two = agrees_at ((before ++ slots_of tree.0) ++ (slots_of tree.1 ++ after)) (before ++ (slots_of d ++ after)) second a z.1
        (append_assoc before (slots_of tree.0) (slots_of tree.1 ++ after) ∙ chosen)
        (k.turns (before ++ slots_of tree.0) after tree.1 a z.1 count tree.4 z.3) in
        let all = before ++ (slots_of d ++ after) in
        record {
          action = one.action ∙ ap (done_in all) (sym same);
          rest =
              z.5
              ∙ ap (λ (m : Behaviour). parallel gates m z.1) one.rest
              ∙ ap (parallel gates (left_in program all (remainder_of first.rest))) two.rest
              ∙ ap (left_in program all) (sym rest);
        };
  }

  -- at the root
  pub way_is : (values : List (ℕ × List ℕ)) (b : Behaviour) (p : Plan) (t : Turn) (rules : Derivation) →
      TurnsAt program 0 (assignment program.theory values) b p t → rules ≡ blank_tree p →
      IsWayOf program (put (assignment program.theory values) b)
      (record { rules = rules; action = does_of t.action; rest = remainder_of t.rest })
  way_is values b p t rules h is d a c fills k =
      let s = assignment program.theory values in
      let tree = tree_filled p d h.closed (subst (λ (z : Derivation). Fills z d) is fills) in
      let derives = (closed_behaviours_act program s (values_close program.theory values) b d a c).1 k in
      let r = agrees_at ([] ++ (slots_of d ++ [])) (slots_of d) t a c (append-nil (slots_of d)) (h.turns [] [] d a c refl tree derives) in
      (r.action, r.rest)

  pub none_is : (values : List (ℕ × List ℕ)) (b : Behaviour) (p : Plan) → NoTurn program (assignment program.theory values) b p →
      DoesNothingBy program (put (assignment program.theory values) b) p
  none_is values b p h w slots d a c among k =
      h.none d a c (tree_among program.theory w p slots d among)
      ((closed_behaviours_act program (assignment program.theory values) (values_close program.theory values) b d a c).1 k)
