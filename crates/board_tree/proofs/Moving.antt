-- Steps of operators over nodes.
use Rattle.std.proofs.Common.{ℕ, ◌≡◌, ⊎_elim, List, [], ◌∷◌, ◌++◌, Bool, true, false, Some, None, refl, sym, ap, subst, ◌∙◌}
use Rattle.spec_core.specs.Code.{Program, Variable, Relabelling, Synchronised}
use Rattle.spec_core.specs.Terms.{variable}
use Rattle.rule_model.specs.declared.action.Action.{Action}
use Rattle.rule_model.specs.declared.action.Action.TheVariants.{Inner, Exit}
use Rattle.rule_model.specs.Actions.{doing, kind_of, IsNoEnd, renamed_action}
use Rattle.rule_model.specs.Behaviours.{Behaviour, parallel, hide, enable, disable, relabel}
use Rattle.rule_model.specs.Derivations.{Derivation, chl, chr, parl, parr, both, hiding, pass, enstep, enend, disstep, disend, distake}
use Rattle.rule_model.specs.Derivations.{rel}
use Rattle.rule_model.specs.Substitution.{put, without, tidied}
use Rattle.rule_origins.specs.Parts.{behaviour_at}
use Rattle.rule_origins.specs.Values.{assignment, values_for}
use Rattle.rule_origins.proofs.Handing.{handed_on_values_join}
use Rattle.rule_laws.proofs.Nothing.{empty_many, empty_substitutions_change_nothing}
use Rattle.node_trees.specs.Generations.{IsFresh}
use Rattle.node_trees.specs.Origins.{scoped, meaning}
use Rattle.node_trees.specs.Rests.{Way, Work, Fills, slots_of, done_in, left_in}
use Rattle.node_trees.specs.Shapes.{Held, Shape, leaf, ended, over, between, Unary, hidden, relabelled, enabled, Binary, choosing, beside}
use Rattle.node_trees.specs.Shapes.{disabling}
use Rattle.node_trees.specs.Shapes.{under, first_of, second_of, stands_for, IsRight, IsWorkOf}
use Rattle.node_trees.specs.Constructs.{IsLeaf, IsTidy}
use Rattle.board_tree.specs.declared.side.Side.{Side}
use Rattle.board_tree.specs.declared.side.Side.TheVariants.{Left, Right}
use Rattle.board_tree.specs.declared.side.Taking.{Taking}
use Rattle.board_tree.specs.declared.side.Taking.TheVariants.{ChoiceLeft, ChoiceRight, DisablingEnd, DisablingTaken}
use Rattle.board_tree.specs.Keeping.{Goes, IsUntouched}
use Rattle.board_tree.specs.Sides.{alone_at, hidden_action, hidden_by, joined_at, taken_by, taken_from}
use Rattle.board_tree.specs.Steps.{IsDone, Follows, Becomes, Moves, Acts, Suits}
use Rattle.board_tree.proofs.Going.{fresh_goes, over_goes, both_go, first_goes, second_goes, fresh_after_over}
use Rattle.board_tree.proofs.Going.{fresh_after_first, fresh_after_second}
use Rattle.board_tree.proofs.Untouched.{never_in_leaf, never_in_left_choice, never_in_right_choice, never_enabled, never_ended}
use Rattle.board_tree.proofs.Untouched.{never_taken, never_unsuited, never_tidied, tidy_unrelabelled}

module _ (program : Program) where
  -- what stays is closed
  put_nothing : (b : Behaviour) → put variable b ≡ b
  put_nothing b = empty_substitutions_change_nothing variable (λ x. refl) b

  put_nothing_without : (xs : List Variable) (b : Behaviour) → put (without xs variable) b ≡ b
  put_nothing_without xs b = empty_substitutions_change_nothing (without xs variable) (empty_many xs variable (λ x. refl)) b

  right_over : (o : Unary) (x : Shape) → IsRight program (over o x) → IsRight program x
  right_over o x r up n s = r (under o ∷ up) n (refl, s)

  right_first : (o : Binary) (x y : Shape) → IsRight program (between o x y) → IsRight program x
  right_first o x y r up n s = r (first_of o ∷ up) n (refl, s)

  right_second : (o : Binary) (x y : Shape) → IsRight program (between o x y) → IsRight program y
  right_second o x y r up n s = r (second_of o ∷ up) n (refl, s)

  becomes_at : (s t u v : Shape) (d : Derivation) (a : Action) → s ≡ u → t ≡ v → Becomes program u d a v → Becomes program s d a t
  becomes_at s t u v d a e f b =
      subst (λ z. Becomes program z d a t) (sym e) (subst (λ z. Becomes program u d a z) (sym f) b)

  same_action : (s t : Shape) (d : Derivation) (a b : Action) → b ≡ a → Becomes program s d a t → Becomes program s d b t
  same_action s t d a b k m = subst (λ v. Becomes program s d v t) (sym k) m

  -- One lemma for each row: what the operator becomes where its parts do.

  choice_left : (x y z t : Shape) (d : Derivation) (a : Action) → stands_for program t ≡ stands_for program z → Becomes program x d a z →
      Becomes program (between choosing x y) (chl d) a t
  choice_left x y z t d a i m = record {
    becomes = λ right follows e c h. let r = m.becomes (right_first choosing x y right) follows e c h in (r.0, r.1 ∙ sym i);
  }

  choice_right : (x y z t : Shape) (d : Derivation) (a : Action) → stands_for program t ≡ stands_for program z → Becomes program y d a z →
      Becomes program (between choosing x y) (chr d) a t
  choice_right x y z t d a i m = record {
    becomes = λ right follows e c h. let r = m.becomes (right_second choosing x y right) follows e c h in (r.0, r.1 ∙ sym i);
  }

  left_alone : (gates : Synchronised) (x y z : Shape) (d : Derivation) (a : Action) → Becomes program x d a z →
      Becomes program (between (beside gates) x y) (parl d) a (between (beside gates) z y)
  left_alone gates x y z d a m = record {
    becomes = λ right follows e c h.
        let r = m.becomes (right_first (beside gates) x y right) follows e h.0 h.1 in (
          r.0,
          h.3
              ∙ ap (λ b. parallel gates b (put variable (stands_for program y))) r.1
              ∙ ap (parallel gates (stands_for program z)) (put_nothing (stands_for program y)),
        );
  }

  right_alone : (gates : Synchronised) (x y w : Shape) (d : Derivation) (a : Action) → Becomes program y d a w →
      Becomes program (between (beside gates) x y) (parr d) a (between (beside gates) x w)
  right_alone gates x y w d a m = record {
    becomes = λ right follows e c h.
        let r = m.becomes (right_second (beside gates) x y right) follows e h.0 h.1 in (
          r.0,
          h.3
              ∙ ap (λ b. parallel gates b h.0) (put_nothing (stands_for program x))
              ∙ ap (parallel gates (stands_for program x)) r.1,
        );
  }

  both_together : (gates : Synchronised) (x y z w : Shape) (d k : Derivation) (a b : Action) → Becomes program x d a z →
      Becomes program y k b w →
      Becomes program (between (beside gates) x y) (both d k) a (between (beside gates) z w)
  both_together gates x y z w d k a b m n = record {
    becomes = λ right follows e c h.
        let r = m.becomes (right_first (beside gates) x y right) follows.0 e h.0 h.2 in
        let q = n.becomes (right_second (beside gates) x y right) follows.1 e h.1 h.3 in
        (r.0, h.5 ∙ ap (λ f. parallel gates f h.1) r.1 ∙ ap (parallel gates (stands_for program z)) q.1);
  }

  hidden_inside : (gates : List ℕ) (x z : Shape) (d : Derivation) (a : Action) → Becomes program x d a z →
      Becomes program (over (hidden gates) x) (hiding d) Inner (over (hidden gates) z)
  hidden_inside gates x z d a m = record {
    becomes = λ right follows e c h.
        let r = m.becomes (right_over (hidden gates) x right) follows (doing h.0 h.1) h.2 h.3 in (h.5, h.6 ∙ ap (hide gates) r.1);
  }

  let_pass : (gates : List ℕ) (x z : Shape) (d : Derivation) (a : Action) → Becomes program x d a z →
      Becomes program (over (hidden gates) x) (pass d) a (over (hidden gates) z)
  let_pass gates x z d a m = record {
    becomes = λ right follows e c h.
        let r = m.becomes (right_over (hidden gates) x right) follows e h.0 h.1 in (r.0, h.3 ∙ ap (hide gates) r.1);
  }

  renamed_step : (pairs : List Relabelling) (x z t : Shape) (d : Derivation) (a b : Action) → b ≡ renamed_action pairs a →
      stands_for program t ≡ tidied pairs (stands_for program z) → Becomes program x d a z →
      Becomes program (over (relabelled pairs) x) (rel d) b t
  renamed_step pairs x z t d a b k i m = record {
    becomes = λ right follows e c h.
        let r = m.becomes (right_over (relabelled pairs) x right) follows h.0 h.1 h.2 in
        (h.3 ∙ ap (renamed_action pairs) r.0 ∙ sym k, h.4 ∙ ap (tidied pairs) r.1 ∙ sym i);
  }

  enabling_step : (xs : List Variable) (node : ℕ) (values : List (ℕ × List ℕ)) (x z : Shape) (d : Derivation) (a : Action) →
      Becomes program x d a z →
      Becomes program (over (enabled xs node values) x) (enstep d) a (over (enabled xs node values) z)
  enabling_step xs node values x z d a m = record {
    becomes = λ right follows e c h.
        let rest = put (without xs (assignment program.theory values)) (behaviour_at program node) in
        let r = m.becomes (right_over (enabled xs node values) x right) follows e h.0 h.1 in (
          r.0,
          h.3
              ∙ ap (λ b. enable b xs (put (without xs variable) rest)) r.1
              ∙ ap (enable (stands_for program z) xs) (put_nothing_without xs rest),
        );
  }

  exits_one : (v w : List (List ℕ)) → Exit v ≡ Exit w → v ≡ w
  exits_one v w e = cc

  enabling_end : (xs : List Variable) (node : ℕ) (values : List (ℕ × List ℕ)) (x z t : Shape) (d : Derivation) (handed : List (List ℕ)) →
      stands_for program t ≡ scoped program node (values ++ values_for xs handed) → Becomes program x d (Exit handed) z →
      Becomes program (over (enabled xs node values) x) (enend d) Inner t
  enabling_end xs node values x z t d handed i m = record {
    becomes = λ right follows e c h.
        let r = m.becomes (right_over (enabled xs node values) x right) follows (Exit h.0) h.1 h.3 in (
          h.4,
          h.6
              ∙ handed_on_values_join program.theory values xs h.0 h.2 h.5 (behaviour_at program node)
              ∙ ap (λ v. scoped program node (values ++ values_for xs v)) (exits_one h.0 handed r.0)
              ∙ sym i,
        );
  }

  -- where the left side doesn't terminate nothing is said
  no_end : (xs : List Variable) (node : ℕ) (values : List (ℕ × List ℕ)) (x z t : Shape) (d : Derivation) (a b : Action) →
      ((v : List (List ℕ)) → Exit v ≡ a → ⊥) → Becomes program x d a z →
      Becomes program (over (enabled xs node values) x) (enend d) b t
  no_end xs node values x z t d a b never m = record {
    becomes = λ right follows e c h.
        let r = m.becomes (right_over (enabled xs node values) x right) follows (Exit h.0) h.1 h.3 in absurd (never h.0 r.0);
  }

  disabling_step : (x y z : Shape) (d : Derivation) (a : Action) → Becomes program x d a z →
      Becomes program (between disabling x y) (disstep d) a (between disabling z y)
  disabling_step x y z d a m = record {
    becomes = λ right follows e c h.
        let r = m.becomes (right_first disabling x y right) follows e h.0 h.1 in (
          r.0,
          h.3
              ∙ ap (λ b. disable b (put variable (stands_for program y))) r.1
              ∙ ap (disable (stands_for program z)) (put_nothing (stands_for program y)),
        );
  }

  disabling_end : (x y z t : Shape) (d : Derivation) (a : Action) → stands_for program t ≡ stands_for program z →
      Becomes program x d a z →
      Becomes program (between disabling x y) (disend d) a t
  disabling_end x y z t d a i m = record {
    becomes = λ right follows e c h. let r = m.becomes (right_first disabling x y right) follows e c h.0 in (r.0, r.1 ∙ sym i);
  }

  disabling_taken : (x y z t : Shape) (d : Derivation) (a : Action) → stands_for program t ≡ stands_for program z →
      Becomes program y d a z →
      Becomes program (between disabling x y) (distake d) a t
  disabling_taken x y z t d a i m = record {
    becomes = λ right follows e c h. let r = m.becomes (right_second disabling x y right) follows e c h in (r.0, r.1 ∙ sym i);
  }

  -- a tree of rules that follows an operator has its rule
  follows_suits : (s : Shape) (d : Derivation) → (IsLeaf s → ⊥) → Follows s d → Suits d s
  follows_suits (leaf n) d l f = absurd (l tt)
  follows_suits (between choosing x y) (chl d) l f = tt
  follows_suits (between choosing x y) (chr d) l f = tt
  follows_suits (between (beside gates) x y) (parl d) l f = tt
  follows_suits (between (beside gates) x y) (parr d) l f = tt
  follows_suits (between (beside gates) x y) (both d e) l f = tt
  follows_suits (over (hidden gates) x) (hiding d) l f = tt
  follows_suits (over (hidden gates) x) (pass d) l f = tt
  follows_suits (over (enabled xs node values) x) (enstep d) l f = tt
  follows_suits (over (enabled xs node values) x) (enend d) l f = tt
  follows_suits (between disabling x y) (disstep d) l f = tt
  follows_suits (between disabling x y) (disend d) l f = tt
  follows_suits (between disabling x y) (distake d) l f = tt
  follows_suits (over (relabelled pairs) x) (rel d) l f = tt
  follows_suits _ _ l f = absurd f

  pub unsuited : (low high : ℕ) (s t : Shape) (d : Derivation) (a : Action) → (IsLeaf s → ⊥) → (Suits d s → ⊥) →
      IsFresh low high t → Moves program s d a t low high
  unsuited low high s t d a l n f = record {
    becomes = record { becomes = λ right follows. absurd (n (follows_suits s d l follows)) };
    goes = fresh_goes (IsUntouched d) low high s t (never_unsuited d s n) f;
  }

  -- a tidy tree stays under a relabelling
  tidy_relabels : (pairs : List Relabelling) (z : Shape) → IsTidy z →
      tidied pairs (stands_for program z) ≡ relabel pairs (stands_for program z)
  tidy_relabels pairs ended t = refl
  tidy_relabels pairs (over (hidden gates) x) t = refl
  tidy_relabels pairs (over (enabled xs node values) x) t = refl
  tidy_relabels pairs (between choosing x y) t = refl
  tidy_relabels pairs (between (beside gates) x y) t = refl
  tidy_relabels pairs (between disabling x y) t = refl
  tidy_relabels pairs _ t = absurd t

  -- Rows with their generations.

  -- what is left of an operator whose part acts
  takes : (taking : Taking) (x y z t : Shape) (d : Derivation) (a : Action) → stands_for program t ≡ stands_for program z →
      Becomes program x d a z → Becomes program (taken_from taking x y) (taken_by taking d) a t
  takes ChoiceLeft x y z t d a i m = choice_left x y z t d a i m
  takes ChoiceRight x y z t d a i m = choice_right y x z t d a i m
  takes DisablingEnd x y z t d a i m = disabling_end x y z t d a i m
  takes DisablingTaken x y z t d a i m = disabling_taken y x z t d a i m

  pub moves_taken : (taking : Taking) (low mid high : ℕ) (x y z s t : Shape) (d : Derivation) (a b : Action) →
      b ≡ a → s ≡ taken_from taking x y → Moves program x d a z low mid → stands_for program t ≡ stands_for program z →
      IsFresh mid high t → Moves program s (taken_by taking d) b t low high
  moves_taken taking low mid high x y z s t d a b k e m i f = record {
    becomes =
        becomes_at s t (taken_from taking x y) t (taken_by taking d) b e refl (takes taking x y z t d b i (same_action x z d a b k m.becomes));
    goes = goes_on taking e;
  }
    where
      goes_on : (by : Taking) → s ≡ taken_from by x y → Goes (IsUntouched (taken_by by d)) low high s t
      goes_on ChoiceLeft is =
          fresh_after_first (IsUntouched (chl d)) (IsUntouched d) low mid high choosing x y z s t is
          (never_in_left_choice d s) m.goes f
      goes_on ChoiceRight is =
          fresh_after_second (IsUntouched (chr d)) (IsUntouched d) low mid high choosing y x z s t is
          (never_in_right_choice d s) m.goes f
      goes_on DisablingEnd is =
          fresh_after_first (IsUntouched (disend d)) (IsUntouched d) low mid high disabling x y z s t is (never_ended d s)
          m.goes f
      goes_on DisablingTaken is =
          fresh_after_second (IsUntouched (distake d)) (IsUntouched d) low mid high disabling y x z s t is (never_taken d s)
          m.goes f

  moves_left_alone : (low high : ℕ) (gates : Synchronised) (x y z s t : Shape) (d : Derivation) (a : Action) →
      s ≡ between (beside gates) x y → t ≡ between (beside gates) z y →
      Moves program x d a z low high → Moves program s (parl d) a t low high
  moves_left_alone low high gates x y z s t d a e f m = record {
    becomes =
        becomes_at s t (between (beside gates) x y) (between (beside gates) z y) (parl d) a e f (left_alone gates x y z d a m.becomes);
    goes = first_goes (IsUntouched (parl d)) (IsUntouched d) low high (beside gates) x y z s t e f (record {
      into_first = λ up u. u;
      from_first = λ up u. u;
      into_second = λ up u. tt;
      from_second = λ up u. tt;
    }) m.goes;
  }

  moves_right_alone : (low high : ℕ) (gates : Synchronised) (x y w s t : Shape) (d : Derivation) (a : Action) →
      s ≡ between (beside gates) x y → t ≡ between (beside gates) x w →
      Moves program y d a w low high → Moves program s (parr d) a t low high
  moves_right_alone low high gates x y w s t d a e f m = record {
    becomes =
        becomes_at s t (between (beside gates) x y) (between (beside gates) x w) (parr d) a e f (right_alone gates x y w d a m.becomes);
    goes = second_goes (IsUntouched (parr d)) (IsUntouched d) low high (beside gates) x y w s t e f (record {
      into_first = λ up u. tt;
      from_first = λ up u. tt;
      into_second = λ up u. u;
      from_second = λ up u. u;
    }) m.goes;
  }

  pub moves_alone : (side : Side) (low high : ℕ) (gates : Synchronised) (x y z s t : Shape) (d : Derivation) (a : Action) →
      s ≡ joined_at side (beside gates) x y → t ≡ joined_at side (beside gates) z y → Moves program x d a z low high →
      Moves program s (alone_at side d) a t low high
  moves_alone Left low high gates x y z s t d a e f m = moves_left_alone low high gates x y z s t d a e f m
  moves_alone Right low high gates x y z s t d a e f m = moves_right_alone low high gates y x z s t d a e f m

  pub moves_both : (low mid high : ℕ) (gates : Synchronised) (x y z w s t : Shape) (d k : Derivation) (a b : Action) →
      s ≡ between (beside gates) x y → t ≡ between (beside gates) z w → Moves program x d a z low mid → Moves program y k b w mid high →
      Moves program s (both d k) a t low high
  moves_both low mid high gates x y z w s t d k a b e f m n = record {
    becomes =
        becomes_at s t (between (beside gates) x y) (between (beside gates) z w) (both d k) a e f
        (both_together gates x y z w d k a b m.becomes n.becomes);
    goes =
        both_go (IsUntouched (both d k)) (IsUntouched d) (IsUntouched k) low mid high (beside gates) x y z w s t e f
        (record {
          into_first = λ up u. u;
          from_first = λ up u. u;
          into_second = λ up u. u;
          from_second = λ up u. u;
        }) m.goes n.goes;
  }

  moves_hidden : (low high : ℕ) (gates : List ℕ) (x z s t : Shape) (d : Derivation) (a : Action) → s ≡ over (hidden gates) x →
      t ≡ over (hidden gates) z → Moves program x d a z low high → Moves program s (hiding d) Inner t low high
  moves_hidden low high gates x z s t d a e f m = record {
    becomes = becomes_at s t (over (hidden gates) x) (over (hidden gates) z) (hiding d) Inner e f (hidden_inside gates x z d a m.becomes);
    goes =
        over_goes (IsUntouched (hiding d)) (IsUntouched d) low high (hidden gates) x z s t e f (λ up n a u. u) (λ up u. u)
        m.goes;
  }

  moves_passed : (low high : ℕ) (gates : List ℕ) (x z s t : Shape) (d : Derivation) (a : Action) → s ≡ over (hidden gates) x →
      t ≡ over (hidden gates) z → Moves program x d a z low high → Moves program s (pass d) a t low high
  moves_passed low high gates x z s t d a e f m = record {
    becomes = becomes_at s t (over (hidden gates) x) (over (hidden gates) z) (pass d) a e f (let_pass gates x z d a m.becomes);
    goes =
        over_goes (IsUntouched (pass d)) (IsUntouched d) low high (hidden gates) x z s t e f (λ up n a u. u) (λ up u. u)
        m.goes;
  }

  pub moves_hiding : (hides : Bool) (low high : ℕ) (gates : List ℕ) (x z s t : Shape) (d : Derivation) (a b : Action) →
      b ≡ hidden_action hides a → s ≡ over (hidden gates) x → t ≡ over (hidden gates) z → Moves program x d a z low high →
      Moves program s (hidden_by hides d) b t low high
  moves_hiding true low high gates x z s t d a b k e f m =
      subst (λ c. Moves program s (hiding d) c t low high) (sym k) (moves_hidden low high gates x z s t d a e f m)
  moves_hiding false low high gates x z s t d a b k e f m =
      subst (λ c. Moves program s (pass d) c t low high) (sym k) (moves_passed low high gates x z s t d a e f m)

  pub moves_relabelled : (low high : ℕ) (pairs : List Relabelling) (x z s t : Shape) (d : Derivation) (a b : Action) →
      s ≡ over (relabelled pairs) x → t ≡ over (relabelled pairs) z → b ≡ renamed_action pairs a → IsTidy z →
      Moves program x d a z low high → Moves program s (rel d) b t low high
  moves_relabelled low high pairs x z s t d a b e f k i m = record {
    becomes =
        becomes_at s t (over (relabelled pairs) x) t (rel d) b e refl
        (renamed_step pairs x z t d a b k (ap (stands_for program) f ∙ sym (tidy_relabels pairs z i)) m.becomes);
    goes =
        over_goes (IsUntouched (rel d)) (IsUntouched d) low high (relabelled pairs) x z s t e f
        (λ up n a u. (u, tidy_unrelabelled z up n i a)) (λ up u. u.0) m.goes;
  }

  pub moves_tidied : (low mid high : ℕ) (pairs : List Relabelling) (x z s t : Shape) (d : Derivation) (a b : Action) →
      s ≡ over (relabelled pairs) x → b ≡ renamed_action pairs a → (IsTidy z → ⊥) → Moves program x d a z low mid →
      stands_for program t ≡ tidied pairs (stands_for program z) → IsFresh mid high t → Moves program s (rel d) b t low high
  moves_tidied low mid high pairs x z s t d a b e k untidy m i f = record {
    becomes = becomes_at s t (over (relabelled pairs) x) t (rel d) b e refl (renamed_step pairs x z t d a b k i m.becomes);
    goes =
        fresh_after_over (IsUntouched (rel d)) (IsUntouched d) low mid high (relabelled pairs) x z s t e
        (never_tidied pairs x z s d e untidy) m.goes f;
  }

  pub moves_enabling : (low high : ℕ) (xs : List Variable) (node : ℕ) (values : List (ℕ × List ℕ)) (x z s t : Shape) (d : Derivation)
      (a : Action) → s ≡ over (enabled xs node values) x → t ≡ over (enabled xs node values) z → Moves program x d a z low high →
      Moves program s (enstep d) a t low high
  moves_enabling low high xs node values x z s t d a e f m = record {
    becomes =
        becomes_at s t (over (enabled xs node values) x) (over (enabled xs node values) z) (enstep d) a e f
        (enabling_step xs node values x z d a m.becomes);
    goes =
        over_goes (IsUntouched (enstep d)) (IsUntouched d) low high (enabled xs node values) x z s t e f (λ up n a u. u)
        (λ up u. u) m.goes;
  }

  pub moves_enabled : (low mid high : ℕ) (xs : List Variable) (node : ℕ) (values : List (ℕ × List ℕ)) (x z s t : Shape) (d : Derivation)
      (a : Action) (handed : List (List ℕ)) → s ≡ over (enabled xs node values) x → Moves program x d a z low mid → a ≡ Exit handed →
      stands_for program t ≡ scoped program node (values ++ values_for xs handed) → IsFresh mid high t →
      Moves program s (enend d) Inner t low high
  moves_enabled low mid high xs node values x z s t d a handed e m is i f = record {
    becomes =
        becomes_at s t (over (enabled xs node values) x) t (enend d) Inner e refl
        (enabling_end xs node values x z t d handed i (subst (λ b. Becomes program x d b z) is m.becomes));
    goes =
        fresh_after_over (IsUntouched (enend d)) (IsUntouched d) low mid high (enabled xs node values) x z s t e
        (λ l. never_enabled d s) m.goes f;
  }

  pub never_ends : (a : Action) → IsNoEnd (kind_of a) → (v : List (List ℕ)) → Exit v ≡ a → ⊥
  never_ends a n v e = subst (λ b. IsNoEnd (kind_of b)) (sym e) n

  pub moves_unended : (low mid high : ℕ) (xs : List Variable) (node : ℕ) (values : List (ℕ × List ℕ)) (x z s t : Shape) (d : Derivation)
      (a b : Action) → s ≡ over (enabled xs node values) x → Moves program x d a z low mid → ((v : List (List ℕ)) → Exit v ≡ a → ⊥) →
      IsFresh mid high t → Moves program s (enend d) b t low high
  moves_unended low mid high xs node values x z s t d a b e m never f = record {
    becomes =
        becomes_at s t (over (enabled xs node values) x) t (enend d) b e refl (no_end xs node values x z t d a b never m.becomes);
    goes =
        fresh_after_over (IsUntouched (enend d)) (IsUntouched d) low mid high (enabled xs node values) x z s t e
        (λ l. never_enabled d s) m.goes f;
  }

  pub moves_disabling : (low high : ℕ) (x y z s t : Shape) (d : Derivation) (a : Action) → s ≡ between disabling x y →
      t ≡ between disabling z y → Moves program x d a z low high → Moves program s (disstep d) a t low high
  moves_disabling low high x y z s t d a e f m = record {
    becomes = becomes_at s t (between disabling x y) (between disabling z y) (disstep d) a e f (disabling_step x y z d a m.becomes);
    goes = first_goes (IsUntouched (disstep d)) (IsUntouched d) low high disabling x y z s t e f (record {
      into_first = λ up u. u;
      from_first = λ up u. u;
      into_second = λ up u. tt;
      from_second = λ up u. tt;
    }) m.goes;
  }

  -- Nodes.

  pub acts_none : (b : Behaviour) (d : Derivation) (a : Action) (t : Shape) → Acts program b [] d a t
  acts_none b d a t = record { acts = λ ways any. absurd any }

  pub acts_first : (b : Behaviour) (way : Way) (ways : List Way) (d : Derivation) (a : Action) (t : Shape) →
      Fills way.rules d → a ≡ done_in (slots_of d) way.action → stands_for program t ≡ left_in program (slots_of d) way.rest →
      Acts program b (way ∷ ways) d a t
  acts_first b way ways d a t fills is i = record {
    acts = λ each any e c h. let r = each.0 d e c fills h in (r.0 ∙ sym is, r.1 ∙ sym i);
  }

  pub acts_later : (b : Behaviour) (way : Way) (ways : List Way) (d : Derivation) (a : Action) (t : Shape) → (Fills way.rules d → ⊥) →
      Acts program b ways d a t → Acts program b (way ∷ ways) d a t
  acts_later b way ways d a t never m = record {
    acts = λ each any. m.acts each.1 (⊎_elim (λ f. absurd (never f)) (λ f. f) any);
  }

  pub moves_node : (low high : ℕ) (n : Held) (work : Work) (s t : Shape) (d : Derivation) (a : Action) → s ≡ leaf n → n.work ≡ Some work →
      Acts program (meaning program n.source) work.ways d a t → IsFresh low high t → Moves program s d a t low high
  moves_node low high n work s t d a e w m f = record {
    becomes = becomes_at s t (leaf n) t d a e refl (record {
      becomes = λ right follows.
          m.acts (subst (IsWorkOf program n.source) w (right [] n refl)) (subst (λ k. IsDone k d) w follows);
    });
    goes = fresh_goes (IsUntouched d) low high s t (never_in_leaf d n s e) f;
  }

  pub moves_waiting : (low high : ℕ) (n : Held) (s t : Shape) (d : Derivation) (a : Action) →
      s ≡ leaf n → n.work ≡ None → IsFresh low high t → Moves program s d a t low high
  moves_waiting low high n s t d a e w f = record {
    becomes = becomes_at s t (leaf n) t d a e refl (record {
      becomes = λ right follows. absurd (subst (λ k. IsDone k d) w follows);
    });
    goes = fresh_goes (IsUntouched d) low high s t (never_in_leaf d n s e) f;
  }
