-- What operators make of what is done and left of their parts.
use Rattle.std.proofs.Common.{ℕ, ◌≡◌, Option, Some, List, [], ◌++◌, map, sym, ap, subst, ◌∙◌}
use Rattle.spec_core.specs.Theories.{Premise}
use Rattle.spec_core.specs.Code as code
use Rattle.spec_core.specs.Code.{Program, Node, Variable, Relabelling, Synchronised, ExitValue, ActionField}
use Rattle.rule_model.specs.declared.action.Action.{Action}
use Rattle.rule_model.specs.declared.action.Action.TheVariants.{Exit}
use Rattle.rule_model.specs.declared.rules.Slot.{Slot}
use Rattle.rule_model.specs.Actions.{doing, renamed_action, kind_of, IsEnd}
use Rattle.rule_model.specs.Behaviours.{Behaviour, exit, inner, action, parallel, hide, enable, disable}
use Rattle.rule_model.specs.Derivations.{Derivation, pre, int, exiting}
use Rattle.rule_model.specs.Substitution.{Assignment, without, put, tidied}
use Rattle.rule_origins.specs.Parts.{over_parts, behaviour_at}
use Rattle.rule_origins.specs.Values.{with_values, assignment, values_for}
use Rattle.node_trees.specs.declared.rest.Known.{Known}
use Rattle.node_trees.specs.Rests.{known_in, values_in, does_inner, does_exit, does_at, does_of, done_in, none_left, left_at}
use Rattle.node_trees.specs.Rests.{left_hidden, left_enabling, left_relabelled, left_beside, left_disabling, remainder_of, left_in}
use Rattle.node_steps.specs.declared.turn.Turn.{Turn}
use Rattle.node_steps.specs.Knowing.{tell, known_for, AreFieldsAt, HaveNoFields, AreExitAt, HaveNoExit}
use Rattle.node_steps.specs.Frames.{unchanged, renaming, hiding_more, turning_inside, before_right, after_left, still_enabling, handing}
use Rattle.node_steps.specs.Frames.{still_disabled}
use Rattle.node_steps.specs.Turns.{LeafTurns, NoLeafTurn, Leaves, NeverLeaves}
use Rattle.node_steps.proofs.Knowing.{values_told, values_handed, all_values, handed_is_read}

module _ (program : Program) where
  -- what stays as it is, with the values told
  stays_so : (chosen : List Slot) (values : List (ℕ × List ℕ)) (n : ℕ) →
      left_in program chosen (left_at n (tell values)) ≡ put (assignment program.theory values) (behaviour_at program n)
  stays_so chosen values n = ap (λ (l : List (ℕ × List ℕ)). put (assignment program.theory l) (behaviour_at program n)) (values_told chosen values)

  later_so : (chosen : List Slot) (values : List (ℕ × List ℕ)) (binders : List (ℕ × Known)) (n : ℕ) →
      left_in program chosen (left_at n (tell values ++ binders)) ≡
      put (with_values program.theory (values_in chosen binders) (assignment program.theory values)) (behaviour_at program n)
  later_so chosen values binders n = ap (λ (s : Assignment). put s (behaviour_at program n)) (all_values program.theory chosen values binders)

  pub action_turns : (from n g : ℕ) (values : List (ℕ × List ℕ)) (fields : List ActionField) (guard : Option Premise) (known : List Known)
      (binders : List (ℕ × Known)) (t : Turn) → AreFieldsAt program.theory (assignment program.theory values) from fields known binders →
      does_of t.action ≡ does_at g known → remainder_of t.rest ≡ left_at n (tell values ++ binders) →
      LeafTurns program from (assignment program.theory values) (action g fields guard (behaviour_at program n)) pre t
  action_turns from n g values fields guard known binders t fits same rest = record {
    turns = λ before after slots a c l k.
        let s = assignment program.theory values in
        let chosen = before ++ (slots ++ after) in
        let r = fits.are before after slots k.0 s k.1 l k.3 in
        record {
          action = k.2 ∙ ap (doing g) r.0 ∙ ap (done_in chosen) (sym same);
          rest =
              k.5
              ∙ ap (λ (u : Assignment). put u (behaviour_at program n)) r.1
              ∙ sym (later_so chosen values binders n)
              ∙ ap (left_in program chosen) (sym rest);
        };
  }

  pub no_action_turns : (n g : ℕ) (s : Assignment) (fields : List ActionField) (guard : Option Premise) → HaveNoFields program.theory s fields →
      NoLeafTurn program s (action g fields guard (behaviour_at program n)) pre
  no_action_turns n g s fields guard h = record { none = λ slots a c k. h.none slots k.0 s k.1 k.3 }

  pub inner_turn : (from n : ℕ) (values : List (ℕ × List ℕ)) (t : Turn) → does_of t.action ≡ does_inner →
      remainder_of t.rest ≡ left_at n (tell values ++ []) →
      LeafTurns program from (assignment program.theory values) (inner (behaviour_at program n)) (λ slots. int) t
  inner_turn from n values t same rest = record {
    turns = λ before after slots a c l k.
        let chosen = before ++ (slots ++ after) in
        record {
          action = k.0 ∙ ap (done_in chosen) (sym same);
          rest = k.1 ∙ sym (later_so chosen values [] n) ∙ ap (left_in program chosen) (sym rest);
        };
  }

  pub exit_turn : (from : ℕ) (s : Assignment) (fields : List ExitValue) (known : List Known) (t : Turn) →
      AreExitAt program.theory s from fields known → does_of t.action ≡ does_exit known → remainder_of t.rest ≡ none_left →
      LeafTurns program from s (exit fields) exiting t
  exit_turn from s fields known t fits same rest = record {
    turns = λ before after slots a c l k.
        let chosen = before ++ (slots ++ after) in
        record {
          action = k.1 ∙ ap (λ (z : List (List ℕ)). Exit z) (fits.are before after slots k.0 l k.2) ∙ ap (done_in chosen) (sym same);
          rest = k.3 ∙ ap (left_in program chosen) (sym rest);
        };
  }

  pub no_exit_turn : (s : Assignment) (fields : List ExitValue) → HaveNoExit program.theory s fields →
      NoLeafTurn program s (exit fields) exiting
  no_exit_turn s fields h = record { none = λ slots a c k. h.none slots k.0 k.2 }

  -- the same of what stands at a construct that is known
  leaf_at : (from : ℕ) (s : Assignment) (node other : Node) (leaf : List Slot → Derivation) (t : Turn) → node ≡ other →
      LeafTurns program from s (over_parts (behaviour_at program) (Some other)) leaf t →
      LeafTurns program from s (over_parts (behaviour_at program) (Some node)) leaf t
  leaf_at from s node other leaf t is h =
      subst (λ (z : Node). LeafTurns program from s (over_parts (behaviour_at program) (Some z)) leaf t) (sym is) h

  no_leaf_at : (s : Assignment) (node other : Node) (leaf : List Slot → Derivation) → node ≡ other →
      NoLeafTurn program s (over_parts (behaviour_at program) (Some other)) leaf →
      NoLeafTurn program s (over_parts (behaviour_at program) (Some node)) leaf
  no_leaf_at s node other leaf is h =
      subst (λ (z : Node). NoLeafTurn program s (over_parts (behaviour_at program) (Some z)) leaf) (sym is) h

  pub action_at : (from n g : ℕ) (values : List (ℕ × List ℕ)) (fields : List ActionField) (guard : Option Premise) (node : Node)
      (known : List Known) (binders : List (ℕ × Known)) (t : Turn) → node ≡ code.action g fields guard n →
      AreFieldsAt program.theory (assignment program.theory values) from fields known binders → does_of t.action ≡ does_at g known →
      remainder_of t.rest ≡ left_at n (tell values ++ binders) →
      LeafTurns program from (assignment program.theory values) (over_parts (behaviour_at program) (Some node)) pre t
  action_at from n g values fields guard node known binders t is fits same rest =
      leaf_at from (assignment program.theory values) node (code.action g fields guard n) pre t is
      (action_turns from n g values fields guard known binders t fits same rest)

  pub no_action_at : (n g : ℕ) (s : Assignment) (fields : List ActionField) (guard : Option Premise) (node : Node) →
      node ≡ code.action g fields guard n → HaveNoFields program.theory s fields →
      NoLeafTurn program s (over_parts (behaviour_at program) (Some node)) pre
  no_action_at n g s fields guard node is h =
      no_leaf_at s node (code.action g fields guard n) pre is (no_action_turns n g s fields guard h)

  pub inner_at : (from n : ℕ) (values : List (ℕ × List ℕ)) (node : Node) (none : List (ℕ × Known)) (t : Turn) → node ≡ code.inner n →
      none ≡ [] → does_of t.action ≡ does_inner → remainder_of t.rest ≡ left_at n (tell values ++ none) →
      LeafTurns program from (assignment program.theory values) (over_parts (behaviour_at program) (Some node)) (λ slots. int) t
  inner_at from n values node none t is empty same rest =
      leaf_at from (assignment program.theory values) node (code.inner n) (λ slots. int) t is
      (inner_turn from n values t same (rest ∙ ap (λ (l : List (ℕ × Known)). left_at n (tell values ++ l)) empty))

  pub exit_at : (from : ℕ) (s : Assignment) (fields : List ExitValue) (node : Node) (known : List Known) (t : Turn) →
      node ≡ code.exit fields → AreExitAt program.theory s from fields known → does_of t.action ≡ does_exit known →
      remainder_of t.rest ≡ none_left → LeafTurns program from s (over_parts (behaviour_at program) (Some node)) exiting t
  exit_at from s fields node known t is fits same rest =
      leaf_at from s node (code.exit fields) exiting t is (exit_turn from s fields known t fits same rest)

  pub no_exit_at : (s : Assignment) (fields : List ExitValue) (node : Node) → node ≡ code.exit fields → HaveNoExit program.theory s fields →
      NoLeafTurn program s (over_parts (behaviour_at program) (Some node)) exiting
  no_exit_at s fields node is h = no_leaf_at s node (code.exit fields) exiting is (no_exit_turn s fields h)

  pub same_leaves : (values : List (ℕ × List ℕ)) (t : Turn) → Leaves program values unchanged t t
  same_leaves values t = record {
    leaves = λ chosen e a f c h k. record { action = k.0 ∙ h.action; rest = k.1 ∙ h.rest };
  }

  pub renamed_leaves : (values : List (ℕ × List ℕ)) (pairs : List Relabelling) (t u : Turn) →
      ((chosen : List Slot) → done_in chosen (does_of u.action) ≡ renamed_action pairs (done_in chosen (does_of t.action))) →
      remainder_of u.rest ≡ left_relabelled pairs (remainder_of t.rest) → Leaves program values (renaming pairs) t u
  renamed_leaves values pairs t u same rest = record {
    leaves = λ chosen e a f c h k. record {
      action = k.0 ∙ ap (renamed_action pairs) h.action ∙ sym (same chosen);
      rest = k.1 ∙ ap (tidied pairs) h.rest ∙ ap (left_in program chosen) (sym rest);
    };
  }

  pub hidden_leaves : (values : List (ℕ × List ℕ)) (gates : List ℕ) (t u : Turn) → does_of u.action ≡ does_of t.action →
      remainder_of u.rest ≡ left_hidden gates (remainder_of t.rest) → Leaves program values (hiding_more gates) t u
  hidden_leaves values gates t u same rest = record {
    leaves = λ chosen e a f c h k. record {
      action = k.0 ∙ h.action ∙ ap (done_in chosen) (sym same);
      rest = k.1 ∙ ap (hide gates) h.rest ∙ ap (left_in program chosen) (sym rest);
    };
  }

  pub inside_leaves : (values : List (ℕ × List ℕ)) (gates : List ℕ) (t u : Turn) → does_of u.action ≡ does_inner →
      remainder_of u.rest ≡ left_hidden gates (remainder_of t.rest) → Leaves program values (turning_inside gates) t u
  inside_leaves values gates t u same rest = record {
    leaves = λ chosen e a f c h k. record {
      action = k.0 ∙ ap (done_in chosen) (sym same);
      rest = k.1 ∙ ap (hide gates) h.rest ∙ ap (left_in program chosen) (sym rest);
    };
  }

  pub right_leaves : (values : List (ℕ × List ℕ)) (gates : Synchronised) (n : ℕ) (t u : Turn) → does_of u.action ≡ does_of t.action →
      remainder_of u.rest ≡ left_beside gates (remainder_of t.rest) (left_at n (tell values ++ [])) →
      Leaves program values (before_right gates (behaviour_at program n)) t u
  right_leaves values gates n t u same rest = record {
    leaves = λ chosen e a f c h k. record {
      action = k.0 ∙ h.action ∙ ap (done_in chosen) (sym same);
      rest =
          k.1
          ∙ ap (λ (z : Behaviour). parallel gates z (put (assignment program.theory values) (behaviour_at program n))) h.rest
          ∙ ap (parallel gates (left_in program chosen (remainder_of t.rest))) (sym (later_so chosen values [] n))
          ∙ ap (left_in program chosen) (sym rest);
    };
  }

  pub left_leaves : (values : List (ℕ × List ℕ)) (gates : Synchronised) (n : ℕ) (t u : Turn) → does_of u.action ≡ does_of t.action →
      remainder_of u.rest ≡ left_beside gates (left_at n (tell values ++ [])) (remainder_of t.rest) →
      Leaves program values (after_left gates (behaviour_at program n)) t u
  left_leaves values gates n t u same rest = record {
    leaves = λ chosen e a f c h k. record {
      action = k.0 ∙ h.action ∙ ap (done_in chosen) (sym same);
      rest =
          k.1
          ∙ ap (parallel gates (put (assignment program.theory values) (behaviour_at program n))) h.rest
          ∙ ap (λ (z : Behaviour). parallel gates z (left_in program chosen (remainder_of t.rest))) (sym (later_so chosen values [] n))
          ∙ ap (left_in program chosen) (sym rest);
    };
  }

  pub enabling_leaves : (values : List (ℕ × List ℕ)) (xs : List Variable) (n : ℕ) (t u : Turn) → does_of u.action ≡ does_of t.action →
      remainder_of u.rest ≡ left_enabling (remainder_of t.rest) xs n (tell values ++ []) →
      Leaves program values (still_enabling xs (behaviour_at program n)) t u
  enabling_leaves values xs n t u same rest = record {
    leaves = λ chosen e a f c h k. record {
      action = k.0 ∙ h.action ∙ ap (done_in chosen) (sym same);
      rest =
          k.1
          ∙ ap (λ (z : Behaviour). enable z xs (put (without xs (assignment program.theory values)) (behaviour_at program n))) h.rest
          ∙ ap (λ (s : Assignment). enable (left_in program chosen (remainder_of t.rest)) xs (put (without xs s) (behaviour_at program n)))
          (sym (all_values program.theory chosen values []))
          ∙ ap (left_in program chosen) (sym rest);
    };
  }

  pub disabling_leaves : (values : List (ℕ × List ℕ)) (n : ℕ) (t u : Turn) → does_of u.action ≡ does_of t.action →
      remainder_of u.rest ≡ left_disabling (remainder_of t.rest) (left_at n (tell values ++ [])) →
      Leaves program values (still_disabled (behaviour_at program n)) t u
  disabling_leaves values n t u same rest = record {
    leaves = λ chosen e a f c h k. record {
      action = k.0 ∙ h.action ∙ ap (done_in chosen) (sym same);
      rest =
          k.1
          ∙ ap (λ (z : Behaviour). disable z (put (assignment program.theory values) (behaviour_at program n))) h.rest
          ∙ ap (disable (left_in program chosen (remainder_of t.rest))) (sym (later_so chosen values [] n))
          ∙ ap (left_in program chosen) (sym rest);
    };
  }

  -- what is no termination hands nothing on
  pub inner_unended : (values : List (ℕ × List ℕ)) (xs : List Variable) (b : Behaviour) (t : Turn) → does_of t.action ≡ does_inner →
      NeverLeaves program values (handing xs b) t
  inner_unended values xs b t is = record {
    none = λ chosen e a f c h k. subst (λ (z : Action). IsEnd (kind_of z)) (sym k.2 ∙ h.action ∙ ap (done_in chosen) is) tt;
  }

  pub acting_unended : (values : List (ℕ × List ℕ)) (xs : List Variable) (b : Behaviour) (t : Turn) (g : ℕ) (known : List Known) →
      does_of t.action ≡ does_at g known → NeverLeaves program values (handing xs b) t
  acting_unended values xs b t g known is = record {
    none = λ chosen e a f c h k. subst (λ (z : Action). IsEnd (kind_of z)) (sym k.2 ∙ h.action ∙ ap (done_in chosen) is) tt;
  }

  -- the values of an exit
  abbrev exit_values : Action → List (List ℕ)
  exit_values (Exit values) = values
  exit_values _ = []

  pub handing_leaves : (values : List (ℕ × List ℕ)) (xs : List Variable) (known : List Known) (n : ℕ) (t u : Turn) →
      does_of t.action ≡ does_exit known → does_of u.action ≡ does_inner →
      remainder_of u.rest ≡ left_at n (tell values ++ known_for xs known) →
      Leaves program values (handing xs (behaviour_at program n)) t u
  handing_leaves values xs known n t u ends same rest = record {
    leaves = λ chosen e a f c h k.
        let s = assignment program.theory values in
        let handed : k.0 ≡ map (known_in chosen) known =
        ap exit_values (sym k.2 ∙ h.action ∙ ap (done_in chosen) ends) in
        let is : k.1 ≡ with_values program.theory (values_in chosen (known_for xs known)) s =
        handed_is_read program.theory xs k.0 s k.1 k.4
        ∙ ap (λ (z : List (List ℕ)). with_values program.theory (values_for xs z) s) handed
        ∙ ap (λ (z : List (ℕ × List ℕ)). with_values program.theory z s) (sym (values_handed chosen xs known)) in
        record {
          action = k.3 ∙ ap (done_in chosen) (sym same);
          rest =
              k.5
              ∙ ap (λ (z : Assignment). put z (behaviour_at program n)) is
              ∙ sym (later_so chosen values (known_for xs known) n)
              ∙ ap (left_in program chosen) (sym rest);
        };
  }
