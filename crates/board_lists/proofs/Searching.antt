-- A search goes on behind what it meets.
use Rattle.std.proofs.Common.{◌≡◌, ◌++◌, ◌∙◌, inl, List, [], ◌∷◌, flat_map, refl, sym, ap, subst, Option, None, Some}
use Rattle.std.proofs.Common.{option_map, append_assoc, append-nil}
use Rattle.spec_core.specs.Lists.{IsOneOf}
use Rattle.spec_core.proofs.Lists.{cons_not_empty, right_empty}
use Rattle.spec_core.proofs.Members.{one_right}
use Rattle.spec_core.specs.Theories.{Theory}
use Rattle.rule_model.specs.declared.offer.Offer.{Offer}
use Rattle.rule_model.specs.declared.rules.Rules.{Rules}
use Rattle.rule_model.specs.Derivations.{Derivation, derivation_of}
use Rattle.decision_trees.specs.Gaps.{OrGap, all_known}
use Rattle.decision_trees.specs.Known.{where_known}
use Rattle.decision_trees.specs.Rules.{Query, any, any_beyond}
use Rattle.board_laws.proofs.Parts.{searches_in_parts}
use Rattle.decision_trees.specs.Lazy.{first}
use Rattle.symbolic_rules.specs.Windows.{Windows}
use Rattle.candidate_verdicts.specs.Known.{NodePart, Pieces, known_show, missing_parts}
use Rattle.candidate_verdicts.proofs.Missing.{missing_parts_are_missing}
use Rattle.node_trees.specs.Shapes.{Shape}
use Rattle.board_core.specs.declared.job.Job.{Job}
use Rattle.board_core.specs.Views.{BoardView, program, tree, windows}
use Rattle.candidate_laws.specs.Asked.{TreeQuery}
use Rattle.candidate_laws.specs.Sought.{every_kind}
use Rattle.candidate_search.specs.Searches.{for_offer}
use Rattle.candidate_composites.specs.Known.{PlacedPlan, placed_plans, plans_sought, sought_plans}
use Rattle.candidates.specs.Listed.{kinds_sought, trees_sought}
use Rattle.candidates.proofs.Asking.{sought_alone}
use Rattle.board_lists.specs.declared.looking.Seen.TheVariants as seen
use Rattle.board_lists.specs.Looking.{AsksForAll, HasPassed, IsForAll, Says, looked_through, verdict_at}

-- a part is missing where it isn't known what is shown
pub some_missing : (theory : Theory) (w : Windows) (pieces : Pieces) (t : Shape) (d : Derivation) → known_show theory w pieces t d ≡ None →
    first (missing_parts pieces t d) ≡ None → ⊥
some_missing theory w pieces t d unknown none =
    (missing_parts_are_missing theory w pieces t d).some unknown (first_of_none (missing_parts pieces t d) none)
  where
    first_of_none : (parts : List NodePart) → first parts ≡ None → parts ≡ []
    first_of_none [] e = refl
    first_of_none (part ∷ parts) e = let never : ⊥ = cc in absurd never

-- a query for whatever the behaviour may do looks for all kinds of actions
all_sought : (q : TreeQuery) → AsksForAll q → every_kind ≡ kinds_sought (for_offer q)
all_sought any all = refl
all_sought any_beyond all = refl
all_sought _ all = absurd all

module _ (v : BoardView) (q : Query Offer) where
  -- so it looks for the same trees where the parts are those that are sought
  pub looks_through : IsForAll q → (ps : List PlacedPlan) →
      flat_map (plans_sought every_kind) ps ≡ sought_plans (program v).theory (tree v) every_kind →
      trees_sought (program v).theory (windows v) q ps ≡ looked_through v q
  looks_through all ps sought =
      sought_alone (program v).theory (windows v) q every_kind ps (placed_plans (program v).theory (tree v))
      (subst (λ k. every_kind ≡ kinds_sought k) all.same (all_sought all.query all.all)) sought

  pub met_is_listed : (jobs : List Job) (found : List Derivation) (left : List (OrGap Derivation)) → HasPassed v q jobs found left →
      (x : OrGap Derivation) (rest : List (OrGap Derivation)) → left ≡ x ∷ rest → IsOneOf x (looked_through v q)
  met_is_listed jobs found left h x rest e =
      subst (IsOneOf x) (sym (h.parts ∙ ap (λ (z : List (OrGap Derivation)). h.passed ++ z) e))
      (one_right x h.passed (x ∷ rest) (inl refl))

  moved : (passed left : List (OrGap Derivation)) (x : OrGap Derivation) (rest : List (OrGap Derivation)) →
      looked_through v q ≡ passed ++ left → left ≡ x ∷ rest → looked_through v q ≡ (passed ++ x ∷ []) ++ rest
  moved passed left x rest parts e =
      parts ∙ ap (λ (z : List (OrGap Derivation)). passed ++ z) e ∙ sym (append_assoc passed (x ∷ []) rest)

  known_with : (passed : List (OrGap Derivation)) (x : OrGap Derivation) (xs ys : List Derivation) →
      all_known (verdict_at v q) passed ≡ Some xs → all_known (verdict_at v q) (x ∷ []) ≡ Some ys →
      all_known (verdict_at v q) (passed ++ x ∷ []) ≡ Some (xs ++ ys)
  known_with passed x xs ys e f =
      (searches_in_parts Derivation).alls (verdict_at v q) passed (x ∷ [])
      ∙ ap (λ (o : Option (List Derivation)). where_known o (λ zs. option_map (λ ws. zs ++ ws) (all_known (verdict_at v q) (x ∷ [])))) e
      ∙ ap (λ (o : Option (List Derivation)). option_map (λ ws. xs ++ ws) o) f

  module _ (jobs : List Job) (found : List Derivation) (left : List (OrGap Derivation)) (h : HasPassed v q jobs found left)
      (x : OrGap Derivation) (rest : List (OrGap Derivation)) (e : left ≡ x ∷ rest) where
    pub past_absent : Says v q x seen.Absent → HasPassed v q jobs found rest
    past_absent says = record {
      passed = h.passed ++ x ∷ [];
      parts = moved h.passed left x rest h.parts e;
      known = λ none. known_with h.passed x found [] (h.known none) says ∙ ap Some (append-nil found);
    }

    pub past_tree : (rules : Rules) → Says v q x (seen.Tree rules) → HasPassed v q jobs (found ++ derivation_of rules ∷ []) rest
    past_tree rules says = record {
      passed = h.passed ++ x ∷ [];
      parts = moved h.passed left x rest h.parts e;
      known = λ none. known_with h.passed x found (derivation_of rules ∷ []) (h.known none) says;
    }

    pub past_missing : (job : Job) → HasPassed v q (jobs ++ job ∷ []) found rest
    past_missing job = record {
      passed = h.passed ++ x ∷ [];
      parts = moved h.passed left x rest h.parts e;
      known = λ none. absurd (cons_not_empty job [] (right_empty jobs (job ∷ []) none));
    }
