-- What follows from the definitions.
use Rattle.std.specs.Prelude.{◌≡◌, ◌↔◌, List, Option, Some, true, option_and_then}
use Rattle.spec_core.specs.Lists.{Each}
use Rattle.spec_core.specs.Theories.{Theory}
use Rattle.spec_core.specs.Code.{Program, Variable, Synchronised}
use Rattle.rule_model.specs.declared.offer.Offer.{Offer}
use Rattle.rule_model.specs.Actions.{Kind}
use Rattle.rule_model.specs.Behaviours.{Behaviour, parallel}
use Rattle.rule_model.specs.Derivations.{Derivation, both}
use Rattle.symbolic_rules.specs.Windows.{Windows}
use Rattle.symbolic_rules.specs.MarkedTerms.{MarkedAssignment}
use Rattle.symbolic_rules.specs.MarkedFields.{MarkedField, Agree, AllAgree, HaveSortsOf, IsWithin}
use Rattle.symbolic_rules.specs.MayDerive.{MayDeriveWith}
use Rattle.symbolic_rules.specs.Trees.{MayMeet}
use Rattle.symbolic_composites.specs.Evaluations.{Evaluation, IsExact}
use Rattle.symbolic_actions.specs.Deciding.{agreed, all_agreed, have_sorts, is_within, all_within, may_meet}
use Rattle.symbolic_actions.specs.Shows.{Show, ShowsWith, PartRule, tree_over, IsOver, over_part, over_both}

-- the relations of fields are decided by the functions
pub record FieldsAreDecidedByFunctions : Type 0 where
  pub agree : (theory : Theory) (f g h : MarkedField) → Agree theory f g h ↔ (agreed theory f g ≡ Some h)
  pub all_agree : (theory : Theory) (fs gs hs : List MarkedField) → AllAgree theory fs gs hs ↔ (all_agreed theory fs gs ≡ Some hs)
  pub sorts : (theory : Theory) (xs : List Variable) (fs : List MarkedField) →
      HaveSortsOf theory xs fs ↔ (have_sorts theory xs fs ≡ true)
  pub within : (theory : Theory) (w : Windows) (f : MarkedField) → IsWithin theory w f ↔ (is_within theory w f ≡ true)
  pub all_within : (theory : Theory) (w : Windows) (fs : List MarkedField) →
      Each (IsWithin theory w) fs ↔ (all_within theory w fs ≡ true)
  pub meets : (theory : Theory) (w : Windows) (k : Kind) (fs : List MarkedField) (o : Option Offer) →
      MayMeet theory w k fs o ↔ (may_meet theory w k fs o ≡ true)

-- What an operator may do by a rule over a part is what the rule makes of what the part may do; what both sides of a parallel composition
-- may do together is what is made of what each may do.
pub record Folds (program : Program) (w : Windows) (m : MarkedAssignment) : Type 0 where
  pub over_part : (r : PartRule) (b c : Behaviour) → IsOver r b c → (d : Derivation) (k : Kind) (fs : List MarkedField) →
      MayDeriveWith program w m b (tree_over r d) k fs ↔
      ((s : Show) × MayDeriveWith program w m c d s.kind s.fields ×
      (over_part program.theory w r s ≡ Some (record { kind = k; fields = fs })))
  pub over_both : (gates : Synchronised) (left right : Behaviour) (d e : Derivation) (k : Kind) (fs : List MarkedField) →
      MayDeriveWith program w m (parallel gates left right) (both d e) k fs ↔
      ((s t : Show) × MayDeriveWith program w m left d s.kind s.fields × MayDeriveWith program w m right e t.kind t.fields ×
      (over_both program.theory gates s t ≡ Some (record { kind = k; fields = fs })))

-- Where the answers about data and code are exact, what an operator shows is made of what its parts show.
pub record IsMadeOfShows (program : Program) (w : Windows) (m : MarkedAssignment) : Type 0 where
  pub over_part : (r : PartRule) (b c : Behaviour) → IsOver r b c → (d : Derivation) (o : Option Show) →
      ShowsWith program w m c d o →
      ShowsWith program w m b (tree_over r d) (option_and_then (over_part program.theory w r) o)
  pub over_both : (gates : Synchronised) (left right : Behaviour) (d e : Derivation) (o p : Option Show) →
      ShowsWith program w m left d o →
      ShowsWith program w m right e p →
      ShowsWith program w m (parallel gates left right) (both d e)
      (option_and_then (λ s. option_and_then (over_both program.theory gates s) p) o)

abbrev pub RulesFoldShows : Type 0
RulesFoldShows = (program : Program) (w : Windows) (m : MarkedAssignment) → Folds program w m

abbrev pub ShowsAreMadeOfShows : Type 0
ShowsAreMadeOfShows =
    (program : Program) (e : Evaluation) (w : Windows) → IsExact program e → (m : MarkedAssignment) → IsMadeOfShows program w m
