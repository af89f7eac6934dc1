-- What is known of the nodes of a tree makes what the whole shows.
use Rattle.std.proofs.Common.{◌≡◌, [], ◌∷◌, refl, subst, Option, Some, None}
use Rattle.spec_core.specs.Code.{Program, Synchronised}
use Rattle.rule_model.specs.Behaviours.{Behaviour, stop, choice, parallel, hide, disable, relabel}
use Rattle.rule_model.specs.Derivations.{Derivation, pre, chl, chr, parl, parr, both, hiding, pass, enstep, enend, disstep, disend}
use Rattle.rule_model.specs.Derivations.{distake, rel}
use Rattle.symbolic_rules.specs.Windows.{Windows}
use Rattle.symbolic_rules.specs.MarkedTerms.{unmarked}
use Rattle.symbolic_composites.specs.Evaluations.{Evaluation, IsExact}
use Rattle.symbolic_actions.specs.Shows as shows
use Rattle.symbolic_actions.specs.Shows.{Show, Shows, PartRule, of_left, of_right, left_alone, right_alone, hidden_in, seen_in, before_end}
use Rattle.symbolic_actions.specs.Shows.{handed_to, undisabled, renamed_by, tree_over, IsOver, over_part, over_both}
use Rattle.symbolic_actions.specs.Laws.{IsMadeOfShows}
use Rattle.symbolic_actions.proofs.Folding.{shows_are_made_of_shows}
use Rattle.node_trees.specs.Shapes.{Shape, leaf, ended, over, between, Unary, hidden, relabelled, enabled, Binary, choosing, beside}
use Rattle.node_trees.specs.Shapes.{disabling, applied, joined, stands_for, under, first_of, second_of}
use Rattle.candidate_verdicts.specs.Parts.{part_under, sides_under}
use Rattle.candidate_verdicts.specs.Known.{KnownShow, Pieces, known_over, known_together, known_under, known_between, known_show}
use Rattle.candidate_verdicts.specs.Laws.{ArePiecesOf, KnownShowsAreSo}

module _ (program : Program) (e : Evaluation) (w : Windows) (exact : IsExact program e) where
  made : IsMadeOfShows program w unmarked
  made = shows_are_made_of_shows program e w exact unmarked

  -- what is known is what the behaviour shows
  abbrev IsSo : Behaviour → Derivation → KnownShow → Type 0
  IsSo b d None = Unit {0}
  IsSo b d (Some o) = Shows program w b d o

  over_so : (r : PartRule) (b c : Behaviour) → IsOver r b c → (d : Derivation) (o : KnownShow) → IsSo c d o →
      IsSo b (tree_over r d) (known_over program.theory w r o)
  over_so r b c i d None h = tt
  over_so r b c i d (Some o) h = made.over_part r b c i d o h

  nothing_left : (gates : Synchronised) (left right : Behaviour) (d f : Derivation) → Shows program w left d None →
      Shows program w (parallel gates left right) (both d f) None
  nothing_left gates left right d f h k fs (gs, hs, one, two, joint, agree) = h k gs one

  nothing_right : (gates : Synchronised) (left right : Behaviour) (d f : Derivation) → Shows program w right f None →
      Shows program w (parallel gates left right) (both d f) None
  nothing_right gates left right d f h k fs (gs, hs, one, two, joint, agree) = h k hs two

  together_so : (gates : Synchronised) (left right : Behaviour) (d f : Derivation) (o p : KnownShow) → IsSo left d o → IsSo right f p →
      IsSo (parallel gates left right) (both d f) (known_together program.theory w gates o p)
  together_so gates left right d f (Some None) p g h = nothing_left gates left right d f g
  together_so gates left right d f None (Some None) g h = nothing_right gates left right d f h
  together_so gates left right d f (Some (Some s)) (Some None) g h = nothing_right gates left right d f h
  together_so gates left right d f (Some (Some s)) (Some (Some t)) g h = made.over_both gates left right d f (Some s) (Some t) g h
  together_so gates left right d f None None g h = tt
  together_so gates left right d f None (Some (Some t)) g h = tt
  together_so gates left right d f (Some (Some s)) None g h = tt

  under_so : (o : Unary) (c : Behaviour) (part : Derivation → KnownShow) → ((d : Derivation) → IsSo c d (part d)) → (d : Derivation) →
      IsSo (applied program o c) d (known_under program.theory w (part_under o d) part)
  under_so (hidden gates) c part h (hiding d) = over_so (hidden_in gates) (hide gates c) c refl d (part d) (h d)
  under_so (hidden gates) c part h (pass d) = over_so (seen_in gates) (hide gates c) c refl d (part d) (h d)
  under_so (relabelled pairs) c part h (rel d) = over_so (renamed_by pairs) (relabel pairs c) c refl d (part d) (h d)
  under_so (enabled xs right values) c part h (enstep d) =
      over_so before_end (applied program (enabled xs right values) c) c (xs, _, refl) d (part d) (h d)
  under_so (enabled xs right values) c part h (enend d) =
      over_so (handed_to xs) (applied program (enabled xs right values) c) c (_, refl) d (part d) (h d)
  under_so _ c part h d = λ k fs x. absurd x

  between_so : (o : Binary) (b c : Behaviour) (left right : Derivation → KnownShow) → ((d : Derivation) → IsSo b d (left d)) →
      ((d : Derivation) → IsSo c d (right d)) → (d : Derivation) →
      IsSo (joined o b c) d (known_between program.theory w (sides_under o d) left right)
  between_so choosing b c left right g h (chl d) = over_so of_left (choice b c) b (c, refl) d (left d) (g d)
  between_so choosing b c left right g h (chr d) = over_so of_right (choice b c) c (b, refl) d (right d) (h d)
  between_so (beside gates) b c left right g h (parl d) = over_so (left_alone gates) (parallel gates b c) b (c, refl) d (left d) (g d)
  between_so (beside gates) b c left right g h (parr d) = over_so (right_alone gates) (parallel gates b c) c (b, refl) d (right d) (h d)
  between_so (beside gates) b c left right g h (both d f) = together_so gates b c d f (left d) (right f) (g d) (h f)
  between_so disabling b c left right g h (disstep d) = over_so undisabled (disable b c) b (c, refl) d (left d) (g d)
  between_so disabling b c left right g h (disend d) = over_so shows.ended (disable b c) b (c, refl) d (left d) (g d)
  between_so disabling b c left right g h (distake d) = over_so shows.disabling (disable b c) c (b, refl) d (right d) (h d)
  between_so _ b c left right g h d = λ k fs x. absurd x

  stop_so : (d : Derivation) → Shows program w stop d None
  stop_so (pre slots) k fs x = absurd x
  stop_so _ k fs x = absurd x

  module _ (pieces : Pieces) where
    piece_so : (b : Behaviour) (d : Derivation) (o : KnownShow) → ((s : Option Show) → o ≡ Some s → Shows program w b d s) → IsSo b d o
    piece_so b d None h = tt
    piece_so b d (Some s) h = h s refl

    tree_so : (t : Shape) → ArePiecesOf program w pieces t → (d : Derivation) →
        IsSo (stands_for program t) d (known_show program.theory w pieces t d)
    tree_so (leaf n) h d = piece_so (stands_for program (leaf n)) d (pieces n.generation d) (λ s q. h [] n refl d s q)
    tree_so ended h d = stop_so d
    tree_so (over o x) h d =
        under_so o (stands_for program x) (λ f. known_show program.theory w pieces x f)
        (λ f. tree_so x (λ up n i. h (under o ∷ up) n (refl, i)) f) d
    tree_so (between o x y) h d =
        between_so o (stands_for program x) (stands_for program y) (λ f. known_show program.theory w pieces x f)
        (λ f. known_show program.theory w pieces y f) (λ f. tree_so x (λ up n i. h (first_of o ∷ up) n (refl, i)) f)
        (λ f. tree_so y (λ up n i. h (second_of o ∷ up) n (refl, i)) f) d

pub known_shows_are_so : KnownShowsAreSo
known_shows_are_so program e w exact pieces t h d o q =
    subst (IsSo program e w exact (stands_for program t) d) q (tree_so program e w exact pieces t h d)
