-- The lists hold the trees that are seen, and all of them.
use Rattle.std.proofs.Common.{◌⊎◌, inl, inr, ◌&&◌, not, List, ap}
use Rattle.std.proofs.lemmas.Bool.{and_from, and_parts, not-true}
use Rattle.spec_core.proofs.Members.{one_filter, one_flat_map}
use Rattle.rule_model.specs.Actions.{kind_of}
use Rattle.rule_model.specs.Derivations.{Derivation}
use Rattle.symbolic_rules.specs.MarkedTerms.{unmarked}
use Rattle.symbolic_rules.specs.Trees.{has_mark, IsWindowed, IsBeyond, IsMarkedAs}
use Rattle.symbolic_rules.proofs.Seen.{each_step_is_seen}
use Rattle.symbolic_composites.specs.OpenFields.{all_choices}
use Rattle.symbolic_composites.specs.Composites.{Composite, filled, composites}
use Rattle.symbolic_composites.specs.TreeLists.{offered, candidates, windowed_trees, beyond_trees}
use Rattle.symbolic_composites.specs.Laws.{SeenTreesAreCandidates, ListsHold, ListsHoldTheirTrees, EmptyListsNoStep}
use Rattle.symbolic_composites.proofs.Lists.{filter_passes, empty_has_none}
use Rattle.symbolic_composites.proofs.OpenFields.{seen_suffices}
use Rattle.symbolic_composites.proofs.Listing.{all_listed, filled_one}

pub seen_trees_are_candidates : SeenTreesAreCandidates
seen_trees_are_candidates program e w exact n b o d k nests h =
    let c = all_listed program e exact w d n b unmarked k h.fields nests h.derives in
    one_flat_map (λ (c : Composite). filled c (all_choices program.theory w (offered o) c.fields)) c.composite
    (composites program.theory e w n unmarked b) d c.listed
    (filled_one program e exact w (composites program.theory e w n unmarked b) d k h.fields c
    (all_choices program.theory w (offered o) c.composite.fields)
    (seen_suffices program.theory w o k c.composite.fields h.fields c.fits h.meets))

pub lists_hold_their_trees : ListsHoldTheirTrees
lists_hold_their_trees program e w exact n b o is_seen tests = record {
  windowed = λ d h.
      let c = and_parts (not (has_mark d)) (is_seen d) (filter_passes (λ x. not (has_mark x) && is_seen x) d all h) in
      let s = (tests d).0 c.1 in
      (s.0, (s.1, not-true (has_mark d) c.0));
  beyond = λ d h.
      let c = and_parts (has_mark d) (is_seen d) (filter_passes (λ x. has_mark x && is_seen x) d all h) in
      let s = (tests d).0 c.1 in
      (s.0, (s.1, c.0));
  each_windowed = λ d k nests h.
      one_filter (λ x. not (has_mark x) && is_seen x) d all (seen_trees_are_candidates program e w exact n b o d k nests h.0)
      (and_from (not (has_mark d)) (is_seen d) (ap not h.1) ((tests d).1 (k, h.0)));
  each_beyond = λ d k nests h.
      one_filter (λ x. has_mark x && is_seen x) d all (seen_trees_are_candidates program e w exact n b o d k nests h.0)
      (and_from (has_mark d) (is_seen d) h.1 ((tests d).1 (k, h.0)));
}
  where
    all : List Derivation
    all = candidates program.theory e w n b o

pub empty_lists_no_step : EmptyListsNoStep
empty_lists_no_step program e size w exact executable windows n b o is_seen tests nests none no_beyond d a c h meets =
    by_tree (each_step_is_seen program size w executable windows b d a c h o meets)
  where
    lists : ListsHold program e w n b o is_seen
    lists = lists_hold_their_trees program e w exact n b o is_seen tests

    by_tree : IsWindowed program w b o d (kind_of a) ⊎
        ((t : Derivation) × IsMarkedAs d t × IsBeyond program w b o t (kind_of a)) → ⊥
    by_tree (inl i) =
        empty_has_none d (windowed_trees program.theory e w n b o is_seen) none
        (lists.each_windowed d (kind_of a) (nests d (kind_of a) i.0) i)
    by_tree (inr i) =
        empty_has_none i.0 (beyond_trees program.theory e w n b o is_seen) no_beyond
        (lists.each_beyond i.0 (kind_of a) (nests i.0 (kind_of a) i.2.0) i.2)
