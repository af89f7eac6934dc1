-- Searches in a known tree, one met thing after another.
use Rattle.std.proofs.Common.{◌≡◌, ◌++◌, ◌∙◌, ◌||◌, List, [], ◌∷◌, map, flat_map, sym, ap, Option, Some, Bool, true, false}
use Rattle.std.proofs.lemmas.List.{map-append}
use Rattle.std.proofs.lemmas.List.Sums.{fold-append}
use Rattle.spec_core.specs.Theories.{Theory, theory_of}
use Rattle.rule_model.specs.declared.offer.Offer.{Offer}
use Rattle.rule_model.specs.declared.rules.Rules.{Rules}
use Rattle.rule_model.specs.Derivations.{Derivation, derivation_of}
use Rattle.symbolic_rules.specs.Tables.{windows_in}
use Rattle.decision_trees.specs.Decisions.{Question}
use Rattle.decision_trees.specs.Gaps.{OrGap}
use Rattle.decision_trees.specs.Rules.{Query}
use Rattle.decision_order.specs.Jobs.{taken_on}
use Rattle.decision_order.specs.Searches.{first_of}
use Rattle.decision_order.specs.declared.listing.First.{First}
use Rattle.decision_order.specs.declared.listing.First.TheVariants.{Is}
use Rattle.node_trees.specs.Shapes.{shape_of}
use Rattle.candidate_verdicts.specs.Stored.{stored}
use Rattle.symbolic_rules.specs.Windows.{Windows}
use Rattle.candidate_composites.specs.Known.{PlacedPlan, plans_sought}
use Rattle.candidate_laws.specs.Sought.{Sought}
use Rattle.candidates.specs.Listed.{kinds_sought, trees_in, trees_sought, verdict_for}
use Rattle.candidates.specs.Jobs.{NodeJob, jobs_of}
use Rattle.candidates.specs.KnownTrees.{first_of_those, all_of_those, jobs_to_first_of, jobs_to_all_of, is_held_among}
use Rattle.candidates.specs.declared.known_tree.KnownTree.{KnownTree}
use Rattle.candidates.proofs.Stepping.{first_then, all_then, and_more, one_more, first_from, all_from, more_to_first, end_to_first}
use Rattle.candidates.proofs.Stepping.{more_to_all, held_from}

-- a search looks for the same trees where the parts are those that are sought
pub sought_alone : (theory : Theory) (w : Windows) (q : Query Offer) (v : Sought) (ps qs : List PlacedPlan) → v ≡ kinds_sought q →
    flat_map (plans_sought v) ps ≡ flat_map (plans_sought v) qs → trees_sought theory w q ps ≡ trees_sought theory w q qs
sought_alone theory w q v ps qs e f =
    ap (λ u. trees_in theory w q (flat_map (plans_sought u) ps)) (sym e)
    ∙ ap (trees_in theory w q) f
    ∙ ap (λ u. trees_in theory w q (flat_map (plans_sought u) qs)) e

module _ (s : KnownTree) (q : Query Offer) (l : List (OrGap Derivation)) (x : OrGap Derivation) (rest : List (OrGap Derivation))
    (next : l ≡ x ∷ rest) where
  abbrev verdict : Derivation → Option Bool
  verdict = verdict_for (theory_of s.algebra.now) (windows_in s.windows.now) (stored s.pieces.now) (shape_of s.tree.now) q

  pub first_after : first_of_those s q l ≡ first_then (first_of_those s q (x ∷ [])) (first_of_those s q rest)
  first_after = ap (first_of_those s q) next ∙ first_from verdict x rest

  pub all_after : all_of_those s q l ≡ all_then (first_of_those s q (x ∷ [])) (all_of_those s q rest)
  all_after = ap (all_of_those s q) next ∙ all_from verdict x rest

  pub held_after : is_held_among s q l ≡ is_held_among s q (x ∷ []) || is_held_among s q rest
  held_after = ap (is_held_among s q) next ∙ held_from verdict (jobs_of (stored s.pieces.now) (shape_of s.tree.now)) x rest

  abbrev jobs : Question Derivation → List NodeJob
  jobs = jobs_of (stored s.pieces.now) (shape_of s.tree.now)

  pub first_more : is_held_among s q (x ∷ []) ≡ false → jobs_to_first_of s q l ≡ jobs_to_all_of s q (x ∷ []) ++ jobs_to_first_of s q rest
  first_more h = ap (jobs_to_first_of s q) next ∙ more_to_first verdict jobs x rest h

  pub first_end : is_held_among s q (x ∷ []) ≡ true → jobs_to_first_of s q l ≡ jobs_to_all_of s q (x ∷ [])
  first_end h = ap (jobs_to_first_of s q) next ∙ end_to_first verdict jobs x rest h

  pub all_more : jobs_to_all_of s q l ≡ jobs_to_all_of s q (x ∷ []) ++ jobs_to_all_of s q rest
  all_more = ap (jobs_to_all_of s q) next ∙ more_to_all verdict jobs x rest

  -- what is taken on at one met thing, and then behind it
  module _ (step : List NodeJob → NodeJob → List NodeJob) (old new : List NodeJob)
      (taken : new ≡ taken_on step old (jobs_to_all_of s q (x ∷ []))) where
    behind : (js : List NodeJob) → taken_on step old (jobs_to_all_of s q (x ∷ []) ++ js) ≡ taken_on step new js
    behind js = fold-append step old (jobs_to_all_of s q (x ∷ [])) js ∙ ap (λ z. taken_on step z js) (sym taken)

    pub taken_first : is_held_among s q (x ∷ []) ≡ false →
        taken_on step old (jobs_to_first_of s q l) ≡ taken_on step new (jobs_to_first_of s q rest)
    taken_first h = ap (taken_on step old) (first_more h) ∙ behind (jobs_to_first_of s q rest)

    pub taken_end : is_held_among s q (x ∷ []) ≡ true → taken_on step old (jobs_to_first_of s q l) ≡ new
    taken_end h = ap (taken_on step old) (first_end h) ∙ sym taken

    pub taken_all : taken_on step old (jobs_to_all_of s q l) ≡ taken_on step new (jobs_to_all_of s q rest)
    taken_all = ap (taken_on step old) all_more ∙ behind (jobs_to_all_of s q rest)

  -- one more tree was found
  pub all_found : (whole : Option (List Derivation)) (xs ys : List Rules) (tree : Rules) (f : First Rules) →
      whole ≡ and_more (map derivation_of xs) (all_of_those s q l) → first_of derivation_of f ≡ first_of_those s q (x ∷ []) →
      f ≡ Is tree → ys ≡ xs ++ tree ∷ [] → whole ≡ and_more (map derivation_of ys) (all_of_those s q rest)
  all_found whole xs ys tree f so e is pushed =
      so
      ∙ ap (and_more (map derivation_of xs))
      (all_after ∙ ap (λ o. all_then o (all_of_those s q rest)) (sym e ∙ ap (first_of derivation_of) is))
      ∙ one_more (map derivation_of xs) (derivation_of tree) (all_of_those s q rest)
      ∙ ap (λ zs. and_more zs (all_of_those s q rest)) (sym (ap (map derivation_of) pushed ∙ map-append derivation_of xs (tree ∷ [])))

-- what a search for the first tree, or for all, still asks, one met thing after another
pub ruleset first_asked = (taken_first, taken_end, held_after)

pub ruleset all_asked = (taken_all, held_after)
