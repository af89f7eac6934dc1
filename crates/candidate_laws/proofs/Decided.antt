-- What is decided from what is known is the next entry of the behaviour that the tree stands for.
use Rattle.std.proofs.Common.{◌≡◌, ◌∙◌, List, filter, flat_map, map, refl, sym, ap, subst, Bool, true, length}
use Rattle.spec_core.specs.Lists.{IsOneOf}
use Rattle.spec_core.proofs.Lists.{flat_map_same}
use Rattle.rule_model.specs.declared.rules.Slot.{Slot}
use Rattle.rule_model.specs.Derivations.{Derivation}
use Rattle.rule_model.specs.States.{PendingOffer}
use Rattle.symbolic_rules.specs.MarkedTerms.{unmarked}
use Rattle.decision_trees.specs.Decisions.{Answers}
use Rattle.decision_trees.specs.Lazy.{of_list, whole}
use Rattle.decision_trees.specs.Rules.{Next, next_of, decision}
use Rattle.decision_trees.proofs.Asking.{decided_is_so}
use Rattle.decision_trees.proofs.Following.{decision_is_next}
use Rattle.decision_trees.proofs.Searching.{searches_are_so}
use Rattle.symbolic_composites.specs.OpenFields.{all_choices, choices_at_once}
use Rattle.symbolic_composites.specs.Composites.{Composite, composites, filled}
use Rattle.symbolic_composites.specs.TreeLists.{offered}
use Rattle.node_trees.specs.Shapes.{stands_for}
use Rattle.candidate_laws.specs.Asked.{offer_in}
use Rattle.candidate_laws.specs.TreeLaws.{EntryHolds, lists_of}
use Rattle.candidate_laws.proofs.TreeEntries.{next_entries_hold}
use Rattle.candidate_laws.specs.Sought.{is_sought}
use Rattle.candidate_laws.specs.Waiting.{Candidate, candidate, with_trees, sought_by, may_be_asked, trees_asked, waiting_composites, waiting_trees}
use Rattle.candidate_laws.specs.ListLaws.{answers_by, ListsAreThose, DecidedEntriesHold}
use Rattle.candidate_laws.proofs.Lists.{flat_same_in, filter_flat, filter_passed, filter_back, map_flat, flat_left}
use Rattle.candidate_laws.proofs.Composites.{whole_composites}
use Rattle.candidate_laws.proofs.Asking.{asked_may_be, none_asked}
use Rattle.candidate_laws.proofs.ListEntries.{next_same}

pub lists_are_those : ListsAreThose
lists_are_those program e size w t is_asked answered items h q =
    let s = answers_by is_asked items in
    let r : Answers Composite Composite = record { items = items; verdict = λ c. true } in
    let searches = searches_are_so Composite Composite Candidate Composite Composite in
    let lists = searches_are_so Composite Candidate Candidate Composite Composite in
    let f : Composite → List Candidate = λ c. map (candidate q) (trees_asked program.theory w q c) in
    let cs = composites program.theory e w (length program.code) unmarked (stands_for program t) in
    let asked : Derivation → Bool = is_asked q in
    let back : Candidate → Derivation = λ a. a.tree in
    let choices : Composite → List (List Slot) = λ c. all_choices program.theory w (offered (offer_in q)) c.fields in
    let whole_is : whole s (waiting_trees program.theory w t q) ≡ flat_map f cs =
    searches.flat r s (λ g. refl) (λ c. of_list (f c)) (waiting_composites program.theory w t (sought_by q)) ∙
    flat_map_same (λ c. whole s (of_list {I = Composite} (f c))) f (whole r (waiting_composites program.theory w t (sought_by q)))
    (λ c. lists.listed s (f c)) ∙
    ap (flat_map f) (whole_composites program e w r t h (sought_by q)) ∙
    flat_left (λ (c : Composite). is_sought (sought_by q) c.kind) f cs (λ c i. ap (map (candidate q)) (none_asked program.theory w c q i)) in
    let each_one : (c : Composite) → IsOneOf c cs → filter asked (trees_asked program.theory w q c) ≡ filter asked (filled c (choices c)) =
    λ c i.
    sym (filter_flat asked (λ z. filter (may_be_asked program.theory w q c z) (c.trees z)) (choices_at_once c.fields (choices c))) ∙
    flat_map_same (λ z. filter asked (filter (may_be_asked program.theory w q c z) (c.trees z))) (λ z. filter asked (c.trees z))
    (choices_at_once c.fields (choices c))
    (λ z. filter_passed (may_be_asked program.theory w q c z) asked (c.trees z)
    (λ d there k. asked_may_be program e answered.exact w (stands_for program t) c i z d there q ((answered.tests q d).0 k))) ∙
    filter_flat asked c.trees (choices_at_once c.fields (choices c)) in
    ap (λ z. map back (filter s.verdict z)) whole_is ∙
    ap (map back) (sym (filter_flat s.verdict f cs)) ∙
    map_flat back (λ c. filter s.verdict (f c)) cs ∙
    flat_map_same (λ c. map back (filter s.verdict (f c))) (λ c. filter asked (trees_asked program.theory w q c)) cs
    (λ c. filter_back (candidate q) back s.verdict (trees_asked program.theory w q c) (λ d. refl)) ∙
    flat_same_in (λ c. filter asked (trees_asked program.theory w q c)) (λ c. filter asked (filled c (choices c))) cs each_one ∙
    filter_flat asked (λ c. filled c (choices c)) cs

pub decided_entries_hold : DecidedEntriesHold
decided_entries_hold program e size w t is_asked known h state sound entry q =
    let s = answers_by is_asked h.items in
    let lazy = waiting_trees program.theory w t in
    let lists = lists_of program e w (stands_for program t) is_asked in
    let same : (λ z. map (λ (a : Candidate). a.tree) (filter s.verdict (whole s (lazy z)))) ≡ lists =
    λ i z. lists_are_those program e size w t is_asked h.answered h.items h.are_items z i in
    let next : with_trees entry ≡ next_of lists state =
    ap with_trees
    (sym (decided_is_so Composite Candidate (Next PendingOffer Candidate) known (decision lazy state) entry s h.extends q) ∙
    decision_is_next Composite PendingOffer Candidate lazy state s) ∙
    next_same (λ z. filter s.verdict (whole s (lazy z))) state ∙ ap (λ z. next_of z state) same in (
      next,
      subst (EntryHolds program w (stands_for program t) state) (sym next)
          (next_entries_hold program e size w (stands_for program t) is_asked h.answered state sound),
    )
