-- The jobs that searches ask are of nodes of the tree, and aren't done; parts to be judged are of trees for which a query may ask.
use Rattle.std.proofs.Common.{ℕ, ◌≡◌, ◌++◌, inl, inr, List, [], ◌∷◌, map, flat_map, refl, subst, Option, Some, None, Bool, true, false}
use Rattle.std.proofs.Common.{if◌then◌else◌}
use Rattle.spec_core.specs.Lists.{Each, IsOneOf}
use Rattle.spec_core.specs.Theories.{Theory}
use Rattle.spec_core.specs.Code.{Synchronised}
use Rattle.spec_core.proofs.Members.{each_one}
use Rattle.spec_core.proofs.Lists.{each_flat_map, each_append, each_implied}
use Rattle.rule_model.specs.Derivations.{Derivation}
use Rattle.rule_model.specs.States.{PendingOffer}
use Rattle.symbolic_rules.specs.Windows.{Windows}
use Rattle.decision_trees.specs.Decisions.{Question, expand, judge}
use Rattle.decision_trees.specs.Known.{known_or, unless_known}
use Rattle.decision_trees.specs.Gaps.{OrGap, element, gap, in_its_place, missing_to_first, all_missing}
use Rattle.decision_trees.specs.Rules.{Query, meeting, any, unseen, beyond, any_beyond, beyond_or_unseen, Waiting, when}
use Rattle.decision_order.specs.Needed.{first_needed, unseen_needed, asked_needed, marked_needed, unmet_needed, next_needed}
use Rattle.symbolic_composites.specs.Kinds.{is_joint}
use Rattle.symbolic_plans.specs.declared.scheme.Row.TheVariants.{Chl, Chr, Parl, Parr, Distake}
use Rattle.symbolic_plans.specs.OpenPlans.{OpenPlan, under_row, plans_alone, plans_joint, plan_by_disabling}
use Rattle.candidate_laws.specs.Asked.{TreeQuery}
use Rattle.candidate_search.specs.Searches.{for_offer, asked_from}
use Rattle.candidate_laws.specs.Sought.{Sought}
use Rattle.node_trees.specs.Rests.{Work}
use Rattle.node_trees.specs.Shapes.{Held, Shape, leaf, ended, over, between, Unary, Binary, choosing, beside, disabling, under, first_of}
use Rattle.node_trees.specs.Shapes.{second_of, Lives}
use Rattle.candidate_composites.specs.Known.{PlanOrGap, turned, each_turned, over_one, plans_at, partners, over_two, known_plans}
use Rattle.candidate_composites.specs.Known.{sought_plans}
use Rattle.candidate_count.proofs.Placed.{sought_plans_are_known}
use Rattle.candidate_verdicts.specs.Known.{Pieces, missing_parts}
use Rattle.candidate_verdicts.proofs.Missing.{missing_parts_are_missing}
use Rattle.candidates.specs.Listed.{kinds_sought, tree_verdict, known_trees, asked_for_first, asked_for_all, is_known_to_hold}
use Rattle.candidates.specs.Jobs.{NodeJob, to_expand, to_judge, jobs_of, all_jobs}
use Rattle.board_laws.specs.Needed.{jobs_needed, generation_of, Waits, IsOfRules, IsGapOfQuery, IsPartOfTree, IsUndone}
use Rattle.board_laws.specs.NeededLaws.{NeededJobsLive, NeededJobsAreUndone, NeededNodesAreGaps, NeededPartsAreOfTrees}
use Rattle.board_laws.proofs.Elements.{AreElements, elements_listed}
use Rattle.board_laws.proofs.NeededLists.{each_map, each_listed}

-- P holds of the number of each gap
abbrev AreGaps : {A : Type 0} → (ℕ → Type 0) → List (OrGap A) → Type 0
AreGaps P [] = Unit {0}
AreGaps P (element a ∷ l) = AreGaps P l
AreGaps P (gap g ∷ l) = P g × AreGaps P l

gaps_more : {A : Type 0} (P Q : ℕ → Type 0) → ((g : ℕ) → P g → Q g) → (l : List (OrGap A)) → AreGaps P l → AreGaps Q l
gaps_more P Q f [] h = tt
gaps_more P Q f (element a ∷ l) h = gaps_more P Q f l h
gaps_more P Q f (gap g ∷ l) h = (f g h.0, gaps_more P Q f l h.1)

gaps_listed : {A : Type 0} (l : List (OrGap A)) → AreGaps (λ g. IsOneOf (gap g) l) l
gaps_listed [] = tt
gaps_listed (element a ∷ l) =
    gaps_more (λ g. IsOneOf (gap g) l) (λ g. IsOneOf (gap g) (element a ∷ l)) (λ g i. inr i) l (gaps_listed l)
gaps_listed (gap h ∷ l) =
    (inl refl, gaps_more (λ g. IsOneOf (gap g) l) (λ g. IsOneOf (gap g) (gap h ∷ l)) (λ g i. inr i) l (gaps_listed l))

gap_holds : {A : Type 0} (P : ℕ → Type 0) (l : List (OrGap A)) (g : ℕ) → AreGaps P l → IsOneOf (gap g) l → P g
gap_holds P [] g h i = absurd i
gap_holds P (element a ∷ l) g h (inl e) = let never : ⊥ = cc in absurd never
gap_holds P (element a ∷ l) g h (inr i) = gap_holds P l g h i
gap_holds P (gap n ∷ l) g h (inl e) = let same : n ≡ g = cc in subst P same h.0
gap_holds P (gap n ∷ l) g h (inr i) = gap_holds P l g h.1 i

gaps_both : {A : Type 0} (P Q : ℕ → Type 0) (l : List (OrGap A)) → AreGaps P l → AreGaps Q l → AreGaps (λ g. P g × Q g) l
gaps_both P Q [] h k = tt
gaps_both P Q (element a ∷ l) h k = gaps_both P Q l h k
gaps_both P Q (gap g ∷ l) h k = ((h.0, k.0), gaps_both P Q l h.1 k.1)

module _ (P : ℕ → Type 0) where
  no_gaps : {A : Type 0} (xs : List A) → AreGaps P (map element xs)
  no_gaps [] = tt
  no_gaps (x ∷ xs) = no_gaps xs

  gaps_join : {A : Type 0} (l m : List (OrGap A)) → AreGaps P l → AreGaps P m → AreGaps P (l ++ m)
  gaps_join [] m h k = k
  gaps_join (element a ∷ l) m h k = gaps_join l m h k
  gaps_join (gap g ∷ l) m h k = (h.0, gaps_join l m h.1 k)

  gaps_placed : {A B : Type 0} (f : A → List (OrGap B)) → ((a : A) → AreGaps P (f a)) → (l : List (OrGap A)) → AreGaps P l →
      AreGaps P (flat_map (in_its_place f) l)
  gaps_placed f h [] k = tt
  gaps_placed f h (element a ∷ l) k = gaps_join (f a) (flat_map (in_its_place f) l) (h a) (gaps_placed f h l k)
  gaps_placed f h (gap g ∷ l) k = (k.0, gaps_placed f h l k.1)

  gaps_turned : (f : OpenPlan → OpenPlan) (ps : List PlanOrGap) → AreGaps P ps → AreGaps P (map (turned f) ps)
  gaps_turned f [] h = tt
  gaps_turned f (element p ∷ ps) h = gaps_turned f ps h
  gaps_turned f (gap g ∷ ps) h = (h.0, gaps_turned f ps h.1)

  gaps_each : (f : OpenPlan → List OpenPlan) (ps : List PlanOrGap) → AreGaps P ps → AreGaps P (each_turned f ps)
  gaps_each f ps h = gaps_placed (λ p. map element (f p)) (λ p. no_gaps (f p)) ps h

  module _ (theory : Theory) where
    gaps_partners : (gates : Synchronised) (qs : List PlanOrGap) → AreGaps P qs → (p : OpenPlan) → AreGaps P (partners theory gates qs p)
    gaps_partners gates qs h p = by_test (is_joint gates p.kind)
      where
        by_test : (b : Bool) → AreGaps P (if b then each_turned (plans_joint theory gates p) qs else [])
        by_test true = gaps_each (plans_joint theory gates p) qs h
        by_test false = tt

    gaps_two : (o : Binary) (ps qs : List PlanOrGap) → AreGaps P ps → AreGaps P qs → AreGaps P (over_two theory o ps qs)
    gaps_two choosing ps qs h k =
        gaps_join (map (turned (under_row Chl)) ps) (map (turned (under_row Chr)) qs) (gaps_turned (under_row Chl) ps h)
        (gaps_turned (under_row Chr) qs k)
    gaps_two (beside gates) ps qs h k =
        let right = each_turned (plans_alone gates Parr) qs in
        let both = flat_map (in_its_place (partners theory gates qs)) ps in
        gaps_join (each_turned (plans_alone gates Parl) ps) (right ++ both) (gaps_each (plans_alone gates Parl) ps h)
        (gaps_join right both (gaps_each (plans_alone gates Parr) qs k)
        (gaps_placed (partners theory gates qs) (gaps_partners gates qs k) ps h))
    gaps_two disabling ps qs h k =
        gaps_join (map (turned plan_by_disabling) ps) (map (turned (under_row Distake)) qs) (gaps_turned plan_by_disabling ps h)
        (gaps_turned (under_row Distake) qs k)

waits_under : (o : Unary) (x : Shape) (g : ℕ) → Waits x g → Waits (over o x) g
waits_under o x g h =
    record { node = h.node; is = record { up = under o ∷ h.is.up; stands = (refl, h.is.stands); same = h.is.same }; waits = h.waits }

waits_left : (o : Binary) (x y : Shape) (g : ℕ) → Waits x g → Waits (between o x y) g
waits_left o x y g h =
    record { node = h.node; is = record { up = first_of o ∷ h.is.up; stands = (refl, h.is.stands); same = h.is.same }; waits = h.waits }

waits_right : (o : Binary) (x y : Shape) (g : ℕ) → Waits y g → Waits (between o x y) g
waits_right o x y g h =
    record { node = h.node; is = record { up = second_of o ∷ h.is.up; stands = (refl, h.is.stands); same = h.is.same }; waits = h.waits }

at_leaf : (n : Held) (o : Option Work) → n.work ≡ o → AreGaps (Waits (leaf n)) (plans_at n.generation o)
at_leaf n None e = (record { node = n; is = record { up = []; stands = refl; same = refl }; waits = e }, tt)
at_leaf n (Some work) e = no_gaps (Waits (leaf n)) work.plans

-- a node of each gap's generation waits
gaps_wait : (theory : Theory) (t : Shape) → AreGaps (Waits t) (known_plans theory t)
gaps_wait theory (leaf n) = at_leaf n n.work refl
gaps_wait theory ended = tt
gaps_wait theory (over o x) =
    gaps_turned (Waits (over o x)) (over_one o) (known_plans theory x)
    (gaps_more (Waits x) (Waits (over o x)) (waits_under o x) (known_plans theory x) (gaps_wait theory x))
gaps_wait theory (between o x y) =
    gaps_two (Waits (between o x y)) theory o (known_plans theory x) (known_plans theory y)
    (gaps_more (Waits x) (Waits (between o x y)) (waits_left o x y) (known_plans theory x) (gaps_wait theory x))
    (gaps_more (Waits y) (Waits (between o x y)) (waits_right o x y) (known_plans theory y) (gaps_wait theory y))

-- also of each gap that is sought
sought_wait : (theory : Theory) (t : Shape) (v : Sought) → AreGaps (Waits t) (sought_plans theory t v)
sought_wait theory t v =
    gaps_more (λ g. IsOneOf (gap g) (sought_plans theory t v)) (Waits t)
    (λ g i. gap_holds (Waits t) (known_plans theory t) g (gaps_wait theory t) (sought_plans_are_known theory t v (gap g) i))
    (sought_plans theory t v) (gaps_listed (sought_plans theory t v))

-- and of each gap among the trees for which a query may ask
trees_wait : (theory : Theory) (w : Windows) (t : Shape) (q : TreeQuery) → AreGaps (Waits t) (known_trees theory w t q)
trees_wait theory w t q =
    gaps_placed (Waits t) (λ p. map element (asked_from theory w (for_offer q) p 0))
    (λ p. no_gaps (Waits t) (asked_from theory w (for_offer q) p 0)) (sought_plans theory t (kinds_sought (for_offer q)))
    (sought_wait theory t (kinds_sought (for_offer q)))

pub gap_waits : (theory : Theory) (w : Windows) (t : Shape) (q : TreeQuery) (g : ℕ) → IsOneOf (gap g) (known_trees theory w t q) → Waits t g
gap_waits theory w t q g i = gap_holds (Waits t) (known_trees theory w t q) g (trees_wait theory w t q) i

-- P holds of the number of a node that is to be expanded, and R of what is to be judged
abbrev OfQuestion : {A : Type 0} → (ℕ → Type 0) → (A → Type 0) → Question A → Type 0
OfQuestion P R (expand g) = P g
OfQuestion P R (judge a) = R a

module _ {A : Type 0} (P : ℕ → Type 0) (R : A → Type 0) (verdict : A → Option Bool) where
  asked_to_first : (l : List (OrGap A)) → AreGaps P l → AreElements R l → Each (OfQuestion P R) (missing_to_first verdict l)
  asked_to_first [] h k = tt
  asked_to_first (gap g ∷ l) h k = (h.0, asked_to_first l h.1 k)
  asked_to_first (element a ∷ l) h k = by_verdict (verdict a) (asked_to_first l h k.1)
    where
      by_verdict : (o : Option Bool) → Each (OfQuestion P R) (missing_to_first verdict l) →
          Each (OfQuestion P R) (unless_known o (judge a) (if known_or o false then [] else missing_to_first verdict l))
      by_verdict None r = (k.0, r)
      by_verdict (Some true) r = tt
      by_verdict (Some false) r = r

  asked_to_all : (l : List (OrGap A)) → AreGaps P l → AreElements R l → Each (OfQuestion P R) (all_missing verdict l)
  asked_to_all [] h k = tt
  asked_to_all (gap g ∷ l) h k = (h.0, asked_to_all l h.1 k)
  asked_to_all (element a ∷ l) h k = by_verdict (verdict a) (asked_to_all l h k.1)
    where
      by_verdict : (o : Option Bool) → Each (OfQuestion P R) (all_missing verdict l) →
          Each (OfQuestion P R) (unless_known o (judge a) (all_missing verdict l))
      by_verdict None r = (k.0, r)
      by_verdict (Some b) r = r

-- What holds of all that searches by queries of the rules ask holds of all that is asked by the rules.
module _ {P J : Type 0} (Q : J → Type 0) (missing every_missing : Query P → List J) (is_there : Query P → Bool) (w : Waiting P)
    (firsts : (q : Query P) → IsOfRules w q → Each Q (missing q)) (alls : (q : Query P) → IsOfRules w q → Each Q (every_missing q)) where
  chosen : (b : Bool) (xs ys : List J) → Each Q xs → Each Q ys → Each Q (when b xs ys)
  chosen true xs ys h k = h
  chosen false xs ys h k = k

  -- a search, and what comes behind it
  search : (b : Bool) (js xs ys : List J) → Each Q js → Each Q xs → Each Q ys → Each Q (js ++ when b xs ys)
  search b js xs ys g h k = each_append Q js (when b xs ys) g (chosen b xs ys h k)

  in_turn : (query : P → Query P) (ps : List P) (rest : List J) → Each (λ p. IsOfRules w (query p)) ps → Each Q rest →
      Each Q (first_needed missing every_missing is_there w query ps rest)
  in_turn query [] rest k h = h
  in_turn query (p ∷ ps) rest k h =
      search (is_there (query p)) (missing (query p)) [] (first_needed missing every_missing is_there w query ps rest)
      (firsts (query p) k.0) tt (in_turn query ps rest k.1 h)

  unseens : w.asks ≡ [] → w.all_wait ≡ true → Each Q (unseen_needed missing every_missing is_there w)
  unseens none all =
      search (is_there unseen) (every_missing unseen) [] (first_needed missing every_missing is_there w beyond_or_unseen w.by_client [])
      (alls unseen (none, all)) tt
      (in_turn beyond_or_unseen w.by_client []
      (each_implied (λ p. IsOneOf p w.by_client) (λ p. IsOfRules w (beyond_or_unseen p)) w.by_client (λ p i. (i, none, all))
      (each_listed w.by_client)) tt)

  asks : (ps : List P) → w.asks ≡ ps → Each Q (asked_needed missing every_missing is_there w ps)
  asks [] none = by_wait w.all_wait refl
    where
      by_wait : (b : Bool) → w.all_wait ≡ b → Each Q (when b (unseen_needed missing every_missing is_there w) [])
      by_wait true all = unseens none all
      by_wait false some = tt
  asks (p ∷ ps) first = firsts (beyond p) (ps, first)

  marked : Each Q (marked_needed missing every_missing is_there w)
  marked =
      search (is_there any_beyond) (missing any_beyond) (asked_needed missing every_missing is_there w w.asks) []
      (firsts any_beyond tt) (asks w.asks refl) tt

  unmet : Each Q (unmet_needed missing every_missing is_there w)
  unmet =
      search (is_there any) (missing any) (asked_needed missing every_missing is_there w w.asks)
      (marked_needed missing every_missing is_there w) (firsts any tt) (asks w.asks refl) marked

  each_needed : Each Q (next_needed missing every_missing is_there w)
  each_needed = in_turn meeting w.pending (unmet_needed missing every_missing is_there w) (each_listed w.pending) unmet

module _ (theory : Theory) (w : Windows) (t : Shape) (pieces : Pieces) (state : Waiting PendingOffer) where
  -- a node that is to be expanded is a gap of a query of the rules; a part that is to be judged is one of a tree for which one may ask
  abbrev IsOfQuery : NodeJob → Type 0
  IsOfQuery (to_expand g) = IsGapOfQuery theory w t state g
  IsOfQuery (to_judge part) = IsPartOfTree theory w t pieces state part

  -- the node of the job is one of the tree's, the job isn't done, and it is one of a query of the rules
  record IsIts (job : NodeJob) : Type 0 where
    pub lives : Lives t (generation_of job)
    pub undone : IsUndone pieces t job
    pub of_query : IsOfQuery job

  module _ (q : TreeQuery) (of_rules : IsOfRules state q) where
    abbrev Listed : Derivation → Type 0
    Listed d = IsOneOf (element d) (known_trees theory w t q)

    abbrev Awaited : ℕ → Type 0
    Awaited g = Waits t g × IsOneOf (gap g) (known_trees theory w t q)

    jobs_are : (x : Question Derivation) → OfQuestion Awaited Listed x → Each IsIts (jobs_of pieces t x)
    jobs_are (expand g) h = (
      record {
        lives = record { node = h.0.node; is = h.0.is };
        undone = h.0;
        of_query = record { query = q; of_rules = of_rules; listed = h.1 };
      },
      tt,
    )
    jobs_are (judge d) h =
        let m = missing_parts_are_missing theory w pieces t d in
        each_map IsIts to_judge (missing_parts pieces t d)
        (λ p i. record {
          lives = m.lives p i;
          undone = m.unknown p i;
          of_query = record { query = q; of_rules = of_rules; tree = d; listed = h; missing = i };
        })

    all_are : (xs : List (Question Derivation)) → Each (OfQuestion Awaited Listed) xs → Each IsIts (all_jobs pieces t xs)
    all_are xs h = each_flat_map (OfQuestion Awaited Listed) IsIts (jobs_of pieces t) xs jobs_are h

    awaited : AreGaps Awaited (known_trees theory w t q)
    awaited =
        gaps_both (Waits t) (λ g. IsOneOf (gap g) (known_trees theory w t q)) (known_trees theory w t q) (trees_wait theory w t q)
        (gaps_listed (known_trees theory w t q))

    first_are : Each IsIts (all_jobs pieces t (asked_for_first theory w pieces t q))
    first_are =
        all_are (asked_for_first theory w pieces t q)
        (asked_to_first Awaited Listed (tree_verdict theory w pieces t q) (known_trees theory w t q) awaited
        (elements_listed (known_trees theory w t q)))

    every_are : Each IsIts (all_jobs pieces t (asked_for_all theory w pieces t q))
    every_are =
        all_are (asked_for_all theory w pieces t q)
        (asked_to_all Awaited Listed (tree_verdict theory w pieces t q) (known_trees theory w t q) awaited
        (elements_listed (known_trees theory w t q)))

  each_is_its : (job : NodeJob) → IsOneOf job (jobs_needed theory w t pieces state) → IsIts job
  each_is_its job i =
      each_one IsIts (jobs_needed theory w t pieces state) job
      (each_needed IsIts (λ q. all_jobs pieces t (asked_for_first theory w pieces t q))
      (λ q. all_jobs pieces t (asked_for_all theory w pieces t q)) (is_known_to_hold theory w pieces t) state first_are every_are) i

pub needed_jobs_live : NeededJobsLive
needed_jobs_live theory w t pieces state job i = (each_is_its theory w t pieces state job i).lives

pub needed_jobs_are_undone : NeededJobsAreUndone
needed_jobs_are_undone theory w t pieces state job i = (each_is_its theory w t pieces state job i).undone

pub needed_nodes_are_gaps : NeededNodesAreGaps
needed_nodes_are_gaps theory w t pieces state g i = (each_is_its theory w t pieces state (to_expand g) i).of_query

pub needed_parts_are_of_trees : NeededPartsAreOfTrees
needed_parts_are_of_trees theory w t pieces state part i = (each_is_its theory w t pieces state (to_judge part) i).of_query
