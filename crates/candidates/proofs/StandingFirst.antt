-- Which gaps stand first among the trees of a known tree tells what a search comes to, and what it asks first.
use Rattle.std.proofs.Common.{ℕ, ◌≡◌, ◌++◌, ◌∙◌, List, [], ◌∷◌, length, map, nat_eq, nat_lt, refl, sym, ap, subst, Some, None, Bool, true, false}
use Rattle.std.proofs.lemmas.List.{append-nil}
use Rattle.std.proofs.lemmas.List.Sums.{fold-append}
use Rattle.spec_core.specs.Theories.{theory_of}
use Rattle.rule_model.specs.declared.offer.Offer.{Offer}
use Rattle.rule_model.specs.Derivations.{Derivation}
use Rattle.decision_trees.specs.Gaps.{OrGap, gap, element}
use Rattle.decision_trees.specs.Rules.{Query}
use Rattle.decision_order.specs.Jobs.{taken_on}
use Rattle.candidate_laws.specs.Sought.{Sought}
use Rattle.candidate_search.specs.Searches.{asked_from}
use Rattle.node_trees.specs.declared.origin.Gen.{Gen}
use Rattle.node_trees.specs.Shapes.{shape_of}
use Rattle.symbolic_rules.specs.Tables.{windows_in}
use Rattle.candidate_composites.specs.declared.foremost.Foremost.{Foremost}
use Rattle.candidate_composites.specs.Foremost.{IsForemost, StandFirst, gaps_of}
use Rattle.candidate_composites.specs.Known.{placed_plans, sought_plans}
use Rattle.candidate_composites.proofs.StandingFirst.{filled}
use Rattle.candidates.specs.declared.composites.Composites.TheVariants.{Unlisted}
use Rattle.candidates.specs.Composites.{listed_or}
use Rattle.candidates.specs.Jobs.{NodeJob, to_expand, expansions_of}
use Rattle.candidates.specs.Listed.{kinds_sought, trees_sought}
use Rattle.candidates.specs.KnownTrees.{first_of_those, all_of_those, jobs_to_first_of, jobs_to_all_of, is_held_among, trees_for}
use Rattle.candidates.specs.KnownTrees.{with_job_in}
use Rattle.candidates.specs.Models.{job_of}
use Rattle.candidates.specs.declared.known_tree.KnownTree.{KnownTree}
use Rattle.candidates.proofs.Taking.{no_room, taken_again}

-- of what is sought of the tree, and so of its trees for which the query may ask
pub foremost_unlisted : (s : KnownTree) (q : Query Offer) (f : Foremost) (v : Sought) → s.composites ≡ Unlisted → v ≡ kinds_sought q →
    IsForemost f (sought_plans (theory_of s.algebra.now) (shape_of s.tree.now) v) → IsForemost f (trees_for s q)
foremost_unlisted s q f v u e h =
    let theory = theory_of s.algebra.now in
    let w = windows_in s.windows.now in
    let t = shape_of s.tree.now in
    subst (λ c. IsForemost f (trees_sought theory w q (listed_or c (placed_plans theory t)))) (sym u)
    (filled (λ p. map element (asked_from theory w q p 0)) f.alone f.gaps.items (sought_plans theory t (kinds_sought q))
    (subst (λ k. IsForemost f (sought_plans theory t k)) e h))

-- no gap is told
pub none_told : (alone : Bool) (gens : List Gen) (l : List (OrGap Derivation)) → alone ≡ false → gens ≡ [] → StandFirst alone gens l
none_told alone gens l a e = subst (λ b. StandFirst b gens l) (sym a) (l, ap (λ ns. gaps_of ns ++ l) (sym e))

module _ (s : KnownTree) (q : Query Offer) (alone : Bool) (gens : List Gen) (l : List (OrGap Derivation)) (so : StandFirst alone gens l) where
  -- a gap stands first
  starts : (n : Gen) (ns : List Gen) → gens ≡ n ∷ ns → (rest : List (OrGap Derivation)) × (l ≡ gap n.0 ∷ rest)
  starts n ns e = by_end alone (subst (λ ms. StandFirst alone ms l) e so)
    where
      by_end : (b : Bool) → StandFirst b (n ∷ ns) l → (rest : List (OrGap Derivation)) × (l ≡ gap n.0 ∷ rest)
      by_end true h = (gaps_of ns, h)
      by_end false h = (gaps_of ns ++ h.0, h.1)

  -- whether there is a gap
  open_where : (b : Bool) → b ≡ nat_eq (length gens) 0 → b ≡ false → (P : List (OrGap Derivation) → Type 0) →
      ((n : ℕ) (rest : List (OrGap Derivation)) → P (gap n ∷ rest)) → P l
  open_where b e f P h = by_gaps gens refl
    where
      by_gaps : (ns : List Gen) → gens ≡ ns → P l
      by_gaps [] d = let no : false ≡ true = sym f ∙ e ∙ ap (λ ms. nat_eq (length ms) 0) d in absurd cc
      by_gaps (n ∷ ns) d = let r = starts n ns d in subst P (sym r.1) (h n.0 r.0)

  pub open_at_gap : (b : Bool) → b ≡ nat_eq (length gens) 0 → b ≡ false → None ≡ first_of_those s q l
  open_at_gap b e f = open_where b e f (λ k. None ≡ first_of_those s q k) (λ n rest. refl)

  pub undecided_at_gap : (b : Bool) → b ≡ nat_eq (length gens) 0 → b ≡ false → None ≡ all_of_those s q l
  undecided_at_gap b e f = open_where b e f (λ k. None ≡ all_of_those s q k) (λ n rest. refl)

  -- nothing stands there
  pub nothing : alone ≡ true → gens ≡ [] → l ≡ []
  nothing a e = subst (λ b. StandFirst b gens l) a so ∙ ap gaps_of e

  pub absent_in_none : alone ≡ true → gens ≡ [] → Some None ≡ first_of_those s q l
  absent_in_none a e = sym (ap (first_of_those s q) (nothing a e))

  pub none_in_none : alone ≡ true → gens ≡ [] → Some [] ≡ all_of_those s q l
  none_in_none a e = sym (ap (all_of_those s q) (nothing a e))

-- what is asked at gaps, and behind them

first_asked_behind : (s : KnownTree) (q : Query Offer) (gens : List Gen) (rest : List (OrGap Derivation)) →
    jobs_to_first_of s q (gaps_of gens ++ rest) ≡ expansions_of gens ++ jobs_to_first_of s q rest
first_asked_behind s q [] rest = refl
first_asked_behind s q (n ∷ gens) rest = ap (λ z. to_expand n.0 ∷ z) (first_asked_behind s q gens rest)

all_asked_behind : (s : KnownTree) (q : Query Offer) (gens : List Gen) (rest : List (OrGap Derivation)) →
    jobs_to_all_of s q (gaps_of gens ++ rest) ≡ expansions_of gens ++ jobs_to_all_of s q rest
all_asked_behind s q [] rest = refl
all_asked_behind s q (n ∷ gens) rest = ap (λ z. to_expand n.0 ∷ z) (all_asked_behind s q gens rest)

none_held_at : (s : KnownTree) (q : Query Offer) (gens : List Gen) → is_held_among s q (gaps_of gens) ≡ false
none_held_at s q [] = refl
none_held_at s q (n ∷ gens) = none_held_at s q gens

-- with nothing behind them
as_alone : (gens : List Gen) (l : List (OrGap Derivation)) → l ≡ gaps_of gens → l ≡ gaps_of gens ++ []
as_alone gens l e = e ∙ sym (append-nil (gaps_of gens))

-- these stand behind them
rest_of : (alone : Bool) (gens : List Gen) (l : List (OrGap Derivation)) → StandFirst alone gens l →
    (rest : List (OrGap Derivation)) × (l ≡ gaps_of gens ++ rest)
rest_of true gens l h = ([], as_alone gens l h)
rest_of false gens l h = h

-- The gaps are taken on first. Then they are all, or there is no room for more, or they are met once more.
module _ (s : KnownTree) (q : Query Offer) (limit : ℕ) (alone : Bool) (gens : List Gen) (l : List (OrGap Derivation))
    (so : StandFirst alone gens l) (old new : List NodeJob) (taken : new ≡ taken_on (with_job_in s limit) old (expansions_of gens)) where
  abbrev step : List NodeJob → NodeJob → List NodeJob
  step = with_job_in s limit

  -- the jobs of a search begin with theirs
  abbrev BeginWith : List NodeJob → Type 0
  BeginWith js = (more : List NodeJob) × (js ≡ expansions_of gens ++ more)

  first_begin : BeginWith (jobs_to_first_of s q l)
  first_begin =
      let r = rest_of alone gens l so in
      (jobs_to_first_of s q r.0, ap (jobs_to_first_of s q) r.1 ∙ first_asked_behind s q gens r.0)

  all_begin : BeginWith (jobs_to_all_of s q l)
  all_begin =
      let r = rest_of alone gens l so in
      (jobs_to_all_of s q r.0, ap (jobs_to_all_of s q) r.1 ∙ all_asked_behind s q gens r.0)

  -- what is taken on of such jobs
  begun : (js : List NodeJob) (b : BeginWith js) → taken_on step old js ≡ taken_on step new b.0
  begun js b =
      ap (taken_on step old) b.1 ∙ fold-append step old (expansions_of gens) b.0 ∙ ap (λ z. taken_on step z b.0) (sym taken)

  full : (js : List NodeJob) → BeginWith js → nat_lt (length new) limit ≡ false → new ≡ taken_on step old js
  full js b e = sym (begun js b ∙ no_room limit (map job_of s.out.now) new b.0 e)

  once_more : (js : List NodeJob) → BeginWith js → taken_on step new js ≡ taken_on step old js
  once_more js b =
      ap (taken_on step new) b.1
      ∙ fold-append step new (expansions_of gens) b.0
      ∙ ap (λ z. taken_on step z b.0)
      (ap (λ z. taken_on step z (expansions_of gens)) taken ∙ taken_again limit (map job_of s.out.now) old gens ∙ sym taken)
      ∙ sym (begun js b)

  pub first_alone : alone ≡ true → new ≡ taken_on step old (jobs_to_first_of s q l)
  first_alone a =
      taken
      ∙ ap (taken_on step old)
      (sym (ap (jobs_to_first_of s q) (as_alone gens l (subst (λ b. StandFirst b gens l) a so)) ∙ first_asked_behind s q gens []
      ∙ append-nil (expansions_of gens)))

  pub all_alone : alone ≡ true → new ≡ taken_on step old (jobs_to_all_of s q l)
  all_alone a =
      taken
      ∙ ap (taken_on step old)
      (sym (ap (jobs_to_all_of s q) (as_alone gens l (subst (λ b. StandFirst b gens l) a so)) ∙ all_asked_behind s q gens []
      ∙ append-nil (expansions_of gens)))

  pub none_held : alone ≡ true → is_held_among s q l ≡ false
  none_held a = ap (is_held_among s q) (subst (λ b. StandFirst b gens l) a so) ∙ none_held_at s q gens

  pub first_full : nat_lt (length new) limit ≡ false → new ≡ taken_on step old (jobs_to_first_of s q l)
  first_full e = full (jobs_to_first_of s q l) first_begin e

  pub all_full : nat_lt (length new) limit ≡ false → new ≡ taken_on step old (jobs_to_all_of s q l)
  all_full e = full (jobs_to_all_of s q l) all_begin e

  pub first_past : taken_on step new (jobs_to_first_of s q l) ≡ taken_on step old (jobs_to_first_of s q l)
  first_past = once_more (jobs_to_first_of s q l) first_begin

  pub all_past : taken_on step new (jobs_to_all_of s q l) ≡ taken_on step old (jobs_to_all_of s q l)
  all_past = once_more (jobs_to_all_of s q l) all_begin
