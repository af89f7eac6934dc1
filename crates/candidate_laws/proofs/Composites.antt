-- The composites of a tree of nodes are those of what it stands for.
use Rattle.std.proofs.Common.{◌≡◌, ◌++◌, ◌&&◌, ◌∙◌, List, [], ◌∷◌, map, flat_map, refl, sym, ap, Bool, true, false, length}
use Rattle.std.proofs.Common.{if◌then◌else◌, Option, Some, None}
use Rattle.std.proofs.lemmas.List.Elements.{filter-append}
use Rattle.spec_core.specs.Theories.{Theory}
use Rattle.spec_core.specs.Code.{Program, Synchronised}
use Rattle.spec_core.proofs.Lists.{filter_none, flat_map_same}
use Rattle.rule_model.specs.Actions.{Kind, inside}
use Rattle.rule_model.specs.Behaviours.{Behaviour}
use Rattle.rule_model.specs.Derivations.{Derivation, chl, chr, parl, parr, hiding, pass, enstep, enend, disstep, disend, distake}
use Rattle.symbolic_rules.specs.Windows.{Windows}
use Rattle.symbolic_rules.specs.MarkedTerms.{unmarked}
use Rattle.symbolic_rules.specs.MayDerive.{renamed_kind}
use Rattle.decision_trees.specs.Decisions.{Answers}
use Rattle.decision_trees.specs.Lazy.{Lazy, nil, cons, waits, of_list, joined, each, whole}
use Rattle.decision_trees.specs.Laws.{SearchesAreSo}
use Rattle.decision_trees.proofs.Searching.{searches_are_so}
use Rattle.symbolic_composites.specs.Evaluations.{Evaluation}
use Rattle.symbolic_composites.specs.Kinds.{is_alone, is_joint, is_hidden, is_end, same_kind}
use Rattle.symbolic_composites.specs.OpenFields.{OpenField, all_together}
use Rattle.symbolic_composites.specs.Composites.{Composite, composites, from_option, paired, under, relabelled, turned, alone, joint, by_hiding}
use Rattle.symbolic_composites.specs.Composites.{by_enabling, by_disabling}
use Rattle.symbolic_composites.proofs.Tests.{if_true}
use Rattle.node_trees.specs.Shapes as nodes
use Rattle.node_trees.specs.Shapes.{Above, Held, Shape, leaf, ended, over, between, Unary, hidden, enabled, Binary, choosing, beside, disabling}
use Rattle.node_trees.specs.Shapes.{Stands, stands_for, under as above_one, first_of, second_of}
use Rattle.candidate_laws.specs.Sought.{Sought, is_sought, seeks_some, under_one, by_itself, with_another, as_another, sought_below}
use Rattle.candidate_laws.specs.Waiting.{sought_of, each_as, where_asked, together, waiting_composites, AreItemsOf}
use Rattle.candidate_laws.specs.ListLaws.{CompositesAreThose}
use Rattle.candidate_laws.proofs.Lists.{flat_ones, flat_none, filter_flat, map_passed, flat_passed}
use Rattle.candidate_laws.proofs.Sought.{kinds_same, below_is_above, none_is_sought}

-- what no two may do together makes no composite
no_partner : (theory : Theory) (gates : Synchronised) (c d : Composite) → is_joint gates c.kind ≡ false → joint theory gates c d ≡ []
no_partner theory gates c d f =
    ap (λ z. if same_kind c.kind d.kind && z then made else []) f ∙ by_kind (same_kind c.kind d.kind)
  where
    made : List Composite
    made = from_option (all_together theory c.fields d.fields) (λ fields. paired c d fields ∷ [])

    by_kind : (b : Bool) → (if b && false then made else []) ≡ []
    by_kind true = refl
    by_kind false = refl

-- actions of different kinds aren't done together
no_same : (theory : Theory) (gates : Synchronised) (c d : Composite) → same_kind c.kind d.kind ≡ false → joint theory gates c d ≡ []
no_same theory gates c d f =
    ap (λ z. if z && is_joint gates c.kind then from_option (all_together theory c.fields d.fields) (λ fields. paired c d fields ∷ []) else []) f

abbrev no_composites : List Composite
no_composites = []

none_of_none : (b : Bool) → (if b then [] else []) ≡ no_composites
none_of_none true = refl
none_of_none false = refl

one_or_none : (b : Bool) (xs : List Composite) → xs ≡ [] → (if b then xs else []) ≡ []
one_or_none b xs e = ap (λ z. if b then z else []) e ∙ none_of_none b

kind_of_either : (b : Bool) (c d : Composite) → (if b then c else d).kind ≡ (if b then c.kind else d.kind)
kind_of_either true c d = refl
kind_of_either false c d = refl

same_either : (b : Bool) (k : Kind) → (if b then k else k) ≡ k
same_either true k = refl
same_either false k = refl

-- what one side does alone is sought where it is sought of that side
one_alone : (gates : Synchronised) (row : Derivation → Derivation) (v : Sought) (c : Composite) →
    (if is_sought (sought_below (by_itself gates) v) c.kind then alone gates row c else []) ≡ sought_of v (alone gates row c)
one_alone gates row v c = by_test (is_alone gates c.kind) refl
  where
    by_test : (b : Bool) → is_alone gates c.kind ≡ b →
        (if is_sought (sought_below (by_itself gates) v) c.kind then (if b then under row c ∷ [] else []) else []) ≡
        sought_of v (if b then under row c ∷ [] else [])
    by_test true f =
        ap (λ z. if z then under row c ∷ [] else [])
        (below_is_above (by_itself gates) v c.kind c.kind (if_true (is_alone gates c.kind) (Some c.kind) None f))
    by_test false f = none_of_none (is_sought (sought_below (by_itself gates) v) c.kind)

module _ (theory : Theory) (gates : Synchronised) (v : Sought) (c : Composite) where
  -- what both sides do together is of the left one's kind
  as_left : (d : Composite) (b : Bool) → is_sought v c.kind ≡ b → sought_of v (joint theory gates c d) ≡ (if b then joint theory gates c d else [])
  as_left d b f = by_test (same_kind c.kind d.kind && is_joint gates c.kind) (all_together theory c.fields d.fields) b f
    where
      by_test : (t : Bool) (o : Option (List OpenField)) (b : Bool) → is_sought v c.kind ≡ b →
          sought_of v (if t then from_option o (λ fields. paired c d fields ∷ []) else []) ≡
          (if b then (if t then from_option o (λ fields. paired c d fields ∷ []) else []) else [])
      by_test true (Some fields) b f = ap (λ z. if z then paired c d fields ∷ [] else []) f
      by_test true None b f = sym (none_of_none b)
      by_test false o b f = sym (none_of_none b)

  -- and it is sought of the right one, as of another
  as_right : (d : Composite) → is_sought v c.kind ≡ true →
      (if is_sought (sought_below (as_another c.kind) v) d.kind then joint theory gates c d else []) ≡ sought_of v (joint theory gates c d)
  as_right d f = by_test (same_kind c.kind d.kind) refl
    where
      by_test : (b : Bool) → same_kind c.kind d.kind ≡ b →
          (if is_sought (sought_below (as_another c.kind) v) d.kind then joint theory gates c d else []) ≡ sought_of v (joint theory gates c d)
      by_test true g =
          ap (λ z. if z then joint theory gates c d else [])
          (below_is_above (as_another c.kind) v d.kind d.kind (if_true (same_kind c.kind d.kind) (Some d.kind) None g)
          ∙ ap (is_sought v) (sym (kinds_same c.kind d.kind g)) ∙ f)
          ∙ sym (as_left d true f)
      by_test false g =
          let none = no_same theory gates c d g in
          one_or_none (is_sought (sought_below (as_another c.kind) v) d.kind) (joint theory gates c d) none ∙ sym (ap (sought_of v) none)

  all_joint : (ds : List Composite) →
      (if is_sought (sought_below (with_another gates) v) c.kind
      then flat_map (joint theory gates c) (sought_of (sought_below (as_another c.kind) v) ds)
      else []) ≡
      sought_of v (flat_map (joint theory gates c) ds)
  all_joint ds = by_joint (is_joint gates c.kind) refl
    where
      those : List Composite
      those = flat_map (joint theory gates c) (sought_of (sought_below (as_another c.kind) v) ds)

      by_sought : is_joint gates c.kind ≡ true → (b : Bool) → is_sought v c.kind ≡ b →
          (if b then those else []) ≡ sought_of v (flat_map (joint theory gates c) ds)
      by_sought g true f =
          flat_passed (λ d. is_sought (sought_below (as_another c.kind) v) d.kind) (λ d. is_sought v d.kind) (joint theory gates c)
          (joint theory gates c) ds (λ d. as_right d f)
      by_sought g false f =
          sym (flat_none (λ d. sought_of v (joint theory gates c d)) ds (λ d. as_left d false f))
          ∙ filter_flat (λ (d : Composite). is_sought v d.kind) (joint theory gates c) ds

      by_joint : (b : Bool) → is_joint gates c.kind ≡ b →
          (if is_sought (sought_below (with_another gates) v) c.kind then those else []) ≡ sought_of v (flat_map (joint theory gates c) ds)
      by_joint true g =
          ap (λ z. if z then those else [])
          (below_is_above (with_another gates) v c.kind c.kind (if_true (is_joint gates c.kind) (Some c.kind) None g))
          ∙ by_sought g (is_sought v c.kind) refl
      by_joint false g =
          one_or_none (is_sought (sought_below (with_another gates) v) c.kind) those
          (flat_none (joint theory gates c) (sought_of (sought_below (as_another c.kind) v) ds) (λ d. no_partner theory gates c d g))
          ∙ sym (ap (sought_of v) (flat_none (joint theory gates c) ds (λ d. no_partner theory gates c d g)))

module _ (theory : Theory) (w : Windows) (s : Answers Composite Composite) where
  laws : SearchesAreSo Composite Composite Composite Composite Composite
  laws = searches_are_so Composite Composite Composite Composite Composite

  by_lists : (f : Composite → List Composite) (l : Lazy Composite Composite) (cs : List Composite) → whole s l ≡ cs →
      whole s (each (λ c. of_list (f c)) l) ≡ flat_map f cs
  by_lists f l cs h =
      laws.flat s s (λ g. refl) (λ c. of_list (f c)) l ∙
      flat_map_same (λ c. whole s (of_list {I = Composite} (f c))) f (whole s l) (λ c. laws.listed s (f c)) ∙ ap (flat_map f) h

  by_ones : (f : Composite → Composite) (l : Lazy Composite Composite) (cs : List Composite) → whole s l ≡ cs →
      whole s (each_as f l) ≡ map f cs
  by_ones f l cs h = laws.flat s s (λ g. refl) (λ c. cons (f c) nil) l ∙ flat_ones f (whole s l) ∙ ap (map f) h

  join : (l k : Lazy Composite Composite) (cs ds : List Composite) → whole s l ≡ cs → whole s k ≡ ds → whole s (joined l k) ≡ cs ++ ds
  join l k cs ds h i = laws.joins s l k ∙ ap (λ z. z ++ whole s k) h ∙ ap (λ z. cs ++ z) i

  -- the same, where of both only those are wanted whose actions are sought
  sought_ones : (f : Composite → Composite) (u v : Sought) → ((c : Composite) → is_sought u c.kind ≡ is_sought v (f c).kind) →
      (l : Lazy Composite Composite) (cs : List Composite) → whole s l ≡ sought_of u cs → whole s (each_as f l) ≡ sought_of v (map f cs)
  sought_ones f u v same l cs h =
      by_ones f l (sought_of u cs) h ∙ map_passed (λ c. is_sought u c.kind) (λ c. is_sought v c.kind) f cs same

  sought_join : (v : Sought) (l k : Lazy Composite Composite) (cs ds : List Composite) → whole s l ≡ sought_of v cs →
      whole s k ≡ sought_of v ds → whole s (joined l k) ≡ sought_of v (cs ++ ds)
  sought_join v l k cs ds h i =
      join l k (sought_of v cs) (sought_of v ds) h i ∙ sym (filter-append (λ (c : Composite). is_sought v c.kind) cs ds)

  sought_alone : (gates : Synchronised) (row : Derivation → Derivation) (v : Sought) (l : Lazy Composite Composite) (cs : List Composite) →
      whole s l ≡ sought_of (sought_below (by_itself gates) v) cs →
      whole s (each (λ c. of_list (alone gates row c)) l) ≡ sought_of v (flat_map (alone gates row) cs)
  sought_alone gates row v l cs h =
      let u = sought_below (by_itself gates) v in
      by_lists (alone gates row) l (sought_of u cs) h
      ∙ flat_passed (λ c. is_sought u c.kind) (λ c. is_sought v c.kind) (alone gates row) (alone gates row) cs (one_alone gates row v)

  partners : (gates : Synchronised) (c : Composite) (l : Lazy Composite Composite) (ds : List Composite) → whole s l ≡ ds →
      whole s (where_asked (is_joint gates c.kind) (each (λ d. of_list (joint theory gates c d)) l)) ≡ flat_map (joint theory gates c) ds
  partners gates c l ds h = by_test (is_joint gates c.kind) refl
    where
      by_test : (b : Bool) → is_joint gates c.kind ≡ b →
          whole s (where_asked b (each (λ d. of_list (joint theory gates c d)) l)) ≡ flat_map (joint theory gates c) ds
      by_test true f = by_lists (joint theory gates c) l ds h
      by_test false f = sym (flat_none (joint theory gates c) ds (λ d. no_partner theory gates c d f))

  sought_together : (gates : Synchronised) (v : Sought) (l : Lazy Composite Composite) (k : Kind → Lazy Composite Composite)
      (cs ds : List Composite) → whole s l ≡ sought_of (sought_below (with_another gates) v) cs →
      ((j : Kind) → whole s (k j) ≡ sought_of (sought_below (as_another j) v) ds) →
      whole s (together theory w gates l k) ≡ sought_of v (flat_map (λ c. flat_map (joint theory gates c) ds) cs)
  sought_together gates v l k cs ds h i =
      let u = sought_below (with_another gates) v in
      let f : Composite → Lazy Composite Composite =
      λ c. where_asked (is_joint gates c.kind) (each (λ d. of_list (joint theory gates c d)) (k c.kind)) in
      let others : Composite → List Composite = λ c. flat_map (joint theory gates c) (sought_of (sought_below (as_another c.kind) v) ds) in
      laws.flat s s (λ g. refl) f l ∙
      flat_map_same (λ c. whole s (f c)) others (whole s l)
      (λ c. partners gates c (k c.kind) (sought_of (sought_below (as_another c.kind) v) ds) (i c.kind)) ∙
      ap (flat_map others) h ∙
      flat_passed (λ c. is_sought u c.kind) (λ c. is_sought v c.kind) others (λ c. flat_map (joint theory gates c) ds) cs
      (λ c. all_joint theory gates v c ds)

module _ (program : Program) (e : Evaluation) (w : Windows) (s : Answers Composite Composite) where
  abbrev of : Behaviour → List Composite
  of b = composites program.theory e w (length program.code) unmarked b

  -- the composites of the tree that are sought are those of its behaviour
  abbrev AreSought : Shape → Type 0
  AreSought t = (v : Sought) → whole s (waiting_composites program.theory w t v) ≡ sought_of v (of (stands_for program t))

  under_one_part : (o : Unary) (x : Shape) → AreSought x → AreSought (over o x)
  under_one_part (hidden gates) x h v =
      let step = under_one (hidden gates) in
      sought_ones program.theory w s (by_hiding program.theory w gates) (sought_below step v) v
      (λ c. below_is_above step v c.kind (if is_hidden gates c.kind then inside else c.kind) refl
      ∙ ap (is_sought v) (sym (kind_of_either (is_hidden gates c.kind) (turned program.theory w hiding c) (under pass c))))
      (waiting_composites program.theory w x (sought_below step v)) (of (stands_for program x)) (h (sought_below step v))
  under_one_part (nodes.relabelled pairs) x h v =
      let step = under_one (nodes.relabelled pairs) in
      sought_ones program.theory w s (relabelled pairs) (sought_below step v) v
      (λ c. below_is_above step v c.kind (renamed_kind pairs c.kind) refl)
      (waiting_composites program.theory w x (sought_below step v)) (of (stands_for program x)) (h (sought_below step v))
  under_one_part (enabled xs right values) x h v =
      let step = under_one (enabled xs right values) in
      sought_ones program.theory w s (by_enabling program.theory w) (sought_below step v) v
      (λ c. below_is_above step v c.kind (if is_end c.kind then inside else c.kind) refl
      ∙ ap (is_sought v) (sym (kind_of_either (is_end c.kind) (turned program.theory w enend c) (under enstep c))))
      (waiting_composites program.theory w x (sought_below step v)) (of (stands_for program x)) (h (sought_below step v))

  of_two_parts : (o : Binary) (x y : Shape) → AreSought x → AreSought y → AreSought (between o x y)
  of_two_parts choosing x y h i v =
      let l = waiting_composites program.theory w x v in
      let k = waiting_composites program.theory w y v in
      sought_join program.theory w s v (each_as (under chl) l) (each_as (under chr) k) (map (under chl) (of (stands_for program x)))
      (map (under chr) (of (stands_for program y)))
      (sought_ones program.theory w s (under chl) v v (λ c. refl) l (of (stands_for program x)) (h v))
      (sought_ones program.theory w s (under chr) v v (λ c. refl) k (of (stands_for program y)) (i v))
  of_two_parts (beside gates) x y h i v =
      let u = sought_below (by_itself gates) v in
      let l = waiting_composites program.theory w x in
      let k = waiting_composites program.theory w y in
      let cs = of (stands_for program x) in
      let ds = of (stands_for program y) in
      let lefts = each (λ c. of_list (alone gates parl c)) (l u) in
      let rights = each (λ c. of_list (alone gates parr c)) (k u) in
      let both = together program.theory w gates (l (sought_below (with_another gates) v)) (λ j. k (sought_below (as_another j) v)) in
      let joints = flat_map (λ c. flat_map (joint program.theory gates c) ds) cs in
      sought_join program.theory w s v lefts (joined rights both) (flat_map (alone gates parl) cs) (flat_map (alone gates parr) ds ++ joints)
      (sought_alone program.theory w s gates parl v (l u) cs (h u))
      (sought_join program.theory w s v rights both (flat_map (alone gates parr) ds) joints
      (sought_alone program.theory w s gates parr v (k u) ds (i u))
      (sought_together program.theory w s gates v (l (sought_below (with_another gates) v)) (λ j. k (sought_below (as_another j) v)) cs ds
      (h (sought_below (with_another gates) v)) (λ j. i (sought_below (as_another j) v))))
  of_two_parts disabling x y h i v =
      let l = waiting_composites program.theory w x v in
      let k = waiting_composites program.theory w y v in
      sought_join program.theory w s v (each_as by_disabling l) (each_as (under distake) k) (map by_disabling (of (stands_for program x)))
      (map (under distake) (of (stands_for program y)))
      (sought_ones program.theory w s by_disabling v v
      (λ c. ap (is_sought v) (sym (same_either (is_end c.kind) c.kind) ∙ sym (kind_of_either (is_end c.kind) (under disend c) (under disstep c)))) l
      (of (stands_for program x)) (h v))
      (sought_ones program.theory w s (under distake) v v (λ c. refl) k (of (stands_for program y)) (i v))

  pub whole_composites : (t : Shape) → AreItemsOf program e w s.items t → AreSought t
  whole_composites (leaf n) h v = at_node (seeks_some v) refl
    where
      at_node : (b : Bool) → seeks_some v ≡ b →
          whole s (where_asked b (waits n.generation (λ cs. of_list (sought_of v cs)))) ≡ sought_of v (of (stands_for program (leaf n)))
      at_node true f = (laws program.theory w s).listed s (sought_of v (s.items n.generation)) ∙ ap (sought_of v) (h [] n refl)
      at_node false f =
          sym (filter_none (λ (c : Composite). is_sought v c.kind) (of (stands_for program (leaf n))) (λ c. none_is_sought v c.kind f))
  whole_composites ended h v = refl
  whole_composites (over o x) h v = under_one_part o x (whole_composites x (λ up n i. h (above_one o ∷ up) n (refl, i))) v
  whole_composites (between o x y) h v =
      of_two_parts o x y (whole_composites x (λ up n i. h (first_of o ∷ up) n (refl, i)))
      (whole_composites y (λ up n i. h (second_of o ∷ up) n (refl, i))) v

pub composites_are_those : CompositesAreThose
composites_are_those program e w s t h v = whole_composites program e w s t h v
