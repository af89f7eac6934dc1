-- The operators over plans make the composites that those over composites make.
use Rattle.std.proofs.Common.{ℕ, suc, ◌≡◌, ◌++◌, ◌&&◌, List, [], ◌∷◌, map, flat_map, refl, ap, ◌∙◌, Option, Some, None}
use Rattle.std.proofs.Common.{Bool, true, false, if◌then◌else◌}
use Rattle.std.proofs.lemmas.List.{map-append}
use Rattle.spec_core.specs.Theories.{Theory}
use Rattle.spec_core.specs.Code.{Relabelling, Synchronised}
use Rattle.rule_model.specs.Derivations.{enend, hiding}
use Rattle.symbolic_rules.specs.Windows.{Windows}
use Rattle.symbolic_composites.specs.Kinds.{is_alone, is_joint, is_hidden, is_end, same_kind}
use Rattle.symbolic_composites.specs.OpenFields.{OpenField, all_together}
use Rattle.symbolic_composites.specs.Composites.{Composite, from_option, under, relabelled, turned, alone, paired, joint, by_hiding, by_enabling}
use Rattle.symbolic_composites.specs.Composites.{by_disabling, of_gates}
use Rattle.symbolic_plans.specs.declared.scheme.Row.{Row}
use Rattle.symbolic_plans.specs.declared.scheme.Row.TheVariants.{Chl, Chr, Gate, Parl, Parr, Pass, Enstep, Disstep, Disend, Distake}
use Rattle.symbolic_plans.specs.Plans.{put_row, hidden, handed_on}
use Rattle.symbolic_plans.specs.OpenPlans.{OpenPlan, composite_of, under_row, under_relabelling, turned_by, plans_alone, paired_plan}
use Rattle.symbolic_plans.specs.OpenPlans.{plans_joint, plan_by_hiding, plan_by_enabling, plan_by_disabling, plans_of_gates}
use Rattle.symbolic_plans.specs.Laws.{PlansMakeComposites}

-- a function on images, and the image of a function
map_through : {A B C D : Type 0} (f : B → D) (g : A → B) (h : C → D) (k : A → C) → ((x : A) → f (g x) ≡ h (k x)) → (xs : List A) →
    map f (map g xs) ≡ map h (map k xs)
map_through f g h k e [] = refl
map_through f g h k e (x ∷ xs) = ap (λ z. z ∷ map f (map g xs)) (e x) ∙ ap (λ z. h (k x) ∷ z) (map_through f g h k e xs)

flat_through : {A B C D : Type 0} (f : B → D) (g : A → List B) (h : C → List D) (k : A → C) → ((x : A) → map f (g x) ≡ h (k x)) →
    (xs : List A) → map f (flat_map g xs) ≡ flat_map h (map k xs)
flat_through f g h k e [] = refl
flat_through f g h k e (x ∷ xs) =
    map-append f (g x) (flat_map g xs) ∙ ap (λ z. z ++ map f (flat_map g xs)) (e x) ∙ ap (λ z. h (k x) ++ z) (flat_through f g h k e xs)

module _ (theory : Theory) (w : Windows) where
  abbrev of : OpenPlan → Composite
  of p = composite_of theory w p

  one_alone : (gates : Synchronised) (row : Row) (p : OpenPlan) → map of (plans_alone gates row p) ≡ alone gates (put_row row) (of p)
  one_alone gates row p = by_test (is_alone gates p.kind)
    where
      by_test : (b : Bool) → map of (if b then under_row row p ∷ [] else []) ≡ (if b then under (put_row row) (of p) ∷ [] else [])
      by_test true = refl
      by_test false = refl

  one_joint : (gates : Synchronised) (p q : OpenPlan) → map of (plans_joint theory gates p q) ≡ joint theory gates (of p) (of q)
  one_joint gates p q = by_test (same_kind p.kind q.kind && is_joint gates p.kind) (all_together theory p.fields q.fields)
    where
      by_test : (b : Bool) (o : Option (List OpenField)) →
          map of (if b then from_option o (λ fields. paired_plan p q fields ∷ []) else []) ≡
          (if b then from_option o (λ fields. paired (of p) (of q) fields ∷ []) else [])
      by_test true None = refl
      by_test true (Some fields) = refl
      by_test false o = refl

  one_hiding : (gates : List ℕ) (p : OpenPlan) → of (plan_by_hiding gates p) ≡ by_hiding theory w gates (of p)
  one_hiding gates p = by_test (is_hidden gates p.kind)
    where
      by_test : (b : Bool) → of (if b then turned_by hidden p else under_row Pass p) ≡
          (if b then turned theory w hiding (of p) else under (put_row Pass) (of p))
      by_test true = refl
      by_test false = refl

  one_enabling : (p : OpenPlan) → of (plan_by_enabling p) ≡ by_enabling theory w (of p)
  one_enabling p = by_test (is_end p.kind)
    where
      by_test : (b : Bool) → of (if b then turned_by handed_on p else under_row Enstep p) ≡
          (if b then turned theory w enend (of p) else under (put_row Enstep) (of p))
      by_test true = refl
      by_test false = refl

  one_disabling : (p : OpenPlan) → of (plan_by_disabling p) ≡ by_disabling (of p)
  one_disabling p = by_test (is_end p.kind)
    where
      by_test : (b : Bool) → of (if b then under_row Disend p else under_row Disstep p) ≡
          (if b then under (put_row Disend) (of p) else under (put_row Disstep) (of p))
      by_test true = refl
      by_test false = refl

  rows : (row : Row) (ps : List OpenPlan) → map of (map (under_row row) ps) ≡ map (under (put_row row)) (map of ps)
  rows row ps = map_through of (under_row row) (under (put_row row)) of (λ p. refl) ps

  relabels : (pairs : List Relabelling) (ps : List OpenPlan) →
      map of (map (under_relabelling pairs) ps) ≡ map (relabelled pairs) (map of ps)
  relabels pairs ps = map_through of (under_relabelling pairs) (relabelled pairs) of (λ p. refl) ps

  joints : (gates : Synchronised) (ps qs : List OpenPlan) →
      map of (flat_map (λ p. flat_map (plans_joint theory gates p) qs) ps) ≡
      flat_map (λ c. flat_map (joint theory gates c) (map of qs)) (map of ps)
  joints gates ps qs =
      flat_through of (λ p. flat_map (plans_joint theory gates p) qs) (λ c. flat_map (joint theory gates c) (map of qs)) of
      (λ p. flat_through of (plans_joint theory gates p) (joint theory gates (of p)) of (one_joint gates p) qs) ps

  gate_copies : (g n : ℕ) (hs : List ℕ) (ps : List OpenPlan) → map of (plans_of_gates g n hs ps) ≡ of_gates g n hs (map of ps)
  gate_copies g n [] ps = refl
  gate_copies g n (h ∷ hs) ps =
      let pairs : List Relabelling = record { from = g; to = h } ∷ [] in
      map-append of (map (under_row (Gate n)) (map (under_relabelling pairs) ps)) (plans_of_gates g (suc n) hs ps)
      ∙ ap (λ z. z ++ map of (plans_of_gates g (suc n) hs ps))
      (rows (Gate n) (map (under_relabelling pairs) ps) ∙ ap (map (under (put_row (Gate n)))) (relabels pairs ps))
      ∙ ap (λ z. map (under (put_row (Gate n))) (map (relabelled pairs) (map of ps)) ++ z) (gate_copies g (suc n) hs ps)

pub plans_make_composites : PlansMakeComposites
plans_make_composites theory w = record {
  one_alone = one_alone theory w;
  one_joint = one_joint theory w;
  one_hiding = one_hiding theory w;
  one_enabling = one_enabling theory w;
  one_disabling = one_disabling theory w;
  rows = rows theory w;
  choice = λ ps qs.
      map-append (of theory w) (map (under_row Chl) ps) (map (under_row Chr) qs)
      ∙ ap (λ z. z ++ map (of theory w) (map (under_row Chr) qs)) (rows theory w Chl ps)
      ∙ ap (λ z. map (under (put_row Chl)) (map (of theory w) ps) ++ z) (rows theory w Chr qs);
  parallel = λ gates ps qs.
      let lefts = flat_map (plans_alone gates Parl) ps in
      let rights = flat_map (plans_alone gates Parr) qs in
      let boths = flat_map (λ p. flat_map (plans_joint theory gates p) qs) ps in
      map-append (of theory w) lefts (rights ++ boths)
      ∙ ap (λ z. z ++ map (of theory w) (rights ++ boths))
      (flat_through (of theory w) (plans_alone gates Parl) (alone gates (put_row Parl)) (of theory w) (one_alone theory w gates Parl) ps)
      ∙ ap (λ z. flat_map (alone gates (put_row Parl)) (map (of theory w) ps) ++ z)
      (map-append (of theory w) rights boths
      ∙ ap (λ z. z ++ map (of theory w) boths)
      (flat_through (of theory w) (plans_alone gates Parr) (alone gates (put_row Parr)) (of theory w) (one_alone theory w gates Parr) qs)
      ∙ ap (λ z. flat_map (alone gates (put_row Parr)) (map (of theory w) qs) ++ z) (joints theory w gates ps qs));
  hide = λ gates ps.
      map_through (of theory w) (plan_by_hiding gates) (by_hiding theory w gates) (of theory w) (one_hiding theory w gates) ps;
  enable = λ ps. map_through (of theory w) plan_by_enabling (by_enabling theory w) (of theory w) (one_enabling theory w) ps;
  disable = λ ps qs.
      map-append (of theory w) (map plan_by_disabling ps) (map (under_row Distake) qs)
      ∙ ap (λ z. z ++ map (of theory w) (map (under_row Distake) qs))
      (map_through (of theory w) plan_by_disabling by_disabling (of theory w) (one_disabling theory w) ps)
      ∙ ap (λ z. map by_disabling (map (of theory w) ps) ++ z) (rows theory w Distake qs);
  relabel = relabels theory w;
  gates = gate_copies theory w;
}
