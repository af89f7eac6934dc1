-- Trees without marks.
use Rattle.std.proofs.Common.{ℕ, zero, suc, ◌≡◌, ◌∙◌, List, [], ◌∷◌, map, drop, filter, refl, ap, Bool, true, false}
use Rattle.std.proofs.Common.{cond, if◌then◌else◌, ◌||◌, sym, subst, Result, IfOk}
use Rattle.std.specs.Fn.{iterate}
use Rattle.std.proofs.lemmas.Bool.{or_from}
use Rattle.spec_core.specs.Lists.{Each}
use Rattle.spec_core.specs.Theories.{Theory}
use Rattle.spec_core.proofs.Lists.{each_implied, each_image, each_flat_map}
use Rattle.spec_core.proofs.Booleans.{or_first_false, or_second_false}
use Rattle.rule_model.specs.declared.rules.Slot.{Slot}
use Rattle.rule_model.specs.Derivations.{Derivation, pre, exiting, both, hiding, enend}
use Rattle.symbolic_rules.specs.Windows.{Windows}
use Rattle.symbolic_rules.specs.Trees.{is_mark, has_marks, has_mark}
use Rattle.symbolic_composites.specs.OpenFields.{OpenField, all_choices, any_marked, one_each, choices_at_once}
use Rattle.symbolic_plans.specs.declared.scheme.Row.{Row}
use Rattle.symbolic_plans.specs.declared.scheme.Row.TheVariants.{Chl, Chr, Val, Gate, Guard, Let, Parl, Parr, Pass, Enstep, Disstep}
use Rattle.symbolic_plans.specs.declared.scheme.Row.TheVariants.{Disend, Distake, Call, Rel}
use Rattle.symbolic_plans.specs.Plans.{Plan, prefix, internal, termination, below, hidden, handed_on, together, taken_slots, trees_of}
use Rattle.symbolic_plans.specs.Plans.{put_row}
use Rattle.symbolic_plans.proofs.Runs.{iterate_same}
use Rattle.symbolic_trees.specs.Numbers.{trees_at_once}
use Rattle.candidate_search.specs.Marks.{any_mark, row_mark, may_be_marked}
use Rattle.candidate_search.specs.Searches.{wanted_from}

abbrev unmarked_slots : List Slot → Type 0
unmarked_slots slots = has_marks slots ≡ false

-- each slot of a list without marks is none
each_slot : (slots : List Slot) → unmarked_slots slots → Each (λ slot. is_mark slot ≡ false) slots
each_slot [] e = tt
each_slot (slot ∷ slots) e =
    (or_first_false (is_mark slot) (has_marks slots) e, each_slot slots (or_second_false (is_mark slot) (has_marks slots) e))

taken_unmarked : (takes : List Bool) (choices : List (List Slot)) → any_mark choices ≡ false → Each unmarked_slots
    (taken_slots takes choices)
taken_unmarked [] choices e = (refl, tt)
taken_unmarked (taken ∷ takes) [] e = tt
taken_unmarked (false ∷ takes) (c ∷ choices) e = taken_unmarked takes choices (or_second_false (has_marks c) (any_mark choices) e)
taken_unmarked (true ∷ takes) (c ∷ choices) e =
    each_flat_map (λ slot. is_mark slot ≡ false) unmarked_slots (λ slot. map (λ slots. slot ∷ slots) (taken_slots takes choices)) c
    (λ slot q. each_image unmarked_slots unmarked_slots (λ slots. slot ∷ slots) (taken_slots takes choices)
    (λ slots r. or_from (is_mark slot) (has_marks slots) q r)
    (taken_unmarked takes choices (or_second_false (has_marks c) (any_mark choices) e)))
    (each_slot c (or_first_false (has_marks c) (any_mark choices) e))

each_unmarked : (choices : List (List Slot)) → any_mark choices ≡ false → Each (λ own. any_mark own ≡ false) (one_each choices)
each_unmarked [] e = (refl, tt)
each_unmarked (c ∷ choices) e =
    each_flat_map (λ slot. is_mark slot ≡ false) (λ own. any_mark own ≡ false)
    (λ slot. map (λ others. (slot ∷ []) ∷ others) (one_each choices)) c
    (λ slot q. each_image (λ own. any_mark own ≡ false) (λ own. any_mark own ≡ false) (λ others. (slot ∷ []) ∷ others) (one_each choices)
    (λ others r. or_from (has_marks (slot ∷ [])) (any_mark others) (or_from (is_mark slot) false q refl) r)
    (each_unmarked choices (or_second_false (has_marks c) (any_mark choices) e)))
    (each_slot c (or_first_false (has_marks c) (any_mark choices) e))

abbrev unmarked : Derivation → Type 0
unmarked d = has_mark d ≡ false

row_unmarked : (row : Row) (d : Derivation) → row_mark row ≡ false → unmarked d → unmarked (put_row row d)
row_unmarked Chl d e h = h
row_unmarked Chr d e h = h
row_unmarked (Val slot) d e h = or_from (is_mark slot) (has_mark d) e h
row_unmarked (Gate place) d e h = h
row_unmarked Guard d e h = h
row_unmarked Let d e h = h
row_unmarked Parl d e h = h
row_unmarked Parr d e h = h
row_unmarked Pass d e h = h
row_unmarked Enstep d e h = h
row_unmarked Disstep d e h = h
row_unmarked Disend d e h = h
row_unmarked Distake d e h = h
row_unmarked Call d e h = h
row_unmarked Rel d e h = h

-- what is said of slots covers them
pub record Covers (given : Bool) (slots : List (List Slot)) : Type 0 where
  pub covers : given ≡ false → any_mark slots ≡ false

ways_covered : (given : Bool) (fields : List OpenField) (choices : List (List Slot)) → Covers given choices →
    Each (λ own. Covers given own) (choices_at_once fields choices)
ways_covered given fields choices h = by_mark (any_marked fields)
  where
    each_covered : (g : Bool) → Covers g choices → Each (λ own. Covers g own) (one_each choices)
    each_covered true h = each_all_covered (one_each choices)
      where
        each_all_covered : (ways : List (List (List Slot))) → Each (λ own. Covers true own) ways
        each_all_covered [] = tt
        each_all_covered (x ∷ xs) = (record { covers = λ e. cc }, each_all_covered xs)
    each_covered false h =
        each_implied (λ own. any_mark own ≡ false) (λ own. Covers false own) (one_each choices) (λ own e. record { covers = λ q. e })
        (each_unmarked choices (h.covers refl))

    by_mark : (b : Bool) → Each (λ own. Covers given own) (if b then choices ∷ [] else one_each choices)
    by_mark true = (h, tt)
    by_mark false = each_covered given h

module _ (theory : Theory) (w : Windows) where
  trees_unmarked : (p : Plan) (given : Bool) (slots : List (List Slot)) → may_be_marked theory w p given ≡ false → Covers given slots →
      Each unmarked (trees_of theory w p slots)
  trees_unmarked (prefix takes) given slots e h =
      each_image unmarked_slots unmarked pre (taken_slots takes slots) (λ own q. q) (taken_unmarked takes slots (h.covers e))
  trees_unmarked internal given slots e h = (refl, tt)
  trees_unmarked (termination takes) given slots e h =
      each_image unmarked_slots unmarked exiting (taken_slots takes slots) (λ own q. q) (taken_unmarked takes slots (h.covers e))
  trees_unmarked (below row p) given slots e h =
      each_image unmarked unmarked (put_row row) (trees_of theory w p slots)
      (λ d q. row_unmarked row d (or_first_false (row_mark row) (may_be_marked theory w p given) e) q)
      (trees_unmarked p given slots (or_second_false (row_mark row) (may_be_marked theory w p given) e) h)
  trees_unmarked (hidden fields p) given slots e h =
      let own = all_choices theory w [] fields in
      each_image unmarked unmarked hiding (trees_at_once theory w fields p own) (λ d q. q)
      (each_flat_map (λ x. Covers (any_mark own) x) unmarked (λ x. trees_of theory w p x) (choices_at_once fields own)
      (λ x c. trees_unmarked p (any_mark own) x e c) (ways_covered (any_mark own) fields own (record { covers = λ q. q })))
  trees_unmarked (handed_on fields p) given slots e h =
      let own = all_choices theory w [] fields in
      each_image unmarked unmarked enend (trees_at_once theory w fields p own) (λ d q. q)
      (each_flat_map (λ x. Covers (any_mark own) x) unmarked (λ x. trees_of theory w p x) (choices_at_once fields own)
      (λ x c. trees_unmarked p (any_mark own) x e c) (ways_covered (any_mark own) fields own (record { covers = λ q. q })))
  trees_unmarked (together p q) given slots e h =
      each_flat_map unmarked unmarked (λ left. map (both left) (trees_of theory w q slots)) (trees_of theory w p slots)
      (λ left a. each_image unmarked unmarked (both left) (trees_of theory w q slots)
      (λ right b. or_from (has_mark left) (has_mark right) a b)
      (trees_unmarked q given slots (or_second_false (may_be_marked theory w p given) (may_be_marked theory w q given) e) h))
      (trees_unmarked p given slots (or_first_false (may_be_marked theory w p given) (may_be_marked theory w q given) e) h)

  all_unmarked : (fields : List OpenField) (p : Plan) (choices : List (List Slot)) → may_be_marked theory w p (any_mark choices) ≡ false →
      Each unmarked (trees_at_once theory w fields p choices)
  all_unmarked fields p choices e =
      each_flat_map (λ x. Covers (any_mark choices) x) unmarked (λ x. trees_of theory w p x) (choices_at_once fields choices)
      (λ x c. trees_unmarked p (any_mark choices) x e c) (ways_covered (any_mark choices) fields choices (record { covers = λ q. q }))

  -- where no tree may have a mark, none is wanted by whoever wants marks
  pub none_marked : (wanted : Derivation → Bool) (fields : List OpenField) (p : Plan) (choices : List (List Slot)) (n : ℕ) →
      ((d : Derivation) → wanted d ≡ has_mark d) → may_be_marked theory w p (any_mark choices) ≡ false →
      wanted_from wanted (trees_at_once theory w fields p choices) n ≡ []
  none_marked wanted fields p choices n e f = dropped (trees_at_once theory w fields p choices) n (all_unmarked fields p choices f)
    where
      filtered : (ds : List Derivation) → Each unmarked ds → filter wanted ds ≡ []
      filtered [] h = refl
      filtered (d ∷ ds) (q, h) = ap (λ b. cond b (d ∷ filter wanted ds) (filter wanted ds)) (e d ∙ q) ∙ filtered ds h

      dropped : (ds : List Derivation) (k : ℕ) → Each unmarked ds → filter wanted (drop k ds) ≡ []
      dropped ds zero h = filtered ds h
      dropped [] (suc k) h = refl
      dropped (d ∷ ds) (suc k) (q, h) = dropped ds k h

-- where a rule has no mark, and the same rule stands over it however often, the whole may be marked where the part may
pub run_marked : {E : Type 0} (theory : Theory) (w : Windows) (row : Row) (more : ℕ) (p plan : Plan) (given : Bool) (r : Result Bool E) →
    row_mark row ≡ false → plan ≡ below row (iterate (below row) more p) → IfOk r (λ b. b ≡ may_be_marked theory w p given) →
    IfOk r (λ b. b ≡ may_be_marked theory w plan given)
run_marked theory w row more p plan given r none is h =
    subst (λ (z : Bool). IfOk r (λ b. b ≡ z))
    (sym (ap (λ q. may_be_marked theory w q given) is ∙ one (iterate (below row) more p)
    ∙ iterate_same (below row) (λ q. may_be_marked theory w q given) one more p)) h
  where
    one : (q : Plan) → may_be_marked theory w (below row q) given ≡ may_be_marked theory w q given
    one q = ap (λ m. m || may_be_marked theory w q given) none
