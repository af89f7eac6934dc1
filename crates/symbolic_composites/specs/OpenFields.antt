-- Fields of actions whose values are left open, and the values that they may have.
use Rattle.std.specs.Prelude.{ℕ, ◌==◌, ◌++◌, ◌||◌, not, List, [], ◌∷◌, map, flat_map, Option, Some, None, Bool, true, false, if◌then◌else◌}
use Rattle.std.specs.Prelude.{option_map, option_and_then}
use Rattle.std.specs.Str.{bytes_eq}
use Rattle.spec_core.specs.Terms.{preorder}
use Rattle.spec_core.specs.Theories.{Theory}
use Rattle.spec_core.specs.Code.{ExitValue, exit_given, exit_any, ActionField, give, accept}
use Rattle.rule_model.specs.declared.offer.Field.{Field}
use Rattle.rule_model.specs.declared.offer.Field.TheVariants.{Give, Take}
use Rattle.rule_model.specs.declared.rules.Slot.{Slot}
use Rattle.rule_model.specs.declared.rules.Slot.TheVariants.{Of, Mark}
use Rattle.symbolic_rules.specs.Windows.{Windows, sort_of_value}
use Rattle.symbolic_rules.specs.MarkedTerms.{MarkedTerm, plain, mark, MarkedAssignment}
use Rattle.symbolic_composites.specs.Evaluations.{Evaluation, value_in}

-- A field of an action: the value that an expression tells; or a blank of a sort, where no expression tells a value. With each stands
-- whether an expression gives a mark there.
pub data OpenField : Type 0 where
  fixed : Bool → List ℕ → OpenField
  blank : Bool → ℕ → OpenField

-- the field that an expression with this value makes
abbrev pub open_by : MarkedTerm → OpenField
open_by (plain n) = fixed false (preorder n)
open_by (mark sort) = blank true sort

module _ (theory : Theory) where
  -- two fields at one place of an action, together: values are one, and sorts are
  abbrev pub together : OpenField → OpenField → Option OpenField
  together (fixed m v) (fixed n u) = if bytes_eq v u then Some (fixed (m || n) v) else None
  together (fixed m v) (blank n sort) = if sort_of_value theory v == sort then Some (fixed (m || n) v) else None
  together (blank m sort) (fixed n v) = if sort_of_value theory v == sort then Some (fixed (m || n) v) else None
  together (blank m sort) (blank n other) = if sort == other then Some (blank (m || n) sort) else None

  abbrev pub all_together : List OpenField → List OpenField → Option (List OpenField)
  all_together [] [] = Some []
  all_together (c ∷ cs) (d ∷ ds) = option_and_then (λ f. option_map (λ fs. f ∷ fs) (all_together cs ds)) (together c d)
  all_together [] (d ∷ ds) = None
  all_together (c ∷ cs) [] = None

  -- the fields of an action, and of an exit, where its expressions have values
  abbrev pub open_fields : Evaluation → MarkedAssignment → List ActionField → Option (List OpenField)
  open_fields e m [] = Some []
  open_fields e m (give t ∷ fields) =
      option_and_then (λ k. option_map (λ fs. open_by k ∷ fs) (open_fields e m fields)) (value_in theory e m t)
  open_fields e m (accept x ∷ fields) = option_map (λ fs. blank false x.sort ∷ fs) (open_fields e m fields)

  abbrev pub open_exit : Evaluation → MarkedAssignment → List ExitValue → Option (List OpenField)
  open_exit e m [] = Some []
  open_exit e m (exit_given t ∷ fields) =
      option_and_then (λ k. option_map (λ fs. open_by k ∷ fs) (open_exit e m fields)) (value_in theory e m t)
  open_exit e m (exit_any sort ∷ fields) = option_map (λ fs. blank false sort ∷ fs) (open_exit e m fields)

-- the slots of an action, and of an exit, where each field may have these; the leftmost slowest
abbrev pub slots_of : List ActionField → List (List Slot) → List (List Slot)
slots_of [] choices = [] ∷ []
slots_of (field ∷ fields) [] = []
slots_of (give t ∷ fields) (c ∷ choices) = slots_of fields choices
slots_of (accept x ∷ fields) (c ∷ choices) = flat_map (λ slot. map (λ slots. slot ∷ slots) (slots_of fields choices)) c

abbrev pub exit_slots_of : List ExitValue → List (List Slot) → List (List Slot)
exit_slots_of [] choices = [] ∷ []
exit_slots_of (field ∷ fields) [] = []
exit_slots_of (exit_given t ∷ fields) (c ∷ choices) = exit_slots_of fields choices
exit_slots_of (exit_any sort ∷ fields) (c ∷ choices) = flat_map (λ slot. map (λ slots. slot ∷ slots) (exit_slots_of fields choices)) c

-- the mark, where the window isn't complete
abbrev pub mark_unless : Bool → List Slot
mark_unless true = []
mark_unless false = Mark ∷ []

abbrev pub is_listed : List ℕ → List (List ℕ) → Bool
is_listed v [] = false
is_listed v (u ∷ values) = bytes_eq u v || is_listed v values

-- a value that an offer gives, where it isn't one of these
abbrev pub unless_listed : List (List ℕ) → Option (List ℕ) → List Slot
unless_listed values None = []
unless_listed values (Some v) = if is_listed v values then [] else Of v ∷ []

-- what a choice of a value may have, in the order of the window; the mark comes last
abbrev pub window_slots : Windows → ℕ → List Slot
window_slots w sort = map Of (w.values sort) ++ mark_unless (w.complete sort)

-- what a slot of the field may have: the value that is told; or those of the window, and one that an offer gives. The mark comes last;
-- where a value is told it stands only beside a mark that is given.
abbrev pub choices : Theory → Windows → Option (List ℕ) → OpenField → List Slot
choices theory w offered (fixed m v) = Of v ∷ mark_unless (not m || w.complete (sort_of_value theory v))
choices theory w offered (blank m sort) = map Of (w.values sort) ++ (unless_listed (w.values sort) offered ++ mark_unless (w.complete sort))

-- the same of all fields, with what an offer gives to each
abbrev pub all_choices : Theory → Windows → List (Option (List ℕ)) → List OpenField → List (List Slot)
all_choices theory w offered [] = []
all_choices theory w [] (f ∷ fs) = choices theory w None f ∷ all_choices theory w [] fs
all_choices theory w (o ∷ offered) (f ∷ fs) = choices theory w o f ∷ all_choices theory w offered fs

-- what an offer gives, field by field
abbrev pub given_in : List Field → List (Option (List ℕ))
given_in [] = []
given_in (Give v ∷ fields) = Some v ∷ given_in fields
given_in (Take sort ∷ fields) = None ∷ given_in fields

-- an expression gives a mark for one of the fields
abbrev pub is_marked : OpenField → Bool
is_marked (fixed m v) = m
is_marked (blank m sort) = m

abbrev pub any_marked : List OpenField → Bool
any_marked [] = false
any_marked (f ∷ fs) = is_marked f || any_marked fs

-- one of its slots for each field, the leftmost slowest
abbrev pub one_each : List (List Slot) → List (List (List Slot))
one_each [] = [] ∷ []
one_each (slots ∷ choices) = flat_map (λ slot. map (λ others. (slot ∷ []) ∷ others) (one_each choices)) slots

-- What the fields may have at once, one after another: all that take part have the same value at a place of an action, so there is one for
-- each field. Where an expression gives a mark, they may differ there, and all are there at once.
abbrev pub choices_at_once : List OpenField → List (List Slot) → List (List (List Slot))
choices_at_once fields choices = if any_marked fields then choices ∷ [] else one_each choices
