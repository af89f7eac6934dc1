-- What the windows of a table let a choice of a value choose.
use Rattle.std.proofs.Common.{ℕ, zero, suc, ◌≡◌, List, [], ◌∷◌, refl, sym, ap, subst, ◌∙◌, arith, Option, Some, None, Contains, false}
use Rattle.std.specs.List.{slice_get}
use Rattle.spec_core.specs.Executable.{IsExecutable}
use Rattle.spec_core.specs.Lists.{Each}
use Rattle.spec_core.specs.Terms.{preorder}
use Rattle.spec_core.specs.Theories.{Theory}
use Rattle.spec_core.specs.Windows.{IsMember}
use Rattle.spec_core.specs.declared.window.Window.{Window}
use Rattle.rule_model.specs.declared.rules.Slot.TheVariants.{Of, Mark}
use Rattle.rule_model.specs.Fields.{Spells}
use Rattle.rule_origins.specs.Values.{term_spelled}
use Rattle.rule_origins.proofs.Reading.{values_are_read}
use Rattle.symbolic_rules.specs.Windows.{Windows, sort_of_value}
use Rattle.symbolic_rules.specs.MarkedTerms.{plain, mark}
use Rattle.symbolic_rules.proofs.Sorts.{sort_of_ground, member_is_spelled}
use Rattle.node_values.specs.declared.scope.Given.TheVariants.{Value}
use Rattle.node_values.specs.Scopes.{marked_of}
use Rattle.expand.specs.Choosing.{IsChoice}
use Rattle.symbolic_rules.specs.Tables.{windows_in, values_of}
use Rattle.sort_windows.specs.Found.{AreBySorts}

each_listed : {A : Type 0} (P : A → Type 0) (xs : List A) (x : A) → Each P xs → Contains xs x → P x
each_listed P [] x h (i, l, e) = absurd (omega arith)
each_listed P (y ∷ xs) x h (zero, l, e) = subst P e h.0
each_listed P (y ∷ xs) x h (suc i, l, e) = each_listed P xs x h.1 (i, omega arith, e)

module _ (theory : Theory) (executable : IsExecutable theory) (k : ℕ) (table : List Window) (rows : AreBySorts theory k table)
    (sort : ℕ) where
  member : (o : Option Window) → slice_get table sort ≡ o → (v : List ℕ) → Contains (values_of o) v → IsMember theory sort v
  member None e v (i, l, h) = absurd (omega arith)
  member (Some window) e v h = each_listed (IsMember theory sort) window.values.items v (rows sort window e).members h

  pub listed_choice : (x : ℕ) (v : List ℕ) → Contains ((windows_in table).values sort) v →
      IsChoice theory (windows_in table) sort (Of v) (marked_of theory x (Value v))
  listed_choice x v h =
      let t = member (slice_get table sort) refl v h in
      let spells : Spells theory v t.0 sort = member_is_spelled theory executable v sort t in
      let read : term_spelled theory x v ≡ t.0 = values_are_read theory x v t.0 sort spells in
      let same : preorder (term_spelled theory x v) ≡ v = ap preorder read ∙ sym t.1 in
      let of : sort_of_value theory (preorder (term_spelled theory x v)) ≡ sort =
      ap (λ z. sort_of_value theory (preorder z)) read ∙ sort_of_ground theory t.0 sort t.2 in
      record {
        chooses = (t.0, spells, ap plain read);
        within =
            subst (λ z. Contains ((windows_in table).values z) (preorder (term_spelled theory x v))) (sym of)
            (subst (λ z. Contains ((windows_in table).values sort) z) (sym same) h);
      }

pub marked_choice : (theory : Theory) (w : Windows) (sort : ℕ) → w.complete sort ≡ false → IsChoice theory w sort Mark (mark sort)
marked_choice theory w sort h = record { chooses = (h, refl); within = tt }
