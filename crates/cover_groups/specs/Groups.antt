-- Equations with one left side up to names of variables. (This profile.)
use Rattle.std.specs.Prelude.{ℕ, ◌≡◌, ◌⊎◌, List, [], ◌∷◌, ◌++◌, map}
use Rattle.std.specs.Borrow.{Bor}
use Rattle.std.specs.List.{slice_get}
use Rattle.spec_core.specs.declared.term.Term.{Term}
use Rattle.spec_core.specs.Cover.{IsFull, IsGroup, IsOfGroup}
use Rattle.spec_core.specs.Lists.{Each, OneOf}
use Rattle.spec_core.specs.Terms.{TermTree, variable, instance}
use Rattle.spec_core.specs.Theories.{Premise, premise, ConditionalEquation, Theory, premise_of}
use Rattle.cover_groups.specs.declared.group.Premises.{Premises}

-- the lists of premises of the equations with this left side are full, over the sorts of the equation's variables
pub record HasFullGroup (theory : Theory) (e : ConditionalEquation) : Type 0 where
  pub lists : List (List Premise)
  pub group : IsGroup theory e.left lists
  pub full : IsFull theory (slice_get e.sorts) lists

-- what the program's lists of premises stand for
abbrev pub premises_at : Bor (List (Term × Term)) → List Premise
premises_at list = map premise_of list.now

abbrev pub premises_of : Premises → List Premise
premises_of list = map premise_of list.items.items

-- each of these equations that is of the group gives one of the lists
abbrev pub AllGive : TermTree → List (List Premise) → List ConditionalEquation → Type 0
AllGive l lists es = Each (λ e. (r : ℕ → ℕ) → instance (λ x. variable (r x)) e.left ≡ l → OneOf (λ ps. IsOfGroup l ps e) lists) es

-- each list belongs to one of these equations that is of the group
abbrev pub AllFrom : List ConditionalEquation → TermTree → List (List Premise) → Type 0
AllFrom es l lists = Each (λ ps. OneOf (IsOfGroup l ps) es) lists

-- the premise with s x in place of each variable x
abbrev pub premise_instance : (ℕ → TermTree) → Premise → Premise
premise_instance s (premise a b) = premise (instance s a) (instance s b)

-- where the equation is of the group, its premises under the names of the left side were added
abbrev pub IsListAdded : TermTree → ConditionalEquation → List (List Premise) → List (List Premise) → Type 0
IsListAdded l e old new =
    ((ps : List Premise) × IsOfGroup l ps e × (new ≡ old ++ ps ∷ [])) ⊎
    (((r : ℕ → ℕ) → instance (λ x. variable (r x)) e.left ≡ l → ⊥) × (new ≡ old))
