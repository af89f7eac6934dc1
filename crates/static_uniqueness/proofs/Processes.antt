-- Processes that one tree says are alike.
use Rattle.std.proofs.Common.{ℕ, ◌+◌, ◌≡◌, ◌∙◌, refl, sym, subst, List, [], ◌∷◌, length, Option}
use Rattle.lotos_ast.specs.declared.declaration.Declarations.{Declarations}
use Rattle.lotos_ast.specs.declared.declaration.GateList.{GateList}
use Rattle.lotos_ast.specs.declared.token.Token.{Token}
use Rattle.lotos_ast.specs.DeclarationTrees.{functionality_tree, optional_gates_tree}
use Rattle.lotos_ast.specs.Reads.{Tree, unkept, leaf, both, left, right, absent, present, no_more, more, node}
use Rattle.lotos_ast.specs.SpecTrees.{parameters_tree}
use Rattle.static_constructs.specs.Written.{gates_in, declarations_in}
use Rattle.static_processes.specs.Processes.{Defined, Entry, Entries, one_after_another}
use Rattle.syntax_laws.specs.Alike.{AreAlike, AreDeclarationsAlike}
use Rattle.static_uniqueness.proofs.Lists.{length-same, append-alike}
use Rattle.static_uniqueness.specs.SpecificationsAlike.{AreDefinedAlike, AreEntriesAlike}
use Rattle.static_uniqueness.proofs.Meanings.{SaysBehaviour}
use Rattle.static_uniqueness.proofs.OneMeaning.{behaviours-alike}
use Rattle.static_uniqueness.proofs.TreeParts.{gates-same, parameters-alike, functionalities-alike}

-- which process the parts of its tree say
pub record IsDefinedBy (name : Token) (gates parameters functionality behaviour : Tree) (d : Defined) : Type 0 where
  pub list : Option GateList
  pub variables : Option Declarations
  pub named : d.name ≡ name
  pub gates_are : d.gates ≡ gates_in list
  pub gates_said : optional_gates_tree list ≡ gates
  pub parameters_are : d.parameters ≡ declarations_in variables
  pub parameters_said : parameters_tree variables ≡ parameters
  pub functionality_said : functionality_tree d.functionality ≡ functionality
  pub body_said : SaysBehaviour behaviour d.body

-- which processes a tree of the grammar says
abbrev mutual
  pub SaysItem : Tree → Entries → Type 0
  SaysItem (node p (left x)) f = (number : ℕ) (around : List ℕ) → f number around ≡ []
  SaysItem (node p (right x)) f = SaysProcess x f
  SaysItem _ f = ⊥

  pub SaysProcess : Tree → Entries → Type 0
  SaysProcess (node p (both unkept (both (leaf name) (both gates (both parameters (both unkept (both functionality (both unkept (both behaviour (both items unkept)))))))))) f =
      (d : Defined) × (fs : List Entries) × IsDefinedBy name gates parameters functionality behaviour d × SaysItems items fs ×
      ((number : ℕ) (around : List ℕ) → f number around ≡ record { process = d; around = around } ∷ one_after_another fs (number + 1) (number ∷ around))
  SaysProcess _ f = ⊥

  -- the `where` part
  pub SaysItems : Tree → List Entries → Type 0
  SaysItems absent fs = fs ≡ []
  SaysItems (present (both unkept x)) fs = SaysAll x fs
  SaysItems _ fs = ⊥

  pub SaysAll : Tree → List Entries → Type 0
  SaysAll no_more fs = fs ≡ []
  SaysAll (more x y) fs = (f : Entries) × (gs : List Entries) × SaysItem x f × SaysAll y gs × (fs ≡ f ∷ gs)
  SaysAll _ fs = ⊥

defined-alike : (name : Token) (gates parameters functionality behaviour : Tree) (d e : Defined) → IsDefinedBy name gates parameters functionality behaviour d → IsDefinedBy name gates parameters functionality behaviour e → AreDefinedAlike d e
defined-alike name gates parameters functionality behaviour d e h k = record {
  name = h.named ∙ sym k.named;
  gates = h.gates_are ∙ gates-same h.list k.list (h.gates_said ∙ sym k.gates_said) ∙ sym k.gates_are;
  parameters = subst (λ z. AreAlike AreDeclarationsAlike z e.parameters) (sym h.parameters_are)
      (subst (λ z. AreAlike AreDeclarationsAlike (declarations_in h.variables) z) (sym k.parameters_are) (parameters-alike h.variables k.variables (h.parameters_said ∙ sym k.parameters_said)));
  functionality = functionalities-alike d.functionality e.functionality (h.functionality_said ∙ sym k.functionality_said);
  body = behaviours-alike behaviour d.body e.body h.body_said k.body_said;
}

-- alike wherever they stand
abbrev pub AreAlikeThere : Entries → Entries → Type 0
AreAlikeThere f g = (number : ℕ) (around : List ℕ) → AreAlike AreEntriesAlike (f number around) (g number around)

pub together : (fs gs : List Entries) → AreAlike AreAlikeThere fs gs → AreAlikeThere (one_after_another fs) (one_after_another gs)
together [] [] h number around = tt
together [] (g ∷ gs) h number around = absurd h
together (f ∷ fs) [] h number around = absurd h
together (f ∷ fs) (g ∷ gs) h number around =
    let first = h.0 number around in
    let as-long = length-same AreEntriesAlike (f number around) (g number around) first in
    let further = together fs gs h.1 (number + length (f number around)) around in
    append-alike AreEntriesAlike (f number around) (g number around) _ _ first
    (subst (λ n. AreAlike AreEntriesAlike (one_after_another fs (number + length (f number around)) around) (one_after_another gs (number + n) around)) as-long further)

-- lists that are those that are alike
at-lists : (es ds us vs : List Entry) → es ≡ us → ds ≡ vs → AreAlike AreEntriesAlike us vs → AreAlike AreEntriesAlike es ds
at-lists es ds us vs e f h = subst (λ z. AreAlike AreEntriesAlike z ds) (sym e) (subst (λ z. AreAlike AreEntriesAlike us z) (sym f) h)

mutual
  item-alike : (t : Tree) (f g : Entries) → SaysItem t f → SaysItem t g → AreAlikeThere f g
  item-alike (node p (left x)) f g h k = λ number around. at-lists (f number around) (g number around) [] [] (h number around) (k number around) tt
  item-alike (node p (right x)) f g h k = process-alike x f g h k
  item-alike _ f g h k = absurd h

  process-alike : (t : Tree) (f g : Entries) → SaysProcess t f → SaysProcess t g → AreAlikeThere f g
  process-alike (node p (both unkept (both (leaf name) (both gates (both parameters (both unkept (both functionality (both unkept (both behaviour (both items unkept)))))))))) f g (d, fs, m, s, e) (d', gs, m', s', e') = λ number around.
      at-lists (f number around) (g number around) _ _ (e number around) (e' number around) (
        record { process = defined-alike name gates parameters functionality behaviour d d' m m'; around = refl },
        together fs gs (items-alike items fs gs s s') (number + 1) (number ∷ around),
      )
  process-alike _ f g h k = absurd h

  pub items-alike : (t : Tree) (fs gs : List Entries) → SaysItems t fs → SaysItems t gs → AreAlike AreAlikeThere fs gs
  items-alike absent fs gs h k = subst (λ z. AreAlike AreAlikeThere z gs) (sym h) (subst (λ z. AreAlike AreAlikeThere [] z) (sym k) tt)
  items-alike (present (both unkept x)) fs gs h k = all-items-alike x fs gs h k
  items-alike _ fs gs h k = absurd h

  all-items-alike : (t : Tree) (fs gs : List Entries) → SaysAll t fs → SaysAll t gs → AreAlike AreAlikeThere fs gs
  all-items-alike no_more fs gs h k = subst (λ z. AreAlike AreAlikeThere z gs) (sym h) (subst (λ z. AreAlike AreAlikeThere [] z) (sym k) tt)
  all-items-alike (more x y) fs gs (f, us, s, r, e) (g, vs, s', r', e') =
      subst (λ z. AreAlike AreAlikeThere z gs) (sym e) (subst (λ z. AreAlike AreAlikeThere (f ∷ us) z) (sym e') (item-alike x f g s s', all-items-alike y us vs r r'))
  all-items-alike _ fs gs h k = absurd h
