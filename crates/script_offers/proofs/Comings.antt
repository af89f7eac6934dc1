-- What holds of offers that come of wishes.
use Rattle.std.proofs.Common.{ℕ, suc, ◌≡◌, ◌<◌, refl, sym, ap, subst, List, [], ◌∷◌, length, Result, Ok, Err, IfErr, arith}
use Rattle.spec_core.specs.Code.{Program}
use Rattle.spec_core.specs.Lists.{Each}
use Rattle.spec_core.specs.Terms.{TermTree, term_of}
use Rattle.spec_core.specs.Theories.{Theory}
use Rattle.spec_core.proofs.Lists.{each_middle}
use Rattle.rewriter.specs.Answers.{SpellsValue, IsWithin}
use Rattle.rule_model.specs.declared.offer.Field.{Field}
use Rattle.rule_model.specs.declared.offer.Field.TheVariants.{Give, Take}
use Rattle.rule_model.specs.Wishes.{Wish}
use Rattle.script_text.specs.Scripts.{WishFits}
use Rattle.script_text.specs.Wishes.{WishedField, gives, takes, Wished}
use Rattle.script_offers.specs.declared.fault.WishFault.{WishFault}
use Rattle.script_offers.specs.declared.fault.WishFault.TheVariants.{Spent, TooLarge, Memory}
use Rattle.script_offers.specs.Faults.{HasNoValue, IsFaultOf}
use Rattle.script_offers.specs.Given.{IsValuedWithin}
use Rattle.script_offers.specs.Valued.{OneByOne, IsValuedField, AreValuedFields, AreValued, AreScriptValued, FieldGivesValue, GivesValues}

pub handed_on : {T : Type 0} (result : Result T WishFault) (P : WishFault → Type 0) (fault : WishFault) → result ≡ Err fault → P fault →
    IfErr result P
handed_on {T} result P fault is h = subst (λ (r : Result T WishFault). IfErr r P) (sym is) h

-- a term with a value
pub valued_give : (theory : Theory) (t : TermTree) (budget : ℕ) (v : List ℕ) → SpellsValue theory t budget v →
    IsValuedField theory (gives t) (Give v)
valued_give theory t budget v s = (s.value, record { value = s.has; spelled = s.spelled })

pub valued_within : (theory : Theory) (t : TermTree) (budget : ℕ) (v : List ℕ) → SpellsValue theory t budget v →
    IsValuedWithin theory budget t
valued_within theory t budget v s = record { value = s.value; uses = s.uses; evaluates = s.evaluates; enough = s.within; small = s.small }

-- a term without one
pub fault_of_term : (theory : Theory) (budget : ℕ) (t : TermTree) (fault : WishFault) → HasNoValue theory budget t fault →
    IsFaultOf theory budget (t ∷ []) fault
fault_of_term theory budget t (Spent x) h =
    subst (λ z. IsFaultOf theory budget (z ∷ []) (Spent x)) h.0 (record { before = []; behind = []; parts = refl; valued = tt }, h.1)
fault_of_term theory budget t (TooLarge x) h =
    subst (λ z. IsFaultOf theory budget (z ∷ []) (TooLarge x)) h.0 (record { before = []; behind = []; parts = refl; valued = tt }, h.1)
fault_of_term theory budget t Memory h = tt

-- the gates of offers are those of the heading
pub gates_known : (program : Program) (ws : List Wished) (os : List Wish) → Each (WishFits program) ws → AreValued program.theory ws os →
    Each (λ o. o.offer.gate.0 < length program.gates) os
gates_known program [] [] h v = tt
gates_known program [] (o ∷ os) h v = absurd v
gates_known program (w ∷ ws) [] h v = absurd v
gates_known program (w ∷ ws) (o ∷ os) h v =
    let here : w.gate < length program.gates = h.0.gate in
    (subst (λ z. z < length program.gates) (sym v.0.gate) here, gates_known program ws os h.1 v.1)

-- what fields give are values
field_gives : (theory : Theory) (w : WishedField) (f : Field) → IsValuedField theory w f → FieldGivesValue theory f
field_gives theory (gives t) (Give v) h = (h.0, h.1.spelled, h.1.value.is_value)
field_gives theory (gives t) (Take sort) h = absurd h
field_gives theory (takes sort) (Give v) h = absurd h
field_gives theory (takes sort) (Take other) h = tt

fields_give : (theory : Theory) (ws : List WishedField) (fs : List Field) → AreValuedFields theory ws fs → Each (FieldGivesValue theory) fs
fields_give theory [] [] h = tt
fields_give theory [] (f ∷ fs) h = absurd h
fields_give theory (w ∷ ws) [] h = absurd h
fields_give theory (w ∷ ws) (f ∷ fs) h = (field_gives theory w f h.0, fields_give theory ws fs h.1)

pub values_given : (theory : Theory) (ws : List Wished) (os : List Wish) → AreValued theory ws os → Each (GivesValues theory) os
values_given theory [] [] h = tt
values_given theory [] (o ∷ os) h = absurd h
values_given theory (w ∷ ws) [] h = absurd h
values_given theory (w ∷ ws) (o ∷ os) h = (fields_give theory w.fields o.offer.fields h.0.fields, values_given theory ws os h.1)

-- the same of each client
pub clients_gates_known : (program : Program) (ws : List (List Wished)) (os : List (List Wish)) → Each (Each (WishFits program)) ws →
    AreScriptValued program.theory ws os → Each (Each (λ o. o.offer.gate.0 < length program.gates)) os
clients_gates_known program [] [] h v = tt
clients_gates_known program [] (o ∷ os) h v = absurd v
clients_gates_known program (w ∷ ws) [] h v = absurd v
clients_gates_known program (w ∷ ws) (o ∷ os) h v = (gates_known program w o h.0 v.0, clients_gates_known program ws os h.1 v.1)

pub clients_values_given : (theory : Theory) (ws : List (List Wished)) (os : List (List Wish)) → AreScriptValued theory ws os →
    Each (Each (GivesValues theory)) os
clients_values_given theory [] [] h = tt
clients_values_given theory [] (o ∷ os) h = absurd h
clients_values_given theory (w ∷ ws) [] h = absurd h
clients_values_given theory (w ∷ ws) (o ∷ os) h = (values_given theory w o h.0, clients_values_given theory ws os h.1)

pub as_many : {A B : Type 0} (R : A → B → Type 0) (xs : List A) (ys : List B) → OneByOne R xs ys → length ys ≡ length xs
as_many R [] [] h = refl
as_many R [] (y ∷ ys) h = absurd h
as_many R (x ∷ xs) [] h = absurd h
as_many R (x ∷ xs) (y ∷ ys) h = ap suc (as_many R xs ys h.1)

-- where all terms have values within the budget, and meet none that is too large, the only fault is want of memory
only_memory : (theory : Theory) (budget : ℕ) (terms : List TermTree) (fault : WishFault) → IsFaultOf theory budget terms fault →
    Each (λ t. IsWithin theory t budget) terms → fault ≡ Memory
only_memory theory budget terms (Spent x) f h =
    let w : IsWithin theory (term_of x) budget = each_middle (λ t. IsWithin theory t budget) f.0.before f.0.behind (term_of x)
    (subst (Each (λ t. IsWithin theory t budget)) f.0.parts h) in
    let more : budget < w.uses = f.1 w.value w.uses w.evaluates in
    absurd (omega (arith, w.enough))
only_memory theory budget terms (TooLarge x) f h =
    let w : IsWithin theory (term_of x) budget = each_middle (λ t. IsWithin theory t budget) f.0.before f.0.behind (term_of x)
    (subst (Each (λ t. IsWithin theory t budget)) f.0.parts h) in
    absurd (w.small f.1)
only_memory theory budget terms Memory f h = refl

pub complete : {T : Type 0} (theory : Theory) (budget : ℕ) (terms : List TermTree) (result : Result T WishFault) →
    IfErr result (IsFaultOf theory budget terms) → Each (λ t. IsWithin theory t budget) terms → IfErr result (λ e. e ≡ Memory)
complete theory budget terms (Ok x) f h = tt
complete theory budget terms (Err fault) f h = only_memory theory budget terms fault f h
