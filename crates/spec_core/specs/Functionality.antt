-- Well-formed behaviour: what is in scope, sorts, and functionality. (ISO 8807, static semantics.)
use Rattle.std.specs.Prelude.{ℕ, ◌≡◌, ◌⊎◌, ◌<◌, ◌++◌, List, [], ◌∷◌, Option, Some, None, length, map, ◌==◌, if◌then◌else◌}
use Rattle.std.specs.List.{slice_get}
use Rattle.spec_core.specs.Lists.{Each, IsOneOf}
use Rattle.spec_core.specs.Terms.{TermTree}
use Rattle.spec_core.specs.Theories.{Premise, Theory}
use Rattle.spec_core.specs.Sorts.{HasSort, PremiseFits, IsDeclaredSort, no_variables}
use Rattle.spec_core.specs.Code.{Variable, Binding, Relabelling, ExitValue, exit_given, exit_any, ActionField, give, accept, Synchronised}
use Rattle.spec_core.specs.Code.{every_gate, these_gates, Node, stop, exit, inner, action, choice, guarded, bound, value_choice}
use Rattle.spec_core.specs.Code.{gate_choice, parallel, hide, enable, disable, call, relabel, process, Program}

-- how a behaviour may end: never, or with values of these sorts
pub data Functionality : Type 0 where
  noexit : Functionality
  exits : List ℕ → Functionality

-- of a choice or a disabling: that of the parts that exit, which must agree
abbrev pub IsEither : Functionality → Functionality → Functionality → Type 0
IsEither noexit g whole = whole ≡ g
IsEither (exits sorts) noexit whole = whole ≡ exits sorts
IsEither (exits sorts) (exits others) whole = (sorts ≡ others) × (whole ≡ exits sorts)

-- of a parallel composition: it exits only where both parts do, with the same sorts
abbrev pub IsBoth : Functionality → Functionality → Functionality → Type 0
IsBoth noexit g whole = whole ≡ noexit
IsBoth (exits sorts) noexit whole = whole ≡ noexit
IsBoth (exits sorts) (exits others) whole = (sorts ≡ others) × (whole ≡ exits sorts)

-- the sorts of the variables in scope, with one more variable, and with all of a list, of which the last comes first
abbrev pub with_variable : Variable → (ℕ → Option ℕ) → ℕ → Option ℕ
with_variable x vars y = if y == x.number then Some x.sort else vars y

abbrev pub with_variables : List Variable → (ℕ → Option ℕ) → ℕ → Option ℕ
with_variables [] vars = vars
with_variables (x ∷ xs) vars = with_variables xs (with_variable x vars)

abbrev pub accepted : List ActionField → List Variable
accepted [] = []
accepted (give t ∷ fields) = accepted fields
accepted (accept x ∷ fields) = x ∷ accepted fields

abbrev pub bound_variables : List Binding → List Variable
bound_variables bindings = map (λ b. b.variable) bindings

abbrev pub sort_of_variable : Variable → ℕ
sort_of_variable x = x.sort

-- a term of some sort
abbrev pub Fits : Theory → (ℕ → Option ℕ) → TermTree → Type 0
Fits theory vars t = (sort : ℕ) × HasSort theory vars t sort

abbrev pub VariableFits : Theory → Variable → Type 0
VariableFits theory x = IsDeclaredSort theory x.sort

abbrev pub FieldFits : Theory → (ℕ → Option ℕ) → ActionField → Type 0
FieldFits theory vars (give t) = Fits theory vars t
FieldFits theory vars (accept x) = VariableFits theory x

abbrev pub BindingFits : Theory → (ℕ → Option ℕ) → Binding → Type 0
BindingFits theory vars b = HasSort theory vars b.term b.variable.sort × VariableFits theory b.variable

abbrev pub GuardFits : Theory → (ℕ → Option ℕ) → Option Premise → Type 0
GuardFits theory vars None = Unit {0}
GuardFits theory vars (Some p) = PremiseFits theory vars p

-- the fields of an exit have these sorts
abbrev pub ExitsWith : Theory → (ℕ → Option ℕ) → List ExitValue → List ℕ → Type 0
ExitsWith theory vars [] [] = Unit {0}
ExitsWith theory vars (exit_given t ∷ fields) (sort ∷ sorts) = HasSort theory vars t sort × ExitsWith theory vars fields sorts
ExitsWith theory vars (exit_any any ∷ fields) (sort ∷ sorts) =
    (any ≡ sort) × IsDeclaredSort theory sort × ExitsWith theory vars fields sorts
ExitsWith theory vars [] (sort ∷ sorts) = ⊥
ExitsWith theory vars (field ∷ fields) [] = ⊥

-- the terms of a call have the sorts of the process's variables
abbrev pub ValuesFit : Theory → (ℕ → Option ℕ) → List TermTree → List Variable → Type 0
ValuesFit theory vars [] [] = Unit {0}
ValuesFit theory vars (t ∷ ts) (x ∷ xs) = HasSort theory vars t x.sort × ValuesFit theory vars ts xs
ValuesFit theory vars [] (x ∷ xs) = ⊥
ValuesFit theory vars (t ∷ ts) [] = ⊥

-- the values that the left side of an enabling hands on have the sorts of these variables, unless it never exits
abbrev pub Accepts : Functionality → List Variable → Type 0
Accepts noexit vars = Unit {0}
Accepts (exits sorts) vars = sorts ≡ map sort_of_variable vars

-- a gate of the heading, or one that is bound further in
abbrev pub IsGateInScope : Program → List ℕ → ℕ → Type 0
IsGateInScope program gates g = (g < length program.gates) ⊎ IsOneOf g gates

abbrev pub AreGatesInScope : Program → List ℕ → List ℕ → Type 0
AreGatesInScope program gates gs = Each (IsGateInScope program gates) gs

abbrev pub SynchronisedFits : Program → List ℕ → Synchronised → Type 0
SynchronisedFits program gates every_gate = Unit {0}
SynchronisedFits program gates (these_gates gs) = AreGatesInScope program gates gs

abbrev pub RelabellingFits : Program → List ℕ → Relabelling → Type 0
RelabellingFits program gates m = IsGateInScope program gates m.to

-- with these gates and variables in scope, and these functionalities of the processes, all names of the part are bound, its terms
-- have their sorts, its calls fit the processes that they call, and the part has this functionality
mutual
  pub data HasFunctionality (program : Program) (processes : ℕ → Functionality) : List ℕ → (ℕ → Option ℕ) → ℕ → Functionality → Type 0 where
    at_node : {gates : List ℕ} {vars : ℕ → Option ℕ} {part : ℕ} {f : Functionality} (node : Node) →
        slice_get program.code part ≡ Some node →
        NodeFits program processes gates vars node f →
        HasFunctionality program processes gates vars part f

  pub data NodeFits (program : Program) (processes : ℕ → Functionality) : List ℕ → (ℕ → Option ℕ) → Node → Functionality → Type 0 where
    stop_fits : {gates : List ℕ} {vars : ℕ → Option ℕ} → NodeFits program processes gates vars stop noexit
    exit_fits : {gates : List ℕ} {vars : ℕ → Option ℕ} {fields : List ExitValue} {sorts : List ℕ} →
        ExitsWith program.theory vars fields sorts →
        NodeFits program processes gates vars (exit fields) (exits sorts)
    inner_fits : {gates : List ℕ} {vars : ℕ → Option ℕ} {part : ℕ} {f : Functionality} →
        HasFunctionality program processes gates vars part f →
        NodeFits program processes gates vars (inner part) f
    action_fits :
        {gates : List ℕ} {vars : ℕ → Option ℕ} {g : ℕ} {fields : List ActionField} {guard : Option Premise} {rest : ℕ}
        {f : Functionality} →
        IsGateInScope program gates g →
        Each (FieldFits program.theory vars) fields →
        GuardFits program.theory (with_variables (accepted fields) vars) guard →
        HasFunctionality program processes gates (with_variables (accepted fields) vars) rest f →
        NodeFits program processes gates vars (action g fields guard rest) f
    choice_fits : {gates : List ℕ} {vars : ℕ → Option ℕ} {left right : ℕ} {whole : Functionality} (f g : Functionality) →
        HasFunctionality program processes gates vars left f →
        HasFunctionality program processes gates vars right g →
        IsEither f g whole →
        NodeFits program processes gates vars (choice left right) whole
    guarded_fits : {gates : List ℕ} {vars : ℕ → Option ℕ} {p : Premise} {part : ℕ} {f : Functionality} →
        PremiseFits program.theory vars p →
        HasFunctionality program processes gates vars part f →
        NodeFits program processes gates vars (guarded p part) f
    bound_fits : {gates : List ℕ} {vars : ℕ → Option ℕ} {bindings : List Binding} {part : ℕ} {f : Functionality} →
        Each (BindingFits program.theory vars) bindings →
        HasFunctionality program processes gates (with_variables (bound_variables bindings) vars) part f →
        NodeFits program processes gates vars (bound bindings part) f
    value_choice_fits : {gates : List ℕ} {vars : ℕ → Option ℕ} {x : Variable} {part : ℕ} {f : Functionality} →
        VariableFits program.theory x →
        HasFunctionality program processes gates (with_variable x vars) part f →
        NodeFits program processes gates vars (value_choice x part) f
    gate_choice_fits : {gates : List ℕ} {vars : ℕ → Option ℕ} {g : ℕ} {among : List ℕ} {part : ℕ} {f : Functionality} →
        AreGatesInScope program gates among →
        HasFunctionality program processes (g ∷ gates) vars part f →
        NodeFits program processes gates vars (gate_choice g among part) f
    parallel_fits :
        {gates : List ℕ} {vars : ℕ → Option ℕ} {synchronised : Synchronised} {left right : ℕ} {whole : Functionality}
        (f g : Functionality) →
        SynchronisedFits program gates synchronised →
        HasFunctionality program processes gates vars left f →
        HasFunctionality program processes gates vars right g →
        IsBoth f g whole →
        NodeFits program processes gates vars (parallel synchronised left right) whole
    hide_fits : {gates : List ℕ} {vars : ℕ → Option ℕ} {hidden : List ℕ} {part : ℕ} {f : Functionality} →
        HasFunctionality program processes (hidden ++ gates) vars part f →
        NodeFits program processes gates vars (hide hidden part) f
    enable_fits : {gates : List ℕ} {vars : ℕ → Option ℕ} {left right : ℕ} {xs : List Variable} {g : Functionality} (f : Functionality) →
        HasFunctionality program processes gates vars left f →
        Accepts f xs →
        Each (VariableFits program.theory) xs →
        HasFunctionality program processes gates (with_variables xs vars) right g →
        NodeFits program processes gates vars (enable left xs right) g
    disable_fits : {gates : List ℕ} {vars : ℕ → Option ℕ} {left right : ℕ} {whole : Functionality} (f g : Functionality) →
        HasFunctionality program processes gates vars left f →
        HasFunctionality program processes gates vars right g →
        IsEither f g whole →
        NodeFits program processes gates vars (disable left right) whole
    call_fits :
        {gates : List ℕ} {vars : ℕ → Option ℕ} {p : ℕ} {actual : List ℕ} {values : List TermTree} (formal : List ℕ) (xs : List Variable)
        (body : ℕ) →
        slice_get program.code p ≡ Some (process formal xs body) →
        length actual ≡ length formal →
        AreGatesInScope program gates actual →
        ValuesFit program.theory vars values xs →
        NodeFits program processes gates vars (call p actual values) (processes p)
    relabel_fits : {gates : List ℕ} {vars : ℕ → Option ℕ} {relabelling : List Relabelling} {part : ℕ} {f : Functionality} →
        Each (RelabellingFits program gates) relabelling →
        HasFunctionality program processes (map (λ m. m.from) relabelling ++ gates) vars part f →
        NodeFits program processes gates vars (relabel relabelling part) f

-- the process's body fits over its own gates and variables alone, and has its functionality or never exits
abbrev pub ProcessFits : Program → (ℕ → Functionality) → ℕ → List ℕ → List Variable → ℕ → Type 0
ProcessFits program processes p formal xs body =
    Each (VariableFits program.theory) xs ×
    ((f : Functionality) × HasFunctionality program processes formal (with_variables xs no_variables) body f ×
    ((f ≡ processes p) ⊎ (f ≡ noexit)))
