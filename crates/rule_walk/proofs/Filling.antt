-- Why fields, bindings and arguments have no values, where one of those before has one.
use Rattle.std.proofs.Common.{ℕ, ◌≡◌, ◌≤◌, List, [], ◌∷◌, length, map, take, drop, get_or, ◌-◌, arith, Result, IfErr, sym, ap, subst, ◌∙◌}
use Rattle.std.proofs.Common.{inl, inr, refl}
use Rattle.std.proofs.Math.Seq.{drop-cons}
use Rattle.std.proofs.lemmas.List.{length-drop, take_all}
use Rattle.std.proofs.lemmas.Result.{IfErr-weaker}
use Rattle.spec_core.specs.Code.{Variable, Binding, ExitValue, exit_any, ActionField, accept}
use Rattle.spec_core.specs.Executable.{IsExecutable}
use Rattle.spec_core.specs.Lists.{Each}
use Rattle.spec_core.specs.Terms.{TermTree, instance}
use Rattle.spec_core.specs.Theories.{Theory}
use Rattle.spec_core.specs.Values.{HasValue}
use Rattle.rule_laws.proofs.OneStep.{one_value, one_spelled}
use Rattle.rule_model.specs.declared.rules.Slot.{Slot}
use Rattle.rule_model.specs.declared.rules.Slot.TheVariants.{Of, Mark, Blank}
use Rattle.rule_model.specs.Fields.{Spells, FieldsHave, ExitHas, BindingsHave, ArgumentsHave, IsHandedOn}
use Rattle.rule_model.specs.Substitution.{Assignment, with_term}
use Rattle.rule_walk.specs.declared.fault.FireFault.{FireFault}
use Rattle.rule_walk.specs.Asking.{ChoiceAsks, FieldsAsk, ExitAsks, BindingsAsk, ArgumentsAsk}
use Rattle.rule_walk.specs.Bounds.{FaultBounds}
use Rattle.rule_walk.specs.Faults.{Explains, Here, IsMisfit, HasNoFields, HasNoExit, HasNoBindings, HasNoArguments, HandsOnNothing}
use Rattle.rule_walk.proofs.Bounds.{unexplained}
use Rattle.rule_walk.proofs.Faults.{explains_on, misfit_on}

-- the others, after the first element of a list
abbrev pub others : {A : Type 0} → List A → List A
others xs = take (length xs - 1) (drop 1 xs)

pub first_and_others : {A : Type 0} (xs : List A) (d : A) → 1 ≤ length xs → xs ≡ get_or xs 0 d ∷ others xs
first_and_others xs d there =
    let few : length (drop 1 xs) ≤ length xs - 1 = omega (arith, length-drop 1 xs) in
    drop-cons xs 0 d there ∙ ap (λ ys. get_or xs 0 d ∷ ys) (sym (take_all (length xs - 1) (drop 1 xs) few))

pub split_at : {A : Type 0} (xs : List A) (x y : A) → 1 ≤ length xs → x ≡ get_or xs 0 x → x ≡ y → xs ≡ y ∷ others xs
split_at xs x y there is same = first_and_others xs x there ∙ ap (λ z. z ∷ others xs) (sym is ∙ same)

pub mapped_at : {A B : Type 0} (g : A → B) (xs : List A) (d : A) → 1 ≤ length xs → map g xs ≡ g (get_or xs 0 d) ∷ map g (others xs)
mapped_at g xs d there = ap (map g) (first_and_others xs d there)

pub mapped : {A B : Type 0} (g : A → B) (xs : List A) (x y : A) → 1 ≤ length xs → x ≡ get_or xs 0 x → x ≡ y →
    map g xs ≡ g y ∷ map g (others xs)
mapped g xs x y there is same = ap (map g) (split_at xs x y there is same)

-- what holds of each element holds of the first and of each of the others
pub each_split : {A : Type 0} (P : A → Type 0) (xs : List A) (x : A) → 1 ≤ length xs → x ≡ get_or xs 0 x → Each P xs → P x × Each P (others xs)
each_split P xs x there is = subst (Each P) (split_at xs x x there is refl)

module _ (theory : Theory) (executable : IsExecutable theory) where
  accepted_rest : (s t : Assignment) (x : Variable) (fields : List ActionField) (w : List ℕ) (slots : List Slot) (n : TermTree) →
      Spells theory w n x.sort → HasNoFields theory s (with_term x n t) fields slots →
      HasNoFields theory s t (accept x ∷ fields) (Of w ∷ slots)
  accepted_rest s t x fields w slots n spells none [] u h = h
  accepted_rest s t x fields w slots n spells none (v ∷ values) u h =
      let same : h.1 ≡ n = one_spelled theory executable w h.1 n x.sort h.2 spells in
      none values u (subst (λ (m : TermTree). FieldsHave theory s (with_term x m t) fields slots values u) same h.3)

  module _ (budget : ℕ) where
    abbrev pub NoFields : Assignment → Assignment → List ActionField → List Slot → FireFault → Type 0
    NoFields s t fields slots = Explains theory budget (Here (HasNoFields theory s t fields slots)) (FieldsAsk theory s fields slots)

    pub fields_later : (s t r : Assignment) (x : Variable) (all fields : List ActionField) (w : List ℕ) (chosen slots : List Slot)
        (n : TermTree) (f : FireFault) → all ≡ accept x ∷ fields → chosen ≡ Of w ∷ slots → Spells theory w n x.sort →
        r ≡ with_term x n t → NoFields s r fields slots f → NoFields s t all chosen f
    fields_later s t r x all fields w chosen slots n f is has spells bound h =
        subst (λ (l : List ActionField). NoFields s t l chosen f) (sym is)
        (subst (λ (l : List Slot). NoFields s t (accept x ∷ fields) l f) (sym has)
        (explains_on theory budget (Here (HasNoFields theory s (with_term x n t) fields slots))
        (Here (HasNoFields theory s t (accept x ∷ fields) (Of w ∷ slots))) (FieldsAsk theory s fields slots)
        (FieldsAsk theory s (accept x ∷ fields) (Of w ∷ slots)) f
        (λ path k. (k.0, accepted_rest s t x fields w slots n spells k.1)) (λ y k. inr ((n, spells), k))
        (subst (λ (q : Assignment). NoFields s q fields slots f) bound h)))

    -- no value of the sort is chosen for a variable
    abbrev pub NoChoice : ℕ → Slot → List ℕ → Type 0
    NoChoice sort slot = Here ((w : List ℕ) (n : TermTree) → slot ≡ Of w → Spells theory w n sort → ⊥)

    unchosen : (s t : Assignment) (x : Variable) (fields : List ActionField) (slot : Slot) (slots : List Slot) →
        ((w : List ℕ) (n : TermTree) → slot ≡ Of w → Spells theory w n x.sort → ⊥) →
        HasNoFields theory s t (accept x ∷ fields) (slot ∷ slots)
    unchosen s t x fields (Of w) slots none [] u h = h
    unchosen s t x fields (Of w) slots none (v ∷ values) u h = none w h.1 refl h.2
    unchosen s t x fields Mark slots none values u h = h
    unchosen s t x fields Blank slots none values u h = h

    choice_asked : (s : Assignment) (x : Variable) (fields : List ActionField) (slot : Slot) (slots : List Slot) (y : TermTree) →
        ChoiceAsks theory x.sort slot y → FieldsAsk theory s (accept x ∷ fields) (slot ∷ slots) y
    choice_asked s x fields (Of w) slots y h = inl h
    choice_asked s x fields Mark slots y h = absurd h
    choice_asked s x fields Blank slots y h = absurd h

    pub fields_unchosen : (s t : Assignment) (x : Variable) (all fields : List ActionField) (slot : Slot) (chosen slots : List Slot)
        (f : FireFault) → all ≡ accept x ∷ fields → chosen ≡ slot ∷ slots →
        Explains theory budget (NoChoice x.sort slot) (ChoiceAsks theory x.sort slot) f → NoFields s t all chosen f
    fields_unchosen s t x all fields slot chosen slots f is has h =
        subst (λ (l : List ActionField). NoFields s t l chosen f) (sym is)
        (subst (λ (l : List Slot). NoFields s t (accept x ∷ fields) l f) (sym has)
        (explains_on theory budget (NoChoice x.sort slot) (Here (HasNoFields theory s t (accept x ∷ fields) (slot ∷ slots)))
        (ChoiceAsks theory x.sort slot) (FieldsAsk theory s (accept x ∷ fields) (slot ∷ slots)) f
        (λ path k. (k.0, unchosen s t x fields slot slots k.1)) (choice_asked s x fields slot slots) h))

    -- and what is known of the chosen term is known of all that the fields ask
    unbounded : (s : Assignment) (x : Variable) (fields : List ActionField) (slot : Slot) (slots : List Slot) (f : FireFault) →
        Explains theory budget (NoChoice x.sort slot) (ChoiceAsks theory x.sort slot) f →
        ((y : TermTree) → ChoiceAsks theory x.sort slot y → FaultBounds theory budget f y) → (y : TermTree) →
        FieldsAsk theory s (accept x ∷ fields) (slot ∷ slots) y → FaultBounds theory budget f y
    unbounded s x fields (Of w) slots f why own y (inl h) = own y h
    unbounded s x fields (Of w) slots f why own y (inr h) =
        unexplained theory budget f (NoChoice x.sort (Of w)) (ChoiceAsks theory x.sort (Of w)) y why
        (λ path none. none.1 w h.0.0 refl h.0.1)
    unbounded s x fields Mark slots f why own y h = absurd h
    unbounded s x fields Blank slots f why own y h = absurd h

    pub fields_unbounded : (s : Assignment) (x : Variable) (all fields : List ActionField) (slot : Slot) (chosen slots : List Slot)
        (f : FireFault) → all ≡ accept x ∷ fields → chosen ≡ slot ∷ slots →
        Explains theory budget (NoChoice x.sort slot) (ChoiceAsks theory x.sort slot) f →
        ((y : TermTree) → ChoiceAsks theory x.sort slot y → FaultBounds theory budget f y) → (y : TermTree) →
        FieldsAsk theory s all chosen y → FaultBounds theory budget f y
    fields_unbounded s x all fields slot chosen slots f is has why own =
        subst (λ (l : List ActionField). (y : TermTree) → FieldsAsk theory s l chosen y → FaultBounds theory budget f y) (sym is)
        (subst (λ (l : List Slot). (y : TermTree) → FieldsAsk theory s (accept x ∷ fields) l y → FaultBounds theory budget f y) (sym has)
        (unbounded s x fields slot slots f why own))

    -- the same of an exit's fields
    abbrev pub NoExit : Assignment → List ExitValue → List Slot → FireFault → Type 0
    NoExit s fields slots = Explains theory budget (Here (HasNoExit theory s fields slots)) (ExitAsks theory s fields slots)

    exit_without : (s : Assignment) (sort : ℕ) (fields : List ExitValue) (slot : Slot) (slots : List Slot) →
        ((w : List ℕ) (n : TermTree) → slot ≡ Of w → Spells theory w n sort → ⊥) →
        HasNoExit theory s (exit_any sort ∷ fields) (slot ∷ slots)
    exit_without s sort fields (Of w) slots none [] h = h
    exit_without s sort fields (Of w) slots none (v ∷ values) h = none w h.1.0 refl h.1.1
    exit_without s sort fields Mark slots none values h = h
    exit_without s sort fields Blank slots none values h = h

    exit_choice_asked : (s : Assignment) (sort : ℕ) (fields : List ExitValue) (slot : Slot) (slots : List Slot) (y : TermTree) →
        ChoiceAsks theory sort slot y → ExitAsks theory s (exit_any sort ∷ fields) (slot ∷ slots) y
    exit_choice_asked s sort fields (Of w) slots y h = inl h
    exit_choice_asked s sort fields Mark slots y h = absurd h
    exit_choice_asked s sort fields Blank slots y h = absurd h

    pub exit_unchosen : (s : Assignment) (sort : ℕ) (all fields : List ExitValue) (slot : Slot) (chosen slots : List Slot) (f : FireFault) →
        all ≡ exit_any sort ∷ fields → chosen ≡ slot ∷ slots →
        Explains theory budget (NoChoice sort slot) (ChoiceAsks theory sort slot) f → NoExit s all chosen f
    exit_unchosen s sort all fields slot chosen slots f is has h =
        subst (λ (l : List ExitValue). NoExit s l chosen f) (sym is)
        (subst (λ (l : List Slot). NoExit s (exit_any sort ∷ fields) l f) (sym has)
        (explains_on theory budget (NoChoice sort slot) (Here (HasNoExit theory s (exit_any sort ∷ fields) (slot ∷ slots)))
        (ChoiceAsks theory sort slot) (ExitAsks theory s (exit_any sort ∷ fields) (slot ∷ slots)) f
        (λ path k. (k.0, exit_without s sort fields slot slots k.1)) (exit_choice_asked s sort fields slot slots) h))

    exit_open : (s : Assignment) (sort : ℕ) (fields : List ExitValue) (slot : Slot) (slots : List Slot) (f : FireFault) →
        Explains theory budget (NoChoice sort slot) (ChoiceAsks theory sort slot) f →
        ((y : TermTree) → ChoiceAsks theory sort slot y → FaultBounds theory budget f y) → (y : TermTree) →
        ExitAsks theory s (exit_any sort ∷ fields) (slot ∷ slots) y → FaultBounds theory budget f y
    exit_open s sort fields (Of w) slots f why own y (inl h) = own y h
    exit_open s sort fields (Of w) slots f why own y (inr h) =
        unexplained theory budget f (NoChoice sort (Of w)) (ChoiceAsks theory sort (Of w)) y why
        (λ path none. none.1 w h.0.0 refl h.0.1)
    exit_open s sort fields Mark slots f why own y h = absurd h
    exit_open s sort fields Blank slots f why own y h = absurd h

    pub exit_unbounded : (s : Assignment) (sort : ℕ) (all fields : List ExitValue) (slot : Slot) (chosen slots : List Slot) (f : FireFault) →
        all ≡ exit_any sort ∷ fields → chosen ≡ slot ∷ slots →
        Explains theory budget (NoChoice sort slot) (ChoiceAsks theory sort slot) f →
        ((y : TermTree) → ChoiceAsks theory sort slot y → FaultBounds theory budget f y) → (y : TermTree) →
        ExitAsks theory s all chosen y → FaultBounds theory budget f y
    exit_unbounded s sort all fields slot chosen slots f is has why own =
        subst (λ (l : List ExitValue). (y : TermTree) → ExitAsks theory s l chosen y → FaultBounds theory budget f y) (sym is)
        (subst (λ (l : List Slot). (y : TermTree) → ExitAsks theory s (exit_any sort ∷ fields) l y → FaultBounds theory budget f y) (sym has)
        (exit_open s sort fields slot slots f why own))

    abbrev pub NoBindings : Assignment → Assignment → List Binding → FireFault → Type 0
    NoBindings s t bindings = Explains theory budget (Here (HasNoBindings theory s t bindings)) (BindingsAsk theory s bindings)

    pub bindings_later : {A : Type 0} (s t r : Assignment) (b : Binding) (all bindings : List Binding) (n : TermTree)
        (result : Result A FireFault) → all ≡ b ∷ bindings → HasValue theory (instance s b.term) n → r ≡ with_term b.variable n t →
        IfErr result (NoBindings s r bindings) → IfErr result (NoBindings s t all)
    bindings_later {A} s t r b all bindings n result is value bound =
        IfErr-weaker result (NoBindings s r bindings) (NoBindings s t all) (λ f h.
        subst (λ (l : List Binding). NoBindings s t l f) (sym is)
        (explains_on theory budget (Here (HasNoBindings theory s (with_term b.variable n t) bindings))
        (Here (HasNoBindings theory s t (b ∷ bindings))) (BindingsAsk theory s bindings) (BindingsAsk theory s (b ∷ bindings)) f
        (λ path k. (
          k.0,
          λ u l.
              k.1 u (subst (λ (m : TermTree). BindingsHave theory s (with_term b.variable m t) bindings u)
              (one_value theory executable (instance s b.term) l.0 n l.1 value) l.2),
        ))
        (λ x k. inr ((n, value), k)) (subst (λ (q : Assignment). NoBindings s q bindings f) bound h)))

    abbrev pub NoArguments : Assignment → Assignment → List Variable → List TermTree → FireFault → Type 0
    NoArguments s t xs terms = Explains theory budget (Here (HasNoArguments theory s t xs terms)) (ArgumentsAsk theory s xs terms)

    pub arguments_later : {A : Type 0} (s t r : Assignment) (y : Variable) (all ys : List Variable) (e : TermTree)
        (passed terms : List TermTree) (n : TermTree) (result : Result A FireFault) → all ≡ y ∷ ys → passed ≡ e ∷ terms →
        HasValue theory (instance s e) n → r ≡ with_term y n t → IfErr result (NoArguments s r ys terms) →
        IfErr result (NoArguments s t all passed)
    arguments_later {A} s t r y all ys e passed terms n result is has value bound =
        IfErr-weaker result (NoArguments s r ys terms) (NoArguments s t all passed) (λ f h.
        subst (λ (l : List Variable). NoArguments s t l passed f) (sym is)
        (subst (λ (l : List TermTree). NoArguments s t (y ∷ ys) l f) (sym has)
        (explains_on theory budget (Here (HasNoArguments theory s (with_term y n t) ys terms))
        (Here (HasNoArguments theory s t (y ∷ ys) (e ∷ terms))) (ArgumentsAsk theory s ys terms) (ArgumentsAsk theory s (y ∷ ys) (e ∷
        terms)) f
        (λ path k. (
          k.0,
          λ u l.
              k.1 u (subst (λ (m : TermTree). ArgumentsHave theory s (with_term y m t) ys terms u)
              (one_value theory executable (instance s e) l.0 n l.1 value) l.2),
        ))
        (λ x k. inr ((n, value), k)) (subst (λ (q : Assignment). NoArguments s q ys terms f) bound h))))

  pub handed_later : {A : Type 0} (t r : Assignment) (y : Variable) (all ys : List Variable) (v : List ℕ) (given values : List (List ℕ))
      (n : TermTree) (result : Result A FireFault) → all ≡ y ∷ ys → given ≡ v ∷ values → Spells theory v n y.sort → r ≡ with_term y n t →
      IfErr result (IsMisfit (HandsOnNothing theory r ys values)) → IfErr result (IsMisfit (HandsOnNothing theory t all given))
  handed_later {A} t r y all ys v given values n result is has spells bound =
      IfErr-weaker result (IsMisfit (HandsOnNothing theory r ys values)) (IsMisfit (HandsOnNothing theory t all given)) (λ f.
      subst (λ (l : List Variable). IsMisfit (HandsOnNothing theory r ys values) f → IsMisfit (HandsOnNothing theory t l given) f) (sym is)
      (subst (λ (l : List (List ℕ)). IsMisfit (HandsOnNothing theory r ys values) f → IsMisfit (HandsOnNothing theory t (y ∷ ys) l) f)
      (sym has)
      (misfit_on (HandsOnNothing theory r ys values) (HandsOnNothing theory t (y ∷ ys) (v ∷ values)) f
      (λ none u h.
      none u (subst (λ (q : Assignment). IsHandedOn theory q ys values u) (sym bound)
      (subst (λ (m : TermTree). IsHandedOn theory (with_term y m t) ys values u)
      (one_spelled theory executable v h.0 n y.sort h.1 spells) h.2))))))
