-- A compiled specification is put together of constructs that are read.
use Rattle.std.proofs.Common.{ℕ, zero, suc, ◌≡◌, ◌+◌, List, [], ◌∷◌, ◌++◌, length, map, refl, sym, ap, subst, ◌∙◌, arith, inl, inr}
use Rattle.std.specs.Prelude.{◌⊎◌, Option, Some, None, option_map, is_some, IfSome, Bool, true, false, if◌then◌else◌}
use Rattle.std.specs.Cmp.Lexicographic.{same_text}
use Rattle.std.specs.List.{list_all, slice_get, range_with_len, filter_map, cons_option}
use Rattle.std.proofs.lemmas.List.{length-map}
use Rattle.std.proofs.lemmas.List.FromFn.{length-range_with_len}
use Rattle.std.proofs.lemmas.Option.{same_Some}
use Rattle.lotos_ast.specs.declared.place.Place.{Place}
use Rattle.lotos_ast.specs.declared.refusal.RefusalKind.TheVariants.{WrongFunctionality}
use Rattle.lotos_ast.specs.declared.spec.Spec.{Spec}
use Rattle.static_constructs.specs.Written.{gates_in, behaviour_written}
use Rattle.spec_core.specs.Code.{Program, Variable}
use Rattle.spec_core.specs.Functionality.{Functionality, noexit, exits}
use Rattle.spec_core.specs.Lists.{Each}
use Rattle.spec_core.specs.Theories.{Theory}
use Rattle.spec_core.proofs.Lists.{both_empty, cons_not_empty}
use Rattle.sort_overloads.specs.Readings.{Context}
use Rattle.sort_overloads.specs.Refused.{refused}
use Rattle.static_equations.specs.Variables.{all_variables}
use Rattle.static_readings.specs.Declarations.{numbered_from}
use Rattle.type_names.specs.DuplicateNames.{names_twice}
use Rattle.static_readings.specs.Joins.{Read, root}
use Rattle.static_readings.specs.Readings.{IsRead}
use Rattle.static_processes.specs.Headings.{heading, headings_from, heading_refusals, parameter_refusals, functionality_refusals, declared, parameter_sorts}
use Rattle.static_processes.specs.Processes.{Entry, entries, visible_in}
use Rattle.static_laws.specs.Assembled.{Definition, body_nodes, HeadingFits, SiteFits, DefinitionFits, IsAssembled, behind_bodies}
use Rattle.static_laws.specs.Assembled as laws
use Rattle.static_check.specs.Bodies.{Setting, Placed, headings_within, may_end, refused_unless, ending_refusals, body_ending_refusals, unknown_in}
use Rattle.static_check.specs.Compiled as compiled
use Rattle.static_check.specs.Compiled.{data_context, setting, start_site, assembled}
use Rattle.static_laws.proofs.Bodies.{definition, definitions, IsDefined, AreDefined}
use Rattle.static_laws.proofs.Known.{or_noexit, declared-known, parameters-sorted, parameters-fit}

-- how a process ends: as it is declared to

abbrev pub declared_by : Context → Option Entry → Functionality
declared_by c None = noexit
declared_by c (Some e) = or_noexit (declared c e.process.functionality)

abbrev pub ends_as : Theory → Spec → ℕ → Functionality
ends_as theory spec n = declared_by (data_context theory) (slice_get (entries spec) n)

not_refused : (b : Bool) (place : Place) → refused_unless b place ≡ [] → b ≡ true
not_refused true place e = refl
not_refused false place e = absurd (cons_not_empty (refused WrongFunctionality place []) [] e)

ends-so : (f g : Functionality) → may_end None f g ≡ true → (f ≡ g) ⊎ (f ≡ noexit)
ends-so noexit g e = inr refl
ends-so (exits sorts) noexit e = absurd (cc)
ends-so (exits sorts) (exits others) e = inl (ap exits (same_text sorts others (sym e)))

-- no sort of parameters stands for one that isn't known
all-there : (xs : List Variable) → list_all is_some (map (λ (x : Variable). Some x.sort) xs) ≡ true
all-there [] = refl
all-there (x ∷ xs) = all-there xs

none-unknown : (known : ℕ) (sorts : List (Option ℕ)) (xs : List Variable) → sorts ≡ map (λ (x : Variable). Some x.sort) xs →
    unknown_in known sorts ≡ None
none-unknown known sorts xs e = ap (λ b. if b then None else Some known) (ap (list_all is_some) e ∙ all-there xs)

-- what holds of all that there is holds of those that are there
put-first : {B : Type 0} (P : B → Type 0) (o : Option B) (ys : List B) → IfSome o P → Each P ys → Each P (cons_option o ys)
put-first P None ys h hs = hs
put-first P (Some y) ys h hs = (h, hs)

each-there : {A B : Type 0} (P : B → Type 0) (f : A → Option B) → ((x : A) → IfSome (f x) P) → (xs : List A) → Each P (filter_map f xs)
each-there P f h [] = tt
each-there P f h (x ∷ xs) = put-first P (f x) (filter_map f xs) (h x) (each-there P f h xs)

headed-at : (c : Context) (number : ℕ) (es : List Entry) (n : ℕ) →
    slice_get (headings_from c number es) n ≡ option_map (λ (e : Entry). heading c (number + n) e.process) (slice_get es n)
headed-at c number [] n = refl
headed-at c number (e ∷ es) zero =
    let same : number ≡ number + zero = omega arith in
    ap (λ m. Some (heading c m e.process)) same
headed-at c number (e ∷ es) (suc n) =
    let same : number + 1 + n ≡ number + suc n = omega arith in
    headed-at c (number + 1) es n ∙ ap (λ m. option_map (λ (e : Entry). heading c m e.process) (slice_get es n)) same

-- the process of a definition
entry-of : (all : Setting) (number : ℕ) (es : List Entry) (bs : List Placed) (k : ℕ) (d : Definition) →
    slice_get (definitions all number es bs) k ≡ Some d → (e : Entry) × (slice_get es k ≡ Some e)
entry-of all number [] bs k d at = absurd (cc)
entry-of all number (e ∷ es) [] k d at = absurd (cc)
entry-of all number (e ∷ es) (b ∷ bs) zero d at = (e, refl)
entry-of all number (e ∷ es) (b ∷ bs) (suc k) d at = entry-of all (number + 1) es bs k d at

module _ (theory : Theory) (spec : Spec) (bs : List Placed) (r : Read) (from : ℕ)
    (h : AreDefined (setting theory spec) 0 (length (entries spec)) from (entries spec) bs)
    (headings : (k : ℕ) (e : Entry) → slice_get (entries spec) k ≡ Some e → heading_refusals (data_context theory) e.process ≡ [])
    (is_read : IsRead (start_site (setting theory spec) spec) from (behaviour_written spec.behaviour) (Some r) []) where
  abbrev all : Setting
  all = setting theory spec

  abbrev ds : List Definition
  ds = definitions all 0 (entries spec) bs

  abbrev program : Program
  program = assembled theory spec bs (record { from = from; read = r })

  -- what is refused of a heading is nothing

  of-parameters : (e : Entry) → heading_refusals (data_context theory) e.process ≡ [] →
      parameter_refusals (data_context theory) e.process.parameters ≡ []
  of-parameters e none =
      (both_empty (parameter_refusals (data_context theory) e.process.parameters) (functionality_refusals (data_context theory) e.process.functionality)
      (both_empty (names_twice e.process.gates)
      (parameter_refusals (data_context theory) e.process.parameters ++ functionality_refusals (data_context theory) e.process.functionality) none).1).0

  of-functionality : (e : Entry) → heading_refusals (data_context theory) e.process ≡ [] →
      functionality_refusals (data_context theory) e.process.functionality ≡ []
  of-functionality e none =
      (both_empty (parameter_refusals (data_context theory) e.process.parameters) (functionality_refusals (data_context theory) e.process.functionality)
      (both_empty (names_twice e.process.gates)
      (parameter_refusals (data_context theory) e.process.parameters ++ functionality_refusals (data_context theory) e.process.functionality) none).1).1

  declared-so : (k : ℕ) (e : Entry) → slice_get (entries spec) k ≡ Some e →
      declared (data_context theory) e.process.functionality ≡ Some (ends_as theory spec k)
  declared-so k e at =
      declared-known (data_context theory) e.process.functionality (of-functionality e (headings k e at))
      ∙ ap (λ o. Some (declared_by (data_context theory) o)) (sym at)

  -- headings are those of definitions

  heading-fits : (k : ℕ) (o : Option Entry) → slice_get (entries spec) k ≡ o →
      IfSome (option_map (λ (e : Entry). heading (data_context theory) (0 + k) e.process) o) (HeadingFits (ends_as theory spec) ds)
  heading-fits k None at = tt
  heading-fits k (Some e) at =
      let found : IsDefined all ds 0 k e = h.each k e at in
      let same : 0 + k ≡ k = omega arith in
      record {
        definition = definition all (0 + k) e found.read;
        defined = ap (λ n. slice_get ds n) same ∙ found.at;
        gates = sym (length-range_with_len all.gates (length e.process.gates));
        sorts = parameters-sorted (data_context theory) e.process.parameters (of-parameters e (headings k e at));
        functionality = declared-so k e at ∙ ap (λ n. Some (ends_as theory spec n)) (sym same);
      }

  site-headings : (around : List ℕ) → Each (HeadingFits (ends_as theory spec) ds) (headings_within all around)
  site-headings around =
      each-there (HeadingFits (ends_as theory spec) ds) (λ n. slice_get (headings_from (data_context theory) 0 (entries spec)) n)
      (λ n. subst (λ o. IfSome o (HeadingFits (ends_as theory spec) ds)) (sym (headed-at (data_context theory) 0 (entries spec) n))
      (heading-fits n (slice_get (entries spec) n) refl))
      (visible_in (entries spec) around)

  may-end-so : (k : ℕ) (e : Entry) → slice_get (entries spec) k ≡ Some e → (b : Read) →
      body_ending_refusals (data_context theory) e.process (Some b) ≡ [] →
      (b.functionality ≡ ends_as theory spec k) ⊎ (b.functionality ≡ noexit)
  may-end-so k e at b none =
      ends-so b.functionality (ends_as theory spec k)
      (not_refused (may_end None b.functionality (ends_as theory spec k)) e.process.name.place
      (subst (λ u. ending_refusals u e.process.name.place (Some (ends_as theory spec k)) (Some b) ≡ [])
      (none-unknown (length theory.sorts) (parameter_sorts (data_context theory) e.process.parameters)
      (numbered_from 0 (all_variables theory.sorts e.process.parameters))
      (parameters-sorted (data_context theory) e.process.parameters (of-parameters e (headings k e at))))
      (subst (λ o. ending_refusals (unknown_in (length theory.sorts) (parameter_sorts (data_context theory) e.process.parameters))
      e.process.name.place o (Some b) ≡ []) (declared-so k e at) none)))

  one-fits : (k : ℕ) (e : Entry) → slice_get (entries spec) k ≡ Some e → (found : IsDefined all ds 0 k e) →
      DefinitionFits program (ends_as theory spec) ds k (definition all (0 + k) e found.read)
  one-fits k e at found = record {
    site = record { sorts = refl; operations = refl; headings = site-headings ((0 + k) ∷ e.around) };
    variables = refl;
    sorts = parameters-fit theory e.process.parameters (of-parameters e (headings k e at));
    first_gate = sym (length-map (gates_in spec.gates) (λ t. t.text));
    formal = ap (λ n. range_with_len n (length e.process.gates)) (sym (length-map (gates_in spec.gates) (λ t. t.text)))
        ∙ ap (range_with_len (length program.gates)) (sym (length-map e.process.gates (λ t. t.text)));
    ends = may-end-so k e at found.read found.ends;
  }

  definition-fits : (k : ℕ) (d : Definition) → slice_get ds k ≡ Some d → DefinitionFits program (ends_as theory spec) ds k d
  definition-fits k d at =
      let e = entry-of all 0 (entries spec) bs k d at in
      let found : IsDefined all ds 0 k e.0 = h.each k e.0 e.1 in
      subst (DefinitionFits program (ends_as theory spec) ds k) (same_Some (definition all (0 + k) e.0 found.read) d (sym found.at ∙ at))
      (one-fits k e.0 e.1 found)

  -- the specification's behaviour
  abbrev pub whole : laws.Placed
  whole = record { site = start_site all spec; construct = behaviour_written spec.behaviour; read = r; refusals = [] }

  begins-behind : from ≡ behind_bodies ds
  begins-behind = h.up_to ∙ ap (λ n. n + length (body_nodes ds)) (sym h.as_many)

  pub is_assembled : IsAssembled program (ends_as theory spec) ds whole
  is_assembled = record {
    code = ap (λ ns. ns ++ (compiled.body_nodes bs ++ r.nodes)) (h.nodes ∙ ap (λ n. laws.process_nodes n ds) (sym h.as_many))
        ∙ ap (λ ns. laws.process_nodes (length ds) ds ++ (ns ++ r.nodes)) h.bodies;
    start = ap (λ n. root n r) begins-behind;
    bodies_read = subst (λ n. laws.AreBodiesRead n ds) (sym h.as_many) h.are_read;
    whole_read = subst (λ n. laws.IsReadAt n whole) begins-behind is_read;
    definitions = definition-fits;
    whole_site = record { sorts = refl; operations = refl; headings = site-headings [] };
    whole_variables = refl;
    whole_first_gate = refl;
    whole_gates = refl;
  }
