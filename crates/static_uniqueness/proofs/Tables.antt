-- The headings of processes that are alike, what is refused of them, and the calls that they make at once.
use Rattle.std.proofs.Common.{ℕ, ◌≡◌, ◌+◌, ◌∙◌, refl, List, [], ◌∷◌, ◌++◌, length, map, Option, Some, None, Vec, Global, option_map, if◌then◌else◌}
use Rattle.std.specs.List.{flat_map, filter_map, range_with_len, slice_get}
use Rattle.lotos_ast.specs.declared.declaration.Declaration.{Declaration}
use Rattle.lotos_ast.specs.declared.declaration.Functionality.{Functionality}
use Rattle.lotos_ast.specs.declared.declaration.Functionality.TheVariants.{NoExit, Exit}
use Rattle.lotos_ast.specs.declared.token.Token.{Token}
use Rattle.spec_core.specs.Functionality as core
use Rattle.sort_overloads.specs.Readings.{Context}
use Rattle.sort_overloads.specs.Refused.{unknown_sort}
use Rattle.static_equations.specs.Variables.{variables_of, all_variables}
use Rattle.type_names.specs.DuplicateNames.{names_twice}
use Rattle.static_constructs.specs.Constructs.{Construct}
use Rattle.static_constructs.specs.Written as written
use Rattle.static_readings.specs.Sites.{Site}
use Rattle.static_call_cycles.specs.AtOnce.{calls_at_once}
use Rattle.static_processes.specs.Headings.{known_sort, known_sorts, declared, parameter_sorts, heading, headings_from, functionality_refusals, parameter_refusals, heading_refusals, table_refusals}
use Rattle.static_processes.specs.Processes.{Defined, Entry, is_innermost, stands_in, standing_from, visible_in, names_in}
use Rattle.static_check.specs.Bodies.{Setting, headings_within, body_site}
use Rattle.syntax_laws.specs.Alike.{AreAlike, IfThere, HaveSame, AreDeclarationsAlike}
use Rattle.static_uniqueness.proofs.Lists.{length-same, flat-same}
use Rattle.static_uniqueness.proofs.Equations.{variables-of-same, unknown-sort-same}
use Rattle.static_uniqueness.specs.ConstructsAlike.{AreConstructsAlike, alike_stops, alike_exits, alike_inside, alike_acts, alike_chooses, alike_asks, alike_binds, alike_values, alike_gates, alike_composes, alike_hides, alike_enables, alike_disables, alike_calls, alike_copies}
use Rattle.static_uniqueness.specs.SpecificationsAlike.{AreFunctionalitiesAlike, AreDefinedAlike, AreEntriesAlike}

written-same : (o p : Option (Vec Token Global)) → IfThere HaveSame o p → written.listed o ≡ written.listed p
written-same None None k = refl
written-same None (Some w) k = absurd k
written-same (Some v) None k = absurd k
written-same (Some v) (Some w) k = k

module _ (c : Context) where
  pub declared-same : (f g : Functionality) → AreFunctionalitiesAlike f g → declared c f ≡ declared c g
  declared-same (NoExit p) (NoExit q) k = refl
  declared-same (NoExit p) (Exit q others) k = absurd k
  declared-same (Exit p sorts) (NoExit q) k = absurd k
  declared-same (Exit p sorts) (Exit q others) k = λ i. option_map core.exits (known_sorts c (written-same sorts others k.1 i))

  pub functionality-refused-same : (f g : Functionality) → AreFunctionalitiesAlike f g → functionality_refusals c f ≡ functionality_refusals c g
  functionality-refused-same (NoExit p) (NoExit q) k = refl
  functionality-refused-same (NoExit p) (Exit q others) k = absurd k
  functionality-refused-same (Exit p sorts) (NoExit q) k = absurd k
  functionality-refused-same (Exit p sorts) (Exit q others) k = λ i. flat_map (unknown_sort c) (written-same sorts others k.1 i)

  parameter-sorts-of : (d e : Declaration) → AreDeclarationsAlike d e → map (λ (t : Token). known_sort c d.sort) d.names.items ≡ map (λ (t : Token). known_sort c e.sort) e.names.items
  parameter-sorts-of d e k =
      let names : d.names.items ≡ e.names.items = k.names in
      let sort : d.sort ≡ e.sort = k.sort in
      λ i. map (λ (t : Token). known_sort c (sort i)) (names i)

  pub parameter-sorts-same : (ds es : List Declaration) → AreAlike AreDeclarationsAlike ds es → parameter_sorts c ds ≡ parameter_sorts c es
  parameter-sorts-same ds es k =
      flat-same AreDeclarationsAlike (λ (d : Declaration). map (λ (t : Token). known_sort c d.sort) d.names.items) (λ (d : Declaration). map (λ (t : Token). known_sort c d.sort) d.names.items) parameter-sorts-of ds es k

  pub all-variables-same : (ds es : List Declaration) → AreAlike AreDeclarationsAlike ds es → all_variables c.sorts ds ≡ all_variables c.sorts es
  all-variables-same ds es k = flat-same AreDeclarationsAlike (variables_of c.sorts) (variables_of c.sorts) (variables-of-same c.sorts) ds es k

  heading-same : (number : ℕ) (p q : Defined) → AreDefinedAlike p q → heading c number p ≡ heading c number q
  heading-same number p q k =
      let name : p.name ≡ q.name = k.name in
      let gates : p.gates ≡ q.gates = k.gates in
      let sorts = parameter-sorts-same p.parameters q.parameters k.parameters in
      let ends = declared-same p.functionality q.functionality k.functionality in
      λ i. record { name = (name i).text; number = number; gates = length (gates i); sorts = sorts i; functionality = ends i }

  pub headings-same : (es fs : List Entry) → AreAlike AreEntriesAlike es fs → (number : ℕ) → headings_from c number es ≡ headings_from c number fs
  headings-same [] [] k number = refl
  headings-same [] (f ∷ fs) k number = absurd k
  headings-same (e ∷ es) [] k number = absurd k
  headings-same (e ∷ es) (f ∷ fs) k number = λ i. heading-same number e.process f.process k.0.process i ∷ headings-same es fs k.1 (number + 1) i

  names-of-declaration : (d e : Declaration) → AreDeclarationsAlike d e → d.names.items ≡ e.names.items
  names-of-declaration d e k = k.names

  parameters-refused-same : (ds es : List Declaration) → AreAlike AreDeclarationsAlike ds es → parameter_refusals c ds ≡ parameter_refusals c es
  parameters-refused-same ds es k =
      let names = flat-same AreDeclarationsAlike (λ (d : Declaration). d.names.items) (λ (d : Declaration). d.names.items) names-of-declaration ds es k in
      let sorts = flat-same AreDeclarationsAlike (λ (d : Declaration). unknown_sort c d.sort) (λ (d : Declaration). unknown_sort c d.sort) (unknown-sort-same c) ds es k in
      λ i. names_twice (names i) ++ sorts i

  heading-refused-same : (e f : Entry) → AreEntriesAlike e f → heading_refusals c e.process ≡ heading_refusals c f.process
  heading-refused-same e f k =
      let p = k.process in
      let gates : e.process.gates ≡ f.process.gates = p.gates in
      let parameters = parameters-refused-same e.process.parameters f.process.parameters p.parameters in
      let ends = functionality-refused-same e.process.functionality f.process.functionality p.functionality in
      λ i. names_twice (gates i) ++ (parameters i ++ ends i)

stands-same : (within : Option ℕ) (e f : Entry) → AreEntriesAlike e f → stands_in within e ≡ stands_in within f
stands-same within e f k = let around : e.around ≡ f.around = k.around in λ i. is_innermost within (around i)

name-if-same : (within : Option ℕ) (e f : Entry) → AreEntriesAlike e f →
    (if stands_in within e then e.process.name ∷ [] else []) ≡ (if stands_in within f then f.process.name ∷ [] else [])
name-if-same within e f k =
    let stands = stands-same within e f k in
    let name : e.process.name ≡ f.process.name = k.process.name in
    λ i. if stands i then name i ∷ [] else []

names-in-same : (es fs : List Entry) → AreAlike AreEntriesAlike es fs → (within : Option ℕ) → names_in es within ≡ names_in fs within
names-in-same es fs k within =
    flat-same AreEntriesAlike (λ (e : Entry). if stands_in within e then e.process.name ∷ [] else []) (λ (e : Entry). if stands_in within e then e.process.name ∷ [] else []) (name-if-same within) es fs k

standing-same : (within : Option ℕ) (es fs : List Entry) → AreAlike AreEntriesAlike es fs → (number : ℕ) → standing_from within number es ≡ standing_from within number fs
standing-same within [] [] k number = refl
standing-same within [] (f ∷ fs) k number = absurd k
standing-same within (e ∷ es) [] k number = absurd k
standing-same within (e ∷ es) (f ∷ fs) k number = λ i. (if stands-same within e f k.0 i then number ∷ [] else []) ++ standing-same within es fs k.1 (number + 1) i

visible-same : (es fs : List Entry) → AreAlike AreEntriesAlike es fs → (around : List ℕ) → visible_in es around ≡ visible_in fs around
visible-same es fs k [] = standing-same None es fs k 0
visible-same es fs k (p ∷ around) = λ i. standing-same (Some p) es fs k 0 i ++ visible-same es fs k around i

pub table-refused-same : (c : Context) (es fs : List Entry) → AreAlike AreEntriesAlike es fs → table_refusals c es ≡ table_refusals c fs
table-refused-same c es fs k =
    let first = names-in-same es fs k None in
    let count = length-same AreEntriesAlike es fs k in
    let all = flat-same AreEntriesAlike (λ (e : Entry). heading_refusals c e.process) (λ (e : Entry). heading_refusals c e.process) (heading-refused-same c) es fs k in
    λ i. (names_twice (first i) ++ flat_map (λ (number : ℕ). names_twice (names-in-same es fs k (Some number) i)) (range_with_len 0 (count i))) ++ all i

-- settings of processes that are alike
pub record AreSettingsAlike (all other : Setting) : Type 0 where
  pub context : all.context ≡ other.context
  pub gates : all.gates ≡ other.gates
  pub table : AreAlike AreEntriesAlike all.table other.table

pub within-same : (all other : Setting) → AreSettingsAlike all other → (around : List ℕ) → headings_within all around ≡ headings_within other around
within-same all other k around =
    let context : all.context ≡ other.context = k.context in
    let headings = (λ i. headings_from (context i) 0 all.table) ∙ headings-same other.context all.table other.table k.table 0 in
    let visible = visible-same all.table other.table k.table around in
    λ i. filter_map (λ (n : ℕ). slice_get (headings i) n) (visible i)

pub site-same : (all other : Setting) → AreSettingsAlike all other → (number : ℕ) (e f : Entry) → AreEntriesAlike e f → body_site all number e ≡ body_site other number f
site-same all other k number e f l =
    let context : all.context ≡ other.context = k.context in
    let gates : all.gates ≡ other.gates = k.gates in
    let own : e.process.gates ≡ f.process.gates = l.process.gates in
    let around : e.around ≡ f.around = l.around in
    let parameters = (λ i. all_variables (context i).sorts e.process.parameters) ∙ all-variables-same other.context e.process.parameters f.process.parameters l.process.parameters in
    let processes = within-same all other k (number ∷ e.around) ∙ (λ i. headings_within other (number ∷ around i)) in
    λ i. record {
      context = record { sorts = (context i).sorts; operations = (context i).operations; variables = parameters i };
      gates = map (λ (t : Token). t.text) (own i);
      first_gate = gates i;
      processes = processes i;
    }

pub calls-same : (s : Site) (b c : Construct) → AreConstructsAlike b c → calls_at_once s b ≡ calls_at_once s c
calls-same s b c alike_stops = refl
calls-same s b c (alike_exits k) = refl
calls-same s b c (alike_inside k) = refl
calls-same s b c (alike_acts k l m) = refl
calls-same s b c (alike_chooses {a = d} {b = e} {c = f} {d = g} k l) = λ i. calls-same s d f k i ++ calls-same s e g l i
calls-same s b c (alike_asks {b = d} {c = e} k l) = calls-same s d e l
calls-same s b c (alike_binds {b = d} {c = e} k l) = calls-same s d e l
calls-same s b c (alike_values {b = d} {c = e} k l) = calls-same s d e l
calls-same s b c (alike_gates {b = d} {c = e} k l) = calls-same s d e l
calls-same s b c (alike_composes {a = d} {b = e} {c = f} {d = g} k l m) = λ i. calls-same s d f l i ++ calls-same s e g m i
calls-same s b c (alike_hides {b = d} {c = e} k) = calls-same s d e k
calls-same s b c (alike_enables {a = d} {c = f} k l m) = calls-same s d f k
calls-same s b c (alike_disables {a = d} {b = e} {c = f} {d = g} k l) = λ i. calls-same s d f k i ++ calls-same s e g l i
calls-same s b c (alike_calls k) = refl
calls-same s b c (alike_copies {b = d} {c = e} k l) = calls-same s d e l
