-- A specification of which nothing is refused comes to a program.
use Rattle.std.proofs.Common.{ℕ, zero, suc, ◌≡◌, List, [], ◌∷◌, ◌++◌, map, refl, sym, subst, ◌+◌}
use Rattle.std.specs.Prelude.{Option, Some, None, option_map, IsSome}
use Rattle.std.specs.List.{filter_map, cons_option, slice_get, flat_map}
use Rattle.std.proofs.lemmas.Bool.{false≢true}
use Rattle.static_constructs.specs.Written.{listed, behaviour_written}
use Rattle.lotos_ast.specs.declared.declaration.Declaration.{Declaration}
use Rattle.lotos_ast.specs.declared.declaration.Functionality.{Functionality}
use Rattle.lotos_ast.specs.declared.declaration.Functionality.TheVariants.{NoExit, Exit}
use Rattle.lotos_ast.specs.declared.refusal.Refusal.{Refusal}
use Rattle.lotos_ast.specs.declared.spec.Spec.{Spec}
use Rattle.lotos_ast.specs.declared.token.Token.{Token}
use Rattle.spec_core.specs.Code.{program_of}
use Rattle.spec_core.specs.declared.code.Checked.{Checked}
use Rattle.spec_core.specs.Functionality as core
use Rattle.spec_core.specs.Theories.{Theory}
use Rattle.spec_core.proofs.Lists.{left_empty, right_empty}
use Rattle.sort_overloads.specs.Readings.{Context}
use Rattle.sort_overloads.specs.Refused.{unknown_sort, is_sort_known}
use Rattle.static_readings.specs.Declarations.{declared_names}
use Rattle.static_readings.specs.Joins.{Read, after}
use Rattle.static_readings.specs.Sites.{Heading}
use Rattle.static_processes.specs.Headings.{known_sort, known_sorts, declared, parameter_sorts, headings_from, functionality_refusals}
use Rattle.static_processes.specs.Headings.{parameter_refusals, heading_refusals, twice_refusals, table_refusals, opening_refusals}
use Rattle.static_processes.specs.Processes.{Entry, entries, visible_in}
use Rattle.static_call_cycles.specs.Unguarded.{unguarded_refusals}
use Rattle.type_names.specs.DuplicateNames.{names_twice}
use Rattle.static_check.specs.Bodies.{Setting, Placed, placed, body_site, headings_within, ending_refusals, body_ending_refusals, AreBodiesRead, none_left, one_more, calls_from}
use Rattle.static_check.specs.Compiled.{data_context, setting, start_site, program_if_read, IsJudged}
use Rattle.static_check.specs.Laws.{UnrefusedIsCompiled}
use Rattle.static_check.proofs.Unrefused.{some_map, some_before, some_if, sort_known, are_all_some, IsKnown, are_all_known, construct_read}

-- the sorts of headings of which nothing is refused are known

module _ (c : Context) where
  one_known : (t : Token) → unknown_sort c t ≡ [] → IsSome (known_sort c t)
  one_known t h = some_if (is_sort_known c t.text) _ (sort_known c t h)

  all_known : (ts : List Token) → flat_map (unknown_sort c) ts ≡ [] → IsSome (known_sorts c ts)
  all_known [] h = refl
  all_known (t ∷ ts) h =
      some_before (known_sort c t) (known_sorts c ts) (one_known t (left_empty (unknown_sort c t) _ h)) (all_known ts (right_empty (unknown_sort c t) _ h))

  ending_known : (f : Functionality) → functionality_refusals c f ≡ [] → IsSome (declared c f)
  ending_known (NoExit place) h = refl
  ending_known (Exit place sorts) h = some_map core.exits (known_sorts c (listed sorts)) (all_known (listed sorts) h)

some_each : (o : Option ℕ) (ts : List Token) → IsSome o → are_all_some (map (λ t. o) ts)
some_each o [] h = tt
some_each o (t ∷ ts) h = (h, some_each o ts h)

some_both : (xs ys : List (Option ℕ)) → are_all_some xs → are_all_some ys → are_all_some (xs ++ ys)
some_both [] ys h k = k
some_both (x ∷ xs) ys h k = (h.0, some_both xs ys h.1 k)

parameters_known : (c : Context) (ds : List Declaration) → flat_map (λ d. unknown_sort c d.sort) ds ≡ [] → are_all_some (parameter_sorts c ds)
parameters_known c [] h = tt
parameters_known c (d ∷ ds) h =
    some_both (map (λ t. known_sort c d.sort) d.names.items) (parameter_sorts c ds)
    (some_each (known_sort c d.sort) d.names.items (one_known c d.sort (left_empty (unknown_sort c d.sort) _ h)))
    (parameters_known c ds (right_empty (unknown_sort c d.sort) _ h))

headings_known : (c : Context) (n : ℕ) (es : List Entry) → flat_map (λ e. heading_refusals c e.process) es ≡ [] → are_all_known (headings_from c n es)
headings_known c n [] h = tt
headings_known c n (e ∷ es) h =
    let p = e.process in
    let of_this = left_empty (heading_refusals c p) _ h in
    let h2 = right_empty (names_twice p.gates) (parameter_refusals c p.parameters ++ functionality_refusals c p.functionality) of_this in
    let h3 = left_empty (parameter_refusals c p.parameters) (functionality_refusals c p.functionality) h2 in (
      record {
        sorts = parameters_known c p.parameters (right_empty (names_twice (declared_names p.parameters)) _ h3);
        functionality = ending_known c p.functionality (right_empty (parameter_refusals c p.parameters) (functionality_refusals c p.functionality) h2);
      },
      headings_known c (n + 1) es (right_empty (heading_refusals c p) _ h),
    )

-- those within some others

at_known : (ps : List Heading) (n : ℕ) (q : Heading) → are_all_known ps → slice_get ps n ≡ Some q → IsKnown q
at_known [] n q known h = absurd (let z : None ≡ Some q = h in cc)
at_known (p ∷ ps) zero q known h =
    let e : p ≡ q = cc in
    subst IsKnown e known.0
at_known (p ∷ ps) (suc n) q known h = at_known ps n q known.1 h

picked_known : (o : Option Heading) (rest : List Heading) → ((q : Heading) → o ≡ Some q → IsKnown q) → are_all_known rest → are_all_known (cons_option o rest)
picked_known None rest one known = known
picked_known (Some q) rest one known = (one q refl, known)

filtered_known : (f : ℕ → Option Heading) (ns : List ℕ) → ((n : ℕ) (q : Heading) → f n ≡ Some q → IsKnown q) → are_all_known (filter_map f ns)
filtered_known f [] one = tt
filtered_known f (n ∷ ns) one = picked_known (f n) (filter_map f ns) (one n) (filtered_known f ns one)

within_known : (all : Setting) (around : List ℕ) → are_all_known (headings_from all.context 0 all.table) → are_all_known (headings_within all around)
within_known all around known =
    let ps = headings_from all.context 0 all.table in
    filtered_known (λ n. slice_get ps n) (visible_in all.table around) (λ n q h. at_known ps n q known h)

-- the bodies

bodies_read : (all : Setting) (number from end : ℕ) (es : List Entry) (xs : Option (List Placed)) (rs : List Refusal)
    → are_all_known (headings_from all.context 0 all.table) → AreBodiesRead all number from end es xs rs → rs ≡ [] → IsSome xs
bodies_read all number from _ _ _ _ known none_left h = refl
bodies_read all number from end _ _ _ known (one_more e es x xs rb rs b more) h =
    let ending = body_ending_refusals all.context e.process x in
    some_before (option_map (placed from) x) xs
    (some_map (placed from) x (construct_read (body_site all number e) from e.process.body x rb (within_known all (number ∷ e.around) known) b
    (left_empty rb ending (left_empty (rb ++ ending) rs h))))
    (bodies_read all (number + 1) (after from x) end es xs rs known more (right_empty (rb ++ ending) rs h))

program_some : (theory : Theory) (spec : Spec) (bodies : Option (List Placed)) (from : ℕ) (start : Option Read) → IsSome bodies → IsSome start
    → IsSome (program_if_read theory spec bodies from start)
program_some theory spec (Some bodies) from (Some r) h k = refl
program_some theory spec (Some bodies) from None h k = absurd (false≢true k)
program_some theory spec None from start h k = absurd (false≢true h)

pub unrefused_is_compiled : UnrefusedIsCompiled
unrefused_is_compiled theory spec program j =
    let c = data_context theory in
    let all = setting theory spec in
    let opening = opening_refusals c spec in
    let table = table_refusals c (entries spec) in
    let ending = ending_refusals None spec.name.place (declared c spec.functionality) j.start in
    let cycles = unguarded_refusals (map (λ e. e.process.name.text) (entries spec)) (calls_from all 0 (entries spec)) in
    let h1 = right_empty opening (table ++ (j.body_refusals ++ (j.start_refusals ++ (ending ++ cycles)))) (sym j.are_refusals) in
    let h2 = right_empty table (j.body_refusals ++ (j.start_refusals ++ (ending ++ cycles))) h1 in
    let h3 = right_empty j.body_refusals (j.start_refusals ++ (ending ++ cycles)) h2 in
    let known = headings_known c 0 (entries spec) (right_empty (twice_refusals (entries spec)) _
    (left_empty table (j.body_refusals ++ (j.start_refusals ++ (ending ++ cycles))) h1)) in
    subst (λ z. IsSome z) (sym j.is_program)
    (program_some theory spec j.bodies j.from j.start
    (bodies_read all 0 _ j.from (entries spec) j.bodies j.body_refusals known j.are_read (left_empty j.body_refusals (j.start_refusals ++ (ending ++ cycles)) h2))
    (construct_read (start_site all spec) j.from (behaviour_written spec.behaviour) j.start j.start_refusals (within_known all [] known) j.is_read
    (left_empty j.start_refusals (ending ++ cycles) h3)))

-- so that no program is missing where nothing is refused
pub none_missing : (theory : Theory) (spec : Spec) (program : Option Checked) (refusals : List Refusal)
    → IsJudged theory spec (option_map program_of program) refusals → refusals ≡ [] → program ≡ None → ⊥
none_missing theory spec program refusals j none missing =
    let k = subst (λ z. IsJudged theory spec (option_map program_of z) refusals) missing j in
    false≢true (unrefused_is_compiled theory spec None (subst (λ z. IsJudged theory spec None z) none k))
