-- A specification over its data is judged in one way only.
use Rattle.std.proofs.Common.{ℕ, ◌≡◌, ◌+◌, List, [], ◌++◌, map, refl, sym, ap, subst, ◌∙◌, None}
use Rattle.std.specs.Prelude.{Option, Some, option_map}
use Rattle.std.proofs.lemmas.Option.{none-some, same_Some}
use Rattle.lotos_ast.specs.declared.refusal.Refusal.{Refusal}
use Rattle.lotos_ast.specs.declared.spec.Spec.{Spec}
use Rattle.lotos_ast.specs.FirstRefusals.{first_refusal}
use Rattle.static_constructs.specs.Written.{behaviour_written}
use Rattle.spec_core.specs.Code.{Program}
use Rattle.spec_core.specs.Theories.{Theory}
use Rattle.static_readings.specs.Joins.{after}
use Rattle.static_readings.specs.ReadsAll.{before}
use Rattle.static_readings.specs.Readings.{IsRead}
use Rattle.static_processes.specs.Headings.{declared, table_refusals, opening_refusals}
use Rattle.static_processes.specs.Processes.{Entry, entries}
use Rattle.static_call_cycles.specs.Unguarded.{unguarded_refusals}
use Rattle.static_laws.proofs.CompiledOnce.{of-two, construct-one}
use Rattle.static_check.specs.Bodies.{Setting, Placed, placed, body_site, ending_refusals, body_ending_refusals, AreBodiesRead, none_left, one_more, calls_from}
use Rattle.static_check.specs.Compiled.{data_context, setting, start_site, program_if_read, IsCompiled, IsFirstRefusal}
use Rattle.static_laws.specs.Specification.{SpecificationsAreOne, AnswersAreOne}

bodies-one : {all : Setting} {number from end stop : ℕ} {es : List Entry} {f g : Option (List Placed)} {rs ss : List Refusal} →
    AreBodiesRead all number from end es f rs → AreBodiesRead all number from stop es g ss → (end ≡ stop) × ((f ≡ g) × (rs ≡ ss))
bodies-one none_left none_left = (refl, (refl, refl))
bodies-one {all} {number} {from} {end} {stop} (one_more e es x xs rb rs h k) (one_more _ _ y ys sb ss l m) =
    let first = construct-one (body_site all number e) from e.process.body x y rb sb h l in
    let left = bodies-one k (subst (λ o. AreBodiesRead all (number + 1) (after from o) stop es ys ss) (sym first.0) m) in (
      left.0,
      (
        of-two (λ x _ xs _. before (option_map (placed from) x) xs) first left.1,
        of-two (λ x rb _ rs. (rb ++ body_ending_refusals all.context e.process x) ++ rs) first left.1,
      ),
    )

pub specifications_one : SpecificationsAreOne
specifications_one theory spec f g rs ss h k =
    let bodies = bodies-one h.are_read k.are_read in
    let site = start_site (setting theory spec) spec in
    let start = construct-one site h.from (behaviour_written spec.behaviour) h.start k.start h.start_refusals k.start_refusals h.is_read
    (subst (λ n. IsRead site n (behaviour_written spec.behaviour) k.start k.start_refusals) (sym bodies.0) k.is_read) in
    let cycles = unguarded_refusals (map (λ (e : Entry). e.process.name.text) (entries spec)) (calls_from (setting theory spec) 0 (entries spec)) in (
      h.is_program ∙ of-two (λ bodies _ start _. program_if_read theory spec bodies h.from start) bodies.1 start
          ∙ ap (λ n. program_if_read theory spec k.bodies n k.start) bodies.0 ∙ sym k.is_program,
      h.are_refusals
          ∙ of-two (λ _ bodies start refusals. opening_refusals (data_context theory) spec ++ (table_refusals (data_context theory) (entries spec)
          ++ (bodies ++ (refusals
          ++ (ending_refusals None spec.name.place (declared (data_context theory) spec.functionality) start ++ cycles))))) bodies.1 start
          ∙ sym k.are_refusals,
    )

module _ (theory : Theory) (spec : Spec) where
  program-one : (program other : Program) → IsCompiled theory spec program → IsCompiled theory spec other → program ≡ other
  program-one program other h k = same_Some program other (specifications_one theory spec (Some program) (Some other) [] [] h k).0

  refusal-one : (r s : Refusal) → IsFirstRefusal theory spec r → IsFirstRefusal theory spec s → r ≡ s
  refusal-one r s h k =
      same_Some r s (sym h.first ∙ ap first_refusal (specifications_one theory spec h.program k.program h.refusals k.refusals h.judged k.judged).1 ∙ k.first)

  not-both : (program : Program) (r : Refusal) → IsCompiled theory spec program → IsFirstRefusal theory spec r → ⊥
  not-both program r h k =
      none-some r (ap first_refusal (specifications_one theory spec (Some program) k.program [] k.refusals h k.judged).1 ∙ k.first)

pub answers_one : AnswersAreOne
answers_one theory spec = record {
  one_program = program-one theory spec;
  one_refusal = refusal-one theory spec;
  not_both = not-both theory spec;
}
