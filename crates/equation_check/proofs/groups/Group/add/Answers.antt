use Rattle.std.proofs.Common.{◌≡◌, ◌++◌, ◌∷◌, [], length, map, ap, refl, rules, ◌∙◌}
use Rattle.std.proofs.lemmas.List.{map-append}
use Rattle.spec_core.specs.Theories.{equation_of}
use Rattle.equation_check.specs.declared.groups.Group.{Group}
use Rattle.equation_check.specs.Groups.{argument, place_if, places_at, seen}
use Rattle.equation_check.proofs.Indexing.{indexed_more, same_places}
use Rattle.equation_check.proofs.groups.Group.add.Goals as goal

pub returns-clause-indexed : goal.returns-clause-indexed
returns-clause-indexed c =
    let old = c.args.self.now in
    let noted = c.note.new.self in
    let new : Group = record { equations = c.push.new.self; places = noted.places; others = noted.others } in
    let e = equation_of c.args.equation.now in
    let count : c.len-place.result ≡ length old.equations.items = search rules in
    indexed_more old new e c.requires
    (ap (map seen) c.in_ok-push.ensures.items ∙ map-append seen noted.equations.items (c.args.equation ∷ [])
    ∙ ap (λ v. map seen v.items ++ e ∷ []) c.in_ok-note.ensures.equations)
    (λ o. same_places new noted refl refl o ∙ c.in_ok-note.ensures.noted o
    ∙ ap (λ a. places_at old o ++ place_if o a c.len-place.result) c.argument-argument.ensures
    ∙ ap (λ n. places_at old o ++ place_if o (argument e.left) n) count)
