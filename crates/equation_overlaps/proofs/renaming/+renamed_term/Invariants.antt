use Rattle.std.proofs.Common.{◌≡◌, map, take}
use Rattle.spec_core.specs.Terms.{term_of, terms}
use Rattle.equation_overlaps.specs.Renamings.{new_name, renamed_terms}
use Rattle.equation_overlaps.proofs.renaming.+renamed_term.Given as goal

abbrev pub invariant-loop-part : goal.invariant-loop-part
invariant-loop-part l =
    terms (map term_of l.all.items) ≡ renamed_terms (new_name l.names) (terms (map term_of (take l.part-index l.part-items)))
