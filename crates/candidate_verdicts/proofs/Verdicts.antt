-- Verdicts that are known, and what is known after steps.
use Rattle.std.proofs.Common.{ℕ, ◌≡◌, ◌≤◌, ◌↔◌, ⊎_elim, ◌∙◌, refl, sym, Bool, true, false, arith}
use Rattle.std.proofs.lemmas.Option.{none-some}
use Rattle.spec_core.proofs.Options.{map_some}
use Rattle.candidate_laws.specs.Asked.{IsAsked}
use Rattle.node_trees.specs.Shapes.{stands_for}
use Rattle.candidate_verdicts.specs.Known.{known_show}
use Rattle.candidate_search.specs.Searches.{for_offer}
use Rattle.candidate_verdicts.specs.Asked.{asked_by}
use Rattle.candidate_verdicts.specs.Laws.{ArePiecesOf, KnownVerdictsAreSo, PiecesOutliveSteps}
use Rattle.candidate_verdicts.proofs.Known.{known_shows_are_so}
use Rattle.candidate_verdicts.proofs.Deciding.{shows_decide_queries}

-- two tests of one fact say the same
same_test : (P : Type 0) (b c : Bool) → (b ≡ true) ↔ P → (c ≡ true) ↔ P → b ≡ c
same_test P true true f g = refl
same_test P false false f g = refl
same_test P true false f g = sym (g.1 (f.0 refl))
same_test P false true f g = f.1 (g.0 refl)

pub known_verdicts_are_so : KnownVerdictsAreSo
known_verdicts_are_so program e w exact pieces t h is_asked tests a b q =
    let known = map_some (known_show program.theory w pieces t a.tree) (asked_by program.theory w (for_offer a.query) a.tree) b q in
    let shown = known_shows_are_so program e w exact pieces t h a.tree known.0 known.1 in
    same_test (IsAsked program w (stands_for program t) a.query a.tree) (is_asked a.query a.tree)
    (asked_by program.theory w (for_offer a.query) a.tree known.0) (tests a.query a.tree)
    (shows_decide_queries program e w exact (stands_for program t) a.tree known.0 shown a.query) ∙ known.2

pub pieces_outlive_steps : PiecesOutliveSteps
pieces_outlive_steps program w pieces old next rules new later gone came step unknown h = (stay, λ g d l. unknown g d (at_least g l))
  where
    stay : ArePiecesOf program w pieces new
    stay up n stands d o q =
        ⊎_elim (λ l. h up n l.0 d o q) (λ r. absurd (none-some _ (sym (unknown n.generation d r.from) ∙ q))) (step.keeps up n stands)

    at_least : (g : ℕ) → later ≤ g → next ≤ g
    at_least g l = let m = step.more in omega (arith, l, m)
