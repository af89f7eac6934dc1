-- Formal gates with actual ones, from the front.
use Rattle.std.proofs.Common.{ℕ, ◌≡◌, ◌<◌, List, [], ◌∷◌, ◌++◌, length, map, sym, ◌∙◌, arith}
use Rattle.std.proofs.lemmas.List.{append-nil, append_assoc}
use Rattle.spec_core.specs.Code.{Relabelling}
use Rattle.spec_core.specs.Numbers.{gate_number}
use Rattle.spec_core.specs.declared.items.Gate.{Gate}
use Rattle.rule_model.specs.Actions.{pairs_of}

-- one more pair behind others
pub one_more : (g h : ℕ) (formal actual : List ℕ) (ps all : List Relabelling) →
    ps ++ pairs_of (g ∷ formal) (h ∷ actual) ≡ all → (ps ++ record { from = g; to = h } ∷ []) ++ pairs_of formal actual ≡ all
one_more g h formal actual ps all e = append_assoc ps (record { from = g; to = h } ∷ []) (pairs_of formal actual) ∙ e

-- no more where there are no actual gates
pub no_more : (formal : List ℕ) (others : List Gate) (ps all : List Relabelling) → length others < 1 →
    ps ++ pairs_of formal (map gate_number others) ≡ all → ps ≡ all
no_more [] [] ps all h e = sym (append-nil ps) ∙ e
no_more (g ∷ formal) [] ps all h e = sym (append-nil ps) ∙ e
no_more formal (x ∷ others) ps all h e = absurd (omega (arith, h))
