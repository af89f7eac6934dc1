-- What a construct is read as stands for it.
use Rattle.std.proofs.Common.{ℕ, List}
use Rattle.std.specs.Prelude.{Option}
use Rattle.lotos_ast.specs.declared.behaviour.GateChoice.{GateChoice}
use Rattle.lotos_ast.specs.declared.refusal.Refusal.{Refusal}
use Rattle.spec_core.specs.Code.{Program}
use Rattle.spec_core.specs.Functionality.{Functionality}
use Rattle.static_constructs.specs.Constructs.{Construct}
use Rattle.static_readings.specs.Joins.{Read}
use Rattle.static_readings.specs.Readings.{IsRead, stopped, exited, acted_inside, acted, chosen_either, asked, bound_to_values}
use Rattle.static_readings.specs.Readings.{chosen_values, chosen_gates, composed_with, hidden, enabled_by, disabled_by, called_with}
use Rattle.static_readings.specs.Readings.{copied_at, AreGatesChosen, none_left, one_more}
use Rattle.static_readings.specs.Sites.{Site}
use Rattle.static_laws.proofs.CalledRow.{called-row}
use Rattle.static_laws.proofs.Rows.{Holds, stopped-row, exited-row, inner-row, acted-row, chosen-either-row, asked-row, bound-row}
use Rattle.static_laws.proofs.Rows.{chosen-values-row, gate-row, composed-row, hidden-row, enabled-row, disabled-row, copied-row}

module _ (program : Program) (processes : ℕ → Functionality) where
  mutual
    pub construct-stands : {s : Site} {from : ℕ} {b : Construct} {found : Option Read} {rs : List Refusal} → IsRead s from b found rs →
        Holds program processes s from found
    construct-stands {s} {from} stopped = stopped-row program processes s from
    construct-stands {s} {from} (exited values found rs d) = exited-row program processes s from values found rs d
    construct-stands {s} {from} (acted_inside b x rs d) = inner-row program processes s from x (construct-stands d)
    construct-stands {s} {from} (acted gate offers predicate b fields guard x ro rp rb o p d) =
        acted-row program processes s from gate offers predicate fields guard x ro rp o p (construct-stands d)
    construct-stands {s} {from} (chosen_either place a b x y ra rb d e) =
        chosen-either-row program processes s from x y (construct-stands d) (construct-stands e)
    construct-stands {s} {from} (asked p b found x rp rb q d) = asked-row program processes s from p found x rp q (construct-stands d)
    construct-stands {s} {from} (bound_to_values bindings b found x rv rb v d) =
        bound-row program processes s from bindings found x rv v (construct-stands d)
    construct-stands {s} {from} (chosen_values ds b x rb d) = chosen-values-row program processes s from ds x (construct-stands d)
    construct-stands {s} {from} (chosen_gates cs b x rs d) = choices-stand d
    construct-stands {s} {from} (composed_with place operator a b x y ra rb d e) =
        composed-row program processes s from operator x y (construct-stands d) (construct-stands e)
    construct-stands {s} {from} (hidden gates b x rb d) = hidden-row program processes s from gates x (construct-stands d)
    construct-stands {s} {from} (enabled_by place a ds b x y ra rb d e) =
        enabled-row program processes s from ds x y (construct-stands d) (construct-stands e)
    construct-stands {s} {from} (disabled_by place a b x y ra rb d e) =
        disabled-row program processes s from x y (construct-stands d) (construct-stands e)
    construct-stands {s} {from} (called_with name gates es x rs d) = called-row program processes s from name gates es x rs d
    construct-stands {s} {from} (copied_at gate among operator b x rb d) =
        copied-row program processes s from gate among operator x (construct-stands d)

    choices-stand : {s : Site} {from : ℕ} {cs : List GateChoice} {b : Construct} {found : Option Read} {rs : List Refusal} →
        AreGatesChosen s from cs b found rs → Holds program processes s from found
    choices-stand (none_left b x rs d) = construct-stands d
    choices-stand {s} {from} (one_more c cs b x rs d) = gate-row program processes s from c x (choices-stand d)
