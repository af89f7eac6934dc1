-- Variables as code has them.
use Rattle.std.proofs.Common.{ℕ, ◌≡◌, ◌∙◌, ◌<◌, ◌≤◌, ◌+◌, sym, ap, add-one, List, [], ◌∷◌, ◌++◌, length, get_or, drop, map, append_assoc, append-nil}
use Rattle.std.proofs.lemmas.List.{drop_all}
use Rattle.spec_core.specs.Code as code
use Rattle.sort_overloads.specs.declared.variables.Variable.{Variable}
use Rattle.sort_overloads.specs.Views.{declared_of}
use Rattle.sort_overloads.proofs.Loops.{dropped-next}
use Rattle.static_readings.specs.Declarations.{numbered_from}

pub numbered_next : (vars : List Variable) (i : ℕ) (v : Variable) (now next whole : List code.Variable) → i < length vars → v ≡ get_or vars i v
    → now ++ numbered_from i (map declared_of (drop i vars)) ≡ whole → next ≡ now ++ record { number = i; sort = v.sort.0 } ∷ []
    → next ++ numbered_from (i + 1) (map declared_of (drop (i + 1) vars)) ≡ whole
numbered_next vars i v now next whole within at before put =
    let rest = map declared_of (drop (i + 1) vars) in
    ap (λ z. z ++ numbered_from (i + 1) rest) put
    ∙ append_assoc now (record { number = i; sort = v.sort.0 } ∷ []) (numbered_from (i + 1) rest)
    ∙ ap (λ k. now ++ (record { number = i; sort = v.sort.0 } ∷ numbered_from k rest)) (add-one i)
    ∙ ap (λ vs. now ++ numbered_from i (map declared_of vs)) (sym (dropped-next vars i v within at))
    ∙ before

pub numbered_all : (vars : List Variable) (i : ℕ) (now whole : List code.Variable) → length vars ≤ i
    → now ++ numbered_from i (map declared_of (drop i vars)) ≡ whole → now ≡ whole
numbered_all vars i now whole past h =
    sym (append-nil now) ∙ ap (λ vs. now ++ numbered_from i (map declared_of vs)) (sym (drop_all i vars past)) ∙ h
