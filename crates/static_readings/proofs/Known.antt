-- Sorts of declarations that are known.
use Rattle.std.proofs.Common.{ℕ, ◌≡◌, ◌∙◌, ◌<◌, ◌≤◌, ◌+◌, sym, ap, List, length, get_or, drop, Some, None, Bool, true, false, ◌&&◌, if◌then◌else◌}
use Rattle.std.proofs.Math.Seq.{drop-append_seam}
use Rattle.std.proofs.lemmas.List.{drop_all}
use Rattle.lotos_ast.specs.declared.declaration.Declaration.{Declaration}
use Rattle.spec_core.specs.Code.{Variable}
use Rattle.sort_overloads.specs.Refused.{is_sort_known}
use Rattle.sort_overloads.proofs.Loops.{dropped-next}
use Rattle.static_equations.specs.Variables.{all_variables}
use Rattle.static_readings.specs.Declarations.{are_known, numbered_from, declared_variables}
use Rattle.static_readings.specs.Sites.{Site, with_variables}

one_first : (s : Site) (ds : List Declaration) (i : ℕ) (d : Declaration) → i < length ds → d ≡ get_or ds i d
    → are_known s (drop i ds) ≡ (is_sort_known s.context d.sort.text && are_known s (drop (i + 1) ds))
one_first s ds i d within at = ap (are_known s) (dropped-next ds i d within at)

pub unknown_at : (s : Site) (ds : List Declaration) (i : ℕ) (d : Declaration) (known : Bool) → i < length ds → d ≡ get_or ds i d
    → known ≡ is_sort_known s.context d.sort.text → known ≡ false → are_known s (drop i ds) ≡ are_known s ds → false ≡ are_known s ds
unknown_at s ds i d known within at is bad h =
    ap (λ b. b && are_known s (drop (i + 1) ds)) (sym bad ∙ is) ∙ sym (one_first s ds i d within at) ∙ h

pub known_next : (s : Site) (ds : List Declaration) (i : ℕ) (d : Declaration) (known : Bool) → i < length ds → d ≡ get_or ds i d
    → known ≡ is_sort_known s.context d.sort.text → known ≡ true → are_known s (drop i ds) ≡ are_known s ds
    → are_known s (drop (i + 1) ds) ≡ are_known s ds
known_next s ds i d known within at is good h =
    ap (λ b. b && are_known s (drop (i + 1) ds)) (sym good ∙ is) ∙ sym (one_first s ds i d within at) ∙ h

pub known_all : (s : Site) (ds : List Declaration) (i : ℕ) → length ds ≤ i → are_known s (drop i ds) ≡ are_known s ds → true ≡ are_known s ds
known_all s ds i past h = ap (are_known s) (sym (drop_all i ds past)) ∙ h

-- variables that are put into scope, as code has them

known_still : (s now : Site) (ds : List Declaration) (known : Bool) → now ≡ with_variables s (all_variables s.context.sorts ds)
    → known ≡ are_known now ds → known ≡ are_known s ds
known_still s now ds known put is = is ∙ ap (λ z. are_known z ds) put

pub declared_known : (s now : Site) (ds : List Declaration) (known : Bool) (vars : List Variable) → now ≡ with_variables s (all_variables s.context.sorts ds)
    → known ≡ are_known now ds → known ≡ true
    → vars ≡ numbered_from (length s.context.variables) (drop (length s.context.variables) now.context.variables) → Some vars ≡ declared_variables s ds
declared_known s now ds known vars put is good h =
    let n = length s.context.variables in
    let all = all_variables s.context.sorts ds in
    ap Some (h ∙ ap (λ z. numbered_from n (drop n z.context.variables)) put ∙ ap (numbered_from n) (drop-append_seam s.context.variables all))
    ∙ ap (λ b. if b then Some (numbered_from n all) else None) (sym good ∙ known_still s now ds known put is)

pub declared_unknown : (s now : Site) (ds : List Declaration) (known : Bool) → now ≡ with_variables s (all_variables s.context.sorts ds)
    → known ≡ are_known now ds → known ≡ false → None ≡ declared_variables s ds
declared_unknown s now ds known put is bad =
    ap (λ b. if b then Some (numbered_from (length s.context.variables) (all_variables s.context.sorts ds)) else None)
    (sym bad ∙ known_still s now ds known put is)
