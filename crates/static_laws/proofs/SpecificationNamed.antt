-- Names of which none is declared twice.
use Rattle.std.proofs.Common.{◌≡◌, List, [], ◌∷◌, ◌++◌, map, refl, ap, ◌∙◌, inl, inr}
use Rattle.std.specs.Prelude.{Bool, true, false, if◌then◌else◌}
use Rattle.std.specs.List.{list_any}
use Rattle.std.specs.Str.{bytes_eq}
use Rattle.std.proofs.lemmas.Bool.{or_parts, both_ways}
use Rattle.lotos_ast.specs.declared.refusal.RefusalKind.{RefusalKind}
use Rattle.lotos_ast.specs.declared.token.Token.{Token}
use Rattle.spec_core.specs.Lists.{Each, IsOneOf, NoTwo}
use Rattle.spec_core.specs.Names.{IsSameName}
use Rattle.spec_core.proofs.Lists.{both_empty, cons_not_empty}
use Rattle.spec_core.proofs.Members.{one_right, one_left}
use Rattle.sort_overloads.proofs.Members.{same-name}
use Rattle.type_contents.specs.Items.{small}
use Rattle.type_names.specs.DuplicateNames.{name_twice, names_twice}
use Rattle.type_names.specs.Refused.{refused, each_after}

-- where nothing is refused of what passes a test, it doesn't pass
not_passed : {A : Type 0} (b : Bool) (r : A) → (if b then r ∷ [] else []) ≡ [] → b ≡ false
not_passed true r e = absurd (cons_not_empty r [] e)
not_passed false r e = refl

none_passes : {A : Type 0} (test : A → Bool) (xs : List A) → list_any test xs ≡ false → (x : A) → IsOneOf x xs → test x ≡ false
none_passes test [] e x h = absurd h
none_passes test (y ∷ ys) e x (inl same) = ap test same ∙ (or_parts (test y) (list_any test ys) e).0
none_passes test (y ∷ ys) e x (inr h) = none_passes test ys (or_parts (test y) (list_any test ys) e).1 x h

-- a name is none of those behind it
differs : (before ts : List Token) → each_after name_twice before ts ≡ [] → (b : Token) → IsOneOf b before →
    Each (λ name. IsSameName b.text name → ⊥) (map (λ t. t.text) ts)
differs before [] e b h = tt
differs before (t ∷ ts) e b h =
    let twice : Bool = list_any (λ y. bytes_eq (small y) (small t)) before in
    let parts = both_empty (name_twice before t) (each_after name_twice (before ++ t ∷ []) ts) e in (
      λ same. both_ways (bytes_eq (small b) (small t)) (none_passes (λ y. bytes_eq (small y) (small t)) before (not_passed twice (refused RefusalKind.DuplicateName t.place) parts.0) b h)
          ((same-name b.text t.text).1 same),
      differs (before ++ t ∷ []) ts parts.1 b (one_left b before (t ∷ []) h),
    )

no_two_from : (before ts : List Token) → each_after name_twice before ts ≡ [] → NoTwo IsSameName (map (λ t. t.text) ts)
no_two_from before [] e = tt
no_two_from before (t ∷ ts) e =
    let rest : each_after name_twice (before ++ t ∷ []) ts ≡ [] =
    (both_empty (name_twice before t) (each_after name_twice (before ++ t ∷ []) ts) e).1 in (
      differs (before ++ t ∷ []) ts rest t (one_right t before (t ∷ []) (inl refl)),
      no_two_from (before ++ t ∷ []) ts rest,
    )

pub no_two_named : (ts : List Token) → names_twice ts ≡ [] → NoTwo IsSameName (map (λ t. t.text) ts)
no_two_named ts e = no_two_from [] ts e
