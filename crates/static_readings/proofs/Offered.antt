-- What offers are read as.
use Rattle.std.proofs.Common.{ℕ, suc, ◌≡◌, ◌∙◌, ◌<◌, ◌≤◌, ◌+◌, refl, sym, ap, subst, arith, List, [], ◌∷◌, ◌++◌, length, get_or, take, map, append-nil, Option, Some, None, Bool, true, false, if◌then◌else◌}
use Rattle.std.specs.Prelude.{option_map, Vec}
use Rattle.std.specs.declared.alloc.Global.{Global}
use Rattle.std.proofs.lemmas.Grind.{flat_map-append}
use Rattle.std.proofs.lemmas.List.{map-append, length-append, length-map, length-take-le, take_all}
use Rattle.lotos_ast.specs.declared.behaviour.Offer.{Offer}
use Rattle.lotos_ast.specs.declared.behaviour.Offer.TheVariants.{Variables}
use Rattle.lotos_ast.specs.declared.expression.Expr.{Expr}
use Rattle.lotos_ast.specs.declared.expression.Premiss.{Premiss}
use Rattle.lotos_ast.specs.declared.place.Place.{Place}
use Rattle.lotos_ast.specs.declared.refusal.Refusal.{Refusal}
use Rattle.lotos_ast.specs.declared.token.Token.{Token}
use Rattle.spec_core.specs.Code as code
use Rattle.spec_core.specs.Code.{ActionField, give, accept}
use Rattle.spec_core.specs.Theories.{Premise}
use Rattle.spec_core.proofs.Lists.{take_next}
use Rattle.sort_overloads.specs.Judged.{Adds}
use Rattle.sort_overloads.specs.Listed.{Typed}
use Rattle.sort_overloads.specs.Readings.{Declared}
use Rattle.sort_overloads.specs.Refused.{is_sort_known, unknown_sort}
use Rattle.static_equations.specs.Premisses.{IsPremissJudged}
use Rattle.static_equations.specs.Variables.{sort_named}
use Rattle.static_readings.specs.Declarations.{numbered_from, of_one_sort}
use Rattle.static_readings.specs.Offers as offers
use Rattle.static_readings.specs.Offers.{IsOfferRead, AreOffersRead, IsExpressionRead, IsPredicateRead, names_of, offered_names, numbered_offers}
use Rattle.static_readings.specs.ReadsAll.{all_before, ReadsAll}
use Rattle.static_readings.specs.Sites.{Site, sort_of}
use Rattle.static_readings.proofs.Single.{added_as, named_sort}
use Rattle.static_readings.proofs.Together.{alone, next_behind}

-- fields that variables of a sort take

abbrev variable : ℕ → Token → Declared
variable sort t = record { name = t.text; sort = sort }

numbered_more : (n : ℕ) (xs : List Declared) (x : Declared) → numbered_from n (xs ++ x ∷ []) ≡ numbered_from n xs ++ record { number = n + length xs; sort = x.sort } ∷ []
numbered_more n [] x = ap (λ k. record { number = k; sort = x.sort } ∷ []) (omega arith)
numbered_more n (y ∷ ys) x =
    let here : code.Variable = record { number = n; sort = y.sort } in
    let sums : suc n + length ys ≡ n + suc (length ys) = omega arith in
    ap (λ vs. here ∷ vs) (numbered_more (suc n) ys x)
    ∙ ap (λ k. here ∷ (numbered_from (suc n) ys ++ record { number = k; sort = x.sort } ∷ [])) sums

abbrev accepted : ℕ → ℕ → List Token → List ActionField
accepted n sort ts = map accept (numbered_from n (map (variable sort) ts))

accepted_more : (n sort : ℕ) (ts : List Token) (t : Token) → accepted n sort (ts ++ t ∷ []) ≡ accepted n sort ts ++ accept (record { number = n + length ts; sort = sort }) ∷ []
accepted_more n sort ts t =
    ap (λ vs. map accept (numbered_from n vs)) (map-append (variable sort) ts (t ∷ []))
    ∙ ap (map accept) (numbered_more n (map (variable sort) ts) (variable sort t))
    ∙ map-append accept (numbered_from n (map (variable sort) ts)) (record { number = n + length (map (variable sort) ts); sort = sort } ∷ [])
    ∙ ap (λ k. accepted n sort ts ++ accept (record { number = n + k; sort = sort }) ∷ []) (length-map ts (variable sort))

pub taken_next : (n sort : ℕ) (ts : List Token) (i : ℕ) (t : Token) (k : ℕ) (now next : List ActionField) → i < length ts → t ≡ get_or ts i t → k ≡ n + i
    → now ≡ map accept (numbered_from n (map (λ t. record { name = t.text; sort = sort }) (take i ts)))
    → next ≡ now ++ accept (record { number = k; sort = sort }) ∷ []
    → next ≡ map accept (numbered_from n (map (λ t. record { name = t.text; sort = sort }) (take (i + 1) ts)))
taken_next n sort ts i t k now next within at is before put =
    put ∙ ap (λ z. z ++ accept (record { number = k; sort = sort }) ∷ []) before
    ∙ ap (λ j. accepted n sort (take i ts) ++ accept (record { number = j; sort = sort }) ∷ []) (is ∙ ap (λ j. n + j) (sym (length-take-le i ts (omega arith))))
    ∙ sym (accepted_more n sort (take i ts) t)
    ∙ ap (accepted n sort) (sym (take_next ts i t within at))

pub taken_all : (n sort : ℕ) (ts : List Token) (i : ℕ) (now : List ActionField) → length ts ≤ i
    → now ≡ map accept (numbered_from n (map (λ t. record { name = t.text; sort = sort }) (take i ts)))
    → now ≡ map accept (numbered_from n (map (λ t. record { name = t.text; sort = sort }) ts))
taken_all n sort ts i now past h = h ∙ ap (accepted n sort) (take_all i ts past)

-- the same, where the sort is known

pub accepting_unknown : (s : Site) (n : ℕ) (ts : List Token) (t : Token) → None ≡ sort_of s t → None ≡ offers.accepting s n ts t
accepting_unknown s n ts t is = by_test (is_sort_known s.context t.text) refl
  where
    differ : None ≡ Some (sort_named s.context.sorts t.text) → ⊥
    differ e = cc

    by_test : (b : Bool) → is_sort_known s.context t.text ≡ b → None ≡ offers.accepting s n ts t
    by_test true e = absurd (differ (is ∙ ap (λ b. if b then Some (sort_named s.context.sorts t.text) else None) e))
    by_test false e = ap (λ b. if b then Some (map accept (numbered_from n (of_one_sort s.context.sorts ts t))) else None) (sym e)

pub accepting_known : (s : Site) (n : ℕ) (ts : List Token) (t : Token) (sort : ℕ) (fields : List ActionField) → Some sort ≡ sort_of s t
    → fields ≡ map accept (numbered_from n (map (λ t. record { name = t.text; sort = sort }) ts)) → Some fields ≡ offers.accepting s n ts t
accepting_known s n ts t sort fields is h = by_test (is_sort_known s.context t.text) refl
  where
    differ : Some sort ≡ None → ⊥
    differ e = cc

    by_test : (b : Bool) → is_sort_known s.context t.text ≡ b → Some fields ≡ offers.accepting s n ts t
    by_test true e =
        ap Some (h ∙ ap (λ k. map accept (numbered_from n (map (variable k) ts))) (sym (named_sort s t sort is)))
        ∙ ap (λ b. if b then Some (map accept (numbered_from n (of_one_sort s.context.sorts ts t))) else None) (sym e)
    by_test false e = absurd (differ (is ∙ ap (λ b. if b then Some (sort_named s.context.sorts t.text) else None) e))

-- an offer

pub offer_unread : (s : Site) (n : ℕ) (place : Place) (e : Expr) (old new : List Refusal) → Adds (IsExpressionRead s None e None) old new
    → Adds (IsOfferRead s (n, Offer.Value place e) None) old new
offer_unread s n place e old new h = added_as old new (λ rs p. offers.value e None rs p) h

pub offer_given : (s : Site) (n : ℕ) (place : Place) (e : Expr) (x : Typed) (fields : Option (List ActionField)) (old new : List Refusal)
    → Adds (IsExpressionRead s None e (Some x)) old new → fields ≡ Some (give x.term ∷ []) → Adds (IsOfferRead s (n, Offer.Value place e) fields) old new
offer_given s n place e x fields old new h is =
    subst (λ z. Adds (IsOfferRead s (n, Offer.Value place e) z) old new) (sym is) (added_as old new (λ rs p. offers.value e (Some x) rs p) h)

pub offer_accepting : (s : Site) (n : ℕ) (place : Place) (names : Vec Token Global) (sort : Token) (fields : Option (List ActionField)) (old new : List Refusal)
    → new ≡ old ++ unknown_sort s.context sort → fields ≡ offers.accepting s n names.items sort
    → Adds (IsOfferRead s (n, Variables place names sort) fields) old new
offer_accepting s n place names sort fields old new h is = record {
  refusals = unknown_sort s.context sort;
  such = subst (λ z. IsOfferRead s (n, Variables place names sort) z (unknown_sort s.context sort)) (sym is) (offers.variables names sort);
  behind = h;
}

-- offers with the numbers of their first variables

pub offers_more : (n : ℕ) (os : List Offer) (o : Offer) → numbered_offers n (os ++ o ∷ []) ≡ numbered_offers n os ++ (n + length (offered_names os), o) ∷ []
offers_more n [] o = ap (λ k. (k, o) ∷ []) (omega arith)
offers_more n (p ∷ ps) o =
    let rest = numbered_offers (n + length (names_of p)) ps in
    let sums : (n + length (names_of p)) + length (offered_names ps) ≡ n + length (names_of p ++ offered_names ps) =
    omega (arith, length-append (names_of p) (offered_names ps)) in
    ap (λ z. (n, p) ∷ z) (offers_more (n + length (names_of p)) ps o) ∙ ap (λ k. (n, p) ∷ (rest ++ (k, o) ∷ [])) sums

pub number_next : (n k j : ℕ) (os : List Offer) (i : ℕ) (o : Offer) → i < length os → o ≡ get_or os i o → k ≡ n + length (offered_names (take i os))
    → j ≡ k + length (names_of o) → j ≡ n + length (offered_names (take (i + 1) os))
number_next n k j os i o within at before more =
    let put = offered_names (take i os) in
    let names : offered_names (take (i + 1) os) ≡ put ++ names_of o =
    ap offered_names (take_next os i o within at) ∙ flat_map-append names_of (take i os) (o ∷ []) ∙ ap (λ z. put ++ z) (append-nil (names_of o)) in
    let lengths : length (offered_names (take (i + 1) os)) ≡ length put + length (names_of o) = ap length names ∙ length-append put (names_of o) in
    omega (arith, before, more, lengths)

pub fields_next : {B : Type 0} (s : Site) (f : B → List ActionField) (os : List Offer) (i : ℕ) (o : Offer) (k : ℕ) (now after : Option (List B)) (one : Option B)
    (old mid new : List Refusal) → i < length os → o ≡ get_or os i o → k ≡ length s.context.variables + length (offered_names (take i os))
    → Adds (ReadsAll (IsOfferRead s) (numbered_offers (length s.context.variables) (take i os)) (option_map (map f) now)) old mid
    → Adds (IsOfferRead s (k, o) (option_map f one)) mid new → after ≡ all_before now (alone one)
    → Adds (ReadsAll (IsOfferRead s) (numbered_offers (length s.context.variables) (take (i + 1) os)) (option_map (map f) after)) old new
fields_next s f os i o k now after one old mid new within at counts h r is =
    let n = length s.context.variables in
    let front = numbered_offers n (take i os) in
    subst (λ z. Adds (ReadsAll (IsOfferRead s) z (option_map (map f) after)) old new)
    (sym (ap (numbered_offers n) (take_next os i o within at) ∙ offers_more n (take i os) o ∙ ap (λ j. front ++ (j, o) ∷ []) (sym counts)))
    (next_behind (IsOfferRead s) f front (k, o) now after one old mid new h r is)

pub fields_all : (s : Site) (os : List Offer) (i : ℕ) (found : Option (List (List ActionField))) (old new : List Refusal) → length os ≤ i
    → Adds (ReadsAll (IsOfferRead s) (numbered_offers (length s.context.variables) (take i os)) found) old new → Adds (AreOffersRead s os found) old new
fields_all s os i found old new past h =
    subst (λ z. Adds (ReadsAll (IsOfferRead s) (numbered_offers (length s.context.variables) z) found) old new) (take_all i os past) h

-- a predicate

pub no_predicate : (s : Site) (old : List Refusal) → Adds (IsPredicateRead s None (Some None)) old old
no_predicate s old = record { refusals = []; such = (refl, refl); behind = sym (append-nil old) }

predicate_as : (s : Site) (p : Premiss) (x : Option Premise) (old new : List Refusal) → Adds (IsPremissJudged s.context p x) old new
    → Adds (IsPredicateRead s (Some p) (option_map (λ q. Some q) x)) old new
predicate_as s p x old new h = added_as old new (λ rs j. (x, refl, j)) h

pub predicate_unread : (s : Site) (p : Premiss) (old new : List Refusal) → Adds (IsPremissJudged s.context p None) old new
    → Adds (IsPredicateRead s (Some p) None) old new
predicate_unread s p old new h = predicate_as s p None old new h

pub predicate_read : (s : Site) (p : Premiss) (x : Premise) (old new : List Refusal) → Adds (IsPremissJudged s.context p (Some x)) old new
    → Adds (IsPredicateRead s (Some p) (Some (Some x))) old new
predicate_read s p x old new h = predicate_as s p (Some x) old new h

pub ruleset predicate_rows = (no_predicate, predicate_unread, predicate_read)
