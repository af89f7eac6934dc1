-- A text has one list of tokens at most and one refusal at most, and not both unless it is too long.
use Rattle.std.proofs.Common.{ℕ, List, ◌≡◌, Bool, refl, sym, subst, take, drop, arith}
use Rattle.lotos_ast.specs.declared.token.Token.{Token}
use Rattle.lotos_ast.specs.declared.place.Place.{Place}
use Rattle.lotos_ast.specs.declared.refusal.Refusal.{Refusal}
use Rattle.lotos_ast.specs.Places.{place_after}
use Rattle.lotos_ast.specs.TokenLaws.{OneTokenList, OneRefusal, NotBoth}
use Rattle.lotos_ast.specs.Tokenizes.{IsSpelled, ends, parted, spelled, IsStopped, at_byte, at_comment, behind_gap, behind_token, open_after, by_length, by_bytes}

-- what is spelled, or stops, behind so many bytes does so behind an equal number of them
spelled_behind : (o : Bool) (p : Place) (s : List ℕ) (ts : List Token) (n m : ℕ) → n ≡ m → IsSpelled o (place_after p (take m s)) (drop m s) ts → IsSpelled o (place_after p (take n s)) (drop n s) ts
spelled_behind o p s ts n m e h = subst (λ z. IsSpelled o (place_after p (take z s)) (drop z s) ts) (sym e) h

spelled_after : (o : Bool) (p : Place) (s : List ℕ) (ts : List Token) (n m : ℕ) → n ≡ m → IsSpelled (open_after o (take m s)) (place_after p (take m s)) (drop m s) ts → IsSpelled (open_after o (take n s)) (place_after p (take n s)) (drop n s) ts
spelled_after o p s ts n m e h = subst (λ z. IsSpelled (open_after o (take z s)) (place_after p (take z s)) (drop z s) ts) (sym e) h

stopped_behind : (o : Bool) (p : Place) (s : List ℕ) (r : Refusal) (n m : ℕ) → n ≡ m → IsStopped o (place_after p (take m s)) (drop m s) r → IsStopped o (place_after p (take n s)) (drop n s) r
stopped_behind o p s r n m e h = subst (λ z. IsStopped o (place_after p (take z s)) (drop z s) r) (sym e) h

stopped_after : (o : Bool) (p : Place) (s : List ℕ) (r : Refusal) (n m : ℕ) → n ≡ m → IsStopped (open_after o (take m s)) (place_after p (take m s)) (drop m s) r → IsStopped (open_after o (take n s)) (place_after p (take n s)) (drop n s) r
stopped_after o p s r n m e h = subst (λ z. IsStopped (open_after o (take z s)) (place_after p (take z s)) (drop z s) r) (sym e) h

one_spelling : {o : Bool} {p : Place} {s : List ℕ} {ts us : List Token} → IsSpelled o p s ts → IsSpelled o p s us → ts ≡ us
one_spelling ends ends = refl
one_spelling ends (parted n d h) = cc
one_spelling ends (spelled k n d h) = cc
one_spelling (parted n c h) ends = cc
one_spelling (parted n c h) (parted m d k) = one_spelling h (spelled_behind _ _ _ _ n m (cc) k)
one_spelling (parted n c h) (spelled j m d k) = cc
one_spelling (spelled i n c h) ends = cc
one_spelling (spelled i n c h) (parted m d k) = cc
one_spelling (spelled i n c h) (spelled j m d k) =
    let e : i ≡ j = cc in
    let f : n ≡ m = cc in
    let g = one_spelling h (spelled_after _ _ _ _ n m f k) in
    cc

never_both : {o : Bool} {p : Place} {s : List ℕ} {ts : List Token} {r : Refusal} → IsStopped o p s r → IsSpelled o p s ts → ⊥
never_both (at_byte b c) ends = cc
never_both (at_byte b c) (parted n d h) = cc
never_both (at_byte b c) (spelled k n d h) = cc
never_both (at_comment c) ends = cc
never_both (at_comment c) (parted n d h) = cc
never_both (at_comment c) (spelled k n d h) = cc
never_both (behind_gap n c h) ends = cc
never_both (behind_gap n c h) (parted m d k) = never_both h (spelled_behind _ _ _ _ n m (cc) k)
never_both (behind_gap n c h) (spelled j m d k) = cc
never_both (behind_token i n c h) ends = cc
never_both (behind_token i n c h) (parted m d k) = cc
never_both (behind_token i n c h) (spelled j m d k) =
    let f : n ≡ m = cc in
    never_both h (spelled_after _ _ _ _ n m f k)

one_stop : {o : Bool} {p : Place} {s : List ℕ} {q r : Refusal} → IsStopped o p s q → IsStopped o p s r → q ≡ r
one_stop (at_byte b c) (at_byte e d) = cc
one_stop (at_byte b c) (at_comment d) = cc
one_stop (at_byte b c) (behind_gap n d h) = cc
one_stop (at_byte b c) (behind_token k n d h) = cc
one_stop (at_comment c) (at_byte e d) = cc
one_stop (at_comment c) (at_comment d) = refl
one_stop (at_comment c) (behind_gap n d h) = cc
one_stop (at_comment c) (behind_token k n d h) = cc
one_stop (behind_gap n c h) (at_byte e d) = cc
one_stop (behind_gap n c h) (at_comment d) = cc
one_stop (behind_gap n c h) (behind_gap m d k) = one_stop h (stopped_behind _ _ _ _ n m (cc) k)
one_stop (behind_gap n c h) (behind_token j m d k) = cc
one_stop (behind_token i n c h) (at_byte e d) = cc
one_stop (behind_token i n c h) (at_comment d) = cc
one_stop (behind_token i n c h) (behind_gap m d k) = cc
one_stop (behind_token i n c h) (behind_token j m d k) =
    let f : n ≡ m = cc in
    one_stop h (stopped_after _ _ _ _ n m f k)

pub one_tokens : OneTokenList
one_tokens text ts us h k = one_spelling h k

pub one_refusal : OneRefusal
one_refusal text q r (by_length l) (by_length m) = refl
one_refusal text q r (by_length l) (by_bytes m k) = absurd (omega (arith, l, m))
one_refusal text q r (by_bytes l h) (by_length m) = absurd (omega (arith, l, m))
one_refusal text q r (by_bytes l h) (by_bytes m k) = one_stop h k

pub no_refusal : NotBoth
no_refusal text ts r l h (by_length m) = absurd (omega (arith, l, m))
no_refusal text ts r l h (by_bytes m k) = never_both k h
