-- One piece more, and the end.
use Rattle.std.proofs.Common.{ℕ, List, [], ◌∷◌, ◌++◌, ◌≡◌, Bool, sym, subst, ap, ◌∙◌, append_assoc, take, drop}
use Rattle.std.proofs.lemmas.List.{append-nil}
use Rattle.lotos_ast.proofs.Advances.{nothing_left}
use Rattle.lotos_ast.specs.declared.place.Place.{Place}
use Rattle.lotos_ast.specs.declared.refusal.Refusal.{Refusal}
use Rattle.lotos_ast.specs.declared.token.Token.{Token}
use Rattle.lotos_ast.specs.declared.token.TokenKind.{TokenKind}
use Rattle.lotos_ast.specs.Places.{start_place, place_after}
use Rattle.lotos_ast.specs.Pieces.{first_piece, nothing, gap, spelling, stray, unclosed}
use Rattle.lotos_ast.specs.Tokenizes.{IsSpelled, ends, parted, spelled, IsStopped, at_byte, at_comment, behind_gap, behind_token, token_at, open_after, bad_byte, open_comment}

-- these tokens stand before the rest of a text, which begins at this place
pub record Reading (text : List ℕ) (all : List Token) (opened : Bool) (p : Place) (rest : List ℕ) : Type 0 where
  pub tokens : (ts : List Token) → IsSpelled opened p rest ts → IsSpelled Bool.false start_place text (all ++ ts)
  pub refusal : (r : Refusal) → IsStopped opened p rest r → IsStopped Bool.false start_place text r

pub begin : (text : List ℕ) → Reading text [] Bool.false start_place text
begin text = record { tokens = λ ts h. h; refusal = λ r h. h }

pub over_gap : (text : List ℕ) (all : List Token) (opened : Bool) (p : Place) (s : List ℕ) (n : ℕ) (q : Place) (rest : List ℕ) →
    Reading text all opened p s → first_piece opened s ≡ gap n → q ≡ place_after p (take n s) → rest ≡ drop n s → Reading text all opened q rest
over_gap text all opened p s n q rest h c e f = record {
  tokens = λ ts k. h.tokens ts (parted n c (subst (λ z. IsSpelled opened z (drop n s) ts) e (subst (λ z. IsSpelled opened q z ts) f k)));
  refusal = λ r k. h.refusal r (behind_gap n c (subst (λ z. IsStopped opened z (drop n s) r) e (subst (λ z. IsStopped opened q z r) f k)));
}

pub over_token : (text : List ℕ) (before : List Token) (opened : Bool) (p : Place) (s : List ℕ) (kind : TokenKind) (n : ℕ) (now : Bool) (q : Place) (rest : List ℕ) (t : Token) (all : List Token) →
    Reading text before opened p s → first_piece opened s ≡ spelling kind n → now ≡ open_after opened (take n s) → q ≡ place_after p (take n s) → rest ≡ drop n s → t ≡ token_at kind p (take n s) → all ≡ before ++ t ∷ [] → Reading text all now q rest
over_token text before opened p s kind n now q rest t all h c d e f g i =
    let v : Token = token_at kind p (take n s) in
    let w : all ≡ before ++ v ∷ [] = i ∙ ap (λ (z : Token). before ++ z ∷ []) g in
    record {
      tokens = λ ts k. subst (λ z. IsSpelled Bool.false start_place text z) (sym (append_assoc before (v ∷ []) ts) ∙ ap (λ z. z ++ ts) (sym w)) (h.tokens (v ∷ ts) (spelled kind n c (subst (λ z. IsSpelled z (place_after p (take n s)) (drop n s) ts) d (subst (λ z. IsSpelled now z (drop n s) ts) e (subst (λ z. IsSpelled now q z ts) f k)))));
      refusal = λ r k. h.refusal r (behind_token kind n c (subst (λ z. IsStopped z (place_after p (take n s)) (drop n s) r) d (subst (λ z. IsStopped now z (drop n s) r) e (subst (λ z. IsStopped now q z r) f k))));
    }

pub finish : (text : List ℕ) (all : List Token) (opened : Bool) (p : Place) (s : List ℕ) → Reading text all opened p s → first_piece opened s ≡ nothing → IsSpelled Bool.false start_place text all
finish text all opened p s h e =
    let last : IsSpelled opened p s [] = subst (λ z. IsSpelled opened p z []) (sym (nothing_left opened s e)) ends in
    subst (λ z. IsSpelled Bool.false start_place text z) (append-nil all) (h.tokens [] last)

pub stop_at_byte : (text : List ℕ) (all : List Token) (opened : Bool) (p : Place) (s : List ℕ) (b : ℕ) (r : Refusal) → Reading text all opened p s → first_piece opened s ≡ stray b → r ≡ bad_byte b p → IsStopped Bool.false start_place text r
stop_at_byte text all opened p s b r h c e = subst (λ z. IsStopped Bool.false start_place text z) (sym e) (h.refusal (bad_byte b p) (at_byte b c))

pub stop_at_comment : (text : List ℕ) (all : List Token) (opened : Bool) (p : Place) (s : List ℕ) (r : Refusal) → Reading text all opened p s → first_piece opened s ≡ unclosed → r ≡ open_comment p → IsStopped Bool.false start_place text r
stop_at_comment text all opened p s r h c e = subst (λ z. IsStopped Bool.false start_place text z) (sym e) (h.refusal (open_comment p) (at_comment c))

-- the steps and the three ends
pub ruleset steps = (begin, over_gap, over_token, finish, stop_at_byte, stop_at_comment)
