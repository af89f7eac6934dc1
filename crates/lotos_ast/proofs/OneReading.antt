-- Reading has one result: one tree and one rest, or one place and reason at which it stops.
use Rattle.std.proofs.Common.{List, true, false, ◌≡◌, refl, sym, subst, ap, ◌∙◌, eq-eqb}
use Rattle.lotos_ast.specs.declared.mark.Mark.{Mark}
use Rattle.lotos_ast.specs.declared.token.Token.{Token}
use Rattle.lotos_ast.specs.MarkNumbers.{mark_number, is_same_mark}
use Rattle.lotos_ast.specs.Notation.{Syntax}
use Rattle.lotos_ast.specs.Begins.{mark_at}
use Rattle.lotos_ast.specs.declared.fault.Fault.{Fault}
use Rattle.lotos_ast.specs.Nesting.{Nesting}
use Rattle.lotos_ast.specs.Reads.{Tree, reduce, Reads, Stops, reads_quoted, reads_kept, reads_sequence, reads_left, reads_right, reads_absent, reads_present, reads_no_more, reads_more, reads_placed, reads_reduced, reads_bracketed, reads_enclosed, reads_part, stops_quoted, stops_kept, deep_quoted, deep_kept, stops_first, stops_second, stops_left, stops_right, stops_optional, stops_repeated, stops_later, stops_placed, stops_reduced, stops_bracketed, stops_enclosed, stops_part}

reads_from : (d : Nesting) (g : Syntax) (s s' : List Token) (x : Tree) (r : List Token) → s ≡ s' → Reads d g s' x r → Reads d g s x r
reads_from d g s s' x r e h = subst (λ z. Reads d g z x r) (sym e) h

stops_from : (d : Nesting) (f : Fault) (g : Syntax) (s s' r : List Token) → s ≡ s' → Stops d f g s' r → Stops d f g s r
stops_from d f g s s' r e h = subst (λ z. Stops d f g z r) (sym e) h

-- a mark is itself
pub same_itself : (k : Mark) → is_same_mark k k ≡ true
same_itself k = eq-eqb (mark_number k) (mark_number k) refl

differs : (k m : Mark) → is_same_mark k m ≡ false → m ≡ k → ⊥
differs k m b e = let i = same_itself k in let j : is_same_mark k k ≡ false = subst (λ z. is_same_mark k z ≡ false) e b in cc

-- one tree and one rest
pub one_reading : {d : Nesting} {g : Syntax} {s r q : List Token} {x y : Tree} → Reads d g s x r → Reads d g s y q → (x ≡ y) × (r ≡ q)
one_reading (reads_quoted e _ _) (reads_quoted e' _ _) = (refl, cc)
one_reading (reads_kept e _ _) (reads_kept e' _ _) = (cc, cc)
one_reading (reads_sequence m h k) (reads_sequence m' h' k') = let u = one_reading h h' in let v = one_reading k (reads_from _ _ _ _ _ _ u.1 k') in (cc, v.1)
one_reading (reads_left _ h) (reads_left _ h') = let u = one_reading h h' in (cc, u.1)
one_reading (reads_left b h) (reads_right c h') = cc
one_reading (reads_right b h) (reads_left c h') = cc
one_reading (reads_right _ h) (reads_right _ h') = let u = one_reading h h' in (cc, u.1)
one_reading (reads_absent _ e) (reads_absent _ e') = (refl, cc)
one_reading (reads_absent b e) (reads_present c h') = cc
one_reading (reads_present b h) (reads_absent c e') = cc
one_reading (reads_present _ h) (reads_present _ h') = let u = one_reading h h' in (cc, u.1)
one_reading (reads_no_more _ e) (reads_no_more _ e') = (refl, cc)
one_reading (reads_no_more b e) (reads_more m c h' k') = cc
one_reading (reads_more m b h k) (reads_no_more c e') = cc
one_reading (reads_more m _ h k) (reads_more m' _ h' k') = let u = one_reading h h' in let v = one_reading k (reads_from _ _ _ _ _ _ u.1 k') in (cc, v.1)
one_reading (reads_placed e h) (reads_placed e' h') = let u = one_reading h h' in (cc, u.1)
one_reading (reads_reduced {u = w} e h) (reads_reduced e' h') = let u = one_reading h h' in (sym e ∙ ap (reduce w) u.0 ∙ e', u.1)
one_reading (reads_bracketed h) (reads_bracketed h') = one_reading h h'
one_reading (reads_enclosed h) (reads_enclosed h') = one_reading h h'
one_reading (reads_part e h) (reads_part e' h') = let u = one_reading h h' in (cc, u.1)

-- where there is a tree, reading doesn't stop
pub never_both : {d : Nesting} {f : Fault} {g : Syntax} {s r q : List Token} {x : Tree} → Stops d f g s q → Reads d g s x r → ⊥
never_both (stops_quoted {k = k} {s = s} b f e) (reads_quoted e' c v) = differs k (mark_at s) b c
never_both (stops_kept b f e) (reads_kept e' c v) = cc
never_both (deep_quoted m b e) (reads_quoted e' c v) = cc
never_both (deep_kept m b e) (reads_kept e' c v) = cc
never_both (stops_first h) (reads_sequence m h' k') = never_both h h'
never_both (stops_second m h k) (reads_sequence m' h' k') = let u = one_reading h h' in never_both k (reads_from _ _ _ _ _ _ u.1 k')
never_both (stops_left _ h) (reads_left _ h') = never_both h h'
never_both (stops_left b h) (reads_right c h') = cc
never_both (stops_right b h) (reads_left c h') = cc
never_both (stops_right _ h) (reads_right _ h') = never_both h h'
never_both (stops_optional b h) (reads_absent c e') = cc
never_both (stops_optional _ h) (reads_present _ h') = never_both h h'
never_both (stops_repeated b h) (reads_no_more c e') = cc
never_both (stops_repeated _ h) (reads_more m _ h' k') = never_both h h'
never_both (stops_later m b h k) (reads_no_more c e') = cc
never_both (stops_later m _ h k) (reads_more m' _ h' k') = let u = one_reading h h' in never_both k (reads_from _ _ _ _ _ _ u.1 k')
never_both (stops_placed h) (reads_placed e' h') = never_both h h'
never_both (stops_reduced h) (reads_reduced e' h') = never_both h h'
never_both (stops_bracketed h) (reads_bracketed h') = never_both h h'
never_both (stops_enclosed h) (reads_enclosed h') = never_both h h'
never_both (stops_part h) (reads_part e' h') = never_both h h'

-- one place and one reason
pub one_place : {d : Nesting} {v w : Fault} {g : Syntax} {s r q : List Token} → Stops d v g s r → Stops d w g s q → (v ≡ w) × (r ≡ q)
one_place (stops_quoted b f e) (stops_quoted c f' e') = (sym f ∙ f', cc)
one_place (stops_kept b f e) (stops_kept c f' e') = (sym f ∙ f', cc)
one_place (stops_quoted {k = k} {s = s} b f e) (deep_quoted m c e') = absurd (differs k (mark_at s) b m)
one_place (deep_quoted {k = k} {s = s} m c e') (stops_quoted b f e) = absurd (differs k (mark_at s) b m)
one_place (deep_quoted m b e) (deep_quoted k c e') = (refl, cc)
one_place (stops_kept b f e) (deep_kept m c e') = cc
one_place (deep_kept m c e') (stops_kept b f e) = cc
one_place (deep_kept m b e) (deep_kept k c e') = (refl, cc)
one_place (stops_first h) (stops_first h') = one_place h h'
one_place (stops_first h) (stops_second m' h' k') = absurd (never_both h h')
one_place (stops_second m h k) (stops_first h') = absurd (never_both h' h)
one_place (stops_second m h k) (stops_second m' h' k') = let u = one_reading h h' in one_place k (stops_from _ _ _ _ _ _ u.1 k')
one_place (stops_left _ h) (stops_left _ h') = one_place h h'
one_place (stops_left b h) (stops_right c h') = cc
one_place (stops_right b h) (stops_left c h') = cc
one_place (stops_right _ h) (stops_right _ h') = one_place h h'
one_place (stops_optional _ h) (stops_optional _ h') = one_place h h'
one_place (stops_repeated _ h) (stops_repeated _ h') = one_place h h'
one_place (stops_repeated _ h) (stops_later m' _ h' k') = absurd (never_both h h')
one_place (stops_later m _ h k) (stops_repeated _ h') = absurd (never_both h' h)
one_place (stops_later m _ h k) (stops_later m' _ h' k') = let u = one_reading h h' in one_place k (stops_from _ _ _ _ _ _ u.1 k')
one_place (stops_placed h) (stops_placed h') = one_place h h'
one_place (stops_reduced h) (stops_reduced h') = one_place h h'
one_place (stops_bracketed h) (stops_bracketed h') = one_place h h'
one_place (stops_enclosed h) (stops_enclosed h') = one_place h h'
one_place (stops_part h) (stops_part h') = one_place h h'
