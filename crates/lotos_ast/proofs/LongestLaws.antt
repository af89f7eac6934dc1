-- A rule reads the longest front of the tokens, where it is a whole text.
use Rattle.std.proofs.Common.{List, [], ◌∷◌, ◌++◌, true, false, ◌≡◌, refl, sym, subst, ap, ◌∙◌, append_assoc, inl, inr}
use Rattle.lotos_ast.specs.declared.token.Token.{Token}
use Rattle.lotos_ast.specs.Notation.{fits, Syntax, sequence, either, optional, repeated}
use Rattle.lotos_ast.specs.Begins.{mark_at, place_at, starts, is_empty}
use Rattle.lotos_ast.specs.declared.fault.Fault.{Fault}
use Rattle.lotos_ast.specs.Nesting.{unlimited}
use Rattle.lotos_ast.specs.Reads.{Tree, reduce, unkept, leaf, both, left, right, absent, present, no_more, more, node, Reads, Stops, reads_quoted, reads_kept, reads_sequence, reads_left, reads_right, reads_absent, reads_present, reads_no_more, reads_more, reads_placed, reads_reduced, reads_bracketed, reads_enclosed, reads_part}
use Rattle.std.proofs.lemmas.List.{append-nil, append_cancel_right}
use Rattle.lotos_ast.specs.Conditions.{NeverTakesEnd, IsPredictive}
use Rattle.lotos_ast.specs.Fronts.{Accepts, IsFront, IsWhole, IsLongest}
use Rattle.lotos_ast.specs.GrammarLaws.{LongestIsRead, StopsAtLongest}
use Rattle.lotos_ast.proofs.RulesNeverTakeTheEnd.{rules_never_take_the_end}
use Rattle.lotos_ast.proofs.RulesArePredictive.{rules_are_predictive}
use Rattle.lotos_ast.proofs.OneReading.{one_reading, never_both}
use Rattle.lotos_ast.proofs.Tails.{reads_cut}
use Rattle.lotos_ast.proofs.Fronts.{not_end, with_it_isnt, before_is_front}
use Rattle.lotos_ast.proofs.Grows.{empty_read}
use Rattle.lotos_ast.proofs.Longest.{goes_or_ends}
use Rattle.lotos_ast.proofs.Spelled.{spells_whole, reads_spelled}

-- what is never empty isn't whole without a token
not_nothing : (g : Syntax) → NeverTakesEnd g → is_empty g ≡ false → IsWhole g [] → ⊥
not_nothing g o e w = let i = empty_read w.1 refl o in cc

whole_sequence : (a b : Syntax) (u v r m : List Token) → m ≡ v ++ r → ((q : List Token) → mark_at q ≡ mark_at m → Accepts unlimited a (u ++ q) q) → IsWhole a u → IsWhole b v → IsWhole (sequence a b) (u ++ v)
whole_sequence a b u [] r m e again h k = (both h.0 k.0, subst (λ z. Reads unlimited (sequence a b) z (both h.0 k.0) []) (sym (append-nil u)) (reads_sequence [] h.1 k.1))
whole_sequence a b u (t ∷ v) r m e again h k = let x = again (t ∷ v) (sym (ap mark_at e)) in (both x.0 k.0, reads_sequence (t ∷ v) x.1 k.1)

whole_left : (a b : Syntax) (s u r : List Token) → NeverTakesEnd (either a b) → is_empty a ≡ false → s ≡ u ++ r → starts a (mark_at s) ≡ true → IsWhole a u → IsWhole (either a b) u
whole_left a b s [] r o c e i h = absurd (not_nothing a o.0 c h)
whole_left a b s (t ∷ u) r o c e i h = (left h.0, reads_left (ap (λ z. starts a (mark_at z)) (sym e) ∙ i) h.1)

whole_right : (a b : Syntax) (s u r : List Token) → NeverTakesEnd (either a b) → s ≡ u ++ r → starts a (mark_at s) ≡ false → IsWhole b u → IsWhole (either a b) u
whole_right a b s [] r o e i h = (right h.0, reads_right (not_end a o.0) h.1)
whole_right a b s (t ∷ u) r o e i h = (right h.0, reads_right (ap (λ z. starts a (mark_at z)) (sym e) ∙ i) h.1)

whole_optional : (a : Syntax) (s u r : List Token) → NeverTakesEnd a → is_empty a ≡ false → s ≡ u ++ r → starts a (mark_at s) ≡ true → IsWhole a u → IsWhole (optional a) u
whole_optional a s [] r o c e i h = absurd (not_nothing a o c h)
whole_optional a s (t ∷ u) r o c e i h = (present h.0, reads_present (ap (λ z. starts a (mark_at z)) (sym e) ∙ i) h.1)

whole_more : (a : Syntax) (s u v r m : List Token) → NeverTakesEnd (repeated a) → is_empty a ≡ false → s ≡ (u ++ v) ++ r → starts a (mark_at s) ≡ true → m ≡ v ++ r → ((q : List Token) → mark_at q ≡ mark_at m → Accepts unlimited a (u ++ q) q) → IsWhole a u → IsWhole (repeated a) v → IsWhole (repeated a) (u ++ v)
whole_more a s [] v r m o c f i e again h k = absurd (not_nothing a o.0 c h)
whole_more a s (w ∷ u) [] r m o c f i e again h k = (more h.0 k.0, subst (λ z. Reads unlimited (repeated a) z (more h.0 k.0) []) (sym (append-nil (w ∷ u))) (reads_more [] (ap (λ z. starts a (mark_at z)) (sym f) ∙ i) h.1 k.1))
whole_more a s (w ∷ u) (t ∷ v) r m o c f i e again h k = let x = again (t ∷ v) (sym (ap mark_at e)) in (more x.0 k.0, reads_more (t ∷ v) (ap (λ z. starts a (mark_at z)) (sym f) ∙ i) x.1 k.1)

-- the tokens that are read are whole
reads_whole : {g : Syntax} {s r : List Token} {x : Tree} (h : Reads unlimited g s x r) → NeverTakesEnd g → IsPredictive g → IsWhole g (reads_cut h).taken
unfolding reads_cut
reads_whole (reads_quoted {k = k} e m v) o c = (unkept, reads_quoted refl (ap mark_at (sym e) ∙ m) refl)
reads_whole (reads_kept {w = w} {t = t} e m v) o c = (leaf t, reads_kept refl (ap (λ z. fits w (mark_at z)) (sym e) ∙ m) refl)
reads_whole (reads_sequence {a = a} {b = b} {r = r} m h k) o c = whole_sequence a b (reads_cut h).taken (reads_cut k).taken r m (reads_cut k).all (reads_cut h).again (reads_whole h o.0 c.0) (reads_whole k o.1 c.1)
reads_whole (reads_left {a = a} {b = b} {s = s} {r = r} i h) o c = whole_left a b s (reads_cut h).taken r o c.3 (reads_cut h).all i (reads_whole h o.0 c.0)
reads_whole (reads_right {a = a} {b = b} {s = s} {r = r} i h) o c = whole_right a b s (reads_cut h).taken r o (reads_cut h).all i (reads_whole h o.1 c.1)
reads_whole (reads_absent {a = a} i e) o c = (absent, reads_absent (not_end a o) refl)
reads_whole (reads_present {a = a} {s = s} {r = r} i h) o c = whole_optional a s (reads_cut h).taken r o c.1 (reads_cut h).all i (reads_whole h o c.0)
reads_whole (reads_no_more {a = a} i e) o c = (no_more, reads_no_more o.1 refl)
reads_whole (reads_more {a = a} {s = s} {r = r} m i h k) o c = whole_more a s (reads_cut h).taken (reads_cut k).taken r m o c.1 ((reads_cut h).all ∙ ap (λ z. (reads_cut h).taken ++ z) (reads_cut k).all ∙ sym (append_assoc (reads_cut h).taken (reads_cut k).taken r)) i (reads_cut k).all (reads_cut h).again (reads_whole h o.0 c.0) (reads_whole k o c)
reads_whole (reads_placed {a = a} e h) o c = let x = reads_whole h o c in (node (place_at (reads_cut h).taken) x.0, reads_placed refl x.1)
reads_whole (reads_reduced {u = w} {a = a} e h) o c = let x = reads_whole h o c in (reduce w x.0, reads_reduced refl x.1)
reads_whole (reads_bracketed {a = a} h) o c = let x = reads_whole h o c in (x.0, reads_bracketed x.1)
reads_whole (reads_enclosed {a = a} h) o c = let x = reads_whole h o c in (x.0, reads_enclosed x.1)
reads_whole (reads_part {q = p} e h) o c = let x = reads_whole h (rules_never_take_the_end p) (rules_are_predictive p) in (node (place_at (reads_cut h).taken) x.0, reads_part refl x.1)

-- no longer list is a front
not_beyond : (g : Syntax) (before : List Token) (t : Token) → Accepts unlimited g (before ++ t ∷ []) (t ∷ []) → IsFront g (before ++ t ∷ []) → ⊥
not_beyond g before t x (inl k) = never_both k x.1
not_beyond g before t x (inr k) = let e : t ∷ [] ≡ [] = (one_reading x.1 k.1).1 in cc

longest : (g : Syntax) (before rest : List Token) (x : Tree) → Reads unlimited g (before ++ rest) x rest → IsLongest g before rest
longest g before [] x h = tt
longest g before (t ∷ u) x h =
    let c = reads_cut h in
    let e : before ≡ c.taken = append_cancel_right before c.taken (t ∷ u) c.all in
    not_beyond g before t (subst (λ z. Accepts unlimited g (z ++ t ∷ []) (t ∷ [])) (sym e) (c.again (t ∷ []) refl))

read_whole : (g : Syntax) (before rest : List Token) (x : Tree) → NeverTakesEnd g → IsPredictive g → Reads unlimited g (before ++ rest) x rest → IsWhole g before
read_whole g before rest x o c h =
    let k = reads_cut h in
    let e : before ≡ k.taken = append_cancel_right before k.taken rest k.all in
    subst (λ z. IsWhole g z) (sym e) (reads_whole h o c)

whole_read : (g : Syntax) (before rest : List Token) → NeverTakesEnd g → IsPredictive g → IsWhole g before → IsLongest g before rest → Accepts unlimited g (before ++ rest) rest
whole_read g before [] o c w l = (w.0, subst (λ z. Reads unlimited g z w.0 []) (sym (append-nil before)) w.1)
whole_read g before (t ∷ u) o c w l = elim (goes_or_ends w.1 refl o c t u) [ inl y ↦ y | inr k ↦ absurd (l k) ]

pub longest_is_read : LongestIsRead
longest_is_read g before rest c = (
  λ h. whole_read g before rest c.0 c.2 (spells_whole g before c.2 c.3 h.0) h.1,
  λ y. (reads_spelled (read_whole g before rest y.0 c.0 c.2 y.1).1, longest g before rest y.0 y.1),
)

stops_longest : (g : Syntax) (f : Fault) (before rest : List Token) → Stops unlimited f g (before ++ rest) rest → IsLongest g before rest
stops_longest g f before [] h = tt
stops_longest g f before (t ∷ u) h = with_it_isnt g f before u t h

not_whole : (g : Syntax) (f : Fault) (before rest : List Token) → NeverTakesEnd g → IsPredictive g → Stops unlimited f g (before ++ rest) rest → IsWhole g before → ⊥
not_whole g f before rest o c h w = never_both h (whole_read g before rest o c w (stops_longest g f before rest h)).1

front_before : (g : Syntax) (f : Fault) (before rest : List Token) → NeverTakesEnd g → Stops unlimited f g (before ++ rest) rest → IsFront g before
front_before g f before rest o h =
    let u = before_is_front unlimited g f (before ++ rest) rest o h in
    subst (λ z. IsFront g z) (sym (append_cancel_right before u.0 rest u.1)) u.2

pub stops_at_longest : StopsAtLongest
stops_at_longest f g before rest c h = (
  front_before g f before rest c.0 h,
  stops_longest g f before rest h,
  λ w. not_whole g f before rest c.0 c.2 h (spells_whole g before c.2 c.3 w),
)
