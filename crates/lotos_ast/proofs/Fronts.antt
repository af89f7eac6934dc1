-- The tokens before the one at which reading stops are a front, and with it they are not.
use Rattle.std.proofs.Common.{ℕ, zero, suc, List, [], ◌∷◌, ◌++◌, Bool, true, false, ◌≡◌, refl, sym, subst, ap, ◌∙◌, append_assoc, ◌⊎◌, inl, inr}
use Rattle.lotos_ast.specs.declared.mark.Mark.{Mark}
use Rattle.lotos_ast.specs.declared.token.Token.{Token}
use Rattle.lotos_ast.specs.Notation.{Part, Reduction, fits, Syntax, quoted, kept, sequence, either, optional, repeated, placed, reduced, bracketed, enclosed, part}
use Rattle.lotos_ast.specs.Grammar.{rule}
use Rattle.lotos_ast.specs.Begins.{mark_at, place_at, starts, begins, is_empty}
use Rattle.lotos_ast.specs.declared.fault.Fault.{Fault}
use Rattle.lotos_ast.specs.Nesting.{Nesting, unlimited}
use Rattle.lotos_ast.specs.Reads.{Tree, reduce, unkept, leaf, both, left, right, absent, present, no_more, more, node, Reads, Stops, reads_quoted, reads_kept, reads_sequence, reads_left, reads_right, reads_absent, reads_present, reads_no_more, reads_more, reads_placed, reads_reduced, reads_bracketed, reads_enclosed, reads_part, stops_quoted, stops_kept, deep_quoted, deep_kept, stops_first, stops_second, stops_left, stops_right, stops_optional, stops_repeated, stops_later, stops_placed, stops_reduced, stops_bracketed, stops_enclosed, stops_part}
use Rattle.std.proofs.lemmas.List.{append-nil, append_cancel_right}
use Rattle.std.proofs.lemmas.Bool.{or_from}
use Rattle.spec_core.proofs.Booleans.{and_first_true, and_second_true}
use Rattle.lotos_ast.specs.Notation.{specification, gate_list, functionality, type_definition, where_item, sort_part, operation_part, operation_names, infix_names, operation_name, equation_part, sort_equations, equations, equation, premiss, for_all, declarations, declaration, sort_pair, operation_pair, expression, infixes, simple, head, process, behaviour, enabling, disable, disabling, parallel, composing, operator, choice, choosing, unary, offer, atom, exit_value, binding, gate_choice}
use Rattle.lotos_ast.specs.Begins.{or_behind}
use Rattle.lotos_ast.specs.Shortest.{rank, is_above, is_short_by}
use Rattle.lotos_ast.specs.Conditions.{NeverTakesEnd}
use Rattle.lotos_ast.specs.Fronts.{Accepts, IsFront, IsViable}
use Rattle.lotos_ast.proofs.Limits.{reads_unlimited}
use Rattle.lotos_ast.proofs.RulesNeverTakeTheEnd.{rules_never_take_the_end}
use Rattle.lotos_ast.proofs.OneReading.{one_place, never_both}
use Rattle.lotos_ast.proofs.Tails.{reads_cut, stops_cut}

-- the end of the tokens

end_sequence : (a b : Syntax) → IsFront a [] → IsFront b [] → IsFront (sequence a b) []
end_sequence a b (inl h) k = inl (stops_first h)
end_sequence a b (inr h) (inl k) = inl (stops_second [] h.1 k)
end_sequence a b (inr h) (inr k) = inr (both h.0 k.0, reads_sequence [] h.1 k.1)

end_either : (a b : Syntax) (v : Bool) → starts a Mark.End ≡ v → IsFront a [] → IsFront b [] → IsFront (either a b) []
end_either a b true e (inl h) k = inl (stops_left e h)
end_either a b true e (inr h) k = inr (left h.0, reads_left e h.1)
end_either a b false e h (inl k) = inl (stops_right e k)
end_either a b false e h (inr k) = inr (right k.0, reads_right e k.1)

end_optional : (a : Syntax) (v : Bool) → starts a Mark.End ≡ v → IsFront a [] → IsFront (optional a) []
end_optional a true e (inl h) = inl (stops_optional e h)
end_optional a true e (inr h) = inr (present h.0, reads_present e h.1)
end_optional a false e h = inr (absent, reads_absent e refl)

pub placed_front : (a : Syntax) (u : List Token) → IsFront a u → IsFront (placed a) u
placed_front a u (inl h) = inl (stops_placed h)
placed_front a u (inr h) = inr (node (place_at u) h.0, reads_placed refl h.1)

pub reduced_front : (w : Reduction) (a : Syntax) (u : List Token) → IsFront a u → IsFront (reduced w a) u
reduced_front w a u (inl h) = inl (stops_reduced h)
reduced_front w a u (inr h) = inr (reduce w h.0, reads_reduced refl h.1)

pub bracketed_front : (a : Syntax) (u : List Token) → IsFront a u → IsFront (bracketed a) u
bracketed_front a u (inl h) = inl (stops_bracketed h)
bracketed_front a u (inr h) = inr (h.0, reads_bracketed h.1)

pub enclosed_front : (a : Syntax) (u : List Token) → IsFront a u → IsFront (enclosed a) u
enclosed_front a u (inl h) = inl (stops_enclosed h)
enclosed_front a u (inr h) = inr (h.0, reads_enclosed h.1)

pub part_front : (p : Part) (u : List Token) → IsFront (rule p) u → IsFront (part p) u
part_front p u (inl h) = inl (stops_part h)
part_front p u (inr h) = inr (node (place_at u) h.0, reads_part refl h.1)

-- no part begins with the end
neither_behind : (e a b : Bool) → a ≡ false → b ≡ false → or_behind e a b ≡ false
neither_behind true a b h k = or_from a b h k
neither_behind false a b h k = h

part_not_end : (p : Part) → begins p Mark.End ≡ false
part_not_end specification = refl
part_not_end gate_list = refl
part_not_end functionality = refl
part_not_end type_definition = refl
part_not_end where_item = refl
part_not_end sort_part = refl
part_not_end operation_part = refl
part_not_end operation_names = refl
part_not_end infix_names = refl
part_not_end operation_name = refl
part_not_end equation_part = refl
part_not_end sort_equations = refl
part_not_end equations = refl
part_not_end equation = refl
part_not_end premiss = refl
part_not_end for_all = refl
part_not_end declarations = refl
part_not_end declaration = refl
part_not_end sort_pair = refl
part_not_end operation_pair = refl
part_not_end expression = refl
part_not_end infixes = refl
part_not_end simple = refl
part_not_end head = refl
part_not_end process = refl
part_not_end behaviour = refl
part_not_end enabling = refl
part_not_end disable = refl
part_not_end disabling = refl
part_not_end parallel = refl
part_not_end composing = refl
part_not_end operator = refl
part_not_end choice = refl
part_not_end choosing = refl
part_not_end unary = refl
part_not_end offer = refl
part_not_end atom = refl
part_not_end exit_value = refl
part_not_end binding = refl
part_not_end gate_choice = refl

pub not_end : (g : Syntax) → NeverTakesEnd g → starts g Mark.End ≡ false
not_end (quoted k) o = o
not_end (kept w) o = o
not_end (sequence a b) o = neither_behind (is_empty a) (starts a Mark.End) (starts b Mark.End) (not_end a o.0) (not_end b o.1)
not_end (either a b) o = or_from (starts a Mark.End) (starts b Mark.End) (not_end a o.0) (not_end b o.1)
not_end (optional a) o = not_end a o
not_end (repeated a) o = o.1
not_end (placed a) o = not_end a o
not_end (reduced u a) o = not_end a o
not_end (bracketed a) o = not_end a o
not_end (enclosed a) o = not_end a o
not_end (part p) o = part_not_end p

-- ranks

pub above_itself : (n : ℕ) → is_above (suc n) n ≡ true
above_itself zero = refl
above_itself (suc n) = above_itself n

pub lower : (m a b : ℕ) → is_above (suc m) a ≡ true → is_above a b ≡ true → is_above m b ≡ true
lower m zero b h k = cc
lower zero (suc a) b h k = cc
lower (suc m) (suc a) zero h k = refl
lower (suc m) (suc a) (suc b) h k = lower m a b h k

pub ranks_checked : (p : Part) → is_short_by (rank p) (rule p) ≡ true
ranks_checked specification = refl
ranks_checked gate_list = refl
ranks_checked functionality = refl
ranks_checked type_definition = refl
ranks_checked where_item = refl
ranks_checked sort_part = refl
ranks_checked operation_part = refl
ranks_checked operation_names = refl
ranks_checked infix_names = refl
ranks_checked operation_name = refl
ranks_checked equation_part = refl
ranks_checked sort_equations = refl
ranks_checked equations = refl
ranks_checked equation = refl
ranks_checked premiss = refl
ranks_checked for_all = refl
ranks_checked declarations = refl
ranks_checked declaration = refl
ranks_checked sort_pair = refl
ranks_checked operation_pair = refl
ranks_checked expression = refl
ranks_checked infixes = refl
ranks_checked simple = refl
ranks_checked head = refl
ranks_checked process = refl
ranks_checked behaviour = refl
ranks_checked enabling = refl
ranks_checked disable = refl
ranks_checked disabling = refl
ranks_checked parallel = refl
ranks_checked composing = refl
ranks_checked operator = refl
ranks_checked choice = refl
ranks_checked choosing = refl
ranks_checked unary = refl
ranks_checked offer = refl
ranks_checked atom = refl
ranks_checked exit_value = refl
ranks_checked binding = refl
ranks_checked gate_choice = refl

end_right : (a b : Syntax) → starts a Mark.End ≡ false → IsFront b [] → IsFront (either a b) []
end_right a b e (inl k) = inl (stops_right e k)
end_right a b e (inr k) = inr (right k.0, reads_right e k.1)

end_by : (n : ℕ) (g : Syntax) → NeverTakesEnd g → is_short_by n g ≡ true → ((p : Part) → is_above n (rank p) ≡ true → IsFront (part p) []) → IsFront g []
end_by n (quoted k) o c f = inl (stops_quoted o refl refl)
end_by n (kept w) o c f = inl (stops_kept o refl refl)
end_by n (sequence a b) o c f = end_sequence a b (end_by n a o.0 (and_first_true (is_short_by n a) (is_short_by n b) c) f) (end_by n b o.1 (and_second_true (is_short_by n a) (is_short_by n b) c) f)
end_by n (either a b) o c f = end_right a b (not_end a o.0) (end_by n b o.1 c f)
end_by n (optional a) o c f = inr (absent, reads_absent (not_end a o) refl)
end_by n (repeated a) o c f = inr (no_more, reads_no_more o.1 refl)
end_by n (placed a) o c f = placed_front a [] (end_by n a o c f)
end_by n (reduced u a) o c f = reduced_front u a [] (end_by n a o c f)
end_by n (bracketed a) o c f = bracketed_front a [] (end_by n a o c f)
end_by n (enclosed a) o c f = enclosed_front a [] (end_by n a o c f)
end_by n (part p) o c f = f p c

end_below : (n : ℕ) (p : Part) → is_above n (rank p) ≡ true → IsFront (part p) []
end_below zero p h = cc
end_below (suc n) p h = part_front p [] (end_by (rank p) (rule p) (rules_never_take_the_end p) (ranks_checked p) (λ q k. end_below n q (lower n (rank p) (rank q) h k)))

part_end : (p : Part) → IsFront (part p) []
part_end p = end_below (suc (rank p)) p (above_itself (rank p))

-- the empty list is a front of every part
pub at_end : (g : Syntax) → NeverTakesEnd g → IsFront g []
at_end (quoted k) o = inl (stops_quoted o refl refl)
at_end (kept w) o = inl (stops_kept o refl refl)
at_end (sequence a b) o = end_sequence a b (at_end a o.0) (at_end b o.1)
at_end (either a b) o = end_right a b (not_end a o.0) (at_end b o.1)
at_end (optional a) o = inr (absent, reads_absent (not_end a o) refl)
at_end (repeated a) o = inr (no_more, reads_no_more o.1 refl)
at_end (placed a) o = placed_front a [] (at_end a o)
at_end (reduced u a) o = reduced_front u a [] (at_end a o)
at_end (bracketed a) o = bracketed_front a [] (at_end a o)
at_end (enclosed a) o = enclosed_front a [] (at_end a o)
at_end (part p) o = part_end p

-- fronts of each form of a part

front_behind : (a b : Syntax) (u : List Token) (x : Tree) → Reads unlimited a u x [] → IsFront b [] → IsFront (sequence a b) u
front_behind a b u x h (inl k) = inl (stops_second [] h k)
front_behind a b u x h (inr k) = inr (both x k.0, reads_sequence [] h k.1)

pub front_first : (a b : Syntax) (u : List Token) → NeverTakesEnd b → IsFront a u → IsFront (sequence a b) u
front_first a b u o (inl h) = inl (stops_first h)
front_first a b u o (inr h) = front_behind a b u h.0 h.1 (at_end b o)

-- a front of the first, or what is read as the first before a front of the second
front_sequence : (a b : Syntax) (u v r m : List Token) → m ≡ v ++ r → ((q : List Token) → mark_at q ≡ mark_at m → Accepts unlimited a (u ++ q) q) → IsFront a u → IsFront b v → IsFront (sequence a b) (u ++ v)
front_sequence a b u [] r m e again (inl h) k = inl (subst (λ z. Stops unlimited Fault.Unexpected (sequence a b) z []) (sym (append-nil u)) (stops_first h))
front_sequence a b u [] r m e again (inr h) (inl k) = inl (subst (λ z. Stops unlimited Fault.Unexpected (sequence a b) z []) (sym (append-nil u)) (stops_second [] h.1 k))
front_sequence a b u [] r m e again (inr h) (inr k) = inr (both h.0 k.0, subst (λ z. Reads unlimited (sequence a b) z (both h.0 k.0) []) (sym (append-nil u)) (reads_sequence [] h.1 k.1))
front_sequence a b u (t ∷ v) r m e again h (inl k) = let x = again (t ∷ v) (sym (ap mark_at e)) in inl (stops_second (t ∷ v) x.1 k)
front_sequence a b u (t ∷ v) r m e again h (inr k) = let x = again (t ∷ v) (sym (ap mark_at e)) in inr (both x.0 k.0, reads_sequence (t ∷ v) x.1 k.1)

pub front_left : (a b : Syntax) (s u r : List Token) → NeverTakesEnd (either a b) → s ≡ u ++ r → starts a (mark_at s) ≡ true → IsFront a u → IsFront (either a b) u
front_left a b s [] r o e i h = at_end (either a b) o
front_left a b s (t ∷ u) r o e i (inl h) = inl (stops_left (ap (λ z. starts a (mark_at z)) (sym e) ∙ i) h)
front_left a b s (t ∷ u) r o e i (inr h) = inr (left h.0, reads_left (ap (λ z. starts a (mark_at z)) (sym e) ∙ i) h.1)

pub front_right : (a b : Syntax) (s u r : List Token) → NeverTakesEnd (either a b) → s ≡ u ++ r → starts a (mark_at s) ≡ false → IsFront b u → IsFront (either a b) u
front_right a b s [] r o e i h = at_end (either a b) o
front_right a b s (t ∷ u) r o e i (inl h) = inl (stops_right (ap (λ z. starts a (mark_at z)) (sym e) ∙ i) h)
front_right a b s (t ∷ u) r o e i (inr h) = inr (right h.0, reads_right (ap (λ z. starts a (mark_at z)) (sym e) ∙ i) h.1)

pub front_optional : (a : Syntax) (s u r : List Token) → NeverTakesEnd a → s ≡ u ++ r → starts a (mark_at s) ≡ true → IsFront a u → IsFront (optional a) u
front_optional a s [] r o e i h = at_end (optional a) o
front_optional a s (t ∷ u) r o e i (inl h) = inl (stops_optional (ap (λ z. starts a (mark_at z)) (sym e) ∙ i) h)
front_optional a s (t ∷ u) r o e i (inr h) = inr (present h.0, reads_present (ap (λ z. starts a (mark_at z)) (sym e) ∙ i) h.1)

pub front_repeated : (a : Syntax) (s u r : List Token) → NeverTakesEnd (repeated a) → s ≡ u ++ r → starts a (mark_at s) ≡ true → IsFront a u → IsFront (repeated a) u
front_repeated a s [] r o e i h = at_end (repeated a) o
front_repeated a s (t ∷ u) r o e i (inl h) = inl (stops_repeated (ap (λ z. starts a (mark_at z)) (sym e) ∙ i) h)
front_repeated a s (t ∷ u) r o e i (inr h) = inr (more h.0 no_more, reads_more [] (ap (λ z. starts a (mark_at z)) (sym e) ∙ i) h.1 (reads_no_more o.1 refl))

head_same : (u : List Token) (t : Token) (v r s : List Token) → s ≡ (u ++ t ∷ v) ++ r → mark_at (u ++ t ∷ v) ≡ mark_at s
head_same [] t v r s e = sym (ap mark_at e)
head_same (w ∷ u) t v r s e = sym (ap mark_at e)

front_later : (a : Syntax) (s u v r m : List Token) → NeverTakesEnd (repeated a) → s ≡ (u ++ v) ++ r → starts a (mark_at s) ≡ true → m ≡ v ++ r → ((q : List Token) → mark_at q ≡ mark_at m → Accepts unlimited a (u ++ q) q) → IsFront a u → IsFront (repeated a) v → IsFront (repeated a) (u ++ v)
front_later a s u [] r m o f i e again h k = subst (λ z. IsFront (repeated a) z) (sym (append-nil u)) (front_repeated a s u r o (f ∙ ap (λ z. z ++ r) (append-nil u)) i h)
front_later a s u (t ∷ v) r m o f i e again h (inl k) = let x = again (t ∷ v) (sym (ap mark_at e)) in inl (stops_later (t ∷ v) (ap (starts a) (head_same u t v r s f) ∙ i) x.1 k)
front_later a s u (t ∷ v) r m o f i e again h (inr k) = let x = again (t ∷ v) (sym (ap mark_at e)) in inr (more x.0 k.0, reads_more (t ∷ v) (ap (starts a) (head_same u t v r s f) ∙ i) x.1 k.1)

-- what is read within limits is read without them, whatever follows
without_limits : (d : Nesting) (a : Syntax) (u m : List Token) → ((q : List Token) → mark_at q ≡ mark_at m → Accepts d a (u ++ q) q) → (q : List Token) → mark_at q ≡ mark_at m → Accepts unlimited a (u ++ q) q
without_limits d a u m f q i = let x = f q i in (x.0, reads_unlimited x.1)

-- the tokens that are read are a front
pub reads_front : {d : Nesting} {g : Syntax} {s r : List Token} {x : Tree} (h : Reads d g s x r) → NeverTakesEnd g → IsFront g (reads_cut h).taken
unfolding reads_cut
reads_front (reads_quoted {k = k} e m v) o = inr (unkept, reads_quoted refl (ap mark_at (sym e) ∙ m) refl)
reads_front (reads_kept {w = w} {t = t} e m v) o = inr (leaf t, reads_kept refl (ap (λ z. fits w (mark_at z)) (sym e) ∙ m) refl)
reads_front (reads_sequence {a = a} {b = b} {r = r} m h k) o = front_sequence a b (reads_cut h).taken (reads_cut k).taken r m (reads_cut k).all (without_limits _ a (reads_cut h).taken m (reads_cut h).again) (reads_front h o.0) (reads_front k o.1)
reads_front (reads_left {a = a} {b = b} {s = s} {r = r} i h) o = front_left a b s (reads_cut h).taken r o (reads_cut h).all i (reads_front h o.0)
reads_front (reads_right {a = a} {b = b} {s = s} {r = r} i h) o = front_right a b s (reads_cut h).taken r o (reads_cut h).all i (reads_front h o.1)
reads_front (reads_absent {a = a} i e) o = at_end (optional a) o
reads_front (reads_present {a = a} {s = s} {r = r} i h) o = front_optional a s (reads_cut h).taken r o (reads_cut h).all i (reads_front h o)
reads_front (reads_no_more {a = a} i e) o = at_end (repeated a) o
reads_front (reads_more {a = a} {s = s} {r = r} m i h k) o = front_later a s (reads_cut h).taken (reads_cut k).taken r m o ((reads_cut h).all ∙ ap (λ z. (reads_cut h).taken ++ z) (reads_cut k).all ∙ sym (append_assoc (reads_cut h).taken (reads_cut k).taken r)) i (reads_cut k).all (without_limits _ a (reads_cut h).taken m (reads_cut h).again) (reads_front h o.0) (reads_front k o)
reads_front (reads_placed {a = a} e h) o = placed_front a (reads_cut h).taken (reads_front h o)
reads_front (reads_reduced {u = w} {a = a} e h) o = reduced_front w a (reads_cut h).taken (reads_front h o)
reads_front (reads_bracketed {a = a} h) o = bracketed_front a (reads_cut h).taken (reads_front h o)
reads_front (reads_enclosed {a = a} h) o = enclosed_front a (reads_cut h).taken (reads_front h o)
reads_front (reads_part {q = p} e h) o = part_front p (reads_cut h).taken (reads_front h (rules_never_take_the_end p))

-- the tokens before the place where reading stops are a front
pub stops_front : {d : Nesting} {f : Fault} {g : Syntax} {s r : List Token} (h : Stops d f g s r) → NeverTakesEnd g → IsFront g (stops_cut h).taken
unfolding stops_cut
stops_front (stops_quoted {k = k} b f e) o = at_end (quoted k) o
stops_front (stops_kept {w = w} b f e) o = at_end (kept w) o
stops_front (deep_quoted {k = k} m v e) o = at_end (quoted k) o
stops_front (deep_kept {w = w} m v e) o = at_end (kept w) o
stops_front (stops_first {a = a} {b = b} h) o = front_first a b (stops_cut h).taken o.1 (stops_front h o.0)
stops_front (stops_second {a = a} {b = b} {r = r} m h k) o = front_sequence a b (reads_cut h).taken (stops_cut k).taken r m (stops_cut k).all (without_limits _ a (reads_cut h).taken m (reads_cut h).again) (reads_front h o.0) (stops_front k o.1)
stops_front (stops_left {a = a} {b = b} {s = s} {r = r} i h) o = front_left a b s (stops_cut h).taken r o (stops_cut h).all i (stops_front h o.0)
stops_front (stops_right {a = a} {b = b} {s = s} {r = r} i h) o = front_right a b s (stops_cut h).taken r o (stops_cut h).all i (stops_front h o.1)
stops_front (stops_optional {a = a} {s = s} {r = r} i h) o = front_optional a s (stops_cut h).taken r o (stops_cut h).all i (stops_front h o)
stops_front (stops_repeated {a = a} {s = s} {r = r} i h) o = front_repeated a s (stops_cut h).taken r o (stops_cut h).all i (stops_front h o.0)
stops_front (stops_later {a = a} {s = s} {r = r} m i h k) o = front_later a s (reads_cut h).taken (stops_cut k).taken r m o ((reads_cut h).all ∙ ap (λ z. (reads_cut h).taken ++ z) (stops_cut k).all ∙ sym (append_assoc (reads_cut h).taken (stops_cut k).taken r)) i (stops_cut k).all (without_limits _ a (reads_cut h).taken m (reads_cut h).again) (reads_front h o.0) (stops_front k o)
stops_front (stops_placed {a = a} h) o = placed_front a (stops_cut h).taken (stops_front h o)
stops_front (stops_reduced {u = w} {a = a} h) o = reduced_front w a (stops_cut h).taken (stops_front h o)
stops_front (stops_bracketed {a = a} h) o = bracketed_front a (stops_cut h).taken (stops_front h o)
stops_front (stops_enclosed {a = a} h) o = enclosed_front a (stops_cut h).taken (stops_front h o)
stops_front (stops_part {q = p} h) o = part_front p (stops_cut h).taken (stops_front h (rules_never_take_the_end p))

-- Where reading stops before a token, the tokens before it are a front.
pub before_is_front : (d : Nesting) (g : Syntax) (f : Fault) (s r : List Token) → NeverTakesEnd g → Stops d f g s r → (before : List Token) × (s ≡ before ++ r) × IsFront g before
before_is_front d g f s r o h = let u = stops_cut h in (u.taken, u.all, stops_front h o)

-- however the tokens go on behind the one at which reading stops, it stops there
pub stops_again : (g : Syntax) (f : Fault) (before u : List Token) (t : Token) → Stops unlimited f g (before ++ t ∷ u) (t ∷ u) → (w : List Token) → Stops unlimited f g (before ++ t ∷ w) (t ∷ w)
stops_again g f before u t h w =
    let c = stops_cut h in
    let e : before ≡ c.taken = append_cancel_right before c.taken (t ∷ u) c.all in
    subst (λ z. Stops unlimited f g (z ++ t ∷ w) (t ∷ w)) (sym e) (c.again (t ∷ w) refl)

-- With it they aren't a front.
pub with_it_isnt : (g : Syntax) (f : Fault) (before u : List Token) (t : Token) → Stops unlimited f g (before ++ t ∷ u) (t ∷ u) → IsFront g (before ++ t ∷ []) → ⊥
with_it_isnt g f before u t h (inl k) = let e : t ∷ [] ≡ [] = (one_place (stops_again g f before u t h []) k).1 in cc
with_it_isnt g f before u t h (inr k) = never_both (stops_again g f before u t h []) k.1

-- No text of the grammar goes on with it.
pub none_goes_on : (g : Syntax) (f : Fault) (before u : List Token) (t : Token) → Stops unlimited f g (before ++ t ∷ u) (t ∷ u) → IsViable g (before ++ t ∷ []) → ⊥
none_goes_on g f before u t h k = never_both (stops_again g f before u t h k.0) (subst (λ z. Reads unlimited g z k.1.0 []) (append_assoc before (t ∷ []) k.0) k.1.1)

-- the first tokens of what is read: a front, or all of it and some of the rest
pub prefix : {g : Syntax} {w r : List Token} {x : Tree} (h : Reads unlimited g w x r) → NeverTakesEnd g → (s u : List Token) → w ≡ s ++ u → IsFront g s ⊎ ((v : List Token) × (s ≡ (reads_cut h).taken ++ v) × (r ≡ v ++ u))
unfolding reads_cut
prefix (reads_quoted {k = k} e m v) o [] u i = inl (at_end (quoted k) o)
prefix (reads_quoted e m v) o (t ∷ s) u i = inr (s, cc, cc)
prefix (reads_kept {w = w} e m v) o [] u i = inl (at_end (kept w) o)
prefix (reads_kept e m v) o (t ∷ s) u i = inr (s, cc, cc)
prefix (reads_sequence {a = a} {b = b} m h k) o s u i = elim (prefix h o.0 s u i) [
  | inl f ↦ inl (front_first a b s o.1 f)
  | inr p ↦ elim (prefix k o.1 p.0 u p.2) [
    | inl f ↦ inl (subst (λ z. IsFront (sequence a b) z) (sym p.1) (front_sequence a b (reads_cut h).taken p.0 u m p.2 (reads_cut h).again (reads_front h o.0) f))
    | inr q ↦ inr (q.0, p.1 ∙ ap (λ z. (reads_cut h).taken ++ z) q.1 ∙ sym (append_assoc (reads_cut h).taken (reads_cut k).taken q.0), q.2)
  ]
]
prefix (reads_left {a = a} {b = b} {s = w} j h) o s u i = elim (prefix h o.0 s u i) [ inl f ↦ inl (front_left a b w s u o i j f) | inr p ↦ inr p ]
prefix (reads_right {a = a} {b = b} {s = w} j h) o s u i = elim (prefix h o.1 s u i) [ inl f ↦ inl (front_right a b w s u o i j f) | inr p ↦ inr p ]
prefix (reads_absent j e) o s u i = inr (s, refl, sym e ∙ i)
prefix (reads_present {a = a} {s = w} j h) o s u i = elim (prefix h o s u i) [ inl f ↦ inl (front_optional a w s u o i j f) | inr p ↦ inr p ]
prefix (reads_no_more j e) o s u i = inr (s, refl, sym e ∙ i)
prefix (reads_more {a = a} {s = w} m j h k) o s u i = elim (prefix h o.0 s u i) [
  | inl f ↦ inl (front_repeated a w s u o i j f)
  | inr p ↦ elim (prefix k o p.0 u p.2) [
    | inl f ↦ inl (subst (λ z. IsFront (repeated a) z) (sym p.1) (front_later a w (reads_cut h).taken p.0 u m o (i ∙ ap (λ z. z ++ u) p.1) j p.2 (reads_cut h).again (reads_front h o.0) f))
    | inr q ↦ inr (q.0, p.1 ∙ ap (λ z. (reads_cut h).taken ++ z) q.1 ∙ sym (append_assoc (reads_cut h).taken (reads_cut k).taken q.0), q.2)
  ]
]
prefix (reads_placed {a = a} e h) o s u i = elim (prefix h o s u i) [ inl f ↦ inl (placed_front a s f) | inr p ↦ inr p ]
prefix (reads_reduced {u = w} {a = a} e h) o s u i = elim (prefix h o s u i) [ inl f ↦ inl (reduced_front w a s f) | inr p ↦ inr p ]
prefix (reads_bracketed {a = a} h) o s u i = elim (prefix h o s u i) [ inl f ↦ inl (bracketed_front a s f) | inr p ↦ inr p ]
prefix (reads_enclosed {a = a} h) o s u i = elim (prefix h o s u i) [ inl f ↦ inl (enclosed_front a s f) | inr p ↦ inr p ]
prefix (reads_part {q = p} e h) o s u i = elim (prefix h (rules_never_take_the_end p) s u i) [ inl f ↦ inl (part_front p s f) | inr q ↦ inr q ]

end_nil : (a b : List Token) → [] ≡ a ++ b → b ≡ []
end_nil [] b e = sym e
end_nil (t ∷ a) b e = cc

-- what a text of the grammar begins with is a front
pub viable_front : (g : Syntax) (s : List Token) → NeverTakesEnd g → IsViable g s → IsFront g s
viable_front g s o v = elim (prefix v.1.1 o s v.0 refl) [ inl f ↦ f | inr p ↦ inr (v.1.0, subst (λ z. Reads unlimited g z v.1.0 []) (ap (λ z. s ++ z) (end_nil p.0 v.0 p.2) ∙ append-nil s) v.1.1) ]
