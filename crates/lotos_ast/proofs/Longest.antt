-- What is read is the longest front of its part.
use Rattle.std.proofs.Common.{ℕ, zero, suc, List, [], ◌∷◌, ◌++◌, Bool, true, false, not, ◌≡◌, refl, sym, subst, ap, ◌∙◌, ◌⊎◌, inl, inr, ◌||◌}
use Rattle.lotos_ast.specs.declared.mark.Mark.{Mark}
use Rattle.lotos_ast.specs.declared.token.Token.{Token}
use Rattle.lotos_ast.specs.Notation.{Part, fits, Syntax, quoted, kept, sequence, either, optional, repeated, placed, reduced, bracketed, enclosed, part}
use Rattle.lotos_ast.specs.Grammar.{rule}
use Rattle.lotos_ast.specs.Begins.{mark_at, place_at, starts, begins, is_empty}
use Rattle.lotos_ast.specs.Nesting.{unlimited}
use Rattle.lotos_ast.specs.Reads.{Tree, reduce, unkept, leaf, both, left, right, absent, present, no_more, more, node, Reads, reads_quoted, reads_kept, reads_sequence, reads_left, reads_right, reads_absent, reads_present, reads_no_more, reads_more, reads_placed, reads_reduced, reads_bracketed, reads_enclosed, reads_part, stops_second, stops_later}
use Rattle.std.proofs.lemmas.List.{append-nil}
use Rattle.spec_core.proofs.Booleans.{and_first_true, and_second_true, or_first_false, or_second_false}
use Rattle.spec_core.proofs.Lists.{cons_not_empty}
use Rattle.lotos_ast.specs.TokenMarks.{mark_of}
use Rattle.lotos_ast.specs.Notation.{specification, gate_list, functionality, type_definition, where_item, sort_part, operation_part, operation_names, infix_names, operation_name, equation_part, sort_equations, equations, equation, premiss, for_all, declarations, declaration, sort_pair, operation_pair, expression, infixes, simple, head, process, behaviour, enabling, disable, disabling, parallel, composing, operator, choice, choosing, unary, offer, atom, exit_value, binding, gate_choice}
use Rattle.lotos_ast.specs.Begins.{or_behind}
use Rattle.lotos_ast.specs.Shortest.{rank, is_above, is_led_by}
use Rattle.lotos_ast.specs.Conditions.{NeverTakesEnd, IsPredictive, implies}
use Rattle.lotos_ast.specs.Fronts.{Accepts, IsFront}
use Rattle.lotos_ast.proofs.RulesNeverTakeTheEnd.{rules_never_take_the_end}
use Rattle.lotos_ast.proofs.RulesArePredictive.{rules_are_predictive}
use Rattle.lotos_ast.proofs.Tables.{every, modus, same_equal, begins_exactly}
use Rattle.lotos_ast.proofs.Fronts.{above_itself, lower, placed_front, reduced_front, bracketed_front, enclosed_front, part_front, front_first, front_left, front_right, front_optional, front_repeated}
use Rattle.lotos_ast.proofs.Grows.{begun, same_mark, grow_first}

begins_rule : (p : Part) (m : Mark) → begins p m ≡ true → starts (rule p) m ≡ true
begins_rule p m h = modus (begins p m) (starts (rule p) m) (every (λ m. implies (begins p m) (starts (rule p) m)) (begins_exactly p) m) h

-- whether the rules that a part may begin with have a number below this one
leads_checked : (p : Part) → is_led_by (rank p) (rule p) ≡ true
leads_checked specification = refl
leads_checked gate_list = refl
leads_checked functionality = refl
leads_checked type_definition = refl
leads_checked where_item = refl
leads_checked sort_part = refl
leads_checked operation_part = refl
leads_checked operation_names = refl
leads_checked infix_names = refl
leads_checked operation_name = refl
leads_checked equation_part = refl
leads_checked sort_equations = refl
leads_checked equations = refl
leads_checked equation = refl
leads_checked premiss = refl
leads_checked for_all = refl
leads_checked declarations = refl
leads_checked declaration = refl
leads_checked sort_pair = refl
leads_checked operation_pair = refl
leads_checked expression = refl
leads_checked infixes = refl
leads_checked simple = refl
leads_checked head = refl
leads_checked process = refl
leads_checked behaviour = refl
leads_checked enabling = refl
leads_checked disable = refl
leads_checked disabling = refl
leads_checked parallel = refl
leads_checked composing = refl
leads_checked operator = refl
leads_checked choice = refl
leads_checked choosing = refl
leads_checked unary = refl
leads_checked offer = refl
leads_checked atom = refl
leads_checked exit_value = refl
leads_checked binding = refl
leads_checked gate_choice = refl

-- what may be empty reads nothing before a token with which it doesn't begin
reads_nothing : (g : Syntax) (s : List Token) → IsPredictive g → is_empty g ≡ true → starts g (mark_at s) ≡ false → Accepts unlimited g s s
reads_nothing (quoted k) s c e n = cc
reads_nothing (kept w) s c e n = cc
reads_nothing (sequence a b) s c e n =
    let i = and_first_true (is_empty a) (is_empty b) e in
    let j : starts a (mark_at s) || starts b (mark_at s) ≡ false = subst (λ z. or_behind z (starts a (mark_at s)) (starts b (mark_at s)) ≡ false) i n in
    let x = reads_nothing a s c.0 i (or_first_false (starts a (mark_at s)) (starts b (mark_at s)) j) in
    let y = reads_nothing b s c.1 (and_second_true (is_empty a) (is_empty b) e) (or_second_false (starts a (mark_at s)) (starts b (mark_at s)) j) in
    (both x.0 y.0, reads_sequence s x.1 y.1)
reads_nothing (either a b) s c e n =
    let i : false || is_empty b ≡ true = subst (λ z. z || is_empty b ≡ true) c.3 e in
    let y = reads_nothing b s c.1 i (or_second_false (starts a (mark_at s)) (starts b (mark_at s)) n) in
    (right y.0, reads_right (or_first_false (starts a (mark_at s)) (starts b (mark_at s)) n) y.1)
reads_nothing (optional a) s c e n = (absent, reads_absent n refl)
reads_nothing (repeated a) s c e n = (no_more, reads_no_more n refl)
reads_nothing (placed a) s c e n = let x = reads_nothing a s c e n in (node (place_at s) x.0, reads_placed refl x.1)
reads_nothing (reduced u a) s c e n = let x = reads_nothing a s c e n in (reduce u x.0, reads_reduced refl x.1)
reads_nothing (bracketed a) s c e n = let x = reads_nothing a s c e n in (x.0, reads_bracketed x.1)
reads_nothing (enclosed a) s c e n = let x = reads_nothing a s c e n in (x.0, reads_enclosed x.1)
reads_nothing (part p) s c e n = cc

-- a front of the second, behind a first that reads nothing
front_second : (a b : Syntax) (s : List Token) → Accepts unlimited a s s → IsFront b s → IsFront (sequence a b) s
front_second a b s x (inl k) = inl (stops_second s x.1 k)
front_second a b s x (inr k) = inr (both x.0 k.0, reads_sequence s x.1 k.1)

-- by cases on whether the first may be empty and whether it begins with the token
sequence_begun : (a b : Syntax) (t : Token) (e v : Bool) → NeverTakesEnd (sequence a b) → IsPredictive a → is_empty a ≡ e → starts a (mark_of t) ≡ v → or_behind e v (starts b (mark_of t)) ≡ true → (v ≡ true → IsFront a (t ∷ [])) → (e ≡ true → starts b (mark_of t) ≡ true → IsFront b (t ∷ [])) → IsFront (sequence a b) (t ∷ [])
sequence_begun a b t e true o c i j h f g = front_first a b (t ∷ []) o.1 (f refl)
sequence_begun a b t true false o c i j h f g = front_second a b (t ∷ []) (reads_nothing a (t ∷ []) c i j) (g refl h)
sequence_begun a b t false false o c i j h f g = cc

either_begun : (a b : Syntax) (t : Token) (v : Bool) → NeverTakesEnd (either a b) → starts a (mark_of t) ≡ v → v || starts b (mark_of t) ≡ true → (v ≡ true → IsFront a (t ∷ [])) → (starts b (mark_of t) ≡ true → IsFront b (t ∷ [])) → IsFront (either a b) (t ∷ [])
either_begun a b t true o j h f g = front_left a b (t ∷ []) (t ∷ []) [] o refl j (f refl)
either_begun a b t false o j h f g = front_right a b (t ∷ []) (t ∷ []) [] o refl j (g h)

-- a token with which a part begins is a front of it, where that holds of the rules with lower numbers
begun_by : (n : ℕ) (g : Syntax) (t : Token) → NeverTakesEnd g → IsPredictive g → is_led_by n g ≡ true → ((p : Part) → is_above n (rank p) ≡ true → begins p (mark_of t) ≡ true → IsFront (part p) (t ∷ [])) → starts g (mark_of t) ≡ true → IsFront g (t ∷ [])
begun_by n (quoted k) t o c l f h = inr (unkept, reads_quoted refl (sym (same_equal k (mark_of t) h)) refl)
begun_by n (kept w) t o c l f h = inr (leaf t, reads_kept refl h refl)
begun_by n (sequence a b) t o c l f h =
    sequence_begun a b t (is_empty a) (starts a (mark_of t)) o c.0 refl refl h
    (λ e. begun_by n a t o.0 c.0 (and_first_true (is_led_by n a) (not (is_empty a) || is_led_by n b) l) f e)
    (λ e i. begun_by n b t o.1 c.1 (subst (λ z. not z || is_led_by n b ≡ true) e (and_second_true (is_led_by n a) (not (is_empty a) || is_led_by n b) l)) f i)
begun_by n (either a b) t o c l f h =
    either_begun a b t (starts a (mark_of t)) o refl h
    (λ e. begun_by n a t o.0 c.0 (and_first_true (is_led_by n a) (is_led_by n b) l) f e)
    (λ e. begun_by n b t o.1 c.1 (and_second_true (is_led_by n a) (is_led_by n b) l) f e)
begun_by n (optional a) t o c l f h = front_optional a (t ∷ []) (t ∷ []) [] o refl h (begun_by n a t o c.0 l f h)
begun_by n (repeated a) t o c l f h = front_repeated a (t ∷ []) (t ∷ []) [] o refl h (begun_by n a t o.0 c.0 l f h)
begun_by n (placed a) t o c l f h = placed_front a (t ∷ []) (begun_by n a t o c l f h)
begun_by n (reduced u a) t o c l f h = reduced_front u a (t ∷ []) (begun_by n a t o c l f h)
begun_by n (bracketed a) t o c l f h = bracketed_front a (t ∷ []) (begun_by n a t o c l f h)
begun_by n (enclosed a) t o c l f h = enclosed_front a (t ∷ []) (begun_by n a t o c l f h)
begun_by n (part p) t o c l f h = f p l h

begun_below : (n : ℕ) (p : Part) (t : Token) → is_above n (rank p) ≡ true → begins p (mark_of t) ≡ true → IsFront (part p) (t ∷ [])
begun_below zero p t h b = cc
begun_below (suc n) p t h b = part_front p (t ∷ []) (begun_by (rank p) (rule p) t (rules_never_take_the_end p) (rules_are_predictive p) (leads_checked p) (λ q k. begun_below n q t (lower n (rank p) (rank q) h k)) (begins_rule p (mark_of t) b))

part_begun : (p : Part) (t : Token) → begins p (mark_of t) ≡ true → IsFront (part p) (t ∷ [])
part_begun p t = begun_below (suc (rank p)) p t (above_itself (rank p))

-- a token with which a part begins is a front of it
begun_front : (g : Syntax) (t : Token) → NeverTakesEnd g → IsPredictive g → starts g (mark_of t) ≡ true → IsFront g (t ∷ [])
begun_front (quoted k) t o c h = inr (unkept, reads_quoted refl (sym (same_equal k (mark_of t) h)) refl)
begun_front (kept w) t o c h = inr (leaf t, reads_kept refl h refl)
begun_front (sequence a b) t o c h = sequence_begun a b t (is_empty a) (starts a (mark_of t)) o c.0 refl refl h (λ e. begun_front a t o.0 c.0 e) (λ e i. begun_front b t o.1 c.1 i)
begun_front (either a b) t o c h = either_begun a b t (starts a (mark_of t)) o refl h (λ e. begun_front a t o.0 c.0 e) (λ e. begun_front b t o.1 c.1 e)
begun_front (optional a) t o c h = front_optional a (t ∷ []) (t ∷ []) [] o refl h (begun_front a t o c.0 h)
begun_front (repeated a) t o c h = front_repeated a (t ∷ []) (t ∷ []) [] o refl h (begun_front a t o.0 c.0 h)
begun_front (placed a) t o c h = placed_front a (t ∷ []) (begun_front a t o c h)
begun_front (reduced u a) t o c h = reduced_front u a (t ∷ []) (begun_front a t o c h)
begun_front (bracketed a) t o c h = bracketed_front a (t ∷ []) (begun_front a t o c h)
begun_front (enclosed a) t o c h = enclosed_front a (t ∷ []) (begun_front a t o c h)
begun_front (part p) t o c h = part_begun p t h

-- What is read to the end is read before further tokens too, or goes on with the first of them.
abbrev pub GoesOn : Syntax → List Token → Token → List Token → Type 0
GoesOn g s t u = Accepts unlimited g (s ++ t ∷ u) (t ∷ u) ⊎ IsFront g (s ++ t ∷ [])

-- the second of two with what the first reads before it
second_front : (a b : Syntax) (s m : List Token) (t : Token) → NeverTakesEnd b → Accepts unlimited a (s ++ t ∷ []) (m ++ t ∷ []) → IsFront b (m ++ t ∷ []) → IsFront (sequence a b) (s ++ t ∷ [])
second_front a b s m t o x (inl k) = inl (stops_second (m ++ t ∷ []) x.1 k)
second_front a b s m t o x (inr k) = inr (both x.0 k.0, reads_sequence (m ++ t ∷ []) x.1 k.1)

sequence_goes : (a b : Syntax) (s m : List Token) (x : Tree) (t : Token) (u : List Token) → NeverTakesEnd (sequence a b) → Reads unlimited a s x m → (m ≡ [] → (w : List Token) → GoesOn a s t w) → GoesOn b m t u → GoesOn (sequence a b) s t u
sequence_goes a b s [] x t u o h f (inl y) = elim (f refl u) [
  | inl z ↦ inl (both z.0 y.0, reads_sequence (t ∷ u) z.1 y.1)
  | inr k ↦ inr (front_first a b (s ++ t ∷ []) o.1 k)
]
sequence_goes a b s [] x t u o h f (inr k) = elim (f refl []) [
  | inl z ↦ inr (second_front a b s [] t o.1 z k)
  | inr j ↦ inr (front_first a b (s ++ t ∷ []) o.1 j)
]
sequence_goes a b s (r ∷ m) x t u o h f (inl y) =
    let z = grow_first a s (r ∷ m) (t ∷ u) x h (λ e. absurd (cons_not_empty r m e)) in
    inl (both z.0 y.0, reads_sequence ((r ∷ m) ++ t ∷ u) z.1 y.1)
sequence_goes a b s (r ∷ m) x t u o h f (inr k) =
    let z = grow_first a s (r ∷ m) (t ∷ []) x h (λ e. absurd (cons_not_empty r m e)) in
    inr (second_front a b s (r ∷ m) t o.1 z k)

right_goes : (a b : Syntax) (s : List Token) (t : Token) (u : List Token) (v : Bool) → NeverTakesEnd (either a b) → IsPredictive (either a b) → starts a (mark_at s) ≡ false → starts a (mark_of t) ≡ v → GoesOn b s t u → GoesOn (either a b) s t u
right_goes a b [] t u true o c j e y = inr (front_left a b (t ∷ []) (t ∷ []) [] o refl e (begun_front a t o.0 c.0 e))
right_goes a b [] t u false o c j e (inl y) = inl (right y.0, reads_right e y.1)
right_goes a b [] t u false o c j e (inr k) = inr (front_right a b (t ∷ []) (t ∷ []) [] o refl e k)
right_goes a b (r ∷ s) t u v o c j e (inl y) = inl (right y.0, reads_right j y.1)
right_goes a b (r ∷ s) t u v o c j e (inr k) = inr (front_right a b (r ∷ s ++ t ∷ []) (r ∷ s ++ t ∷ []) [] o (sym (append-nil (r ∷ s ++ t ∷ []))) j k)

left_goes : (a b : Syntax) (s : List Token) (t : Token) (u : List Token) → NeverTakesEnd (either a b) → starts a (mark_at s) ≡ true → GoesOn a s t u → GoesOn (either a b) s t u
left_goes a b s t u o j (inl y) = inl (left y.0, reads_left (begun a s (t ∷ u) o.0 j) y.1)
left_goes a b s t u o j (inr k) = inr (front_left a b (s ++ t ∷ []) (s ++ t ∷ []) [] o (sym (append-nil (s ++ t ∷ []))) (begun a s (t ∷ []) o.0 j) k)

absent_goes : (a : Syntax) (t : Token) (u : List Token) (v : Bool) → NeverTakesEnd a → IsPredictive a → starts a (mark_of t) ≡ v → GoesOn (optional a) [] t u
absent_goes a t u true o c e = inr (front_optional a (t ∷ []) (t ∷ []) [] o refl e (begun_front a t o c e))
absent_goes a t u false o c e = inl (absent, reads_absent e refl)

present_goes : (a : Syntax) (s : List Token) (t : Token) (u : List Token) → NeverTakesEnd a → starts a (mark_at s) ≡ true → GoesOn a s t u → GoesOn (optional a) s t u
present_goes a s t u o j (inl y) = inl (present y.0, reads_present (begun a s (t ∷ u) o j) y.1)
present_goes a s t u o j (inr k) = inr (front_optional a (s ++ t ∷ []) (s ++ t ∷ []) [] o (sym (append-nil (s ++ t ∷ []))) (begun a s (t ∷ []) o j) k)

no_more_goes : (a : Syntax) (t : Token) (u : List Token) (v : Bool) → NeverTakesEnd (repeated a) → IsPredictive a → starts a (mark_of t) ≡ v → GoesOn (repeated a) [] t u
no_more_goes a t u true o c e = inr (front_repeated a (t ∷ []) (t ∷ []) [] o refl e (begun_front a t o.0 c e))
no_more_goes a t u false o c e = inl (no_more, reads_no_more e refl)

first_goes : (a : Syntax) (s : List Token) (t : Token) → NeverTakesEnd (repeated a) → starts a (mark_at s) ≡ true → IsFront a (s ++ t ∷ []) → IsFront (repeated a) (s ++ t ∷ [])
first_goes a s t o j k = front_repeated a (s ++ t ∷ []) (s ++ t ∷ []) [] o (sym (append-nil (s ++ t ∷ []))) (begun a s (t ∷ []) o.0 j) k

later_front : (a : Syntax) (s m : List Token) (t : Token) → NeverTakesEnd (repeated a) → starts a (mark_at s) ≡ true → Accepts unlimited a (s ++ t ∷ []) (m ++ t ∷ []) → IsFront (repeated a) (m ++ t ∷ []) → IsFront (repeated a) (s ++ t ∷ [])
later_front a s m t o j x (inl k) = inl (stops_later (m ++ t ∷ []) (begun a s (t ∷ []) o.0 j) x.1 k)
later_front a s m t o j x (inr k) = inr (more x.0 k.0, reads_more (m ++ t ∷ []) (begun a s (t ∷ []) o.0 j) x.1 k.1)

more_goes : (a : Syntax) (s m : List Token) (x : Tree) (t : Token) (u : List Token) → NeverTakesEnd (repeated a) → starts a (mark_at s) ≡ true → Reads unlimited a s x m → (m ≡ [] → (w : List Token) → GoesOn a s t w) → GoesOn (repeated a) m t u → GoesOn (repeated a) s t u
more_goes a s [] x t u o j h f (inl y) = elim (f refl u) [
  | inl z ↦ inl (more z.0 y.0, reads_more (t ∷ u) (begun a s (t ∷ u) o.0 j) z.1 y.1)
  | inr k ↦ inr (first_goes a s t o j k)
]
more_goes a s [] x t u o j h f (inr k) = elim (f refl []) [
  | inl z ↦ inr (later_front a s [] t o j z k)
  | inr i ↦ inr (first_goes a s t o j i)
]
more_goes a s (r ∷ m) x t u o j h f (inl y) =
    let z = grow_first a s (r ∷ m) (t ∷ u) x h (λ e. absurd (cons_not_empty r m e)) in
    inl (more z.0 y.0, reads_more ((r ∷ m) ++ t ∷ u) (begun a s (t ∷ u) o.0 j) z.1 y.1)
more_goes a s (r ∷ m) x t u o j h f (inr k) =
    let z = grow_first a s (r ∷ m) (t ∷ []) x h (λ e. absurd (cons_not_empty r m e)) in
    inr (later_front a s (r ∷ m) t o j z k)

-- What is read to the end is read before further tokens too, or goes on with the first of them.
pub goes_or_ends : {g : Syntax} {s r : List Token} {x : Tree} → Reads unlimited g s x r → r ≡ [] → NeverTakesEnd g → IsPredictive g → (t : Token) (u : List Token) → GoesOn g s t u
goes_or_ends (reads_quoted {k = k} {t = w} {s = s} {r = r} e m v) i o c t u = inl (unkept, reads_quoted (ap (λ z. z ++ t ∷ u) e ∙ ap (λ z. w ∷ z ++ t ∷ u) i) (same_mark s (t ∷ u) w r e ∙ m) refl)
goes_or_ends (reads_kept {w = k} {t = w} {s = s} {r = r} e m v) i o c t u = inl (leaf w, reads_kept (ap (λ z. z ++ t ∷ u) e ∙ ap (λ z. w ∷ z ++ t ∷ u) i) (ap (fits k) (same_mark s (t ∷ u) w r e) ∙ m) refl)
goes_or_ends (reads_sequence {a = a} {b = b} {s = s} {x = x} m h k) i o c t u = sequence_goes a b s m x t u o h (λ z w. goes_or_ends h z o.0 c.0 t w) (goes_or_ends k i o.1 c.1 t u)
goes_or_ends (reads_left {a = a} {b = b} {s = s} j h) i o c t u = left_goes a b s t u o j (goes_or_ends h i o.0 c.0 t u)
goes_or_ends (reads_right {a = a} {b = b} {s = s} j h) i o c t u = right_goes a b s t u (starts a (mark_of t)) o c j refl (goes_or_ends h i o.1 c.1 t u)
goes_or_ends (reads_absent {a = a} {s = s} j e) i o c t u = subst (λ z. GoesOn (optional a) z t u) (sym (e ∙ i)) (absent_goes a t u (starts a (mark_of t)) o c.0 refl)
goes_or_ends (reads_present {a = a} {s = s} j h) i o c t u = present_goes a s t u o j (goes_or_ends h i o c.0 t u)
goes_or_ends (reads_no_more {a = a} {s = s} j e) i o c t u = subst (λ z. GoesOn (repeated a) z t u) (sym (e ∙ i)) (no_more_goes a t u (starts a (mark_of t)) o c.0 refl)
goes_or_ends (reads_more {a = a} {s = s} {x = x} m j h k) i o c t u = more_goes a s m x t u o j h (λ z w. goes_or_ends h z o.0 c.0 t w) (goes_or_ends k i o c t u)
goes_or_ends (reads_placed {a = a} {s = s} e h) i o c t u = elim (goes_or_ends h i o c t u) [ inl y ↦ inl (node (place_at (s ++ t ∷ u)) y.0, reads_placed refl y.1) | inr k ↦ inr (placed_front a (s ++ t ∷ []) k) ]
goes_or_ends (reads_reduced {u = w} {a = a} {s = s} e h) i o c t u = elim (goes_or_ends h i o c t u) [ inl y ↦ inl (reduce w y.0, reads_reduced refl y.1) | inr k ↦ inr (reduced_front w a (s ++ t ∷ []) k) ]
goes_or_ends (reads_bracketed {a = a} {s = s} h) i o c t u = elim (goes_or_ends h i o c t u) [ inl y ↦ inl (y.0, reads_bracketed y.1) | inr k ↦ inr (bracketed_front a (s ++ t ∷ []) k) ]
goes_or_ends (reads_enclosed {a = a} {s = s} h) i o c t u = elim (goes_or_ends h i o c t u) [ inl y ↦ inl (y.0, reads_enclosed y.1) | inr k ↦ inr (enclosed_front a (s ++ t ∷ []) k) ]
goes_or_ends (reads_part {q = p} {s = s} e h) i o c t u = elim (goes_or_ends h i (rules_never_take_the_end p) (rules_are_predictive p) t u) [ inl y ↦ inl (node (place_at (s ++ t ∷ u)) y.0, reads_part refl y.1) | inr k ↦ inr (part_front p (s ++ t ∷ []) k) ]
