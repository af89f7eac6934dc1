-- A front is completed to a text of the grammar.
use Rattle.std.proofs.Common.{ℕ, zero, suc, List, [], ◌∷◌, ◌++◌, Bool, true, false, ◌≡◌, refl, sym, subst, ap, ◌∙◌, append_assoc, ◌⊎◌, inl, inr, ◌&&◌}
use Rattle.lotos_ast.specs.declared.mark.Mark.{Mark}
use Rattle.lotos_ast.specs.declared.token.Token.{Token}
use Rattle.lotos_ast.specs.Notation.{Part, fits, Syntax, quoted, kept, sequence, either, optional, repeated, placed, reduced, bracketed, enclosed, part}
use Rattle.lotos_ast.specs.Grammar.{rule}
use Rattle.lotos_ast.specs.Begins.{mark_at, place_at, starts, is_empty}
use Rattle.lotos_ast.specs.declared.fault.Fault.{Fault}
use Rattle.lotos_ast.specs.Nesting.{Nesting, unlimited}
use Rattle.lotos_ast.specs.Reads.{Tree, reduce, unkept, leaf, both, left, right, absent, present, no_more, more, node, Reads, Stops, reads_quoted, reads_kept, reads_sequence, reads_left, reads_right, reads_absent, reads_present, reads_no_more, reads_more, reads_placed, reads_reduced, reads_bracketed, reads_enclosed, reads_part, stops_quoted, stops_kept, deep_quoted, deep_kept, stops_first, stops_second, stops_left, stops_right, stops_optional, stops_repeated, stops_later, stops_placed, stops_reduced, stops_bracketed, stops_enclosed, stops_part}
use Rattle.std.proofs.lemmas.List.{append-nil}
use Rattle.std.proofs.lemmas.Bool.{and_from, or_right, or_left}
use Rattle.spec_core.proofs.Booleans.{and_first_true, and_second_true, or_first_false, or_second_false}
use Rattle.spec_core.proofs.Lists.{cons_not_empty, right_empty}
use Rattle.lotos_ast.specs.Shortest.{rank, is_above, is_short_by, sample_of, short, short_part}
use Rattle.lotos_ast.specs.GoesOn.{goes_on, extends}
use Rattle.lotos_ast.specs.Conditions.{NeverTakesEnd, HasShortestTexts, implies}
use Rattle.lotos_ast.specs.Fronts.{Accepts, IsFront, IsViable, IsWhole}
use Rattle.lotos_ast.proofs.RulesNeverTakeTheEnd.{rules_never_take_the_end}
use Rattle.lotos_ast.proofs.RulesHaveShortestTexts.{rules_have_shortest_texts}
use Rattle.lotos_ast.proofs.Tables.{every, contra, not_empty, goes_on_checked, short_checked}
use Rattle.lotos_ast.proofs.Tails.{reads_cut}
use Rattle.lotos_ast.proofs.Fronts.{not_end, above_itself, lower, ranks_checked}

rule_ends : (p : Part) (m : Mark) → goes_on p m ≡ false → extends (rule p) m ≡ false
rule_ends p m h = contra (extends (rule p) m) (goes_on p m) (every (λ m. implies (extends (rule p) m) (goes_on p m)) (goes_on_checked p) m) h

-- what begins here isn't at the end
never : (a : Syntax) → NeverTakesEnd a → starts a Mark.End ≡ true → ⊥
never a o h = let i = not_end a o in cc

rest_nil : {d : Nesting} {g : Syntax} {s r : List Token} {x : Tree} → Reads d g s x r → s ≡ [] → r ≡ []
rest_nil {r = r} h e = let c = reads_cut h in right_empty c.taken r (sym c.all ∙ e)

rule_not_empty : (p : Part) → is_empty (rule p) ≡ true → ⊥
rule_not_empty p h = let i = not_empty p in cc

-- what reads nothing may be empty
pub empty_read : {d : Nesting} {g : Syntax} {s r : List Token} {x : Tree} → Reads d g s x r → s ≡ [] → NeverTakesEnd g → is_empty g ≡ true
empty_read (reads_quoted e m v) i o = cc
empty_read (reads_kept e m v) i o = cc
empty_read (reads_sequence {a = a} {b = b} m h k) i o = and_from (is_empty a) (is_empty b) (empty_read h i o.0) (empty_read k (rest_nil h i) o.1)
empty_read (reads_left {a = a} {b = b} j h) i o = or_left (is_empty a) (is_empty b) (empty_read h i o.0)
empty_read (reads_right {a = a} {b = b} j h) i o = or_right (is_empty a) (is_empty b) (empty_read h i o.1)
empty_read (reads_absent j e) i o = refl
empty_read (reads_present j h) i o = refl
empty_read (reads_no_more j e) i o = refl
empty_read (reads_more m j h k) i o = refl
empty_read (reads_placed e h) i o = empty_read h i o
empty_read (reads_reduced e h) i o = empty_read h i o
empty_read (reads_bracketed h) i o = empty_read h i o
empty_read (reads_enclosed h) i o = empty_read h i o
empty_read (reads_part {q = p} e h) i o = absurd (rule_not_empty p (empty_read h i (rules_never_take_the_end p)))

pub same_mark : (s q : List Token) (t : Token) (u : List Token) → s ≡ t ∷ u → mark_at (s ++ q) ≡ mark_at s
same_mark s q t u e = ap (λ z. mark_at (z ++ q)) e ∙ sym (ap mark_at e)

pub given : (a b : Bool) → a && b ≡ false → a ≡ true → b ≡ false
given true b h e = h
given false b h e = cc

pub begun : (a : Syntax) (s q : List Token) → NeverTakesEnd a → starts a (mark_at s) ≡ true → starts a (mark_at (s ++ q)) ≡ true
begun a [] q o h = absurd (never a o h)
begun a (t ∷ s) q o h = h

not_begun : (a : Syntax) (s q : List Token) → starts a (mark_at s) ≡ false → (s ≡ [] → starts a (mark_at q) ≡ false) → starts a (mark_at (s ++ q)) ≡ false
not_begun a [] q h f = f refl
not_begun a (t ∷ s) q h f = h

-- the first of two, where the second reads q more
pub grow_first : (a : Syntax) (s m q : List Token) (x : Tree) → Reads unlimited a s x m → (m ≡ [] → Accepts unlimited a (s ++ q) q) → Accepts unlimited a (s ++ q) (m ++ q)
grow_first a s [] q x h f = f refl
grow_first a s (t ∷ m) q x h f =
    let c = reads_cut h in
    let y = c.again ((t ∷ m) ++ q) refl in
    (y.0, subst (λ z. Reads unlimited a z y.0 ((t ∷ m) ++ q)) (sym (append_assoc c.taken (t ∷ m) q) ∙ ap (λ z. z ++ q) (sym c.all)) y.1)

-- What was read to the end is read before tokens that it doesn't go on by.
grow : {g : Syntax} {s r : List Token} {x : Tree} → Reads unlimited g s x r → r ≡ [] → NeverTakesEnd g → (q : List Token) → extends g (mark_at q) ≡ false → Accepts unlimited g (s ++ q) q
grow (reads_quoted {k = k} {t = t} {s = s} {r = r} e m v) i o q n = (unkept, reads_quoted (ap (λ z. z ++ q) e ∙ ap (λ z. t ∷ z ++ q) i) (same_mark s q t r e ∙ m) refl)
grow (reads_kept {w = w} {t = t} {s = s} {r = r} e m v) i o q n = (leaf t, reads_kept (ap (λ z. z ++ q) e ∙ ap (λ z. t ∷ z ++ q) i) (ap (fits w) (same_mark s q t r e) ∙ m) refl)
grow (reads_sequence {a = a} {b = b} {s = s} {x = x} m h k) i o q n =
    let y = grow_first a s m q x h (λ z. grow h z o.0 q (given (is_empty b) (extends a (mark_at q)) (or_second_false (extends b (mark_at q)) _ n) (empty_read k z o.1))) in
    let w = grow k i o.1 q (or_first_false (extends b (mark_at q)) _ n) in
    (both y.0 w.0, reads_sequence (m ++ q) y.1 w.1)
grow (reads_left {a = a} {b = b} {s = s} j h) i o q n = let y = grow h i o.0 q (or_first_false (extends a (mark_at q)) _ n) in (left y.0, reads_left (begun a s q o.0 j) y.1)
grow (reads_right {a = a} {b = b} {s = s} j h) i o q n =
    let y = grow h i o.1 q (or_first_false (extends b (mark_at q)) _ (or_second_false (extends a (mark_at q)) _ n)) in
    (right y.0, reads_right (not_begun a s q j (λ z. given (is_empty b) (starts a (mark_at q)) (or_second_false (extends b (mark_at q)) _ (or_second_false (extends a (mark_at q)) _ n)) (empty_read h z o.1))) y.1)
grow (reads_absent {a = a} {s = s} {r = r} j e) i o q n = (absent, subst (λ z. Reads unlimited (optional a) (z ++ q) absent q) (sym (e ∙ i)) (reads_absent (or_first_false (starts a (mark_at q)) _ n) refl))
grow (reads_present {a = a} {s = s} j h) i o q n = let y = grow h i o q (or_second_false (starts a (mark_at q)) _ n) in (present y.0, reads_present (begun a s q o j) y.1)
grow (reads_no_more {a = a} {s = s} {r = r} j e) i o q n = (no_more, subst (λ z. Reads unlimited (repeated a) (z ++ q) no_more q) (sym (e ∙ i)) (reads_no_more (or_first_false (starts a (mark_at q)) _ n) refl))
grow (reads_more {a = a} {s = s} {x = x} m j h k) i o q n =
    let y = grow_first a s m q x h (λ z. grow h z o.0 q (or_second_false (starts a (mark_at q)) _ n)) in
    let w = grow k i o q n in
    (more y.0 w.0, reads_more (m ++ q) (begun a s q o.0 j) y.1 w.1)
grow (reads_placed {s = s} e h) i o q n = let y = grow h i o q n in (node (place_at (s ++ q)) y.0, reads_placed refl y.1)
grow (reads_reduced {u = w} e h) i o q n = let y = grow h i o q n in (reduce w y.0, reads_reduced refl y.1)
grow (reads_bracketed h) i o q n = let y = grow h i o q n in (y.0, reads_bracketed y.1)
grow (reads_enclosed h) i o q n = let y = grow h i o q n in (y.0, reads_enclosed y.1)
grow (reads_part {q = p} {s = s} e h) i o q n = let y = grow h i (rules_never_take_the_end p) q (rule_ends p (mark_at q) n) in (node (place_at (s ++ q)) y.0, reads_part refl y.1)

-- a shortest text is read, where those of the rules below a number are
short_by : (n : ℕ) (g : Syntax) → NeverTakesEnd g → HasShortestTexts g → is_short_by n g ≡ true → ((p : Part) → is_above n (rank p) ≡ true → IsWhole (part p) (short_part p)) → IsWhole g (short g)
short_by n (quoted k) o f c w = (unkept, reads_quoted refl f refl)
short_by n (kept k) o f c w = (leaf (sample_of k), reads_kept refl f refl)
short_by n (sequence a b) o f c w =
    let u = short_by n a o.0 f.0 (and_first_true (is_short_by n a) (is_short_by n b) c) w in
    let v = short_by n b o.1 f.1 (and_second_true (is_short_by n a) (is_short_by n b) c) w in
    let y = grow u.1 refl o.0 (short b) f.2 in
    (both y.0 v.0, reads_sequence (short b) y.1 v.1)
short_by n (either a b) o f c w = let v = short_by n b o.1 f.1 c w in (right v.0, reads_right f.2 v.1)
short_by n (optional a) o f c w = (absent, reads_absent (not_end a o) refl)
short_by n (repeated a) o f c w = (no_more, reads_no_more o.1 refl)
short_by n (placed a) o f c w = let v = short_by n a o f c w in (node (place_at (short a)) v.0, reads_placed refl v.1)
short_by n (reduced u a) o f c w = let v = short_by n a o f c w in (reduce u v.0, reads_reduced refl v.1)
short_by n (bracketed a) o f c w = let v = short_by n a o f c w in (v.0, reads_bracketed v.1)
short_by n (enclosed a) o f c w = let v = short_by n a o f c w in (v.0, reads_enclosed v.1)
short_by n (part p) o f c w = w p c

short_below : (n : ℕ) (p : Part) → is_above n (rank p) ≡ true → IsWhole (part p) (short_part p)
short_below zero p h = cc
short_below (suc n) p h =
    let v = short_by (rank p) (rule p) (rules_never_take_the_end p) (rules_have_shortest_texts p) (ranks_checked p) (λ q k. short_below n q (lower n (rank p) (rank q) h k)) in
    (node (place_at (short (rule p))) v.0, subst (λ z. Reads unlimited (part p) z (node (place_at (short (rule p))) v.0) []) (sym (short_checked p)) (reads_part refl v.1))

pub part_short : (p : Part) → IsWhole (part p) (short_part p)
part_short p = short_below (suc (rank p)) p (above_itself (rank p))

pub short_reads : (g : Syntax) → NeverTakesEnd g → HasShortestTexts g → IsWhole g (short g)
short_reads (quoted k) o f = (unkept, reads_quoted refl f refl)
short_reads (kept k) o f = (leaf (sample_of k), reads_kept refl f refl)
short_reads (sequence a b) o f =
    let u = short_reads a o.0 f.0 in
    let v = short_reads b o.1 f.1 in
    let y = grow u.1 refl o.0 (short b) f.2 in
    (both y.0 v.0, reads_sequence (short b) y.1 v.1)
short_reads (either a b) o f = let v = short_reads b o.1 f.1 in (right v.0, reads_right f.2 v.1)
short_reads (optional a) o f = (absent, reads_absent (not_end a o) refl)
short_reads (repeated a) o f = (no_more, reads_no_more o.1 refl)
short_reads (placed a) o f = let v = short_reads a o f in (node (place_at (short a)) v.0, reads_placed refl v.1)
short_reads (reduced u a) o f = let v = short_reads a o f in (reduce u v.0, reads_reduced refl v.1)
short_reads (bracketed a) o f = let v = short_reads a o f in (v.0, reads_bracketed v.1)
short_reads (enclosed a) o f = let v = short_reads a o f in (v.0, reads_enclosed v.1)
short_reads (part p) o f = part_short p

later_not_nil : {d : Nesting} {f : Fault} {a : Syntax} {s r : List Token} → Stops d f (repeated a) s r → s ≡ [] → NeverTakesEnd (repeated a) → ⊥
later_not_nil (stops_repeated {a = a} j h) e o = never a o.0 (ap (λ z. starts a (mark_at z)) (sym e) ∙ j)
later_not_nil (stops_later {a = a} m j h k) e o = never a o.0 (ap (λ z. starts a (mark_at z)) (sym e) ∙ j)

-- by the shortest text, where nothing stands yet
from_nothing : (g : Syntax) (s : List Token) → NeverTakesEnd g → HasShortestTexts g → s ≡ [] → IsViable g s
from_nothing g s o f e = let v = short_reads g o f in (short g, (v.0, subst (λ z. Reads unlimited g (z ++ short g) v.0 []) (sym e) v.1))

nil_or : (s : List Token) → (s ≡ []) ⊎ ((t : Token) × (u : List Token) × (s ≡ t ∷ u))
nil_or [] = inl refl
nil_or (t ∷ u) = inr (t, u, refl)

via_right : (a b : Syntax) (s : List Token) → NeverTakesEnd (either a b) → HasShortestTexts (either a b) → starts a (mark_at s) ≡ false → IsViable b s → (s ≡ []) ⊎ ((t : Token) × (u : List Token) × (s ≡ t ∷ u)) → IsViable (either a b) s
via_right a b s o f j v (inl e) = from_nothing (either a b) s o f e
via_right a b s o f j v (inr e) = (v.0, (right v.1.0, reads_right (ap (starts a) (same_mark s v.0 e.0 e.1 e.2) ∙ j) v.1.1))

via_second : (a b : Syntax) (s m : List Token) (x : Tree) → NeverTakesEnd (sequence a b) → HasShortestTexts (sequence a b) → Reads unlimited a s x m → IsViable b m → (m ≡ []) ⊎ ((t : Token) × (u : List Token) × (m ≡ t ∷ u)) → IsViable (sequence a b) s
via_second a b s m x o f h v (inl e) =
    let w = short_reads b o.1 f.1 in
    let y = grow h e o.0 (short b) f.2 in
    (short b, (both y.0 w.0, reads_sequence (short b) y.1 w.1))
via_second a b s m x o f h v (inr e) =
    let y = grow_first a s m v.0 x h (λ z. absurd (cons_not_empty e.0 e.1 (sym e.2 ∙ z))) in
    (v.0, (both y.0 v.1.0, reads_sequence (m ++ v.0) y.1 v.1.1))

-- A front is completed to a text of the grammar.
pub viable : {f : Fault} {g : Syntax} {s r : List Token} → Stops unlimited f g s r → r ≡ [] → NeverTakesEnd g → HasShortestTexts g → IsViable g s
viable (stops_quoted {k = k} {s = s} j w e) i o f = from_nothing (quoted k) s o f (e ∙ i)
viable (stops_kept {w = k} {s = s} j w e) i o f = from_nothing (kept k) s o f (e ∙ i)
viable (deep_quoted {k = k} {s = s} m v e) i o f = from_nothing (quoted k) s o f (e ∙ i)
viable (deep_kept {w = k} {s = s} m v e) i o f = from_nothing (kept k) s o f (e ∙ i)
viable (stops_first {a = a} {b = b} {s = s} h) i o f =
    let u = viable h i o.0 f.0 in
    let w = short_reads b o.1 f.1 in
    let y = grow u.1.1 refl o.0 (short b) f.2 in
    (u.0 ++ short b, (both y.0 w.0, subst (λ z. Reads unlimited (sequence a b) z (both y.0 w.0) []) (append_assoc s u.0 (short b)) (reads_sequence (short b) y.1 w.1)))
viable (stops_second {a = a} {b = b} {s = s} {x = x} m h k) i o f = via_second a b s m x o f h (viable k i o.1 f.1) (nil_or m)
viable (stops_left {a = a} {s = s} j h) i o f = let u = viable h i o.0 f.0 in (u.0, (left u.1.0, reads_left (begun a s u.0 o.0 j) u.1.1))
viable (stops_right {a = a} {b = b} {s = s} j h) i o f = via_right a b s o f j (viable h i o.1 f.1) (nil_or s)
viable (stops_optional {a = a} {s = s} j h) i o f = let u = viable h i o f in (u.0, (present u.1.0, reads_present (begun a s u.0 o j) u.1.1))
viable (stops_repeated {a = a} {s = s} j h) i o f = let u = viable h i o.0 f in (u.0, (more u.1.0 no_more, reads_more [] (begun a s u.0 o.0 j) u.1.1 (reads_no_more o.1 refl)))
viable (stops_later {a = a} {s = s} {x = x} m j h k) i o f =
    let u = viable k i o f in
    let y = grow_first a s m u.0 x h (λ z. absurd (later_not_nil k z o)) in
    (u.0, (more y.0 u.1.0, reads_more (m ++ u.0) (begun a s u.0 o.0 j) y.1 u.1.1))
viable (stops_placed {s = s} h) i o f = let u = viable h i o f in (u.0, (node (place_at (s ++ u.0)) u.1.0, reads_placed refl u.1.1))
viable (stops_reduced {u = w} h) i o f = let u = viable h i o f in (u.0, (reduce w u.1.0, reads_reduced refl u.1.1))
viable (stops_bracketed h) i o f = let u = viable h i o f in (u.0, (u.1.0, reads_bracketed u.1.1))
viable (stops_enclosed h) i o f = let u = viable h i o f in (u.0, (u.1.0, reads_enclosed u.1.1))
viable (stops_part {q = p} {s = s} h) i o f = let u = viable h i (rules_never_take_the_end p) (rules_have_shortest_texts p) in (u.0, (node (place_at (s ++ u.0)) u.1.0, reads_part refl u.1.1))

-- a front goes on to a whole
pub front_viable : (g : Syntax) (s : List Token) → NeverTakesEnd g → HasShortestTexts g → IsFront g s → IsViable g s
front_viable g s o f (inl h) = viable h refl o f
front_viable g s o f (inr h) = ([], (h.0, subst (λ z. Reads unlimited g z h.0 []) (sym (append-nil s)) h.1))
