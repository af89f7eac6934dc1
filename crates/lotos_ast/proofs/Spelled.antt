-- What the grammar as it is written spells is what is read with one token ahead.
use Rattle.std.proofs.Common.{List, Bool, true, false, not, ◌≡◌, refl, ap, ◌∙◌, ◌⊎◌, inl, inr, ◌||◌, ◌&&◌}
use Rattle.std.proofs.lemmas.Bool.{and_from, not-true, or_right, or_left}
use Rattle.spec_core.proofs.Booleans.{or_first_false, or_second_false}
use Rattle.lotos_ast.specs.declared.mark.Mark.{Mark}
use Rattle.lotos_ast.specs.declared.token.Token.{Token}
use Rattle.lotos_ast.specs.MarkNumbers.{is_same_mark}
use Rattle.lotos_ast.specs.Notation.{Part, Syntax, repeated}
use Rattle.lotos_ast.specs.Grammar.{rule}
use Rattle.lotos_ast.specs.Begins.{mark_at, place_at, starts, begins, is_empty}
use Rattle.lotos_ast.specs.Nesting.{Nesting, unlimited}
use Rattle.lotos_ast.specs.Reads.{Tree, reduce, unkept, leaf, both, left, right, absent, present, no_more, more, node, Reads, reads_quoted, reads_kept, reads_sequence, reads_left, reads_right, reads_absent, reads_present, reads_no_more, reads_more, reads_placed, reads_reduced, reads_bracketed, reads_enclosed, reads_part}
use Rattle.lotos_ast.specs.Notation.{specification, gate_list, functionality, type_definition, where_item, sort_part, operation_part, operation_names, infix_names, operation_name, equation_part, sort_equations, equations, equation, premiss, for_all, declarations, declaration, sort_pair, operation_pair, expression, infixes, simple, head, process, behaviour, enabling, disable, disabling, parallel, composing, operator, choice, choosing, unary, offer, atom, exit_value, binding, gate_choice}
use Rattle.lotos_ast.specs.Begins.{or_behind}
use Rattle.lotos_ast.specs.Conditions.{IsPredictive, Apart, implies}
use Rattle.lotos_ast.specs.GoesOn.{onward}
use Rattle.lotos_ast.specs.Spelled.{is_far, Spelled, Spells, unless, reaches, spelled_quoted, spelled_kept, spelled_sequence, spelled_left, spelled_right, spelled_absent, spelled_present, spelled_no_more, spelled_more, spelled_placed, spelled_reduced, spelled_bracketed, spelled_enclosed, spelled_part}
use Rattle.lotos_ast.specs.Fronts.{Accepts, IsWhole}
use Rattle.lotos_ast.proofs.RulesArePredictive.{rules_are_predictive}
use Rattle.lotos_ast.proofs.Tables.{every, contra, modus, not_empty, begins_checked, onward_checked}
use Rattle.lotos_ast.proofs.OneReading.{same_itself}
use Rattle.lotos_ast.proofs.Grows.{given}

onward_ends : (p : Part) (m : Mark) → onward p m ≡ false → reaches (rule p) m ≡ false
onward_ends p m h = contra (reaches (rule p) m) (onward p m) (every (λ m. implies (reaches (rule p) m) (onward p m)) (onward_checked p) m) h

not_full : (p : Part) → is_empty (rule p) ≡ true → ⊥
not_full p h = let i = not_empty p in cc

to_first : (e a b : Bool) → a ≡ true → or_behind e a b ≡ true
to_first true a b h = or_left a b h
to_first false a b h = h

to_second : (e a b : Bool) → e ≡ true → b ≡ true → or_behind e a b ≡ true
to_second true a b e h = or_right a b h
to_second false a b e h = cc

-- a part that is spelled begins with the next token, or is empty
start_or_nil : {g : Syntax} {s r : List Token} → Spelled g s r → (starts g (mark_at s) ≡ true) ⊎ ((s ≡ r) × (is_empty g ≡ true))
start_or_nil (spelled_quoted {k = k} e m) = inl (ap (is_same_mark k) m ∙ same_itself k)
start_or_nil (spelled_kept e m) = inl m
start_or_nil (spelled_sequence {a = a} {b = b} {s = s} m h k) = elim (start_or_nil h) [
  | inl f ↦ inl (to_first (is_empty a) (starts a (mark_at s)) (starts b (mark_at s)) f)
  | inr p ↦ elim (start_or_nil k) [
    | inl f ↦ inl (to_second (is_empty a) (starts a (mark_at s)) (starts b (mark_at s)) p.1 (ap (λ z. starts b (mark_at z)) p.0 ∙ f))
    | inr q ↦ inr (p.0 ∙ q.0, and_from (is_empty a) (is_empty b) p.1 q.1)
  ]
]
start_or_nil (spelled_left {a = a} {b = b} {s = s} h) = elim (start_or_nil h) [ inl f ↦ inl (or_left (starts a (mark_at s)) (starts b (mark_at s)) f) | inr p ↦ inr (p.0, or_left (is_empty a) (is_empty b) p.1) ]
start_or_nil (spelled_right {a = a} {b = b} {s = s} h) = elim (start_or_nil h) [ inl f ↦ inl (or_right (starts a (mark_at s)) (starts b (mark_at s)) f) | inr p ↦ inr (p.0, or_right (is_empty a) (is_empty b) p.1) ]
start_or_nil (spelled_absent f e) = inr (e, refl)
start_or_nil (spelled_present h) = elim (start_or_nil h) [ inl f ↦ inl f | inr p ↦ inr (p.0, refl) ]
start_or_nil (spelled_no_more e) = inr (e, refl)
start_or_nil (spelled_more {a = a} {s = s} m h k) = elim (start_or_nil h) [
  | inl f ↦ inl f
  | inr p ↦ elim (start_or_nil k) [ inl f ↦ inl (ap (λ z. starts a (mark_at z)) p.0 ∙ f) | inr q ↦ inr (p.0 ∙ q.0, refl) ]
]
start_or_nil (spelled_placed h) = start_or_nil h
start_or_nil (spelled_reduced h) = start_or_nil h
start_or_nil (spelled_bracketed h) = start_or_nil h
start_or_nil (spelled_enclosed h) = start_or_nil h
start_or_nil (spelled_part {p = p} {s = s} h) = elim (start_or_nil h) [
  | inl f ↦ inl (modus (starts (rule p) (mark_at s)) (begins p (mark_at s)) (every (λ m. implies (starts (rule p) m) (begins p m)) (begins_checked p) (mark_at s)) f)
  | inr q ↦ absurd (not_full p q.1)
]

-- where it isn't empty it begins with the next token
starts_here : (a : Syntax) (s r : List Token) → Spelled a s r → is_empty a ≡ false → starts a (mark_at s) ≡ true
starts_here a s r h e = elim (start_or_nil h) [ inl f ↦ f | inr p ↦ let i = p.1 in cc ]

apart : (first second : Mark → Bool) (m : Mark) → Apart first second → first m ≡ true → second m ≡ false
apart first second m c h = not-true (second m) (modus (first m) (not (second m)) (every (λ k. implies (first k) (not (second k))) c m) h)

-- a part doesn't go on by what the next one begins with
stops_here : (a b : Syntax) (m r : List Token) → Apart (starts b) (reaches a) → Spelled b m r → reaches b (mark_at r) || is_empty b && reaches a (mark_at r) ≡ false → reaches a (mark_at m) ≡ false
stops_here a b m r c k n = elim (start_or_nil k) [
  | inl f ↦ apart (starts b) (reaches a) (mark_at m) c f
  | inr p ↦ ap (λ z. reaches a (mark_at z)) p.0 ∙ given (is_empty b) (reaches a (mark_at r)) (or_second_false (reaches b (mark_at r)) _ n) p.1
]

stops_again : (a : Syntax) (m r : List Token) → Apart (starts a) (reaches a) → Spelled (repeated a) m r → reaches a (mark_at r) ≡ false → reaches a (mark_at m) ≡ false
stops_again a m r c k n = elim (start_or_nil k) [
  | inl f ↦ apart (starts a) (reaches a) (mark_at m) c f
  | inr p ↦ ap (λ z. reaches a (mark_at z)) p.0 ∙ n
]

not_left : (a b : Syntax) (s r : List Token) → Apart (starts b) (starts a) → Spelled b s r → is_empty b && starts a (mark_at r) ≡ false → starts a (mark_at s) ≡ false
not_left a b s r c h n = elim (start_or_nil h) [
  | inl f ↦ apart (starts b) (starts a) (mark_at s) c f
  | inr p ↦ ap (λ z. starts a (mark_at z)) p.0 ∙ given (is_empty b) (starts a (mark_at r)) n p.1
]

not_there : (f b : Bool) → (f ≡ true → b ≡ false) → unless f b ≡ false → b ≡ false
not_there true b h n = h refl
not_there false b h n = n

-- What the grammar spells is read, where no token follows by which it would go on.
pub spelled_reads : {g : Syntax} {s r : List Token} → Spelled g s r → IsPredictive g → reaches g (mark_at r) ≡ false → Accepts unlimited g s r
spelled_reads (spelled_quoted e m) c n = (unkept, reads_quoted e m refl)
spelled_reads (spelled_kept {t = t} e m) c n = (leaf t, reads_kept e m refl)
spelled_reads (spelled_sequence {a = a} {b = b} {r = r} m h k) c n =
    let u = spelled_reads h c.0 (stops_here a b m r c.2 k n) in
    let v = spelled_reads k c.1 (or_first_false (reaches b (mark_at r)) _ n) in
    (both u.0 v.0, reads_sequence m u.1 v.1)
spelled_reads (spelled_left {a = a} {b = b} {s = s} {r = r} h) c n = let u = spelled_reads h c.0 (or_first_false (reaches a (mark_at r)) _ n) in (left u.0, reads_left (starts_here a s r h c.3) u.1)
spelled_reads (spelled_right {a = a} {b = b} {s = s} {r = r} h) c n =
    let i = or_second_false (reaches a (mark_at r)) _ n in
    let u = spelled_reads h c.1 (or_first_false (reaches b (mark_at r)) _ i) in
    (right u.0, reads_right (not_left a b s r c.2 h (or_second_false (reaches b (mark_at r)) _ i)) u.1)
spelled_reads (spelled_absent {a = a} {s = s} {r = r} f e) c n = (absent, reads_absent (not_there (is_far a) (starts a (mark_at s)) f (ap (λ z. unless (is_far a) (starts a (mark_at z))) e ∙ or_first_false (unless (is_far a) (starts a (mark_at r))) _ n)) e)
spelled_reads (spelled_present {a = a} {s = s} {r = r} h) c n = let u = spelled_reads h c.0 (or_second_false (unless (is_far a) (starts a (mark_at r))) _ n) in (present u.0, reads_present (starts_here a s r h c.1) u.1)
spelled_reads (spelled_no_more {a = a} {s = s} {r = r} e) c n = (no_more, reads_no_more (ap (λ z. starts a (mark_at z)) e ∙ or_first_false (starts a (mark_at r)) _ n) e)
spelled_reads (spelled_more {a = a} {s = s} {r = r} m h k) c n =
    let u = spelled_reads h c.0 (stops_again a m r c.2 k (or_second_false (starts a (mark_at r)) _ n)) in
    let v = spelled_reads k c n in
    (more u.0 v.0, reads_more m (starts_here a s m h c.1) u.1 v.1)
spelled_reads (spelled_placed {s = s} h) c n = let u = spelled_reads h c n in (node (place_at s) u.0, reads_placed refl u.1)
spelled_reads (spelled_reduced {u = w} h) c n = let u = spelled_reads h c n in (reduce w u.0, reads_reduced refl u.1)
spelled_reads (spelled_bracketed h) c n = let u = spelled_reads h c n in (u.0, reads_bracketed u.1)
spelled_reads (spelled_enclosed h) c n = let u = spelled_reads h c n in (u.0, reads_enclosed u.1)
spelled_reads (spelled_part {p = p} {s = s} {r = r} h) c n = let u = spelled_reads h (rules_are_predictive p) (onward_ends p (mark_at r) n) in (node (place_at s) u.0, reads_part refl u.1)

-- What is read is spelled.
pub reads_spelled : {d : Nesting} {g : Syntax} {s r : List Token} {x : Tree} → Reads d g s x r → Spelled g s r
reads_spelled (reads_quoted e m v) = spelled_quoted e m
reads_spelled (reads_kept e m v) = spelled_kept e m
reads_spelled (reads_sequence m h k) = spelled_sequence m (reads_spelled h) (reads_spelled k)
reads_spelled (reads_left b h) = spelled_left (reads_spelled h)
reads_spelled (reads_right b h) = spelled_right (reads_spelled h)
reads_spelled (reads_absent b e) = spelled_absent (λ _. b) e
reads_spelled (reads_present b h) = spelled_present (reads_spelled h)
reads_spelled (reads_no_more b e) = spelled_no_more e
reads_spelled (reads_more m b h k) = spelled_more m (reads_spelled h) (reads_spelled k)
reads_spelled (reads_placed e h) = spelled_placed (reads_spelled h)
reads_spelled (reads_reduced e h) = spelled_reduced (reads_spelled h)
reads_spelled (reads_bracketed h) = spelled_bracketed (reads_spelled h)
reads_spelled (reads_enclosed h) = spelled_enclosed (reads_spelled h)
reads_spelled (reads_part e h) = spelled_part (reads_spelled h)

-- no rule goes on by the end
pub onward_not_end : (p : Part) → onward p Mark.End ≡ false
onward_not_end specification = refl
onward_not_end gate_list = refl
onward_not_end functionality = refl
onward_not_end type_definition = refl
onward_not_end where_item = refl
onward_not_end sort_part = refl
onward_not_end operation_part = refl
onward_not_end operation_names = refl
onward_not_end infix_names = refl
onward_not_end operation_name = refl
onward_not_end equation_part = refl
onward_not_end sort_equations = refl
onward_not_end equations = refl
onward_not_end equation = refl
onward_not_end premiss = refl
onward_not_end for_all = refl
onward_not_end declarations = refl
onward_not_end declaration = refl
onward_not_end sort_pair = refl
onward_not_end operation_pair = refl
onward_not_end expression = refl
onward_not_end infixes = refl
onward_not_end simple = refl
onward_not_end head = refl
onward_not_end process = refl
onward_not_end behaviour = refl
onward_not_end enabling = refl
onward_not_end disable = refl
onward_not_end disabling = refl
onward_not_end parallel = refl
onward_not_end composing = refl
onward_not_end operator = refl
onward_not_end choice = refl
onward_not_end choosing = refl
onward_not_end unary = refl
onward_not_end offer = refl
onward_not_end atom = refl
onward_not_end exit_value = refl
onward_not_end binding = refl
onward_not_end gate_choice = refl

pub spells_whole : (g : Syntax) (s : List Token) → IsPredictive g → reaches g Mark.End ≡ false → Spells g s → IsWhole g s
spells_whole g s c n h = spelled_reads h c n
