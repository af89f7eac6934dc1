-- What is read depends on the tokens that are taken and on the mark of the next one alone, its places aside.
use Rattle.std.proofs.Common.{List, [], ◌∷◌, ◌++◌, Bool, true, false, ◌≡◌, refl, sym, subst, ap, ◌∙◌, append_assoc}
use Rattle.lotos_ast.specs.declared.token.Token.{Token}
use Rattle.lotos_ast.specs.MarkNumbers.{is_same_mark}
use Rattle.lotos_ast.specs.Notation.{fits, Syntax, sequence, repeated}
use Rattle.lotos_ast.specs.Begins.{mark_at, place_at, starts}
use Rattle.lotos_ast.specs.declared.fault.Fault.{Fault}
use Rattle.lotos_ast.specs.Nesting.{Nesting, is_within, fault_at}
use Rattle.lotos_ast.specs.Reads.{Tree, reduce, unkept, leaf, both, left, right, absent, present, no_more, more, node, Reads, Stops, reads_quoted, reads_kept, reads_sequence, reads_left, reads_right, reads_absent, reads_present, reads_no_more, reads_more, reads_placed, reads_reduced, reads_bracketed, reads_enclosed, reads_part, stops_quoted, stops_kept, deep_quoted, deep_kept, stops_first, stops_second, stops_left, stops_right, stops_optional, stops_repeated, stops_later, stops_placed, stops_reduced, stops_bracketed, stops_enclosed, stops_part}
use Rattle.lotos_ast.specs.Fronts.{Accepts}

pub record ReadsCut (d : Nesting) (g : Syntax) (s r : List Token) : Type 0 where
  pub taken : List Token
  pub all : s ≡ taken ++ r
  pub again : (q : List Token) → mark_at q ≡ mark_at r → Accepts d g (taken ++ q) q

pub record StopsCut (d : Nesting) (f : Fault) (g : Syntax) (s r : List Token) : Type 0 where
  pub taken : List Token
  pub all : s ≡ taken ++ r
  pub again : (q : List Token) → mark_at q ≡ mark_at r → Stops d f g (taken ++ q) q

pub mark_behind : (b q r : List Token) → mark_at q ≡ mark_at r → mark_at (b ++ q) ≡ mark_at (b ++ r)
mark_behind [] q r e = e
mark_behind (t ∷ b) q r e = refl

-- the test of the next token after the change
pub test : (a : Syntax) (s b q r : List Token) (v : Bool) → s ≡ b ++ r → mark_at q ≡ mark_at r → starts a (mark_at s) ≡ v → starts a (mark_at (b ++ q)) ≡ v
test a s b q r v e i h = ap (starts a) (mark_behind b q r i ∙ ap mark_at (sym e)) ∙ h

unfoldable pub reads_cut : {d : Nesting} {g : Syntax} {s r : List Token} {x : Tree} → Reads d g s x r → ReadsCut d g s r
reads_cut (reads_quoted {t = t} e m v) = record { taken = t ∷ []; all = e; again = λ q _. (unkept, reads_quoted refl (ap mark_at (sym e) ∙ m) v) }
reads_cut (reads_kept {w = w} {t = t} e m v) = record { taken = t ∷ []; all = e; again = λ q _. (leaf t, reads_kept refl (ap (λ z. fits w (mark_at z)) (sym e) ∙ m) v) }
reads_cut (reads_sequence {d = d} {a = a} {b = b} {r = r} m h k) =
    let u = reads_cut h in
    let v = reads_cut k in
    record {
      taken = u.taken ++ v.taken;
      all = u.all ∙ ap (λ z. u.taken ++ z) v.all ∙ sym (append_assoc u.taken v.taken r);
      again = λ q i.
          let x = u.again (v.taken ++ q) (mark_behind v.taken q r i ∙ ap mark_at (sym v.all)) in
          let y = v.again q i in
          (both x.0 y.0, subst (λ z. Reads d (sequence a b) z (both x.0 y.0) q) (sym (append_assoc u.taken v.taken q)) (reads_sequence (v.taken ++ q) x.1 y.1));
    }
reads_cut (reads_left {a = a} {s = s} {r = r} b h) = let u = reads_cut h in record { taken = u.taken; all = u.all; again = λ q i. let x = u.again q i in (left x.0, reads_left (test a s u.taken q r true u.all i b) x.1) }
reads_cut (reads_right {a = a} {s = s} {r = r} b h) = let u = reads_cut h in record { taken = u.taken; all = u.all; again = λ q i. let x = u.again q i in (right x.0, reads_right (test a s u.taken q r false u.all i b) x.1) }
reads_cut (reads_absent {a = a} {s = s} {r = r} b e) = record { taken = []; all = e; again = λ q i. (absent, reads_absent (test a s [] q r false e i b) refl) }
reads_cut (reads_present {a = a} {s = s} {r = r} b h) = let u = reads_cut h in record { taken = u.taken; all = u.all; again = λ q i. let x = u.again q i in (present x.0, reads_present (test a s u.taken q r true u.all i b) x.1) }
reads_cut (reads_no_more {a = a} {s = s} {r = r} b e) = record { taken = []; all = e; again = λ q i. (no_more, reads_no_more (test a s [] q r false e i b) refl) }
reads_cut (reads_more {d = d} {a = a} {s = s} {r = r} m b h k) =
    let u = reads_cut h in
    let v = reads_cut k in
    let all : s ≡ (u.taken ++ v.taken) ++ r = u.all ∙ ap (λ z. u.taken ++ z) v.all ∙ sym (append_assoc u.taken v.taken r) in
    record {
      taken = u.taken ++ v.taken;
      all = all;
      again = λ q i.
          let x = u.again (v.taken ++ q) (mark_behind v.taken q r i ∙ ap mark_at (sym v.all)) in
          let y = v.again q i in
          (more x.0 y.0, subst (λ z. Reads d (repeated a) z (more x.0 y.0) q) (sym (append_assoc u.taken v.taken q)) (reads_more (v.taken ++ q) (subst (λ z. starts a (mark_at z) ≡ true) (append_assoc u.taken v.taken q) (test a s (u.taken ++ v.taken) q r true all i b)) x.1 y.1));
    }
reads_cut (reads_placed e h) = let u = reads_cut h in record { taken = u.taken; all = u.all; again = λ q i. let x = u.again q i in (node (place_at (u.taken ++ q)) x.0, reads_placed refl x.1) }
reads_cut (reads_reduced {u = w} e h) = let u = reads_cut h in record { taken = u.taken; all = u.all; again = λ q i. let x = u.again q i in (reduce w x.0, reads_reduced refl x.1) }
reads_cut (reads_bracketed h) = let u = reads_cut h in record { taken = u.taken; all = u.all; again = λ q i. let x = u.again q i in (x.0, reads_bracketed x.1) }
reads_cut (reads_enclosed h) = let u = reads_cut h in record { taken = u.taken; all = u.all; again = λ q i. let x = u.again q i in (x.0, reads_enclosed x.1) }
reads_cut (reads_part e h) = let u = reads_cut h in record { taken = u.taken; all = u.all; again = λ q i. let x = u.again q i in (node (place_at (u.taken ++ q)) x.0, reads_part refl x.1) }

unfoldable pub stops_cut : {d : Nesting} {f : Fault} {g : Syntax} {s r : List Token} → Stops d f g s r → StopsCut d f g s r
stops_cut (stops_quoted {d = d} {k = k} b f e) = record { taken = []; all = e; again = λ q i. stops_quoted (ap (is_same_mark k) (i ∙ ap mark_at (sym e)) ∙ b) (ap (fault_at (is_within d)) (i ∙ ap mark_at (sym e)) ∙ f) refl }
stops_cut (stops_kept {d = d} {w = w} b f e) = record { taken = []; all = e; again = λ q i. stops_kept (ap (fits w) (i ∙ ap mark_at (sym e)) ∙ b) (ap (fault_at (is_within d)) (i ∙ ap mark_at (sym e)) ∙ f) refl }
stops_cut (deep_quoted m v e) = record { taken = []; all = e; again = λ q i. deep_quoted (i ∙ ap mark_at (sym e) ∙ m) v refl }
stops_cut (deep_kept {w = w} m v e) = record { taken = []; all = e; again = λ q i. deep_kept (ap (fits w) (i ∙ ap mark_at (sym e)) ∙ m) v refl }
stops_cut (stops_first h) = let u = stops_cut h in record { taken = u.taken; all = u.all; again = λ q i. stops_first (u.again q i) }
stops_cut (stops_second {d = d} {f = f} {a = a} {b = b} {r = r} m h k) =
    let u = reads_cut h in
    let v = stops_cut k in
    record {
      taken = u.taken ++ v.taken;
      all = u.all ∙ ap (λ z. u.taken ++ z) v.all ∙ sym (append_assoc u.taken v.taken r);
      again = λ q i.
          let x = u.again (v.taken ++ q) (mark_behind v.taken q r i ∙ ap mark_at (sym v.all)) in
          subst (λ z. Stops d f (sequence a b) z q) (sym (append_assoc u.taken v.taken q)) (stops_second (v.taken ++ q) x.1 (v.again q i));
    }
stops_cut (stops_left {a = a} {s = s} {r = r} b h) = let u = stops_cut h in record { taken = u.taken; all = u.all; again = λ q i. stops_left (test a s u.taken q r true u.all i b) (u.again q i) }
stops_cut (stops_right {a = a} {s = s} {r = r} b h) = let u = stops_cut h in record { taken = u.taken; all = u.all; again = λ q i. stops_right (test a s u.taken q r false u.all i b) (u.again q i) }
stops_cut (stops_optional {a = a} {s = s} {r = r} b h) = let u = stops_cut h in record { taken = u.taken; all = u.all; again = λ q i. stops_optional (test a s u.taken q r true u.all i b) (u.again q i) }
stops_cut (stops_repeated {a = a} {s = s} {r = r} b h) = let u = stops_cut h in record { taken = u.taken; all = u.all; again = λ q i. stops_repeated (test a s u.taken q r true u.all i b) (u.again q i) }
stops_cut (stops_later {d = d} {f = f} {a = a} {s = s} {r = r} m b h k) =
    let u = reads_cut h in
    let v = stops_cut k in
    let all : s ≡ (u.taken ++ v.taken) ++ r = u.all ∙ ap (λ z. u.taken ++ z) v.all ∙ sym (append_assoc u.taken v.taken r) in
    record {
      taken = u.taken ++ v.taken;
      all = all;
      again = λ q i.
          let x = u.again (v.taken ++ q) (mark_behind v.taken q r i ∙ ap mark_at (sym v.all)) in
          subst (λ z. Stops d f (repeated a) z q) (sym (append_assoc u.taken v.taken q)) (stops_later (v.taken ++ q) (subst (λ z. starts a (mark_at z) ≡ true) (append_assoc u.taken v.taken q) (test a s (u.taken ++ v.taken) q r true all i b)) x.1 (v.again q i));
    }
stops_cut (stops_placed h) = let u = stops_cut h in record { taken = u.taken; all = u.all; again = λ q i. stops_placed (u.again q i) }
stops_cut (stops_reduced h) = let u = stops_cut h in record { taken = u.taken; all = u.all; again = λ q i. stops_reduced (u.again q i) }
stops_cut (stops_bracketed h) = let u = stops_cut h in record { taken = u.taken; all = u.all; again = λ q i. stops_bracketed (u.again q i) }
stops_cut (stops_enclosed h) = let u = stops_cut h in record { taken = u.taken; all = u.all; again = λ q i. stops_enclosed (u.again q i) }
stops_cut (stops_part h) = let u = stops_cut h in record { taken = u.taken; all = u.all; again = λ q i. stops_part (u.again q i) }
