-- Limits change nothing below them.
use Rattle.std.proofs.Common.{List, ◌∷◌, Bool, true, false, ◌≡◌, refl, sym, ap, ◌∙◌, ◌⊎◌, inl, inr}
use Rattle.lotos_ast.specs.declared.mark.Mark.{Mark}
use Rattle.lotos_ast.specs.declared.token.Token.{Token}
use Rattle.lotos_ast.specs.MarkNumbers.{is_same_mark}
use Rattle.lotos_ast.specs.Notation.{Wanted, fits, Syntax, quoted, kept}
use Rattle.lotos_ast.specs.Begins.{mark_at}
use Rattle.lotos_ast.specs.declared.fault.Fault.{Fault}
use Rattle.lotos_ast.specs.Nesting.{Nesting, unlimited, in_bracket, in_construct, is_within, fault_at}
use Rattle.lotos_ast.specs.Reads.{Tree, unkept, leaf, Reads, Stops, reads_quoted, reads_kept, reads_sequence, reads_left, reads_right, reads_absent, reads_present, reads_no_more, reads_more, reads_placed, reads_reduced, reads_bracketed, reads_enclosed, reads_part, stops_quoted, stops_kept, deep_quoted, deep_kept, stops_first, stops_second, stops_left, stops_right, stops_optional, stops_repeated, stops_later, stops_placed, stops_reduced, stops_bracketed, stops_enclosed, stops_part}
use Rattle.std.specs.Prelude.{if◌then◌else◌}
use Rattle.std.proofs.lemmas.Bool.{true≢false}

-- what is read within limits is read without them
pub reads_unlimited : {d : Nesting} {g : Syntax} {s r : List Token} {x : Tree} → Reads d g s x r → Reads unlimited g s x r
reads_unlimited (reads_quoted e m v) = reads_quoted e m refl
reads_unlimited (reads_kept e m v) = reads_kept e m refl
reads_unlimited (reads_sequence m h k) = reads_sequence m (reads_unlimited h) (reads_unlimited k)
reads_unlimited (reads_left b h) = reads_left b (reads_unlimited h)
reads_unlimited (reads_right b h) = reads_right b (reads_unlimited h)
reads_unlimited (reads_absent b e) = reads_absent b e
reads_unlimited (reads_present b h) = reads_present b (reads_unlimited h)
reads_unlimited (reads_no_more b e) = reads_no_more b e
reads_unlimited (reads_more m b h k) = reads_more m b (reads_unlimited h) (reads_unlimited k)
reads_unlimited (reads_placed e h) = reads_placed e (reads_unlimited h)
reads_unlimited (reads_reduced e h) = reads_reduced e (reads_unlimited h)
reads_unlimited (reads_bracketed h) = reads_bracketed (reads_unlimited h)
reads_unlimited (reads_enclosed h) = reads_enclosed (reads_unlimited h)
reads_unlimited (reads_part e h) = reads_part e (reads_unlimited h)

free_fault : (mark within : Bool) (f : Fault) → (if mark then (if within then Fault.External else Fault.TooDeep) else Fault.Unexpected) ≡ f → (f ≡ Fault.TooDeep → ⊥) → (if mark then Fault.External else Fault.Unexpected) ≡ f
free_fault true true f e n = e
free_fault true false f e n = absurd (n (sym e))
free_fault false within f e n = e

-- where reading stops within limits for another reason, it stops there without them
pub stops_unlimited : {d : Nesting} {f : Fault} {g : Syntax} {s r : List Token} → Stops d f g s r → (f ≡ Fault.TooDeep → ⊥) → Stops unlimited f g s r
stops_unlimited (stops_quoted {d = d} {f = f} {s = s} b e i) n = stops_quoted b (free_fault (is_same_mark Mark.ExternalMark (mark_at s)) (is_within d) f e n) i
stops_unlimited (stops_kept {d = d} {f = f} {s = s} b e i) n = stops_kept b (free_fault (is_same_mark Mark.ExternalMark (mark_at s)) (is_within d) f e n) i
stops_unlimited (deep_quoted m v e) n = absurd (n refl)
stops_unlimited (deep_kept m v e) n = absurd (n refl)
stops_unlimited (stops_first h) n = stops_first (stops_unlimited h n)
stops_unlimited (stops_second m h k) n = stops_second m (reads_unlimited h) (stops_unlimited k n)
stops_unlimited (stops_left b h) n = stops_left b (stops_unlimited h n)
stops_unlimited (stops_right b h) n = stops_right b (stops_unlimited h n)
stops_unlimited (stops_optional b h) n = stops_optional b (stops_unlimited h n)
stops_unlimited (stops_repeated b h) n = stops_repeated b (stops_unlimited h n)
stops_unlimited (stops_later m b h k) n = stops_later m b (reads_unlimited h) (stops_unlimited k n)
stops_unlimited (stops_placed h) n = stops_placed (stops_unlimited h n)
stops_unlimited (stops_reduced h) n = stops_reduced (stops_unlimited h n)
stops_unlimited (stops_bracketed h) n = stops_bracketed (stops_unlimited h n)
stops_unlimited (stops_enclosed h) n = stops_enclosed (stops_unlimited h n)
stops_unlimited (stops_part h) n = stops_part (stops_unlimited h n)

-- read within limits, or too deep
abbrev OrDeep : Type 0 → Nesting → Syntax → List Token → Type 0
OrDeep P d g s = P ⊎ ((q : List Token) × Stops d Fault.TooDeep g s q)

within_quoted : (d : Nesting) (v : Bool) (k : Mark) (t : Token) (s r : List Token) → is_within d ≡ v → s ≡ t ∷ r → mark_at s ≡ k → OrDeep (Reads d (quoted k) s unkept r) d (quoted k) s
within_quoted d true k t s r w e m = inl (reads_quoted e m w)
within_quoted d false k t s r w e m = inr (s, deep_quoted m w refl)

within_kept : (d : Nesting) (v : Bool) (k : Wanted) (t : Token) (s r : List Token) → is_within d ≡ v → s ≡ t ∷ r → fits k (mark_at s) ≡ true → OrDeep (Reads d (kept k) s (leaf t) r) d (kept k) s
within_kept d true k t s r w e m = inl (reads_kept e m w)
within_kept d false k t s r w e m = inr (s, deep_kept m w refl)

pub read_within : (d : Nesting) {g : Syntax} {s r : List Token} {x : Tree} → Reads unlimited g s x r → OrDeep (Reads d g s x r) d g s
read_within d (reads_quoted {k = k} {t = t} {s = s} {r = r} e m v) = within_quoted d (is_within d) k t s r refl e m
read_within d (reads_kept {w = k} {t = t} {s = s} {r = r} e m v) = within_kept d (is_within d) k t s r refl e m
read_within d (reads_sequence m h k) = elim (read_within d h) [
  | inl y ↦ elim (read_within d k) [ inl z ↦ inl (reads_sequence m y z) | inr q ↦ inr (q.0, stops_second m y q.1) ]
  | inr q ↦ inr (q.0, stops_first q.1)
]
read_within d (reads_left b h) = elim (read_within d h) [ inl y ↦ inl (reads_left b y) | inr q ↦ inr (q.0, stops_left b q.1) ]
read_within d (reads_right b h) = elim (read_within d h) [ inl y ↦ inl (reads_right b y) | inr q ↦ inr (q.0, stops_right b q.1) ]
read_within d (reads_absent b e) = inl (reads_absent b e)
read_within d (reads_present b h) = elim (read_within d h) [ inl y ↦ inl (reads_present b y) | inr q ↦ inr (q.0, stops_optional b q.1) ]
read_within d (reads_no_more b e) = inl (reads_no_more b e)
read_within d (reads_more m b h k) = elim (read_within d h) [
  | inl y ↦ elim (read_within d k) [ inl z ↦ inl (reads_more m b y z) | inr q ↦ inr (q.0, stops_later m b y q.1) ]
  | inr q ↦ inr (q.0, stops_repeated b q.1)
]
read_within d (reads_placed e h) = elim (read_within d h) [ inl y ↦ inl (reads_placed e y) | inr q ↦ inr (q.0, stops_placed q.1) ]
read_within d (reads_reduced e h) = elim (read_within d h) [ inl y ↦ inl (reads_reduced e y) | inr q ↦ inr (q.0, stops_reduced q.1) ]
read_within d (reads_bracketed h) = elim (read_within (in_bracket d) h) [ inl y ↦ inl (reads_bracketed y) | inr q ↦ inr (q.0, stops_bracketed q.1) ]
read_within d (reads_enclosed h) = elim (read_within (in_construct d) h) [ inl y ↦ inl (reads_enclosed y) | inr q ↦ inr (q.0, stops_enclosed q.1) ]
read_within d (reads_part e h) = elim (read_within d h) [ inl y ↦ inl (reads_part e y) | inr q ↦ inr (q.0, stops_part q.1) ]

-- the fault at a token that marks nothing as external, and at one that does
other_mark : (v : Bool) (m : Mark) → is_same_mark Mark.ExternalMark m ≡ false → fault_at v m ≡ Fault.Unexpected
other_mark v m h = ap (λ y. if y then (if v then Fault.External else Fault.TooDeep) else Fault.Unexpected) h

deep_mark : (m : Mark) → is_same_mark Mark.ExternalMark m ≡ true → fault_at false m ≡ Fault.TooDeep
deep_mark m h = ap (λ y. if y then Fault.TooDeep else Fault.Unexpected) h

-- the fault within limits is that without them, or it is too deep
fault_within : (d : Nesting) (v x : Bool) (f : Fault) (m : Mark) → is_within d ≡ v → is_same_mark Mark.ExternalMark m ≡ x → fault_at true m ≡ f → (fault_at (is_within d) m ≡ f) ⊎ (fault_at (is_within d) m ≡ Fault.TooDeep)
fault_within d true x f m w h e = inl (ap (λ z. fault_at z m) w ∙ e)
fault_within d false true f m w h e = inr (ap (λ z. fault_at z m) w ∙ deep_mark m h)
fault_within d false false f m w h e = inl (other_mark (is_within d) m h ∙ sym (other_mark true m h) ∙ e)

pub stops_within : (d : Nesting) {f : Fault} {g : Syntax} {s r : List Token} → Stops unlimited f g s r → OrDeep (Stops d f g s r) d g s
stops_within d (stops_quoted {f = f} {s = s} b e i) = elim (fault_within d (is_within d) (is_same_mark Mark.ExternalMark (mark_at s)) f (mark_at s) refl refl e) [ inl y ↦ inl (stops_quoted b y i) | inr y ↦ inr (s, stops_quoted b y refl) ]
stops_within d (stops_kept {f = f} {s = s} b e i) = elim (fault_within d (is_within d) (is_same_mark Mark.ExternalMark (mark_at s)) f (mark_at s) refl refl e) [ inl y ↦ inl (stops_kept b y i) | inr y ↦ inr (s, stops_kept b y refl) ]
stops_within d (deep_quoted m v e) = absurd (true≢false v)
stops_within d (deep_kept m v e) = absurd (true≢false v)
stops_within d (stops_first h) = elim (stops_within d h) [ inl y ↦ inl (stops_first y) | inr q ↦ inr (q.0, stops_first q.1) ]
stops_within d (stops_second m h k) = elim (read_within d h) [
  | inl y ↦ elim (stops_within d k) [ inl z ↦ inl (stops_second m y z) | inr q ↦ inr (q.0, stops_second m y q.1) ]
  | inr q ↦ inr (q.0, stops_first q.1)
]
stops_within d (stops_left b h) = elim (stops_within d h) [ inl y ↦ inl (stops_left b y) | inr q ↦ inr (q.0, stops_left b q.1) ]
stops_within d (stops_right b h) = elim (stops_within d h) [ inl y ↦ inl (stops_right b y) | inr q ↦ inr (q.0, stops_right b q.1) ]
stops_within d (stops_optional b h) = elim (stops_within d h) [ inl y ↦ inl (stops_optional b y) | inr q ↦ inr (q.0, stops_optional b q.1) ]
stops_within d (stops_repeated b h) = elim (stops_within d h) [ inl y ↦ inl (stops_repeated b y) | inr q ↦ inr (q.0, stops_repeated b q.1) ]
stops_within d (stops_later m b h k) = elim (read_within d h) [
  | inl y ↦ elim (stops_within d k) [ inl z ↦ inl (stops_later m b y z) | inr q ↦ inr (q.0, stops_later m b y q.1) ]
  | inr q ↦ inr (q.0, stops_repeated b q.1)
]
stops_within d (stops_placed h) = elim (stops_within d h) [ inl y ↦ inl (stops_placed y) | inr q ↦ inr (q.0, stops_placed q.1) ]
stops_within d (stops_reduced h) = elim (stops_within d h) [ inl y ↦ inl (stops_reduced y) | inr q ↦ inr (q.0, stops_reduced q.1) ]
stops_within d (stops_bracketed h) = elim (stops_within (in_bracket d) h) [ inl y ↦ inl (stops_bracketed y) | inr q ↦ inr (q.0, stops_bracketed q.1) ]
stops_within d (stops_enclosed h) = elim (stops_within (in_construct d) h) [ inl y ↦ inl (stops_enclosed y) | inr q ↦ inr (q.0, stops_enclosed q.1) ]
stops_within d (stops_part h) = elim (stops_within d h) [ inl y ↦ inl (stops_part y) | inr q ↦ inr (q.0, stops_part q.1) ]
