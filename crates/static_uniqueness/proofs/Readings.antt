-- Constructs that are alike are read alike.
use Rattle.std.proofs.Common.{ℕ, ◌≡◌, ◌∙◌, sym, subst, List, [], ◌∷◌, ◌++◌, length, map, ◌&&◌, ◌==◌, Option}
use Rattle.lotos_ast.specs.declared.behaviour.GateChoice.{GateChoice}
use Rattle.lotos_ast.specs.declared.expression.Expr.{Expr}
use Rattle.lotos_ast.specs.declared.refusal.Refusal.{Refusal}
use Rattle.lotos_ast.specs.declared.token.Token.{Token}
use Rattle.spec_core.specs.Code.{gate_choice, bound}
use Rattle.sort_overloads.specs.Readings.{Declared}
use Rattle.type_names.specs.DuplicateNames.{names_twice}
use Rattle.static_constructs.specs.Constructs.{Construct, acts, binds, chooses_values, chooses_gates, composes, enables, copies}
use Rattle.static_readings.specs.Calls.{has_counts, IsCallRead, unknown, miscounted, counted}
use Rattle.static_readings.specs.Declarations.{unknown_gate, unknown_gates, gate_numbers, declaration_refusals, declared_variables}
use Rattle.static_readings.specs.Joins.{Read, after}
use Rattle.static_readings.specs.Readings.{acting, under, chosen, composed, composed_refusals, enabled, enabled_refusals, copied, gates_of, synchronised, IsRead, exited, acted_inside, acted, chosen_either, asked, bound_to_values, chosen_values, chosen_gates, composed_with, hidden, enabled_by, disabled_by, called_with, copied_at, AreGatesChosen, none_left, one_more}
use Rattle.static_readings.specs.Offers.{IsPredicateRead, offered_variables}
use Rattle.static_readings.specs.Calls as calls_specs
use Rattle.static_readings.specs.Sites.{Site, Heading, gate_number, next_gate, process_named, with_gates, with_variables}
use Rattle.static_equations.specs.Variables.{all_variables}
use Rattle.syntax_laws.specs.Alike.{AreAlike}
use Rattle.static_uniqueness.proofs.Lists.{length-same}
use Rattle.static_uniqueness.proofs.Equations.{premiss-same}
use Rattle.static_uniqueness.specs.ConstructsAlike.{AreExpressionsAlike, AreGateChoicesAlike, AreConstructsAlike, alike_stops, alike_exits, alike_inside, alike_acts, alike_chooses, alike_asks, alike_binds, alike_values, alike_gates, alike_composes, alike_hides, alike_enables, alike_disables, alike_calls, alike_copies}
use Rattle.static_uniqueness.specs.Constructs.{SameIsRead}
use Rattle.static_uniqueness.proofs.ConstructParts.{exit-values-same, offered-names-same, offered-variables-same, offers-same, predicate-same, values-same, bindings-same, bound-variables-same, variables-same, declared-same, declarations-refused-same, synchronised-same, gates-of-same, binding-names-same, chosen-gates-same}

-- a construct is read over one list of variables as over one that is the same
read-over : (s : Site) (n : ℕ) (b : Construct) (x : Option Read) (rs : List Refusal) → (vs ws : List Declared) → vs ≡ ws → IsRead (with_variables s vs) n b x rs → IsRead (with_variables s ws) n b x rs
read-over s n b x rs vs ws e h = subst (λ z. IsRead (with_variables s z) n b x rs) e h

call-same : (s : Site) (name : Token) (gates : List Token) (es ds : List Expr) → AreAlike AreExpressionsAlike es ds → (o : Option Heading) (x : Option Read) (rs : List Refusal) → IsCallRead s name gates es o x rs → IsCallRead s name gates ds o x rs
call-same s name gates es ds k o x rs unknown = unknown
call-same s name gates es ds k o x rs (miscounted p c) = miscounted p (sym (counts p) ∙ c)
  where
    counts : (p : Heading) → has_counts p gates es ≡ has_counts p gates ds
    counts p = λ i. (length gates == p.gates) && (length-same AreExpressionsAlike es ds k i == length p.sorts)
call-same s name gates es ds k o x rs (counted p values qs c h) = counted p values qs (sym (counts p) ∙ c) (values-same s p.sorts es ds k values qs h)
  where
    counts : (p : Heading) → has_counts p gates es ≡ has_counts p gates ds
    counts p = λ i. (length gates == p.gates) && (length-same AreExpressionsAlike es ds k i == length p.sorts)

-- a choice of gates over one construct is read as over another, where that is read as this one wherever it stands
gates-same : (b c : Construct) → ((s : Site) (n : ℕ) (x : Option Read) (rs : List Refusal) → IsRead s n b x rs → IsRead s n c x rs) → (s : Site) (n : ℕ) (vs ws : List GateChoice) → AreAlike AreGateChoicesAlike vs ws → (x : Option Read) (rs : List Refusal) →
    AreGatesChosen s n vs b x rs → AreGatesChosen s n ws c x rs
gates-same b c each s n [] [] k x rs (none_left _ y qs h) = none_left c y qs (each s n y qs h)
gates-same b c each s n [] (w ∷ ws) k x rs h = absurd k
gates-same b c each s n (v ∷ vs) [] k x rs h = absurd k
gates-same b c each s n (v ∷ vs) (w ∷ ws) k x rs (one_more _ _ _ y qs h) =
    let gate : v.gate ≡ w.gate = k.0.gate in
    let gates : v.gates.gates.items ≡ w.gates.gates.items = k.0.gates in
    subst (λ z. AreGatesChosen s n (w ∷ ws) c (under n (gate_choice (next_gate s)) (gate_numbers s z) y) (unknown_gates s z ++ qs)) (sym gates)
    (one_more w ws c y qs (gates-same b c each (with_gates s (w.gate ∷ [])) n vs ws k.1 y qs (subst (λ z. AreGatesChosen (with_gates s (z ∷ [])) n vs b y qs) gate h)))

read-same : (s : Site) (n : ℕ) (b c : Construct) → AreConstructsAlike b c → (x : Option Read) (rs : List Refusal) → IsRead s n b x rs → IsRead s n c x rs
read-same s n b c alike_stops x rs h = h
read-same s n b c (alike_exits {vs} {ws} k) x rs (exited _ found qs h) = exited ws found qs (exit-values-same s vs ws k found qs h)
read-same s n b c (alike_inside {b = d} {c = e} k) x rs (acted_inside _ y qs h) = acted_inside e y qs (read-same s n d e k y qs h)
read-same s n b c (alike_acts {gate} {os} {ps} {o} {p} {b = d} {c = e} k l m) x rs (acted _ _ _ _ fields guard y ro rp rb h i j) =
    let vs = offered-variables-same s os ps k in
    let names = offered-names-same s os ps k in
    subst (λ z. IsRead s n (acts gate ps p e) (acting n (gate_number s gate) fields guard y) (unknown_gate s gate ++ (names_twice z ++ (ro ++ (rp ++ rb))))) (sym names)
    (acted gate ps p e fields guard y ro rp rb (offers-same s os ps k fields ro h)
    (predicate-same (with_variables s (offered_variables s ps)) o p l guard rp (subst (λ z. IsPredicateRead (with_variables s z) o guard rp) vs i))
    (read-same (with_variables s (offered_variables s ps)) n d e m y rb (read-over s n d y rb (offered_variables s os) (offered_variables s ps) vs j)))
read-same s n b c (alike_chooses {place} {a = d} {b = e} {c = f} {d = g} k l) x rs (chosen_either _ _ _ y z ra rb h i) =
    chosen_either place f g y z ra rb (read-same s n d f k y ra h) (read-same s (after n y) e g l z rb i)
read-same s n b c (alike_asks {p} {q} {b = d} {c = e} k l) x rs (asked _ _ found y rp rb h i) =
    asked q e found y rp rb (premiss-same s.context p q k found rp h) (read-same s n d e l y rb i)
read-same s n b c (alike_binds {vs} {ws} {b = d} {c = e} k l) x rs (bound_to_values _ _ found y rv rb h i) =
    let all = bound-variables-same s vs ws k in
    subst (λ z. IsRead s n (binds ws e) (under n bound found y) (names_twice z ++ (rv ++ rb))) (sym (binding-names-same vs ws k))
    (bound_to_values ws e found y rv rb (bindings-same s vs ws k found rv h) (read-same (with_variables s (map (calls_specs.variable_of s) ws)) n d e l y rb (read-over s n d y rb (map (calls_specs.variable_of s) vs) (map (calls_specs.variable_of s) ws) all i)))
read-same s n b c (alike_values {ds} {es} {b = d} {c = e} k l) x rs (chosen_values _ _ y rb h) =
    let all = variables-same s ds es k in
    subst (λ z. IsRead s n (chooses_values es e) (chosen n z y) (declaration_refusals s ds ++ rb)) (sym (declared-same s ds es k))
    (subst (λ z. IsRead s n (chooses_values es e) (chosen n (declared_variables s es) y) (z ++ rb)) (sym (declarations-refused-same s ds es k))
    (chosen_values es e y rb (read-same (with_variables s (all_variables s.context.sorts es)) n d e l y rb (read-over s n d y rb (all_variables s.context.sorts ds) (all_variables s.context.sorts es) all h))))
read-same s n b c (alike_gates {vs} {ws} {b = d} {c = e} k l) x rs (chosen_gates _ _ y qs h) =
    subst (λ z. IsRead s n (chooses_gates ws e) y (names_twice z ++ qs)) (sym (chosen-gates-same vs ws k)) (chosen_gates ws e y qs (gates-same d e (λ s n x rs h. read-same s n d e l x rs h) s n vs ws k y qs h))
read-same s n b c (alike_composes {place} {o} {p} {a = d} {b = e} {c = f} {d = g} k l m) x rs (composed_with _ _ _ _ y z ra rb h i) =
    subst (λ w. IsRead s n (composes place p f g) (composed n w y z) (unknown_gates s (gates_of o) ++ ((ra ++ rb) ++ composed_refusals place w y z))) (sym (synchronised-same s o p k))
    (subst (λ w. IsRead s n (composes place p f g) (composed n (synchronised s p) y z) (unknown_gates s w ++ ((ra ++ rb) ++ composed_refusals place (synchronised s p) y z))) (sym (gates-of-same o p k))
    (composed_with place p f g y z ra rb (read-same s n d f l y ra h) (read-same s (after n y) e g m z rb i)))
read-same s n b c (alike_hides {gates} {b = d} {c = e} k) x rs (hidden _ _ y rb h) = hidden gates e y rb (read-same (with_gates s gates) n d e k y rb h)
read-same s n b c (alike_enables {place} {ds} {es} {a = d} {b = e} {c = f} {d = g} k l m) x rs (enabled_by _ _ _ _ y z ra rb h i) =
    let all = variables-same s ds es l in
    subst (λ w. IsRead s n (enables place f es g) (enabled n w y z) (ra ++ (declaration_refusals s ds ++ (rb ++ enabled_refusals place w y z)))) (sym (declared-same s ds es l))
    (subst (λ w. IsRead s n (enables place f es g) (enabled n (declared_variables s es) y z) (ra ++ (w ++ (rb ++ enabled_refusals place (declared_variables s es) y z)))) (sym (declarations-refused-same s ds es l))
    (enabled_by place f es g y z ra rb (read-same s n d f k y ra h)
    (read-same (with_variables s (all_variables s.context.sorts es)) (after n y) e g m z rb (read-over s (after n y) e z rb (all_variables s.context.sorts ds) (all_variables s.context.sorts es) all i))))
read-same s n b c (alike_disables {place} {a = d} {b = e} {c = f} {d = g} k l) x rs (disabled_by _ _ _ y z ra rb h i) =
    disabled_by place f g y z ra rb (read-same s n d f k y ra h) (read-same s (after n y) e g l z rb i)
read-same s n b c (alike_calls {name} {gates} {es} {ds} k) x rs (called_with _ _ _ y qs h) = called_with name gates ds y qs (call-same s name gates es ds k (process_named s name) y qs h)
read-same s n b c (alike_copies {gate} {among} {o} {p} {b = d} {c = e} k l) x rs (copied_at _ _ _ _ y rb h) =
    subst (λ w. IsRead s n (copies gate among p e) (copied n (next_gate s) w (gate_numbers s among) y) (unknown_gates s among ++ (unknown_gates s (gates_of o) ++ rb))) (sym (synchronised-same s o p k))
    (subst (λ w. IsRead s n (copies gate among p e) (copied n (next_gate s) (synchronised s p) (gate_numbers s among) y) (unknown_gates s among ++ (unknown_gates s w ++ rb))) (sym (gates-of-same o p k))
    (copied_at gate among p e y rb (read-same (with_gates s (gate ∷ [])) n d e l y rb h)))

pub same_is_read : SameIsRead
same_is_read = read-same
