-- Constructs over one part are opened.
use Rattle.std.proofs.Common.{ℕ, ◌≡◌, ◌∙◌, refl, sym, ap, subst, List, [], ◌∷◌, ◌++◌, length, map, append_assoc, append-nil, Option}
use Rattle.std.specs.Prelude.{option_map}
use Rattle.std.specs.List.{range_with_len}
use Rattle.lotos_ast.specs.declared.behaviour.Binding.{Binding}
use Rattle.lotos_ast.specs.declared.behaviour.GateChoice.{GateChoice}
use Rattle.lotos_ast.specs.declared.behaviour.Offer.{Offer}
use Rattle.lotos_ast.specs.declared.behaviour.Operator.{Operator}
use Rattle.lotos_ast.specs.declared.declaration.Declaration.{Declaration}
use Rattle.lotos_ast.specs.declared.expression.Premiss.{Premiss}
use Rattle.lotos_ast.specs.declared.refusal.Refusal.{Refusal}
use Rattle.lotos_ast.specs.declared.token.Token.{Token}
use Rattle.static_constructs.specs.Constructs.{Construct, acts_inside, acts, asks, binds, chooses_values, chooses_gates, hides, copies}
use Rattle.spec_core.specs.Code as code
use Rattle.spec_core.specs.Code.{ActionField, inner, guarded, bound, hide}
use Rattle.spec_core.specs.Theories.{Premise}
use Rattle.sort_overloads.specs.Judged.{Adds}
use Rattle.static_equations.specs.Premisses.{IsPremissJudged}
use Rattle.static_equations.specs.Variables.{all_variables}
use Rattle.type_names.specs.DuplicateNames.{names_twice}
use Rattle.static_readings.specs.Calls.{AreBindingsRead, variable_of}
use Rattle.static_readings.specs.Declarations.{unknown_gate, unknown_gates, gate_numbers, declaration_refusals, declared_variables}
use Rattle.static_readings.specs.Joins.{Read}
use Rattle.static_readings.specs.Offers.{AreOffersRead, IsPredicateRead, offered_variables, offered_names}
use Rattle.static_readings.specs.Outputs.{Output}
use Rattle.static_readings.specs.Readings.{gates_of, synchronised, acting, under, chosen, copied, IsRead, acted_inside, acted, asked}
use Rattle.static_readings.specs.Readings.{bound_to_values, chosen_values, chosen_gates, hidden, copied_at, AreGatesChosen, none_left}
use Rattle.static_readings.specs.Sites.{Site, gate_number, next_gate, with_gates, with_variables, with_first}
use Rattle.static_readings.proofs.Scopes.{variables_left, gates_left, site_left}
use Rattle.static_compiler.specs.Frames.{Frame, value_layer, framed, layers, layers_if, action_if, copies_if}
use Rattle.static_compiler.specs.Parts.{IsMark, Opens, OpensChoices}
use Rattle.static_compiler.specs.Views.{frame_of}
use Rattle.static_compiler.specs.declared.opened.Opened.{Opened}
use Rattle.static_compiler.proofs.Rows.{one_framed, under_framed, values_framed, action_framed, copies_framed}

opened : (s : Site) (whole : Construct → Construct) (old now : Output) (inside : Site) (o : Opened) (ro : List Refusal) (f : Frame) → IsMark s old o.mark
    → frame_of o.frame ≡ f → now.code ≡ old.code → now.refusals ≡ old.refusals ++ ro → with_first inside (length s.context.variables) (length s.gates) ≡ s
    → ((part : Construct) (from : ℕ) (x : Option Read) (rs : List Refusal) → IsRead inside from part x rs → IsRead s from (whole part) (framed from f x) (ro ++ rs))
    → Opens s whole old now inside o
opened s whole old now inside o ro f m frame same refused left such = record {
  refusals = ro;
  code = same;
  refused = refused;
  from = m.from;
  left = ap (λ i. with_first inside i o.mark.gates) m.variables ∙ ap (λ j. with_first inside (length s.context.variables) j) m.gates ∙ left;
  such = λ part from x rs p. subst (λ g. IsRead s from (whole part) (framed from g x) (ro ++ rs)) (sym frame) (such part from x rs p);
}

pub inner_opens : (s : Site) (out : Output) (o : Opened) → IsMark s out o.mark → frame_of o.frame ≡ layers (inner ∷ []) → Opens s acts_inside out out s o
inner_opens s out o m frame =
    opened s acts_inside out out s o [] (layers (inner ∷ [])) m frame refl (sym (append-nil out.refusals)) (site_left s)
    (λ part from x rs p. subst (λ z. IsRead s from (acts_inside part) z rs) (sym (one_framed from inner x)) (acted_inside part x rs p))

pub guard_opens : (s : Site) (p : Premiss) (old now : Output) (o : Opened) (found : Option Premise) → IsMark s old o.mark
    → frame_of o.frame ≡ layers_if (option_map (λ q. guarded q ∷ []) found) → now.code ≡ old.code
    → Adds (IsPremissJudged s.context p found) old.refusals now.refusals → Opens s (asks p) old now s o
guard_opens s p old now o found m frame same j =
    opened s (asks p) old now s o j.refusals (layers_if (option_map (λ q. guarded q ∷ []) found)) m frame same j.behind (site_left s)
    (λ part from x rs r. subst (λ z. IsRead s from (asks p part) z (j.refusals ++ rs)) (sym (under_framed from guarded found x))
    (asked p part found x j.refusals rs j.such r))

-- the part stands in a site that is made of this one

left_by : (s inside z : Site) → inside ≡ z → with_first z (length s.context.variables) (length s.gates) ≡ s
    → with_first inside (length s.context.variables) (length s.gates) ≡ s
left_by s inside z is h = ap (λ y. with_first y (length s.context.variables) (length s.gates)) is ∙ h

-- what is refused of a construct: before, and then
joined_behind : (old now : List Refusal) (mid rs qs : List Refusal) → mid ≡ old ++ rs → now ≡ mid ++ qs → now ≡ old ++ (rs ++ qs)
joined_behind old now mid rs qs first second = second ∙ ap (λ z. z ++ qs) first ∙ append_assoc old rs qs

pub let_opens : (s : Site) (bs : List Binding) (old now : Output) (mid : List Refusal) (inside : Site) (o : Opened) (found : Option (List code.Binding)) → IsMark s old o.mark
    → frame_of o.frame ≡ layers_if (option_map (λ b. bound b ∷ []) found) → now.code ≡ old.code → mid ≡ old.refusals ++ names_twice (map (λ b. b.name) bs)
    → Adds (AreBindingsRead s bs found) mid now.refusals → inside ≡ with_variables s (map (variable_of s) bs) → Opens s (binds bs) old now inside o
let_opens s bs old now mid inside o found m frame same first j put =
    let twice = names_twice (map (λ b. b.name) bs) in
    opened s (binds bs) old now inside o (twice ++ j.refusals) (layers_if (option_map (λ b. bound b ∷ []) found)) m frame same
    (joined_behind old.refusals now.refusals mid twice j.refusals first j.behind)
    (left_by s inside (with_variables s (map (variable_of s) bs)) put (variables_left s (map (variable_of s) bs)))
    (λ part from x rs r.
    subst (λ z. IsRead s from (binds bs part) z ((twice ++ j.refusals) ++ rs)) (sym (under_framed from bound found x))
    (subst (λ z. IsRead s from (binds bs part) (under from bound found x) z) (sym (append_assoc twice j.refusals rs))
    (bound_to_values bs part found x j.refusals rs j.such (subst (λ z. IsRead z from part x rs) put r))))

pub values_opens : (s : Site) (ds : List Declaration) (old now : Output) (inside : Site) (o : Opened) → IsMark s old o.mark
    → frame_of o.frame ≡ layers_if (option_map (map value_layer) (declared_variables s ds)) → now.code ≡ old.code
    → now.refusals ≡ old.refusals ++ declaration_refusals s ds → inside ≡ with_variables s (all_variables s.context.sorts ds)
    → Opens s (chooses_values ds) old now inside o
values_opens s ds old now inside o m frame same refused put =
    let vs = all_variables s.context.sorts ds in
    opened s (chooses_values ds) old now inside o (declaration_refusals s ds) (layers_if (option_map (map value_layer) (declared_variables s ds))) m frame same refused
    (left_by s inside (with_variables s vs) put (variables_left s vs))
    (λ part from x rs r.
    subst (λ z. IsRead s from (chooses_values ds part) z (declaration_refusals s ds ++ rs)) (sym (values_framed from (declared_variables s ds) x))
    (chosen_values ds part x rs (subst (λ z. IsRead z from part x rs) put r)))

pub hide_opens : (s : Site) (gates : List Token) (old now : Output) (inside : Site) (o : Opened) → IsMark s old o.mark
    → frame_of o.frame ≡ layers (hide (range_with_len (next_gate s) (length gates)) ∷ []) → now.code ≡ old.code
    → now.refusals ≡ old.refusals ++ names_twice gates → inside ≡ with_gates s gates → Opens s (hides gates) old now inside o
hide_opens s gates old now inside o m frame same refused put =
    let make = hide (range_with_len (next_gate s) (length gates)) in
    opened s (hides gates) old now inside o (names_twice gates) (layers (make ∷ [])) m frame same refused
    (left_by s inside (with_gates s gates) put (gates_left s gates))
    (λ part from x rs r.
    subst (λ z. IsRead s from (hides gates part) z (names_twice gates ++ rs)) (sym (one_framed from make x))
    (hidden gates part x rs (subst (λ z. IsRead z from part x rs) put r)))

pub copies_opens : (s : Site) (gate : Token) (among : List Token) (operator : Operator) (old now : Output) (mid : List Refusal) (inside : Site) (o : Opened) → IsMark s old o.mark
    → frame_of o.frame ≡ copies_if (next_gate s) (synchronised s operator) (gate_numbers s among) → now.code ≡ old.code
    → mid ≡ old.refusals ++ unknown_gates s among → now.refusals ≡ mid ++ unknown_gates s (gates_of operator)
    → inside ≡ with_gates s (gate ∷ []) → Opens s (copies gate among operator) old now inside o
copies_opens s gate among operator old now mid inside o m frame same first second put =
    let ra = unknown_gates s among in
    let ro = unknown_gates s (gates_of operator) in
    opened s (copies gate among operator) old now inside o (ra ++ ro) (copies_if (next_gate s) (synchronised s operator) (gate_numbers s among)) m frame same
    (joined_behind old.refusals now.refusals mid ra ro first second)
    (left_by s inside (with_gates s (gate ∷ [])) put (gates_left s (gate ∷ [])))
    (λ part from x rs r.
    subst (λ z. IsRead s from (copies gate among operator part) z ((ra ++ ro) ++ rs))
    (sym (copies_framed from (next_gate s) (synchronised s operator) (gate_numbers s among) x))
    (subst (λ z. IsRead s from (copies gate among operator part) (copied from (next_gate s) (synchronised s operator) (gate_numbers s among) x) z)
    (sym (append_assoc ra ro rs))
    (copied_at gate among operator part x rs (subst (λ z. IsRead z from part x rs) put r))))

pub action_opens : (s : Site) (gate : Token) (offers : List Offer) (p : Option Premiss) (old now : Output) (first second third : List Refusal) (inside : Site) (o : Opened)
    (fields : Option (List (List ActionField))) (guard : Option (Option Premise)) → IsMark s old o.mark
    → frame_of o.frame ≡ action_if (gate_number s gate) fields guard → now.code ≡ old.code
    → first ≡ old.refusals ++ unknown_gate s gate → second ≡ first ++ names_twice (offered_names offers)
    → Adds (AreOffersRead s offers fields) second third → inside ≡ with_variables s (offered_variables s offers)
    → Adds (IsPredicateRead inside p guard) third now.refusals → Opens s (acts gate offers p) old now inside o
action_opens s gate offers p old now first second third inside o fields guard m frame same one two j put k =
    let rg = unknown_gate s gate in
    let rn = names_twice (offered_names offers) in
    let vs = offered_variables s offers in
    opened s (acts gate offers p) old now inside o (rg ++ (rn ++ (j.refusals ++ k.refusals))) (action_if (gate_number s gate) fields guard) m frame same
    (joined_behind old.refusals now.refusals first rg (rn ++ (j.refusals ++ k.refusals)) one
    (joined_behind first now.refusals second rn (j.refusals ++ k.refusals) two (joined_behind second now.refusals third j.refusals k.refusals j.behind k.behind)))
    (left_by s inside (with_variables s vs) put (variables_left s vs))
    (λ part from x rs r.
    subst (λ z. IsRead s from (acts gate offers p part) z ((rg ++ (rn ++ (j.refusals ++ k.refusals))) ++ rs))
    (sym (action_framed from (gate_number s gate) fields guard x))
    (subst (λ z. IsRead s from (acts gate offers p part) (acting from (gate_number s gate) fields guard x) z) (sym (regrouped rg rn j.refusals k.refusals rs))
    (acted gate offers p part fields guard x j.refusals k.refusals rs j.such
    (subst (λ z. IsPredicateRead z p guard k.refusals) put k.such) (subst (λ z. IsRead z from part x rs) put r))))
  where
    regrouped : (a b c d e : List Refusal) → (a ++ (b ++ (c ++ d))) ++ e ≡ a ++ (b ++ (c ++ (d ++ e)))
    regrouped a b c d e = simp append_assoc

pub gates_opens : (s : Site) (cs : List GateChoice) (old now : Output) (mid : List Refusal) (inside : Site) (o : Opened) (f : Frame) → IsMark s old o.mark
    → frame_of o.frame ≡ f → now.code ≡ old.code → mid ≡ old.refusals ++ names_twice (map (λ c. c.gate) cs)
    → Adds (OpensChoices s cs inside [] f) mid now.refusals → inside ≡ with_gates s (map (λ c. c.gate) cs) → Opens s (chooses_gates cs) old now inside o
gates_opens s cs old now mid inside o f m frame same first j put =
    let ts = map (λ c. c.gate) cs in
    let twice = names_twice ts in
    opened s (chooses_gates cs) old now inside o (twice ++ j.refusals) f m frame same
    (joined_behind old.refusals now.refusals mid twice j.refusals first j.behind)
    (left_by s inside (with_gates s ts) put (gates_left s ts))
    (λ part from x rs r.
    subst (λ z. IsRead s from (chooses_gates cs part) (framed from f x) z) (sym (append_assoc twice j.refusals rs))
    (chosen_gates cs part (framed from f x) (j.refusals ++ rs) (j.such part from x rs (none_left part x rs r))))
