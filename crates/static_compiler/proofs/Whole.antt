-- Constructs whose parts are read are read.
use Rattle.std.proofs.Common.{ℕ, pred, ◌≡◌, ◌∙◌, ◌+◌, refl, sym, ap, subst, List, [], ◌∷◌, ◌++◌, length, append_assoc, append-nil, Option, Some, None, true, false}
use Rattle.std.specs.Prelude.{option_map, Result, Ok, Err, IfOk, OnOk}
use Rattle.std.proofs.lemmas.List.{length-append}
use Rattle.lotos_ast.specs.declared.behaviour.ExitValue.{ExitValue}
use Rattle.lotos_ast.specs.declared.behaviour.Operator.{Operator}
use Rattle.lotos_ast.specs.declared.declaration.Declaration.{Declaration}
use Rattle.lotos_ast.specs.declared.expression.Expr.{Expr}
use Rattle.lotos_ast.specs.declared.place.Place.{Place}
use Rattle.lotos_ast.specs.declared.refusal.Refusal.{Refusal}
use Rattle.lotos_ast.specs.declared.refusal.RefusalKind.TheVariants.{UnknownProcess, WrongCount}
use Rattle.lotos_ast.specs.declared.token.Token.{Token}
use Rattle.static_constructs.specs.Constructs.{Construct, stops, chooses, composes, enables, disables, calls}
use Rattle.static_constructs.specs.Constructs as written
use Rattle.spec_core.specs.Code as code
use Rattle.spec_core.specs.Code.{Node, Variable, Synchronised, stop}
use Rattle.spec_core.specs.Functionality.{Functionality, noexit}
use Rattle.spec_core.specs.Terms.{TermTree}
use Rattle.sort_overloads.specs.Judged.{Adds}
use Rattle.sort_overloads.specs.Refused.{refused}
use Rattle.static_equations.specs.Variables.{all_variables}
use Rattle.static_readings.specs.Calls.{IsCallRead, AreValuesRead, called, has_counts, unknown, miscounted, counted}
use Rattle.static_readings.specs.Declarations.{unknown_gates, gate_numbers, declaration_refusals, declared_variables}
use Rattle.static_readings.specs.Joins.{Read, after, single, disagreement, either}
use Rattle.static_readings.specs.Offers.{AreExitValuesRead}
use Rattle.static_readings.specs.Outputs.{Output, nodes_of, HasRead}
use Rattle.static_readings.specs.Readings.{ended, synchronised, gates_of, composed, composed_refusals, enabled, enabled_refusals}
use Rattle.static_readings.specs.Readings.{IsRead, stopped, exited, chosen_either, composed_with, enabled_by, disabled_by, called_with}
use Rattle.static_readings.specs.Sites.{Site, Heading, process_named, with_variables, with_first}
use Rattle.static_readings.proofs.Scopes.{variables_left}
use Rattle.static_compiler.specs.Frames.{Joining, in_choice, in_disabling, in_parallel, in_enabling, framed, joined_as, joining_refusals}
use Rattle.static_compiler.specs.Parts.{ends_of, Puts, Opens, OpensRight, Stands, IsPartRead, StandBoth, AreJoined}
use Rattle.static_compiler.specs.Views.{frame_of, joining_of}
use Rattle.static_compiler.specs.declared.opened.Opened.{Opened}
use Rattle.static_compiler.specs.declared.opened.OpenedRight.{OpenedRight}
use Rattle.static_compiler.specs.declared.read_part.ReadPart.{ReadPart}

-- where a call is answered

pub ok_with : {A E : Type 0} {P S : A → Type 0} {Q : Type 0} (r : Result A E) → ((x : A) → P x → Q → S x) → IfOk r P → OnOk r Q → IfOk r S
ok_with (Ok x) f p q = f x p q
ok_with (Err e) f p q = tt

pub ok_with_both : {A E : Type 0} {P S : A → Type 0} {Q R : Type 0} (r : Result A E) → ((x : A) → P x → Q → R → S x) → IfOk r P → OnOk r Q → OnOk r R → IfOk r S
ok_with_both (Ok x) f p q o = f x p q o
ok_with_both (Err e) f p q o = tt

-- the construct goes by another name
pub read_as : (s : Site) (k b : Construct) (old now : Output) (ends : Option Functionality) → k ≡ b → HasRead (λ from. IsRead s from b) old now ends
    → HasRead (λ from. IsRead s from k) old now ends
read_as s k b old now ends is h = record {
  read = h.read;
  refusals = h.refusals;
  such = subst (λ z. IsRead s (length old.code) z h.read h.refusals) (sym is) h.such;
  code = h.code;
  refused = h.refused;
  ends = h.ends;
}

-- constructs without parts

pub stop_read : (s : Site) (old now : Output) (ends : Option Functionality) → Puts (Some (single stop noexit)) old now ends
    → HasRead (λ from. IsRead s from stops) old now ends
stop_read s old now ends p = record {
  read = Some (single stop noexit);
  refusals = [];
  such = stopped;
  code = p.code;
  refused = p.refused ∙ sym (append-nil old.refusals);
  ends = p.found;
}

pub exit_read : (s : Site) (values : List ExitValue) (old mid now : Output) (found : Option (List (code.ExitValue × ℕ))) (ends : Option Functionality)
    → mid.code ≡ old.code → Adds (AreExitValuesRead s values found) old.refusals mid.refusals → Puts (option_map ended found) mid now ends
    → HasRead (λ from. IsRead s from (written.exits values)) old now ends
exit_read s values old mid now found ends same j p = record {
  read = option_map ended found;
  refusals = j.refusals;
  such = exited values found j.refusals j.such;
  code = p.code ∙ ap (λ c. c ++ nodes_of (option_map ended found)) same;
  refused = p.refused ∙ j.behind;
  ends = p.found;
}

pub miscounted_read : (s : Site) (name : Token) (gates : List Token) (es : List Expr) (h : Heading) (old now : Output) → has_counts h gates es ≡ false
    → now.code ≡ old.code → now.refusals ≡ old.refusals ++ refused WrongCount name.place [] ∷ []
    → HasRead (λ from. IsCallRead s name gates es (Some h)) old now None
miscounted_read s name gates es h old now wrong same refused_now = record {
  read = None;
  refusals = refused WrongCount name.place [] ∷ [];
  such = miscounted h wrong;
  code = same ∙ sym (append-nil old.code);
  refused = refused_now;
  ends = refl;
}

pub counted_read : (s : Site) (name : Token) (gates : List Token) (es : List Expr) (h : Heading) (old mid now : Output) (first : List Refusal)
    (numbers : Option (List ℕ)) (values : Option (List TermTree)) (ends : Option Functionality) → has_counts h gates es ≡ true → mid.code ≡ old.code
    → first ≡ old.refusals ++ unknown_gates s gates → numbers ≡ gate_numbers s gates → Adds (AreValuesRead s h.sorts es values) first mid.refusals
    → Puts (called h numbers values) mid now ends → HasRead (λ from. IsCallRead s name gates es (Some h)) old now ends
counted_read s name gates es h old mid now first numbers values ends right same one is j p =
    let x = called h numbers values in
    record {
      read = x;
      refusals = unknown_gates s gates ++ j.refusals;
      such = subst (λ z. IsCallRead s name gates es (Some h) (called h z values) (unknown_gates s gates ++ j.refusals)) (sym is) (counted h values j.refusals right j.such);
      code = p.code ∙ ap (λ c. c ++ nodes_of x) same;
      refused = p.refused ∙ j.behind ∙ ap (λ z. z ++ j.refusals) one ∙ append_assoc old.refusals (unknown_gates s gates) j.refusals;
      ends = p.found;
    }

pub unknown_read : (s : Site) (name : Token) (gates : List Token) (es : List Expr) (old now : Output) → None ≡ process_named s name
    → now.code ≡ old.code → now.refusals ≡ old.refusals ++ refused UnknownProcess name.place [] ∷ []
    → HasRead (λ from. IsRead s from (calls name gates es)) old now None
unknown_read s name gates es old now none same refused_now = record {
  read = None;
  refusals = refused UnknownProcess name.place [] ∷ [];
  such = called_with name gates es None (refused UnknownProcess name.place [] ∷ [])
      (subst (λ z. IsCallRead s name gates es z None (refused UnknownProcess name.place [] ∷ [])) none unknown);
  code = same ∙ sym (append-nil old.code);
  refused = refused_now;
  ends = refl;
}

pub call_read : (s : Site) (name : Token) (gates : List Token) (es : List Expr) (h : Heading) (old now : Output) (ends : Option Functionality)
    → Some h ≡ process_named s name → HasRead (λ from. IsCallRead s name gates es (Some h)) old now ends
    → HasRead (λ from. IsRead s from (calls name gates es)) old now ends
call_read s name gates es h old now ends is r = record {
  read = r.read;
  refusals = r.refusals;
  such = called_with name gates es r.read r.refusals (subst (λ z. IsCallRead s name gates es z r.read r.refusals) is r.such);
  code = r.code;
  refused = r.refused;
  ends = r.ends;
}

-- a construct over one part

pub inside_read : (s inside : Site) (whole : Construct → Construct) (part : Construct) (old before read now : Output) (o : Opened) (found ends : Option Functionality)
    → HasRead (λ from. IsRead inside from part) before read found
    → ((base : List Node) (x : Option Read) → o.mark.from ≡ length base → Stands base x read.code found → Stands base (framed o.mark.from (frame_of o.frame) x) now.code ends)
    → now.refusals ≡ read.refusals → Opens s whole old before inside o → HasRead (λ from. IsRead s from (whole part)) old now ends
inside_read s inside whole part old before read now o found ends r close same op =
    let x = r.read in
    let closed : Stands old.code (framed (length old.code) (frame_of o.frame) x) now.code ends =
    subst (λ n. Stands old.code (framed n (frame_of o.frame) x) now.code ends) op.from
    (close old.code x op.from (record { behind = r.code ∙ ap (λ c. c ++ nodes_of x) op.code; found = r.ends })) in
    record {
      read = framed (length old.code) (frame_of o.frame) x;
      refusals = op.refusals ++ r.refusals;
      such = op.such part (length old.code) x r.refusals (subst (λ c. IsRead inside (length c) part x r.refusals) op.code r.such);
      code = closed.behind;
      refused = same ∙ r.refused ∙ ap (λ z. z ++ r.refusals) op.refused ∙ append_assoc old.refusals op.refusals r.refusals;
      ends = closed.found;
    }

-- constructs over two parts

after_is : (base : List Node) (x : Option Read) → length (base ++ nodes_of x) ≡ after (length base) x
after_is base None = ap length (append-nil base)
after_is base (Some r) = length-append base r.nodes

-- both parts are read, the second from what stands behind the first
record Both (s : Site) (a : Construct) (t : Site) (b : Construct) (place : Place) (j : Option Joining) (o0 o1 m o2 o3 : Output) (ends : Option Functionality) : Type 0 where
  first : Option Read
  first_refusals : List Refusal
  second : Option Read
  second_refusals : List Refusal
  first_such : IsRead s (length o0.code) a first first_refusals
  second_such : IsRead t (after (length o0.code) first) b second second_refusals
  first_refused : o1.refusals ≡ o0.refusals ++ first_refusals
  second_refused : o2.refusals ≡ m.refusals ++ second_refusals
  joined : AreJoined o0.code place j first second o2 o3 ends

both : (s : Site) (a : Construct) (t : Site) (b : Construct) (place : Place) (j : Option Joining) (o0 o1 m o2 o3 : Output) (p q : ReadPart) (ends : Option Functionality)
    → IsPartRead s a o0 o1 p → m.code ≡ o1.code → IsPartRead t b m o2 q
    → ((base : List Node) (x y : Option Read) → StandBoth base x y o2.code p q → AreJoined base place j x y o2 o3 ends)
    → Both s a t b place j o0 o1 m o2 o3 ends
both s a t b place j o0 o1 m o2 o3 p q ends hp same hq join =
    let x = hp.read.read in
    let y = hq.read.read in
    let between : m.code ≡ o0.code ++ nodes_of x = same ∙ hp.read.code in
    record {
      first = x;
      first_refusals = hp.read.refusals;
      second = y;
      second_refusals = hq.read.refusals;
      first_such = hp.read.such;
      second_such = subst (λ n. IsRead t n b y hq.read.refusals) (ap length between ∙ after_is o0.code x) hq.read.such;
      first_refused = hp.read.refused;
      second_refused = hq.read.refused;
      joined = join o0.code x y (record {
        behind = hq.read.code ∙ ap (λ c. c ++ nodes_of y) between;
        from = hp.from;
        first = hp.last ∙ ap (λ c. pred (length c)) hp.read.code;
        second = hq.last;
        first_ends = hp.read.ends;
        second_ends = hq.read.ends;
      });
    }

-- the refusals of two parts, and what is refused behind them
refused_behind : (r0 r1 r2 r3 ra rb rj : List Refusal) → r1 ≡ r0 ++ ra → r2 ≡ r1 ++ rb → r3 ≡ r2 ++ rj → r3 ≡ r0 ++ ((ra ++ rb) ++ rj)
refused_behind r0 r1 r2 r3 ra rb rj one two three =
    three ∙ ap (λ z. z ++ rj) (two ∙ ap (λ z. z ++ rb) one ∙ append_assoc r0 ra rb) ∙ append_assoc r0 (ra ++ rb) rj

-- two parts of which no more is refused than that they may not stand together
joined_read : (whole : Construct) (j : Joining) (s : Site) (place : Place) (a b : Construct) (o0 o1 o2 o3 : Output) (p q : ReadPart) (ends : Option Functionality)
    → ((x y : Option Read) (ra rb : List Refusal) → IsRead s (length o0.code) a x ra → IsRead s (after (length o0.code) x) b y rb →
    IsRead s (length o0.code) whole (joined_as (length o0.code) (Some j) x y) ((ra ++ rb) ++ joining_refusals place (Some j) x y))
    → IsPartRead s a o0 o1 p → IsPartRead s b o1 o2 q
    → ((base : List Node) (x y : Option Read) → StandBoth base x y o2.code p q → AreJoined base place (Some j) x y o2 o3 ends)
    → HasRead (λ from. IsRead s from whole) o0 o3 ends
joined_read whole j s place a b o0 o1 o2 o3 p q ends such hp hq join =
    let h = both s a s b place (Some j) o0 o1 o1 o2 o3 p q ends hp refl hq join in
    let rj = joining_refusals place (Some j) h.first h.second in
    record {
      read = joined_as (length o0.code) (Some j) h.first h.second;
      refusals = (h.first_refusals ++ h.second_refusals) ++ rj;
      such = such h.first h.second h.first_refusals h.second_refusals h.first_such h.second_such;
      code = h.joined.stands.behind;
      refused = refused_behind o0.refusals o1.refusals o2.refusals o3.refusals h.first_refusals h.second_refusals rj h.first_refused h.second_refused h.joined.refused;
      ends = h.joined.stands.found;
    }

pub choice_read : (s : Site) (place : Place) (a b : Construct) (o0 o1 o2 o3 : Output) (p q : ReadPart) (ends : Option Functionality)
    → IsPartRead s a o0 o1 p → IsPartRead s b o1 o2 q
    → ((base : List Node) (x y : Option Read) → StandBoth base x y o2.code p q → AreJoined base place (Some in_choice) x y o2 o3 ends)
    → HasRead (λ from. IsRead s from (chooses place a b)) o0 o3 ends
choice_read s place a b o0 o1 o2 o3 p q ends =
    joined_read (chooses place a b) in_choice s place a b o0 o1 o2 o3 p q ends
    (λ x y ra rb first second. chosen_either place a b x y ra rb first second)

pub disable_read : (s : Site) (place : Place) (a b : Construct) (o0 o1 o2 o3 : Output) (p q : ReadPart) (ends : Option Functionality)
    → IsPartRead s a o0 o1 p → IsPartRead s b o1 o2 q
    → ((base : List Node) (x y : Option Read) → StandBoth base x y o2.code p q → AreJoined base place (Some in_disabling) x y o2 o3 ends)
    → HasRead (λ from. IsRead s from (disables place a b)) o0 o3 ends
disable_read s place a b o0 o1 o2 o3 p q ends =
    joined_read (disables place a b) in_disabling s place a b o0 o1 o2 o3 p q ends
    (λ x y ra rb first second. disabled_by place a b x y ra rb first second)

composed_as : (from : ℕ) (gates : Option Synchronised) (x y : Option Read) → joined_as from (option_map in_parallel gates) x y ≡ composed from gates x y
composed_as from None x y = refl
composed_as from (Some gates) x y = refl

composed_refused : (place : Place) (gates : Option Synchronised) (x y : Option Read)
    → joining_refusals place (option_map in_parallel gates) x y ≡ composed_refusals place gates x y
composed_refused place None x y = refl
composed_refused place (Some gates) x y = refl

pub parallel_read : (s : Site) (place : Place) (operator : Operator) (a b : Construct) (old o0 o1 o2 o3 : Output) (j : Option Joining) (p q : ReadPart) (ends : Option Functionality)
    → j ≡ option_map in_parallel (synchronised s operator) → o0.code ≡ old.code → o0.refusals ≡ old.refusals ++ unknown_gates s (gates_of operator)
    → IsPartRead s a o0 o1 p → IsPartRead s b o1 o2 q
    → ((base : List Node) (x y : Option Read) → StandBoth base x y o2.code p q → AreJoined base place j x y o2 o3 ends)
    → HasRead (λ from. IsRead s from (composes place operator a b)) old o3 ends
parallel_read s place operator a b old o0 o1 o2 o3 j p q ends is same unknown_first hp hq join =
    let h = both s a s b place j o0 o1 o1 o2 o3 p q ends hp refl hq join in
    let gates = synchronised s operator in
    let ro = unknown_gates s (gates_of operator) in
    let rj = composed_refusals place gates h.first h.second in
    let read-is : joined_as (length o0.code) j h.first h.second ≡ composed (length old.code) gates h.first h.second =
    ap (λ z. joined_as (length o0.code) z h.first h.second) is ∙ composed_as (length o0.code) gates h.first h.second
    ∙ ap (λ c. composed (length c) gates h.first h.second) same in
    record {
      read = composed (length old.code) gates h.first h.second;
      refusals = ro ++ ((h.first_refusals ++ h.second_refusals) ++ rj);
      such = composed_with place operator a b h.first h.second h.first_refusals h.second_refusals
          (subst (λ c. IsRead s (length c) a h.first h.first_refusals) same h.first_such)
          (subst (λ c. IsRead s (after (length c) h.first) b h.second h.second_refusals) same h.second_such);
      code = h.joined.stands.behind ∙ ap (λ c. c ++ nodes_of (joined_as (length o0.code) j h.first h.second)) same ∙ ap (λ r. old.code ++ nodes_of r) read-is;
      refused =
          refused_behind o0.refusals o1.refusals o2.refusals o3.refusals h.first_refusals h.second_refusals rj h.first_refused h.second_refused
          (h.joined.refused ∙ ap (λ z. o2.refusals ++ z) (ap (λ z. joining_refusals place z h.first h.second) is ∙ composed_refused place gates h.first h.second))
          ∙ ap (λ z. z ++ ((h.first_refusals ++ h.second_refusals) ++ rj)) unknown_first
          ∙ append_assoc old.refusals ro ((h.first_refusals ++ h.second_refusals) ++ rj);
      ends = h.joined.stands.found ∙ ap ends_of read-is;
    }

enabled_as : (from : ℕ) (xs : Option (List Variable)) (x y : Option Read) → joined_as from (option_map in_enabling xs) x y ≡ enabled from xs x y
enabled_as from None x y = refl
enabled_as from (Some xs) x y = refl

enabled_refused : (place : Place) (xs : Option (List Variable)) (x y : Option Read)
    → joining_refusals place (option_map in_enabling xs) x y ≡ enabled_refusals place xs x y
enabled_refused place None x y = refl
enabled_refused place (Some xs) x y = refl

pub enable_read : (s : Site) (place : Place) (a : Construct) (ds : List Declaration) (b : Construct) (o0 o1 m o2 o3 : Output) (inside : Site) (o : OpenedRight) (p q : ReadPart)
    (ends : Option Functionality) → IsPartRead s a o0 o1 p → OpensRight s ds o1 m inside o → IsPartRead inside b m o2 q
    → ((base : List Node) (x y : Option Read) → StandBoth base x y o2.code p q → AreJoined base place (option_map joining_of o.joining) x y o2 o3 ends)
    → HasRead (λ from. IsRead s from (enables place a ds b)) o0 o3 ends
enable_read s place a ds b o0 o1 m o2 o3 inside o p q ends hp op hq join =
    let j = option_map joining_of o.joining in
    let h = both s a inside b place j o0 o1 m o2 o3 p q ends hp op.code hq join in
    let xs = declared_variables s ds in
    let rd = declaration_refusals s ds in
    let rj = enabled_refusals place xs h.first h.second in
    let read-is : joined_as (length o0.code) j h.first h.second ≡ enabled (length o0.code) xs h.first h.second =
    ap (λ z. joined_as (length o0.code) z h.first h.second) op.joining ∙ enabled_as (length o0.code) xs h.first h.second in
    record {
      read = enabled (length o0.code) xs h.first h.second;
      refusals = h.first_refusals ++ (rd ++ (h.second_refusals ++ rj));
      such = enabled_by place a ds b h.first h.second h.first_refusals h.second_refusals h.first_such
          (subst (λ z. IsRead z (after (length o0.code) h.first) b h.second h.second_refusals) op.put h.second_such);
      code = h.joined.stands.behind ∙ ap (λ r. o0.code ++ nodes_of r) read-is;
      refused =
          h.joined.refused ∙ ap (λ z. o2.refusals ++ z) (ap (λ z. joining_refusals place z h.first h.second) op.joining ∙ enabled_refused place xs h.first h.second)
          ∙ ap (λ z. z ++ rj) (h.second_refused ∙ ap (λ z. z ++ h.second_refusals) (op.refused ∙ ap (λ z. z ++ rd) h.first_refused))
          ∙ regrouped o0.refusals h.first_refusals rd h.second_refusals rj;
      ends = h.joined.stands.found ∙ ap ends_of read-is;
    }
  where
    regrouped : (r a d c e : List Refusal) → (((r ++ a) ++ d) ++ c) ++ e ≡ r ++ (a ++ (d ++ (c ++ e)))
    regrouped r a d c e = simp append_assoc

-- the site is found again behind an enabling
pub right_left : (s : Site) (ds : List Declaration) (old now : Output) (inside then : Site) (o : OpenedRight) → OpensRight s ds old now inside o
    → then ≡ with_first inside o.mark.variables o.mark.gates → then ≡ s
right_left s ds old now inside then o op left =
    left ∙ ap (λ i. with_first inside i o.mark.gates) op.variables ∙ ap (λ j. with_first inside (length s.context.variables) j) op.gates
    ∙ ap (λ z. with_first z (length s.context.variables) (length s.gates)) op.put
    ∙ variables_left s (all_variables s.context.sorts ds)
