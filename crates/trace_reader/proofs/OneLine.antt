-- No line ends inside the line of an entry or of an end.
use Rattle.std.proofs.Common.{ℕ, ◌≡◌, ◌<◌, ◌^◌, ◌==◌, ◌&&◌, Bool, true, false, not, List, [], ◌∷◌, ◌++◌, codes, decimal, Option, Some, None}
use Rattle.std.proofs.Common.{refl, sym, ap, subst, ◌∙◌, arith, flat_map, length, unwrap_or, if◌then◌else◌, append_assoc}
use Rattle.std.proofs.lemmas.Bool.{eqb-true}
use Rattle.std.proofs.lemmas.List.{append-nil}
use Rattle.std.specs.Char.{is_ascii_digit}
use Rattle.std.specs.List.{list_all, slice_get}
use Rattle.spec_core.specs.Code.{Program}
use Rattle.spec_core.specs.Lists.{Each}
use Rattle.spec_core.specs.Names.{IsIdentifier}
use Rattle.spec_core.specs.Ready.{AreNamed}
use Rattle.spec_core.specs.Sorts.{FitsData, FitsGround, HasSort, HaveSorts, OperationFits, no_variables}
use Rattle.spec_core.specs.Terms.{TermTree, TermTrees, variable, apply, no_terms, and_term, width}
use Rattle.spec_core.specs.TermText.{gap_before, head_name}
use Rattle.spec_core.specs.Theories.{Operation, Theory}
use Rattle.spec_core.proofs.Lists.{each_slice_get}
use Rattle.rule_model.specs.declared.action.Action.{Action}
use Rattle.rule_model.specs.declared.action.Action.TheVariants.{Inner, Exit, At}
use Rattle.rule_model.specs.declared.offer.Field.{Field}
use Rattle.rule_model.specs.declared.offer.Field.TheVariants.{Give, Take}
use Rattle.rule_model.specs.declared.reply.LimitKind.{LimitKind}
use Rattle.rule_model.specs.declared.reply.LimitKind.TheVariants.{Steps, Spread, Offers}
use Rattle.rule_model.specs.declared.rules.Slot.{Slot}
use Rattle.rule_model.specs.declared.rules.Slot.TheVariants.{Of, Mark, Blank}
use Rattle.rule_model.specs.Answers.{Answer, taken, deadlock, stalls, beyond, not_now, ended, spent, too_large, limit}
use Rattle.rule_model.specs.Derivations.{Derivation, pre, int, exiting, chl, chr, val, gate, guard, letting, parl, parr, both, hiding, pass}
use Rattle.rule_model.specs.Derivations.{enstep, enend, disstep, disend, distake, calling, rel}
use Rattle.rule_model.specs.Events.{OfferName, Event, pended, acted, replied, stalled, left, Ending, exits, deadlocked, waiting}
use Rattle.rule_model.specs.Events.{ends_beyond, ends_spent, ends_too_large, ends_at_limit}
use Rattle.trace_text.specs.Fits.{ActionFits, AnswerFits, ByFits, EndingFits, EventFits, FieldFits, IsClient, NameFits, SlotFits, TreeFits}
use Rattle.trace_text.specs.Names.{names_in}
use Rattle.trace_text.specs.Trace.{Names, action_text, answer_word, by_text, end_word, event_line, field_text, limit_word, name_text, offer_text}
use Rattle.trace_text.specs.Trace.{offer_word, slot_text, slots_text, tree_text, values_text}
use Rattle.value_text.specs.Bytes.{is_name_byte}
use Rattle.value_text.specs.Values.{IsGroundList, is_shared, name_at, value_text}
use Rattle.value_text.proofs.Names.{at_place, identifier_run, plain_run}
use Rattle.value_text.proofs.Operations.{of_sort}
use Rattle.value_text.proofs.OneTerm.{Form, plain, infixed, IsOver, over, text, suffix, gap, commas, constant_text, prefix_text, infix_text, first_sort, form_at}
use Rattle.value_text.proofs.OneValue.{value_is_term}
use Rattle.value_text.proofs.Runs.{IsRun, decimal_run}
use Rattle.trace_reader.specs.Lines.{IsOneLine, is_no_line_feed}

-- texts put together
pub joined : (x y : List ℕ) → IsOneLine x → IsOneLine y → IsOneLine (x ++ y)
joined [] y h k = k
joined (b ∷ x) y h k = (h.0, joined x y h.1 k)

pub all_so : (bs : List ℕ) → list_all is_no_line_feed bs ≡ true → IsOneLine bs
all_so [] h = tt
all_so (b ∷ bs) h = go (is_no_line_feed b) refl h (all_so bs)
  where
    go : (c : Bool) → is_no_line_feed b ≡ c → (c && list_all is_no_line_feed bs) ≡ true → (list_all is_no_line_feed bs ≡ true → IsOneLine bs) →
        IsOneLine (b ∷ bs)
    go true e k more = (e, more k)
    go false e k more = absurd (cc)

-- texts one after another
all_joined : {X : Type 0} (f : X → List ℕ) (P : X → Type 0) → ((x : X) → P x → IsOneLine (f x)) → (xs : List X) → Each P xs → IsOneLine (flat_map f xs)
all_joined f P one [] h = tt
all_joined f P one (x ∷ xs) h = joined (f x) (flat_map f xs) (one x h.0) (all_joined f P one xs h.1)

-- bytes of which LF is none
other_byte : (p : ℕ → Bool) → p 10 ≡ false → (b : ℕ) → p b ≡ true → is_no_line_feed b ≡ true
other_byte p none b h = go (b == 10) refl
  where
    go : (c : Bool) → (b == 10) ≡ c → not c ≡ true
    go true e = absurd (let wrong : true ≡ false = sym h ∙ ap p (eqb-true b 10 e) ∙ none in cc)
    go false e = refl

run_so : (p : ℕ → Bool) → p 10 ≡ false → (bs : List ℕ) → IsRun p bs → IsOneLine bs
run_so p none [] h = tt
run_so p none (b ∷ bs) h = (other_byte p none b h.0, run_so p none bs h.1)

pub number_so : (n : ℕ) → n < 2 ^ 64 → IsOneLine (decimal n)
number_so n h = run_so is_ascii_digit refl (decimal n) (decimal_run n h)

client_so : (n : ℕ) → IsClient n → IsOneLine (decimal n)
client_so n h = number_so n (let small : 64 < 2 ^ 64 = omega arith in omega (arith, h, small))

name_so : (name : OfferName) → NameFits name → IsOneLine (name_text name)
name_so name h =
    joined (decimal name.0 ++ codes ".") (decimal name.1) (joined (decimal name.0) (codes ".") (client_so name.0 h.0) (all_so (codes ".") refl))
    (number_so name.1 h.2)

pub by_so : (by : Option OfferName) → ByFits by → IsOneLine (by_text by)
by_so None h = tt
by_so (Some name) h = joined (codes " by ") (name_text name) (all_so (codes " by ") refl) (name_so name h)

limit_so : (kind : LimitKind) → IsOneLine (limit_word kind)
limit_so Steps = all_so (codes "limit steps") refl
limit_so Spread = all_so (codes "limit spread") refl
limit_so Offers = all_so (codes "limit offers") refl

-- an identifier of a list
named_so : (names : List (List ℕ)) (i : ℕ) → Each IsIdentifier names → i < length names → IsOneLine (name_at names i)
named_so names i h within =
    let k = at_place IsIdentifier names i h within in
    subst IsOneLine (sym (ap (λ o. unwrap_or o []) k.at)) (run_so is_name_byte refl k.item (identifier_run k.item k.holds))

module _ (program : Program) (fits : FitsData program.theory) (named : AreNamed program) where
  abbrev theory : Theory
  theory = program.theory

  abbrev names : Names
  names = names_in program

  -- before any text without an end of a line
  abbrev TermSo : TermTree → Type 0
  TermSo t = (a : ℕ) (r : List ℕ) → HasSort theory no_variables t a → IsOneLine r → IsOneLine (text theory t ++ r)

  abbrev TermsSo : TermTrees → Type 0
  TermsSo no_terms = Unit {0}
  TermsSo (and_term t ts) = TermSo t × TermsSo ts

  suffix_so : (f : ℕ) (d : Operation) (r : List ℕ) → slice_get theory.operations f ≡ Some d → IsOneLine r → IsOneLine (suffix theory d ++ r)
  suffix_so f d r at h = go (is_shared theory.operations d)
    where
      go : (b : Bool) → IsOneLine (of_sort theory.sorts b d.result ++ r)
      go true =
          joined (codes " of " ++ name_at theory.sorts d.result) r
          (joined (codes " of ") (name_at theory.sorts d.result) (all_so (codes " of ") refl)
          (named_so theory.sorts d.result named.sorts (each_slice_get (OperationFits theory) theory.operations f d fits.operations at).0)) h
      go false = h

  gap_so : (name r : List ℕ) → IsOneLine r → IsOneLine (gap_before name ++ r)
  gap_so [] r h = h
  gap_so (b ∷ bs) r h = go (b == 42)
    where
      go : (c : Bool) → IsOneLine ((if c then codes " " else []) ++ r)
      go true = (refl, h)
      go false = h

  commas_so : (ts : TermTrees) (x r : List ℕ) → TermsSo ts → HaveSorts theory no_variables ts x → IsOneLine r → IsOneLine (commas theory ts ++ r)
  commas_so no_terms x r so h k = (refl, k)
  commas_so (and_term t ts) [] r so h k = absurd h
  commas_so (and_term t ts) (a ∷ x) r so h k = (
    refl,
    subst IsOneLine (sym (append_assoc (text theory t) (commas theory ts) r)) (so.0 a (commas theory ts ++ r) h.0 (commas_so ts x r so.1 h.1 k)),
  )

  over_so : (f : ℕ) (ts : TermTrees) (k : IsOver theory f ts) → TermsSo ts → Form k.operation.name (width ts) → (r : List ℕ) → IsOneLine r →
      IsOneLine (text theory (apply f ts) ++ r)
  over_so f no_terms k so (plain p none) r h =
      subst IsOneLine (sym (constant_text theory f k.operation r k.at))
      (joined k.operation.name (suffix theory k.operation ++ r) (run_so is_name_byte refl k.operation.name (plain_run k.operation.name p))
      (suffix_so f k.operation r k.at h))
  over_so f (and_term t ts) k so (plain p none) r h =
      let s = first_sort theory fits named.operations t ts k.operation.args k.args in
      let behind : List ℕ = commas theory ts ++ (suffix theory k.operation ++ r) in
      subst IsOneLine (sym (prefix_text theory f k.operation t ts r k.at none))
      (joined k.operation.name (40 ∷ (gap theory t ++ (text theory t ++ behind))) (run_so is_name_byte refl k.operation.name (plain_run k.operation.name p)) (
        refl,
        gap_so (head_name theory.operations [] t) (text theory t ++ behind)
            (so.0 s.0 behind s.2 (commas_so ts s.1 (suffix theory k.operation ++ r) so.1 s.3 (suffix_so f k.operation r k.at h))),
      ))
  over_so f (and_term t (and_term u no_terms)) k so (infixed w p two some is) r h =
      let s = first_sort theory fits named.operations t (and_term u no_terms) k.operation.args k.args in
      let v = first_sort theory fits named.operations u no_terms s.1 s.3 in
      let last : List ℕ = 41 ∷ (suffix theory k.operation ++ r) in
      subst IsOneLine (sym (infix_text theory f k.operation w t u r k.at some)) (
        refl,
        gap_so (head_name theory.operations [] t) (text theory t ++ (32 ∷ (w ++ (32 ∷ (text theory u ++ last)))))
            (so.0 s.0 (32 ∷ (w ++ (32 ∷ (text theory u ++ last)))) s.2 (
              refl,
              joined w (32 ∷ (text theory u ++ last)) (run_so is_name_byte refl w (plain_run w p))
                  (refl, so.1.0 v.0 last v.2 (refl, suffix_so f k.operation r k.at h)),
            )),
      )
  over_so f no_terms k so (infixed w p two some is) r h = absurd (omega (arith, two))
  over_so f (and_term t no_terms) k so (infixed w p two some is) r h = absurd (omega (arith, two))
  over_so f (and_term t (and_term u (and_term v ts))) k so (infixed w p two some is) r h = absurd (omega (arith, two))

  mutual
    term_so : (t : TermTree) → TermSo t
    term_so (variable x) = λ a r h k. absurd (cc)
    term_so (apply f ts) = λ a r h k.
        let o = over theory f ts a h in over_so f ts o (terms_so ts) (form_at theory fits named.operations f ts o) r k

    terms_so : (ts : TermTrees) → TermsSo ts
    terms_so no_terms = tt
    terms_so (and_term t ts) = (term_so t, terms_so ts)

  ground_so : (t : TermTree) → FitsGround theory t → IsOneLine (names.term t)
  ground_so t h = subst IsOneLine (append-nil (names.term t)) (term_so t h.0 [] h.1 tt)

  value_so : (v : List ℕ) → IsGroundList theory v → IsOneLine (names.value v)
  value_so v h =
      subst IsOneLine (sym (ap (value_text theory) h.spelled ∙ value_is_term theory h.term h.fits.0 h.fits.1)) (ground_so h.term h.fits)

  field_so : (field : Field) → FieldFits program field → IsOneLine (field_text names field)
  field_so (Give v) h = joined (codes " !") (names.value v) (all_so (codes " !") refl) (value_so v h)
  field_so (Take sort) h = joined (codes " ?") (names.sort sort) (all_so (codes " ?") refl) (named_so theory.sorts sort.0 named.sorts h)

  values_so : (values : List (List ℕ)) → Each (IsGroundList theory) values → IsOneLine (values_text names values)
  values_so values h =
      all_joined (λ value. codes " !" ++ names.value value) (IsGroundList theory)
      (λ v k. joined (codes " !") (names.value v) (all_so (codes " !") refl) (value_so v k)) values h

  pub action_so : (action : Action) → ActionFits program action → IsOneLine (action_text names action)
  action_so Inner h = all_so (codes "i") refl
  action_so (Exit values) h = joined (codes "exit") (values_text names values) (all_so (codes "exit") refl) (values_so values h)
  action_so (At g values) h =
      joined (names.gate g) (values_text names values) (named_so program.gates g.0 named.gates h.0) (values_so values h.1)

  slot_so : (slot : Slot) → SlotFits program slot → IsOneLine (slot_text names slot)
  slot_so (Of v) h = value_so v h
  slot_so Mark h = all_so (codes "?") refl
  slot_so Blank h = absurd h

  slots_so : (slots : List Slot) → Each (SlotFits program) slots → IsOneLine (slots_text names slots)
  slots_so [] h = tt
  slots_so (x ∷ slots) h =
      joined (codes "[" ++ slot_text names x ++ flat_map (λ other. codes "," ++ slot_text names other) slots) (codes "]")
      (joined (codes "[" ++ slot_text names x) (flat_map (λ other. codes "," ++ slot_text names other) slots)
      (joined (codes "[") (slot_text names x) (all_so (codes "[") refl) (slot_so x h.0))
      (all_joined (λ other. codes "," ++ slot_text names other) (SlotFits program)
      (λ y k. joined (codes ",") (slot_text names y) (all_so (codes ",") refl) (slot_so y k)) slots h.1))
      (all_so (codes "]") refl)

  -- a part in brackets behind a word
  part_so : (w t : List ℕ) → list_all is_no_line_feed w ≡ true → IsOneLine t → IsOneLine (w ++ t ++ codes ")")
  part_so w t e h = joined (w ++ t) (codes ")") (joined w t (all_so w e) h) (all_so (codes ")") refl)

  pub tree_so : (d : Derivation) → TreeFits program d → IsOneLine (tree_text names d)
  tree_so (pre slots) h = joined (codes "pre") (slots_text names slots) (all_so (codes "pre") refl) (slots_so slots h)
  tree_so int h = all_so (codes "int") refl
  tree_so (exiting slots) h = joined (codes "exit") (slots_text names slots) (all_so (codes "exit") refl) (slots_so slots h)
  tree_so (chl d) h = part_so (codes "chl(") (tree_text names d) refl (tree_so d h)
  tree_so (chr d) h = part_so (codes "chr(") (tree_text names d) refl (tree_so d h)
  tree_so (val slot d) h =
      joined (codes "val" ++ slots_text names (slot ∷ []) ++ codes "(" ++ tree_text names d) (codes ")")
      (joined (codes "val" ++ slots_text names (slot ∷ []) ++ codes "(") (tree_text names d)
      (joined (codes "val" ++ slots_text names (slot ∷ [])) (codes "(")
      (joined (codes "val") (slots_text names (slot ∷ [])) (all_so (codes "val") refl) (slots_so (slot ∷ []) (h.0, tt))) (all_so (codes "(") refl))
      (tree_so d h.1))
      (all_so (codes ")") refl)
  tree_so (gate place d) h =
      joined (codes "gate[" ++ decimal place ++ codes "](" ++ tree_text names d) (codes ")")
      (joined (codes "gate[" ++ decimal place ++ codes "](") (tree_text names d)
      (joined (codes "gate[" ++ decimal place) (codes "](")
      (joined (codes "gate[") (decimal place) (all_so (codes "gate[") refl)
      (number_so place (let small : 2 ^ 32 < 2 ^ 64 = omega arith in let k = h.0 in omega (arith, k, small)))) (all_so (codes "](") refl))
      (tree_so d h.1))
      (all_so (codes ")") refl)
  tree_so (guard d) h = part_so (codes "guard(") (tree_text names d) refl (tree_so d h)
  tree_so (letting d) h = part_so (codes "let(") (tree_text names d) refl (tree_so d h)
  tree_so (parl d) h = part_so (codes "parl(") (tree_text names d) refl (tree_so d h)
  tree_so (parr d) h = part_so (codes "parr(") (tree_text names d) refl (tree_so d h)
  tree_so (both d e) h =
      joined (codes "both(" ++ tree_text names d ++ codes "," ++ tree_text names e) (codes ")")
      (joined (codes "both(" ++ tree_text names d ++ codes ",") (tree_text names e)
      (joined (codes "both(" ++ tree_text names d) (codes ",") (joined (codes "both(") (tree_text names d) (all_so (codes "both(") refl) (tree_so d h.0))
      (all_so (codes ",") refl))
      (tree_so e h.1))
      (all_so (codes ")") refl)
  tree_so (hiding d) h = part_so (codes "hide(") (tree_text names d) refl (tree_so d h)
  tree_so (pass d) h = part_so (codes "pass(") (tree_text names d) refl (tree_so d h)
  tree_so (enstep d) h = part_so (codes "enstep(") (tree_text names d) refl (tree_so d h)
  tree_so (enend d) h = part_so (codes "enend(") (tree_text names d) refl (tree_so d h)
  tree_so (disstep d) h = part_so (codes "disstep(") (tree_text names d) refl (tree_so d h)
  tree_so (disend d) h = part_so (codes "disend(") (tree_text names d) refl (tree_so d h)
  tree_so (distake d) h = part_so (codes "distake(") (tree_text names d) refl (tree_so d h)
  tree_so (calling d) h = part_so (codes "call(") (tree_text names d) refl (tree_so d h)
  tree_so (rel d) h = part_so (codes "rel(") (tree_text names d) refl (tree_so d h)

  answer_so : (answer : Answer) → AnswerFits program answer → IsOneLine (answer_word names answer)
  answer_so (taken at values) h = tt
  answer_so (deadlock at) h = all_so (codes "deadlock") refl
  answer_so (stalls at) h = tt
  answer_so (beyond at d) h = joined (codes "beyond ") (tree_text names d) (all_so (codes "beyond ") refl) (tree_so d h)
  answer_so (not_now at) h = all_so (codes "notnow") refl
  answer_so (ended at) h = all_so (codes "ended") refl
  answer_so (spent at t) h = joined (codes "spent ") (names.term t) (all_so (codes "spent ") refl) (ground_so t h)
  answer_so (too_large at t) h = joined (codes "large ") (names.term t) (all_so (codes "large ") refl) (ground_so t h)
  answer_so (limit at kind) h = limit_so kind

  offer_word_so : (ask : Bool) → IsOneLine (offer_word ask)
  offer_word_so true = all_so (codes "ask ") refl
  offer_word_so false = all_so (codes "pend ") refl

  pub event_so : (event : Event) → EventFits program event → IsOneLine (event_line names event)
  event_so (pended client number offer ask) h =
      joined (offer_word ask ++ name_text (client, number) ++ codes " ") (offer_text names offer)
      (joined (offer_word ask ++ name_text (client, number)) (codes " ")
      (joined (offer_word ask) (name_text (client, number)) (offer_word_so ask) (name_so (client, number) h.0)) (all_so (codes " ") refl))
      (joined (names.gate offer.gate) (flat_map (field_text names) offer.fields) (named_so program.gates offer.gate.0 named.gates h.1.0)
      (all_joined (field_text names) (FieldFits program) field_so offer.fields h.1.1))
  event_so (acted action d by) h =
      joined (codes "act " ++ action_text names action ++ by_text by ++ codes " rules ") (tree_text names d)
      (joined (codes "act " ++ action_text names action ++ by_text by) (codes " rules ")
      (joined (codes "act " ++ action_text names action) (by_text by)
      (joined (codes "act ") (action_text names action) (all_so (codes "act ") refl) (action_so action h.0)) (by_so by h.2))
      (all_so (codes " rules ") refl))
      (tree_so d h.1)
  event_so (replied client number answer) h =
      joined (codes "reply " ++ name_text (client, number) ++ codes " ") (answer_word names answer)
      (joined (codes "reply " ++ name_text (client, number)) (codes " ")
      (joined (codes "reply ") (name_text (client, number)) (all_so (codes "reply ") refl) (name_so (client, number) h.0)) (all_so (codes " ") refl))
      (answer_so answer h.1)
  event_so (stalled all) h =
      joined (codes "stall") (flat_map (λ name. codes " " ++ name_text name) all) (all_so (codes "stall") refl)
      (all_joined (λ name. codes " " ++ name_text name) NameFits
      (λ name k. joined (codes " ") (name_text name) (all_so (codes " ") refl) (name_so name k)) all h.1)
  event_so (left client) h = joined (codes "leave ") (decimal client) (all_so (codes "leave ") refl) (client_so client h)

  pub end_so : (ending : Ending) → EndingFits program ending → IsOneLine (codes "end " ++ end_word names ending)
  end_so exits h = all_so (codes "end exit") refl
  end_so deadlocked h = all_so (codes "end deadlock") refl
  end_so waiting h = all_so (codes "end waiting") refl
  end_so ends_beyond h = all_so (codes "end beyond") refl
  end_so (ends_spent t) h =
      joined (codes "end ") (codes "spent " ++ names.term t) (all_so (codes "end ") refl)
      (joined (codes "spent ") (names.term t) (all_so (codes "spent ") refl) (ground_so t h))
  end_so (ends_too_large t) h =
      joined (codes "end ") (codes "large " ++ names.term t) (all_so (codes "end ") refl)
      (joined (codes "large ") (names.term t) (all_so (codes "large ") refl) (ground_so t h))
  end_so (ends_at_limit kind) h = joined (codes "end ") (limit_word kind) (all_so (codes "end ") refl) (limit_so kind)
