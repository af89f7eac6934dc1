-- A text spells one script or has one fault.
use Rattle.std.proofs.Common.{ℕ, suc, ◌≡◌, ◌+◌, ◌-◌, ◌≤◌, ◌<◌, List, [], ◌∷◌, ◌++◌, false, ◌||◌, Option, Some, None, inl, inr, length, refl, sym, subst, ap, ◌∙◌, arith}
use Rattle.std.specs.Prelude.{option_to_list, is_none}
use Rattle.std.specs.List.{list_any, position_or_len}
use Rattle.std.specs.Str.Lines.{lines}
use Rattle.std.proofs.lemmas.Bool.Decides.{nat_tests}
use Rattle.std.proofs.lemmas.Option.{same_Some}
use Rattle.lotos_ast.specs.declared.text_kind.TextKind.{TextKind}
use Rattle.spec_core.specs.Code.{Program}
use Rattle.spec_core.specs.Lists.{Each, OneOf}
use Rattle.spec_core.specs.Theories.{Theory}
use Rattle.spec_core.proofs.Options.{some_none}
use Rattle.spec_core.proofs.Lists.{each_implied}
use Rattle.sort_overloads.specs.Listed.{is_same_name}
use Rattle.sort_overloads.specs.Readings.{Context}
use Rattle.script_text.specs.Faults.{IsFaultOf, no_client, by_offer, IsLineFault, no_line, by_meaning}
use Rattle.script_text.specs.Laws.{OneScript, OneScriptFault, ScriptOrFault}
use Rattle.script_text.specs.Meanings.{context_in, first_named, has_unknown_sort, HasUnclearTerm, FieldMeans, FieldsMean, LineMeans}
use Rattle.script_text.specs.Numbers.{client_within, client_of, number_behind}
use Rattle.script_text.specs.Scripts.{LineSays, nothing_said, wish_said, LinesSay, no_lines, more_lines, by_client, SpellsScript, FieldFits, WishFits, too_long, at_line}
use Rattle.script_text.specs.Wishes.{WishedField, gives, takes, Wished, ClientWish}
use Rattle.script_text.specs.Written.{Field, given, taken, Line, IsLine, skipped, says, line_in}
use Rattle.script_text.proofs.Grouping.{few_clients, of_each}
use Rattle.script_text.proofs.OneOffer.{one_offer_meaning, offer_or_fault, one_offer_fault, offer_fits}
use Rattle.script_text.proofs.WholeTexts.{one_text}

-- a line says one thing
one_line : (text : List ℕ) (l m : Line) → IsLine text (Some l) → IsLine text (Some m) → l ≡ m
one_line text l m (says x _ h i e) (says y _ k j f) = same_Some _ _ (sym e ∙ ap line_in (one_text i j) ∙ f)

never_both : (text : List ℕ) (l : Line) → IsLine text None → IsLine text (Some l) → ⊥
never_both text l (skipped h) (says x _ k i e) = cc

-- and means one thing
same_client_wish : (x y : ClientWish) → x.client ≡ y.client → x.wish ≡ y.wish → x ≡ y
same_client_wish x y a b = ap (λ k. record { client = k; wish = x.wish }) a ∙ ap (λ w. record { client = y.client; wish = w }) b

one_meaning : (c : Context) (gates : List (List ℕ)) (l : Line) (x y : ClientWish) → LineMeans c gates l x → LineMeans c gates l y → x ≡ y
one_meaning c gates l x y h k =
    same_client_wish x y (same_Some _ _ (sym h.client ∙ k.client))
    (one_offer_meaning c gates l.gate l.fields x.wish y.wish (h.ask ∙ sym k.ask) h.offer k.offer)

one_saying : (c : Context) (gates : List (List ℕ)) (text : List ℕ) (x y : Option ClientWish) → LineSays c gates text x → LineSays c gates text y →
    x ≡ y
one_saying c gates text _ _ (nothing_said h) (nothing_said k) = refl
one_saying c gates text _ _ (nothing_said h) (wish_said m y k i) = absurd (never_both text m h k)
one_saying c gates text _ _ (wish_said l x h i) (nothing_said k) = absurd (never_both text l k h)
one_saying c gates text _ _ (wish_said l x h i) (wish_said m y k j) =
    ap Some (one_meaning c gates l x y i (subst (λ z. LineMeans c gates z y) (sym (one_line text l m h k)) j))

one_list_of_wishes : (c : Context) (gates : List (List ℕ)) (texts : List (List ℕ)) (said others : List ClientWish) → LinesSay c gates texts said →
    LinesSay c gates texts others → said ≡ others
one_list_of_wishes c gates [] _ _ no_lines no_lines = refl
one_list_of_wishes c gates (text ∷ texts) all more (more_lines x said h i e) (more_lines y others k j f) =
    e ∙ ap (λ z. option_to_list z ++ said) (one_saying c gates text x y h k)
    ∙ ap (λ z. option_to_list y ++ z) (one_list_of_wishes c gates texts said others i j) ∙ sym f

pub one_script : OneScript
one_script program text clients others h k =
    h.each_client
    ∙ ap by_client (one_list_of_wishes (context_in program.theory) program.gates (lines text) h.said k.said h.say k.say)
    ∙ sym k.each_client

-- what is wrong with what a line says is wrong with nothing that means something
meaning_or_fault : (c : Context) (gates : List (List ℕ)) (l : Line) (x : ClientWish) (kind : TextKind) → LineMeans c gates l x →
    IsFaultOf c gates l kind → ⊥
meaning_or_fault c gates l x _ h (no_client k) = some_none _ h.client k
meaning_or_fault c gates l x kind h (by_offer n i k) = offer_or_fault c gates l.gate l.fields x.wish kind h.offer k

saying_or_fault : (c : Context) (gates : List (List ℕ)) (text : List ℕ) (x : Option ClientWish) (kind : TextKind) → LineSays c gates text x →
    IsLineFault c gates text kind → ⊥
saying_or_fault c gates text _ _ (nothing_said h) (no_line k) = k.none None h
saying_or_fault c gates text _ _ (nothing_said h) (by_meaning m k i) = never_both text m h k
saying_or_fault c gates text _ _ (wish_said l x h i) (no_line k) = k.none (Some l) h
saying_or_fault c gates text _ kind (wish_said l x h i) (by_meaning m k j) =
    meaning_or_fault c gates l x kind i (subst (λ z. IsFaultOf c gates z kind) (sym (one_line text l m h k)) j)

one_fault_of : (c : Context) (gates : List (List ℕ)) (l : Line) (kind other : TextKind) → IsFaultOf c gates l kind → IsFaultOf c gates l other →
    kind ≡ other
one_fault_of c gates l _ _ (no_client h) (no_client k) = refl
one_fault_of c gates l _ _ (no_client h) (by_offer n i k) = absurd (some_none _ i h)
one_fault_of c gates l _ _ (by_offer n i h) (no_client k) = absurd (some_none _ i k)
one_fault_of c gates l kind other (by_offer n i h) (by_offer m j k) = one_offer_fault c gates l.gate l.fields kind other h k

one_line_fault : (c : Context) (gates : List (List ℕ)) (text : List ℕ) (kind other : TextKind) → IsLineFault c gates text kind →
    IsLineFault c gates text other → kind ≡ other
one_line_fault c gates text _ _ (no_line h) (no_line k) = refl
one_line_fault c gates text _ _ (no_line h) (by_meaning m k j) = absurd (h.none (Some m) k)
one_line_fault c gates text _ _ (by_meaning l h i) (no_line k) = absurd (k.none (Some l) h)
one_line_fault c gates text kind other (by_meaning l h i) (by_meaning m k j) =
    one_fault_of c gates l kind other i (subst (λ z. IsFaultOf c gates z other) (sym (one_line text l m h k)) j)

-- a line at fault stands among none that say something
faultless : (c : Context) (gates : List (List ℕ)) (before : List (List ℕ)) (text : List ℕ) (rest : List (List ℕ)) (said : List ClientWish)
    (kind : TextKind) → LinesSay c gates (before ++ text ∷ rest) said → IsLineFault c gates text kind → ⊥
faultless c gates [] text rest said kind (more_lines x others h i e) k = saying_or_fault c gates text x kind h k
faultless c gates (b ∷ before) text rest said kind (more_lines x others h i e) k = faultless c gates before text rest others kind i k

-- the first line at fault is one only
one_place : (c : Context) (gates : List (List ℕ)) (b d : List (List ℕ)) (t u : List ℕ) (r s : List (List ℕ)) (said others : List ClientWish)
    (kind other : TextKind) → b ++ t ∷ r ≡ d ++ u ∷ s → LinesSay c gates b said → LinesSay c gates d others → IsLineFault c gates t kind →
    IsLineFault c gates u other → (length b ≡ length d) × (kind ≡ other)
one_place c gates [] [] t u r s said others kind other e h k i j =
    let same : t ≡ u = cc in (refl, one_line_fault c gates t kind other i (subst (λ z. IsLineFault c gates z other) (sym same) j))
one_place c gates [] (v ∷ d) t u r s said others kind other e h (more_lines x more k l f) i j =
    let same : t ≡ v = cc in absurd (saying_or_fault c gates v x kind k (subst (λ z. IsLineFault c gates z kind) same i))
one_place c gates (v ∷ b) [] t u r s said others kind other e (more_lines x more h l f) k i j =
    let same : u ≡ v = cc in absurd (saying_or_fault c gates v x other h (subst (λ z. IsLineFault c gates z other) same j))
one_place c gates (v ∷ b) (w ∷ d) t u r s said others kind other e (more_lines x more h l f) (more_lines y most k m g) i j =
    let tails : b ++ t ∷ r ≡ d ++ u ∷ s = cc in
    let both = one_place c gates b d t u r s more most kind other tails l m i j in (ap suc both.0, both.1)

pub one_script_fault : OneScriptFault
one_script_fault program text _ _ _ _ (too_long h e f) (too_long k g i) = (e ∙ sym g, f ∙ sym i)
one_script_fault program text _ _ _ _ (too_long h a b) (at_line n k e f) = absurd (omega (arith, h, k))
one_script_fault program text _ _ _ _ (at_line n h e f) (too_long k a b) = absurd (omega (arith, h, k))
one_script_fault program text line other kind another (at_line n h e f) (at_line m k g i) =
    let both = one_place (context_in program.theory) program.gates f.before i.before f.text i.text f.behind i.behind f.said i.said kind another
    (sym f.parts ∙ i.parts) f.say i.say f.fault i.fault in
    (e ∙ ap (λ z. z + 1) (f.counted ∙ both.0 ∙ sym i.counted) ∙ sym g, both.1)

pub script_or_fault : ScriptOrFault
script_or_fault program text clients _ _ h (too_long k a b) = let s = h.short in absurd (omega (arith, s, k))
script_or_fault program text clients line kind h (at_line n k e f) =
    faultless (context_in program.theory) program.gates f.before f.text f.behind h.said kind
    (subst (λ z. LinesSay (context_in program.theory) program.gates z h.said) f.parts h.say) f.fault

-- what a script says fits the specification
within : (n k : ℕ) → client_within n ≡ Some k → k ≤ 64
within n k h = grind (arith, nat_tests)

client_few : (digits : List ℕ) (k : ℕ) → client_of digits ≡ Some k → k ≤ 64
client_few [] k h = absurd (cc)
client_few (d ∷ ds) k h = within (number_behind (d - 48) ds) k h

pub record Right (program : Program) (x : ClientWish) : Type 0 where
  pub few : x.client ≤ 64
  pub fits : WishFits program x.wish

each_right : (program : Program) (x : Option ClientWish) (said : List ClientWish) (text : List ℕ) →
    LineSays (context_in program.theory) program.gates text x → Each (Right program) said → Each (Right program) (option_to_list x ++ said)
each_right program _ said text (nothing_said h) k = k
each_right program _ said text (wish_said l x h i) k = (
  record {
    few = client_few l.client x.client i.client;
    fits = offer_fits program l.gate l.fields x.wish i.offer;
  },
  k,
)

all_right : (program : Program) (texts : List (List ℕ)) (said : List ClientWish) → LinesSay (context_in program.theory) program.gates texts said →
    Each (Right program) said
all_right program [] _ no_lines = tt
all_right program (text ∷ texts) all (more_lines x said h i e) =
    subst (Each (Right program)) (sym e) (each_right program x said text h (all_right program texts said i))

pub script_fits : (program : Program) (text : List ℕ) (clients : List (List Wished)) → SpellsScript program text clients →
    Each (Each (WishFits program)) clients
script_fits program text clients h =
    subst (Each (Each (WishFits program))) (sym h.each_client)
    (of_each (WishFits program) h.said (each_implied _ _ h.said (λ x r. r.fits) (all_right program (lines text) h.said h.say)))

pub script_few : (program : Program) (text : List ℕ) (clients : List (List Wished)) → SpellsScript program text clients → length clients ≤ 64
script_few program text clients h =
    subst (λ z. length z ≤ 64) (sym h.each_client) (few_clients h.said (each_implied _ _ h.said (λ x r. r.few) (all_right program (lines text) h.said h.say)))
