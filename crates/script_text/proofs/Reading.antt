-- Lines, one after another.
use Rattle.std.proofs.Common.{ℕ, ◌≡◌, ◌+◌, List, [], ◌∷◌, ◌++◌, Option, length, refl, sym, subst, ap, ◌∙◌, append_assoc}
use Rattle.std.specs.Prelude.{option_to_list}
use Rattle.std.specs.Str.Lines.{lines}
use Rattle.std.proofs.lemmas.List.{append-nil, length_push}
use Rattle.lotos_ast.specs.declared.text_kind.TextKind.{TextKind}
use Rattle.sort_overloads.specs.Readings.{Context}
use Rattle.script_text.specs.Faults.{IsLineFault}
use Rattle.script_text.specs.Scripts.{LineSays, LinesSay, no_lines, more_lines, by_client, IsFirstFault}
use Rattle.script_text.specs.Wishes.{Wished, ClientWish}

-- the lines before the rest of a text say this, and are so many
pub record ReadSoFar (c : Context) (gates : List (List ℕ)) (text : List ℕ) (clients : List (List Wished)) (number : ℕ) (rest : List ℕ) :
    Type 0 where
  pub before : List (List ℕ)
  pub parts : lines text ≡ before ++ lines rest
  pub counted : number ≡ length before
  pub said : List ClientWish
  pub say : LinesSay c gates before said
  pub grouped : clients ≡ by_client said

one_line_more : {c : Context} {gates : List (List ℕ)} {texts : List (List ℕ)} {said : List ClientWish} (text : List ℕ) (x : Option ClientWish) →
    LinesSay c gates texts said → LineSays c gates text x → LinesSay c gates (texts ++ text ∷ []) (said ++ option_to_list x)
one_line_more text x no_lines h = more_lines x [] h no_lines (sym (append-nil (option_to_list x)))
one_line_more text x (more_lines y said k l e) h =
    more_lines y (said ++ option_to_list x) k (one_line_more text x l h)
    (ap (λ z. z ++ option_to_list x) e ∙ append_assoc (option_to_list y) said (option_to_list x))

pub read_begin : (c : Context) (gates : List (List ℕ)) (text : List ℕ) → ReadSoFar c gates text [] 0 text
read_begin c gates text = record { before = []; parts = refl; counted = refl; said = []; say = no_lines; grouped = refl }

pub read_next : (c : Context) (gates : List (List ℕ)) (text : List ℕ) (old new : List (List Wished)) (n m : ℕ) (rest line behind : List ℕ)
    (x : Option ClientWish) → ReadSoFar c gates text old n rest → lines rest ≡ line ∷ lines behind → LineSays c gates line x → m ≡ n + 1 →
    ((before : List ClientWish) → old ≡ by_client before → new ≡ by_client (before ++ option_to_list x)) →
    ReadSoFar c gates text new m behind
read_next c gates text old new n m rest line behind x r first says count grown = record {
  before = r.before ++ line ∷ [];
  parts = r.parts ∙ ap (λ z. r.before ++ z) first ∙ sym (append_assoc r.before (line ∷ []) (lines behind));
  counted = count ∙ ap (λ k. k + 1) r.counted ∙ sym (length_push r.before line);
  said = r.said ++ option_to_list x;
  say = one_line_more line x r.say says;
  grouped = grown r.said r.grouped;
}

pub read_finish : (c : Context) (gates : List (List ℕ)) (text : List ℕ) (clients : List (List Wished)) (n : ℕ) (rest : List ℕ) →
    ReadSoFar c gates text clients n rest → rest ≡ [] →
    (said : List ClientWish) × LinesSay c gates (lines text) said × (clients ≡ by_client said)
read_finish c gates text clients n rest r empty =
    let whole : lines text ≡ r.before = r.parts ∙ ap (λ z. r.before ++ lines z) empty ∙ append-nil r.before in
    (r.said, subst (λ z. LinesSay c gates z r.said) (sym whole) r.say, r.grouped)

pub read_stop : (c : Context) (gates : List (List ℕ)) (text : List ℕ) (clients : List (List Wished)) (n : ℕ) (rest line behind : List ℕ)
    (kind : TextKind) → ReadSoFar c gates text clients n rest → lines rest ≡ line ∷ lines behind → IsLineFault c gates line kind →
    IsFirstFault c gates (lines text) n kind
read_stop c gates text clients n rest line behind kind r first fault = record {
  before = r.before;
  text = line;
  behind = lines behind;
  parts = r.parts ∙ ap (λ z. r.before ++ z) first;
  counted = r.counted;
  said = r.said;
  say = r.say;
  fault = fault;
}

pub ruleset reading_steps = (read_begin, read_next, read_finish, read_stop)
