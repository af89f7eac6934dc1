-- What `clap` holds while it reads words: a row of a name that no option has is never without a value.
use Rattle.std.proofs.Common.{ℕ, zero, suc, ◌≡◌, ◌<◌, ◌&&◌, ◌∙◌, refl, sym, subst, arith, List, [], ◌∷◌, ◌++◌, length, drop, Bool, true, false, not, cond, Option, Some, None, is_some, find, fold}
use Rattle.std.specs.Prelude.{if◌then◌else◌, slice_get, encode_utf8}
use Rattle.std.specs.Str.{bytes_eq, chars}
use Rattle.std.proofs.lemmas.Slice.Eq.{bytes_eq-Decides}
use Rattle.clap.specs.Lexer.{long_of, short_of}
use Rattle.clap.specs.Walk.{Held, Names, Outcome, Row, Rule, Step, Text, Waiting, Walk}
use Rattle.clap.specs.Walk.{done, waits, plain, refused, idle, option, positional, next, trailing, subcommand, value}
use Rattle.clap.specs.Walk.{action_of, after_flag, after_step, arg_by_id, arg_by_index, arg_by_long, arg_by_short, at_row, attached_value}
use Rattle.clap.specs.Walk.{bundle, bundle_met, bundle_step, default_rows, finished, flag_met, has_long, has_row, has_short, is_pending, long_met}
use Rattle.clap.specs.Walk.{long_or_other, more_values, option_met, option_word, plain_word, pushed, reacted, reading_by}
use Rattle.clap.specs.Walk.{settled, settled_rows, short_met, short_or_plain, started, subcommand_met, subcommand_or_other, takes_several}
use Rattle.clap.specs.Walk.{takes_values, to_positional, used, used_as, used_by_id, values_or_missing, walk, walk_from, walked, walked_from}
use Rattle.clap.specs.Walk.{with_default, without, word_met, nothing_held}
use Rattle.clap.specs.declared.builder.action.ArgAction.TheVariants.{Set}
use Rattle.clap.specs.declared.parser.matches.ValueSource.TheVariants.{DefaultValue, CommandLine}
use Rattle.clap.specs.declared.builder.value_parser.Reading.{Reading}
use Rattle.spec_core.specs.Lists.{Each}
use Rattle.spec_core.proofs.Lists.{each_append}

by_test : {A : Type 0} (P : A → Type 0) (b : Bool) (x y : A) → (b ≡ true → P x) → (b ≡ false → P y) → P (if b then x else y)
by_test P true x y h k = h refl
by_test P false x y h k = k refl

-- what is found passes the test
pub found : {A : Type 0} (P : A → Type 0) (test : A → Bool) (xs : List A) → Each P xs → (x : A) → find test xs ≡ Some x → P x × (test x ≡ true)
found P test [] h x e = let never : ⊥ = cc in absurd never
found {A} P test (y ∷ ys) h x e = go (test y) refl e (found P test ys h.1 x)
  where
    go : (b : Bool) → test y ≡ b → cond b (Some y) (find test ys) ≡ Some x → (find test ys ≡ Some x → P x × (test x ≡ true)) →
        P x × (test x ≡ true)
    go true t f later = let same : y ≡ x = cc in (subst P same h.0, subst (λ z. test z ≡ true) same t)
    go false t f later = later f

more_than_none : {A : Type 0} (xs ys : List A) → 0 < length xs → 0 < length (xs ++ ys)
more_than_none [] ys h = absurd (omega arith)
more_than_none (x ∷ xs) ys h = omega arith

one_more : {A : Type 0} (xs : List A) (y : A) → 0 < length (xs ++ y ∷ [])
one_more [] y = omega arith
one_more (x ∷ xs) y = omega arith

none_missing : (a : Rule) (values : List Text) → 0 < length values → 0 < length (values_or_missing a values)
none_missing a [] h = absurd (omega arith)
none_missing a (v ∷ vs) h = h

each_at_row : (P : Row → Type 0) (name : Text) (change : Row → List Row) (missing : List Row) → ((r : Row) → P r → Each P (change r)) →
    Each P missing → (rows : List Row) → Each P rows → Each P (at_row name change missing rows)
each_at_row P name change missing changed fresh [] h = fresh
each_at_row P name change missing changed fresh (r ∷ rs) h =
    by_test (Each P) (bytes_eq r.id name) (change r ++ rs) (r ∷ at_row name change missing rs)
    (λ e. each_append P (change r) rs (changed r h.0) h.1)
    (λ e. (h.0, each_at_row P name change missing changed fresh rs h.1))

left_not : (b c : Bool) → (not b && c) ≡ true → b ≡ false
left_not true c e = let never : ⊥ = cc in absurd never
left_not false c e = refl

module _ (rules : List Rule) (id : Text) where
  -- a row of this name has a value
  abbrev pub IsFilled : Row → Type 0
  IsFilled r = bytes_eq r.id id ≡ true → 0 < length r.values

  -- each use of the argument stands in place of the one before, and one of this name is no option
  abbrev pub IsSet : Rule → Type 0
  IsSet a = (action_of a ≡ Set) × (bytes_eq a.id id ≡ true → is_some a.index ≡ true)

  abbrev IsOption : Rule → Type 0
  IsOption a = IsSet a × (bytes_eq a.id id ≡ true → ⊥)

  -- an argument of this name whose values are being read has one
  abbrev IsWaiting : Option (Text × List Text) → Type 0
  IsWaiting None = Unit {0}
  IsWaiting (Some p) = bytes_eq p.0 id ≡ true → 0 < length p.1

  abbrev IsKept : Held → Type 0
  IsKept h = Each IsFilled h.rows × IsWaiting h.pending

  put : (a : Rule) (values : List Text) (rows : List Row) → IsSet a → (bytes_eq a.id id ≡ true → 0 < length values) → Each IsFilled rows →
      Each IsFilled (used a values rows)
  put a values rows set some h =
      let given = values_or_missing a values in
      let fresh : Row = record { id = a.id; values = given; count = None; source = Some CommandLine; reading = reading_by a } in
      subst (λ action. Each IsFilled (used_as action a.id (reading_by a) given rows)) (sym set.0)
      (each_at_row IsFilled a.id (more_values CommandLine given) (fresh ∷ [])
      (λ r f. ((λ e. more_than_none r.values given (f e)), tt))
      ((λ e. none_missing a values (some e)), tt)
      (without a.id rows) (each_at_row IsFilled a.id (λ r. []) [] (λ r f. tt) tt rows h))

  put_default : (name : Text) (how : Reading) (values : List Text) (rows : List Row) → Each IsFilled rows →
      Each IsFilled (default_rows name how values rows)
  put_default name how [] rows h = h
  put_default name how (v ∷ vs) rows h =
      let fresh : Row = record { id = name; values = v ∷ vs; count = None; source = Some DefaultValue; reading = how } in
      each_at_row IsFilled name (more_values DefaultValue (v ∷ vs)) (fresh ∷ [])
      (λ r f. ((λ e. more_than_none r.values (v ∷ vs) (f e)), tt)) ((λ e. omega arith), tt) rows h

  put_defaults : (missing : List Rule) (rows : List Row) → Each IsFilled rows → Each IsFilled (fold with_default rows missing)
  put_defaults [] rows h = h
  put_defaults (a ∷ more) rows h =
      put_defaults more (with_default rows a)
      (by_test (Each IsFilled) (has_row a.id rows) rows (default_rows a.id (reading_by a) a.defaults rows) (λ e. h)
      (λ e. put_default a.id (reading_by a) a.defaults rows h))

  module _ (set : Each IsSet rules) where
    put_by_id : (o : Option Rule) (p : Text × List Text) (rows : List Row) →
        ((a : Rule) → o ≡ Some a → IsSet a × (bytes_eq a.id p.0 ≡ true)) → IsWaiting (Some p) → Each IsFilled rows →
        Each IsFilled (used_by_id o p.1 rows)
    put_by_id None p rows known some h = h
    put_by_id (Some a) p rows known some h =
        let k = known a refl in
        let same : a.id ≡ p.0 = (bytes_eq-Decides a.id p.0).0 k.1 in
        put a p.1 rows k.0 (λ e. some (subst (λ name. bytes_eq name id ≡ true) same e)) h

    settle_rows : (p : Option (Text × List Text)) (rows : List Row) → IsWaiting p → Each IsFilled rows → Each IsFilled (settled_rows rules p rows)
    settle_rows None rows some h = h
    settle_rows (Some p) rows some h =
        put_by_id (arg_by_id rules p.0) p rows (found IsSet (λ a. bytes_eq a.id p.0) rules set) some h

    pub settle : (h : Held) → IsKept h → IsKept (settled rules h)
    settle h k = (settle_rows h.pending h.rows k.1 k.0, tt)

    react : (a : Rule) (values : List Text) (h : Held) → IsOption a → IsKept h → IsKept (reacted rules a values h)
    react a values h o k = (put a values (settled rules h).rows o.0 (λ e. absurd (o.1 e)) (settle h k).0, tt)

    -- options

    is_option : (a : Rule) → IsSet a → is_some a.index ≡ false → IsOption a
    is_option a s without_place = (s, λ e. let never : true ≡ false = sym (s.1 e) ∙ without_place in cc)

    long_option : (name : Text) (a : Rule) → arg_by_long rules name ≡ Some a → IsOption a
    long_option name a e =
        let k = found IsSet (λ b. not (is_some b.index) && has_long b name) rules set a e in
        is_option a k.0 (left_not (is_some a.index) (has_long a name) k.1)

    short_option : (x : ℕ) (a : Rule) → arg_by_short rules x ≡ Some a → IsOption a
    short_option x a e =
        let k = found IsSet (λ b. not (is_some b.index) && has_short b x) rules set a e in
        is_option a k.0 (left_not (is_some a.index) (has_short a x) k.1)

    met_option : (a : Rule) (v : Option Text) (h : Held) → IsOption a → IsKept h → IsKept (option_met rules a v h).0
    met_option a (Some v) h o k = react a (v ∷ []) h o k
    met_option a None h o k = ((settle h k).0, λ e. absurd (o.1 e))

    met_flag : (a : Rule) (v : Option Text) (h : Held) → IsOption a → IsKept h → IsKept (flag_met rules a v h).0
    met_flag a (Some v) h o k = k
    met_flag a None h o k = react a [] h o k

    met_long : (o : Option Rule) (v : Option Text) (h : Held) → ((a : Rule) → o ≡ Some a → IsOption a) → IsKept h →
        IsKept (long_met rules o v h).0
    met_long None v h known k = k
    met_long (Some a) v h known k =
        by_test (λ (m : Held × Outcome). IsKept m.0) (takes_values a) (option_met rules a v h) (flag_met rules a v h)
        (λ e. met_option a v h (known a refl) k) (λ e. met_flag a v h (known a refl) k)

    met_short : (o : Option Rule) (rest : Text) (h : Held) (after : Held → Held × Outcome) → ((a : Rule) → o ≡ Some a → IsOption a) →
        ((g : Held) → IsKept g → IsKept (after g).0) → IsKept h → IsKept (short_met rules o rest h after).0
    met_short None rest h after known goes k = k
    met_short (Some a) rest h after known goes k =
        by_test (λ (m : Held × Outcome). IsKept m.0) (takes_values a) (option_met rules a (attached_value rest) h) (after (reacted rules a [] h))
        (λ e. met_option a (attached_value rest) h (known a refl) k)
        (λ e. goes (reacted rules a [] h) (react a [] h (known a refl) k))

    met_first : (x : Option ℕ) (flags : Text) (skip : ℕ) (so_far : Outcome) (h : Held) (after : Text → ℕ → Outcome → Held → Held × Outcome) →
        ((rest : Text) (s : ℕ) (o : Outcome) (g : Held) → IsKept g → IsKept (after rest s o g).0) → IsKept h →
        IsKept (bundle_step rules x flags skip so_far h after).0
    met_first None flags skip so_far h after goes k = k
    met_first (Some x) flags zero so_far h after goes k =
        let rest = drop (length (encode_utf8 x)) flags in
        met_short (arg_by_short rules x) rest h (after rest 0 done) (short_option x) (goes rest 0 done) k
    met_first (Some x) flags (suc skip) so_far h after goes k = goes (drop (length (encode_utf8 x)) flags) skip so_far h k

    met_bundle : (n : ℕ) (flags : Text) (skip : ℕ) (so_far : Outcome) (h : Held) → IsKept h → IsKept (bundle_met rules n flags skip so_far h).0
    unfolding bundle_met
    met_bundle zero flags skip so_far h k = k
    met_bundle (suc n) flags skip so_far h k =
        met_first (slice_get (chars flags) 0) flags skip so_far h (bundle_met rules n) (met_bundle n) k

    -- words

    push : (name word : Text) (h : Held) → Each IsFilled h.rows → IsKept (pushed name word h)
    push name word h k = (k, λ e. one_more (started name h.pending).1 word)

    pushed_option : (o : Option Rule) (name word : Text) (h : Held) → IsKept h → IsKept (option_word o name word h).0
    pushed_option None name word h k = k
    pushed_option (Some a) name word h k = push name word h k.0

    met_plain : (w : Waiting) (word : Text) (h : Held) → IsKept h → IsKept (plain_word rules w word h).0
    met_plain idle word h k = k
    met_plain (option name) word h k = pushed_option (arg_by_id rules name) name word h k
    met_plain positional word h k = k

    flagged : (w : Waiting) (word : Text) (h : Held) (o : Outcome) → IsKept h → IsKept (after_flag rules w word h o).0
    flagged w word h done k = k
    flagged w word h (waits name) k = k
    flagged w word h plain k = met_plain w word h k
    flagged w word h refused k = met_plain w word h k

    met_short_word : (w : Waiting) (word : Text) (o : Option Text) (h : Held) → IsKept h → IsKept (short_or_plain rules w word o h).0
    met_short_word w word None h k = met_plain w word h k
    met_short_word w word (Some flags) h k =
        flagged w word (bundle rules flags h).0 (bundle rules flags h).1 (met_bundle (length flags) flags h.skip plain (record h { skip = 0 }) k)

    met_long_word : (w : Waiting) (word : Text) (o : Option (Text × Option Text)) (h : Held) → IsKept h → IsKept (long_or_other rules w word o h).0
    met_long_word w word None h k = met_short_word w word (short_of word) h k
    met_long_word w word (Some p) h k =
        let met = long_met rules (arg_by_long rules p.0) p.1 h in
        flagged w word met.0 met.1 (met_long (arg_by_long rules p.0) p.1 h (long_option p.0) k)

    met_other : (o : Option Text) (w : Waiting) (position : ℕ) (word : Text) (h : Held) → IsKept h →
        IsKept (subcommand_or_other rules o w position word h).0
    met_other (Some name) w position word h k = k
    met_other None w position word h k =
        by_test (λ (m : Held × Step). IsKept m.0) (bytes_eq word (45 ∷ 45 ∷ [])) (h, trailing position)
        (long_or_other rules w word (long_of word) h) (λ e. k) (λ e. met_long_word w word (long_of word) h k)

    met_word : (names : Names) (is_trailing : Bool) (w : Waiting) (position : ℕ) (word : Text) (h : Held) → IsKept h →
        IsKept (word_met rules names is_trailing w position word h).0
    met_word names true w position word h k = k
    met_word names false w position word h k = met_other (subcommand_met names w word) w position word h k

    met_positional : (o : Option Rule) (word : Text) (w : Walk) (h : Held) → IsKept h → IsKept (to_positional rules o word w h).held
    met_positional None word w h k = k
    met_positional (Some a) word w h k =
        let before = if is_pending a h.pending && takes_several a then h else settled rules h in
        push a.id word before
        (by_test (λ (g : Held). Each IsFilled g.rows) (is_pending a h.pending && takes_several a) h (settled rules h)
        (λ e. k.0) (λ e. (settle h k).0))

    stepped : (word : Text) (w : Walk) (h : Held) (s : Step) → IsKept h → IsKept (after_step rules word w h s).held
    stepped word w h (next waiting) k = k
    stepped word w h (trailing position) k = k
    stepped word w h (subcommand name) k = k
    stepped word w h value k = met_positional (arg_by_index rules w.position) word w h k

    turned : (names : Names) (o : Option (Text × List Text)) (w : Walk) (word : Text) → IsKept w.held → IsKept (walked_from rules names o w word).held
    turned names (Some p) w word k = k
    turned names None w word k =
        let met = word_met rules names w.is_trailing w.waiting w.position word w.held in
        stepped word w met.0 met.1 (met_word names w.is_trailing w.waiting w.position word w.held k)

    turned_once : (names : Names) (w : Walk) (word : Text) → IsKept w.held → IsKept (walked rules names w word).held
    unfolding walked
    turned_once names w word k = turned names w.stopped w word k

    walked_all : (names : Names) (words : List Text) (w : Walk) → IsKept w.held → IsKept (fold (walked rules names) w words).held
    walked_all names [] w k = k
    walked_all names (word ∷ words) w k = walked_all names words (walked rules names w word) (turned_once names w word k)

    -- at the end of the words each row of this name has a value
    pub rows_filled : (names : Names) (words : List Text) → Each IsFilled (finished rules (walk rules names nothing_held words).held)
    rows_filled names words =
        let end = (walk rules names nothing_held words).held in
        put_defaults rules (settled rules end).rows (settle end (walked_all names words (walk_from nothing_held) (tt, tt))).0
