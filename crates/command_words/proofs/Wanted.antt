-- Where `clap` has matches of words, it finds each word that a command names.
use Rattle.std.proofs.Common.{◌≡◌, ◌<◌, ◌&&◌, ◌||◌, ◌∙◌, refl, sym, ap, subst, arith, List, [], ◌∷◌, length, Bool, true, false, not, Option, Some, None, is_some, find, codes}
use Rattle.std.specs.Prelude.{if◌then◌else◌, slice_get}
use Rattle.std.specs.List.{list_all, list_any}
use Rattle.std.specs.Option.{option_map_or}
use Rattle.std.specs.Str.{bytes_eq}
use Rattle.std.proofs.lemmas.Bool.Decides.{nat_tests}
use Rattle.std.proofs.lemmas.Slice.Eq.{bytes_eq-Decides}
use Rattle.clap.specs.Facts.{explicit_source}
use Rattle.clap.specs.Faults.{fault_of, level_fault, check_fault, defaults_fault, settle_fault, walk_fault}
use Rattle.clap.specs.Kinds.{Kinds, check_kinds, or_else}
use Rattle.clap.specs.Simple.{App, Shape, argument_words, built, matches_of, names_of}
use Rattle.clap.specs.Takes.{is_given}
use Rattle.clap.specs.Walk.{Names, Row, Rule, Text, action_of, finished, first_of, is_empty, nothing_held, settled, walk, walk_from}
use Rattle.clap.specs.declared.builder.action.ArgAction.{ArgAction}
use Rattle.clap.specs.declared.builder.action.ArgAction.TheVariants.{Set}
use Rattle.spec_core.specs.Lists.{Each}
use Rattle.command_words.specs.Laws.{WantedWordsAreFound}
use Rattle.command_words.specs.Readers.{run_reader, check_reader, equal_reader, replay_reader, migrate_reader, sim_reader, selfrun_reader, found_in}
use Rattle.command_words.proofs.Given.{found, rows_filled, IsFilled, IsSet}

-- tests of arguments

abbrev is_set : ArgAction → Bool
is_set Set = true
is_set other = false

abbrev is_read : Text → Rule → Bool
is_read id a = is_set (action_of a) && (not (bytes_eq a.id id) || is_some a.index)

-- each use of an argument stands in place of the one before; one of this name is no option, and is wanted
abbrev is_wanted : Text → List Rule → Bool
is_wanted id rules = list_all (is_read id) rules && list_any (λ a. bytes_eq a.id id && a.required) rules

set_of : (action : ArgAction) → is_set action ≡ true → action ≡ Set
set_of Set e = refl
set_of other e = let never : ⊥ = cc in absurd never

both : (b c : Bool) → (b && c) ≡ true → (b ≡ true) × (c ≡ true)
both true c e = (refl, e)
both false c e = let never : ⊥ = cc in absurd never

unless : (b c : Bool) → (not b || c) ≡ true → b ≡ true → c ≡ true
unless true c e h = e
unless false c e h = let never : ⊥ = cc in absurd never

each_set : (id : Text) (rules : List Rule) → list_all (is_read id) rules ≡ true → Each (IsSet rules id) rules
each_set id rules e = go rules e
  where
    go : (some : List Rule) → list_all (is_read id) some ≡ true → Each (IsSet rules id) some
    go [] t = tt
    go (a ∷ more) t =
        let h = both (is_read id a) (list_all (is_read id) more) t in
        let k = both (is_set (action_of a)) (not (bytes_eq a.id id) || is_some a.index) h.0 in
        ((set_of (action_of a) k.0, unless (bytes_eq a.id id) (is_some a.index) k.1), go more h.1)

-- what a parse without a fault has

last_kinds : (a b : Kinds) → or_else a b ≡ [] → b ≡ []
last_kinds [] b e = e
last_kinds (k ∷ ks) b e = let never : ⊥ = cc in absurd never

none_wanting : (a b c : Bool) → check_kinds a b c ≡ [] → c ≡ false
none_wanting true b c e = let never : ⊥ = cc in absurd never
none_wanting false true c e = let never : ⊥ = cc in absurd never
none_wanting false false true e = let never : ⊥ = cc in absurd never
none_wanting false false false e = refl

neither : (b c : Bool) → (b || c) ≡ false → (b ≡ false) × (c ≡ false)
neither true c e = let never : ⊥ = cc in absurd never
neither false c e = (refl, e)

either_one : (b c : Bool) → (b || c) ≡ true → (b ≡ false) → c ≡ true
either_one true c e n = let never : ⊥ = cc in absurd never
either_one false c e n = e

given_so : (wanted given : Bool) → wanted ≡ true → (wanted && not given) ≡ false → given ≡ true
given_so true true w e = refl
given_so true false w e = let never : ⊥ = cc in absurd never
given_so false given w e = let never : ⊥ = cc in absurd never

given : (id : Text) (rows : List Row) (rules : List Rule) → list_any (λ a. bytes_eq a.id id && a.required) rules ≡ true →
    list_any (λ a. a.required && not (is_given a.id rows)) rules ≡ false → is_given id rows ≡ true
given id rows [] some none = let never : ⊥ = cc in absurd never
given id rows (a ∷ more) some none =
    let rest = neither (a.required && not (is_given a.id rows)) (list_any (λ b. b.required && not (is_given b.id rows)) more) none in
    go (bytes_eq a.id id && a.required) refl rest.0 (λ later. given id rows more later rest.1)
  where
    go : (b : Bool) → (bytes_eq a.id id && a.required) ≡ b → (a.required && not (is_given a.id rows)) ≡ false →
        (list_any (λ b. bytes_eq b.id id && b.required) more ≡ true → is_given id rows ≡ true) → is_given id rows ≡ true
    go true t here later =
        let h = both (bytes_eq a.id id) a.required t in
        let same : a.id ≡ id = (bytes_eq-Decides a.id id).0 h.0 in
        subst (λ name. is_given name rows ≡ true) same (given_so a.required (is_given a.id rows) h.1 here)
    go false t here later =
        later (either_one (bytes_eq a.id id && a.required) (list_any (λ b. bytes_eq b.id id && b.required) more) some t)

some_first : (values : List Text) → 0 < length values → is_some (slice_get values 0) ≡ true
some_first [] h = absurd (omega arith)
some_first (v ∷ vs) h = refl

has_first : (rules : List Rule) (id : Text) (rows : List Row) → Each (IsFilled rules id) rows → is_given id rows ≡ true →
    is_some (first_of id rows) ≡ true
has_first rules id rows filled h = go (find (λ r. bytes_eq r.id id) rows) refl
  where
    go : (o : Option Row) → find (λ r. bytes_eq r.id id) rows ≡ o → is_some (first_of id rows) ≡ true
    go None e =
        let nothing : is_given id rows ≡ false = ap (λ o. option_map_or (λ (r : Row). explicit_source r.source) o false) e in
        let never : true ≡ false = sym h ∙ nothing in
        cc
    go (Some r) e =
        let k = found (IsFilled rules id) (λ r. bytes_eq r.id id) rows filled r e in
        rw e (some_first r.values (k.0 k.1))

module _ (id : Text) (s : Shape) (negates : s.subcommand_negates_reqs ≡ false) (wanted : is_wanted id s.rules ≡ true) where
  found_at_level : (names : Names) (words : List Text) (has_subcommand : Bool) (below : Kinds) →
      level_fault s names nothing_held words has_subcommand below ≡ [] →
      is_some (first_of id (finished s.rules (walk s.rules names nothing_held words).held)) ≡ true
  found_at_level names words has_subcommand below e =
      let parts = both (list_all (is_read id) s.rules) (list_any (λ a. bytes_eq a.id id && a.required) s.rules) wanted in
      let end = (walk s.rules names nothing_held words).held in
      let rows = finished s.rules end in
      let checked : check_fault s rows has_subcommand ≡ [] = last_kinds (defaults_fault (settled s.rules end).rows s.rules) _
      (last_kinds (settle_fault s.rules s.args_override_self end) _ (last_kinds below _ (last_kinds (walk_fault s names (walk_from nothing_held) words) _ e))) in
      let none : (not (s.subcommand_negates_reqs && has_subcommand) && list_any (λ a. a.required && not (is_given a.id rows)) s.rules) ≡ false =
      none_wanting _ _ _ checked in
      let lacks : list_any (λ a. a.required && not (is_given a.id rows)) s.rules ≡ false =
      subst (λ b. (not (b && has_subcommand) && list_any (λ a. a.required && not (is_given a.id rows)) s.rules) ≡ false) negates none in
      has_first s.rules id rows (rows_filled s.rules id (each_set id s.rules parts.0) names words)
      (given id rows s.rules parts.1 lacks)

no_kinds : (faults : Kinds) → is_empty faults ≡ true → faults ≡ []
no_kinds [] e = refl
no_kinds (k ∷ ks) e = grind (arith, nat_tests)

by_faults : (faults : Kinds) (rows matches : List Row) (P : List Row → Type 0) → (if is_empty faults then Some matches else None) ≡ Some rows →
    (faults ≡ [] → P matches) → P rows
by_faults faults rows matches P e h = go (is_empty faults) e (λ t. h (no_kinds faults t))
  where
    go : (b : Bool) → (if b then Some matches else None) ≡ Some rows → (b ≡ true → P matches) → P rows
    go true f k = let same : matches ≡ rows = cc in subst P same (k refl)
    go false f k = let never : ⊥ = cc in absurd never

finds_word : (reader : App) (id : Text) → (built reader).top.subcommand_negates_reqs ≡ false → is_wanted id (built reader).top.rules ≡ true →
    (words : List Text) (rows : List Row) → found_in reader words ≡ Some rows → is_some (first_of id rows) ≡ true
finds_word reader id negates wanted words rows e =
    by_faults (fault_of reader words) rows (matches_of reader words) (λ found. is_some (first_of id found) ≡ true) e
    (λ none. found_at_level id (built reader).top negates wanted (names_of (built reader)) (argument_words reader words) _ _ none)

pub wanted_words_are_found : WantedWordsAreFound
wanted_words_are_found = record {
  run = λ words rows e. (
    finds_word run_reader (codes "SPEC") refl refl words rows e,
    (finds_word run_reader (codes "SCRIPT") refl refl words rows e, tt),
  );
  check = λ words rows e. (finds_word check_reader (codes "SPEC") refl refl words rows e, tt);
  equal = λ words rows e. (
    finds_word equal_reader (codes "SPEC") refl refl words rows e,
    (
      finds_word equal_reader (codes "FIRST") refl refl words rows e,
      (finds_word equal_reader (codes "SECOND") refl refl words rows e, tt),
    ),
  );
  replay = λ words rows e. (
    finds_word replay_reader (codes "SPEC") refl refl words rows e,
    (finds_word replay_reader (codes "TRACE") refl refl words rows e, tt),
  );
  migrate = λ words rows e. (
    finds_word migrate_reader (codes "SPEC") refl refl words rows e,
    (finds_word migrate_reader (codes "TRACE") refl refl words rows e, tt),
  );
  sim = λ words rows e. (finds_word sim_reader (codes "SPEC") refl refl words rows e, tt);
  selfrun = λ words rows e. (
    finds_word selfrun_reader (codes "SEED") refl refl words rows e,
    (finds_word selfrun_reader (codes "SIZE") refl refl words rows e, tt),
  );
}
