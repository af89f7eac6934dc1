-- The value that is read is the one whose text it is.
use Rattle.std.proofs.Common.{ℕ, ◌≡◌, inl, inr, ◌||◌, Bool, true, false, List, [], ◌∷◌, ◌++◌, length, Option, Some, None, refl, ap, sym, ◌∙◌, subst, arith}
use Rattle.std.proofs.Common.{nat_eq, IfSome, reverse, map, ◌≢◌}
use Rattle.std.specs.List.{list_any}
use Rattle.std.proofs.lemmas.Bool.{eqb-true, and_parts}
use Rattle.std.proofs.lemmas.List.{append_cancel_left}
use Rattle.spec_core.specs.Code.{Program}
use Rattle.spec_core.specs.Lists.{IsOneOf}
use Rattle.spec_core.specs.Ready.{AreNamed}
use Rattle.spec_core.specs.Sorts.{FitsData}
use Rattle.spec_core.specs.Terms.{no_terms}
use Rattle.spec_core.specs.Theories.{Theory}
use Rattle.spec_core.proofs.Lists.{map_reverse}
use Rattle.value_text.specs.Values.{IsGroundList, value_text}
use Rattle.value_text.proofs.Names.{EndsTerm}
use Rattle.value_text.proofs.OneTerm.{text as term_of}
use Rattle.value_text.proofs.OneValue.{value_is_term}
use Rattle.value_reader.specs.Ends.{ends_there, ends_value, goes_no_further}
use Rattle.value_reader.specs.Items.{Piece, word, opening, closing, comma, of_sort, other, items}
use Rattle.value_reader.specs.Stands.{Bracket, Stand, State, expects, has_term, calls, nothing_read, read_in, run, whole_at, whole_of, whole_value}
use Rattle.value_reader.proofs.Pieces.{EndsThere, extent_of}
use Rattle.value_reader.proofs.Sound.{AreTerms, IsSound, ground, run_sound}
use Rattle.value_reader.proofs.WholeTerms.{whole_read}

pub whole_so : (st : Stand) (bs : List Bracket) (so va : List ℕ) → st ≡ has_term → length bs ≡ 0 → length so ≡ 1 → whole_at st bs so va ≡ Some va
whole_so st bs so va e none one = ap (λ s. whole_at s bs so va) e ∙ go bs so none one
  where
    go : (bs : List Bracket) (so : List ℕ) → length bs ≡ 0 → length so ≡ 1 → whole_at has_term bs so va ≡ Some va
    go [] (a ∷ []) none one = refl
    go [] [] none one = absurd (omega (arith, one))
    go [] (a ∷ b ∷ so) none one = absurd (omega (arith, one))
    go (x ∷ bs) so none one = absurd (omega (arith, none))

byte_there : (b : ℕ) (bs : List ℕ) → list_any (nat_eq b) bs ≡ true → IsOneOf b bs
byte_there b [] h = absurd (cc)
byte_there b (c ∷ bs) h = go (nat_eq b c) refl h (byte_there b bs)
  where
    go : (x : Bool) → nat_eq b c ≡ x → (x || list_any (nat_eq b) bs) ≡ true → (list_any (nat_eq b) bs ≡ true → IsOneOf b bs) → IsOneOf b (c ∷ bs)
    go true e h rest = inl (eqb-true b c e)
    go false e h rest = inr (rest h)

pub ends_term : (r : List ℕ) → ends_there r ≡ true → EndsTerm r
ends_term [] h = tt
ends_term (b ∷ r) h = byte_there b (10 ∷ 32 ∷ 41 ∷ 44 ∷ 93 ∷ []) h

-- of one whole term, with terms of the data alone
whole_ground : (theory : Theory) (st : Stand) (bs : List Bracket) (so va : List ℕ) → AreTerms theory so va →
    IfSome (whole_at st bs so va) (IsGroundList theory)
whole_ground theory has_term [] (a ∷ []) va sound = ground theory a va sound
whole_ground theory has_term [] [] va sound = tt
whole_ground theory has_term [] (a ∷ b ∷ so) va sound = tt
whole_ground theory has_term (x ∷ bs) so va sound = tt
whole_ground theory (expects w) bs so va sound = tt
whole_ground theory (calls w n) bs so va sound = tt

pub value_so : {A B : Type 0} (f : A → B) (xs ys : List A) → ys ≡ reverse xs → map f ys ≡ reverse (map f xs)
value_so f xs ys e = ap (map f) e ∙ map_reverse f xs

pub nothing_sound : (theory : Theory) → IsSound theory nothing_read
nothing_sound theory = record { terms = no_terms; have = tt; spelled = refl }

-- what was read are values of the data
pub read_ground : (theory : Theory) (ps : List Piece) (s : State) (o : Option (List ℕ)) → Some s ≡ run theory ps nothing_read → whole_value s ≡ o →
    IfSome o (IsGroundList theory)
read_ground theory ps s o h e =
    let sound = run_sound theory ps nothing_read s (nothing_sound theory) (sym h) in
    subst (λ x. IfSome x (IsGroundList theory)) e (whole_ground theory s.stand s.brackets s.sorts s.value sound)

module _ (program : Program) (fits : FitsData program.theory) (named : AreNamed program) where
  goes_there : (ps : List Piece) → goes_no_further ps ≡ true → EndsThere program.theory fits named.operations named.sorts ps
  goes_there [] h = tt
  goes_there (word w ∷ ps) h = tt
  goes_there (opening ∷ ps) h = absurd (cc)
  goes_there (closing ∷ ps) h = tt
  goes_there (comma ∷ ps) h = tt
  goes_there (of_sort w ∷ ps) h = absurd (cc)
  goes_there (other ∷ ps) h = tt

  -- the text of a value and what may follow it is read as this value
  pub read_so : (text v rest : List ℕ) → IsGroundList program.theory v → ends_value rest ≡ true → text ≡ value_text program.theory v ++ rest →
      read_in program.theory text ≡ Some v
  read_so text v rest k ends same =
      let both = and_parts (ends_there rest) (goes_no_further (items rest)) ends in
      let t : text ≡ term_of program.theory k.term ++ rest =
      same ∙ ap (λ l. l ++ rest) (ap (value_text program.theory) k.spelled ∙ value_is_term program.theory k.term k.fits.0 k.fits.1) in
      ap (read_in program.theory) t
      ∙ ap (λ ps. whole_of (run program.theory ps nothing_read))
      (extent_of program.theory fits named.operations named.sorts k.term k.fits.0 rest k.fits.1 (ends_term rest both.0)
      (goes_there (items rest) both.1))
      ∙ ap whole_of
      (whole_read program.theory fits named.operations named.sorts named.sorts_differ named.operations_differ k.term k.fits.0 k.fits.1)
      ∙ ap Some (sym k.spelled)

  pub none_read : (text : List ℕ) → None ≡ read_in program.theory text → (v rest : List ℕ) → IsGroundList program.theory v →
      ends_value rest ≡ true → text ≡ value_text program.theory v ++ rest → ⊥
  none_read text h v rest k ends same = let e : None ≡ Some v = h ∙ read_so text v rest k ends same in cc

  pub one_read : (text w : List ℕ) → Some w ≡ read_in program.theory text → (v rest : List ℕ) → IsGroundList program.theory v →
      ends_value rest ≡ true → text ≡ value_text program.theory v ++ rest → w ≡ v
  one_read text w h v rest k ends same = let e : Some w ≡ Some v = h ∙ read_so text v rest k ends same in cc

  pub no_prefix : (text w printed : List ℕ) → Some w ≡ read_in program.theory text → printed ≡ value_text program.theory w →
      ((rest : List ℕ) → text ≢ printed ++ rest) → (v rest : List ℕ) → IsGroundList program.theory v → ends_value rest ≡ true →
      text ≡ value_text program.theory v ++ rest → ⊥
  no_prefix text w printed h p none v rest k ends same =
      none rest (same ∙ ap (λ l. l ++ rest) (ap (value_text program.theory) (sym (one_read text w h v rest k ends same)) ∙ sym p))

  pub no_end : (text w behind : List ℕ) → Some w ≡ read_in program.theory text → text ≡ value_text program.theory w ++ behind →
      ends_value behind ≡ false → (v rest : List ℕ) → IsGroundList program.theory v → ends_value rest ≡ true →
      text ≡ value_text program.theory v ++ rest → ⊥
  no_end text w behind h whole wrong v rest k ends same =
      let e : behind ≡ rest =
      append_cancel_left (value_text program.theory w) behind rest
      (sym whole ∙ same ∙ ap (λ z. value_text program.theory z ++ rest) (sym (one_read text w h v rest k ends same))) in
      let no : ends_value rest ≡ false = ap ends_value (sym e) ∙ wrong in
      let yes : true ≡ false = sym ends ∙ no in
      cc

  -- what is behind the value, too, is what is read so
  pub only_read : (text w behind : List ℕ) → Some w ≡ read_in program.theory text → text ≡ value_text program.theory w ++ behind →
      (v rest : List ℕ) → IsGroundList program.theory v → ends_value rest ≡ true → text ≡ value_text program.theory v ++ rest →
      (v ≡ w) × (rest ≡ behind)
  only_read text w behind h whole v rest k ends same =
      let o = one_read text w h v rest k ends same in (
        sym o,
        append_cancel_left (value_text program.theory w) rest behind
            (ap (λ z. value_text program.theory z ++ rest) o ∙ sym same ∙ whole),
      )

  pub printed_is_read : (v rest : List ℕ) → IsGroundList program.theory v → ends_value rest ≡ true →
      read_in program.theory (value_text program.theory v ++ rest) ≡ Some v
  printed_is_read v rest k ends = read_so (value_text program.theory v ++ rest) v rest k ends refl

  pub one_text : (v w : List ℕ) → IsGroundList program.theory v → IsGroundList program.theory w →
      value_text program.theory v ≡ value_text program.theory w → v ≡ w
  one_text v w k l same =
      let e : Some v ≡ Some w =
      sym (printed_is_read v [] k refl) ∙ ap (λ t. read_in program.theory (t ++ [])) same ∙ printed_is_read w [] l refl in
      cc
