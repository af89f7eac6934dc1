-- What operators may do by rules over their parts.
use Rattle.std.proofs.Common.{ℕ, ◌≡◌, ◌↔◌, ◌&&◌, not, List, [], refl, sym, ap, subst, ◌∙◌, Option, Some, None, Bool, true, false}
use Rattle.std.proofs.Common.{if◌then◌else◌, option_map, option_and_then}
use Rattle.std.proofs.lemmas.Bool.{and_from, and_parts, false≢true, not-true}
use Rattle.std.proofs.lemmas.Option.{none-some, same_Some}
use Rattle.spec_core.specs.Lists.{Each}
use Rattle.spec_core.specs.Code.{Program, Variable, Relabelling, Synchronised}
use Rattle.spec_core.proofs.Options.{map_some}
use Rattle.rule_model.specs.Actions.{Kind, inside, ends, at_gate, among, synchronises, IsAlone, IsJoint, IsUnhidden, IsNoEnd, IsEnd}
use Rattle.rule_model.specs.Behaviours.{Behaviour, parallel, hide, enable}
use Rattle.rule_model.specs.Derivations.{Derivation, both}
use Rattle.symbolic_rules.specs.Windows.{Windows}
use Rattle.symbolic_rules.specs.MarkedTerms.{MarkedAssignment}
use Rattle.symbolic_rules.specs.MarkedFields.{MarkedField, AllAgree, HaveSortsOf, IsWithin}
use Rattle.symbolic_rules.specs.MayDerive.{renamed_kind, MayDeriveWith}
use Rattle.symbolic_composites.specs.Evaluations.{Evaluation, IsExact}
use Rattle.symbolic_composites.specs.Kinds.{is_alone, is_joint, is_hidden, is_end, same_kind}
use Rattle.symbolic_composites.proofs.Tests.{if_true, is_alone_so, is_joint_so, is_end_so}
use Rattle.symbolic_composites.proofs.Tests.{same_kind_so}
use Rattle.symbolic_composites.proofs.Trees.{trees_show_one_action}
use Rattle.symbolic_actions.specs.Deciding.{all_agreed, have_sorts, all_within}
use Rattle.symbolic_actions.specs.Shows.{Show, ShowsWith, PartRule, of_left, of_right, left_alone, right_alone, hidden_in, seen_in, before_end}
use Rattle.symbolic_actions.specs.Shows.{handed_to, undisabled, ended, disabling, renamed_by, tree_over, IsOver, show_where, internal_show}
use Rattle.symbolic_actions.specs.Shows.{over_part, over_both}
use Rattle.symbolic_actions.specs.Laws.{RulesFoldShows, ShowsAreMadeOfShows}
use Rattle.symbolic_actions.proofs.Deciding.{both_so, all_agree_so, sorts_so, all_within_so}
use Rattle.symbolic_actions.proofs.Deciding.{kinds_same}

-- kinds

alone_test : (gates : Synchronised) (k : Kind) → IsAlone gates k ↔ (is_alone gates k ≡ true)
alone_test gates inside = (is_alone_so gates inside, λ e. tt)
alone_test gates ends = (is_alone_so gates ends, λ e. false≢true e)
alone_test gates (at_gate g) = (is_alone_so gates (at_gate g), not-true (synchronises gates g))

joint_test : (gates : Synchronised) (k : Kind) → IsJoint gates k ↔ (is_joint gates k ≡ true)
joint_test gates inside = (is_joint_so gates inside, λ e. false≢true e)
joint_test gates ends = (is_joint_so gates ends, λ e. tt)
joint_test gates (at_gate g) = (is_joint_so gates (at_gate g), λ e. e)

unhidden_test : (gates : List ℕ) (k : Kind) → IsUnhidden gates k ↔ (not (is_hidden gates k) ≡ true)
unhidden_test gates inside = (λ h. refl, λ e. tt)
unhidden_test gates ends = (λ h. refl, λ e. tt)
unhidden_test gates (at_gate g) = (λ h. ap not h, not-true (among g gates))

end_test : (k : Kind) → IsEnd k ↔ (is_end k ≡ true)
end_test inside = (is_end_so inside, λ e. false≢true e)
end_test ends = (is_end_so ends, λ e. tt)
end_test (at_gate g) = (is_end_so (at_gate g), λ e. false≢true e)

no_end_test : (k : Kind) → IsNoEnd k ↔ (not (is_end k) ≡ true)
no_end_test inside = (λ h. refl, λ e. tt)
no_end_test ends = (λ h. absurd h, λ e. false≢true e)
no_end_test (at_gate g) = (λ h. refl, λ e. tt)

-- what is shown, where a test is passed
shown_so : (b : Bool) (s t : Show) → show_where b s ≡ Some t → (b ≡ true) × (s ≡ t)
shown_so true s t e = (refl, same_Some _ _ e)
shown_so false s t e = absurd (none-some _ e)

-- In this module: Q says what the part may do.
module _ (Q : Kind → List MarkedField → Type 0) where
  -- some show of the part leads to this one
  abbrev LeadsTo : (Show → Option Show) → Kind → List MarkedField → Type 0
  LeadsTo f k fs = (s : Show) × Q s.kind s.fields × (f s ≡ Some (record { kind = k; fields = fs }))

  same_show : (s t : Show) → s ≡ t → Q s.kind s.fields → Q t.kind t.fields
  same_show s t e q = subst (λ (z : Show). Q z.kind z.fields) e q

  unchanged : (k : Kind) (fs : List MarkedField) → Q k fs ↔ LeadsTo (λ s. Some s) k fs
  unchanged k fs = (
    λ q. (record { kind = k; fields = fs }, q, refl),
    λ h. same_show h.0 (record { kind = k; fields = fs }) (same_Some _ _ h.2) h.1,
  )

  passes : (P : Kind → Type 0) (test : Kind → Bool) → ((k : Kind) → P k ↔ (test k ≡ true)) → (k : Kind) (fs : List MarkedField) →
      (Q k fs × P k) ↔ LeadsTo (λ s. show_where (test s.kind) s) k fs
  passes P test decided k fs = (to, back)
    where
      to : Q k fs × P k → LeadsTo (λ s. show_where (test s.kind) s) k fs
      to h = (
        record { kind = k; fields = fs },
        h.0,
        if_true (test k) (Some (record { kind = k; fields = fs })) None ((decided k).0 h.1),
      )

      back : LeadsTo (λ s. show_where (test s.kind) s) k fs → Q k fs × P k
      back h =
          let i = shown_so (test h.0.kind) h.0 (record { kind = k; fields = fs }) h.2 in (
            same_show h.0 (record { kind = k; fields = fs }) i.1 h.1,
            subst P (ap (λ (z : Show). z.kind) i.1) ((decided h.0.kind).1 i.0),
          )

  -- what turns internal, where a test is passed
  turned : (R : Kind → List MarkedField → Type 0) (test : Kind → List MarkedField → Bool) →
      ((k : Kind) (fs : List MarkedField) → R k fs ↔ (test k fs ≡ true)) → (k : Kind) (fs : List MarkedField) →
      ((j : Kind) × (gs : List MarkedField) × Q j gs × R j gs × (k ≡ inside) × (fs ≡ [])) ↔
      LeadsTo (λ s. show_where (test s.kind s.fields) internal_show) k fs
  turned R test decided k fs = (to, back)
    where
      to : ((j : Kind) × (gs : List MarkedField) × Q j gs × R j gs × (k ≡ inside) × (fs ≡ [])) →
          LeadsTo (λ s. show_where (test s.kind s.fields) internal_show) k fs
      to h = (
        record { kind = h.0; fields = h.1 },
        h.2,
        if_true (test h.0 h.1) (Some internal_show) None ((decided h.0 h.1).0 h.3)
            ∙ ap (λ j. Some (record { kind = j; fields = [] })) (sym h.4)
            ∙ ap (λ l. Some (record { kind = k; fields = l })) (sym h.5),
      )

      back : LeadsTo (λ s. show_where (test s.kind s.fields) internal_show) k fs →
          ((j : Kind) × (gs : List MarkedField) × Q j gs × R j gs × (k ≡ inside) × (fs ≡ []))
      back h =
          let i = shown_so (test h.0.kind h.0.fields) internal_show (record { kind = k; fields = fs }) h.2 in (
            h.0.kind,
            h.0.fields,
            h.1,
            (decided h.0.kind h.0.fields).1 i.0,
            ap (λ (z : Show). z.kind) (sym i.1),
            ap (λ (z : Show). z.fields) (sym i.1),
          )

  renamed_so : (pairs : List Relabelling) (k : Kind) (fs : List MarkedField) →
      ((j : Kind) × Q j fs × (k ≡ renamed_kind pairs j)) ↔
      LeadsTo (λ s. Some (record { kind = renamed_kind pairs s.kind; fields = s.fields })) k fs
  renamed_so pairs k fs = (to, back)
    where
      to : ((j : Kind) × Q j fs × (k ≡ renamed_kind pairs j)) →
          LeadsTo (λ s. Some (record { kind = renamed_kind pairs s.kind; fields = s.fields })) k fs
      to h = (
        record { kind = h.0; fields = fs },
        h.1,
        ap (λ j. Some (record { kind = j; fields = fs })) (sym h.2),
      )

      back : LeadsTo (λ s. Some (record { kind = renamed_kind pairs s.kind; fields = s.fields })) k fs →
          ((j : Kind) × Q j fs × (k ≡ renamed_kind pairs j))
      back h =
          let same : record { kind = renamed_kind pairs h.0.kind; fields = h.0.fields } ≡ record { kind = k; fields = fs } = same_Some _ _ h.2 in (
            h.0.kind,
            subst (Q h.0.kind) (ap (λ (z : Show). z.fields) same) h.1,
            ap (λ (z : Show). z.kind) (sym same),
          )

-- two facts that say the same
trans_so : (P Q R : Type 0) → P ↔ Q → Q ↔ R → P ↔ R
trans_so P Q R f g = (λ p. g.0 (f.0 p), λ r. f.1 (g.1 r))

module _ (program : Program) (w : Windows) where
  -- a hidden gate, and what is only chosen lies in its window
  abbrev IsHidden : List ℕ → Kind → List MarkedField → Type 0
  IsHidden gates k fs = (g : ℕ) × (k ≡ at_gate g) × (among g gates ≡ true) × Each (IsWithin program.theory w) fs

  hidden_test : (gates : List ℕ) (k : Kind) (fs : List MarkedField) →
      IsHidden gates k fs ↔ (is_hidden gates k && all_within program.theory w fs ≡ true)
  hidden_test gates inside fs = (λ h. let e : inside ≡ at_gate h.0 = h.1 in absurd cc, λ e. absurd (false≢true e))
  hidden_test gates ends fs = (λ h. let e : ends ≡ at_gate h.0 = h.1 in absurd cc, λ e. absurd (false≢true e))
  hidden_test gates (at_gate g) fs = (to, back)
    where
      gate_of : (h : ℕ) → at_gate g ≡ at_gate h → h ≡ g
      gate_of h e = cc

      to : IsHidden gates (at_gate g) fs → among g gates && all_within program.theory w fs ≡ true
      to h =
          and_from (among g gates) (all_within program.theory w fs) (subst (λ x. among x gates ≡ true) (gate_of h.0 h.1) h.2)
          ((all_within_so program.theory w fs).0 h.3)

      back : among g gates && all_within program.theory w fs ≡ true → IsHidden gates (at_gate g) fs
      back e =
          let r = and_parts (among g gates) (all_within program.theory w fs) e in
          (g, refl, r.0, (all_within_so program.theory w fs).1 r.1)

  -- a termination with fields of these sorts, and what is only chosen lies in its window
  abbrev IsHanded : List Variable → Kind → List MarkedField → Type 0
  IsHanded xs k fs = IsEnd k × (HaveSortsOf program.theory xs fs × Each (IsWithin program.theory w) fs)

  handed_test : (xs : List Variable) (k : Kind) (fs : List MarkedField) →
      IsHanded xs k fs ↔ (is_end k && (have_sorts program.theory xs fs && all_within program.theory w fs) ≡ true)
  handed_test xs k fs =
      both_so (IsEnd k) (HaveSortsOf program.theory xs fs × Each (IsWithin program.theory w) fs) (is_end k)
      (have_sorts program.theory xs fs && all_within program.theory w fs) (end_test k)
      (both_so (HaveSortsOf program.theory xs fs) (Each (IsWithin program.theory w) fs) (have_sorts program.theory xs fs)
      (all_within program.theory w fs) (sorts_so program.theory xs fs) (all_within_so program.theory w fs))

  ends_so : (k : Kind) → IsEnd k → k ≡ ends
  ends_so inside h = absurd h
  ends_so ends h = refl
  ends_so (at_gate g) h = absurd h

  module _ (m : MarkedAssignment) where
    abbrev May : Behaviour → Derivation → Kind → List MarkedField → Type 0
    May b d k fs = MayDeriveWith program w m b d k fs

    -- by the rule, the whole may do what some show of the part leads to
    abbrev FoldsOver : PartRule → Behaviour → Behaviour → Derivation → Kind → List MarkedField → Type 0
    FoldsOver r b c d k fs =
        May b (tree_over r d) k fs ↔
        ((s : Show) × May c d s.kind s.fields × (over_part program.theory w r s ≡ Some (record { kind = k; fields = fs })))

    over_hidden : (gates : List ℕ) (c : Behaviour) (d : Derivation) (k : Kind) (fs : List MarkedField) →
        FoldsOver (hidden_in gates) (hide gates c) c d k fs
    over_hidden gates c d k fs =
        trans_so (May (hide gates c) (tree_over (hidden_in gates) d) k fs)
        ((j : Kind) × (gs : List MarkedField) × May c d j gs × IsHidden gates j gs × (k ≡ inside) × (fs ≡ []))
        ((s : Show) × May c d s.kind s.fields × (over_part program.theory w (hidden_in gates) s ≡ Some (record { kind = k; fields = fs }))) (
          λ h. (at_gate h.0, h.1, h.2, (h.0, refl, h.3, h.4), h.5, h.6),
          λ h. (h.3.0, h.1, subst (λ j. May c d j h.1) h.3.1 h.2, h.3.2, h.3.3, h.4, h.5),
        )
        (turned (May c d) (IsHidden gates) (λ j gs. is_hidden gates j && all_within program.theory w gs) (hidden_test gates) k fs)

    over_handed : (xs : List Variable) (c right : Behaviour) (d : Derivation) (k : Kind) (fs : List MarkedField) →
        FoldsOver (handed_to xs) (enable c xs right) c d k fs
    over_handed xs c right d k fs =
        trans_so (May (enable c xs right) (tree_over (handed_to xs) d) k fs)
        ((j : Kind) × (gs : List MarkedField) × May c d j gs × IsHanded xs j gs × (k ≡ inside) × (fs ≡ []))
        ((s : Show) × May c d s.kind s.fields × (over_part program.theory w (handed_to xs) s ≡ Some (record { kind = k; fields = fs }))) (
          λ h. (ends, h.0, h.1, (tt, (h.2, h.3)), h.4, h.5),
          λ h. (h.1, subst (λ j. May c d j h.1) (ends_so h.0 h.3.0) h.2, h.3.1.0, h.3.1.1, h.4, h.5),
        )
        (turned (May c d) (IsHanded xs)
        (λ j gs. is_end j && (have_sorts program.theory xs gs && all_within program.theory w gs)) (handed_test xs) k fs)

    fold_part : (r : PartRule) (b c : Behaviour) → IsOver r b c → (d : Derivation) (k : Kind) (fs : List MarkedField) →
        FoldsOver r b c d k fs
    fold_part of_left b c h d k fs =
        subst (λ z. FoldsOver of_left z c d k fs) (sym h.1) (unchanged (May c d) k fs)
    fold_part of_right b c h d k fs =
        subst (λ z. FoldsOver of_right z c d k fs) (sym h.1) (unchanged (May c d) k fs)
    fold_part (left_alone gates) b c h d k fs =
        subst (λ z. FoldsOver (left_alone gates) z c d k fs) (sym h.1)
        (passes (May c d) (IsAlone gates) (is_alone gates) (alone_test gates) k fs)
    fold_part (right_alone gates) b c h d k fs =
        subst (λ z. FoldsOver (right_alone gates) z c d k fs) (sym h.1)
        (passes (May c d) (IsAlone gates) (is_alone gates) (alone_test gates) k fs)
    fold_part (hidden_in gates) b c h d k fs =
        subst (λ z. FoldsOver (hidden_in gates) z c d k fs) (sym h) (over_hidden gates c d k fs)
    fold_part (seen_in gates) b c h d k fs =
        subst (λ z. FoldsOver (seen_in gates) z c d k fs) (sym h)
        (passes (May c d) (IsUnhidden gates) (λ j. not (is_hidden gates j)) (unhidden_test gates) k fs)
    fold_part before_end b c h d k fs =
        subst (λ z. FoldsOver before_end z c d k fs) (sym h.2) (passes (May c d) IsNoEnd (λ j. not (is_end j)) no_end_test k fs)
    fold_part (handed_to xs) b c h d k fs =
        subst (λ z. FoldsOver (handed_to xs) z c d k fs) (sym h.1) (over_handed xs c h.0 d k fs)
    fold_part undisabled b c h d k fs =
        subst (λ z. FoldsOver undisabled z c d k fs) (sym h.1) (passes (May c d) IsNoEnd (λ j. not (is_end j)) no_end_test k fs)
    fold_part ended b c h d k fs =
        subst (λ z. FoldsOver ended z c d k fs) (sym h.1) (passes (May c d) IsEnd is_end end_test k fs)
    fold_part disabling b c h d k fs =
        subst (λ z. FoldsOver disabling z c d k fs) (sym h.1) (unchanged (May c d) k fs)
    fold_part (renamed_by pairs) b c h d k fs =
        subst (λ z. FoldsOver (renamed_by pairs) z c d k fs) (sym h) (renamed_so (May c d) pairs k fs)

    -- two shows of the sides lead to this one
    abbrev BothLeadTo : Synchronised → Behaviour → Behaviour → Derivation → Derivation → Kind → List MarkedField → Type 0
    BothLeadTo gates x y d e k fs =
        (s t : Show) × May x d s.kind s.fields × May y e t.kind t.fields ×
        (over_both program.theory gates s t ≡ Some (record { kind = k; fields = fs }))

    abbrev of_kind : Kind → List MarkedField → Show
    of_kind k fs = record { kind = k; fields = fs }

    -- what two shows that act together make
    made : (gates : Synchronised) (k : Kind) (gs hs fs : List MarkedField) → IsJoint gates k → AllAgree program.theory gs hs fs →
        over_both program.theory gates (record { kind = k; fields = gs }) (record { kind = k; fields = hs }) ≡
        Some (record { kind = k; fields = fs })
    made gates k gs hs fs joint agree =
        if_true (same_kind k k && is_joint gates k)
        (option_map (of_kind k) (all_agreed program.theory gs hs)) None
        (and_from (same_kind k k) (is_joint gates k) (same_kind_so k k refl) (is_joint_so gates k joint))
        ∙ ap (option_map (of_kind k)) ((all_agree_so program.theory gs hs fs).0 agree)

    -- what is known of two shows that make one
    pub record AreMade (gates : Synchronised) (s t : Show) (k : Kind) (fs : List MarkedField) : Type 0 where
      pub left : s.kind ≡ k
      pub right : t.kind ≡ k
      pub joint : IsJoint gates k
      pub agree : AllAgree program.theory s.fields t.fields fs

    are_made : (gates : Synchronised) (s t : Show) (k : Kind) (fs : List MarkedField) →
        over_both program.theory gates s t ≡ Some (record { kind = k; fields = fs }) → AreMade gates s t k fs
    are_made gates s t k fs e = by_test (same_kind s.kind t.kind && is_joint gates s.kind) refl e
      where
        by_test : (b : Bool) → same_kind s.kind t.kind && is_joint gates s.kind ≡ b →
            (if b then option_map (of_kind s.kind) (all_agreed program.theory s.fields t.fields) else None) ≡
            Some (record { kind = k; fields = fs }) → AreMade gates s t k fs
        by_test false q i = absurd (none-some _ i)
        by_test true q i =
            let r = and_parts (same_kind s.kind t.kind) (is_joint gates s.kind) q in
            let j = map_some (all_agreed program.theory s.fields t.fields) (of_kind s.kind) (of_kind k fs) i in
            let kind : s.kind ≡ k = ap (λ (z : Show). z.kind) j.2 in
            let fields : j.0 ≡ fs = ap (λ (z : Show). z.fields) j.2 in
            record {
              left = kind;
              right = sym (kinds_same s.kind t.kind r.0) ∙ kind;
              joint = subst (IsJoint gates) kind ((joint_test gates s.kind).1 r.1);
              agree =
                  subst (AllAgree program.theory s.fields t.fields) fields
                  ((all_agree_so program.theory s.fields t.fields j.0).1 j.1);
            }

    fold_both : (gates : Synchronised) (x y : Behaviour) (d e : Derivation) (k : Kind) (fs : List MarkedField) →
        May (parallel gates x y) (both d e) k fs ↔ BothLeadTo gates x y d e k fs
    fold_both gates x y d e k fs = (to, back)
      where
        to : May (parallel gates x y) (both d e) k fs → BothLeadTo gates x y d e k fs
        to h = (
          record { kind = k; fields = h.0 },
          record { kind = k; fields = h.1 },
          h.2,
          h.3,
          made gates k h.0 h.1 fs h.4 h.5,
        )

        back : BothLeadTo gates x y d e k fs → May (parallel gates x y) (both d e) k fs
        back h =
            let i = are_made gates h.0 h.1 k fs h.4 in (
              h.0.fields,
              h.1.fields,
              subst (λ j. May x d j h.0.fields) i.left h.2,
              subst (λ j. May y e j h.1.fields) i.right h.3,
              i.joint,
              i.agree,
            )

pub rules_fold_shows : RulesFoldShows
rules_fold_shows program w m = record { over_part = fold_part program w m; over_both = fold_both program w m }

module _ (program : Program) (e : Evaluation) (w : Windows) (exact : IsExact program e) (m : MarkedAssignment) where
  -- what a part shows is the only thing that it may do
  only_show : (b : Behaviour) (d : Derivation) (s t : Show) → MayDeriveWith program w m b d s.kind s.fields →
      MayDeriveWith program w m b d t.kind t.fields → t ≡ s
  only_show b d s t h i =
      let r = trees_show_one_action program e w exact m b d t.kind s.kind t.fields s.fields i h in
      ap (λ j. record { kind = j; fields = t.fields }) r.0 ∙ ap (λ l. record { kind = s.kind; fields = l }) r.1

  over_shown : (r : PartRule) (b c : Behaviour) → IsOver r b c → (d : Derivation) (o : Option Show) → ShowsWith program w m c d o →
      ShowsWith program w m b (tree_over r d) (option_and_then (over_part program.theory w r) o)
  over_shown r b c is d None none = λ k fs h.
      let i = (fold_part program w m r b c is d k fs).0 h in
      none i.0.kind i.0.fields i.1
  over_shown r b c is d (Some s) shown = by_answer (over_part program.theory w r s) refl
    where
      by_answer : (o : Option Show) → over_part program.theory w r s ≡ o → ShowsWith program w m b (tree_over r d) o
      by_answer None q = λ k fs h.
          let i = (fold_part program w m r b c is d k fs).0 h in
          let same = only_show c d s i.0 shown i.1 in
          none-some _ (sym q ∙ subst (λ z. over_part program.theory w r z ≡ Some (record { kind = k; fields = fs })) same i.2)
      by_answer (Some t) q = (fold_part program w m r b c is d t.kind t.fields).1 (s, shown, q)

  both_shown : (gates : Synchronised) (x y : Behaviour) (d f : Derivation) (o p : Option Show) → ShowsWith program w m x d o →
      ShowsWith program w m y f p →
      ShowsWith program w m (parallel gates x y) (both d f)
      (option_and_then (λ s. option_and_then (over_both program.theory gates s) p) o)
  both_shown gates x y d f None p none shown = λ k fs h.
      let i = (fold_both program w m gates x y d f k fs).0 h in
      none i.0.kind i.0.fields i.2
  both_shown gates x y d f (Some s) None left none = λ k fs h.
      let i = (fold_both program w m gates x y d f k fs).0 h in
      none i.1.kind i.1.fields i.3
  both_shown gates x y d f (Some s) (Some t) left right = by_answer (over_both program.theory gates s t) refl
    where
      by_answer : (o : Option Show) → over_both program.theory gates s t ≡ o →
          ShowsWith program w m (parallel gates x y) (both d f) o
      by_answer None q = λ k fs h.
          let i = (fold_both program w m gates x y d f k fs).0 h in
          let first = only_show x d s i.0 left i.2 in
          let second = only_show y f t i.1 right i.3 in
          none-some _ (sym q ∙ subst (λ z. over_both program.theory gates s z ≡ Some (record { kind = k; fields = fs })) second
          (subst (λ z. over_both program.theory gates z i.1 ≡ Some (record { kind = k; fields = fs })) first i.4))
      by_answer (Some z) q = (fold_both program w m gates x y d f z.kind z.fields).1 (s, t, left, right, q)

pub shows_are_made_of_shows : ShowsAreMadeOfShows
shows_are_made_of_shows program e w exact m = record {
  over_part = over_shown program e w exact m;
  over_both = both_shown program e w exact m;
}
