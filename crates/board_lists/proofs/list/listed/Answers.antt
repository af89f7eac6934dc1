use Rattle.std.proofs.Common.{◌≡◌, ◌∙◌, List, ap, length, map, rules, subst, sym}
use Rattle.std.proofs.lemmas.List.{length-map, take-map}
use Rattle.spec_core.specs.Lists.{Each}
use Rattle.rule_model.specs.declared.rules.Rules.{Rules}
use Rattle.rule_model.specs.Derivations.{derivation_of}
use Rattle.board_core.specs.Views.{program, state, tree}
use Rattle.board_lists.specs.Listings.{MayAct}
use Rattle.board_lists.proofs.Firsts.{all_act, is_less, is_listing}
use Rattle.board_lists.proofs.list.listed.Goals as goal

pub with_actions-requires : goal.with_actions-requires
with_actions-requires c =
    let v = c.args.board.now in
    let windowed = c.args.windowed.items in
    let known = c.what_is_known_is_so.ensures in
    let log = c.log_is_a_derivation.ensures in
    record {
      act =
          subst (λ (xs : List Rules). Each (MayAct (program v) (state v) (tree v)) (map derivation_of xs))
          (sym (c.deref.ensures.value ∙ c.truncate.ensures.items))
          (subst (Each (MayAct (program v) (state v) (tree v))) (take-map derivation_of c.args.most windowed)
          (all_act v (known.known, known.living) log.ready c.generations_are_sound.ensures.apart log.reached _ c.args.most
          (map derivation_of windowed) c.requires.windowed));
    }

pub returns : goal.returns
returns c =
    let v = c.args.board.now in
    let windowed = c.args.windowed.items in
    let known = c.what_is_known_is_so.ensures in
    let log = c.log_is_a_derivation.ensures in
    let same : c.len.result ≡ length windowed = search rules in
    let further = is_less c.args.most c.len.result (length (map derivation_of windowed)) (same ∙ sym (length-map windowed derivation_of)) in
    is_listing v (known.known, known.living) log.ready c.generations_are_sound.ensures.apart log.reached c.args.most
    (map derivation_of windowed) (map derivation_of c.args.beyond.items) c.requires.windowed c.requires.beyond _
    (c.in_ok-candidates.ensures.trees ∙ ap (map derivation_of) (c.deref.ensures.value ∙ c.truncate.ensures.items)
    ∙ sym (take-map derivation_of c.args.most windowed)) further c.first_of.ensures c.in_ok-candidates.ensures.candidates
