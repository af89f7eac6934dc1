use Rattle.std.proofs.Common.{map}
use Rattle.spec_core.specs.Code.{exit_value_of}
use Rattle.spec_core.specs.Terms.{term_of, instance}
use Rattle.spec_core.proofs.Options.{if_none_at}
use Rattle.rule_origins.specs.Values.{assignment}
use Rattle.node_values.specs.Found.{Spelled}
use Rattle.node_values.proofs.Finding.{of_some}
use Rattle.node_values.proofs.Splitting.{others, mapped}
use Rattle.match_code.specs.Prepared.{program_in}
use Rattle.node_steps.specs.Knowing.{AreExitAt}
use Rattle.node_steps.proofs.Knowing.{told_exit, untold_exit, untold_exit_later, chosen_exit, unchosen_exit}
use Rattle.node_steps.proofs.fields.+known_exit.Goals as goal

pub returns-in-None-clause-none : goal.returns-in-None-clause-none
returns-in-None-clause-none t c =
    let theory = (program_in c.args.prepared.now).theory in
    let s = assignment theory c.args.values.now in
    untold_exit theory c.requires.executable s (map exit_value_of c.args.fields.now) (map exit_value_of (others c.args.fields.now))
    (term_of c.in-Give.term)
    (mapped exit_value_of c.args.fields.now c.first-item.result _ c.in-len1-up.len_at_least c.first-item.is c.in-Give.is)
    (if_none_at c.in_ok-told-in-Give.field-0 c.in-None.is c.in_ok-told-in-Give.ensures.none)

pub returns-in-None-2-clause-none : goal.returns-in-None-2-clause-none
returns-in-None-2-clause-none t c =
    let theory = (program_in c.args.prepared.now).theory in
    let s = assignment theory c.args.values.now in
    untold_exit_later theory c.requires.executable s (map exit_value_of c.args.fields.now) (map exit_value_of (others c.args.fields.now))
    (term_of c.in-Give.term)
    (mapped exit_value_of c.args.fields.now c.first-item.result _ c.in-len1-up.len_at_least c.first-item.is c.in-Give.is)
    (if_none_at c.in_ok-known_exit-in-Some.field-0 c.in-None-2.is c.in_ok-known_exit-in-Some.ensures.none)

pub returns-in_ok-in_front-in-Some-2-clause-some : goal.returns-in_ok-in_front-in-Some-2-clause-some
returns-in_ok-in_front-in-Some-2-clause-some t c =
    let theory = (program_in c.args.prepared.now).theory in
    let s = assignment theory c.args.values.now in
    told_exit theory c.requires.executable s c.args.from (map exit_value_of c.args.fields.now)
    (map exit_value_of (others c.args.fields.now)) (term_of c.in-Give.term) _ c.in-Some-2.others.items c.in-Some.value
    (mapped exit_value_of c.args.fields.now c.first-item.result _ c.in-len1-up.len_at_least c.first-item.is c.in-Give.is)
    (of_some (λ v. Spelled theory (instance s (term_of c.in-Give.term)) v) c.in_ok-told-in-Give.field-0 c.in-Some.value c.in-Some.is
    c.in_ok-told-in-Give.ensures.some)
    (of_some (λ known. AreExitAt theory s c.args.from (map exit_value_of (others c.args.fields.now)) known.items)
    c.in_ok-known_exit-in-Some.field-0 c.in-Some-2.others c.in-Some-2.is c.in_ok-known_exit-in-Some.ensures.some)
    c.in_ok-in_front-in-Some-2.ensures

pub returns-in-None-3-clause-none : goal.returns-in-None-3-clause-none
returns-in-None-3-clause-none t c =
    let theory = (program_in c.args.prepared.now).theory in
    let s = assignment theory c.args.values.now in
    unchosen_exit theory c.requires.executable s _ (map exit_value_of c.args.fields.now) (map exit_value_of (others c.args.fields.now))
    (mapped exit_value_of c.args.fields.now c.first-item.result _ c.in-len1-up.len_at_least c.first-item.is c.in-Any.is)
    (if_none_at c.in_ok-known_exit-in-Any.field-0 c.in-None-3.is c.in_ok-known_exit-in-Any.ensures.none)

pub returns-in_ok-in_front-in-Some-3-clause-some : goal.returns-in_ok-in_front-in-Some-3-clause-some
returns-in_ok-in_front-in-Some-3-clause-some t c =
    let theory = (program_in c.args.prepared.now).theory in
    let s = assignment theory c.args.values.now in
    chosen_exit theory c.requires.executable s c.args.from c.in_ok-next-in-Any.next _ (map exit_value_of c.args.fields.now)
    (map exit_value_of (others c.args.fields.now)) _ c.in-Some-3.others.items
    (mapped exit_value_of c.args.fields.now c.first-item.result _ c.in-len1-up.len_at_least c.first-item.is c.in-Any.is)
    c.in_ok-next-in-Any.ensures
    (of_some (λ known. AreExitAt theory s c.in_ok-next-in-Any.next (map exit_value_of (others c.args.fields.now)) known.items)
    c.in_ok-known_exit-in-Any.field-0 c.in-Some-3.others c.in-Some-3.is c.in_ok-known_exit-in-Any.ensures.some)
    c.in_ok-in_front-in-Some-3.ensures
