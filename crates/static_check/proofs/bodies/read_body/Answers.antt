use Rattle.std.proofs.Common.{◌∙◌, ◌++◌, ap, sym, length, pred}
use Rattle.std.specs.Prelude.{option_map}
use Rattle.static_constructs.specs.Views.{construct_of}
use Rattle.spec_core.specs.Code.{node_of}
use Rattle.static_readings.specs.Views.{functionality_of, heading_of, output_of}
use Rattle.static_compiler.proofs.Whole.{read_as}
use Rattle.static_processes.specs.Views.{entry_of}
use Rattle.static_processes.specs.Headings.{parameter_sorts}
use Rattle.static_check.specs.Bodies.{ending_refusals, unknown_in}
use Rattle.static_check.specs.Steps.{node_over}
use Rattle.static_check.specs.Views.{data_of, setting_of}
use Rattle.static_check.proofs.OneByOne.{heading_within, declared_at, sorts_at, body_read}
use Rattle.static_check.proofs.bodies.read_body.Goals as goal

pub heading_at-heading-requires : goal.heading_at-heading-requires
heading_at-heading-requires c = heading_within (data_of c.args.site.now.context) c.args.setting.now.headings.now c.args.setting.now.table.now c.args.number
    c.requires.headings c.requires.within

pub returns-clause-read : goal.returns-clause-read
returns-clause-read c =
    let e = entry_of c.args.entry.now in
    let read = output_of c.read.new.out in
    let found = option_map functionality_of c.in_ok-found.found in
    let there = setting_of c.read.new.site.context c.args.setting.now in
    body_read (setting_of c.args.site.now.context c.args.setting.now) c.args.number e (output_of c.args.out.now) read (output_of c.add_body_ending.new.out)
    found (option_map node_of c.in_ok-node.node) c.enter_body.new.site c.in_ok-enter_body.ensures
    (read_as c.enter_body.new.site e.process.body (construct_of c.in_ok-construct.construct) (output_of c.args.out.now) read found
    (sym c.in_ok-construct.ensures) c.in_ok-found.ensures.read)
    (c.in_ok-node.ensures
    ∙ ap (λ code. option_map (λ _. node_over there e c.read.new.site.context.variables (pred (length code))) found) c.in_ok-add_body_ending.ensures.code
    ∙ ap (λ z. option_map (λ _. node_over (setting_of z.context c.args.setting.now) e z.context.variables (pred (length read.code))) found)
    c.in_ok-found.ensures.site)
    c.in_ok-add_body_ending.ensures.code
    (λ x is.
    let n = c.sorts.ensures ∙ ap (λ z. length z.context.sorts) (c.in_ok-found.ensures.site ∙ c.in_ok-enter_body.ensures) in
    let hs = (heading_of c.heading_at-heading.result.now).sorts in
    let d = option_map functionality_of c.heading_at-heading.result.now.functionality in
    let q = data_of c.args.site.now.context in
    c.in_ok-add_body_ending.ensures.refusals x is
    ∙ ap (λ k. read.refusals ++ ending_refusals (unknown_in k hs) e.process.name.place d x) n
    ∙ ap (λ sorts. read.refusals ++ ending_refusals (unknown_in (length q.sorts) sorts) e.process.name.place d x)
    (sorts_at q c.args.setting.now.headings.now c.args.setting.now.table.now c.args.number c.heading_at-heading.result.now
    c.args.entry.now c.requires.headings c.requires.within c.heading_at-heading.ensures c.requires.entry)
    ∙ ap (λ d. read.refusals ++ ending_refusals (unknown_in (length q.sorts) (parameter_sorts q e.process.parameters)) e.process.name.place d x)
    (declared_at q c.args.setting.now.headings.now c.args.setting.now.table.now c.args.number c.heading_at-heading.result.now
    c.args.entry.now c.requires.headings c.requires.within c.heading_at-heading.ensures c.requires.entry))
