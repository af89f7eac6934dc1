use Rattle.std.proofs.Common.{◌-◌, refl, string_bytes}
use Rattle.std.proofs.lemmas.Result.{on_ok_weaker}
use Rattle.spec_generator.proofs.Chains.{chain_put}
use Rattle.spec_generator.proofs.specification.put_chain.Goals as goal

pub returns : goal.returns
returns c =
    on_ok_weaker c.put_closings.result
    (λ h.
    chain_put c.args.size (c.args.size - 2) (string_bytes c.args.out.now) (string_bytes c.put_links.new.out)
    (string_bytes c.put_cell.new.out) (string_bytes c.put_closings.new.out) c.requires refl c.in_ok-put_links.ensures
    c.in_ok-put_cell.ensures h)
    c.put_closings.ensures
