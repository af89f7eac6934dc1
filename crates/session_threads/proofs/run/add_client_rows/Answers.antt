use Rattle.std.proofs.Common.{arith, ◌+◌, ◌<◌, ◌++◌, ◌∷◌, ◌≡◌, ◌∙◌, [], ap, refl, append_assoc, get_or, length, length-append, map, subst}
use Rattle.rule_model.specs.WishViews.{wish_of}
use Rattle.session_threads.proofs.Ordering.{client_more}
use Rattle.session_threads.proofs.run.add_client_rows.Goals as goal

pub loop-pass-preserved : goal.loop-pass-preserved
loop-pass-preserved c =
    let p = c.in-Some.pass in
    let i = c.loop-pass.invariant in
    let rest = c.pop.new.self.items in
    let one_less : length c.loop-pass.passes.items ≡ length rest + 1 = ap length c.in-Some.ensures.items ∙ length-append rest (p ∷ []) in
    let below : length rest < length c.args.clients.now =
    omega (arith, one_less, ap length i.1, length-append c.loop-pass.passes.items i.0, c.requires.each) in
    let count : c.len.result ≡ length rest = omega arith in
    let w = c.index-clients-len.result in (
      p ∷ i.0,
      i.1 ∙ ap (λ l. l ++ i.0) c.in-Some.ensures.items ∙ append_assoc rest (p ∷ []) i.0,
      client_more c.args.clients.now i.0 p c.index-clients-len.result (length rest) (length c.loop-pass.passes.items) c.args.rows.now.items
          c.loop-pass.rows.items c.insert.new.self.items _ below
          (subst (λ k. w ≡ get_or c.args.clients.now k w) count c.index-clients-len.is) one_less i.2 c.in_ok-insert.ensures.items
          (refl, ap (map wish_of) c.deref.ensures.value, refl),
    )
