use Rattle.std.proofs.Common.{◌≡◌, ◌<◌, length, subst, ap, sym, ◌∙◌, ◌++◌, [], ◌∷◌, arith}
use Rattle.std.proofs.lemmas.List.{length-map}
use Rattle.std.specs.Vec.{vec_capacity}
use Rattle.genie_kernel.specs.Order.{IsOrder, transfers_of, transfer_at}
use Rattle.genie_kernel.proofs.Orders.{transfers_pushed, order_pushed}
use Rattle.genie_kernel.proofs.transfers.Transfers.add.Goals as goal

pub invariant_of-self : goal.invariant_of-self
invariant_of-self c =
    let k = c.insert_reserved-key.ensures in
    let same : length (transfers_of c.self.inside.slots c.self.inside.order.items) ≡ length c.args.self.now = ap length c.self.view_is in
    let few : length c.self.inside.order.items < 64 = omega (arith, c.requires, same, length-map c.self.inside.order.items (transfer_at c.self.inside.slots)) in
    subst (λ keys. IsOrder c.insert_reserved-key.new.self keys (vec_capacity c.push.new.self)) (sym c.in-Ok.ensures.items)
    (order_pushed _ _ _ _ _ _ c.self.invariant k.was_vacant k.updates _ c.in-Ok.ensures.capacity few k.len k.capacity)

pub returns : goal.returns
returns c =
    let k = c.insert_reserved-key.ensures in
    ap (transfers_of c.insert_reserved-key.new.self) c.in-Ok.ensures.items
    ∙ transfers_pushed _ _ _ _ _ _ c.self.invariant k.was_vacant k.updates
    ∙ ap (λ items. items ++ c.args.transfer ∷ []) c.self.view_is
