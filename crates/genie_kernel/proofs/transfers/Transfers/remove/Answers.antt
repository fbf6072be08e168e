use Rattle.std.proofs.Common.{◌≡◌, ◌<◌, ◌≤◌, true, false, Some, None, sym, ap, subst, ◌∙◌, refl, length, get_or, arith}
use Rattle.std.specs.Prelude.{find, is_some, unwrap_or}
use Rattle.std.specs.List.{remove}
use Rattle.std.specs.Vec.{vec_capacity}
use Rattle.std.proofs.lemmas.List.{length-map, get_or-map}
use Rattle.slab.specs.Slab.{Updates}
use Rattle.genie_base.specs.Lemmas.Places.{any_default}
use Rattle.genie_model.specs.Lemmas.Lists.{find_none}
use Rattle.genie_kernel.specs.Calls.{has_number}
use Rattle.genie_kernel.specs.Order.{IsOrder, no_transfer, transfers_of, transfer_at}
use Rattle.genie_kernel.specs.Lemmas.Searching.{first_found, first_removed}
use Rattle.genie_kernel.proofs.Orders.{transfers_removed, order_removed}
use Rattle.genie_kernel.proofs.transfers.Transfers.remove.Goals as goal

there : (c : goal.In-Some-try_remove) → c.in-Some.i < length c.self.inside.order.items
there c =
    let within = c.in-Some.ensures.found.there in
    let same : length (transfers_of c.self.inside.slots c.self.inside.order.items) ≡ length c.args.self.now = ap length c.self.view_is in
    omega (arith, within, same, length-map c.self.inside.order.items (transfer_at c.self.inside.slots))

key : (c : goal.In-Some-try_remove) → c.remove-key.result ≡ get_or c.self.inside.order.items c.in-Some.i 0
key c = c.remove-key.ensures.value ∙ any_default c.self.inside.order.items c.in-Some.i c.remove-key.result 0 (there c)

updates : (c : goal.In-Some-try_remove) → Updates c.self.inside.slots c.try_remove.new.self (get_or c.self.inside.order.items c.in-Some.i 0) None
updates c = subst (λ k. Updates c.self.inside.slots c.try_remove.new.self k None) (key c) c.try_remove.ensures.updates

pub invariant_of-self : goal.invariant_of-self
invariant_of-self c =
    let grown : vec_capacity c.self.inside.order ≤ vec_capacity c.remove-key.new.self = let same = c.remove-key.ensures.capacity in omega (arith, same) in
    subst (λ keys. IsOrder c.try_remove.new.self keys (vec_capacity c.remove-key.new.self)) (sym c.remove-key.ensures.items)
    (order_removed c.self.inside.slots c.try_remove.new.self c.self.inside.order.items (vec_capacity c.self.inside.order) c.in-Some.i c.self.invariant (there c) (updates c) (vec_capacity c.remove-key.new.self) grown c.in-Some-try_remove.ensures.len c.try_remove.ensures.capacity)

pub unreachable-requires-in-None : goal.unreachable-requires-in-None
unreachable-requires-in-None c = let none = find_none (has_number c.args.id.0) c.args.self.now (c.in-None.ensures.none refl) in let no : is_some (find (has_number c.args.id.0) c.args.self.now) ≡ false = ap is_some none in let yes : is_some (find (has_number c.args.id.0) c.args.self.now) ≡ true = c.requires in cc

pub returns-clause-removed : goal.returns-clause-removed
returns-clause-removed c =
    let found = first_found (has_number c.args.id.0) c.args.self.now c.in-Some.i no_transfer c.in-Some.ensures.found in
    let at : get_or c.args.self.now c.in-Some.i no_transfer ≡ transfer_at c.self.inside.slots (get_or c.self.inside.order.items c.in-Some.i 0) = ap (λ ts. get_or ts c.in-Some.i no_transfer) (sym c.self.view_is) ∙ get_or-map (transfer_at c.self.inside.slots) c.self.inside.order.items c.in-Some.i 0 no_transfer (there c) in
    let held : transfer_at c.self.inside.slots c.remove-key.result ≡ c.in-Some-try_remove.transfer = ap (λ o. unwrap_or o no_transfer) (sym c.in-Some-try_remove.ensures.value) in
    found ∙ ap Some (at ∙ ap (transfer_at c.self.inside.slots) (sym (key c)) ∙ held)

pub returns-clause-others : goal.returns-clause-others
returns-clause-others c =
    ap (transfers_of c.try_remove.new.self) c.remove-key.ensures.items
    ∙ transfers_removed c.self.inside.slots c.try_remove.new.self c.self.inside.order.items (vec_capacity c.self.inside.order) c.in-Some.i c.self.invariant (there c) (updates c)
    ∙ ap (λ ts. remove ts c.in-Some.i) c.self.view_is
    ∙ first_removed (has_number c.args.id.0) c.args.self.now c.in-Some.i no_transfer c.in-Some.ensures.found
