use Rattle.std.proofs.Common.{◌≡◌, ◌<◌, true, false, sym, ap, ◌∙◌, refl, length, set, get_or, arith}
use Rattle.std.specs.Prelude.{find, is_some, unwrap_or}
use Rattle.std.proofs.lemmas.List.{length-map, get_or-map}
use Rattle.genie_base.specs.Lemmas.Places.{any_default}
use Rattle.slab.specs.Slab.{with_value}
use Rattle.genie_model.specs.Lemmas.Lists.{find_none}
use Rattle.genie_kernel.specs.Calls.{has_number}
use Rattle.genie_kernel.specs.Changes.{changed_by}
use Rattle.genie_kernel.specs.Order.{no_transfer, transfers_of, transfer_at}
use Rattle.genie_kernel.specs.Lemmas.Searching.{first_changed}
use Rattle.genie_kernel.proofs.Orders.{transfers_changed}
use Rattle.genie_kernel.proofs.transfers.Transfers.change.Goals as goal

pub unreachable-requires-in-None : goal.unreachable-requires-in-None
unreachable-requires-in-None c = let none = find_none (has_number c.args.id.0) c.args.self.now (c.in-None.ensures.none refl) in let no : is_some (find (has_number c.args.id.0) c.args.self.now) ≡ false = ap is_some none in let yes : is_some (find (has_number c.args.id.0) c.args.self.now) ≡ true = c.requires in cc

pub returns : goal.returns
returns c =
    let slots = c.self.inside.slots in
    let order = c.self.inside.order.items in
    let i = c.in-Some.i in
    let within = c.in-Some.ensures.found.there in
    let same : length (transfers_of slots order) ≡ length c.args.self.now = ap length c.self.view_is in
    let there : i < length order = omega (arith, within, same, length-map order (transfer_at slots)) in
    let key : c.index.result.now ≡ get_or order i 0 = c.index.ensures ∙ any_default order i c.index.result.now 0 there in
    let at : get_or c.args.self.now i no_transfer ≡ transfer_at slots (get_or order i 0) = ap (λ ts. get_or ts i no_transfer) (sym c.self.view_is) ∙ get_or-map (transfer_at slots) order i 0 no_transfer there in
    let held : c.in-Some-get_mut.transfer.now ≡ transfer_at slots c.index.result.now = ap (λ o. unwrap_or o no_transfer) c.in-Some-get_mut.ensures.value in
    let now : c.apply.new.transfer ≡ changed_by c.args.change (get_or c.args.self.now i no_transfer) = c.apply.ensures ∙ ap (changed_by c.args.change) (held ∙ ap (transfer_at slots) key ∙ sym at) in
    (λ j. transfers_of (with_value slots (key j) (now j)) order)
    ∙ transfers_changed slots order _ i (changed_by c.args.change (get_or c.args.self.now i no_transfer)) c.self.invariant there
    ∙ ap (λ ts. set ts i (changed_by c.args.change (get_or c.args.self.now i no_transfer))) c.self.view_is
    ∙ first_changed (has_number c.args.id.0) (changed_by c.args.change) c.args.self.now i no_transfer c.in-Some.ensures.found
