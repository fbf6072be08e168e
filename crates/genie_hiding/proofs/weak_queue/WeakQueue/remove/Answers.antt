use Rattle.std.proofs.Common.{◌≡◌, sym, ap, ◌∙◌}
use Rattle.std.specs.Prelude.{is_some, position, Some}
use Rattle.genie_hiding.specs.Queues.{IsWeakQueue, is_number, without}
use Rattle.genie_hiding.proofs.Numbers.{queue_without, removed_at, there}
use Rattle.genie_hiding.proofs.weak_queue.WeakQueue.remove.Goals as goal

one_less : (c : goal.After-remove) → c.remove.new.self.items ≡ without c.args.id.0 c.self.inside.ids.items
one_less c =
    let place : position (is_number c.args.id.0) c.self.inside.ids.items ≡ Some c.unwrap-at.result = ap (position (is_number c.args.id.0)) (sym c.as_slice.ensures.value) ∙ sym c.place_of.ensures ∙ c.unwrap-at.ensures in
    removed_at c.args.id.0 c.self.inside.ids.items c.remove.new.self.items c.unwrap-at.result c.self.invariant place c.remove.ensures.items

queue : (c : goal.After-remove) → IsWeakQueue c.remove.new.self.items
queue c = rw (one_less c) (queue_without c.args.id.0 c.self.inside.ids.items c.self.invariant)

pub unwrap-at-requires : goal.unwrap-at-requires
unwrap-at-requires c = ap is_some (c.place_of.ensures ∙ ap (position (is_number c.args.id.0)) (c.as_slice.ensures.value ∙ c.self.view_is)) ∙ there c.args.id.0 c.args.self.now c.requires

pub invariant_of-self : goal.invariant_of-self
invariant_of-self c = queue c

pub returns-clause-removed : goal.returns-clause-removed
returns-clause-removed c = rw (← c.self.view_is) (one_less c)

pub returns-clause-queue : goal.returns-clause-queue
returns-clause-queue c = queue c
