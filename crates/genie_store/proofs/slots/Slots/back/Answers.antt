use Rattle.std.proofs.Common.{arith, ap, ◌∙◌, get_or, false}
use Rattle.genie_store.proofs.Listed.{spare_place, given}
use Rattle.genie_store.proofs.slots.Slots.back.Goals as goal

pub give-requires : goal.give-requires
give-requires c = omega (arith, spare_place _ _ c.args.slot _ c.self.invariant (ap (λ xs. get_or xs c.args.slot false) c.self.view_is ∙ c.requires))

pub invariant_of-self : goal.invariant_of-self
invariant_of-self c = rw c.give.ensures (given _ _ c.args.slot _ c.self.invariant (ap (λ xs. get_or xs c.args.slot false) c.self.view_is ∙ c.requires))
