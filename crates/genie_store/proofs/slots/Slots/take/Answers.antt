use Rattle.std.proofs.Common.{arith, ap, sym, ◌∙◌, length, get_or, false}
use Rattle.genie_store.proofs.Listed.{last_in, was_free, taken}
use Rattle.genie_store.proofs.slots.Slots.take.Goals as goal

pub index_mut-requires : goal.index_mut-requires
index_mut-requires c = omega (arith, last_in _ _ _ _ _ c.self.invariant c.take-slot.ensures.list)

pub invariant_of-self : goal.invariant_of-self
invariant_of-self c = rw c.take-slot.ensures.room (taken _ _ _ _ _ c.self.invariant c.take-slot.ensures.list)

pub returns-clause-there : goal.returns-clause-there
returns-clause-there c = omega (arith, last_in _ _ _ _ _ c.self.invariant c.take-slot.ensures.list, ap length c.self.view_is)

pub returns-clause-was_free : goal.returns-clause-was_free
returns-clause-was_free c = ap (λ xs. get_or xs c.take-slot.result false) (sym c.self.view_is) ∙ was_free _ _ _ _ _ c.self.invariant c.take-slot.ensures.list
