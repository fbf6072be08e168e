use Rattle.std.proofs.Common.{arith}
use Rattle.genie_store.proofs.Listed.{none_taken}
use Rattle.genie_store.proofs.slots.Slots.new.Goals as goal

pub invariant_of-result : goal.invariant_of-result
invariant_of-result c = none_taken c.args.pages _ _ (c.in_ok-taken.ensures.items_if_clones_equal (λ y e. e)) c.in_ok-free.ensures (omega (arith, c.ranges.pages.fits))
