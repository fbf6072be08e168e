use Rattle.genie_script.proofs.Bounds.{boot_is_part}
use Rattle.genie_script.proofs.boot_part.BootPart.new.Goals as goal

pub invariant_of-result : goal.invariant_of-result
invariant_of-result c = rw c.new.ensures.items (boot_is_part c.args.boot.now c.requires)
