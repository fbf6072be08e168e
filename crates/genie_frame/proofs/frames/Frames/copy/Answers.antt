use Rattle.std.proofs.Common.{◌<◌, ap, arith, length}
use Rattle.genie_frame.specs.FrameTable.{FrameTable}
use Rattle.genie_frame.proofs.Kept.{kept_copied}
use Rattle.genie_frame.proofs.frames.Frames.copy.Goals as goal

pub invariant_of-self : goal.invariant_of-self
invariant_of-self c =
    let there : c.args.to.0 < length c.self.inside.owners.items = omega (arith, ap (λ (t : FrameTable). length t.owners) c.self.view_is) in
    kept_copied _ _ _ _ _ _ c.args.to.0 there c.self.invariant _ _ _ _ _ c.deref_mut.ensures.value c.deref_mut.ensures.len c.copy_run.ensures
