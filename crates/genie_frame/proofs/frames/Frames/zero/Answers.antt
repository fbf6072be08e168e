use Rattle.std.proofs.Common.{◌<◌, ap, ◌∙◌, arith, length}
use Rattle.genie_frame.specs.FrameTable.{FrameTable}
use Rattle.genie_base.specs.Lemmas.Overlaid.{length-overlaid}
use Rattle.genie_frame.proofs.Kept.{kept_size}
use Rattle.genie_frame.proofs.frames.Frames.zero.Goals as goal

pub invariant_of-self : goal.invariant_of-self
invariant_of-self c =
    let there : c.args.f.0 < length c.self.inside.owners.items = omega (arith, ap (λ (t : FrameTable). length t.owners) c.self.view_is) in
    kept_size _ _ _ _ _ _ c.args.f.0 there c.self.invariant _ _ c.index_mut-bytes.ensures.value (ap length c.zero.ensures ∙ length-overlaid _ _ _)
