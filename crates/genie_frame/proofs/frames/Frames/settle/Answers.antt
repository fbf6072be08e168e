use Rattle.std.proofs.Common.{◌<◌, ap, ◌∙◌, arith, length}
use Rattle.genie_frame.specs.FrameTable.{FrameTable, owner_at, is_free}
use Rattle.genie_frame.proofs.Kept.{kept_owner, spare_place}
use Rattle.genie_frame.proofs.frames.Frames.settle.Goals as goal

pub list_free-requires : goal.list_free-requires
list_free-requires c =
    let there : c.args.f.0 < length c.self.inside.owners.items = omega (arith, ap (λ (t : FrameTable). length t.owners) c.self.view_is) in
    spare_place _ _ _ _ _ _ c.args.f.0 there c.self.invariant (ap (λ (t : FrameTable). is_free (owner_at t c.args.f.0)) c.self.view_is ∙ c.requires.taken)

pub invariant_of-self : goal.invariant_of-self
invariant_of-self c =
    let there : c.args.f.0 < length c.self.inside.owners.items = omega (arith, ap (λ (t : FrameTable). length t.owners) c.self.view_is) in
    rw c.list_free.ensures (kept_owner _ _ _ _ _ _ c.args.f.0 there c.self.invariant c.args.owner c.args.counts (ap (λ (t : FrameTable). is_free (owner_at t c.args.f.0)) c.self.view_is ∙ c.requires.taken) c.requires.agree)
