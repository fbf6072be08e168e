use Rattle.std.proofs.Common.{◌<◌, ap, sym, arith, subst, length}
use Rattle.genie_frame.specs.FrameTable.{FrameTable, owner_at}
use Rattle.genie_frame.proofs.Kept.{kept_counts}
use Rattle.genie_frame.specs.FrameTable.{Agree, counts_at}
use Rattle.genie_frame.proofs.frames.Frames.recount.Goals as goal

pub invariant_of-self : goal.invariant_of-self
invariant_of-self c =
    let there : c.args.f.0 < length c.self.inside.owners.items = omega (arith, ap (λ (t : FrameTable). length t.owners) c.self.view_is) in
    let agree = subst (λ (t : FrameTable). Agree (owner_at t c.args.f.0) (counts_at t c.args.f.0) → Agree (owner_at t c.args.f.0) c.args.counts) (sym c.self.view_is) c.requires.agree in
    kept_counts _ _ _ _ _ _ c.args.f.0 there c.self.invariant c.args.counts (agree (c.self.invariant.loans c.args.f.0))
