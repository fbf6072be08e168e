use Rattle.std.proofs.Common.{ap}
use Rattle.genie_frame.proofs.Kept.{wired_agrees}
use Rattle.genie_frame.proofs.frames.Frames.unwire.Goals as goal

pub recount-requires-clause-agree : goal.recount-requires-clause-agree
recount-requires-clause-agree c a =
    let e = c.counts-counts.ensures in
    wired_agrees _ _ _ (ap (λ x. x.strong) e) (ap (λ x. x.weak) e) (ap (λ x. x.input) e) a
