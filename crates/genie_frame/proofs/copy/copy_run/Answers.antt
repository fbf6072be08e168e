use Rattle.std.proofs.Common.{[], arith}
use Rattle.genie_base.specs.Bytes.{overlaid, part}
use Rattle.genie_base.specs.Lemmas.Places.{any_default}
use Rattle.genie_frame.proofs.Runs.{made_up, made_down}
use Rattle.genie_frame.proofs.copy.copy_run.Goals as goal

pub returns-then-from-to-2 : goal.returns-then-from-to-2
returns-then-from-to-2 c =
    let e = c.split_at_mut-low.ensures in
    made_up (λ x t. overlaid c.args.to_off (part c.args.from_off c.args.n x) t) c.args.frames.now _ _ c.args.from c.args.to _ _ _ [] e.front e.back (omega arith) (omega arith) (any_default c.split_at_mut-low.result.0.now c.args.from c.index-low-from.result [] (omega arith)) (any_default c.split_at_mut-low.result.1.now 0 c.index-high-0.result [] (omega arith)) c.store_run.ensures

pub returns-else-from-to-2 : goal.returns-else-from-to-2
returns-else-from-to-2 c =
    let e = c.split_at_mut-low-else-from-to-2.ensures in
    made_down (λ x t. overlaid c.args.to_off (part c.args.from_off c.args.n x) t) c.args.frames.now _ _ c.args.from c.args.to _ _ _ [] e.front e.back (omega arith) (omega arith) (any_default c.split_at_mut-low-else-from-to-2.result.1.now 0 c.index-high-0-else-from-to-2.result [] (omega arith)) (any_default c.split_at_mut-low-else-from-to-2.result.0.now c.args.to c.index-low-to.result [] (omega arith)) c.store_run-else-from-to-2.ensures
