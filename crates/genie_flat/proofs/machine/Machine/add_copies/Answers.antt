use Rattle.std.proofs.Common.{length, ap, ◌∙◌, arith}
use Rattle.genie_model.specs.Regions.{regions_at}
use Rattle.genie_model.specs.State.{State}
use Rattle.genie_model.specs.Space.{add_region, copy_of}
use Rattle.genie_flat.proofs.Copies.{copies_more}
use Rattle.genie_model.specs.Lemmas.RegionCounts.{added_few}
use Rattle.genie_flat.proofs.machine.Machine.add_copies.Goals as goal

pub loop-region-preserved : goal.loop-region-preserved
loop-region-preserved c =
    let s = c.loop-region.self in
    let p = c.args.pid in
    let d = c.region-item.result in
    let fewer = added_few s p (copy_of s d) in
    let same = ap (λ (t : State). length (regions_at t p)) c.in_ok-add_copy.ensures in
    record {
      so_far = copies_more s c.add_copy.new.self _ p c.args.regions.now c.loop-region.region-index d c.loop-region-test.true c.loop-region.invariant.so_far (c.in_ok-add_copy.ensures ∙ ap (λ r. add_region s p (copy_of s r)) c.region-item.is);
      few = omega (arith, fewer, same, c.loop-region.invariant.few);
    }
