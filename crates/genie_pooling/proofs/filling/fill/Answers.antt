use Rattle.std.proofs.Common.{refl, subst}
use Rattle.genie_frame.specs.declared.frame.InLoan.{InLoan}
use Rattle.std.proofs.Common.{List}
use Rattle.genie_model.specs.Tables.{entry}
use Rattle.genie_plan.specs.Plans.{OnlyRange, input_frames, range_bytes}
use Rattle.genie_receiving.specs.Payload.{MovesPayload}
use Rattle.genie_pooling.proofs.Loans.{device_here, place_filled, pool_here, ready_in}
use Rattle.genie_pooling.proofs.filling.fill.Goals as goal

pub move_into-requires-clause-ready : goal.move_into-requires-clause-ready
move_into-requires-clause-ready g c = ready_in c.args.frames.now c.args.first c.args.len (entry c.args.pools.now c.args.dev) c.in-Some.pool c.loans_of-loans.result.now (pool_here c.args.pools.now c.args.dev c.index-pools-dev.result c.in-Some.pool c.in-Some.is c.requires.pool) c.requires.pool c.requires.ready c.loans_of-loans.ensures

pub returns : goal.returns
returns g c =
    let pooled = pool_here c.args.pools.now c.args.dev c.index-pools-dev.result c.in-Some.pool c.in-Some.is c.requires.pool in
    let b = place_filled (entry c.args.pools.now c.args.dev) c.in-Some.pool pooled c.requires.pool in
    let same = c.loans_of-loans.ensures b.0 b.1 in
    record {
      before = c.in-Some-devices.device;
      after = c.move_into.new.device;
      there = device_here c.args.devices.now c.args.dev c.index-devices-dev.result c.in-Some-devices.device (g.H.Host.view c.args.host.now) c.in-Some-devices.is c.requires.device;
      pool = c.in-Some.pool;
      buffer = b.0;
      pooled = pooled;
      filling = b.1;
      moves = subst (λ (l : List InLoan). MovesPayload c.args.taken c.args.n (g.H.Host.view c.args.host.now) (g.H.Host.view c.move_into.new.host) c.in-Some-devices.device c.move_into.new.device (range_bytes c.args.frames.now (input_frames l) c.args.first c.args.len) (range_bytes c.move_into.new.frames (input_frames l) c.args.first c.args.len) c.move_into.result) same c.move_into.ensures.step;
      device = refl;
      only = subst (λ (l : List InLoan). OnlyRange (input_frames l) c.args.first c.args.len c.args.frames.now c.move_into.new.frames) same c.move_into.ensures.only;
      later = c.move_into.ensures.later;
      most = c.move_into.ensures.most;
      allowed = c.move_into.ensures.allowed;
    }
