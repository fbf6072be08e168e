use Rattle.std.proofs.Common.{◌-◌, ◌≡◌, false}
use Rattle.genie_base.specs.Headers.{is_whole_header}
use Rattle.genie_device.proofs.Gathering.{Gathered}
use Rattle.genie_device.proofs.gather.gather.Given as goal

abbrev pub invariant-runs : goal.invariant-runs
invariant-runs g l = record {
  so : Gathered l.handle l.n (g.H.Host.view l.initial.host) (g.H.Host.view l.host) l.initial.gathered.items l.gathered.items l.moved;
  short : is_whole_header l.gathered.items ≡ false;
}

abbrev pub decreases-runs : goal.decreases-runs
decreases-runs g l = l.n - l.moved
