use Rattle.std.proofs.Common.{◌-◌, ◌+◌, ◌≤◌, ◌≡◌, length}
use Rattle.genie_device.proofs.Receiving.{Landed}
use Rattle.genie_device.proofs.receive.receive.Given as goal

abbrev pub invariant-runs : goal.invariant-runs
invariant-runs g l = record {
  so : Landed l.handle l.at l.budget (g.H.Host.view l.initial.host) (g.H.Host.view l.host) (g.L.Landing.content l.initial.landing) (g.L.Landing.content l.landing) l.moved;
  ready : g.L.Landing.is_ready l.landing;
  later : g.L.Landing.count l.initial.landing ≤ g.L.Landing.count l.landing;
  most : g.L.Landing.count l.landing ≤ g.L.Landing.count l.initial.landing + l.moved;
  kept : g.L.Landing.kept l.initial.landing l.landing;
  buffer : length l.buffer.items ≡ length l.initial.buffer.items;
}

abbrev pub decreases-runs : goal.decreases-runs
decreases-runs g l = l.budget - l.moved
