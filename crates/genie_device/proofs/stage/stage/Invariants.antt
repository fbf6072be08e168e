use Rattle.std.proofs.Common.{◌-◌, ◌≤◌}
use Rattle.std.specs.Prelude.{vec_capacity}
use Rattle.genie_device.proofs.Staging.{StagedSoFar}
use Rattle.genie_device.proofs.stage.stage.Given as goal

abbrev pub invariant-pieces : goal.invariant-pieces
invariant-pieces g l = record {
  so : StagedSoFar l.budget l.initial.staged.items l.staged.items (g.O.Outgoing.payload l.from) l.moved;
  room : vec_capacity l.initial.staged ≤ vec_capacity l.staged;
}

abbrev pub decreases-pieces : goal.decreases-pieces
decreases-pieces g l = l.budget - l.moved
