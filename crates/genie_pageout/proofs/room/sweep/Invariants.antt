use Rattle.std.proofs.Common.{◌≡◌, ◌≤◌, ◌+◌}
use Rattle.std.specs.Prelude.{nat_lt, count_by, if◌then◌else◌}
use Rattle.genie_frame.specs.FrameTable.{is_free}
use Rattle.genie_object.specs.Costs.{Spends}
use Rattle.genie_hiding.specs.Hidden.{objects_of}
use Rattle.genie_hiding.specs.Rooms.{MakesRoom, AllShed}
use Rattle.genie_pageout.specs.Going.{AreSwept}
use Rattle.genie_pageout.proofs.room.sweep.Given as goal

abbrev pub invariant-frames : goal.invariant-frames
invariant-frames g l = record {
  room : MakesRoom (objects_of l.hidden) l.fn.memory l.memory (g.S.Store.view l.fn.store) (g.S.Store.view l.store);
  shed : AllShed l.memory (objects_of l.hidden);
  faults : (g.S.Store.view l.store).faults ≡ (g.S.Store.view l.fn.store).faults;
  swept : AreSwept l.memory l.from l.f;
  clock : l.clock ≡ (if nat_lt l.from l.f then l.f else l.fn.clock);
  order : l.from ≤ l.f;
  idle : l.k ≤ count_by is_free l.fn.memory.frames.owners → l.f ≡ l.from;
  puts : l.memory.frames.meters.puts + l.from ≤ l.fn.memory.frames.meters.puts + l.f;
  meters : Spends 0 0 l.f 0 l.fn.memory.frames.meters l.memory.frames.meters;
}
