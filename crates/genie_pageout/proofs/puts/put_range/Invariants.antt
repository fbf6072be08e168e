use Rattle.std.proofs.Common.{◌≡◌, ◌≤◌, ◌+◌}
use Rattle.std.specs.Prelude.{nat_lt, if◌then◌else◌}
use Rattle.genie_object.specs.Costs.{Spends}
use Rattle.genie_hiding.specs.Hidden.{objects_of}
use Rattle.genie_hiding.specs.Rooms.{MakesRoom}
use Rattle.genie_pageout.specs.Going.{allowed, AreMarks, AreGone, StayGone}
use Rattle.genie_pageout.proofs.puts.put_range.Given as goal

abbrev pub invariant-frames : goal.invariant-frames
invariant-frames g l = record {
  room : MakesRoom (objects_of l.hidden) l.fn.memory l.memory (g.S.Store.view l.fn.store) (g.S.Store.view l.store);
  faults : (g.S.Store.view l.store).faults ≡ (g.S.Store.view l.fn.store).faults;
  marks : AreMarks l.memory (objects_of l.hidden) l.marks;
  went : allowed l.memory (objects_of l.hidden) + l.done ≡ allowed l.fn.memory (objects_of l.hidden);
  few : l.done ≤ l.n;
  fits : l.done ≤ l.f;
  here : AreGone l.memory (objects_of l.hidden) l.from l.f;
  gone : StayGone (objects_of l.hidden) l.fn.memory l.memory;
  puts : l.memory.frames.meters.puts ≡ l.fn.memory.frames.meters.puts + l.done;
  clock : l.clock ≡ (if nat_lt l.from l.f then l.f else l.fn.clock);
  order : l.from ≤ l.f;
  idle : l.n ≡ 0 → l.f ≡ l.from;
  since : l.done + l.from ≤ l.f;
  meters : Spends 0 0 l.f 0 l.fn.memory.frames.meters l.memory.frames.meters;
}
