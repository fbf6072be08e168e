use Rattle.std.proofs.Common.{◌≡◌, ◌≤◌}
use Rattle.std.specs.Prelude.{count_by}
use Rattle.genie_frame.specs.FrameTable.{is_free}
use Rattle.genie_store.specs.StoreView.{StoreView}
use Rattle.genie_hiding.specs.Hidden.{objects_of}
use Rattle.genie_hiding.specs.Rooms.{MakesRoom, AreShed}
use Rattle.genie_hiding.proofs.hidden.HiddenCache.shed_until.Given as goal

abbrev pub invariant-regions : goal.invariant-regions
invariant-regions l = record {
  room : (v : StoreView) → MakesRoom (objects_of l.self) l.fn.memory l.memory v v;
  idle : l.k ≤ count_by is_free l.fn.memory.frames.owners → l.memory ≡ l.fn.memory;
  shed : AreShed l.memory (objects_of l.self) l.at;
  meters : l.memory.frames.meters ≡ l.fn.memory.frames.meters;
}
