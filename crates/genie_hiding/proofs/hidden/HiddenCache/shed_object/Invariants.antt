use Rattle.std.proofs.Common.{◌≡◌, ◌<◌, ℕ}
use Rattle.genie_store.specs.StoreView.{StoreView}
use Rattle.genie_hiding.specs.Hidden.{objects_of}
use Rattle.genie_hiding.specs.Rooms.{MakesRoom, IsShed}
use Rattle.genie_hiding.proofs.hidden.HiddenCache.shed_object.Given as goal

abbrev pub invariant-entries : goal.invariant-entries
invariant-entries l = record {
  room : (v : StoreView) → MakesRoom (objects_of l.self) l.fn.memory l.memory v v;
  shed : (i : ℕ) → i < l.index → IsShed l.memory l.object.0 i;
  meters : l.memory.frames.meters ≡ l.fn.memory.frames.meters;
}
