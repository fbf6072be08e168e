use Rattle.std.proofs.Common.{◌≡◌, length}
use Rattle.genie_hiding.specs.Hidden.{objects_of}
use Rattle.genie_hiding.proofs.Marking.{AreMarked}
use Rattle.genie_hiding.proofs.hidden.HiddenCache.mark.Given as goal

abbrev pub invariant-regions : goal.invariant-regions
invariant-regions l = record {
  size : length l.marks ≡ length l.fn.marks;
  marks : AreMarked l.memory (objects_of l.self) l.at l.marks;
}
