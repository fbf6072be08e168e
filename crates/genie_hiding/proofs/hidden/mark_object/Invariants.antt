use Rattle.std.proofs.Common.{◌≡◌, length}
use Rattle.genie_hiding.specs.Marking.{MarksObject}
use Rattle.genie_hiding.proofs.hidden.mark_object.Given as goal

abbrev pub invariant-entries : goal.invariant-entries
invariant-entries l = record {
  size : length l.marks ≡ length l.fn.marks;
  marks : MarksObject l.memory l.object.0 l.index l.fn.marks l.marks;
}
