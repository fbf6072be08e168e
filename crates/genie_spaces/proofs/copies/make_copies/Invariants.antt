use Rattle.std.proofs.Common.{◌≡◌}
use Rattle.genie_space.specs.Spaces.{regions_of}
use Rattle.genie_spaces.specs.Forking.{HasCopies, with_entries}
use Rattle.genie_spaces.proofs.copies.make_copies.Given as goal

abbrev pub invariant-regions : goal.invariant-regions
invariant-regions l = record {
  only : l.kernel ≡ record (l.fn.kernel) { memory = with_entries l.fn.kernel l.kernel.memory.objects };
  copies : HasCopies l.fn.kernel l.child (regions_of l.pid l.fn.kernel.spaces) l.i l.copies l.kernel.memory.objects;
}
