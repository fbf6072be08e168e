use Rattle.std.specs.Prelude.{◌/◌, ◌%◌}
use Rattle.genie_plan.specs.Plans.{input_frames}
use Rattle.genie_finish.proofs.Looping.{StoredSoFar}
use Rattle.genie_finish.proofs.range.store_range.Given as goal

abbrev pub invariant-pages : goal.invariant-pages
invariant-pages l = StoredSoFar l.fn.memory l.memory l.range.object.0 (l.range.off / l.fn.memory.frames.page) (l.range.off % l.fn.memory.frames.page) l.range.len l.few (input_frames l.loans) l.k l.done l.off
