use Rattle.std.specs.Prelude.{◌/◌, ◌%◌}
use Rattle.genie_finish.proofs.Readying.{ReadySoFar}
use Rattle.genie_finish.proofs.ready.ready_range.Given as goal

abbrev pub invariant-pages : goal.invariant-pages
invariant-pages g l = ReadySoFar l.fn.memory l.memory (g.S.Store.view l.fn.store) (g.S.Store.view l.store) l.range.object.0 (l.range.off / l.fn.memory.frames.page) (l.range.off % l.fn.memory.frames.page) l.range.len l.k l.done l.off
