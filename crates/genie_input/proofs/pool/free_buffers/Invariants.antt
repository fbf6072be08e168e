use Rattle.std.specs.Prelude.{◌≡◌, replicate}
use Rattle.genie_input.specs.declared.pool.BufferState.TheVariants.{Free}
use Rattle.genie_input.proofs.pool.free_buffers.Given as goal

abbrev pub invariant-each : goal.invariant-each
invariant-each l = l.buffers.items ≡ replicate l.counter Free
