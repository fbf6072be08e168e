use Rattle.std.proofs.Common.{◌≡◌, vec_len}
use Rattle.std.specs.Prelude.{replicate, vec_capacity}
use Rattle.genie_device.specs.Buffers.{free_buffer}
use Rattle.genie_device.proofs.buffers.free_buffers.Given as goal

abbrev pub invariant-loop : goal.invariant-loop
invariant-loop l = record {
  made : l.all.items ≡ replicate l.counter (free_buffer l.room);
  len : vec_len l.all ≡ l.counter;
  room : vec_capacity l.all ≡ l.count;
}
