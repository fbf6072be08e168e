use Rattle.std.proofs.Common.{◌≡◌, vec_len}
use Rattle.std.specs.Prelude.{replicate, vec_capacity}
use Rattle.genie_store.proofs.memory.blank.Given as goal

abbrev pub invariant-loop : goal.invariant-loop
invariant-loop l = record {
  made : l.all.items ≡ replicate l.counter (replicate l.page 0);
  len : vec_len l.all ≡ l.counter;
  room : vec_capacity l.all ≡ l.slots;
}
