use Rattle.std.proofs.Common.{◌≡◌, vec_len, []}
use Rattle.std.specs.Prelude.{replicate, vec_capacity}
use Rattle.genie_object.proofs.objects.all_empty.Given as goal

abbrev pub invariant-loop : goal.invariant-loop
invariant-loop l = record {
  made : l.all.items ≡ replicate l.counter [];
  len : vec_len l.all ≡ l.counter;
  room : vec_capacity l.all ≡ 512;
}
