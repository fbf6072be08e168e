use Rattle.std.proofs.Common.{◌≡◌, vec_len}
use Rattle.std.specs.Prelude.{vec_capacity}
use Rattle.std.specs.List.{range_with_len}
use Rattle.genie_base.proofs.free_list.FreeList.below.Given as goal

abbrev pub invariant-loop-number : goal.invariant-loop-number
invariant-loop-number l = record {
  list : l.numbers.items ≡ range_with_len 0 l.number;
  len : vec_len l.numbers ≡ l.number;
  room : vec_capacity l.numbers ≡ l.n;
}
