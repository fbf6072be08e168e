use Rattle.std.proofs.Common.{◌≡◌, ◌++◌, map}
use Rattle.std.specs.List.{range_with_len}
use Rattle.genie_gen.specs.Streams.{payload_byte}
use Rattle.genie_gen.proofs.source.put_payload.Given as goal

abbrev pub invariant-bytes : goal.invariant-bytes
invariant-bytes l = l.out ≡ l.fn.out ++ map (payload_byte l.device l.number) (range_with_len 0 l.at)
