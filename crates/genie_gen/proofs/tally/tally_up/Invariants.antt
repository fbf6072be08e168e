use Rattle.std.proofs.Common.{◌≡◌, take}
use Rattle.std.specs.List.{fold}
use Rattle.genie_gen.specs.Tallies.{with_byte}
use Rattle.genie_gen.proofs.tally.tally_up.Given as goal

abbrev pub invariant-bytes : goal.invariant-bytes
invariant-bytes l = l.tally ≡ fold with_byte l.fn.tally (take l.byte-index l.bytes)
