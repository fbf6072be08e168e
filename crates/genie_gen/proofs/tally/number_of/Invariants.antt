use Rattle.std.proofs.Common.{◌≡◌, take}
use Rattle.std.specs.List.{fold}
use Rattle.genie_gen.specs.Tallies.{with_digit}
use Rattle.genie_gen.proofs.tally.number_of.Given as goal

abbrev pub invariant-digits : goal.invariant-digits
invariant-digits l = l.number ≡ fold with_digit 0 (take l.digit-index l.digits)
