use Rattle.std.proofs.Common.{◌≡◌, drop}
use Rattle.genie_script.specs.Numbers.{digits_on}
use Rattle.genie_script.proofs.numbers.digits.Given as goal

abbrev pub invariant-digits : goal.invariant-digits
invariant-digits l = digits_on l.value (drop l.byte-index l.text) ≡ digits_on 0 l.text
