use Rattle.std.proofs.Common.{◌≡◌, ℕ, ◌<◌, true}
use Rattle.genie_spaces.specs.Marks.{is_marked}
use Rattle.genie_spaces.proofs.number.first_unmarked.Given as goal

abbrev pub invariant-numbers : goal.invariant-numbers
invariant-numbers l = (j : ℕ) → j < l.number → is_marked l.marks j ≡ true
