use Rattle.std.proofs.Common.{◌≡◌, ◌+◌, ◌*◌, ◌≤◌, ◌∷◌, length, map, take, decimal}
use Rattle.genie_script.specs.Spelling.{spaced}
use Rattle.genie_script.proofs.word_text.put_numbers.Given as goal

abbrev pub invariant-numbers : goal.invariant-numbers
invariant-numbers l = record {
  text : l.out ≡ spaced (l.word ∷ map decimal (take l.n-index l.numbers));
  most : length l.out ≤ 7 + 11 * l.n-index;
}
