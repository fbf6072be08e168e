use Rattle.std.proofs.Common.{◌≡◌, ◌+◌, ◌*◌, ◌++◌, ◌∷◌, length, take}
use Rattle.genie_script.specs.Hex.{hex_text}
use Rattle.genie_script.proofs.word_text.put_hex.Given as goal

abbrev pub invariant-bytes : goal.invariant-bytes
invariant-bytes l = record {
  text : l.out ≡ l.fn.out ++ 32 ∷ hex_text (take l.byte-index l.bytes);
  count : length l.out ≡ length l.fn.out + 1 + 2 * l.byte-index;
}
