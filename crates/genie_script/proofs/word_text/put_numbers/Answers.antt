use Rattle.std.proofs.Common.{refl, ◌∙◌, sym, arith}
use Rattle.genie_script.proofs.Joined.{spaced_more}
use Rattle.genie_script.proofs.word_text.put_numbers.Goals as goal

pub numbers-preserved : goal.numbers-preserved
numbers-preserved c = record {
  text = c.put_number.ensures.text ∙ rw c.numbers.invariant.text (sym (spaced_more c.args.word.now c.args.numbers.now c.numbers.n-index _ c.numbers-test.true refl));
  most = omega (arith, c.put_number.ensures.most, c.numbers.invariant.most);
}
