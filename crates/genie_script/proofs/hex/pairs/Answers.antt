use Rattle.std.proofs.Common.{length-append, sym, arith}
use Rattle.std.proofs.lemmas.Bool.{eqb-true}
use Rattle.genie_script.specs.Hex.{pairs_of}
use Rattle.genie_script.proofs.Pairs.{goes_on, stops, ends, some_left}
use Rattle.genie_script.proofs.hex.pairs.Goals as goal

pub returns-in_default : goal.returns-in_default
returns-in_default c = stops c.pairs.into c.pairs.rest.now (pairs_of c.args.text.now) (some_left _ c.pairs-test.ensures) c.in_default.ensures.value c.pairs.invariant.so_far

pub pairs-preserved : goal.pairs-preserved
pairs-preserved c = record {
  room = rw (c.push.ensures, length-append) (omega (arith, c.pairs.invariant.room, c.in-Some.ensures.shorter));
  so_far = rw c.push.ensures (goes_on c.pairs.into c.pairs.rest.now _ _ (pairs_of c.args.text.now) (some_left _ c.pairs-test.ensures) c.in-Some.ensures.value c.pairs.invariant.so_far);
}

pub returns : goal.returns
returns c = ends c.pairs.into c.pairs.rest.now (pairs_of c.args.text.now) (eqb-true _ _ (sym c.pairs-test.ensures)) c.pairs.invariant.so_far
