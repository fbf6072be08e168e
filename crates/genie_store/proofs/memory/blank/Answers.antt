use Rattle.std.proofs.Common.{◌≡◌, ap, ◌∙◌, arith}
use Rattle.std.specs.Prelude.{replicate}
use Rattle.std.proofs.lemmas.List.{replicate_more}
use Rattle.genie_store.proofs.memory.blank.Goals as goal

pub returns : goal.returns
returns c = let e : c.loop.counter ≡ c.args.slots = omega arith in c.loop.invariant.made ∙ ap (λ n. replicate n (replicate c.args.page 0)) e

pub loop-preserved : goal.loop-preserved
loop-preserved c = record {
  made = rw (c.push_reserved.ensures.items, c.loop.invariant.made, c.in_ok-zeros.ensures) (replicate_more c.loop.counter (replicate c.args.page 0));
  len = omega arith;
  room = c.push_reserved.ensures.capacity ∙ c.loop.invariant.room;
}
