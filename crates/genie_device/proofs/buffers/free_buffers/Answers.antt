use Rattle.std.proofs.Common.{◌≡◌, ap, ◌∙◌, arith}
use Rattle.std.specs.Prelude.{replicate}
use Rattle.std.proofs.lemmas.List.{replicate_more}
use Rattle.genie_device.specs.Buffers.{free_buffer}
use Rattle.genie_device.proofs.buffers.free_buffers.Goals as goal

pub returns : goal.returns
returns c = let e : c.loop.counter ≡ c.args.count = omega arith in c.loop.invariant.made ∙ ap (λ n. replicate n (free_buffer c.args.room)) e

pub loop-preserved : goal.loop-preserved
loop-preserved c = record {
  made = rw (c.push_reserved.ensures.items, c.loop.invariant.made, c.in_ok-new.ensures) (replicate_more c.loop.counter (free_buffer c.args.room));
  len = omega arith;
  room = c.push_reserved.ensures.capacity ∙ c.loop.invariant.room;
}
