use Rattle.std.proofs.Common.{sym, ◌∙◌, arith}
use Rattle.genie_base.specs.Lemmas.FreeLists.{numbers_below}
use Rattle.genie_base.proofs.free_list.FreeList.below.Goals as goal

pub loop-number-preserved : goal.loop-number-preserved
loop-number-preserved c = record {
  list = rw (c.push_reserved.ensures.items, c.loop-number.invariant.list) (sym (numbers_below c.loop-number.number));
  len = omega arith;
  room = c.push_reserved.ensures.capacity ∙ c.loop-number.invariant.room;
}
