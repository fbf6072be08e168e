use Rattle.genie_script.specs.Spelling.{reply_text}
use Rattle.genie_playing.specs.Costs.{answer, cost_text}
use Rattle.genie_playing.specs.Lemmas.Writing.{says_first, writes_both}
use Rattle.genie_playing.proofs.costs.write_answer.Goals as goal

pub returns-in-Err : goal.returns-in-Err
returns-in-Err g c = says_first c.args.listing (answer c.args.reply.now c.args.cost.now) 0 _ _ _ (rw (c.as_slice.ensures.bytes, c.put_reply.ensures.text) at c.in-Err.ensures)

pub returns-in-Costs : goal.returns-in-Costs
returns-in-Costs g c =
    rw c.in-Costs.is (writes_both 0 _ _ _ _ _ (reply_text c.args.reply.now) (cost_text c.args.cost.now)
    (rw (c.as_slice.ensures.bytes, c.put_reply.ensures.text) at c.in-Ok.ensures)
    (rw (c.as_slice-in-Costs.ensures.bytes, c.put_cost.ensures) at c.write_all-in-Costs.ensures))
