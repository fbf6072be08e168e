use Rattle.genie_console.proofs.Writing.{written_more, whole_rest}
use Rattle.genie_console.proofs.replies.write_front.Goals as goal

pub writes-preserved : goal.writes-preserved
writes-preserved g c =
    let whole = whole_rest c.args.bytes.now c.writes.count in
    written_more _ _ _ c.args.bytes.now c.writes.count c.in-Ok.taken c.writes.invariant (rw whole at c.in-Ok.ensures.bound) (rw whole at c.in-Ok.ensures.step)
