use Rattle.std.proofs.Common.{arith, ◌∙◌}
use Rattle.genie_hiding.proofs.Marking.{marks_more}
use Rattle.genie_hiding.proofs.hidden.mark_object.Goals as goal

pub entries-preserved : goal.entries-preserved
entries-preserved c =
    let v = c.entries.invariant in
    let e = c.mark_entry.ensures in
    record {
      size = e.size ∙ v.size;
      marks = rw (e.marks) (marks_more c.args.memory.now c.args.object.0 c.entries.index c.args.marks.now c.entries.marks c.requires.sound (omega (arith, v.size, c.requires.room)) v.marks);
    }
