use Rattle.std.proofs.Common.{refl}
use Rattle.genie_base.specs.Bytes.{part}
use Rattle.genie_frame.specs.FrameTable.{bytes_at}
use Rattle.genie_finish.proofs.Storing.{buffer_out, lent_input}
use Rattle.genie_finish.proofs.Stored.{page_copied}
use Rattle.genie_finish.proofs.page.copy_page.Goals as goal

pub end_input-requires : goal.end_input-requires
end_input-requires c = lent_input _ _ (buffer_out c.args.memory.now c.copy_out.new.memory.frames _ _ _ _ _ _ c.requires.own c.copy_out.ensures.frames c.requires.buffer)

pub returns : goal.returns
returns c = record { stored = page_copied c.args.memory.now c.copy_out.new.memory c.end_input.new.frames c.args.loan c.args.at.object.0 c.args.at.index c.args.off c.args.n (part c.args.off c.args.n (bytes_at c.args.memory.now.frames c.args.loan.frame.0)) c.requires.sound c.requires.own c.requires.buffer c.copy_out.ensures.sound c.copy_out.ensures.frames c.copy_out.ensures.owners c.copy_out.ensures.counts c.copy_out.ensures.page c.copy_out.ensures.pages c.copy_out.ensures.objects c.copy_out.ensures.slots c.end_input.ensures c.len-2.ensures.shaped c.len-2.ensures.lent c.copy_out.ensures.seen refl }
