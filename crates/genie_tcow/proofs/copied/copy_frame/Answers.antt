use Rattle.genie_tcow.proofs.Copying.{copy_filled, copy_part}
use Rattle.genie_tcow.proofs.copied.copy_frame.Goals as goal

pub returns-clause-filled : goal.returns-clause-filled
returns-clause-filled c = copy_filled c.args.memory.now c.take-to.new.self c.copy.new.self c.args.from.0 c.args.id.0 c.take-to.result.0 c.args.off c.args.n c.requires.sound c.requires.there c.take-to.ensures.there c.take-to.ensures.was_free c.take-to.ensures.frames c.copy.ensures

pub returns-clause-bytes : goal.returns-clause-bytes
returns-clause-bytes c = copy_part c.args.memory.now c.take-to.new.self c.copy.new.self c.args.from.0 c.args.id.0 c.take-to.result.0 c.args.off c.args.n c.requires.sound c.requires.there c.take-to.ensures.there c.take-to.ensures.was_free c.take-to.ensures.frames c.copy.ensures
