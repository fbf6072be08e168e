use Rattle.genie_tcow.proofs.Copying.{is_claimed}
use Rattle.genie_tcow.proofs.strong.lend_copy.Goals as goal

pub returns-clause-claimed : goal.returns-clause-claimed
returns-clause-claimed c = rw c.lend_strong.ensures.loan (is_claimed c.args.memory.now c.take-copy.new.self c.copy.new.self c.lend_strong.new.self c.args.frame.0 c.args.id.0 c.take-copy.result.0 c.page-page.result c.requires.sound c.requires.there c.take-copy.ensures.there c.take-copy.ensures.was_free c.page-page.ensures.size c.take-copy.ensures.frames c.copy.ensures c.lend_strong.ensures.frames)
