use Rattle.genie_sharing.proofs.Parting.{parts_from}
use Rattle.genie_sharing.proofs.entries.part_page.Goals as goal

pub returns-clause-parts : goal.returns-clause-parts
returns-clause-parts c = parts_from c.args.memory.now c.rename-page.new.memory c.take-frame.new.self c.copy.new.self c.set_place.new.self c.args.from.0 c.args.to.object.0 c.args.to.index c.rename-page.result.0 c.page-size.result c.take-frame.result
    c.requires.sound c.requires.from c.requires.to c.requires.empty c.rename-page.ensures.there c.rename-page.ensures.spare c.rename-page.ensures.renamed
    c.take-frame.ensures.there c.take-frame.ensures.was_free c.take-frame.ensures.frames c.page-size.ensures.size c.copy.ensures c.set_place.ensures
