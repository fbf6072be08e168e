use Rattle.genie_arrivals.proofs.BlankPages.{page_made}
use Rattle.genie_arrivals.proofs.blanks.blank_page.Goals as goal

pub returns : goal.returns
returns c = page_made c.args.memory.now c.rename-page.new.memory c.take-frame.new.self c.zero.new.self c.set_place.new.self c.args.at.object.0 c.args.at.index c.rename-page.result.0 c.page-size.result c.take-frame.result
    c.requires.sound c.requires.there c.requires.empty c.rename-page.ensures.there c.rename-page.ensures.spare c.rename-page.ensures.renamed
    c.take-frame.ensures.there c.take-frame.ensures.was_free c.take-frame.ensures.frames c.page-size.ensures.size c.zero.ensures c.set_place.ensures
