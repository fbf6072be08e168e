use Rattle.genie_arrivals.proofs.BlankPages.{object_blank}
use Rattle.genie_arrivals.proofs.blanks.blank_object.Goals as goal

pub blank_pages-requires-clause-can : goal.blank_pages-requires-clause-can
blank_pages-requires-clause-can c = c.requires.can c.clear_object.new.memory c.clear_object.ensures

pub returns : goal.returns
returns c = object_blank c.args.memory.now c.clear_object.new.memory c.blank_pages.new.memory c.args.object.0 c.args.count (c.requires.can c.clear_object.new.memory c.clear_object.ensures).most c.clear_object.ensures c.blank_pages.ensures
