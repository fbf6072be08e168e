use Rattle.std.proofs.Common.{◌+◌, ◌*◌, ◌-◌, ◌^◌, arith}
use Rattle.genie_object.specs.Lemmas.Works.{below_more}
use Rattle.genie_arrivals.proofs.BlankPages.{blanks_more, blanks_none}
use Rattle.genie_arrivals.proofs.blanks.blank_pages.Goals as goal

pub entries-init : goal.entries-init
entries-init c = blanks_none c.args.memory.now c.args.object.0 c.requires.can.sound c.requires.empty

pub blank_page-requires-clause-there : goal.blank_page-requires-clause-there
blank_page-requires-clause-there c = omega (arith, c.entries-test.true, c.requires.can.within, c.entries.invariant.keeps.entries c.args.object.0)

pub blank_page-requires-clause-empty : goal.blank_page-requires-clause-empty
blank_page-requires-clause-empty c = c.entries.invariant.empty c.entries.index (omega arith)

pub blank_page-requires-clause-free : goal.blank_page-requires-clause-free
blank_page-requires-clause-free c = omega (arith, c.entries-test.true, c.requires.can.free, c.entries.invariant.free)

pub blank_page-requires-clause-room : goal.blank_page-requires-clause-room
blank_page-requires-clause-room c = omega (arith, c.entries-test.true, c.requires.can.room, c.entries.invariant.pages, c.entries.invariant.keeps.most)

pub blank_page-requires-clause-meters : goal.blank_page-requires-clause-meters
blank_page-requires-clause-meters c = below_more (2 ^ 63 + 2 ^ 22 + 8192 * c.entries.index) (2 ^ 64 - 2 ^ 20) c.entries.memory.frames.meters (omega (arith, c.entries-test.true, c.requires.can.most)) (c.entries.invariant.rises.meters (2 ^ 63 + 2 ^ 22) c.requires.can.meters)

pub entries-preserved : goal.entries-preserved
entries-preserved c = blanks_more c.args.memory.now c.entries.memory c.blank_page.new.memory c.args.object.0 c.entries.index c.entries.invariant c.blank_page.ensures
