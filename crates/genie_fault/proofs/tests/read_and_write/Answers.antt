use Rattle.std.proofs.Common.{arith}
use Rattle.genie_object.specs.Costs.{place_of}
use Rattle.genie_object.specs.Lemmas.Spending.{below_spent}
use Rattle.genie_object.specs.Lemmas.Works.{below_more, one_get, page_most, read_most}
use Rattle.genie_fault.proofs.tests.read_and_write.Goals as goal

pub resolve_write-written-requires-clause-meters : goal.resolve_write-written-requires-clause-meters
resolve_write-written-requires-clause-meters g c =
    let m = c.args.memory.now in
    let page = page_most m.frames.page c.requires.sound.shaped.size in
    let work = read_most m c.args.at.object.0 c.args.at.index in
    let gets = one_get (place_of m c.args.at.object.0 c.args.at.index) in
    below_more _ _ _ (omega (arith, page, work, gets)) (below_spent _ _ _ _ _ _ _ c.requires.meters c.resolve_read-read.ensures.meters)
