use Rattle.std.proofs.Common.{arith}
use Rattle.genie_arrivals.proofs.Forbidding.{forbids_none, forbids_more}
use Rattle.genie_arrivals.proofs.clear.forbid_each.Goals as goal

pub entries-init : goal.entries-init
entries-init c = forbids_none c.args.object.0 c.args.objects.now

pub forbid_writing-requires : goal.forbid_writing-requires
forbid_writing-requires c = let size = c.entries.invariant.all.sizes c.args.object.0 in omega (arith, size, c.pages-pages.ensures.number)

pub entries-preserved : goal.entries-preserved
entries-preserved c = let size = c.entries.invariant.all.sizes c.args.object.0 in forbids_more c.args.object.0 c.entries.index c.args.objects.now c.entries.objects c.forbid_writing.new.self c.entries.invariant (omega (arith, size, c.pages-pages.ensures.number)) c.forbid_writing.ensures
