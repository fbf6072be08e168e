use Rattle.genie_spaces.specs.Forking.{with_child}
use Rattle.genie_spaces.proofs.Ready.{stays_roomy}
use Rattle.genie_spaces.proofs.fork.copy_pages.Goals as goal

pub copy_regions-requires-clause-room : goal.copy_regions-requires-clause-room
copy_regions-requires-clause-room g c = stays_roomy c.regions_fit.ensures.regions c.four_are_available.ensures c.room_is_kept.ensures (with_child c.args.kernel.now c.args.child c.args.copies.now) c.requires.ready.good c.requires.ready.spare
