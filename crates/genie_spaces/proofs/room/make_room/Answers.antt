use Rattle.std.specs.Prelude.{length}
use Rattle.genie_space.specs.Spaces.{regions_of}
use Rattle.genie_spaces.proofs.Discarding.{clears_nothing, discarded, room_made}
use Rattle.genie_spaces.proofs.room.make_room.Goals as goal

pub returns-then-count-lt32-clause-clears : goal.returns-then-count-lt32-clause-clears
returns-then-count-lt32-clause-clears c = clears_nothing c.args.kernel.now c.requires.good

pub returns-clause-clears : goal.returns-clause-clears
returns-clause-clears c = discarded c.args.kernel.now c.discard.new.memory c.discard.new.self c.args.pid c.requires.good c.discard.ensures.kept c.discard.ensures.gone c.discard.ensures.fits

pub returns-clause-room : goal.returns-clause-room
returns-clause-room c = room_made c.args.kernel.now c.discard.new.self c.args.pid (length (regions_of c.args.pid c.args.kernel.now.spaces)) c.requires.few c.discard.ensures.kept
