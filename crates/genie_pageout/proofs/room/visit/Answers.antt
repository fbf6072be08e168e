use Rattle.genie_hiding.specs.Hidden.{objects_of}
use Rattle.genie_pageout.proofs.Gone.{rooms_gone, rooms_left, unshed, slot_free}
use Rattle.genie_pageout.proofs.room.visit.Goals as goal

pub evict-requires-clause-slots : goal.evict-requires-clause-slots
evict-requires-clause-slots g c =
    let m = c.args.memory.now in
    let hidden = objects_of c.args.hidden.now in
    let owned = c.in-Some.ensures.page in
    slot_free m hidden c.args.f.0 c.in-Some.page.0 c.requires.there owned (unshed m hidden c.args.f.0 c.in-Some.page.0 c.requires.shed owned c.in-Some.ensures.unlent) c.requires.slots

pub returns-in-Ok-clause-room : goal.returns-in-Ok-clause-room
returns-in-Ok-clause-room g c =
    let m = c.args.memory.now in
    let hidden = objects_of c.args.hidden.now in
    let owned = c.in-Some.ensures.page in
    rooms_gone hidden m c.evict.new.memory _ _ c.in-Some.page.0 c.args.f.0 c.requires.sound c.requires.fits owned (unshed m hidden c.args.f.0 c.in-Some.page.0 c.requires.shed owned c.in-Some.ensures.unlent) c.evict.ensures.kept.count c.evict.ensures.kept.page c.in-Ok.ensures.gone

pub returns-in-Err-clause-room : goal.returns-in-Err-clause-room
returns-in-Err-clause-room g c = rooms_left (objects_of c.args.hidden.now) c.args.memory.now c.evict.new.memory _ _ c.requires.sound c.requires.fits c.in-Err.ensures.unchanged c.evict.ensures.kept.count c.evict.ensures.kept.page c.in-Err.ensures.kept.left
