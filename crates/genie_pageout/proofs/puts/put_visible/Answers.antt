use Rattle.genie_hiding.specs.Hidden.{objects_of}
use Rattle.genie_pageout.proofs.Gone.{rooms_gone, rooms_left, one_fewer, gone_here, gone_still, unmarked, slot_free, marks_gone}
use Rattle.genie_pageout.proofs.puts.put_visible.Goals as goal

pub evict-requires-clause-slots : goal.evict-requires-clause-slots
evict-requires-clause-slots g c =
    let m = c.args.memory.now in
    let hidden = objects_of c.args.hidden.now in
    let owned = c.in-Some.ensures.page in
    slot_free m hidden c.args.f.0 c.in-Some.page.0 c.requires.there owned (unmarked m hidden c.args.marks.now c.args.f.0 c.in-Some.page.0 c.requires.marks owned c.if-marks-f.false) c.requires.slots

pub returns-in-Ok-clause-room : goal.returns-in-Ok-clause-room
returns-in-Ok-clause-room g c =
    let m = c.args.memory.now in
    let hidden = objects_of c.args.hidden.now in
    let owned = c.in-Some.ensures.page in
    rooms_gone hidden m c.evict.new.memory _ _ c.in-Some.page.0 c.args.f.0 c.requires.sound c.requires.fits owned (unmarked m hidden c.args.marks.now c.args.f.0 c.in-Some.page.0 c.requires.marks owned c.if-marks-f.false) c.evict.ensures.kept.count c.evict.ensures.kept.page c.in-Ok.ensures.gone

pub returns-in-Ok-clause-went : goal.returns-in-Ok-clause-went
returns-in-Ok-clause-went g c =
    let m = c.args.memory.now in
    let hidden = objects_of c.args.hidden.now in
    let owned = c.in-Some.ensures.page in
    one_fewer hidden m c.evict.new.memory _ _ c.in-Some.page.0 c.args.f.0 c.requires.sound owned (unmarked m hidden c.args.marks.now c.args.f.0 c.in-Some.page.0 c.requires.marks owned c.if-marks-f.false) c.in-Some.ensures.unheld c.in-Ok.ensures.gone

pub returns-in-Ok-clause-here : goal.returns-in-Ok-clause-here
returns-in-Ok-clause-here g c =
    let m = c.args.memory.now in
    let hidden = objects_of c.args.hidden.now in
    let owned = c.in-Some.ensures.page in
    gone_here hidden m c.evict.new.memory _ _ c.in-Some.page.0 c.args.f.0 c.requires.sound owned (unmarked m hidden c.args.marks.now c.args.f.0 c.in-Some.page.0 c.requires.marks owned c.if-marks-f.false) c.in-Some.ensures.unheld c.in-Ok.ensures.gone

pub returns-in-Ok-clause-gone : goal.returns-in-Ok-clause-gone
returns-in-Ok-clause-gone g c =
    let m = c.args.memory.now in
    let hidden = objects_of c.args.hidden.now in
    let owned = c.in-Some.ensures.page in
    gone_still hidden m c.evict.new.memory _ _ c.in-Some.page.0 c.args.f.0 c.requires.sound owned (unmarked m hidden c.args.marks.now c.args.f.0 c.in-Some.page.0 c.requires.marks owned c.if-marks-f.false) c.in-Some.ensures.unheld c.in-Ok.ensures.gone

pub returns-in-Ok-clause-marks : goal.returns-in-Ok-clause-marks
returns-in-Ok-clause-marks g c =
    let m = c.args.memory.now in
    let hidden = objects_of c.args.hidden.now in
    let owned = c.in-Some.ensures.page in
    marks_gone hidden m c.evict.new.memory _ _ c.in-Some.page.0 c.args.f.0 c.args.marks.now c.requires.sound owned (unmarked m hidden c.args.marks.now c.args.f.0 c.in-Some.page.0 c.requires.marks owned c.if-marks-f.false) c.in-Ok.ensures.gone c.requires.marks

pub returns-in-Err-clause-room : goal.returns-in-Err-clause-room
returns-in-Err-clause-room g c = rooms_left (objects_of c.args.hidden.now) c.args.memory.now c.evict.new.memory _ _ c.requires.sound c.requires.fits c.in-Err.ensures.unchanged c.evict.ensures.kept.count c.evict.ensures.kept.page c.in-Err.ensures.kept.left
