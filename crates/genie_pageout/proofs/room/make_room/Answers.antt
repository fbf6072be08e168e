use Rattle.std.proofs.Common.{arith, inr}
use Rattle.genie_hiding.specs.Hidden.{objects_of}
use Rattle.genie_hiding.specs.Lemmas.Making.{rooms_on, all_kept, no_store}
use Rattle.genie_pageout.proofs.Swept.{all_shed_now}
use Rattle.genie_pageout.proofs.room.make_room.Goals as goal

pub returns-then-free-k-clause-room : goal.returns-then-free-k-clause-room
returns-then-free-k-clause-room g c = c.shed_until.ensures.room _

pub sweep_all-requires-clause-sound : goal.sweep_all-requires-clause-sound
sweep_all-requires-clause-sound g c = (c.shed_until.ensures.room no_store).sound

pub sweep_all-requires-clause-sized : goal.sweep_all-requires-clause-sized
sweep_all-requires-clause-sized g c = (c.shed_until.ensures.room (g.S.Store.view c.args.store.now)).sized c.requires.sized

pub sweep_all-requires-clause-fits : goal.sweep_all-requires-clause-fits
sweep_all-requires-clause-fits g c = (c.shed_until.ensures.room no_store).fits

pub sweep_all-requires-clause-frames : goal.sweep_all-requires-clause-frames
sweep_all-requires-clause-frames g c = let r = (c.shed_until.ensures.room no_store).sweeps in omega (arith, r.available, c.requires.frames)

pub sweep_all-requires-clause-slots : goal.sweep_all-requires-clause-slots
sweep_all-requires-clause-slots g c = (c.shed_until.ensures.room no_store).slots c.requires.slots

pub returns-in-Ok-clause-first : goal.returns-in-Ok-clause-first
returns-in-Ok-clause-first g c =
    let r = c.sweep_all.ensures.room in
    let few = all_shed_now c.shed_until.new.memory (objects_of c.args.hidden.now) c.args.k c.shed_until.ensures.end (omega (arith, c.if-free-k.false, c.free.ensures)) in
    inr (all_kept (objects_of c.args.hidden.now) c.shed_until.new.memory c.sweep_all.new.memory r.sweeps r.counts few)

pub returns-in-Err-clause-first : goal.returns-in-Err-clause-first
returns-in-Err-clause-first g c =
    let r = c.sweep_all.ensures.room in
    let few = all_shed_now c.shed_until.new.memory (objects_of c.args.hidden.now) c.args.k c.shed_until.ensures.end (omega (arith, c.if-free-k.false, c.free.ensures)) in
    inr (all_kept (objects_of c.args.hidden.now) c.shed_until.new.memory c.sweep_all.new.memory r.sweeps r.counts few)

pub returns-in-Ok-clause-room : goal.returns-in-Ok-clause-room
returns-in-Ok-clause-room g c = rooms_on _ _ _ _ _ _ _ (c.shed_until.ensures.room (g.S.Store.view c.args.store.now)) c.sweep_all.ensures.room

pub returns-in-Err-clause-room : goal.returns-in-Err-clause-room
returns-in-Err-clause-room g c = rooms_on _ _ _ _ _ _ _ (c.shed_until.ensures.room (g.S.Store.view c.args.store.now)) c.sweep_all.ensures.room
