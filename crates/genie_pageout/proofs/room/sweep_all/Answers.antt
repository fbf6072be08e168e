use Rattle.std.proofs.Common.{◌∙◌, sym}
use Rattle.genie_hiding.specs.Hidden.{objects_of}
use Rattle.genie_hiding.specs.Lemmas.Making.{rooms_on, all_kept}
use Rattle.genie_pageout.proofs.Swept.{have_room}
use Rattle.std.specs.Prelude.{count_by, ◌≤◌}
use Rattle.genie_frame.specs.FrameTable.{is_free}
use Rattle.genie_pageout.specs.Rounds.{leaves_from}
use Rattle.genie_pageout.proofs.Rounds.{joined}
use Rattle.genie_hiding.specs.Lemmas.Sweeping.{leave_kept}
use Rattle.genie_pageout.proofs.room.sweep_all.Goals as goal

pub sweep-requires-2-clause-shed : goal.sweep-requires-2-clause-shed
sweep-requires-2-clause-shed g c = let r = c.in-Ok.ensures.room in all_kept (objects_of c.args.hidden.now) c.args.memory.now c.sweep.new.memory r.sweeps r.counts c.requires.shed

pub returns-in-Ok-sweep-clause-free : goal.returns-in-Ok-sweep-clause-free
returns-in-Ok-sweep-clause-free g c =
    let a = c.in-Ok.ensures in
    let b = c.in-Ok-sweep.ensures in
    have_room c.args.memory.now c.sweep.new.memory c.sweep-2.new.memory c.args.k c.place-place.result c.len-n.result c.len-n.ensures.number (b.room.keeps.number ∙ a.room.keeps.number) c.requires.frames a.room.sweeps b.room.sweeps b.room.counts a.swept b.swept

pub returns-in-Ok-sweep-clause-room : goal.returns-in-Ok-sweep-clause-room
returns-in-Ok-sweep-clause-room g c = rooms_on _ _ _ _ _ _ _ c.in-Ok.ensures.room c.in-Ok-sweep.ensures.room

pub returns-in-Err-sweep-clause-room : goal.returns-in-Err-sweep-clause-room
returns-in-Err-sweep-clause-room g c = rooms_on _ _ _ _ _ _ _ c.in-Ok.ensures.room c.in-Err-sweep.ensures.room

pub returns-in-Ok-sweep-clause-clock : goal.returns-in-Ok-sweep-clause-clock
returns-in-Ok-sweep-clause-clock g c =
    let r = c.in-Ok-sweep.ensures.room in
    let from = c.args.memory.now in
    let mid = c.sweep.new.memory in
    let new = c.sweep-2.new.memory in
    joined (leaves_from mid) (leaves_from new) (c.args.k ≤ count_by is_free from.frames.owners) (c.args.k ≤ count_by is_free mid.frames.owners) (c.args.k ≤ count_by is_free mid.frames.owners) (c.args.k ≤ count_by is_free new.frames.owners) from mid new c.len-n.result c.place-place.result c.args.clock.now c.sweep.new.clock c.sweep-2.new.clock (sym c.len-n.ensures.number) c.place-place.ensures.place (λ f e. leave_kept mid new f r.sweeps r.counts e) (λ l. l) c.in-Ok.ensures.passes c.in-Ok-sweep.ensures.passes
