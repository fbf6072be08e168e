use Rattle.std.proofs.Common.{sym, ap, ◌∙◌, subst}
use Rattle.genie_hiding.specs.Hidden.{objects_of}
use Rattle.genie_object.specs.declared.memory.Memory.{Memory}
use Rattle.genie_object.specs.declared.objects.Entry.{Entry}
use Rattle.genie_object.specs.Touching.{is_entry}
use Rattle.genie_sharing.specs.Copying.{CopiesEntry}
use Rattle.genie_sharing.proofs.Copied.{copies_empty, copies_moved, copies_room, copies_shared}
use Rattle.genie_sharing.proofs.copies.copy_entry.Goals as goal

pub returns-in-None-clause-copies : goal.returns-in-None-clause-copies
returns-in-None-clause-copies g c = copies_empty (objects_of c.args.hidden.now) c.args.memory.now (g.S.Store.view c.args.store.now) c.args.from.0 c.args.to.0 c.args.index c.requires.sound c.requires.sized c.requires.fits c.requires.from_owned c.requires.to_owned (ap (λ (e : Entry). e.page) (sym c.entry-entry.ensures) ∙ c.in-None.is) c.requires.empty

pub returns-in-None-held_frame-clause-copies : goal.returns-in-None-held_frame-clause-copies
returns-in-None-held_frame-clause-copies g c =
    let v = g.S.Store.view c.args.store.now in
    subst (λ (k : Memory). CopiesEntry (objects_of c.args.hidden.now) c.args.from.0 c.args.to.0 c.args.index c.args.memory.now k v v) (sym c.share_page.ensures)
    (copies_shared (objects_of c.args.hidden.now) c.args.memory.now v c.args.from.0 c.args.to.0 c.args.index c.in-Some.page c.requires.sound c.requires.sized c.requires.fits c.requires.from c.requires.to c.requires.from_owned c.requires.to_owned (ap (λ (e : Entry). e.page) (sym c.entry-entry.ensures) ∙ c.in-Some.is) c.requires.empty (c.held_frame.ensures.free c.in-None-held_frame.is))

pub returns-in-Ok-clause-copies : goal.returns-in-Ok-clause-copies
returns-in-Ok-clause-copies g c = copies_moved (objects_of c.args.hidden.now) c.args.memory.now c.make_room.new.memory c.part_page.new.memory (g.S.Store.view c.args.store.now) (g.S.Store.view c.make_room.new.store) c.args.from.0 c.args.to.0 c.args.index c.in-Some.page c.in-Some-held_frame.frame c.requires.sized c.make_room.ensures.room c.part_page.ensures.parts c.requires.to c.requires.from_owned c.requires.to_owned (ap (λ (e : Entry). e.page) (sym c.entry-entry.ensures) ∙ c.in-Some.is) c.in-Some-held_frame.ensures.place c.in-Some-held_frame.ensures.held c.requires.empty

pub returns-in-Err-clause-failed : goal.returns-in-Err-clause-failed
returns-in-Err-clause-failed g c = copies_room (objects_of c.args.hidden.now) (is_entry c.args.to.0 c.args.index) c.args.memory.now c.make_room.new.memory (g.S.Store.view c.args.store.now) (g.S.Store.view c.make_room.new.store) c.requires.sized c.make_room.ensures.room
