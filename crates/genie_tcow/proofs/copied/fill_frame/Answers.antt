use Rattle.std.proofs.Common.{sym, ◌∙◌, ◌≡◌, ap, subst}
use Rattle.genie_object.specs.Costs.{place_of}
use Rattle.genie_object.specs.declared.pages.Place.TheVariants.{Frame}
use Rattle.genie_base.specs.Bytes.{part}
use Rattle.genie_frame.specs.FrameTable.{bytes_at}
use Rattle.genie_tcow.specs.Ranges.{piece_of}
use Rattle.genie_tcow.proofs.Owned.{framed_there}
use Rattle.genie_tcow.proofs.PlaceOf.{on_frame, known_slot, copied_bytes}
use Rattle.genie_tcow.proofs.copied.fill_frame.Goals as goal

pub copy_frame-requires-clause-there : goal.copy_frame-requires-clause-there
copy_frame-requires-clause-there g c = framed_there c.args.memory.now c.args.at.object.0 c.args.at.index c.in-Frame.from.0 c.requires.sound (on_frame c.args.memory.now c.args.at.object.0 c.args.at.index c.in-Frame.from (sym c.place_of.ensures ∙ c.in-Frame.is))

pub load_frame-requires-in-Slot-clause-known : goal.load_frame-requires-in-Slot-clause-known
load_frame-requires-in-Slot-clause-known g c = known_slot c.args.memory.now c.args.at.object.0 c.args.at.index c.in-Slot.slot c.requires.sound (sym c.place_of.ensures ∙ c.in-Slot.is)

pub returns-in-Frame-clause-bytes : goal.returns-in-Frame-clause-bytes
returns-in-Frame-clause-bytes g c =
    let at : place_of c.args.memory.now c.args.at.object.0 c.args.at.index ≡ Frame c.in-Frame.from = sym c.place_of.ensures ∙ c.in-Frame.is in
    let there = framed_there c.args.memory.now c.args.at.object.0 c.args.at.index c.in-Frame.from.0 c.requires.sound (on_frame c.args.memory.now c.args.at.object.0 c.args.at.index c.in-Frame.from at) in
    let n : c.piece-n.result ≡ piece_of c.args.memory.now.frames.page c.args.off c.args.left = c.piece-n.ensures ∙ ap (λ p. piece_of p c.args.off c.args.left) c.page.ensures.size in
    copied_bytes c.args.memory.now (g.S.Store.view c.args.store.now) c.args.at.object.0 c.args.at.index c.args.off c.args.left c.in-Frame.from (bytes_at c.copy_frame.new.memory.frames c.copy_frame.result.0) c.requires.sound there c.requires.inside c.copy_frame.ensures.filled.full at (subst (λ k. part c.args.off k (bytes_at c.copy_frame.new.memory.frames c.copy_frame.result.0) ≡ part c.args.off k (bytes_at c.args.memory.now.frames c.in-Frame.from.0)) n c.copy_frame.ensures.bytes)
