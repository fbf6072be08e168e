use Rattle.std.proofs.Common.{◌≡◌, false, refl, arith, ap, sym, ◌∙◌}
use Rattle.genie_frame.specs.declared.frame.FrameId.{FrameId}
use Rattle.genie_frame.specs.FrameTable.{counts_at, is_held}
use Rattle.genie_object.specs.declared.pages.Place.TheVariants.{Frame}
use Rattle.genie_object.specs.Costs.{slot_gets}
use Rattle.genie_object.specs.Pages.{page_at}
use Rattle.genie_fault.proofs.Resolved.{in_brought, in_parted, written_in, written_framed, shares_brought, strong_unheld}
use Rattle.genie_object.specs.Lemmas.Spending.{spends_more, work_own, work_part, place_named}
use Rattle.genie_fault.proofs.write.write_entry.Goals as goal

pub returns-in-Ok-clause-written : goal.returns-in-Ok-clause-written
returns-in-Ok-clause-written g c =
    let r = c.requires in
    let y = in_parted c.args.memory.now c.part.new.memory _ c.args.at.object.0 c.args.at.index c.in-Ok.f r.there r.sound (c.own_page.ensures.many c.in-None.is) c.in-Ok.ensures.parted in
    rw c.grant.ensures (written_in c.args.memory.now c.part.new.memory _ c.args.at.object.0 c.args.at.index _ c.in-Ok.f y.0 y.1)

pub returns-in-Some-unlent_frame-clause-written : goal.returns-in-Some-unlent_frame-clause-written
returns-in-Some-unlent_frame-clause-written g c =
    let r = c.requires in
    rw c.grant-in-Some-unlent_frame.ensures (written_framed c.args.memory.now _ c.args.at.object.0 c.args.at.index c.in-Some.page c.in-Some-unlent_frame.f r.there r.sound c.in-Some.ensures.named c.in-Some-unlent_frame.ensures.place c.in-Some.ensures.alone c.in-Some-unlent_frame.ensures.unlent)

pub returns-in-Ok-bring-clause-written : goal.returns-in-Ok-bring-clause-written
returns-in-Ok-bring-clause-written g c =
    let r = c.requires in
    let m = c.args.memory.now in
    let p = c.in-Some.page in
    let e = c.in-Some.ensures.named in
    let unheld : (f : FrameId) → (page_at m.pages.pages p.0).place ≡ Frame f → is_held (counts_at m.frames f.0) ≡ false = λ f w. strong_unheld m p.0 f r.sound w (c.unlent_frame.ensures.lent c.in-None-unlent_frame.is f w) in
    let y = c.in-Ok-bring.ensures.brought in
    let x = in_brought m c.bring.new.memory _ c.args.at.object.0 c.args.at.index p c.in-Ok-bring.f r.there r.sound e unheld y in
    rw c.grant-in-Ok-bring.ensures (written_in m c.bring.new.memory _ c.args.at.object.0 c.args.at.index p c.in-Ok-bring.f x (shares_brought m c.bring.new.memory _ c.args.at.object.0 c.args.at.index p c.in-Ok-bring.f r.sound e unheld y ∙ c.in-Some.ensures.alone))

pub returns-in-Ok-bring-clause-meters : goal.returns-in-Ok-bring-clause-meters
returns-in-Ok-bring-clause-meters g c =
    let m = c.args.memory.now in
    let p = c.in-Some.page in
    let place = (page_at m.pages.pages p.0).place in
    let at = place_named m c.args.at.object.0 c.args.at.index p c.in-Some.ensures.named in
    let work = work_own m c.args.at.object.0 c.args.at.index p place c.in-Some.ensures.named refl (c.unlent_frame.ensures.lent c.in-None-unlent_frame.is) in
    let gets = ap slot_gets (sym at) in
    rw c.grant-in-Ok-bring.ensures (spends_more _ _ _ _ _ _ _ _ _ _ c.bring.ensures.meters work (omega (arith, gets)) (omega arith) (omega arith))

pub returns-in-Ok-clause-meters : goal.returns-in-Ok-clause-meters
returns-in-Ok-clause-meters g c = rw c.grant.ensures (spends_more _ _ _ _ _ _ _ _ _ _ c.part.ensures.meters (work_part c.args.memory.now c.args.at.object.0 c.args.at.index (c.own_page.ensures.many c.in-None.is)) (omega arith) (omega arith) (omega arith))
