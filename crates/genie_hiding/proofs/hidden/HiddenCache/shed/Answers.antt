use Rattle.std.proofs.Common.{◌≡◌, arith, sym, ◌∙◌}
use Rattle.genie_object.specs.Objects.{entry_at}
use Rattle.genie_frame.specs.declared.frame.Owner.TheVariants.{Page}
use Rattle.genie_frame.specs.FrameTable.{owner_at}
use Rattle.genie_object.specs.declared.pages.PageId.{PageId}
use Rattle.genie_hiding.specs.Hidden.{objects_of}
use Rattle.genie_hiding.specs.Lemmas.Naming.{kept_there, can_drop, names_page}
use Rattle.genie_hiding.specs.Lemmas.Searching.{hidden_length}
use Rattle.genie_hiding.proofs.Shedding.{rooms_shed}
use Rattle.genie_hiding.proofs.hidden.HiddenCache.shed.Goals as goal

pub find-requires : goal.find-requires
find-requires c = λ k l. kept_there (objects_of c.args.self.now) c.args.memory.now k c.requires.fits (omega (arith, l, hidden_length c.args.self.now))

pub drop_page-requires : goal.drop_page-requires
drop_page-requires c =
    let r = c.requires in
    let p : PageId = record { 0 = c.in-Page.page } in
    let is = names_page p (entry_at c.args.memory.now.objects c.in-Some.at.object.0 c.in-Some.at.index) c.in-Some.ensures.named in
    record { own = (can_drop (objects_of c.args.self.now) c.args.memory.now c.in-Some.at.object.0 c.in-Some.at.index p r.sound r.fits c.in-Some.ensures.hidden is).own }

pub returns-in-Some-clause-room : goal.returns-in-Some-clause-room
returns-in-Some-clause-room c = λ v.
    let r = c.requires in
    let p : PageId = record { 0 = c.in-Page.page } in
    let owned : owner_at c.args.memory.now.frames c.args.f.0 ≡ Page c.in-Page.page = sym c.owner.ensures ∙ c.in-Page.is in
    let is = names_page p (entry_at c.args.memory.now.objects c.in-Some.at.object.0 c.in-Some.at.index) c.in-Some.ensures.named in
    let x = can_drop (objects_of c.args.self.now) c.args.memory.now c.in-Some.at.object.0 c.in-Some.at.index p r.sound r.fits c.in-Some.ensures.hidden is in
    rw c.drop_page.ensures (rooms_shed (objects_of c.args.self.now) c.args.memory.now c.in-Some.at.object.0 c.in-Some.at.index c.args.f p x r.fits c.in-Some.ensures.hidden owned v)
