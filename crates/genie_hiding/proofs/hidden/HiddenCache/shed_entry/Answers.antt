use Rattle.std.proofs.Common.{◌≡◌, sym, ap, ◌∙◌}
use Rattle.std.specs.Prelude.{Some}
use Rattle.genie_object.specs.declared.objects.Entry.{Entry}
use Rattle.genie_object.specs.Objects.{entry_at}
use Rattle.genie_hiding.specs.Hidden.{objects_of}
use Rattle.genie_hiding.specs.Lemmas.Naming.{can_drop, cached_at}
use Rattle.genie_hiding.specs.Lemmas.Making.{shed_lent}
use Rattle.genie_hiding.proofs.Shedding.{rooms_shed}
use Rattle.genie_hiding.proofs.hidden.HiddenCache.shed_entry.Goals as goal

pub returns-then-is_lent-clause-shed : goal.returns-then-is_lent-clause-shed
returns-then-is_lent-clause-shed c =
    let m = c.args.memory.now in
    let is : (entry_at m.objects c.args.at.object.0 c.args.at.index).page ≡ Some c.in-Some.page = ap (λ (e : Entry). e.page) (sym c.entry-entry.ensures) ∙ c.in-Some.is in
    shed_lent m c.args.at.object.0 c.args.at.index c.in-Some.page c.requires.sound is (λ f e. sym (c.is_lent.ensures.lent f e) ∙ c.if-is_lent.true)

pub drop_page-requires : goal.drop_page-requires
drop_page-requires c =
    let m = c.args.memory.now in
    let is : (entry_at m.objects c.args.at.object.0 c.args.at.index).page ≡ Some c.in-Some.page = ap (λ (e : Entry). e.page) (sym c.entry-entry.ensures) ∙ c.in-Some.is in
    record { own = (can_drop (objects_of c.args.self.now) m c.args.at.object.0 c.args.at.index c.in-Some.page c.requires.sound c.requires.fits c.requires.hidden is).own }

pub returns-clause-room : goal.returns-clause-room
returns-clause-room c = λ v.
    let r = c.requires in
    let m = c.args.memory.now in
    let o = c.args.at.object.0 in
    let hidden = objects_of c.args.self.now in
    let is : (entry_at m.objects o c.args.at.index).page ≡ Some c.in-Some.page = ap (λ (e : Entry). e.page) (sym c.entry-entry.ensures) ∙ c.in-Some.is in
    let x = can_drop hidden m o c.args.at.index c.in-Some.page r.sound r.fits r.hidden is in
    let y = cached_at hidden m o r.fits r.hidden in
    let f = y.frame c.args.at.index c.in-Some.page is in
    let owned = r.sound.placed.in_frame c.in-Some.page.0 f (y.in_frame c.args.at.index c.in-Some.page is) in
    rw c.drop_page.ensures (rooms_shed hidden m o c.args.at.index f c.in-Some.page x r.fits r.hidden owned v)
