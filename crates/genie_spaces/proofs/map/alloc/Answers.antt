use Rattle.std.proofs.Common.{◌≡◌, arith, refl, sym, ap, subst, ◌*◌, ◌∙◌}
use Rattle.std.specs.Prelude.{IsTrue}
use Rattle.genie_base.specs.Counts.{is_page_size}
use Rattle.genie_base.specs.Regions.{place}
use Rattle.genie_base.specs.declared.event.Event.TheVariants.{Alloc}
use Rattle.genie_base.specs.declared.region.Area.TheVariants.{Sys}
use Rattle.genie_base.specs.declared.reply.Reply.TheVariants as reply
use Rattle.genie_region.specs.Layouts.{extent}
use Rattle.genie_kernel.specs.declared.kernel.Kernel.{Kernel}
use Rattle.genie_spaces.specs.Serving.{IsServed}
use Rattle.genie_spaces.proofs.Adding.{adds_served}
use Rattle.genie_spaces.proofs.Mapping.{may_alloc, may_in, alloc_new, alloc_alive, alloc_place, alloc_fits, new_region, object_room}
use Rattle.genie_spaces.proofs.map.alloc.Goals as goal

pub regions-requires : goal.regions-requires
regions-requires c = alloc_alive c.args.kernel.now c.args.pid c.args.pages c.requires.accepted

pub make_room-requires-clause-alive : goal.make_room-requires-clause-alive
make_room-requires-clause-alive c = alloc_alive c.args.kernel.now c.args.pid c.args.pages c.requires.accepted

pub make_room-requires-clause-few : goal.make_room-requires-clause-few
make_room-requires-clause-few c = (may_alloc c.args.kernel.now c.args.pid c.args.pages c.in-Some.start (record { 0 = c.fresh_number.result }) c.requires.good c.requires.accepted c.fresh_number.ensures (sym (ap (place extent c.args.pages) c.regions.ensures) ∙ sym c.place.ensures ∙ c.in-Some.is)).few

pub add_region-object-requires-clause-alive : goal.add_region-object-requires-clause-alive
add_region-object-requires-clause-alive c = (may_in c.args.kernel.now c.make_room.new.kernel c.args.pid c.in-Some.start c.args.pages (record { 0 = c.fresh_number.result }) c.make_room.ensures.clears (may_alloc c.args.kernel.now c.args.pid c.args.pages c.in-Some.start (record { 0 = c.fresh_number.result }) c.requires.good c.requires.accepted c.fresh_number.ensures (sym (ap (place extent c.args.pages) c.regions.ensures) ∙ sym c.place.ensures ∙ c.in-Some.is))).alive

pub add_region-object-requires-clause-sound : goal.add_region-object-requires-clause-sound
add_region-object-requires-clause-sound c = c.make_room.ensures.clears.good.sound

pub add_region-object-requires-clause-room : goal.add_region-object-requires-clause-room
add_region-object-requires-clause-room c = object_room c.objects_suffice.ensures c.make_room.new.kernel c.args.pid c.make_room.ensures.clears.good (may_in c.args.kernel.now c.make_room.new.kernel c.args.pid c.in-Some.start c.args.pages (record { 0 = c.fresh_number.result }) c.make_room.ensures.clears (may_alloc c.args.kernel.now c.args.pid c.args.pages c.in-Some.start (record { 0 = c.fresh_number.result }) c.requires.good c.requires.accepted c.fresh_number.ensures (sym (ap (place extent c.args.pages) c.regions.ensures) ∙ sym c.place.ensures ∙ c.in-Some.is))).alive c.make_room.ensures.room

pub add_region-object-requires-clause-some : goal.add_region-object-requires-clause-some
add_region-object-requires-clause-some c = (alloc_new c.args.kernel.now c.args.pid c.args.pages c.in-Some.start (record { 0 = c.fresh_number.result }) (record { 0 = 0 }) c.requires.good c.requires.accepted c.fresh_number.ensures (sym (ap (place extent c.args.pages) c.regions.ensures) ∙ sym c.place.ensures ∙ c.in-Some.is)).some

pub add_region-object-requires-clause-few : goal.add_region-object-requires-clause-few
add_region-object-requires-clause-few c = (may_in c.args.kernel.now c.make_room.new.kernel c.args.pid c.in-Some.start c.args.pages (record { 0 = c.fresh_number.result }) c.make_room.ensures.clears (may_alloc c.args.kernel.now c.args.pid c.args.pages c.in-Some.start (record { 0 = c.fresh_number.result }) c.requires.good c.requires.accepted c.fresh_number.ensures (sym (ap (place extent c.args.pages) c.regions.ensures) ∙ sym c.place.ensures ∙ c.in-Some.is))).few

pub add_region-object-requires-clause-free : goal.add_region-object-requires-clause-free
add_region-object-requires-clause-free c = (may_in c.args.kernel.now c.make_room.new.kernel c.args.pid c.in-Some.start c.args.pages (record { 0 = c.fresh_number.result }) c.make_room.ensures.clears (may_alloc c.args.kernel.now c.args.pid c.args.pages c.in-Some.start (record { 0 = c.fresh_number.result }) c.requires.good c.requires.accepted c.fresh_number.ensures (sym (ap (place extent c.args.pages) c.regions.ensures) ∙ sym c.place.ensures ∙ c.in-Some.is))).free

pub add_region-object-requires-clause-new : goal.add_region-object-requires-clause-new
add_region-object-requires-clause-new c = let h = (may_in c.args.kernel.now c.make_room.new.kernel c.args.pid c.in-Some.start c.args.pages (record { 0 = c.fresh_number.result }) c.make_room.ensures.clears (may_alloc c.args.kernel.now c.args.pid c.args.pages c.in-Some.start (record { 0 = c.fresh_number.result }) c.requires.good c.requires.accepted c.fresh_number.ensures (sym (ap (place extent c.args.pages) c.regions.ensures) ∙ sym c.place.ensures ∙ c.in-Some.is))).new in rw h refl

pub overflow_mul-result : goal.overflow_mul-result
overflow_mul-result c = let low = alloc_fits c.args.kernel.now c.args.pid c.args.pages c.in-Some.start c.get-page.result c.requires.accepted (sym (ap (place extent c.args.pages) c.regions.ensures) ∙ sym c.place.ensures ∙ c.in-Some.is) (subst (λ p. IsTrue (is_page_size p)) (sym c.get-page.ensures.number) c.get-page.ensures.size) in omega (arith, low)

pub unreachable-requires : goal.unreachable-requires
unreachable-requires c = alloc_place c.args.kernel.now c.args.pid c.args.pages c.requires.accepted (sym (ap (place extent c.args.pages) c.regions.ensures) ∙ sym c.place.ensures ∙ c.in-None.is)

pub returns-clause-served : goal.returns-clause-served
returns-clause-served c =
    let page : c.get-page.result ≡ c.args.kernel.now.config.page = c.get-page.ensures.number ∙ c.page.ensures ∙ c.requires.good.spaced.page in
    subst (λ a. IsServed c.args.kernel.now (Alloc c.args.pid c.args.pages) c.add_region-object.new.kernel (reply.At (c.in-Some.start * a))) (sym page)
    (adds_served c.region_laws.ensures c.args.kernel.now c.make_room.new.kernel c.add_region-object.new.kernel c.args.pid (Alloc c.args.pid c.args.pages) (reply.At (c.in-Some.start * c.args.kernel.now.config.page)) (new_region (record { 0 = c.fresh_number.result }) Sys c.in-Some.start c.args.pages c.add_region-object.result) c.requires.good
    (alloc_new c.args.kernel.now c.args.pid c.args.pages c.in-Some.start (record { 0 = c.fresh_number.result }) c.add_region-object.result c.requires.good c.requires.accepted c.fresh_number.ensures (sym (ap (place extent c.args.pages) c.regions.ensures) ∙ sym c.place.ensures ∙ c.in-Some.is))
    c.make_room.ensures.clears c.make_room.ensures.room c.add_region-object.ensures)

pub returns-clause-numbers : goal.returns-clause-numbers
returns-clause-numbers c = ap (λ (k : Kernel). k.next) c.add_region-object.ensures.added ∙ ap (λ (k : Kernel). k.next) c.make_room.ensures.clears.only
