use Rattle.std.proofs.Common.{refl, ap, ◌∙◌}
use Rattle.genie_base.specs.declared.event.Event.TheVariants.{Map}
use Rattle.genie_base.specs.declared.region.Area.TheVariants.{App}
use Rattle.genie_base.specs.declared.reply.Reply.TheVariants as reply
use Rattle.genie_kernel.specs.declared.kernel.Kernel.{Kernel}
use Rattle.genie_spaces.proofs.Adding.{adds_served}
use Rattle.genie_spaces.proofs.Mapping.{may_map, may_in, map_new, new_region, object_room}
use Rattle.genie_spaces.proofs.map.map.Goals as goal

pub make_room-requires-clause-alive : goal.make_room-requires-clause-alive
make_room-requires-clause-alive c = (may_map c.args.kernel.now c.args.pid c.args.page c.args.pages (record { 0 = c.fresh_number.result }) c.requires.good c.requires.accepted c.fresh_number.ensures).alive

pub make_room-requires-clause-few : goal.make_room-requires-clause-few
make_room-requires-clause-few c = (may_map c.args.kernel.now c.args.pid c.args.page c.args.pages (record { 0 = c.fresh_number.result }) c.requires.good c.requires.accepted c.fresh_number.ensures).few

pub add_region-object-requires-clause-alive : goal.add_region-object-requires-clause-alive
add_region-object-requires-clause-alive c = (may_in c.args.kernel.now c.make_room.new.kernel c.args.pid c.args.page c.args.pages (record { 0 = c.fresh_number.result }) c.make_room.ensures.clears (may_map c.args.kernel.now c.args.pid c.args.page c.args.pages (record { 0 = c.fresh_number.result }) c.requires.good c.requires.accepted c.fresh_number.ensures)).alive

pub add_region-object-requires-clause-sound : goal.add_region-object-requires-clause-sound
add_region-object-requires-clause-sound c = c.make_room.ensures.clears.good.sound

pub add_region-object-requires-clause-some : goal.add_region-object-requires-clause-some
add_region-object-requires-clause-some c = (map_new c.args.kernel.now c.args.pid c.args.page c.args.pages (record { 0 = c.fresh_number.result }) (record { 0 = 0 }) c.requires.good c.requires.accepted c.fresh_number.ensures).some

pub add_region-object-requires-clause-room : goal.add_region-object-requires-clause-room
add_region-object-requires-clause-room c =
    let may = may_in c.args.kernel.now c.make_room.new.kernel c.args.pid c.args.page c.args.pages (record { 0 = c.fresh_number.result }) c.make_room.ensures.clears (may_map c.args.kernel.now c.args.pid c.args.page c.args.pages (record { 0 = c.fresh_number.result }) c.requires.good c.requires.accepted c.fresh_number.ensures) in
    object_room c.objects_suffice.ensures c.make_room.new.kernel c.args.pid c.make_room.ensures.clears.good may.alive c.make_room.ensures.room

pub add_region-object-requires-clause-few : goal.add_region-object-requires-clause-few
add_region-object-requires-clause-few c = (may_in c.args.kernel.now c.make_room.new.kernel c.args.pid c.args.page c.args.pages (record { 0 = c.fresh_number.result }) c.make_room.ensures.clears (may_map c.args.kernel.now c.args.pid c.args.page c.args.pages (record { 0 = c.fresh_number.result }) c.requires.good c.requires.accepted c.fresh_number.ensures)).few

pub add_region-object-requires-clause-free : goal.add_region-object-requires-clause-free
add_region-object-requires-clause-free c = (may_in c.args.kernel.now c.make_room.new.kernel c.args.pid c.args.page c.args.pages (record { 0 = c.fresh_number.result }) c.make_room.ensures.clears (may_map c.args.kernel.now c.args.pid c.args.page c.args.pages (record { 0 = c.fresh_number.result }) c.requires.good c.requires.accepted c.fresh_number.ensures)).free

pub add_region-object-requires-clause-new : goal.add_region-object-requires-clause-new
add_region-object-requires-clause-new c =
    let h = (may_in c.args.kernel.now c.make_room.new.kernel c.args.pid c.args.page c.args.pages (record { 0 = c.fresh_number.result }) c.make_room.ensures.clears (may_map c.args.kernel.now c.args.pid c.args.page c.args.pages (record { 0 = c.fresh_number.result }) c.requires.good c.requires.accepted c.fresh_number.ensures)).new in
    rw h refl

pub returns-clause-served : goal.returns-clause-served
returns-clause-served c = adds_served c.region_laws.ensures c.args.kernel.now c.make_room.new.kernel c.add_region-object.new.kernel c.args.pid (Map c.args.pid c.args.page c.args.pages) reply.Okay (new_region (record { 0 = c.fresh_number.result }) App c.args.page c.args.pages c.add_region-object.result) c.requires.good
    (map_new c.args.kernel.now c.args.pid c.args.page c.args.pages (record { 0 = c.fresh_number.result }) c.add_region-object.result c.requires.good c.requires.accepted c.fresh_number.ensures)
    c.make_room.ensures.clears c.make_room.ensures.room c.add_region-object.ensures

pub returns-clause-numbers : goal.returns-clause-numbers
returns-clause-numbers c = ap (λ (k : Kernel). k.next) c.add_region-object.ensures.added ∙ ap (λ (k : Kernel). k.next) c.make_room.ensures.clears.only
