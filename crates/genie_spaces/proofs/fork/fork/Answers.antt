use Rattle.genie_spaces.proofs.Ended.{child_new, child_number, config_done, config_failed, drop_differ, drop_sound, drop_there, good_done, good_failed, kept_done, kept_failed, landed_done, landed_failed, meters_done, meters_failed, meters_mid, numbers_done, numbers_failed, ready, same_done, same_failed, shared_done, sized_done, sized_failed, sized_mid, table_kept, tables_size, told_done, told_failed}
use Rattle.genie_spaces.proofs.Rising.{rises_forked}
use Rattle.genie_spaces.proofs.fork.fork.Goals as goal

pub copy_pages-requires-clause-ready : goal.copy_pages-requires-clause-ready
copy_pages-requires-clause-ready g c = ready c.region_laws.ensures c.regions_fit.ensures.regions c.args.kernel.now c.begin-copies.new.kernel c.args.pid c.args.child c.begin-copies.result c.requires.good c.requires.accepted c.begin-copies.ensures

pub copy_pages-requires-clause-sized : goal.copy_pages-requires-clause-sized
copy_pages-requires-clause-sized g c = sized_mid c.region_laws.ensures c.regions_fit.ensures.regions c.args.kernel.now c.begin-copies.new.kernel c.args.pid c.args.child c.begin-copies.result c.requires.good c.requires.accepted c.begin-copies.ensures (g.S.Store.view c.args.store.now) c.requires.sized

pub copy_pages-requires-clause-meters : goal.copy_pages-requires-clause-meters
copy_pages-requires-clause-meters g c = meters_mid c.region_laws.ensures c.regions_fit.ensures.regions c.args.kernel.now c.begin-copies.new.kernel c.args.pid c.args.child c.begin-copies.result c.requires.good c.requires.accepted c.begin-copies.ensures c.requires.meters

pub add_child-requires-clause-number : goal.add_child-requires-clause-number
add_child-requires-clause-number g c = child_number c.region_laws.ensures c.regions_fit.ensures.regions c.args.kernel.now c.begin-copies.new.kernel c.args.pid c.args.child c.begin-copies.result c.requires.good c.requires.accepted c.begin-copies.ensures c.copy_pages.new.kernel c.copy_pages.ensures.only (g.S.Store.view c.args.store.now) (g.S.Store.view c.copy_pages.new.store)

pub add_child-requires-clause-size : goal.add_child-requires-clause-size
add_child-requires-clause-size g c = tables_size c.region_laws.ensures c.regions_fit.ensures.regions c.args.kernel.now c.begin-copies.new.kernel c.args.pid c.args.child c.begin-copies.result c.requires.good c.requires.accepted c.begin-copies.ensures c.copy_pages.new.kernel c.copy_pages.ensures.only (g.S.Store.view c.args.store.now) (g.S.Store.view c.copy_pages.new.store)

pub add_child-requires-clause-new : goal.add_child-requires-clause-new
add_child-requires-clause-new g c = child_new c.region_laws.ensures c.regions_fit.ensures.regions c.args.kernel.now c.begin-copies.new.kernel c.args.pid c.args.child c.begin-copies.result c.requires.good c.requires.accepted c.begin-copies.ensures c.copy_pages.new.kernel c.copy_pages.ensures.only (g.S.Store.view c.args.store.now) (g.S.Store.view c.copy_pages.new.store)

pub drop_objects-requires-clause-sound : goal.drop_objects-requires-clause-sound
drop_objects-requires-clause-sound g c = drop_sound c.region_laws.ensures c.regions_fit.ensures.regions c.args.kernel.now c.begin-copies.new.kernel c.args.pid c.args.child c.begin-copies.result c.requires.good c.requires.accepted c.begin-copies.ensures c.copy_pages.new.kernel c.copy_pages.ensures.only (g.S.Store.view c.args.store.now) (g.S.Store.view c.copy_pages.new.store) c.in-Err.ensures.failed

pub drop_objects-requires-clause-there : goal.drop_objects-requires-clause-there
drop_objects-requires-clause-there g c = drop_there c.region_laws.ensures c.regions_fit.ensures.regions c.args.kernel.now c.begin-copies.new.kernel c.args.pid c.args.child c.begin-copies.result c.requires.good c.requires.accepted c.begin-copies.ensures c.copy_pages.new.kernel c.copy_pages.ensures.only (g.S.Store.view c.args.store.now) (g.S.Store.view c.copy_pages.new.store) c.in-Err.ensures.failed

pub drop_objects-requires-clause-differ : goal.drop_objects-requires-clause-differ
drop_objects-requires-clause-differ g c = drop_differ c.region_laws.ensures c.regions_fit.ensures.regions c.args.kernel.now c.begin-copies.new.kernel c.args.pid c.args.child c.begin-copies.result c.requires.good c.requires.accepted c.begin-copies.ensures c.copy_pages.new.kernel c.copy_pages.ensures.only (g.S.Store.view c.args.store.now) (g.S.Store.view c.copy_pages.new.store) c.in-Err.ensures.failed

pub returns-in-Ok-clause-good : goal.returns-in-Ok-clause-good
returns-in-Ok-clause-good g c = good_done c.region_laws.ensures c.regions_fit.ensures.regions c.args.kernel.now c.begin-copies.new.kernel c.args.pid c.args.child c.begin-copies.result c.requires.good c.requires.accepted c.begin-copies.ensures c.copy_pages.new.kernel c.copy_pages.ensures.only (g.S.Store.view c.args.store.now) (g.S.Store.view c.copy_pages.new.store) c.in-Ok.ensures.copied c.add_child.new.kernel c.add_child.ensures c.memory_calls_keep_good.ensures.good

pub returns-in-Ok-clause-sized : goal.returns-in-Ok-clause-sized
returns-in-Ok-clause-sized g c = sized_done c.region_laws.ensures c.regions_fit.ensures.regions c.args.kernel.now c.begin-copies.new.kernel c.args.pid c.args.child c.begin-copies.result c.requires.good c.requires.accepted c.begin-copies.ensures c.copy_pages.new.kernel c.copy_pages.ensures.only (g.S.Store.view c.args.store.now) (g.S.Store.view c.copy_pages.new.store) c.in-Ok.ensures.copied c.add_child.new.kernel c.add_child.ensures

pub returns-in-Ok-clause-kept : goal.returns-in-Ok-clause-kept
returns-in-Ok-clause-kept g c = kept_done c.region_laws.ensures c.regions_fit.ensures.regions c.args.kernel.now c.begin-copies.new.kernel c.args.pid c.args.child c.begin-copies.result c.requires.good c.requires.accepted c.begin-copies.ensures c.copy_pages.new.kernel c.copy_pages.ensures.only (g.S.Store.view c.args.store.now) (g.S.Store.view c.copy_pages.new.store) c.in-Ok.ensures.copied c.add_child.new.kernel c.add_child.ensures c.memory_calls_keep_good.ensures.lent

pub returns-in-Ok-clause-config : goal.returns-in-Ok-clause-config
returns-in-Ok-clause-config g c = config_done c.region_laws.ensures c.regions_fit.ensures.regions c.args.kernel.now c.begin-copies.new.kernel c.args.pid c.args.child c.begin-copies.result c.requires.good c.requires.accepted c.begin-copies.ensures c.copy_pages.new.kernel c.copy_pages.ensures.only (g.S.Store.view c.args.store.now) (g.S.Store.view c.copy_pages.new.store) c.in-Ok.ensures.copied c.add_child.new.kernel c.add_child.ensures

pub returns-in-Ok-clause-numbers : goal.returns-in-Ok-clause-numbers
returns-in-Ok-clause-numbers g c = numbers_done c.region_laws.ensures c.regions_fit.ensures.regions c.args.kernel.now c.begin-copies.new.kernel c.args.pid c.args.child c.begin-copies.result c.requires.good c.requires.accepted c.begin-copies.ensures c.copy_pages.new.kernel c.copy_pages.ensures.only (g.S.Store.view c.args.store.now) (g.S.Store.view c.copy_pages.new.store) c.in-Ok.ensures.copied c.add_child.new.kernel c.add_child.ensures

pub returns-in-Ok-clause-step : goal.returns-in-Ok-clause-step
returns-in-Ok-clause-step g c = told_done c.region_laws.ensures c.regions_fit.ensures.regions c.args.kernel.now c.begin-copies.new.kernel c.args.pid c.args.child c.begin-copies.result c.requires.good c.requires.accepted c.begin-copies.ensures c.copy_pages.new.kernel c.copy_pages.ensures.only (g.S.Store.view c.args.store.now) (g.S.Store.view c.copy_pages.new.store) c.in-Ok.ensures.copied c.add_child.new.kernel c.add_child.ensures

pub returns-in-Ok-clause-shared : goal.returns-in-Ok-clause-shared
returns-in-Ok-clause-shared g c = λ okay. shared_done c.region_laws.ensures c.regions_fit.ensures.regions c.args.kernel.now c.begin-copies.new.kernel c.args.pid c.args.child c.begin-copies.result c.requires.good c.requires.accepted c.begin-copies.ensures c.copy_pages.new.kernel c.copy_pages.ensures.only (g.S.Store.view c.args.store.now) (g.S.Store.view c.copy_pages.new.store) c.in-Ok.ensures.copied c.add_child.new.kernel c.add_child.ensures

pub returns-in-Err-clause-good : goal.returns-in-Err-clause-good
returns-in-Err-clause-good g c = good_failed c.region_laws.ensures c.regions_fit.ensures.regions c.args.kernel.now c.begin-copies.new.kernel c.args.pid c.args.child c.begin-copies.result c.requires.good c.requires.accepted c.begin-copies.ensures c.copy_pages.new.kernel c.copy_pages.ensures.only (g.S.Store.view c.args.store.now) (g.S.Store.view c.copy_pages.new.store) c.in-Err.ensures.failed c.drop_objects.new.memory c.drop_objects.ensures c.memory_calls_keep_good.ensures.good

pub returns-in-Err-clause-sized : goal.returns-in-Err-clause-sized
returns-in-Err-clause-sized g c = sized_failed c.region_laws.ensures c.regions_fit.ensures.regions c.args.kernel.now c.begin-copies.new.kernel c.args.pid c.args.child c.begin-copies.result c.requires.good c.requires.accepted c.begin-copies.ensures c.copy_pages.new.kernel c.copy_pages.ensures.only (g.S.Store.view c.args.store.now) (g.S.Store.view c.copy_pages.new.store) c.in-Err.ensures.failed c.drop_objects.new.memory c.drop_objects.ensures

pub returns-in-Err-clause-kept : goal.returns-in-Err-clause-kept
returns-in-Err-clause-kept g c = kept_failed c.region_laws.ensures c.regions_fit.ensures.regions c.args.kernel.now c.begin-copies.new.kernel c.args.pid c.args.child c.begin-copies.result c.requires.good c.requires.accepted c.begin-copies.ensures c.copy_pages.new.kernel c.copy_pages.ensures.only (g.S.Store.view c.args.store.now) (g.S.Store.view c.copy_pages.new.store) c.in-Err.ensures.failed c.drop_objects.new.memory c.drop_objects.ensures c.memory_calls_keep_good.ensures.lent

pub returns-in-Err-clause-config : goal.returns-in-Err-clause-config
returns-in-Err-clause-config g c = config_failed c.region_laws.ensures c.regions_fit.ensures.regions c.args.kernel.now c.begin-copies.new.kernel c.args.pid c.args.child c.begin-copies.result c.requires.good c.requires.accepted c.begin-copies.ensures c.copy_pages.new.kernel c.copy_pages.ensures.only (g.S.Store.view c.args.store.now) (g.S.Store.view c.copy_pages.new.store) c.in-Err.ensures.failed c.drop_objects.new.memory c.drop_objects.ensures

pub returns-in-Err-clause-numbers : goal.returns-in-Err-clause-numbers
returns-in-Err-clause-numbers g c = numbers_failed c.region_laws.ensures c.regions_fit.ensures.regions c.args.kernel.now c.begin-copies.new.kernel c.args.pid c.args.child c.begin-copies.result c.requires.good c.requires.accepted c.begin-copies.ensures c.copy_pages.new.kernel c.copy_pages.ensures.only (g.S.Store.view c.args.store.now) (g.S.Store.view c.copy_pages.new.store) c.in-Err.ensures.failed c.drop_objects.new.memory c.drop_objects.ensures

pub returns-in-Err-clause-step : goal.returns-in-Err-clause-step
returns-in-Err-clause-step g c = told_failed c.region_laws.ensures c.regions_fit.ensures.regions c.args.kernel.now c.begin-copies.new.kernel c.args.pid c.args.child c.begin-copies.result c.requires.good c.requires.accepted c.begin-copies.ensures c.copy_pages.new.kernel c.copy_pages.ensures.only (g.S.Store.view c.args.store.now) (g.S.Store.view c.copy_pages.new.store) c.in-Err.ensures.failed c.drop_objects.new.memory c.drop_objects.ensures c.states_are_alike.ensures.lent

pub returns-in-Ok-clause-meters : goal.returns-in-Ok-clause-meters
returns-in-Ok-clause-meters g c = meters_done c.region_laws.ensures c.regions_fit.ensures.regions c.args.kernel.now c.begin-copies.new.kernel c.args.pid c.args.child c.begin-copies.result c.requires.good c.requires.accepted c.begin-copies.ensures c.copy_pages.new.kernel c.copy_pages.ensures.only (g.S.Store.view c.args.store.now) (g.S.Store.view c.copy_pages.new.store) c.in-Ok.ensures.copied c.add_child.new.kernel c.add_child.ensures c.copy_pages.ensures.meters

pub returns-in-Ok-clause-landed : goal.returns-in-Ok-clause-landed
returns-in-Ok-clause-landed g c = landed_done c.region_laws.ensures c.regions_fit.ensures.regions c.args.kernel.now c.begin-copies.new.kernel c.args.pid c.args.child c.begin-copies.result c.requires.good c.requires.accepted c.begin-copies.ensures c.copy_pages.new.kernel c.copy_pages.ensures.only (g.S.Store.view c.args.store.now) (g.S.Store.view c.copy_pages.new.store) c.in-Ok.ensures.copied c.add_child.new.kernel c.add_child.ensures

pub returns-in-Err-clause-meters : goal.returns-in-Err-clause-meters
returns-in-Err-clause-meters g c = meters_failed c.region_laws.ensures c.regions_fit.ensures.regions c.args.kernel.now c.begin-copies.new.kernel c.args.pid c.args.child c.begin-copies.result c.requires.good c.requires.accepted c.begin-copies.ensures c.copy_pages.new.kernel c.copy_pages.ensures.only (g.S.Store.view c.args.store.now) (g.S.Store.view c.copy_pages.new.store) c.in-Err.ensures.failed c.drop_objects.new.memory c.drop_objects.ensures c.copy_pages.ensures.meters

pub returns-in-Err-clause-landed : goal.returns-in-Err-clause-landed
returns-in-Err-clause-landed g c = landed_failed c.region_laws.ensures c.regions_fit.ensures.regions c.args.kernel.now c.begin-copies.new.kernel c.args.pid c.args.child c.begin-copies.result c.requires.good c.requires.accepted c.begin-copies.ensures c.copy_pages.new.kernel c.copy_pages.ensures.only (g.S.Store.view c.args.store.now) (g.S.Store.view c.copy_pages.new.store) c.in-Err.ensures.failed c.drop_objects.new.memory c.drop_objects.ensures

pub returns-in-Ok-clause-rises : goal.returns-in-Ok-clause-rises
returns-in-Ok-clause-rises g c =
    let good = good_done c.region_laws.ensures c.regions_fit.ensures.regions c.args.kernel.now c.begin-copies.new.kernel c.args.pid c.args.child c.begin-copies.result c.requires.good c.requires.accepted c.begin-copies.ensures c.copy_pages.new.kernel c.copy_pages.ensures.only (g.S.Store.view c.args.store.now) (g.S.Store.view c.copy_pages.new.store) c.in-Ok.ensures.copied c.add_child.new.kernel c.add_child.ensures c.memory_calls_keep_good.ensures.good in
    let spent = meters_done c.region_laws.ensures c.regions_fit.ensures.regions c.args.kernel.now c.begin-copies.new.kernel c.args.pid c.args.child c.begin-copies.result c.requires.good c.requires.accepted c.begin-copies.ensures c.copy_pages.new.kernel c.copy_pages.ensures.only (g.S.Store.view c.args.store.now) (g.S.Store.view c.copy_pages.new.store) c.in-Ok.ensures.copied c.add_child.new.kernel c.add_child.ensures c.copy_pages.ensures.meters in
    rises_forked c.regions_fit.ensures.regions c.args.kernel.now c.add_child.new.kernel c.args.pid good spent (landed_done c.region_laws.ensures c.regions_fit.ensures.regions c.args.kernel.now c.begin-copies.new.kernel c.args.pid c.args.child c.begin-copies.result c.requires.good c.requires.accepted c.begin-copies.ensures c.copy_pages.new.kernel c.copy_pages.ensures.only (g.S.Store.view c.args.store.now) (g.S.Store.view c.copy_pages.new.store) c.in-Ok.ensures.copied c.add_child.new.kernel c.add_child.ensures)

pub returns-in-Err-clause-rises : goal.returns-in-Err-clause-rises
returns-in-Err-clause-rises g c =
    let good = good_failed c.region_laws.ensures c.regions_fit.ensures.regions c.args.kernel.now c.begin-copies.new.kernel c.args.pid c.args.child c.begin-copies.result c.requires.good c.requires.accepted c.begin-copies.ensures c.copy_pages.new.kernel c.copy_pages.ensures.only (g.S.Store.view c.args.store.now) (g.S.Store.view c.copy_pages.new.store) c.in-Err.ensures.failed c.drop_objects.new.memory c.drop_objects.ensures c.memory_calls_keep_good.ensures.good in
    let spent = meters_failed c.region_laws.ensures c.regions_fit.ensures.regions c.args.kernel.now c.begin-copies.new.kernel c.args.pid c.args.child c.begin-copies.result c.requires.good c.requires.accepted c.begin-copies.ensures c.copy_pages.new.kernel c.copy_pages.ensures.only (g.S.Store.view c.args.store.now) (g.S.Store.view c.copy_pages.new.store) c.in-Err.ensures.failed c.drop_objects.new.memory c.drop_objects.ensures c.copy_pages.ensures.meters in
    rises_forked c.regions_fit.ensures.regions c.args.kernel.now (record (c.copy_pages.new.kernel) { memory = c.drop_objects.new.memory }) c.args.pid good spent (landed_failed c.region_laws.ensures c.regions_fit.ensures.regions c.args.kernel.now c.begin-copies.new.kernel c.args.pid c.args.child c.begin-copies.result c.requires.good c.requires.accepted c.begin-copies.ensures c.copy_pages.new.kernel c.copy_pages.ensures.only (g.S.Store.view c.args.store.now) (g.S.Store.view c.copy_pages.new.store) c.in-Err.ensures.failed c.drop_objects.new.memory c.drop_objects.ensures)

pub returns-in-Ok-clause-copying : goal.returns-in-Ok-clause-copying
returns-in-Ok-clause-copying g c = table_kept c.region_laws.ensures c.regions_fit.ensures.regions c.args.kernel.now c.begin-copies.new.kernel c.args.pid c.args.child c.begin-copies.result c.requires.good c.requires.accepted c.begin-copies.ensures c.copy_pages.new.kernel c.copy_pages.ensures.only (g.S.Store.view c.args.store.now) (g.S.Store.view c.copy_pages.new.store) c.add_child.new.kernel.memory.frames.meters (same_done c.region_laws.ensures c.regions_fit.ensures.regions c.args.kernel.now c.begin-copies.new.kernel c.args.pid c.args.child c.begin-copies.result c.requires.good c.requires.accepted c.begin-copies.ensures c.copy_pages.new.kernel c.copy_pages.ensures.only (g.S.Store.view c.args.store.now) (g.S.Store.view c.copy_pages.new.store) c.in-Ok.ensures.copied c.add_child.new.kernel c.add_child.ensures) c.copy_pages.ensures.meters

pub returns-in-Err-clause-copying : goal.returns-in-Err-clause-copying
returns-in-Err-clause-copying g c = table_kept c.region_laws.ensures c.regions_fit.ensures.regions c.args.kernel.now c.begin-copies.new.kernel c.args.pid c.args.child c.begin-copies.result c.requires.good c.requires.accepted c.begin-copies.ensures c.copy_pages.new.kernel c.copy_pages.ensures.only (g.S.Store.view c.args.store.now) (g.S.Store.view c.copy_pages.new.store) c.drop_objects.new.memory.frames.meters (same_failed c.region_laws.ensures c.regions_fit.ensures.regions c.args.kernel.now c.begin-copies.new.kernel c.args.pid c.args.child c.begin-copies.result c.requires.good c.requires.accepted c.begin-copies.ensures c.copy_pages.new.kernel c.copy_pages.ensures.only (g.S.Store.view c.args.store.now) (g.S.Store.view c.copy_pages.new.store) c.in-Err.ensures.failed c.drop_objects.new.memory c.drop_objects.ensures) c.copy_pages.ensures.meters
