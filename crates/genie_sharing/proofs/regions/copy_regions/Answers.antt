use Rattle.std.proofs.Common.{◌+◌, arith, sym, ◌∙◌}
use Rattle.genie_sharing.specs.Regions.{is_copied}
use Rattle.genie_sharing.proofs.EachRegion.{copied_all, copy_empty, copying_failed, copying_more, copying_none, copies_found, meters_more, spent_all, from_owned, objects_differ, size_same, source_there, to_owned}
use Rattle.genie_sharing.proofs.Looping.{roomy_next}
use Rattle.genie_sharing.proofs.regions.copy_regions.Goals as goal

pub copies-init : goal.copies-init
copies-init g c = copying_none c.args.hidden.now c.args.regions.now c.args.copies.now c.args.memory.now (g.S.Store.view c.args.store.now) c.requires.sound c.requires.sized c.requires.fits c.requires.copies

pub copy_object-requires-clause-there : goal.copy_object-requires-clause-there
copy_object-requires-clause-there g c = source_there c.args.hidden.now c.copies.hidden c.copies.hidden c.args.regions.now c.args.copies.now c.copies.i c.args.memory.now c.copies.memory c.copies.memory (g.S.Store.view c.args.store.now) (g.S.Store.view c.copies.store) (g.S.Store.view c.copies.store) c.at-copy.result c.in-Some.region c.requires.copies c.requires.sound c.copies.invariant c.at-copy.ensures (sym c.starting_at.ensures ∙ c.in-Some.is)

pub copy_object-requires-clause-size : goal.copy_object-requires-clause-size
copy_object-requires-clause-size g c = size_same c.args.hidden.now c.copies.hidden c.copies.hidden c.args.regions.now c.args.copies.now c.copies.i c.args.memory.now c.copies.memory c.copies.memory (g.S.Store.view c.args.store.now) (g.S.Store.view c.copies.store) (g.S.Store.view c.copies.store) c.at-copy.result c.in-Some.region c.requires.copies c.requires.sound c.copies.invariant c.at-copy.ensures (sym c.starting_at.ensures ∙ c.in-Some.is)

pub copy_object-requires-clause-apart : goal.copy_object-requires-clause-apart
copy_object-requires-clause-apart g c = objects_differ c.args.hidden.now c.copies.hidden c.copies.hidden c.args.regions.now c.args.copies.now c.copies.i c.args.memory.now c.copies.memory c.copies.memory (g.S.Store.view c.args.store.now) (g.S.Store.view c.copies.store) (g.S.Store.view c.copies.store) c.at-copy.result c.in-Some.region c.requires.copies c.requires.sound c.copies.invariant c.at-copy.ensures (sym c.starting_at.ensures ∙ c.in-Some.is)

pub copy_object-requires-clause-empty : goal.copy_object-requires-clause-empty
copy_object-requires-clause-empty g c = copy_empty c.args.hidden.now c.copies.hidden c.copies.hidden c.args.regions.now c.args.copies.now c.copies.i c.args.memory.now c.copies.memory c.copies.memory (g.S.Store.view c.args.store.now) (g.S.Store.view c.copies.store) (g.S.Store.view c.copies.store) c.at-copy.result c.in-Some.region c.requires.copies c.requires.sound c.copies.invariant c.at-copy.ensures (sym c.starting_at.ensures ∙ c.in-Some.is)

pub copy_object-requires-clause-from_owned : goal.copy_object-requires-clause-from_owned
copy_object-requires-clause-from_owned g c = from_owned c.args.hidden.now c.copies.hidden c.copies.hidden c.args.regions.now c.args.copies.now c.copies.i c.args.memory.now c.copies.memory c.copies.memory (g.S.Store.view c.args.store.now) (g.S.Store.view c.copies.store) (g.S.Store.view c.copies.store) c.at-copy.result c.in-Some.region c.requires.copies c.requires.sound c.copies.invariant c.at-copy.ensures (sym c.starting_at.ensures ∙ c.in-Some.is)

pub copy_object-requires-clause-to_owned : goal.copy_object-requires-clause-to_owned
copy_object-requires-clause-to_owned g c = to_owned c.args.hidden.now c.copies.hidden c.copies.hidden c.args.regions.now c.args.copies.now c.copies.i c.args.memory.now c.copies.memory c.copies.memory (g.S.Store.view c.args.store.now) (g.S.Store.view c.copies.store) (g.S.Store.view c.copies.store) c.at-copy.result c.in-Some.region c.requires.copies c.requires.sound c.copies.invariant c.at-copy.ensures (sym c.starting_at.ensures ∙ c.in-Some.is)

pub copy_object-requires-clause-room : goal.copy_object-requires-clause-room
copy_object-requires-clause-room g c = roomy_next c.args.hidden.now c.copies.hidden (is_copied c.args.copies.now) c.args.memory.now c.copies.memory (g.S.Store.view c.args.store.now) (g.S.Store.view c.copies.store) c.copies.invariant.cache c.copies.invariant.entries c.requires.room

pub returns-in-Err-clause-failed : goal.returns-in-Err-clause-failed
returns-in-Err-clause-failed g c = copying_failed c.args.hidden.now c.copies.hidden c.copy_object.new.hidden c.args.regions.now c.args.copies.now c.copies.i c.args.memory.now c.copies.memory c.copy_object.new.memory (g.S.Store.view c.args.store.now) (g.S.Store.view c.copies.store) (g.S.Store.view c.copy_object.new.store) c.at-copy.result c.in-Some.region c.requires.copies c.requires.sound c.copies.invariant c.at-copy.ensures (sym c.starting_at.ensures ∙ c.in-Some.is) c.in-Err.ensures.failed

pub unreachable-requires : goal.unreachable-requires
unreachable-requires g c = copies_found c.args.regions.now c.args.copies.now c.copies.i c.at-copy.result c.args.memory.now c.args.hidden.now c.requires.copies c.at-copy.ensures (sym c.starting_at.ensures ∙ c.in-None.is)

pub copies-preserved : goal.copies-preserved
copies-preserved g c = copying_more c.args.hidden.now c.copies.hidden c.copy_object.new.hidden c.args.regions.now c.args.copies.now c.copies.i c.args.memory.now c.copies.memory c.copy_object.new.memory (g.S.Store.view c.args.store.now) (g.S.Store.view c.copies.store) (g.S.Store.view c.copy_object.new.store) c.at-copy.result c.in-Some.region c.requires.copies c.requires.sound c.copies.invariant c.at-copy.ensures (sym c.starting_at.ensures ∙ c.in-Some.is) c.in-Ok.ensures.copies c.requires.page c.copy_object.ensures.few c.copy_object.ensures.hidden c.in-Ok.ensures.cause.kept c.copy_object.ensures.meters

pub returns-clause-copied : goal.returns-clause-copied
returns-clause-copied g c = copied_all c.args.hidden.now c.copies.hidden c.args.regions.now c.args.copies.now c.copies.i c.args.memory.now c.copies.memory (g.S.Store.view c.args.store.now) (g.S.Store.view c.copies.store) (let n = c.len-i-end.ensures.length in let t = c.copies-test.false in omega (arith, n, t)) c.copies.invariant

pub returns-in-Err-clause-meters : goal.returns-in-Err-clause-meters
returns-in-Err-clause-meters g c = spent_all (c.copies.i + 1) c.args.memory.now c.args.regions.now c.args.copies.now c.copy_object.new.memory.frames.meters (let t = c.copies-test.true in let n = c.len-i-end.ensures.length in let m = c.len-i-end.ensures.layout.few in omega (arith, t, n, m)) (meters_more c.args.hidden.now c.copies.hidden c.copy_object.new.hidden c.args.regions.now c.args.copies.now c.copies.i c.args.memory.now c.copies.memory c.copy_object.new.memory (g.S.Store.view c.args.store.now) (g.S.Store.view c.copies.store) (g.S.Store.view c.copy_object.new.store) c.at-copy.result c.in-Some.region c.requires.copies c.requires.sound c.copies.invariant c.at-copy.ensures (sym c.starting_at.ensures ∙ c.in-Some.is) c.copy_object.ensures.meters)
