use Rattle.genie_changes.proofs.Forgetting.{object_there}
use Rattle.genie_changes.proofs.RegionHidden.{hides, may_hide}
use Rattle.genie_changes.proofs.hiding.hide_region.Goals as goal

pub hide-requires-clause-process : goal.hide-requires-clause-process
hide-requires-clause-process c = (may_hide c.args.kernel.now c.args.pid c.args.region c.requires.settled c.requires.there).process

pub hide-requires-clause-room : goal.hide-requires-clause-room
hide-requires-clause-room c = (may_hide c.args.kernel.now c.args.pid c.args.region c.requires.settled c.requires.there).room

pub hide-requires-clause-there : goal.hide-requires-clause-there
hide-requires-clause-there c = object_there c.args.kernel.now c.args.pid c.args.region c.requires.settled c.requires.there

pub hide-requires-clause-apart : goal.hide-requires-clause-apart
hide-requires-clause-apart c = (may_hide c.args.kernel.now c.args.pid c.args.region c.requires.settled c.requires.there).apart

pub forget-requires-clause-number : goal.forget-requires-clause-number
forget-requires-clause-number c = (may_hide c.args.kernel.now c.args.pid c.args.region c.requires.settled c.requires.there).process

pub returns : goal.returns
returns c = hides c.args.pid c.args.region c.args.kernel.now c.forget.new.kernel c.hide.new.memory c.hide.new.self c.requires.there c.hide.ensures.kept c.hide.ensures.empties c.hide.ensures.fits c.hide.ensures.stays c.forget.ensures
