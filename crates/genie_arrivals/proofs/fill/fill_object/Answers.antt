use Rattle.std.proofs.Common.{refl, length}
use Rattle.genie_object.specs.Objects.{object_at}
use Rattle.genie_plan.specs.Plans.{input_frames}
use Rattle.genie_arrivals.proofs.Filling.{object_filled, still_there}
use Rattle.genie_arrivals.proofs.EarlyCosts.{fill_copies}
use Rattle.genie_arrivals.proofs.fill.fill_object.Goals as goal

pub store_buffer-requires : goal.store_buffer-requires
store_buffer-requires c = c.requires.can c.clear_object.new.memory c.clear_object.ensures

pub forbid_each-requires : goal.forbid_each-requires
forbid_each-requires c = still_there c.clear_object.new.memory.objects c.store_buffer.new.memory.objects c.args.object.0 (c.store_buffer.ensures.stores.keeps.entries c.args.object.0) (still_there c.args.memory.now.objects c.clear_object.new.memory.objects c.args.object.0 (c.clear_object.ensures.keeps.entries c.args.object.0) c.requires.there)

pub returns-clause-fills : goal.returns-clause-fills
returns-clause-fills c = object_filled c.args.memory.now c.clear_object.new.memory c.store_buffer.new.memory c.forbid_each.new.objects c.args.object.0 c.args.len (length (object_at c.store_buffer.new.memory.objects c.args.object.0)) (input_frames c.args.loans.now) c.clear_object.ensures c.store_buffer.ensures.stores refl c.forbid_each.ensures

pub returns-clause-copies : goal.returns-clause-copies
returns-clause-copies c = fill_copies c.args.memory.now c.clear_object.new.memory c.store_buffer.new.memory c.args.object.0 c.args.len c.clear_object.ensures c.store_buffer.ensures.copies
