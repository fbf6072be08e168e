use Rattle.std.proofs.Common.{ℕ, refl, length, ap, sym, subst}
use Rattle.std.specs.Prelude.{◌<◌, ◌^◌}
use Rattle.genie_frame.specs.FrameTable.{FrameTable}
use Rattle.genie_object.specs.Objects.{object_at}
use Rattle.genie_arrivals.proofs.BytesFilled.{bytes_filled}
use Rattle.genie_arrivals.proofs.Filling.{still_there}
use Rattle.genie_arrivals.proofs.outboard_move.fill_bytes.Goals as goal
use Rattle.genie_arrivals.proofs.OutboardCosts.{fill_copies_at}

pub store_bytes-requires-clause-can : goal.store_bytes-requires-clause-can
store_bytes-requires-clause-can c = c.requires.can c.clear_object.new.memory c.clear_object.ensures

pub store_bytes-requires-clause-landed : goal.store_bytes-requires-clause-landed
store_bytes-requires-clause-landed c = subst (λ (z : ℕ). z < 2 ^ 63) (sym (ap (λ (f : FrameTable). f.landed) c.clear_object.ensures.empties.frames)) c.requires.landed

pub forbid_each-requires : goal.forbid_each-requires
forbid_each-requires c = still_there c.clear_object.new.memory.objects c.store_bytes.new.memory.objects c.args.range.now.object.0 (c.store_bytes.ensures.stores.keeps.entries c.args.range.now.object.0) (still_there c.args.memory.now.objects c.clear_object.new.memory.objects c.args.range.now.object.0 (c.clear_object.ensures.keeps.entries c.args.range.now.object.0) c.requires.there)

pub returns-clause-fills : goal.returns-clause-fills
returns-clause-fills c = bytes_filled c.args.memory.now c.clear_object.new.memory c.store_bytes.new.memory c.forbid_each.new.objects c.args.range.now.object.0 c.args.range.now.off (length (object_at c.store_bytes.new.memory.objects c.args.range.now.object.0)) c.args.bytes.now c.clear_object.ensures c.store_bytes.ensures.stores refl c.forbid_each.ensures

pub returns-clause-copies : goal.returns-clause-copies
returns-clause-copies c = λ start. fill_copies_at c.args.memory.now c.clear_object.new.memory c.store_bytes.new.memory c.args.range.now.object.0 c.args.range.now.off c.args.range.now.len start c.clear_object.ensures c.store_bytes.ensures.copies
