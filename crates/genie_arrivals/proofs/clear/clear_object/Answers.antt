use Rattle.genie_arrivals.proofs.Emptying.{clears_more, clears_none}
use Rattle.genie_arrivals.proofs.clear.clear_object.Goals as goal

pub entries-init : goal.entries-init
entries-init c = clears_none c.args.memory.now c.args.object.0 c.requires.sound c.requires.unheld

pub entries-preserved : goal.entries-preserved
entries-preserved c = clears_more c.args.memory.now c.entries.memory c.empty_entry.new.memory c.args.object.0 c.entries.index c.entries.invariant c.empty_entry.ensures.empties c.empty_entry.ensures.empty c.empty_entry.ensures.keeps c.empty_entry.ensures.seen c.empty_entry.ensures.emptied
