use Rattle.genie_fault.proofs.Ending.{moves_failed, moves_resolved, takes_failed, takes_resolved}
use Rattle.genie_object.specs.Touching.{is_entry}
use Rattle.genie_fault.proofs.read.resolve_read.Goals as goal

pub returns-in-Ok-clause-moves : goal.returns-in-Ok-clause-moves
returns-in-Ok-clause-moves g c = moves_resolved c.args.memory.now c.read_entry.new.memory _ _ c.args.at.object.0 c.args.at.index c.in-Ok.f _ c.requires.sized c.read_entry.ensures.read c.in-Ok.ensures.resolved.resolved

pub returns-in-Ok-clause-takes : goal.returns-in-Ok-clause-takes
returns-in-Ok-clause-takes g c = takes_resolved c.args.memory.now c.read_entry.new.memory _ c.args.at.object.0 c.args.at.index c.in-Ok.f c.in-Ok.ensures.resolved.resolved

pub returns-in-Err-clause-moves : goal.returns-in-Err-clause-moves
returns-in-Err-clause-moves g c = moves_failed c.args.memory.now c.read_entry.new.memory _ _ (is_entry c.args.at.object.0 c.args.at.index) _ c.requires.sound c.requires.sized c.read_entry.ensures.read c.in-Err.ensures.unchanged

pub returns-in-Err-clause-takes : goal.returns-in-Err-clause-takes
returns-in-Err-clause-takes g c = takes_failed c.args.memory.now c.read_entry.new.memory c.in-Err.ensures.unchanged
