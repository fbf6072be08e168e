use Rattle.genie_tcow.proofs.Copying.{loaded_owned, loaded_there, loaded_unlent, load_filled}
use Rattle.genie_tcow.proofs.copied.load_frame.Goals as goal

pub give-requires-clause-there : goal.give-requires-clause-there
give-requires-clause-there g c = loaded_there c.args.memory.now c.take_loaded.new.memory _ c.args.place 0 c.in-Ok.f.0 c.requires.sound c.in-Ok.ensures.loaded

pub give-requires-clause-owned : goal.give-requires-clause-owned
give-requires-clause-owned g c = loaded_owned c.args.memory.now c.take_loaded.new.memory _ c.args.place 0 c.in-Ok.f.0 c.requires.sound c.in-Ok.ensures.loaded

pub give-requires-clause-unlent : goal.give-requires-clause-unlent
give-requires-clause-unlent g c = loaded_unlent c.args.memory.now c.take_loaded.new.memory _ c.args.place 0 c.in-Ok.f.0 c.requires.sound c.in-Ok.ensures.loaded

pub returns-in-Ok-clause-filled : goal.returns-in-Ok-clause-filled
returns-in-Ok-clause-filled g c = load_filled c.args.memory.now c.take_loaded.new.memory _ c.args.place c.args.id.0 c.in-Ok.f.0 c.requires.sound c.in-Ok.ensures.loaded c.give.new.self c.give.ensures.frames
