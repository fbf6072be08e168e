use Rattle.genie_object.specs.Lemmas.Unused.{number_made, sound_made, seen_made}
use Rattle.genie_object.proofs.memory.Memory.make_object.Goals as goal

pub returns-clause-number : goal.returns-clause-number
returns-clause-number c = rw c.make.ensures.objects (number_made c.args.self.now c.make.result.0 c.args.pages c.make.ensures.there c.make.ensures.was_absent)

pub returns-clause-sound : goal.returns-clause-sound
returns-clause-sound c = rw c.make.ensures.objects (sound_made c.args.self.now c.make.result.0 c.args.pages c.make.ensures.there c.make.ensures.was_absent c.requires.sound)

pub returns-clause-seen : goal.returns-clause-seen
returns-clause-seen c = rw c.make.ensures.objects (seen_made c.args.self.now c.make.result.0 c.args.pages c.make.ensures.there c.make.ensures.was_absent)
