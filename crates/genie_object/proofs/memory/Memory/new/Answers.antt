use Rattle.genie_object.specs.Lemmas.Unused.{unused_sound}
use Rattle.genie_object.proofs.memory.Memory.new.Goals as goal

pub returns-clause-sound : goal.returns-clause-sound
returns-clause-sound c = unused_sound _ c.args.frames c.args.page c.args.slots c.requires.size c.requires.some c.requires.most (record {
  free = c.in_ok-frames_free.ensures;
  pages = c.in_ok-pages.ensures.empty;
  none = c.in_ok-pages.ensures.none;
  most = c.in_ok-pages.ensures.most;
  absent = c.in_ok-objects.ensures;
  untaken = c.in_ok-slots.ensures;
})
