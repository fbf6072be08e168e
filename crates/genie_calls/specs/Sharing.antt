-- What an event shares or uses again in place of copying.
use Rattle.std.specs.Prelude.{◌≡◌, ⊤}
use Rattle.genie_base.specs.declared.event.Event.{Event}
use Rattle.genie_base.specs.declared.event.Event.TheVariants.{Fork, Input, Output, Pageout}
use Rattle.genie_base.specs.declared.reply.Reply.{Reply}
use Rattle.genie_base.specs.declared.reply.Reply.TheVariants as reply
use Rattle.genie_hiding.specs.Hidden.{objects_of}
use Rattle.genie_pageout.specs.Going.{allowed}
use Rattle.genie_kernel.specs.declared.kernel.Kernel.{Kernel}
use Rattle.genie_access.specs.Moving.{PutsPages}
use Rattle.genie_inputs.specs.HiddenReuse.{ReusesHidden}
use Rattle.genie_outputs.specs.Lending.{LendsFrames}
use Rattle.genie_spaces.specs.Forking.{SharesPages}

-- A child shares each page of its parent that no device holds. An emulated copy output above the threshold lends each page that
-- no device reads or writes in place in its own frame, and one that is a copy lends frames of its own. An input by emulated
-- move on an early device uses the frames of a hidden region again. As many pages go to the store as were asked for, or all
-- that may.
abbrev pub Shares : Kernel → Event → Kernel → Reply → Type 0
Shares old (Fork p child) new r = r ≡ reply.Okay → SharesPages new p child
Shares old (Output p sem d port flow a n) new r = LendsFrames old new (record { pid = p; sem = sem; dev = d; port = port; flow = flow; addr = a; len = n }) r
Shares old (Input p sem d port flow a n) new r = ReusesHidden old new (record { pid = p; sem = sem; dev = d; port = port; flow = flow; len = n }) r
Shares old (Pageout n) new r = PutsPages n (allowed old.memory (objects_of old.hidden)) old.memory new.memory r
Shares old e new r = ⊤
