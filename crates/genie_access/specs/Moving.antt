-- What an event on memory leaves, where nothing changes of what processes and devices see.
use Rattle.std.specs.Prelude.{◌≡◌, ℕ, ◌+◌, ◌≤◌, min, count_by, Result, Ok, Err}
use Rattle.genie_base.specs.declared.reply.Reply.{Reply}
use Rattle.genie_base.specs.declared.reply.Reply.TheVariants as reply
use Rattle.genie_store.specs.StoreView.{StoreView}
use Rattle.genie_object.specs.declared.memory.Memory.{Memory}
use Rattle.genie_frame.specs.FrameTable.{is_free}
use Rattle.genie_object.specs.Pages.{is_there}
use Rattle.genie_object.specs.Sound.{IsSound, IsSized, FitsHidden}
use Rattle.genie_object.specs.Touching.{KeepsLoans}
use Rattle.genie_hiding.specs.Hidden.{objects_of, seen_outside}
use Rattle.genie_kernel.specs.declared.kernel.Kernel.{Kernel}
use Rattle.genie_kernel.specs.Backed.{AreGuarded}
use Rattle.genie_kernel.specs.Regions.{owned_regions}

-- the kernel with another memory and another place of the clock
abbrev pub with_memory : Kernel → Memory → ℕ → Kernel
with_memory k m clock = record k { memory = m; clock = clock }

-- the memory is sound and sized, lends what it lent, and shows what it showed but for hidden regions
pub record KeepsSeen (k : Kernel) (m : Memory) (v w : StoreView) : Type 0 where
  pub sound : IsSound m
  pub sized : IsSized m w
  pub fits : FitsHidden m (objects_of k.hidden)
  pub seen : seen_outside (objects_of k.hidden) m w ≡ seen_outside (objects_of k.hidden) k.memory v
  pub keeps : KeepsLoans k.memory m
  pub counts : m.frames.counts ≡ k.memory.frames.counts
  pub guarded : AreGuarded m.objects (owned_regions k.spaces.processes)

-- what is answered where nothing is told but whether the store failed
abbrev pub reply_to : {T E : Type 0} → Result T E → Reply
reply_to (Ok x) = reply.Okay
reply_to (Err e) = reply.StoreFault

-- unless the store failed, so many pages went to it: those asked for, or all that may go
abbrev pub PutsPages : ℕ → ℕ → Memory → Memory → Reply → Type 0
PutsPages n may old new r = r ≡ reply.Okay → new.frames.meters.puts ≡ old.frames.meters.puts + min n may

-- two frames are free, and there may be two pages more
pub record HasTwo (m : Memory) : Type 0 where
  pub free : 2 ≤ count_by is_free m.frames.owners
  pub pages : count_by is_there m.pages.pages + 2 ≤ m.pages.most
