-- What is done for each form of words.
use Rattle.std.specs.Prelude.{◌≡◌, ◌<◌, Option, None, Some}
use Rattle.genie_host.specs.Host.{HostView, OnlyHandle}
use Rattle.genie_store.specs.StoreView.{StoreView}
use Rattle.genie_object.specs.Sound.{IsSized}
use Rattle.genie_kernel.specs.declared.kernel.Kernel.{Kernel}
use Rattle.genie_kernel.specs.Good.{IsGood}
use Rattle.genie_words.specs.Forms.{Meaning, ReplayOf, CostOf, MakeOf}
use Rattle.genie_replay.specs.declared.status.Status.{Status}
use Rattle.genie_replay.specs.declared.status.Status.TheVariants.{NoMemory}
use Rattle.genie_playing.specs.declared.costs.Listing.TheVariants.{Replies, Costs}
use Rattle.genie_running.specs.Outcome.{OutcomeOf}
use Rattle.genie_commands.specs.Makes.{MakesOf}

abbrev pub Does : Meaning → Status → Option Kernel → HostView → HostView → StoreView → StoreView → Type 0
Does (ReplayOf name) status kernel old new v w = OutcomeOf Replies name (old.names name) status kernel old new v w
Does (CostOf name) status kernel old new v w = OutcomeOf Costs name (old.names name) status kernel old new v w
Does (MakeOf seed rounds) status kernel old new v w = MakesOf seed rounds status kernel old new v w × OnlyHandle 0 old new

-- memory ran out before anything was done
pub record Unbegun (status : Status) (kernel : Option Kernel) (old new : HostView) (v w : StoreView) : Type 0 where
  pub is : status ≡ NoMemory
  pub none : kernel ≡ None
  pub host : new ≡ old
  pub store : w ≡ v

-- the kernel is there exactly where the store was sized, and is good over a store of its size
abbrev pub HandsOver : Option Kernel → StoreView → Type 0
HandsOver None w = w.count ≡ 0
HandsOver (Some k) w = (0 < w.count) × IsGood k × IsSized k.memory w
