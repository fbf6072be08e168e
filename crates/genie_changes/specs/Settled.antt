-- What is true of a kernel between two changes of one event.
use Rattle.std.specs.Prelude.{◌≡◌, ◌≢◌, ℕ, ◌+◌, ◌*◌, ◌<◌, ◌≤◌, true, false, ◌==◌, List, [], All, AllPairs, find, Option, Some, is_some, slice_index_or}
use Rattle.std.specs.List.{list_any}
use Rattle.genie_base.specs.Configs.{Fits, config_of}
use Rattle.genie_hiding.specs.Hidden.{objects_of}
use Rattle.genie_object.specs.Sound.{IsSound, FitsHidden}
use Rattle.genie_orderly.specs.Orderly.{IsOrderly}
use Rattle.genie_region.specs.declared.region.Region.{Region}
use Rattle.genie_model.specs.Tables.{entry}
use Rattle.genie_kernel.specs.declared.kernel.Kernel.{Kernel}
use Rattle.genie_kernel.specs.declared.transfer.Transfer.{Transfer}
use Rattle.genie_kernel.specs.Backed.{AreBacked, AreFew, AreGuarded, all_regions}
use Rattle.genie_kernel.specs.Calls.{names_weakly}
use Rattle.genie_kernel.specs.Counted.{AreCounted}
use Rattle.genie_kernel.specs.Good.{IsGood}
use Rattle.genie_kernel.specs.Held.{AreHeldPages}
use Rattle.genie_kernel.specs.Matching.{ArePosted, AreSending, AreReceiving, HaveArrived}
use Rattle.genie_kernel.specs.Owners.{AreOwned}
use Rattle.genie_kernel.specs.Planned.{ArePlanned, FitDevices}
use Rattle.genie_kernel.specs.Regions.{has_id, owned_regions, regions_of}
use Rattle.genie_kernel.specs.Sizes.{IsSizedMemory, AreSizedSpaces, AreSizedDevices}
use Rattle.genie_kernel.specs.View.{outline}
use Rattle.genie_changes.specs.Removing.{FitsTables, IsOnlyIn}

-- no region number is in two processes, or twice in one; regions have 1 to 64 pages and numbers below 577
pub record AreNumbered (processes : List (Option (List Region))) : Type 0 where
  pub only : (p n : ℕ) → list_any (has_id n) (regions_of (entry processes p)) ≡ true → IsOnlyIn n p processes
  pub each : (p : ℕ) → AllPairs (λ (a b : Region). a.id.0 ≢ b.id.0) (regions_of (entry processes p))
  pub fit : All FitsTables (owned_regions processes)

-- a process's queue lists no number that none of its regions has
abbrev pub AreListed : List (Option (List Region)) → List (List ℕ) → Type 0
AreListed processes queues = (i n : ℕ) → is_some (entry processes i) ≡ true → list_any (has_id n) (regions_of (entry processes i)) ≡ false → list_any (λ m. m == n) (slice_index_or queues i []) ≡ false

-- the range of a weak transfer lies in the region that it names, where a process has that
abbrev pub LieInRegions : ℕ → List Region → List Transfer → Type 0
LieInRegions page regions transfers = All (λ (t : Transfer). (r : Region) → find (has_id r.id.0) regions ≡ Some r → names_weakly r.id.0 t ≡ true → t.offset + t.len ≤ r.pages * page) transfers

-- all that is true of a good kernel, but that its outline is orderly: of that, what the changes stand on
pub record IsSettled (k : Kernel) : Type 0 where
  pub fits : Fits (config_of k.config)
  pub has_bytes : 0 < k.config.page
  pub sized : IsSizedMemory k.config k.memory
  pub spaced : AreSizedSpaces k.config k.spaces k.queues
  pub equipped : AreSizedDevices k.config k.devices k.pools
  -- of the outline
  pub numbered : AreNumbered k.spaces.processes
  pub listed : AreListed k.spaces.processes k.queues
  pub ranges : LieInRegions k.config.page (owned_regions k.spaces.processes) k.transfers
  pub rising : AllPairs (λ (x y : Transfer). x.id.0 < y.id.0) k.transfers
  -- the memory, the cache of hidden regions, and the objects of regions
  pub sound : IsSound k.memory
  pub cached : FitsHidden k.memory (objects_of k.hidden)
  pub few : AreFew k.spaces.processes k.hidden
  pub backed : AreBacked k.memory.objects (all_regions k.spaces.processes k.hidden)
  pub guarded : AreGuarded k.memory.objects (owned_regions k.spaces.processes)
  -- the frames that are lent, to whom, and for which pages
  pub counted : AreCounted k.memory.frames.counts k.transfers k.pools
  pub owners : AreOwned k.memory.frames.owners k.transfers k.pools
  pub held : AreHeldPages k.config.page k.memory (owned_regions k.spaces.processes) k.transfers
  pub planned : ArePlanned k.config.page k.memory.frames.owners k.devices k.transfers
  -- what devices do for which transfer
  pub fitting : FitDevices k.devices k.transfers
  pub posted : ArePosted k.posted k.transfers
  pub sending : AreSending k.devices k.transfers
  pub receiving : AreReceiving k.devices k.transfers
  pub arrived : HaveArrived k.devices k.pools k.transfers

-- a good kernel is settled
abbrev pub GoodIsSettled : Type 0
GoodIsSettled = (k : Kernel) → IsGood k → IsSettled k

-- and a settled one is good once its outline is orderly
abbrev pub SettledIsGood : Type 0
SettledIsGood = (k : Kernel) → IsSettled k → IsOrderly (outline k) → IsGood k
