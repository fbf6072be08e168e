-- What is true of every kernel, in parts over its tables.
use Rattle.genie_base.specs.Configs.{Fits, config_of}
use Rattle.genie_orderly.specs.Orderly.{IsOrderly}
use Rattle.genie_object.specs.Sound.{IsSound, FitsHidden}
use Rattle.genie_hiding.specs.Hidden.{objects_of}
use Rattle.genie_kernel.specs.declared.kernel.Kernel.{Kernel}
use Rattle.genie_kernel.specs.Regions.{owned_regions}
use Rattle.genie_kernel.specs.View.{outline}
use Rattle.genie_kernel.specs.Sizes.{IsSizedMemory, AreSizedSpaces, AreSizedDevices}
use Rattle.genie_kernel.specs.Backed.{AreBacked, AreFew, AreGuarded, all_regions}
use Rattle.genie_kernel.specs.Counted.{AreCounted}
use Rattle.genie_kernel.specs.Owners.{AreOwned}
use Rattle.genie_kernel.specs.Held.{AreHeldPages}
use Rattle.genie_kernel.specs.Planned.{ArePlanned, FitDevices}
use Rattle.genie_kernel.specs.Matching.{ArePosted, AreSending, AreReceiving, HaveArrived}

pub record IsGood (k : Kernel) : Type 0 where
  -- the configuration, and the sizes of the tables
  pub fits : Fits (config_of k.config)
  pub sized : IsSizedMemory k.config k.memory
  pub spaced : AreSizedSpaces k.config k.spaces k.queues
  pub equipped : AreSizedDevices k.config k.devices k.pools
  -- what every state of a run keeps: regions, ranges, numbers, queues, phases, datagrams and depths
  pub orderly : IsOrderly (outline k)
  -- the memory, the cache of hidden regions, and the objects of regions
  pub sound : IsSound k.memory
  pub cached : FitsHidden k.memory (objects_of k.hidden)
  pub few : AreFew k.spaces.processes k.hidden
  pub backed : AreBacked k.memory.objects (all_regions k.spaces.processes k.hidden)
  pub guarded : AreGuarded k.memory.objects (owned_regions k.spaces.processes)
  -- the frames that are lent, to whom, and for which pages
  pub counted : AreCounted k.memory.frames.counts k.transfers k.pools
  pub owners : AreOwned k.memory.frames.owners k.transfers k.pools
  pub held : AreHeldPages k.config.page k.memory (owned_regions k.spaces.processes) k.transfers
  pub planned : ArePlanned k.config.page k.memory.frames.owners k.devices k.transfers
  -- what devices do for which transfer
  pub fitting : FitDevices k.devices k.transfers
  pub posted : ArePosted k.posted k.transfers
  pub sending : AreSending k.devices k.transfers
  pub receiving : AreReceiving k.devices k.transfers
  pub arrived : HaveArrived k.devices k.pools k.transfers
