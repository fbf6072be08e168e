-- Laws of a transfer that begins: what is true of the kernel with one more, which waits behind the others.
use Rattle.std.specs.Prelude.{◌≡◌, ◌⊎◌, ℕ, ◌+◌, ◌/◌, ◌<◌, true, false, List, [], ◌∷◌, ◌++◌, length, None, Some, slice_index_or}
use Rattle.genie_base.specs.Configs.{Fits, config_of}
use Rattle.genie_base.specs.declared.semantics.Direction.{Direction}
use Rattle.genie_base.specs.declared.semantics.Direction.TheVariants.{Outward, Inward}
use Rattle.genie_demux.specs.declared.input.Input.{Input}
use Rattle.genie_frame.specs.declared.frame.Owner.TheVariants.{System, Pool}
use Rattle.genie_frame.specs.FrameTable.{FrameTable, owner_at, counts_at, is_held, is_lent}
use Rattle.genie_hiding.specs.Hidden.{objects_of}
use Rattle.genie_object.specs.declared.memory.Memory.{Memory}
use Rattle.genie_object.specs.Memory.{entry_frame}
use Rattle.genie_object.specs.Objects.{object_at}
use Rattle.genie_object.specs.Sound.{IsSound, FitsHidden}
use Rattle.genie_object.specs.Touching.{KeepsLoans, Lasts}
use Rattle.genie_orderly.specs.Orderly.{IsOrderly}
use Rattle.genie_region.specs.declared.region.Region.{Region}
use Rattle.genie_model.specs.Lemmas.Lists.{Has}
use Rattle.genie_model.specs.Tables.{entry}
use Rattle.genie_kernel.specs.declared.kernel.Kernel.{Kernel}
use Rattle.genie_kernel.specs.declared.transfer.Transfer.{Transfer}
use Rattle.genie_kernel.specs.Backed.{AreBacked, AreFew, AreGuarded, all_regions}
use Rattle.genie_kernel.specs.Calls.{is_strong_call, region_number}
use Rattle.genie_kernel.specs.Counted.{AreCounted}
use Rattle.genie_kernel.specs.Good.{IsGood}
use Rattle.genie_kernel.specs.Held.{AreHeldPages, weak_transfers}
use Rattle.genie_kernel.specs.Holding.{HoldsBeside}
use Rattle.genie_kernel.specs.Kept.{Kept}
use Rattle.genie_kernel.specs.Lending.{LendsFor}
use Rattle.genie_kernel.specs.Loans.{frames_of, has_frame}
use Rattle.genie_kernel.specs.Matching.{ArePosted, AreSending, AreReceiving, HaveArrived, posted_as}
use Rattle.genie_kernel.specs.Owners.{AreOwned}
use Rattle.genie_kernel.specs.Planned.{ArePlanned, FitDevices, FitsDevice, Lends, is_early_device}
use Rattle.genie_kernel.specs.Regions.{owned_regions}
use Rattle.genie_kernel.specs.Sizes.{IsSizedMemory, AreSizedSpaces, AreSizedDevices}
use Rattle.genie_kernel.specs.View.{outline}
use Rattle.genie_changes.specs.States.{WaitsBehind, first_phase}

-- all that is true of a good kernel, but that its outline is orderly: an event shows that by the flat machine's law
pub record HasParts (k : Kernel) : Type 0 where
  pub fits : Fits (config_of k.config)
  pub sized : IsSizedMemory k.config k.memory
  pub spaced : AreSizedSpaces k.config k.spaces k.queues
  pub equipped : AreSizedDevices k.config k.devices k.pools
  pub sound : IsSound k.memory
  pub cached : FitsHidden k.memory (objects_of k.hidden)
  pub few : AreFew k.spaces.processes k.hidden
  pub backed : AreBacked k.memory.objects (all_regions k.spaces.processes k.hidden)
  pub guarded : AreGuarded k.memory.objects (owned_regions k.spaces.processes)
  pub counted : AreCounted k.memory.frames.counts k.transfers k.pools
  pub owners : AreOwned k.memory.frames.owners k.transfers k.pools
  pub held : AreHeldPages k.config.page k.memory (owned_regions k.spaces.processes) k.transfers
  pub planned : ArePlanned k.config.page k.memory.frames.owners k.devices k.transfers
  pub fitting : FitDevices k.devices k.transfers
  pub posted : ArePosted k.posted k.transfers
  pub sending : AreSending k.devices k.transfers
  pub receiving : AreReceiving k.devices k.transfers
  pub arrived : HaveArrived k.devices k.pools k.transfers

abbrev pub PartsMakeGood : Type 0
PartsMakeGood = (k : Kernel) → HasParts k → IsOrderly (outline k) → IsGood k

abbrev pub GoodHasParts : Type 0
GoodHasParts = (k : Kernel) → IsGood k → HasParts k

-- the posted inputs with this transfer, if it is one
abbrev pub posted_with : Transfer → Direction → List Input → List Input
posted_with t Outward posted = posted
posted_with t Inward posted = posted ++ posted_as t ∷ []

-- the kernel with this transfer more, and with another memory
abbrev pub with_call : Kernel → Memory → Transfer → Kernel
with_call k m t = record k { memory = m; transfers = k.transfers ++ t ∷ []; posted = posted_with t t.dir k.posted; next = k.next + 1 }

-- the transfer has the next number, and waits as an output or an input does at first
pub record IsNew (k : Kernel) (t : Transfer) : Type 0 where
  pub number : t.id.0 ≡ k.next
  pub phase : t.phase ≡ first_phase t.dir
  pub unstored : t.stored ≡ 0
  pub unbuffered : t.buffer ≡ None

-- so it waits behind the others, and nothing is staged or sent of it
abbrev pub NewWaitsBehind : Type 0
NewWaitsBehind = (k : Kernel) (t : Transfer) → IsGood k → IsNew k t → WaitsBehind k.devices t k.transfers

-- a frame is the system's that was it, or was lent to nobody and is lent to the transfer now; a pool's was it
pub record TakesFrames (t : Transfer) (old new : FrameTable) : Type 0 where
  pub system : (f k : ℕ) → owner_at new f ≡ System k → ((owner_at old f ≡ System k) × (has_frame f t ≡ false)) ⊎ ((k ≡ t.id.0) × (has_frame f t ≡ true) × (is_lent (counts_at old f) ≡ false))
  pub pool : (f d : ℕ) → owner_at new f ≡ Pool d → (owner_at old f ≡ Pool d) × (has_frame f t ≡ false)

-- the memory has the sizes that it had, and so has each object
pub record KeepsPlaces (old new : Memory) : Type 0 where
  pub entries : (o : ℕ) → length (object_at new.objects o) ≡ length (object_at old.objects o)
  pub number : length new.frames.owners ≡ length old.frames.owners
  pub page : new.frames.page ≡ old.frames.page
  pub slots : length new.slots ≡ length old.slots
  pub most : new.pages.most ≡ old.pages.most

-- the transfer holds no page, or holds its pages beside the earlier ones
abbrev pub HoldsMore : ℕ → Memory → List Region → Transfer → List Transfer → Type 0
HoldsMore page m regions t earlier = (is_strong_call t ≡ true) ⊎ HoldsBeside page m regions t (weak_transfers earlier)

-- a memory in which frames were taken, lent and wired for the transfer: what devices held before they still hold, and
-- the loans are what the call and its device ask for
pub record Begins (k : Kernel) (m : Memory) (t : Transfer) : Type 0 where
  pub sound : IsSound m
  pub cached : FitsHidden m (objects_of k.hidden)
  pub guarded : AreGuarded m.objects (owned_regions k.spaces.processes)
  pub places : KeepsPlaces k.memory m
  pub entry_held : (o i f : ℕ) → entry_frame k.memory o i ≡ Some f → is_held (counts_at k.memory.frames f) ≡ true → entry_frame m o i ≡ Some f
  pub lasts : (f : ℕ) → is_lent (counts_at k.memory.frames f) ≡ true → Lasts k.memory.frames m.frames f
  pub lends : LendsFor t k.memory.frames.counts m.frames.counts
  pub takes : TakesFrames t k.memory.frames m.frames
  pub holds : HoldsMore k.config.page m (owned_regions k.spaces.processes) t k.transfers
  pub plan : Lends k.config.page m.frames.owners (is_early_device (entry k.devices t.dev)) t t.dir
  pub device : FitsDevice t.len (entry k.devices t.dev)

-- then all is true of the kernel with it that is true of a good one, but for the outline's order; and no frame that was
-- lent has been freed or has got another owner
abbrev pub BegunHasParts : Type 0
BegunHasParts = (k : Kernel) (m : Memory) (t : Transfer) → IsGood k → IsNew k t → Begins k m t → HasParts (with_call k m t)

abbrev pub BegunIsKept : Type 0
BegunIsKept = (k : Kernel) (m : Memory) (t : Transfer) → IsGood k → Begins k m t → Kept k (with_call k m t)

-- the loans of a weak transfer are on the frames of the pages of its region, from the page on in which its range begins
pub record LiesInRegion (k : Kernel) (m : Memory) (r : Region) (t : Transfer) : Type 0 where
  pub weak : is_strong_call t ≡ false
  pub named : region_number t ≡ Some r.id.0
  pub owned : Has r (owned_regions k.spaces.processes)
  pub placed : (j : ℕ) → j < length (frames_of t.loans) → entry_frame m r.object.0 (t.offset / k.config.page + j) ≡ Some (slice_index_or (frames_of t.loans) j 0)
  pub held : (j : ℕ) → j < length (frames_of t.loans) → is_held (counts_at m.frames (slice_index_or (frames_of t.loans) j 0)) ≡ true

-- the memory after calls that keep loans, and then loans of a weak transfer on the pages of its region
pub record BeginsInRegion (k : Kernel) (m : Memory) (r : Region) (t : Transfer) : Type 0 where
  pub sound : IsSound m
  pub cached : FitsHidden m (objects_of k.hidden)
  pub guarded : AreGuarded m.objects (owned_regions k.spaces.processes)
  pub keeps : KeepsLoans k.memory m
  pub lends : LendsFor t k.memory.frames.counts m.frames.counts
  pub lies : LiesInRegion k m r t
  pub plan : Lends k.config.page m.frames.owners (is_early_device (entry k.devices t.dev)) t t.dir
  pub device : FitsDevice t.len (entry k.devices t.dev)

abbrev pub WeakBegins : Type 0
WeakBegins = (k : Kernel) (m : Memory) (r : Region) (t : Transfer) → IsGood k → BeginsInRegion k m r t → Begins k m t
