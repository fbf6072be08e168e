-- Laws of kernels.
use Rattle.std.specs.Prelude.{◌≡◌, ◌≢◌, ℕ, ◌+◌, ◌<◌, Bool, false, true, List, ◌∷◌, map, filter, find, sum_by, All, AllPairs, Option, Some, slice_set}
use Rattle.std.specs.List.{list_any}
use Rattle.std.specs.List.Sorted.{IsPermutation}
use Rattle.genie_base.specs.Regions.{add_in_order}
use Rattle.genie_base.specs.declared.event.Event.{Event}
use Rattle.genie_demux.specs.Posted as demux
use Rattle.genie_hiding.specs.Hidden.{objects_of, is_among}
use Rattle.genie_input.specs.Pools.{PoolState}
use Rattle.genie_object.specs.Memory.{Seen}
use Rattle.genie_orderly.specs.Orderly.{IsOrderly}
use Rattle.genie_object.specs.declared.memory.Memory.{Memory}
use Rattle.genie_object.specs.Sound.{IsSound, FitsHidden}
use Rattle.genie_object.specs.Touching.{KeepsLoans, Touches}
use Rattle.genie_region.specs.declared.region.Region.{Region}
use Rattle.genie_region.specs.Layouts.{extent}
use Rattle.genie_base.specs.declared.reply.Note.{Note}
use Rattle.genie_model.specs.declared.phase.Phase.{Phase}
use Rattle.genie_model.specs.Regions.{fresh, changed_in, change_process}
use Rattle.genie_model.specs.Pending.{is_moving}
use Rattle.genie_model.specs.Refusing.{refuse}
use Rattle.genie_model.specs.Space.{tidy}
use Rattle.genie_model.specs.State as flat
use Rattle.genie_model.specs.Tables.{entry, change, without}
use Rattle.genie_kernel.specs.declared.kernel.Kernel.{Kernel}
use Rattle.genie_kernel.specs.declared.transfer.Transfer.{Transfer}
use Rattle.genie_kernel.specs.declared.transfer.Change.TheVariants.{Progress}
use Rattle.genie_kernel.specs.Backed.{AreGuarded}
use Rattle.genie_kernel.specs.Changes.{changed_by}
use Rattle.genie_kernel.specs.Counted.{AreCounted}
use Rattle.genie_kernel.specs.Owners.{AreOwned}
use Rattle.genie_kernel.specs.Held.{AreHeldPages}
use Rattle.genie_kernel.specs.Planned.{ArePlanned, FitDevices}
use Rattle.genie_kernel.specs.Calls.{has_number, receiver}
use Rattle.genie_kernel.specs.Good.{IsGood}
use Rattle.genie_kernel.specs.Kept.{Kept}
use Rattle.genie_kernel.specs.Matching.{posted_as, is_posted_call}
use Rattle.genie_kernel.specs.Regions.{has_id, owned_regions, regions_of, region_view, processes_view, with_changed}
use Rattle.genie_kernel.specs.Same.{SameFrames, SameNeeded}
use Rattle.genie_kernel.specs.View.{Bytes, state_of, outline}

-- nothing is left of orphans but what pending weak transfers name and cover
abbrev pub ViewIsTidy : Type 0
ViewIsTidy = (k : Kernel) (b : Bytes) → tidy (state_of k b) ≡ state_of k b

-- the state is the same where entries, the frames under strong loans and of pools, and orphans show the same
abbrev pub StatesAreAlike : Type 0
StatesAreAlike = (k : Kernel) (old new : Bytes) → new.seen.entry_bytes ≡ old.seen.entry_bytes → new.rests ≡ old.rests → new.sents ≡ old.sents → SameNeeded (owned_regions k.spaces.processes) k.transfers k.pools old.seen.kept_bytes new.seen.kept_bytes → state_of k new ≡ state_of k old

-- for these it is enough that all lent frames show the same
abbrev pub LentFramesSuffice : Type 0
LentFramesSuffice = (regions : List Region) (transfers : List Transfer) (pools : List (Option PoolState)) (old new : ℕ → List ℕ) → SameFrames transfers pools old new → SameNeeded regions transfers pools old new

-- no cause of refusal looks at bytes
abbrev pub RefusesAlike : Type 0
RefusesAlike = (k : Kernel) (b : Bytes) (e : Event) → refuse (state_of k b) e ≡ refuse (outline k) e

-- the number of a new region doesn't hang on the bytes
abbrev pub FreshIsAlike : Type 0
FreshIsAlike = (k : Kernel) (b : Bytes) → fresh (state_of k b) ≡ fresh (outline k)

-- whether a state is orderly doesn't hang on what is left of the inputs and what was sent
abbrev pub RestsAreBlind : Type 0
RestsAreBlind = (k : Kernel) (seen : Seen) (r q x y : ℕ → List ℕ) → IsOrderly (state_of k (record { seen = seen; rests = r; sents = x })) → IsOrderly (state_of k (record { seen = seen; rests = q; sents = y }))

-- a call of the memory that keeps loans and changes no count leaves the kernel good, where it leaves the memory sound,
-- the hidden regions fitting it, and no entry of a read-only region that permits writing
abbrev pub MemoryCallsKeepGood : Type 0
MemoryCallsKeepGood = (k : Kernel) (m : Memory) → IsGood k → IsSound m → FitsHidden m (objects_of k.hidden) → AreGuarded m.objects (owned_regions k.spaces.processes) → m.frames.counts ≡ k.memory.frames.counts → KeepsLoans k.memory m → IsGood (record k { memory = m })

-- no frame is freed by it, or gets another owner, while a device holds it
abbrev pub MemoryCallsKeepLent : Type 0
MemoryCallsKeepLent = (k : Kernel) (m : Memory) → IsGood k → KeepsLoans k.memory m → Kept k (record k { memory = m })

-- hidden regions fit the memory after a call that doesn't speak of their entries
abbrev pub HiddenStay : Type 0
HiddenStay = (spoken : ℕ → ℕ → Bool) (old new : Memory) (objects : List ℕ) → IsSound old → KeepsLoans old new → Touches spoken old new → ((o i : ℕ) → is_among o objects ≡ true → spoken o i ≡ false) → FitsHidden old objects → FitsHidden new objects

-- read-only regions permit no writing after a call that doesn't speak of their entries
abbrev pub GuardsStay : Type 0
GuardsStay = (spoken : ℕ → ℕ → Bool) (old new : Memory) (regions : List Region) → Touches spoken old new → All (λ (r : Region). r.writable ≡ false → (i : ℕ) → spoken r.object.0 i ≡ false) regions → AreGuarded old.objects regions → AreGuarded new.objects regions

-- a change of one region of one process is a change of that region, whoever has it
abbrev pub RegionsChange : Type 0
RegionsChange = (s : ℕ → ℕ → List ℕ) (n : ℕ) (f : flat.Region → flat.Region) (g : Region → Region) → ((r : Region) → f (region_view s r) ≡ region_view s (g r)) → (ps : List (Option (List Region))) (qs : List (List ℕ)) (p : ℕ) (rs : List Region) → entry ps p ≡ Some rs → ((i : ℕ) → i ≢ p → list_any (has_id n) (regions_of (entry ps i)) ≡ false)
    → map (change_process (changed_in n f)) (processes_view s ps qs) ≡ processes_view s (slice_set ps p (Some (with_changed n g rs))) qs

-- a region more of a process is one more of all
abbrev pub OwnedGrows : Type 0
OwnedGrows = (r : Region) (rs : List Region) (ps : List (Option (List Region))) (p : ℕ) → entry ps p ≡ Some rs → IsPermutation (r ∷ owned_regions ps) (owned_regions (slice_set ps p (Some (add_in_order extent r rs))))

-- the posted inputs once a transfer is pending no more
abbrev pub PostedShrinks : Type 0
PostedShrinks = (n : ℕ) (ts : List Transfer) → AllPairs (λ (x y : Transfer). x.id.0 < y.id.0) ts → demux.without n (map posted_as (filter is_posted_call ts)) ≡ map posted_as (filter is_posted_call (without (has_number n) ts))

-- what one transfer, changed, leaves of a table: each search that it fails before and afterwards, and each sum but for
-- what it adds itself
pub record Turns (p : Transfer → Bool) (g : Transfer → Transfer) (t : Transfer) (ts : List Transfer) : Type 0 where
  pub finds : (q : Transfer → Bool) → q t ≡ false → q (g t) ≡ false → find q (change p g ts) ≡ find q ts
  pub sums : (f : Transfer → ℕ) → sum_by f (change p g ts) + f t ≡ sum_by f ts + f (g t)
  pub some : (q : Transfer → Bool) → q (g t) ≡ q t → list_any q (change p g ts) ≡ list_any q ts

abbrev pub TransfersTurn : Type 0
TransfersTurn = (p : Transfer → Bool) (g : Transfer → Transfer) (t : Transfer) (ts : List Transfer) → find p ts ≡ Some t → Turns p g t ts

-- with these transfers in place of its own, frames are lent and held in the kernel as before
pub record KeepsLending (k : Kernel) (transfers : List Transfer) : Type 0 where
  pub counted : AreCounted k.memory.frames.counts transfers k.pools
  pub owners : AreOwned k.memory.frames.owners transfers k.pools
  pub held : AreHeldPages k.config.page k.memory (owned_regions k.spaces.processes) transfers
  pub planned : ArePlanned k.config.page k.memory.frames.owners k.devices transfers
  pub fitting : FitDevices k.devices transfers

-- how far a transfer has come is no matter of its loans
abbrev pub ProgressKeepsLending : Type 0
ProgressKeepsLending = (phase : Phase) (buffer : Option ℕ) (stored : ℕ) (note : Note) (k : Kernel) (n : ℕ) → IsGood k → KeepsLending k (change (has_number n) (changed_by (Progress phase buffer stored note)) k.transfers)

-- an input that is receiving is the one into which its device moves the datagram, so there is one of a device at most
abbrev pub MovingAreReceivers : Type 0
MovingAreReceivers = (k : Kernel) → IsGood k → All (λ (t : Transfer). is_moving t.phase ≡ true → receiver k.transfers t.dev ≡ Some t) k.transfers
