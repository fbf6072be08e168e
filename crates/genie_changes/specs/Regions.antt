-- Laws of regions: one more, one less, one changed, of a process that has these.
use Rattle.std.specs.Prelude.{◌≡◌, ◌≢◌, ℕ, ◌+◌, ◌<◌, true, false, not, List, length, filter, find, count_by, All, Option, Some, slice_set}
use Rattle.std.specs.List.{list_any}
use Rattle.std.specs.Option.{option_map}
use Rattle.genie_base.specs.Regions.{add_in_order}
use Rattle.genie_base.specs.declared.config.Config.{Config}
use Rattle.genie_hiding.specs.declared.hidden.Hidden.{Hidden}
use Rattle.genie_hiding.specs.Hidden.{is_of}
use Rattle.genie_object.specs.declared.memory.Memory.{Memory}
use Rattle.genie_object.specs.declared.objects.Entry.{Entry}
use Rattle.genie_object.specs.Objects.{object_at, is_absent}
use Rattle.genie_region.specs.declared.region.Region.{Region}
use Rattle.genie_region.specs.Layouts.{extent}
use Rattle.genie_space.specs.Spaces.{AddressSpaces, set_process}
use Rattle.genie_model.specs.Regions.{change_region}
use Rattle.genie_model.specs.Space.{add_region}
use Rattle.genie_model.specs.State as flat
use Rattle.genie_model.specs.Tables.{entry}
use Rattle.genie_kernel.specs.declared.kernel.Kernel.{Kernel}
use Rattle.genie_kernel.specs.declared.transfer.Transfer.{Transfer}
use Rattle.genie_kernel.specs.Backed.{AreFew, AreBacked, AreGuarded, IsGuarded, all_regions}
use Rattle.genie_kernel.specs.Calls.{names_weakly}
use Rattle.genie_kernel.specs.Held.{AreHeldPages}
use Rattle.genie_kernel.specs.Regions.{has_id, owned_regions, regions_of, region_view, with_changed}
use Rattle.genie_kernel.specs.Same.{SameNeeded}
use Rattle.genie_kernel.specs.Sizes.{AreSizedSpaces}
use Rattle.genie_kernel.specs.View.{Bytes, state_of}

-- the regions of a process with one more, and without number n
abbrev pub with_added : Region → List Region → List Region
with_added r rs = add_in_order extent r rs

abbrev pub without_number : ℕ → List Region → List Region
without_number n rs = filter (λ q. not (has_id n q)) rs

-- the entries of these regions show the same
abbrev pub ShowSameEntries : (ℕ → ℕ → List ℕ) → (ℕ → ℕ → List ℕ) → List Region → Type 0
ShowSameEntries old new regions = All (λ (r : Region). (i : ℕ) → new r.object.0 i ≡ old r.object.0 i) regions

-- what every call keeps of the bytes behind a state, where it changes no transfer
pub record KeepsBytes (k : Kernel) (old new : Bytes) : Type 0 where
  pub rests : new.rests ≡ old.rests
  pub sents : new.sents ≡ old.sents
  pub entries : ShowSameEntries old.seen.entry_bytes new.seen.entry_bytes (owned_regions k.spaces.processes)
  pub frames : SameNeeded (owned_regions k.spaces.processes) k.transfers k.pools old.seen.kept_bytes new.seen.kept_bytes

-- the state with a region more, of a number that no weak transfer names
abbrev pub AddedRegion : Type 0
AddedRegion = (k : Kernel) (m : Memory) (spaces : AddressSpaces) (old new : Bytes) (p : ℕ) (r : Region) (rs : List Region) → entry k.spaces.processes p ≡ Some rs → spaces.processes ≡ slice_set k.spaces.processes p (Some (with_added r rs)) → list_any (names_weakly r.id.0) k.transfers ≡ false → KeepsBytes k old new
    → state_of (record k { memory = m; spaces = spaces }) new ≡ add_region (state_of k old) p (region_view new.seen.entry_bytes r)

-- the state with region n changed, whose number stays
abbrev pub ChangedRegion : Type 0
ChangedRegion = (k : Kernel) (m : Memory) (spaces : AddressSpaces) (old new : Bytes) (p n : ℕ) (f : flat.Region → flat.Region) (g : Region → Region) (rs : List Region) → entry k.spaces.processes p ≡ Some rs → ((i : ℕ) → i ≢ p → list_any (has_id n) (regions_of (entry k.spaces.processes i)) ≡ false) → spaces.processes ≡ slice_set k.spaces.processes p (Some (with_changed n g rs)) → ((r : Region) → (g r).id.0 ≡ r.id.0) → ((r : Region) → f (region_view new.seen.entry_bytes r) ≡ region_view new.seen.entry_bytes (g r))
    → KeepsBytes k old new
    → state_of (record k { memory = m; spaces = spaces }) new ≡ change_region (state_of k old) n f

-- a process has room for one region more, hidden ones counted
abbrev pub FewMore : Type 0
FewMore = (ps : List (Option (List Region))) (hidden : List Hidden) (p : ℕ) (r : Region) (rs : List Region) → entry ps p ≡ Some rs → length rs + count_by (is_of p) hidden < 32 → AreFew ps hidden → AreFew (slice_set ps p (Some (with_added r rs))) hidden

abbrev pub FewLess : Type 0
FewLess = (ps : List (Option (List Region))) (hidden : List Hidden) (p n : ℕ) (rs : List Region) → entry ps p ≡ Some rs → AreFew ps hidden → AreFew (slice_set ps p (Some (without_number n rs))) hidden

abbrev pub FewChanged : Type 0
FewChanged = (ps : List (Option (List Region))) (hidden : List Hidden) (p n : ℕ) (g : Region → Region) (rs : List Region) → entry ps p ≡ Some rs → AreFew ps hidden → AreFew (slice_set ps p (Some (with_changed n g rs))) hidden

-- an object is made for the region, and no other one comes, goes or gets another length
pub record MakesObject (r : Region) (old new : List (List Entry)) : Type 0 where
  pub absent : is_absent (object_at old r.object.0) ≡ true
  pub there : is_absent (object_at new r.object.0) ≡ false
  pub long : length (object_at new r.object.0) ≡ r.pages
  pub others : (o : ℕ) → o ≢ r.object.0 → length (object_at new o) ≡ length (object_at old o)
  pub absences : (o : ℕ) → o ≢ r.object.0 → is_absent (object_at new o) ≡ is_absent (object_at old o)

abbrev pub BackedMore : Type 0
BackedMore = (old new : List (List Entry)) (ps : List (Option (List Region))) (hidden : List Hidden) (p : ℕ) (r : Region) (rs : List Region) → entry ps p ≡ Some rs → 0 < r.pages → MakesObject r old new → AreBacked old (all_regions ps hidden) → AreBacked new (all_regions (slice_set ps p (Some (with_added r rs))) hidden)

-- a region changed keeps its object and its pages
abbrev pub BackedChanged : Type 0
BackedChanged = (objects : List (List Entry)) (ps : List (Option (List Region))) (hidden : List Hidden) (p n : ℕ) (g : Region → Region) (rs : List Region) → entry ps p ≡ Some rs → ((r : Region) → ((g r).object.0 ≡ r.object.0) × ((g r).pages ≡ r.pages)) → AreBacked objects (all_regions ps hidden) → AreBacked objects (all_regions (slice_set ps p (Some (with_changed n g rs))) hidden)

-- what isn't to be written permits no writing: with a region more, one less, one changed
abbrev pub GuardedMore : Type 0
GuardedMore = (objects : List (List Entry)) (ps : List (Option (List Region))) (p : ℕ) (r : Region) (rs : List Region) → entry ps p ≡ Some rs → IsGuarded objects r → AreGuarded objects (owned_regions ps) → AreGuarded objects (owned_regions (slice_set ps p (Some (with_added r rs))))

abbrev pub GuardedLess : Type 0
GuardedLess = (objects : List (List Entry)) (ps : List (Option (List Region))) (p n : ℕ) (rs : List Region) → entry ps p ≡ Some rs → AreGuarded objects (owned_regions ps) → AreGuarded objects (owned_regions (slice_set ps p (Some (without_number n rs))))

abbrev pub GuardedChanged : Type 0
GuardedChanged = (objects : List (List Entry)) (ps : List (Option (List Region))) (p n : ℕ) (g : Region → Region) (rs : List Region) → entry ps p ≡ Some rs → All (λ (r : Region). IsGuarded objects (g r)) rs → AreGuarded objects (owned_regions ps) → AreGuarded objects (owned_regions (slice_set ps p (Some (with_changed n g rs))))

-- the object of a region
abbrev pub object_in : Region → ℕ
object_in r = r.object.0

-- the regions that weak transfers name are found with their objects as before
abbrev pub FindsNamed : List Transfer → List Region → List Region → Type 0
FindsNamed transfers before after = (k : ℕ) → list_any (names_weakly k) transfers ≡ true → option_map object_in (find (has_id k) after) ≡ option_map object_in (find (has_id k) before)

-- so the pages that devices hold are as before
abbrev pub HeldOverRegions : Type 0
HeldOverRegions = (page : ℕ) (m : Memory) (before after : List Region) (ts : List Transfer) → FindsNamed ts before after → AreHeldPages page m before ts → AreHeldPages page m after ts

abbrev pub FindsNamedMore : Type 0
FindsNamedMore = (ts : List Transfer) (ps : List (Option (List Region))) (p : ℕ) (r : Region) (rs : List Region) → entry ps p ≡ Some rs → list_any (names_weakly r.id.0) ts ≡ false → FindsNamed ts (owned_regions ps) (owned_regions (slice_set ps p (Some (with_added r rs))))

abbrev pub FindsNamedChanged : Type 0
FindsNamedChanged = (ts : List Transfer) (ps : List (Option (List Region))) (p n : ℕ) (g : Region → Region) (rs : List Region) → entry ps p ≡ Some rs → ((r : Region) → ((g r).id.0 ≡ r.id.0) × ((g r).object.0 ≡ r.object.0)) → FindsNamed ts (owned_regions ps) (owned_regions (slice_set ps p (Some (with_changed n g rs))))

-- the tables of processes and queues keep their sizes, whatever one process and its queue are
abbrev pub SpacedStay : Type 0
SpacedStay = (config : Config) (spaces : AddressSpaces) (queues : List (List ℕ)) (p j : ℕ) (x : Option (List Region)) (q : List ℕ) → AreSizedSpaces config spaces queues → AreSizedSpaces config (set_process spaces p x) (slice_set queues j q)
