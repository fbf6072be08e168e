-- What is so in every state that a run reaches.
use Rattle.std.specs.Prelude.{◌≡◌, ◌≢◌, ◌⊎◌, ℕ, ◌+◌, ◌*◌, ◌<◌, ◌≤◌, Bool, true, false, IsTrue, ◌&&◌, ◌==◌, List, ◌++◌, length, map, flat_map, count_by, All, AllPairs, Option, None, Some, IfSome, ⊤, is_some, option_and_then, if◌then◌else◌, not, []}
use Rattle.std.specs.List.{list_any}
use Rattle.std.specs.Option.{option_map}
use Rattle.genie_base.specs.Configs.{DeviceConfig, Fits, most}
use Rattle.genie_base.specs.Regions.{AreInOrder}
use Rattle.genie_base.specs.declared.config.Kind.{Kind}
use Rattle.genie_base.specs.declared.region.Area.{Area}
use Rattle.genie_base.specs.declared.region.Area.TheVariants.{App, Sys}
use Rattle.genie_base.specs.declared.region.RegionState.{RegionState}
use Rattle.genie_base.specs.declared.region.RegionState.TheVariants.{Live, Out, In, Held}
use Rattle.genie_base.specs.declared.semantics.Class.{Class}
use Rattle.genie_base.specs.declared.semantics.Class.TheVariants.{Copy, Share, Move, WeakMove}
use Rattle.genie_base.specs.declared.semantics.Direction.{Direction}
use Rattle.genie_base.specs.declared.semantics.Direction.TheVariants.{Outward, Inward}
use Rattle.genie_model.specs.declared.fate.Fate.{Fate}
use Rattle.genie_model.specs.declared.fate.Fate.TheVariants.{Matched, Skipped, Gathering}
use Rattle.genie_model.specs.State.{State, Region, Orphan, Process, Transfer, Device, Datagram}
use Rattle.genie_model.specs.Tables.{entry}
use Rattle.genie_model.specs.Regions.{extent_of, regions_of, regions_at, is_region, region_numbered, orphan_numbered, committed}
use Rattle.genie_model.specs.Pending.{names, wired, is_queued, is_posted, is_moving, is_inward, is_early, arrived}
use Rattle.genie_model.specs.Receiving.{is_between_records}
use Rattle.genie_model.specs.declared.phase.Phase.{Phase}
use Rattle.genie_model.specs.declared.phase.Phase.TheVariants.{Queued, Posted, Moving, Ready}
use Rattle.genie_model.specs.Space.{is_move, is_named, tidy}
use Rattle.genie_model.specs.Refusing.{frames_to_wire}

-- the application's area ends at page 512, and the system's follows it up to page 1,024
abbrev pub IsIn : Area → ℕ → ℕ → Type 0
IsIn App start pages = start + pages ≤ 512
IsIn Sys start pages = (512 ≤ start) × (start + pages ≤ 1024)

-- a region has 1 to 64 pages, which lie in its area, and a byte for each place
pub record IsRegion (page : ℕ) (r : Region) : Type 0 where
  pub some : 1 ≤ r.pages
  pub most : r.pages ≤ 64
  pub area : IsIn r.area r.start r.pages
  pub bytes : length r.bytes ≡ r.pages * page

-- at most 32 regions, in the order of their start pages, none overlapping another
pub record AreApart (page : ℕ) (regions : List Region) : Type 0 where
  pub few : length regions ≤ 32
  pub order : AreInOrder extent_of regions
  pub each : All (IsRegion page) regions

-- so are the regions of each process
abbrev pub RegionsAreApart : State → Type 0
RegionsAreApart s = All (λ (p : Option Process). AreApart s.config.page (regions_of p)) s.processes

-- the pending transfers need no more frames than there are for them
abbrev pub WiredIsBounded : State → Type 0
WiredIsBounded s = wired s ≤ frames_to_wire s

-- the pages of all regions fit the store
abbrev pub CommittedIsBounded : State → Type 0
CommittedIsBounded s = committed s ≤ s.config.slots

-- at most 64 transfers are pending, in the order of their numbers, all of which are below the next one
pub record NumbersRise (s : State) : Type 0 where
  pub few : length s.transfers ≤ 64
  pub order : AllPairs (λ (t u : Transfer). t.number < u.number) s.transfers
  pub below : All (λ (t : Transfer). t.number < s.next) s.transfers

abbrev pub region_numbers : Option Process → List ℕ
region_numbers p = map (λ (r : Region). r.number) (regions_of p)

abbrev pub orphan_numbers : List Orphan → List ℕ
orphan_numbers orphans = map (λ (o : Orphan). o.number) orphans

-- the numbers of all regions and all orphans
abbrev pub numbers : State → List ℕ
numbers s = flat_map region_numbers s.processes ++ orphan_numbers s.orphans

-- no two of them have the same
abbrev pub NumbersDiffer : State → Type 0
NumbersDiffer s = AllPairs (λ (a b : ℕ). a ≢ b) (numbers s)

-- all of them are below 577: there are at most 512 regions and 64 orphans
abbrev pub NumbersAreBelow : State → Type 0
NumbersAreBelow s = All (λ (n : ℕ). n < 577) (numbers s)

-- a pending weak transfer names each orphan
abbrev pub OrphansAreNamed : State → Type 0
OrphansAreNamed s = All (λ (o : Orphan). IsTrue (is_named s.transfers o)) s.orphans

-- orphans stand in the order of their numbers
abbrev pub OrphansRise : State → Type 0
OrphansRise s = AllPairs (λ (o p : Orphan). o.number < p.number) s.orphans

-- the places of each orphan rise, none of them twice
abbrev pub OrphanPlacesRise : State → Type 0
OrphanPlacesRise s = All (λ (o : Orphan). AllPairs (λ (a b : ℕ × ℕ). a.0 < b.0) o.bytes) s.orphans

-- nothing is left of orphans but what pending weak transfers name and cover
abbrev pub OrphansAreTidy : State → Type 0
OrphansAreTidy s = tidy s ≡ s

-- the orphan has a byte at place x
abbrev pub has_place : ℕ → Orphan → Bool
has_place x o = list_any (λ (e : ℕ × ℕ). e.0 == x) o.bytes

abbrev pub LiesInRegion : Transfer → Option Region → Type 0
LiesInRegion t None = ⊥
LiesInRegion t (Some r) = t.offset + t.len ≤ length r.bytes

abbrev pub LiesInOrphan : Transfer → Option Orphan → Type 0
LiesInOrphan t None = ⊥
LiesInOrphan t (Some o) = (x : ℕ) → t.offset ≤ x → x < t.offset + t.len → IsTrue (has_place x o)

-- the range of a transfer lies in the region or the orphan that it names
abbrev pub Lies : State → Transfer → Option ℕ → Type 0
Lies s t None = ⊤
Lies s t (Some k) = LiesInRegion t (region_numbered s k) ⊎ LiesInOrphan t (orphan_numbered s k)

abbrev pub RangesLie : State → Type 0
RangesLie s = All (λ (t : Transfer). Lies s t t.region) s.transfers

abbrev pub is_in : RegionState → Bool
is_in Live = false
is_in Out = false
is_in In = true
is_in Held = false

abbrev pub is_held : RegionState → Bool
is_held Live = false
is_held Out = false
is_held In = false
is_held Held = true

-- this process has region k, and holds it for a move input
abbrev pub holds : State → Option ℕ → ℕ → Bool
holds s None k = false
holds s (Some p) k = list_any (λ (r : Region). is_region k r && is_held r.state) (regions_at s p)

-- a weak transfer names a region or an orphan, and a strong one nothing; but a move input names the region that its
-- owner holds, until the owner is gone
abbrev pub MayName : State → Class → Direction → Option ℕ → Option ℕ → Type 0
MayName s Copy direction owner region = region ≡ None
MayName s Share direction owner region = IsTrue (is_some region)
MayName s Move Outward owner region = region ≡ None
MayName s Move Inward owner None = owner ≡ None
MayName s Move Inward owner (Some k) = IsTrue (holds s owner k)
MayName s WeakMove direction owner region = IsTrue (is_some region)

abbrev pub moves_into : ℕ → Transfer → Bool
moves_into k t = is_move t.class && names k t

-- each transfer names what it may, and what a move input names no other one does
pub record HeldForOne (s : State) : Type 0 where
  pub held : All (λ (t : Transfer). MayName s t.class t.direction t.owner t.region) s.transfers
  pub one : (k : ℕ) → IsTrue (list_any (moves_into k) s.transfers) → count_by (names k) s.transfers ≤ 1

-- only inputs are posted
abbrev pub PostedAreInputs : State → Type 0
PostedAreInputs s = All (λ (t : Transfer). IsTrue (is_posted t.phase) → IsTrue (is_inward t.direction)) s.transfers

-- the number was given to a call, and where that is pending it is an input of device d
abbrev pub IsInput : State → ℕ → ℕ → Type 0
IsInput s d k = (k < s.next) × All (λ (t : Transfer). t.number ≡ k → IsTrue (is_inward t.direction) × (t.device ≡ d)) s.transfers

abbrev pub GoesToInput : State → ℕ → Fate → Type 0
GoesToInput s d Skipped = ⊤
GoesToInput s d (Matched k) = IsInput s d k
GoesToInput s d Gathering = ⊤

-- the datagram is under way at device d: some of its payload is still to come, and if it was matched, then to an input of
-- that device
pub record IsUnderWay (s : State) (d : ℕ) (g : Datagram) : Type 0 where
  pub left : g.moved < g.len
  pub input : GoesToInput s d g.fate

abbrev pub ReceivesForInput : State → ℕ → Option Device → Type 0
ReceivesForInput s d v = IfSome v (λ (w : Device). IfSome w.present (IsUnderWay s d))

-- so is the datagram that each device is receiving, if it is receiving one
abbrev pub MatchedAreInputs : State → Type 0
MatchedAreInputs s = (d : ℕ) → ReceivesForInput s d (entry s.devices d)

-- the kind and the depth of a device, where one is there
abbrev pub shape_of : Option Device → Option (Kind × ℕ)
shape_of v = option_map (λ (d : Device). (d.kind, d.depth)) v

-- a device is there exactly where the configuration has one at its place, with the kind and the depth that it says
abbrev pub DevicesAreConfigs : State → Type 0
DevicesAreConfigs s = (d : ℕ) → shape_of (entry s.devices d) ≡ option_map (λ (c : DeviceConfig). (c.kind, c.depth)) (entry s.config.devices d)

-- an output is queued and then ready, and an input is posted, receiving or ready
abbrev pub has_phase : Direction → Phase → Bool
has_phase Outward Queued = true
has_phase Outward Posted = false
has_phase Outward Moving = false
has_phase Outward Ready = true
has_phase Inward Queued = false
has_phase Inward Posted = true
has_phase Inward Moving = true
has_phase Inward Ready = true

-- only a copy input keeps an address, and the buffer of a move begins where its region does
abbrev pub IsPlaced : Direction → Class → Option ℕ → ℕ → Type 0
IsPlaced Outward class addr offset = addr ≡ None
IsPlaced Inward Copy addr offset = offset ≡ 0
IsPlaced Inward Share addr offset = addr ≡ None
IsPlaced Inward Move addr offset = (addr ≡ None) × (offset ≡ 0)
IsPlaced Inward WeakMove addr offset = (addr ≡ None) × (offset ≡ 0)

-- a transfer has a phase of its direction and a buffer of its class, and no more is stored than that holds
pub record IsTransfer (t : Transfer) : Type 0 where
  pub phase : IsTrue (has_phase t.direction t.phase)
  pub placed : IsPlaced t.direction t.class t.addr t.offset
  pub stored : t.stored ≤ t.len

abbrev pub AreTransfers : State → Type 0
AreTransfers s = All IsTransfer s.transfers

-- of two outputs that wait for one device, nothing of the later one is staged or sent
abbrev pub WaitsBehind : Transfer → Transfer → Type 0
WaitsBehind t u = is_queued t.phase ≡ true → is_queued u.phase ≡ true → t.device ≡ u.device → (u.staged ≡ 0) × (u.moved ≡ 0)

abbrev pub OneIsSent : State → Type 0
OneIsSent s = AllPairs WaitsBehind s.transfers

abbrev pub matched_to : Fate → Option ℕ
matched_to Skipped = None
matched_to (Matched k) = Some k
matched_to Gathering = None

-- the number of the input for which a device receives, where it has matched one
abbrev pub receives_for : Option Device → Option ℕ
receives_for None = None
receives_for (Some v) = option_and_then (λ (g : Datagram). matched_to g.fate) v.present

-- an input is receiving only while its device receives a datagram that was matched to it, so at most one of a device is
abbrev pub MovingAreReceived : State → Type 0
MovingAreReceived s = All (λ (t : Transfer). is_moving t.phase ≡ true → receives_for (entry s.devices t.device) ≡ Some t.number) s.transfers

-- and as long as its device receives such a datagram, it is: a pending input that a datagram was matched to is a receiving
-- one, and the other way round
abbrev pub ReceivedAreMoving : State → Type 0
ReceivedAreMoving s = All (λ (t : Transfer). receives_for (entry s.devices t.device) ≡ Some t.number → is_moving t.phase ≡ true) s.transfers

-- an early device matches a datagram or skips it, and another one gathers it
abbrev pub may_become : Kind → Fate → Bool
may_become kind Skipped = is_early kind
may_become kind (Matched k) = is_early kind
may_become kind Gathering = not (is_early kind)

-- a device receives this datagram as its kind does, and the datagram is no longer than it may be
pub record SuitsDevice (page : ℕ) (v : Device) (g : Datagram) : Type 0 where
  pub header : v.header ≡ []
  pub short : g.len ≤ most v.kind page
  pub fate : IsTrue (may_become v.kind g.fate)

abbrev pub DatagramsSuit : State → Type 0
DatagramsSuit s = (d : ℕ) → IfSome (entry s.devices d) (λ (v : Device). IfSome v.present (SuitsDevice s.config.page v))

-- 1 where a datagram is on its way into the device
abbrev pub on_its_way : Device → ℕ
on_its_way v = if is_between_records v then 0 else 1

abbrev pub KeepsDepth : ℕ → Option Device → Type 0
KeepsDepth n v = IfSome v (λ (w : Device). is_early w.kind ≡ false → n + on_its_way w ≤ w.depth)

-- where a device isn't early, the datagrams that wait for their `done` and the one on its way are at most its depth
abbrev pub DepthsAreKept : State → Type 0
DepthsAreKept s = (d : ℕ) → KeepsDepth (arrived s d) (entry s.devices d)

-- an input of this class fills a region of this state: a weak move input one that is In, a move input one that is Held
abbrev pub fills_state : RegionState → Class → Bool
fills_state Live class = false
fills_state Out class = false
fills_state In Copy = false
fills_state In Share = false
fills_state In Move = false
fills_state In WeakMove = true
fills_state Held Copy = false
fills_state Held Share = false
fills_state Held Move = true
fills_state Held WeakMove = false

-- it is an input that fills region k as one of this state
abbrev pub fills : RegionState → ℕ → Transfer → Bool
fills state k t = is_inward t.direction && fills_state state t.class && names k t

-- how many inputs fill a region of state `is` as one of this state
abbrev pub awaited : RegionState → RegionState → ℕ
awaited state Live = 0
awaited state Out = 0
awaited state In = if is_in state then 1 else 0
awaited state Held = if is_held state then 1 else 0

-- region k of process p is In exactly while one weak move input names it, and Held exactly while one move input does; the
-- process itself has posted that one
pub record IsFilled (transfers : List Transfer) (p k : ℕ) (is : RegionState) : Type 0 where
  pub one : (state : RegionState) → count_by (fills state k) transfers ≡ awaited state is
  pub own : (state : RegionState) → All (λ (t : Transfer). fills state k t ≡ true → t.owner ≡ Some p) transfers

abbrev pub BuffersAreFilled : State → Type 0
BuffersAreFilled s = (p : ℕ) → All (λ (r : Region). IsFilled s.transfers p r.number r.state) (regions_at s p)

abbrev pub is_out : RegionState → Bool
is_out Live = false
is_out Out = true
is_out In = false
is_out Held = false

abbrev pub is_out_region : ℕ → Region → Bool
is_out_region k r = is_region k r && is_out r.state

-- a number stands in the weak queue as often as an Out region of the process has it
abbrev pub ListsOut : Process → Type 0
ListsOut p = (k : ℕ) → count_by (λ n. n == k) p.queue ≡ count_by (is_out_region k) p.regions

-- so the weak queue of each process lists its Out regions, each once, since numbers differ
abbrev pub QueuesListOut : State → Type 0
QueuesListOut s = (p : ℕ) → IfSome (entry s.processes p) ListsOut

-- all of this
pub record IsOrderly (s : State) : Type 0 where
  pub config : Fits s.config
  pub places : length s.processes ≡ 16
  pub devices : DevicesAreConfigs s
  pub regions : RegionsAreApart s
  pub wired : WiredIsBounded s
  pub committed : CommittedIsBounded s
  pub transfers : NumbersRise s
  pub numbers : NumbersDiffer s
  pub orphans : OrphansAreNamed s
  pub rise : OrphansRise s
  pub order : OrphanPlacesRise s
  pub tidied : OrphansAreTidy s
  pub ranges : RangesLie s
  pub holds : HeldForOne s
  pub posted : PostedAreInputs s
  pub matched : MatchedAreInputs s
  pub below : NumbersAreBelow s
  pub filled : BuffersAreFilled s
  pub weak : QueuesListOut s
  pub calls : AreTransfers s
  pub queues : OneIsSent s
  pub moving : MovingAreReceived s
  pub received : ReceivedAreMoving s
  pub datagrams : DatagramsSuit s
  pub depths : DepthsAreKept s
