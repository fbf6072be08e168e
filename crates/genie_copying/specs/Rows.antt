-- A case of the table: a kernel with a page of each kind, and what each event may copy there.
use Rattle.std.specs.Prelude.{◌≡◌, ℕ, true, false, List, [], ◌∷◌, replicate, Option, None, Some}
use Rattle.genie_base.specs.declared.config.Config.{Config}
use Rattle.genie_base.specs.declared.config.DeviceConfig.{DeviceConfig}
use Rattle.genie_base.specs.declared.config.Kind.{Kind}
use Rattle.genie_base.specs.declared.config.Kind.TheVariants.{Early, Pooled, Outboard}
use Rattle.genie_base.specs.declared.event.Event.TheVariants as event
use Rattle.genie_base.specs.declared.refusal.Refusal.TheVariants as refusal
use Rattle.genie_base.specs.declared.region.Area.TheVariants.{App}
use Rattle.genie_base.specs.declared.region.RegionState.TheVariants.{Live}
use Rattle.genie_base.specs.declared.reply.Note.TheVariants.{Whole}
use Rattle.genie_base.specs.declared.reply.Reply.TheVariants as reply
use Rattle.genie_base.specs.declared.semantics.Direction.{Direction}
use Rattle.genie_base.specs.declared.semantics.Direction.TheVariants.{Outward, Inward}
use Rattle.genie_base.specs.declared.semantics.Semantics.{Semantics}
use Rattle.genie_base.specs.declared.semantics.Semantics.TheVariants as semantics
use Rattle.genie_frame.specs.FrameTable.{no_counts, no_meters}
use Rattle.genie_object.specs.declared.memory.Memory.{Memory}
use Rattle.genie_object.specs.declared.objects.Entry.{Entry}
use Rattle.genie_object.specs.declared.pages.PageInfo.{PageInfo}
use Rattle.genie_object.specs.declared.pages.Place.{Place}
use Rattle.genie_object.specs.declared.pages.Place.TheVariants.{Zero, Frame, Slot}
use Rattle.genie_object.specs.Costs.{is_untouched}
use Rattle.genie_region.specs.declared.region.Region.{Region}
use Rattle.genie_model.specs.declared.phase.Phase.TheVariants.{Ready}
use Rattle.genie_kernel.specs.declared.kernel.Kernel.{Kernel}
use Rattle.genie_kernel.specs.declared.transfer.Loans.TheVariants.{Nothing}
use Rattle.genie_kernel.specs.declared.transfer.Transfer.{Transfer}
use Rattle.genie_copying.specs.Kinds.{is_shared, is_strongly_lent, is_weakly_held, is_fixed, is_unlendable}
use Rattle.genie_copying.specs.Ranges.{Pages, count_in}
use Rattle.genie_copying.specs.Bounds.{bound}

abbrev pub entry_of : ℕ → Entry
entry_of p = record { page = Some (record { 0 = p }); readable = true; writable = true }

abbrev pub empty_entry : Entry
empty_entry = record { page = None; readable = false; writable = true }

abbrev pub in_frame : ℕ → Place
in_frame f = Frame (record { 0 = f })

abbrev pub page : Place → ℕ → PageInfo
page place shares = record { place = place; shares = shares }

-- eight pages: two untouched, one shared, one strongly lent, one that is weakly lent, one with an input's loan, one in a slot,
-- and one that is shared and strongly lent
abbrev pub memory : Memory
memory = record {
  frames = record {
    page = 16;
    owners = [];
    counts = no_counts ∷ record no_counts { strong = 1 } ∷ record no_counts { weak = 1 } ∷ record no_counts { input = 1 } ∷ record no_counts { strong = 1 } ∷ [];
    bytes = [];
    meters = no_meters;
    landed = 0;
  };
  pages = record {
    pages = page Zero 1 ∷ page (in_frame 0) 2 ∷ page (in_frame 1) 1 ∷ page (in_frame 2) 1 ∷ page (in_frame 3) 1 ∷ page (Slot 0) 1 ∷ page (in_frame 4) 2 ∷ [];
    most = 32;
  };
  objects = (empty_entry ∷ entry_of 0 ∷ entry_of 1 ∷ entry_of 2 ∷ entry_of 3 ∷ entry_of 4 ∷ entry_of 5 ∷ entry_of 6 ∷ []) ∷ [];
  slots = true ∷ [];
}

-- they are pages 4 to 11 of process 0
abbrev pub region : Region
region = record { id = record { 0 = 7 }; start = 4; pages = 8; area = App; state = Live; writable = true; object = record { 0 = 0 } }

abbrev pub device : Kind → ℕ → DeviceConfig
device kind offset = record { kind = kind; input = Some 1; output = Some 2; depth = 1; offset = offset }

-- pages of 16 bytes, and a threshold of 16 bytes for emulated copies
abbrev pub config : Kind → ℕ → Config
config kind offset = record { page = 16; frames = 32; slots = 32; cout = 16; rcout = 8; devices = Some (device kind offset) ∷ replicate 7 None }

-- a transfer of 48 bytes in the middle of page 4 and on, of which 40 bytes are stored
abbrev pub transfer : Semantics → Direction → Transfer
transfer sem dir = record {
  id = record { 0 = 1 };
  owner = Some 0;
  sem = sem;
  dir = dir;
  dev = 0;
  port = 5;
  flow = None;
  addr = 72;
  region = None;
  offset = 0;
  len = 48;
  phase = Ready;
  loans = Nothing;
  buffer = None;
  stored = 40;
  note = Whole;
}

abbrev pub kernel : Kind → ℕ → List ℕ → List Transfer → Kernel
kernel kind offset queue transfers = record {
  memory = memory;
  spaces = record { page = 16; processes = Some (region ∷ []) ∷ replicate 15 None };
  hidden = [];
  clock = 0;
  queues = queue ∷ replicate 15 [];
  transfers = transfers;
  devices = replicate 8 None;
  pools = replicate 8 None;
  posted = [];
  next = 2;
  config = config kind offset;
}

abbrev pub idle : Kernel
idle = kernel Early 0 [] []

-- the end of a transfer
abbrev pub ending : Kind → ℕ → Semantics → ℕ
ending kind offset sem = bound (kernel kind offset [] (transfer sem Inward ∷ [])) (event.Finish 1) (reply.Input None 40 Whole)

abbrev pub output : Semantics → ℕ → ℕ
output sem n = bound idle (event.Output 0 sem 0 5 None 64 n) (reply.Id 2)

abbrev pub input : List ℕ → Semantics → Option ℕ → ℕ
input queue sem addr = bound (kernel Early 0 queue []) (event.Input 0 sem 0 5 None addr 128) (reply.Id 2)

abbrev pub all : Pages
all = record { object = 0; first = 0; count = 8 }

-- the pages of each kind, each counted once
pub record KindsCounted : Type 0 where
  pub untouched : count_in is_untouched memory all ≡ 2
  pub shared : count_in is_shared memory all ≡ 2
  pub strong : count_in is_strongly_lent memory all ≡ 2
  pub held : count_in is_weakly_held memory all ≡ 2
  pub fixed : count_in is_fixed memory all ≡ 5
  pub unlendable : count_in is_unlendable memory all ≡ 4

-- reads, writes and forks
pub record AccessRows : Type 0 where
  pub read_untouched : bound idle (event.Read 0 72 16) (reply.Bytes (replicate 16 0)) ≡ 48
  pub read_in_place : bound idle (event.Read 0 128 16) (reply.Bytes (replicate 16 0)) ≡ 16
  pub write_fixed : bound idle (event.Write 0 88 (replicate 16 1)) reply.Okay ≡ 48
  pub write_in_place : bound idle (event.Write 0 128 (replicate 16 1)) reply.Okay ≡ 16
  pub write_failed : bound idle (event.Write 0 88 (replicate 16 1)) reply.StoreFault ≡ 48
  pub write_refused : bound idle (event.Write 0 88 (replicate 16 1)) (reply.Err refusal.Denied) ≡ 0
  pub fork : bound idle (event.Fork 0 1) reply.Okay ≡ 32
  pub pageout : bound idle (event.Pageout 4) reply.Okay ≡ 0

-- outputs of all eight pages, and one of as many bytes as the threshold says
pub record OutputRows : Type 0 where
  pub copy : output semantics.Copy 128 ≡ 160
  pub emulated_copy : output semantics.EmulatedCopy 128 ≡ 64
  pub short_copy : output semantics.EmulatedCopy 16 ≡ 32
  pub move : output semantics.Move 128 ≡ 64
  pub emulated_move : output semantics.EmulatedMove 128 ≡ 64
  pub share : output semantics.Share 128 ≡ 80
  pub emulated_share : output semantics.EmulatedShare 128 ≡ 80
  pub weak_move : output semantics.WeakMove 128 ≡ 80
  pub emulated_weak_move : output semantics.EmulatedWeakMove 128 ≡ 80

-- inputs into these pages, into a new region, and into one that is used again
pub record InputRows : Type 0 where
  pub copy : input [] semantics.EmulatedCopy (Some 64) ≡ 0
  pub move : input [] semantics.EmulatedMove None ≡ 0
  pub share : input [] semantics.EmulatedShare (Some 64) ≡ 80
  pub new_region : input [] semantics.WeakMove None ≡ 128
  pub same_region : input (7 ∷ []) semantics.EmulatedWeakMove None ≡ 80

-- ends, where 40 bytes are stored from the middle of an untouched page on: they cover one page in part and two wholly, and
-- three of them can't be written in place
pub record EndRows : Type 0 where
  pub copy : ending Early 0 semantics.Copy ≡ 88
  pub swapped : ending Early 0 semantics.EmulatedCopy ≡ 32
  pub outboard : ending Outboard 0 semantics.EmulatedCopy ≡ 32
  pub aligned : ending Pooled 8 semantics.EmulatedCopy ≡ 32
  pub unaligned : ending Pooled 0 semantics.EmulatedCopy ≡ 88
  pub move : ending Early 0 semantics.EmulatedMove ≡ 16
  pub aligned_move : ending Pooled 0 semantics.Move ≡ 16
  pub unaligned_move : ending Pooled 8 semantics.EmulatedMove ≡ 56
  pub share : ending Early 0 semantics.EmulatedShare ≡ 0
  pub weak_move : ending Outboard 0 semantics.WeakMove ≡ 0
  pub pooled_share : ending Pooled 0 semantics.Share ≡ 40
  pub output : bound (kernel Early 0 [] (transfer semantics.Copy Outward ∷ [])) (event.Finish 1) (reply.Output 48) ≡ 0
  pub gone : bound (kernel Early 0 [] (transfer semantics.Copy Inward ∷ [])) (event.Finish 1) reply.Gone ≡ 0
  pub lost : bound (kernel Early 0 [] (transfer semantics.Copy Inward ∷ [])) (event.Finish 1) reply.Lost ≡ 0
  pub sent : bound idle (event.Send 0 64) (reply.Sent 64) ≡ 0
  pub received : bound idle (event.Recv 0 64) (reply.Got 64) ≡ 0

pub record TableRows : Type 0 where
  pub kinds : KindsCounted
  pub accesses : AccessRows
  pub outputs : OutputRows
  pub inputs : InputRows
  pub ends : EndRows
