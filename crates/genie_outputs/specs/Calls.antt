-- What an output call names, and what it leaves pending.
use Rattle.std.specs.Prelude.{◌≡◌, ℕ, ◌-◌, ◌*◌, Bool, not, ◌||◌, nat_le, Option, None, Some, if◌then◌else◌}
use Rattle.genie_base.specs.Regions.{reach}
use Rattle.genie_base.specs.Transfers.{class_of, is_strong, is_emulated}
use Rattle.genie_base.specs.declared.event.Event.{Event}
use Rattle.genie_base.specs.declared.event.Event.TheVariants as event
use Rattle.genie_base.specs.declared.numbers.RegionId.{RegionId}
use Rattle.genie_base.specs.declared.reply.Note.TheVariants.{Whole}
use Rattle.genie_base.specs.declared.semantics.Direction.TheVariants.{Outward}
use Rattle.genie_base.specs.declared.semantics.Semantics.{Semantics}
use Rattle.genie_object.specs.declared.memory.Memory.{Memory}
use Rattle.genie_object.specs.declared.objects.Range.{Range}
use Rattle.genie_plan.specs.declared.plan.OutPlan.{OutPlan}
use Rattle.genie_region.specs.declared.region.Region.{Region}
use Rattle.genie_region.specs.Layouts.{extent}
use Rattle.genie_model.specs.declared.phase.Phase.TheVariants.{Queued}
use Rattle.genie_model.specs.Tables.{entry}
use Rattle.genie_kernel.specs.declared.kernel.Kernel.{Kernel}
use Rattle.genie_kernel.specs.declared.transfer.Loans.TheVariants as loans
use Rattle.genie_kernel.specs.declared.transfer.Transfer.{Transfer}
use Rattle.genie_kernel.specs.Regions.{regions_of}
use Rattle.genie_changes.specs.Beginning.{with_call}
use Rattle.genie_outputs.specs.declared.call.Call.{Call}

abbrev pub event_of : Call → Event
event_of c = event.Output c.pid c.sem c.dev c.port c.flow c.addr c.len

-- a call of class Copy that copies its bytes at once: one that isn't emulated, or has at most so many bytes
abbrev pub is_plain : Semantics → ℕ → ℕ → Bool
is_plain sem len threshold = not (is_emulated sem) || nat_le len threshold

-- the call reaches this region of its process
abbrev pub Reaches : Kernel → Call → Region → Type 0
Reaches k c r = reach extent k.config.page c.addr c.len (regions_of (entry k.spaces.processes c.pid)) ≡ Some r

-- where its range begins in that region
abbrev pub place_in : ℕ → Call → Region → ℕ
place_in page c r = c.addr - r.start * page

-- its range in the region's object
abbrev pub range_of : ℕ → Call → Region → Range
range_of page c r = record { object = r.object; off = place_in page c r; len = c.len }

-- a strong call names no region, and a weak one its own
abbrev pub region_for : Semantics → RegionId → Option RegionId
region_for sem id = if is_strong (class_of sem) then None else Some id

-- the transfer that waits then, over this plan
abbrev pub transfer_of : Kernel → Call → Region → OutPlan → Transfer
transfer_of k c r plan = record {
  id = record { 0 = k.next };
  owner = Some c.pid;
  sem = c.sem;
  dir = Outward;
  dev = c.dev;
  port = c.port;
  flow = c.flow;
  addr = 0;
  region = region_for c.sem r.id;
  offset = place_in k.config.page c r;
  len = c.len;
  phase = Queued;
  loans = loans.Outward plan;
  buffer = None;
  stored = 0;
  note = Whole;
}

-- the kernel with it
abbrev pub with_output : Kernel → Memory → Call → Region → OutPlan → Kernel
with_output k m c r plan = with_call k m (transfer_of k c r plan)
