-- What an event may copy at most: the table, row by row. Pages are as the event finds them, each counted once.
use Rattle.std.specs.Prelude.{◌≤◌, ℕ, ◌+◌, ◌*◌, ◌%◌, ◌==◌, Bool, true, false, List, length, find, Option, Some, None, nat_le, if◌then◌else◌}
use Rattle.genie_base.specs.declared.config.Config.{Config}
use Rattle.genie_base.specs.declared.config.Kind.{Kind}
use Rattle.genie_base.specs.declared.config.Kind.TheVariants.{Early, Pooled, Outboard}
use Rattle.genie_base.specs.declared.event.Event.{Event}
use Rattle.genie_base.specs.declared.event.Event.TheVariants as event
use Rattle.genie_base.specs.declared.reply.Reply.{Reply}
use Rattle.genie_base.specs.declared.reply.Reply.TheVariants as reply
use Rattle.genie_base.specs.declared.semantics.Direction.{Direction}
use Rattle.genie_base.specs.declared.semantics.Direction.TheVariants.{Outward, Inward}
use Rattle.genie_base.specs.declared.semantics.Semantics.{Semantics}
use Rattle.genie_base.specs.declared.semantics.Semantics.TheVariants as semantics
use Rattle.genie_object.specs.Costs.{work, is_untouched}
use Rattle.genie_region.specs.declared.region.Region.{Region}
use Rattle.genie_model.specs.Inputs.{pages_for, reusable, address_or_zero}
use Rattle.genie_model.specs.Tables.{entry}
use Rattle.genie_kernel.specs.declared.kernel.Kernel.{Kernel}
use Rattle.genie_kernel.specs.declared.transfer.Transfer.{Transfer}
use Rattle.genie_kernel.specs.Calls.{has_number}
use Rattle.genie_kernel.specs.Regions.{regions_of, has_id}
use Rattle.genie_kernel.specs.View.{outline}
use Rattle.genie_copying.specs.Kinds.{is_fixed, is_unlendable, is_weakly_held}
use Rattle.genie_copying.specs.Ranges.{Pages, pages_in, pages_of, reached, pages_reached, count_of, count_all, part_pages}

-- the bytes of all untouched pages, of all that can't be written in place, of all that can't be lent strongly in place, and
-- of all that are weakly held
abbrev pub untouched_bytes : Kernel → Option Pages → ℕ
untouched_bytes k r = k.config.page * count_of is_untouched k.memory r

abbrev pub fixed_bytes : Kernel → Option Pages → ℕ
fixed_bytes k r = k.config.page * count_of is_fixed k.memory r

abbrev pub unlendable_bytes : Kernel → Option Pages → ℕ
unlendable_bytes k r = k.config.page * count_of is_unlendable k.memory r

abbrev pub held_bytes : Kernel → Option Pages → ℕ
held_bytes k r = k.config.page * count_of is_weakly_held k.memory r

-- an output of n bytes: a copy moves them, as an emulated one does with at most so many bytes as the threshold says; every
-- other call lends the pages, strongly or weakly
abbrev pub output_bound : Kernel → Semantics → ℕ → Option Pages → ℕ
output_bound k semantics.Copy n r = n + untouched_bytes k r
output_bound k semantics.EmulatedCopy n r = if nat_le n k.config.cout then n + untouched_bytes k r else unlendable_bytes k r
output_bound k semantics.Move n r = unlendable_bytes k r
output_bound k semantics.EmulatedMove n r = unlendable_bytes k r
output_bound k semantics.Share n r = fixed_bytes k r
output_bound k semantics.EmulatedShare n r = fixed_bytes k r
output_bound k semantics.WeakMove n r = fixed_bytes k r
output_bound k semantics.EmulatedWeakMove n r = fixed_bytes k r

-- the pages of the region of this number
abbrev pub pages_numbered : ℕ → List Region → Option Pages
pages_numbered number regions = elim (find (has_id number) regions) [ None ↦ None | Some r ↦ Some (pages_of r) ]

-- the buffer of a weak move input: all pages of a region that is used again, or of a new one, which are untouched
abbrev pub buffer_bound : Kernel → ℕ → ℕ → Option ℕ → ℕ
buffer_bound k p pages None = k.config.page * pages
buffer_bound k p pages (Some number) = fixed_bytes k (pages_numbered number (regions_of (entry k.spaces.processes p)))

abbrev pub weak_move_bound : Kernel → ℕ → ℕ → ℕ
weak_move_bound k p pages = buffer_bound k p pages (reusable (outline k) p pages)

-- an input of n bytes: only the pages of a weak call are made ready before the bytes come
abbrev pub input_bound : Kernel → Semantics → ℕ → Option ℕ → ℕ → ℕ
input_bound k semantics.Copy p addr n = 0
input_bound k semantics.EmulatedCopy p addr n = 0
input_bound k semantics.Move p addr n = 0
input_bound k semantics.EmulatedMove p addr n = 0
input_bound k semantics.Share p addr n = fixed_bytes k (pages_reached k p (address_or_zero addr) n)
input_bound k semantics.EmulatedShare p addr n = fixed_bytes k (pages_reached k p (address_or_zero addr) n)
input_bound k semantics.WeakMove p addr n = weak_move_bound k p (pages_for (outline k) n)
input_bound k semantics.EmulatedWeakMove p addr n = weak_move_bound k p (pages_for (outline k) n)

abbrev pub begins_there : Kind → ℕ → ℕ → Bool
begins_there Early offset place = true
begins_there Outboard offset place = true
begins_there Pooled offset place = offset == place

-- a device whose buffers begin at that place of a page: one that isn't pooled, or is with that offset
abbrev pub is_aligned : Config → ℕ → ℕ → Bool
is_aligned c d place = elim (entry c.devices d) [ None ↦ true | Some device ↦ begins_there device.kind device.offset place ]

abbrev pub is_pooled : Kind → Bool
is_pooled Early = false
is_pooled Outboard = false
is_pooled Pooled = true

abbrev pub is_pooled_at : Config → ℕ → Bool
is_pooled_at c d = elim (entry c.devices d) [ None ↦ false | Some device ↦ is_pooled device.kind ]

-- the pages that the bytes stored of a copy input lie in: they are in the region that its whole range reaches
abbrev pub pages_stored : Kernel → ℕ → Transfer → Option Pages
pages_stored k p t = elim (reached k p t.addr t.len) [ None ↦ None | Some r ↦ Some (pages_in k.config.page t.addr t.stored r) ]

-- the end of an input of process p: a basic copy moves all bytes, an emulated one swaps pages where the buffer is aligned,
-- and then moves at most the bytes of pages that are covered in part or are weakly held; a move zeroes what is left of a
-- page; of a weak call only a pool's bytes are moved
abbrev pub stored_bound : Kernel → ℕ → Transfer → Semantics → ℕ
stored_bound k p t semantics.Copy = t.stored + fixed_bytes k (pages_stored k p t)
stored_bound k p t semantics.EmulatedCopy = if is_aligned k.config t.dev (t.addr % k.config.page) then 2 * k.config.page * part_pages k.config.page t.addr t.stored + held_bytes k (pages_stored k p t) else t.stored + fixed_bytes k (pages_stored k p t)
stored_bound k p t semantics.Move = if is_aligned k.config t.dev 0 then k.config.page else t.stored + k.config.page
stored_bound k p t semantics.EmulatedMove = if is_aligned k.config t.dev 0 then k.config.page else t.stored + k.config.page
stored_bound k p t semantics.Share = if is_pooled_at k.config t.dev then t.stored else 0
stored_bound k p t semantics.EmulatedShare = if is_pooled_at k.config t.dev then t.stored else 0
stored_bound k p t semantics.WeakMove = if is_pooled_at k.config t.dev then t.stored else 0
stored_bound k p t semantics.EmulatedWeakMove = if is_pooled_at k.config t.dev then t.stored else 0

-- an output, and a transfer whose process is gone, move nothing at their end
abbrev pub end_bound : Kernel → Transfer → Direction → Option ℕ → ℕ
end_bound k t Outward owner = 0
end_bound k t Inward None = 0
end_bound k t Inward (Some p) = stored_bound k p t t.sem

abbrev pub finish_bound : Kernel → Option Transfer → ℕ
finish_bound k None = 0
finish_bound k (Some t) = end_bound k t t.dir t.owner

-- an event that isn't refused, and doesn't find its buffer lost; a failure of the store doesn't change its bound
abbrev pub event_bound : Kernel → Event → ℕ
event_bound k (event.Read p a n) = n + untouched_bytes k (pages_reached k p a n)
event_bound k (event.Write p a bytes) = length bytes + fixed_bytes k (pages_reached k p a (length bytes))
event_bound k (event.Output p sem d port flow a n) = output_bound k sem n (pages_reached k p a n)
event_bound k (event.Input p sem d port flow a n) = input_bound k sem p a n
event_bound k (event.Finish id) = finish_bound k (find (has_number id) k.transfers)
event_bound k (event.Fork p child) = k.config.page * count_all is_weakly_held k.memory (regions_of (entry k.spaces.processes p))
event_bound k (event.Spawn p) = 0
event_bound k (event.Exit p) = 0
event_bound k (event.Map p start pages) = 0
event_bound k (event.Alloc p pages) = 0
event_bound k (event.Unmap p start) = 0
event_bound k (event.Protect p start writable) = 0
event_bound k (event.Send d n) = 0
event_bound k (event.Recv d n) = 0
event_bound k (event.Cancel id) = 0
event_bound k (event.Pageout n) = 0

-- whether the reply says that no byte was stored
abbrev pub stores_nothing : Reply → Bool
stores_nothing (reply.Err refusal) = true
stores_nothing reply.Gone = true
stores_nothing reply.Lost = true
stores_nothing reply.Okay = false
stores_nothing (reply.Bytes bytes) = false
stores_nothing (reply.At addr) = false
stores_nothing (reply.Id id) = false
stores_nothing (reply.Sent n) = false
stores_nothing (reply.Staged n) = false
stores_nothing (reply.Got n) = false
stores_nothing (reply.Dropped port flow n) = false
stores_nothing (reply.Output n) = false
stores_nothing (reply.Input at n note) = false
stores_nothing (reply.Fault n) = false
stores_nothing reply.StoreFault = false
stores_nothing reply.Idle = false
stores_nothing reply.End = false
stores_nothing reply.Bad = false
stores_nothing reply.Busy = false

-- what the processor may copy at most in an event with this reply, in bytes, over the kernel before the event
abbrev pub bound : Kernel → Event → Reply → ℕ
bound k e r = if stores_nothing r then 0 else event_bound k e

-- it copied no more: the raise of the bytes read, written, copied and zeroed together
abbrev pub KeepsToBound : Kernel → Event → Kernel → Reply → Type 0
KeepsToBound old e new r = work new.memory.frames.meters ≤ work old.memory.frames.meters + bound old e r
