-- Which events are whole, and what a reply tells of a failure.
use Rattle.std.specs.Prelude.{Bool, true, false, not, length, is_some, nat_lt}
use Rattle.genie_base.specs.declared.event.Event.{Event}
use Rattle.genie_base.specs.declared.event.Event.TheVariants.{Spawn, Fork, Exit, Map, Alloc, Unmap, Protect, Read, Write, Output, Input, Send, Recv, Finish, Cancel, Pageout}
use Rattle.genie_base.specs.declared.reply.Reply.{Reply}
use Rattle.genie_base.specs.declared.reply.Reply.TheVariants as reply
use Rattle.genie_base.specs.declared.reply.Mark.{Mark}
use Rattle.genie_base.specs.declared.reply.Mark.TheVariants.{NoFault, Device, Store}
use Rattle.genie_base.specs.Transfers.{class_of, is_system}

-- exactly one of the two holds
abbrev pub has_one : Bool → Bool → Bool
has_one true b = not b
has_one false b = b

-- An input names an address exactly where the application allocates its buffer, and a write has a byte.
abbrev pub is_whole : Event → Bool
is_whole (Spawn pid) = true
is_whole (Fork parent child) = true
is_whole (Exit pid) = true
is_whole (Map pid page pages) = true
is_whole (Alloc pid pages) = true
is_whole (Unmap pid page) = true
is_whole (Protect pid page writable) = true
is_whole (Read pid addr len) = true
is_whole (Write pid addr bytes) = nat_lt 0 (length bytes)
is_whole (Output pid sem dev port flow addr len) = true
is_whole (Input pid sem dev port flow addr len) = has_one (is_system (class_of sem)) (is_some addr)
is_whole (Send dev len) = true
is_whole (Recv dev len) = true
is_whole (Finish id) = true
is_whole (Cancel id) = true
is_whole (Pageout pages) = true

-- what failed, as the reply shows it
abbrev pub mark_of : Reply → Mark
mark_of reply.Okay = NoFault
mark_of (reply.Bytes bytes) = NoFault
mark_of (reply.At addr) = NoFault
mark_of (reply.Id id) = NoFault
mark_of (reply.Sent n) = NoFault
mark_of (reply.Staged n) = NoFault
mark_of (reply.Got n) = NoFault
mark_of (reply.Dropped port flow len) = NoFault
mark_of (reply.Output n) = NoFault
mark_of (reply.Input at n note) = NoFault
mark_of reply.Gone = NoFault
mark_of reply.Lost = NoFault
mark_of (reply.Fault n) = Device n
mark_of reply.StoreFault = Store
mark_of reply.Idle = NoFault
mark_of reply.End = NoFault
mark_of reply.Bad = NoFault
mark_of reply.Busy = NoFault
mark_of (reply.Err refusal) = NoFault
