-- What is answered at the end of an input.
use Rattle.std.specs.Prelude.{ℕ, Bool, false, List, Option, None, Some, if◌then◌else◌}
use Rattle.genie_base.specs.declared.reply.Reply.{Reply}
use Rattle.genie_base.specs.declared.reply.Reply.TheVariants as reply
use Rattle.genie_region.specs.declared.region.Region.{Region}
use Rattle.genie_kernel.specs.declared.transfer.Transfer.{Transfer}
use Rattle.genie_kernel.specs.Calls.{region_number}
use Rattle.genie_kernel.specs.Orphans.{is_owned}

abbrev pub is_owned_number : List Region → Option ℕ → Bool
is_owned_number regions None = false
is_owned_number regions (Some k) = is_owned regions k

-- the transfer names one of these regions
abbrev pub is_there : List Region → Transfer → Bool
is_there regions t = is_owned_number regions (region_number t)

-- the process that made the call is gone, or the region is, or the bytes are in it
abbrev pub share_reply : Bool → Transfer → Option ℕ → Reply
share_reply there t None = reply.Gone
share_reply there t (Some p) = if there then reply.Input None t.stored t.note else reply.Lost

-- the same of a weak move input, whose region begins at this address
abbrev pub moved_reply : Option ℕ → Transfer → Option ℕ → Reply
moved_reply at t None = reply.Gone
moved_reply None t (Some p) = reply.Lost
moved_reply (Some a) t (Some p) = reply.Input (Some a) t.stored t.note
