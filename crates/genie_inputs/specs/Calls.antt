-- Input calls and their transfers.
use Rattle.std.specs.Prelude.{ℕ, Option, None, Some}
use Rattle.genie_base.specs.declared.event.Event.{Event}
use Rattle.genie_base.specs.declared.event.Event.TheVariants as event
use Rattle.genie_base.specs.declared.numbers.RegionId.{RegionId}
use Rattle.genie_base.specs.declared.numbers.TransferId.{TransferId}
use Rattle.genie_base.specs.declared.reply.Note.TheVariants.{Whole}
use Rattle.genie_base.specs.declared.semantics.Direction.TheVariants.{Inward}
use Rattle.genie_model.specs.declared.phase.Phase.TheVariants.{Posted}
use Rattle.genie_kernel.specs.declared.transfer.Loans.{Loans}
use Rattle.genie_kernel.specs.declared.transfer.Transfer.{Transfer}
use Rattle.genie_inputs.specs.declared.call.Call.{Call}

-- the event, with the address of the buffer where the application has it
abbrev pub input_event : Call → Option ℕ → Event
input_event c addr = event.Input c.pid c.sem c.dev c.port c.flow addr c.len

-- the transfer, which waits for its datagram
abbrev pub transfer_of : Call → TransferId → ℕ → Option RegionId → ℕ → Loans → Transfer
transfer_of c id addr region offset loans = record {
  id = id;
  owner = Some c.pid;
  sem = c.sem;
  dir = Inward;
  dev = c.dev;
  port = c.port;
  flow = c.flow;
  addr = addr;
  region = region;
  offset = offset;
  len = c.len;
  phase = Posted;
  loans = loans;
  buffer = None;
  stored = 0;
  note = Whole;
}
