-- A device's step for the first output that waits for it.
use Rattle.std.specs.Prelude.{◌≡◌, ℕ, ◌+◌, ◌<◌, ◌≤◌, ◌^◌, Bool, true, false, List, [], length, Option, None, Some, slice_set, if◌then◌else◌}
use Rattle.genie_base.specs.Records.{header_len}
use Rattle.genie_base.specs.declared.reply.Reply.{Reply}
use Rattle.genie_base.specs.declared.reply.Reply.TheVariants as reply
use Rattle.genie_device.specs.Device.{DeviceView, IsWriting, KeepsConfig, SendsRecord, StagesPayload, handle_of, is_outboard, stages}
use Rattle.genie_device.specs.declared.steps.SendStep.{SendStep}
use Rattle.genie_frame.specs.FrameTable.{FrameTable}
use Rattle.genie_host.specs.Host.{HostView, OnlyHandle}
use Rattle.genie_plan.specs.Plans.{CanSend, output_frames, range_bytes}
use Rattle.genie_wire.specs.declared.header.Header.{Header}
use Rattle.genie_model.specs.Tables.{entry}
use Rattle.genie_model.specs.declared.phase.Phase.TheVariants.{Ready}
use Rattle.genie_kernel.specs.declared.kernel.Kernel.{Kernel}
use Rattle.genie_kernel.specs.declared.transfer.Loans.{Loans}
use Rattle.genie_kernel.specs.declared.transfer.Loans.TheVariants.{Nothing, Outward, Inward}
use Rattle.genie_kernel.specs.declared.transfer.Transfer.{Transfer}
use Rattle.genie_kernel.specs.Calls.{has_number, first_waiting}
use Rattle.genie_changes.specs.Working.{Work, worked}

-- the bytes under the loans of an output, as its frames have them now
abbrev pub payload_under : FrameTable → Loans → List ℕ
payload_under t Nothing = []
payload_under t (Outward p) = range_bytes t (output_frames p.loans.items) p.first p.len
payload_under t (Inward p) = []

-- they may be sent, and are as many as the call has
abbrev pub IsLentOut : FrameTable → ℕ → Loans → Type 0
IsLentOut t len Nothing = ⊥
IsLentOut t len (Outward p) = CanSend t p.loans.items p.first p.len × (len ≡ length (range_bytes t (output_frames p.loans.items) p.first p.len))
IsLentOut t len (Inward p) = ⊥

-- the device may go on with the record of this output
pub record MaySend (frames : FrameTable) (v : DeviceView) (t : Transfer) : Type 0 where
  pub lent : IsLentOut frames t.len t.loans
  pub short : t.len < 2 ^ 31
  pub memory : is_outboard v.config.kind ≡ true → t.len ≤ v.limit
  pub unsent : v.sent < header_len t.flow + t.len
  pub unstaged : length v.staged ≤ t.len

abbrev pub MaySendAt : FrameTable → Option DeviceView → Transfer → Type 0
MaySendAt frames None t = ⊥
MaySendAt frames (Some v) t = MaySend frames v t

abbrev pub IsWritingAt : Option DeviceView → HostView → Type 0
IsWritingAt None host = ⊥
IsWritingAt (Some v) host = IsWriting v.config.output host

-- the header of its record
abbrev pub header_for : Transfer → Header
header_for t = record { port = t.port; flow = t.flow; len = t.len }

-- the device's step for an output with these payload bytes
pub record StepsFor (n : ℕ) (old new : HostView) (before after : DeviceView) (t : Transfer) (payload : List ℕ) (step : SendStep) : Type 0 where
  pub staged : step.staged ≡ stages before.config.kind before.staged t.len
  pub stages : step.staged ≡ true → StagesPayload n old new before after payload step
  pub sends : step.staged ≡ false → SendsRecord n old new before after (header_for t) payload step
  pub host : OnlyHandle (handle_of before.config.output) old new
  pub kept : KeepsConfig before after

-- the step of device d, for this output, over these frames
pub record StepsAt (d n : ℕ) (old new : HostView) (before after : List (Option DeviceView)) (frames : FrameTable) (t : Transfer) (step : SendStep) : Type 0 where
  pub device : DeviceView
  pub then_is : DeviceView
  pub there : entry before d ≡ Some device
  pub steps : StepsFor n old new device then_is t (payload_under frames t.loans) step
  pub others : after ≡ slice_set before d (Some then_is)

-- how it is answered
abbrev pub reply_of : SendStep → Reply
reply_of s = if s.faulted then reply.Fault s.moved else (if s.staged then reply.Staged s.moved else reply.Sent s.moved)

-- an output of which the last byte is sent
abbrev pub sent_whole : Transfer → Work
sent_whole t = record { phase = Ready; buffer = t.buffer; stored = t.stored; note = t.note }

-- the transfers after a step for output t
abbrev pub transfers_after : (whole : Bool) → Transfer → List Transfer → List Transfer
transfers_after true t ts = worked (has_number t.id.0) (sent_whole t) ts
transfers_after false t ts = ts

-- the device and the transfers are those after its step for output t, and nothing else has changed
pub record SendsNext (d n : ℕ) (host_old host_new : HostView) (old new : Kernel) (reply : Reply) : Type 0 where
  pub output : Transfer
  pub step : SendStep
  pub devices : List (Option DeviceView)
  pub waits : first_waiting old.transfers d ≡ Some output
  pub steps : StepsAt d n host_old host_new old.devices devices old.memory.frames output step
  pub kernel : new ≡ record old { devices = devices; transfers = transfers_after step.whole output old.transfers }
  pub reply_is : reply ≡ reply_of step
