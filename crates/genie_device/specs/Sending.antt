-- What a step that sends does to the host.
use Rattle.std.specs.Prelude.{◌≡◌, ℕ, ◌<◌, Bool, true, false, List}
use Rattle.std.specs.Io.KnownBytes.{Appends}
use Rattle.genie_base.specs.Bytes.{part}
use Rattle.genie_base.specs.Causes.{Rose}
use Rattle.genie_host.specs.Host.{HostView, OnlyHandle}

-- it fails only where the count of faults rose, and before all bytes of its budget; else it sends all of them
abbrev pub EndsSend : Bool → (budget : ℕ) → (moved : ℕ) → (before : ℕ) → (now : ℕ) → Type 0
EndsSend true budget moved before now = Rose before now × (moved < budget)
EndsSend false budget moved before now = (now ≡ before) × (moved ≡ budget)

-- the next bytes of a record, from place `at` on, are appended to a handle
pub record AppendsPart (handle at budget : ℕ) (old new : HostView) (sent : List ℕ) (moved : ℕ) (faulted : Bool) : Type 0 where
  pub only : OnlyHandle handle old new
  pub bytes : Appends (old.handle handle).bytes (new.handle handle).bytes (part at moved sent)
  pub ends : EndsSend faulted budget moved (old.handle handle).faults (new.handle handle).faults

-- where the payload is sent from: where it is staged, from there
abbrev pub payload_of : (is_staged : Bool) → (staged : List ℕ) → (payload : List ℕ) → List ℕ
payload_of true staged payload = staged
payload_of false staged payload = payload
