-- What a step of a payload does to the host and to the landing.
use Rattle.std.specs.Prelude.{◌≡◌, ◌⊎◌, ℕ, ◌<◌, ◌≤◌, ◌==◌, if◌then◌else◌, List, length, Option, IfSome}
use Rattle.std.specs.Io.KnownBytes.{Consumes, IsAtEnd}
use Rattle.genie_base.specs.Bytes.{overlaid}
use Rattle.genie_base.specs.Causes.{Rose}
use Rattle.genie_base.specs.Headers.{payload_taken}
use Rattle.genie_host.specs.Host.{HostView, OnlyHandle}
use Rattle.genie_device.specs.declared.steps.BodyEnd.{BodyEnd}
use Rattle.genie_device.specs.declared.steps.BodyEnd.TheVariants.{More, Whole, Truncated, Faulted}

-- how a step ends that moved so many of the payload's bytes left, with this rest of the input
abbrev pub EndsBody : BodyEnd → (left : ℕ) → (n : ℕ) → (moved : ℕ) → (rest : Option (List ℕ)) → Type 0
EndsBody More left n moved rest = (moved < left) × ((moved ≡ n) ⊎ ((0 < moved) × IsAtEnd rest))
EndsBody Whole left n moved rest = moved ≡ left
EndsBody Truncated left n moved rest = (moved ≡ 0) × (0 < n) × (0 < left) × IsAtEnd rest
EndsBody Faulted left n moved rest = (moved < n) × (moved < left)

-- it fails only where the count of faults rose
abbrev pub BodyCause : BodyEnd → (before : ℕ) → (now : ℕ) → Type 0
BodyCause More before now = now ≡ before
BodyCause Whole before now = now ≡ before
BodyCause Truncated before now = now ≡ before
BodyCause Faulted before now = Rose before now

-- where the input is told, it moves as many bytes as the budget, the payload and the rest allow; one that failed, as
-- many as a step whose budget was just those
abbrev pub TakesAll : BodyEnd → (left : ℕ) → (n : ℕ) → (moved : ℕ) → (rest : Option (List ℕ)) → Type 0
TakesAll More left n moved rest = IfSome rest (λ bytes. moved ≡ payload_taken n left bytes)
TakesAll Whole left n moved rest = IfSome rest (λ bytes. moved ≡ payload_taken n left bytes)
TakesAll Truncated left n moved rest = IfSome rest (λ bytes. moved ≡ payload_taken n left bytes)
TakesAll Faulted left n moved rest = IfSome rest (λ bytes. moved ≡ payload_taken moved left bytes)

-- payload bytes are taken from a handle, and none past the payload's last one
pub record TakesPayload (handle left n : ℕ) (old new : HostView) (taken : List ℕ) (moved : ℕ) (end : BodyEnd) : Type 0 where
  pub size : length taken ≡ moved
  pub within : moved ≤ n
  pub fits : moved ≤ left
  pub only : OnlyHandle handle old new
  pub bytes : Consumes (old.handle handle).bytes (new.handle handle).bytes taken
  pub ends : EndsBody end left n moved (new.handle handle).bytes
  pub cause : BodyCause end (old.handle handle).faults (new.handle handle).faults
  pub exact : TakesAll end left n moved (old.handle handle).bytes

-- and stand in the landing from place `at` on
pub record Lands (handle at left n : ℕ) (old new : HostView) (before after : List ℕ) (moved : ℕ) (end : BodyEnd) : Type 0 where
  pub taken : List ℕ
  pub takes : TakesPayload handle left n old new taken moved end
  pub landed : after ≡ overlaid at taken before

-- how a step ends where the input has ended
abbrev pub stopped_end : ℕ → BodyEnd
stopped_end moved = if moved == 0 then Truncated else More

-- how a step ends where the budget or the payload is used up
abbrev pub used_up_end : ℕ → ℕ → BodyEnd
used_up_end moved left = if moved == left then Whole else More
