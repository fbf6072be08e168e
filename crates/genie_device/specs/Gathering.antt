-- What a step of a header does to the host and to the header bytes gathered.
use Rattle.std.specs.Prelude.{◌≡◌, ◌⊎◌, ℕ, ◌<◌, ◌≤◌, List, ◌++◌, length, false, Option, IfSome, if◌then◌else◌}
use Rattle.std.specs.Io.KnownBytes.{Consumes, IsAtEnd}
use Rattle.genie_base.specs.Causes.{Rose}
use Rattle.genie_base.specs.Headers.{size_of_header, is_whole_header, is_valid_header, header_taken}
use Rattle.genie_host.specs.Host.{HostView, OnlyHandle}
use Rattle.genie_wire.specs.Headers.{IsWhole, header_in}
use Rattle.genie_device.specs.declared.steps.HeaderEnd.{HeaderEnd}
use Rattle.genie_device.specs.declared.steps.HeaderEnd.TheVariants.{More, Whole, Bad, Faulted}

-- how a step ends with whose last byte a header is whole
abbrev pub judged : ℕ → List ℕ → HeaderEnd
judged limit bytes = if is_valid_header limit bytes then Whole (header_in bytes) else Bad

-- how a step ends that moved so many of n bytes, with these bytes of the header gathered and this rest of the input
abbrev pub EndsHeader : HeaderEnd → (limit : ℕ) → (n : ℕ) → (moved : ℕ) → (gathered : List ℕ) → (rest : Option (List ℕ)) → Type 0
EndsHeader More limit n moved gathered rest = (is_whole_header gathered ≡ false) × ((moved ≡ n) ⊎ IsAtEnd rest)
EndsHeader (Whole header) limit n moved gathered rest = IsWhole gathered × (Whole header ≡ judged limit gathered)
EndsHeader Bad limit n moved gathered rest = IsWhole gathered × (Bad ≡ judged limit gathered)
EndsHeader Faulted limit n moved gathered rest = (is_whole_header gathered ≡ false) × (moved < n)

-- it fails only where the count of faults rose
abbrev pub HeaderCause : HeaderEnd → (before : ℕ) → (now : ℕ) → Type 0
HeaderCause More before now = now ≡ before
HeaderCause (Whole header) before now = now ≡ before
HeaderCause Bad before now = now ≡ before
HeaderCause Faulted before now = Rose before now

-- where the input is told, it moves as many bytes as the budget, the rest and the header allow; one that failed, as many
-- as a step whose budget was just those
abbrev pub TakesAll : HeaderEnd → (n : ℕ) → (moved : ℕ) → (gathered : List ℕ) → (rest : Option (List ℕ)) → Type 0
TakesAll More n moved gathered rest = IfSome rest (λ bytes. moved ≡ header_taken n gathered bytes)
TakesAll (Whole header) n moved gathered rest = IfSome rest (λ bytes. moved ≡ header_taken n gathered bytes)
TakesAll Bad n moved gathered rest = IfSome rest (λ bytes. moved ≡ header_taken n gathered bytes)
TakesAll Faulted n moved gathered rest = IfSome rest (λ bytes. moved ≡ header_taken moved gathered bytes)

-- header bytes are taken from a handle, and none past the header's last one
pub record TakesHeader (handle limit n : ℕ) (old new : HostView) (gathered taken : List ℕ) (moved : ℕ) (end : HeaderEnd) : Type 0 where
  pub size : length taken ≡ moved
  pub within : moved ≤ n
  pub fits : length (gathered ++ taken) ≤ size_of_header (gathered ++ taken)
  pub only : OnlyHandle handle old new
  pub bytes : Consumes (old.handle handle).bytes (new.handle handle).bytes taken
  pub ends : EndsHeader end limit n moved (gathered ++ taken) (new.handle handle).bytes
  pub cause : HeaderCause end (old.handle handle).faults (new.handle handle).faults
  pub exact : TakesAll end n moved gathered (old.handle handle).bytes

-- and are gathered behind those before
pub record Gathers (handle limit n : ℕ) (old new : HostView) (before after : List ℕ) (moved : ℕ) (end : HeaderEnd) : Type 0 where
  pub taken : List ℕ
  pub takes : TakesHeader handle limit n old new before taken moved end
  pub held : after ≡ before ++ taken
