-- The files of the devices: how they are opened, and which handle each output has.
use Rattle.std.specs.Prelude.{◌≡◌, ℕ, ◌+◌, ◌<◌, ◌≤◌, List, [], ◌∷◌, ◌++◌, flat_map, length, Option, None, Some, Result, OnOk, OnErr, IsErrOf, ⊤}
use Rattle.std.specs.Io.KnownBytes.{Appends, Keeps}
use Rattle.genie_base.specs.Causes.{Rose}
use Rattle.genie_base.specs.declared.semantics.Direction.{Direction}
use Rattle.genie_base.specs.declared.semantics.Direction.TheVariants.{Inward, Outward}
use Rattle.genie_host.specs.Host.{HostView, HandleState, Reading, Writing, empty_told}
use Rattle.genie_model.specs.Sending.{sent_of}
use Rattle.genie_model.specs.State.{State}
use Rattle.genie_script.specs.declared.line.DeviceLine.{DeviceLine}
use Rattle.genie_replay.specs.Write.{AppendsFront, WritesAll}

-- the opening of a file, where there is one
abbrev pub file_opening : Direction → Option (List ℕ) → List (List ℕ × Direction)
file_opening direction None = []
file_opening direction (Some name) = (name, direction) ∷ []

-- the openings of a device line's files: the input before the output
abbrev pub openings_of : DeviceLine → List (List ℕ × Direction)
openings_of d = file_opening Inward d.input ++ file_opening Outward d.output

-- P holds of the device's number and the handle, where there is an output
abbrev pub HoldsOfFile : (ℕ → ℕ → Type 0) → Option (List ℕ) → ℕ → ℕ → Type 0
HoldsOfFile P None number handle = ⊤
HoldsOfFile P (Some name) number handle = P number handle

-- P holds of each output of these lines, of the device's number and the output's handle, where so many files were
-- opened before them. Handles are counted from 1, and the output of a line is the last file that it opens.
abbrev pub HoldsOfOutputs : (ℕ → ℕ → Type 0) → ℕ → List DeviceLine → Type 0
HoldsOfOutputs P opened [] = ⊤
HoldsOfOutputs P opened (d ∷ devices) = HoldsOfFile P d.output d.number (opened + length (openings_of d)) × HoldsOfOutputs P (opened + length (openings_of d)) devices

-- P holds of the name and the handle, where there is an input
abbrev pub HoldsOfInput : (List ℕ → ℕ → Type 0) → Option (List ℕ) → ℕ → Type 0
HoldsOfInput P None handle = ⊤
HoldsOfInput P (Some name) handle = P name handle

-- the same for the inputs: that of a line is the first file that it opens
abbrev pub HoldsOfInputs : (List ℕ → ℕ → Type 0) → ℕ → List DeviceLine → Type 0
HoldsOfInputs P opened [] = ⊤
HoldsOfInputs P opened (d ∷ devices) = HoldsOfInput P d.input (opened + 1) × HoldsOfInputs P (opened + length (openings_of d)) devices

-- the handles up to this one are as before
abbrev pub KeptUpTo : ℕ → HostView → HostView → Type 0
KeptUpTo most old new = (k : ℕ) → k ≤ most → new.handle k ≡ old.handle k

-- the handles behind this one are as before
abbrev pub KeptBehind : ℕ → HostView → HostView → Type 0
KeptBehind last old new = (k : ℕ) → last < k → new.handle k ≡ old.handle k

-- every count of faults is as before
pub record SameFaults (old new : HostView) : Type 0 where
  pub handles : (k : ℕ) → (new.handle k).faults ≡ (old.handle k).faults
  pub refusals : new.refusals ≡ old.refusals

-- the first ones of these openings were tried, and all of them but the last one at most were opened
pub record TriesFront (openings : List (List ℕ × Direction)) (old new : HostView) : Type 0 where
  pub front : List (List ℕ × Direction)
  pub rest : List (List ℕ × Direction)
  pub split : openings ≡ front ++ rest
  pub tried : new.tried ≡ old.tried ++ front
  pub opened : new.opened ≤ old.opened + length front
  pub refused : old.opened + length front ≤ new.opened + 1

-- these were opened, and nothing failed
pub record OpensAll (openings : List (List ℕ × Direction)) (old new : HostView) : Type 0 where
  pub tried : new.tried ≡ old.tried ++ openings
  pub opened : new.opened ≡ old.opened + length openings
  pub names : new.names ≡ old.names
  pub faults : SameFaults old new

-- a fresh writing handle: nothing was written, told where the replies are
pub record IsFreshOutput (replies : Option (List ℕ)) (handle : HandleState) : Type 0 where
  pub mode : handle.mode ≡ Writing
  pub empty : Keeps (empty_told replies) handle.bytes

abbrev pub IsFresh : HostView → HostView → ℕ → ℕ → Type 0
IsFresh old new number handle = IsFreshOutput (old.handle 0).bytes (new.handle handle)

-- a fresh reading handle: all bytes of the file are left, told where they are
pub record IsFreshInput (content : Option (List ℕ)) (handle : HandleState) : Type 0 where
  pub mode : handle.mode ≡ Reading
  pub whole : Keeps content handle.bytes

abbrev pub IsFreshFor : HostView → HostView → List ℕ → ℕ → Type 0
IsFreshFor old new name handle = IsFreshInput (old.names name) (new.handle handle)

abbrev pub IsReading : HostView → List ℕ → ℕ → Type 0
IsReading host name handle = (host.handle handle).mode ≡ Reading

abbrev pub IsSameHandle : HostView → HostView → ℕ → ℕ → Type 0
IsSameHandle old new number handle = new.handle handle ≡ old.handle handle

-- nothing was written to an output: it is fresh where it was opened, and else as before
pub record IsUnwritten (old new : HostView) (number handle : ℕ) : Type 0 where
  pub fresh : handle ≤ new.opened → IsFresh old new number handle
  pub closed : new.opened < handle → IsSameHandle old new number handle

-- Opening files: the handles up to the last one that was open stay as they are, and so do those behind the last one
-- that is open now. After a failure, which has its cause, fewer were opened than these.
pub record Opening {E T : Type 0} (failed : E) (openings : List (List ℕ × Direction)) (old new : HostView) (result : Result T E) : Type 0 where
  pub kept : KeptUpTo old.opened old new
  pub later : old.opened ≤ new.opened
  pub behind : KeptBehind new.opened old new
  pub tried : TriesFront openings old new
  pub few : OnErr result (new.opened < old.opened + length openings)
  pub cause : IsErrOf result failed → Rose old.refusals new.refusals

-- nothing was opened, and the replies and the outputs are as before
pub record OnlyReads (devices : List DeviceLine) (old new : HostView) : Type 0 where
  pub replies : new.handle 0 ≡ old.handle 0
  pub outputs : HoldsOfOutputs (IsSameHandle old new) 1 devices
  pub tried : new.tried ≡ old.tried
  pub opened : new.opened ≡ old.opened

-- what the devices sent was written, whole, to their outputs
abbrev pub HasSent : State → HostView → HostView → ℕ → ℕ → Type 0
HasSent s old new number handle = Appends (old.handle handle).bytes (new.handle handle).bytes (sent_of s number)

-- or a front of it
abbrev pub HasSentFront : State → HostView → HostView → ℕ → ℕ → Type 0
HasSentFront s old new number handle = AppendsFront (old.handle handle).bytes (new.handle handle).bytes (sent_of s number)

-- the count of faults of a handle up to this one rose
abbrev pub HandleRose : ℕ → HostView → HostView → Type 0
HandleRose most old new = (k : ℕ) × (k ≤ most) × Rose (old.handle k).faults (new.handle k).faults

-- the last handle of these lines' files, where so many files were opened before
abbrev pub last_handle : ℕ → List DeviceLine → ℕ
last_handle opened devices = opened + length (flat_map openings_of devices)

abbrev pub IsWriting : HostView → ℕ → ℕ → Type 0
IsWriting host number handle = (host.handle handle).mode ≡ Writing

-- one output, where there is one
abbrev pub WritesFile : {E : Type 0} → Option (List ℕ) → State → ℕ → ℕ → HostView → HostView → Result (Unit {0}) E → Type 0
WritesFile None s number handle old new result = (new ≡ old) × OnErr result ⊥
WritesFile (Some name) s number handle old new result = WritesAll handle old new result (sent_of s number)

-- writing what the devices sent to their outputs, where so many files were opened before
pub record WritesFiles {E : Type 0} (s : State) (opened : ℕ) (devices : List DeviceLine) (old new : HostView) (result : Result (Unit {0}) E) : Type 0 where
  pub kept : KeptUpTo opened old new
  pub tried : new.tried ≡ old.tried
  pub none_opened : new.opened ≡ old.opened
  pub whole : OnOk result (HoldsOfOutputs (HasSent s old new) opened devices)
  pub front : OnErr result (HoldsOfOutputs (HasSentFront s old new) opened devices)
  pub cause : OnErr result (HandleRose (last_handle opened devices) old new)
  pub faults : OnOk result (SameFaults old new)
