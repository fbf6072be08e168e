-- The inputs of the devices: files that are read whole before the first event.
use Rattle.std.specs.Prelude.{◌≡◌, ◌≢◌, ℕ, ◌+◌, ◌==◌, List, [], ◌∷◌, length, Option, None, Some, Result, Ok, Err, OnOk, OnErr, IfSome, ⊤, if◌then◌else◌}
use Rattle.genie_base.specs.Causes.{Rose}
use Rattle.genie_base.specs.Configs.{Config}
use Rattle.genie_host.specs.Host.{HostView, OnlyHandle}
use Rattle.genie_model.specs.Receiving.{with_input}
use Rattle.genie_model.specs.State.{State, boot}
use Rattle.genie_script.specs.declared.line.DeviceLine.{DeviceLine}
use Rattle.genie_replay.specs.declared.inputs.Unread.{Unread}
use Rattle.genie_replay.specs.declared.inputs.Unread.TheVariants.{Host, Memory}
use Rattle.genie_replay.specs.Files.{HandleRose, HoldsOfOutputs, IsSameHandle, KeptUpTo, SameFaults, last_handle, openings_of}

-- told bytes, where they are told
abbrev pub Tells : Option (List ℕ) → List ℕ → Type 0
Tells None bytes = ⊤
Tells (Some told) bytes = bytes ≡ told

-- a failed read has its cause, and else this handle's count stays
abbrev pub CountsFor : {T : Type 0} → ℕ → HostView → HostView → Result T Unread → Type 0
CountsFor handle old new (Ok x) = (new.handle handle).faults ≡ (old.handle handle).faults
CountsFor handle old new (Err Memory) = (new.handle handle).faults ≡ (old.handle handle).faults
CountsFor handle old new (Err Host) = Rose (old.handle handle).faults (new.handle handle).faults

-- the same of all counts: the one that rose is that of a handle up to this one
abbrev pub Counts : ℕ → HostView → HostView → Result (Unit {0}) Unread → Type 0
Counts most old new (Ok x) = SameFaults old new
Counts most old new (Err Memory) = SameFaults old new
Counts most old new (Err Host) = HandleRose most old new

-- the state with the bytes of a file as a device's input
pub record WithFile (number : ℕ) (told : Option (List ℕ)) (s : State) (machine : Option State) : Type 0 where
  pub bytes : List ℕ
  pub tells : Tells told bytes
  pub is : machine ≡ Some (with_input s number bytes)

abbrev pub ReadsInput : Option (List ℕ) → ℕ → ℕ → Option State → Option State → HostView → HostView → Result (Unit {0}) Unread → Type 0
ReadsInput None number handle machine after old new result = (new ≡ old) × (after ≡ machine) × OnErr result ⊥
ReadsInput (Some name) number handle machine after old new result = OnlyHandle handle old new × CountsFor handle old new result × OnOk result (IfSome machine (λ s. WithFile number (old.handle handle).bytes s after))

-- the input of one device: without one, nothing changes
abbrev pub SetsInput : Option (List ℕ) → ℕ → Option (List ℕ) → State → State → Type 0
SetsInput None number told s t = t ≡ s
SetsInput (Some name) number told s t = WithFile number told s (Some t)

-- one line after the other, where so many files were opened before: a line's input is the first file that it opens
abbrev pub SetsInputs : HostView → ℕ → List DeviceLine → State → State → Type 0
SetsInputs host opened [] s t = t ≡ s
SetsInputs host opened (d ∷ devices) s t = (m : State) × SetsInput d.input d.number (host.handle (opened + 1)).bytes s m × SetsInputs host (opened + length (openings_of d)) devices m t

-- the machine with all inputs
pub record HasInputs (old : HostView) (opened : ℕ) (devices : List DeviceLine) (s : State) (machine : Option State) : Type 0 where
  pub now : State
  pub is : machine ≡ Some now
  pub sets : SetsInputs old opened devices s now

-- reading the inputs: the outputs and the handles before stay as they are, and nothing is opened
pub record ReadsInputs (opened : ℕ) (devices : List DeviceLine) (machine after : Option State) (old new : HostView) (result : Result (Unit {0}) Unread) : Type 0 where
  pub kept : KeptUpTo opened old new
  pub outputs : HoldsOfOutputs (IsSameHandle old new) opened devices
  pub tried : new.tried ≡ old.tried
  pub none_opened : new.opened ≡ old.opened
  pub counts : Counts (last_handle opened devices) old new result
  pub has : OnOk result (IfSome machine (λ s. HasInputs old opened devices s after))

-- the bytes of the named file
abbrev pub told_by : Option (List ℕ) → List ℕ
told_by None = []
told_by (Some bytes) = bytes

-- the inputs, with that of one more device
abbrev pub with_file : (List ℕ → Option (List ℕ)) → (ℕ → List ℕ) → ℕ → Option (List ℕ) → ℕ → List ℕ
with_file names inputs number None k = inputs k
with_file names inputs number (Some name) k = if k == number then told_by (names name) else inputs k

-- the inputs of all devices, by the bytes of the files that their lines name
abbrev pub inputs_from : (List ℕ → Option (List ℕ)) → (ℕ → List ℕ) → List DeviceLine → ℕ → List ℕ
inputs_from names inputs [] = inputs
inputs_from names inputs (d ∷ devices) = inputs_from names (with_file names inputs d.number d.input) devices

abbrev pub IsTold : (List ℕ → Option (List ℕ)) → Option (List ℕ) → Type 0
IsTold names None = ⊤
IsTold names (Some name) = names name ≢ None

-- the host tells the bytes of each input
abbrev pub AreTold : (List ℕ → Option (List ℕ)) → List DeviceLine → Type 0
AreTold names [] = ⊤
AreTold names (d ∷ devices) = IsTold names d.input × AreTold names devices

-- two hosts tell the same of an input
abbrev pub IsToldAlike : (List ℕ → Option (List ℕ)) → (List ℕ → Option (List ℕ)) → Option (List ℕ) → Type 0
IsToldAlike names others None = ⊤
IsToldAlike names others (Some name) = others name ≡ names name

-- and so of each device's input
abbrev pub AreToldAlike : (List ℕ → Option (List ℕ)) → (List ℕ → Option (List ℕ)) → List DeviceLine → Type 0
AreToldAlike names others [] = ⊤
AreToldAlike names others (d ∷ devices) = IsToldAlike names others d.input × AreToldAlike names others devices

-- How a run begins: always with a boot of the configuration, with some inputs. Where the host tells the bytes of each
-- device's input, the inputs are these.
pub record IsBoot (names : List ℕ → Option (List ℕ)) (c : Config) (devices : List DeviceLine) (start : State) : Type 0 where
  pub inputs : ℕ → List ℕ
  pub boots : start ≡ boot c inputs
  pub told : AreTold names devices → start ≡ boot c (inputs_from names (λ _. []) devices)
