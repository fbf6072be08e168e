-- What a host is seen as, and what its calls do to that.
use Rattle.std.specs.Prelude.{◌≡◌, ◌≢◌, ℕ, ◌+◌, ◌-◌, ◌^◌, ◌≤◌, min, List, [], ◌∷◌, ◌++◌, Option, None, Some, Result, OnOk, OnErr, IfOk, IsErrOf}
use Rattle.std.specs.Io.KnownBytes.{Keeps, ReadConsumes, WriteAppends}
use Rattle.genie_base.specs.Causes.{Rose, HasCause}
use Rattle.genie_base.specs.declared.semantics.Direction.{Direction}

-- a handle that was opened, or not
pub data Mode : Type 0 where
  Closed : Mode
  Reading : Mode
  Writing : Mode

-- one handle: whether and how it is open, the bytes that are left of a reading one or were written to a writing one
-- where they are told, and its count of faults
pub record HandleState : Type 0 where
  pub mode : Mode
  pub bytes : Option (List ℕ)
  pub faults : ℕ

-- a host
pub record HostView : Type 0 where
  -- the bytes of each readable name, where they are told
  pub names : List ℕ → Option (List ℕ)
  pub handle : ℕ → HandleState
  -- how many handles were opened
  pub opened : ℕ
  -- the openings tried so far, the oldest first
  pub tried : List (List ℕ × Direction)
  -- the count of faults of the openings
  pub refusals : ℕ

-- every other handle is as before
abbrev pub OthersKept : ℕ → (ℕ → HandleState) → (ℕ → HandleState) → Type 0
OthersKept handle old new = (k : ℕ) → k ≢ handle → new k ≡ old k

-- nothing but this handle changed
pub record OnlyHandle (handle : ℕ) (old new : HostView) : Type 0 where
  pub names : new.names ≡ old.names
  pub others : OthersKept handle old.handle new.handle
  pub mode : (new.handle handle).mode ≡ (old.handle handle).mode
  pub opened : new.opened ≡ old.opened
  pub tried : new.tried ≡ old.tried
  pub refusals : new.refusals ≡ old.refusals

-- a read from a handle into a buffer
pub record Reads {E : Type 0} (handle : ℕ) (old new : HostView) (result : Result ℕ E) (into : List ℕ) : Type 0 where
  pub only : OnlyHandle handle old new
  pub bytes : ReadConsumes (old.handle handle).bytes (new.handle handle).bytes result into
  pub cause : HasCause (old.handle handle).faults (new.handle handle).faults result

-- a write of a front of a buffer to a handle
pub record Writes {E : Type 0} (handle : ℕ) (old new : HostView) (result : Result ℕ E) (from : List ℕ) : Type 0 where
  pub only : OnlyHandle handle old new
  pub bytes : WriteAppends (old.handle handle).bytes (new.handle handle).bytes result from
  pub cause : HasCause (old.handle handle).faults (new.handle handle).faults result

-- an opening of a name that has its own handle as its number
pub record Opens {E : Type 0} (name : List ℕ) (direction : Direction) (mode : Mode) (content : Option (List ℕ)) (failed : E) (old new : HostView) (result : Result ℕ E) : Type 0 where
  pub tried : new.tried ≡ old.tried ++ (name, direction) ∷ []
  pub names : new.names ≡ old.names
  pub number : IfOk result (λ handle. handle ≡ old.opened + 1)
  pub opened : OnOk result (new.opened ≡ old.opened + 1)
  pub mode_new : OnOk result ((new.handle (old.opened + 1)).mode ≡ mode)
  pub told : OnOk result (Keeps content (new.handle (old.opened + 1)).bytes)
  pub fault_count : (new.handle (old.opened + 1)).faults ≡ (old.handle (old.opened + 1)).faults
  pub others : OthersKept (old.opened + 1) old.handle new.handle
  pub refused : OnErr result ((new.opened ≡ old.opened) × (new.handle (old.opened + 1) ≡ old.handle (old.opened + 1)))
  pub later : old.refusals ≤ new.refusals
  pub kept : OnOk result (new.refusals ≡ old.refusals)
  pub cause : IsErrOf result failed → Rose old.refusals new.refusals

-- the told bytes of a fresh writing handle: none were written, told where handle 0's are
abbrev pub empty_told : Option (List ℕ) → Option (List ℕ)
empty_told None = None
empty_told (Some _) = Some []
