-- Writing a whole text to a handle.
use Rattle.std.specs.Prelude.{◌≡◌, ℕ, List, [], ◌∷◌, ◌++◌, Option, Result, OnOk, OnErr}
use Rattle.std.specs.Io.KnownBytes.{Appends}
use Rattle.genie_host.specs.Host.{HostView, OnlyHandle}
use Rattle.genie_base.specs.Causes.{HasCause}

-- a front of the bytes was appended
abbrev pub AppendsFront : Option (List ℕ) → Option (List ℕ) → List ℕ → Type 0
AppendsFront old new bytes = (front : List ℕ) × (rest : List ℕ) × (bytes ≡ front ++ rest) × Appends old new front

-- these bytes are the texts, one after the other, but for the end of the last one at most
abbrev pub EndsInLast : List ℕ → List (List ℕ) → Type 0
EndsInLast bytes [] = bytes ≡ []
EndsInLast bytes (text ∷ []) = (rest : List ℕ) × (text ≡ bytes ++ rest)
EndsInLast bytes (text ∷ texts) = (more : List ℕ) × (bytes ≡ text ++ more) × EndsInLast more texts

-- the texts were appended, one after the other: all but the last whole, and of the last a front
abbrev pub AppendsUpToLast : Option (List ℕ) → Option (List ℕ) → List (List ℕ) → Type 0
AppendsUpToLast old new texts = (bytes : List ℕ) × EndsInLast bytes texts × Appends old new bytes

pub record WritesAll {E : Type 0} (handle : ℕ) (old new : HostView) (result : Result (Unit {0}) E) (bytes : List ℕ) : Type 0 where
  pub only : OnlyHandle handle old new
  pub whole : OnOk result (Appends (old.handle handle).bytes (new.handle handle).bytes bytes)
  pub front : OnErr result (AppendsFront (old.handle handle).bytes (new.handle handle).bytes bytes)
  pub cause : HasCause (old.handle handle).faults (new.handle handle).faults result
