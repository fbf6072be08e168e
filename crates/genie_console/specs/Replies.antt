-- The replies that a console gathers, and how they go to a host's reply output.
use Rattle.std.specs.Prelude.{◌≡◌, ℕ, ◌+◌, ◌-◌, ◌^◌, ◌<◌, ◌≤◌, min, Bool, false, List, [], ◌++◌, length, take, Result, OnOk}
use Rattle.std.specs.Io.KnownBytes.{Appends}
use Rattle.genie_base.specs.Causes.{Rose, HasCause}
use Rattle.genie_host.specs.Host.{HostView, OnlyHandle}

pub record RepliesView : Type 0 where
  -- the bytes that weren't flushed yet, the oldest first
  pub waiting : List ℕ
  -- a flush failed, and no write has answered that yet
  pub has_failed : Bool
  -- how many writes of replies failed
  pub faults : ℕ

-- nothing waits, and nothing failed
abbrev pub none_waiting : RepliesView
none_waiting = record { waiting = []; has_failed = false; faults = 0 }

-- how many bytes more can wait
abbrev pub room : RepliesView → ℕ
room replies = 2 ^ 16 - length replies.waiting

-- so many bytes wait behind the others
abbrev pub gathered : RepliesView → ℕ → List ℕ → RepliesView
gathered replies n from = record replies { waiting = replies.waiting ++ take n from }

-- a failure was answered
abbrev pub answered : RepliesView → RepliesView
answered replies = record replies { has_failed = false; faults = min (replies.faults + 1) (2 ^ 64 - 1) }

-- A front of the bytes went to the reply output, in their order: all of them, or a write of it failed.
pub record WritesFront (old new : HostView) (bytes : List ℕ) (count : ℕ) : Type 0 where
  pub only : OnlyHandle 0 old new
  pub told : Appends (old.handle 0).bytes (new.handle 0).bytes (take count bytes)
  pub later : (old.handle 0).faults ≤ (new.handle 0).faults
  pub cause : count < length bytes → Rose (old.handle 0).faults (new.handle 0).faults
  pub kept : count ≡ length bytes → (new.handle 0).faults ≡ (old.handle 0).faults

-- The bytes go to the reply output, in their order, until a write of it fails; `rest` is what didn't go. All of them
-- go unless one fails.
pub record Flushes {E : Type 0} (old new : HostView) (bytes rest : List ℕ) (result : Result (Unit {0}) E) : Type 0 where
  pub only : OnlyHandle 0 old new
  pub gone : List ℕ
  pub order : bytes ≡ gone ++ rest
  pub told : Appends (old.handle 0).bytes (new.handle 0).bytes gone
  pub whole : OnOk result (rest ≡ [])
  pub cause : HasCause (old.handle 0).faults (new.handle 0).faults result
