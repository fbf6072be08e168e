-- What a host that gathers its replies is seen as, and what its calls do to that.
use Rattle.std.specs.Prelude.{◌≡◌, ℕ, ◌^◌, ◌==◌, ◌<◌, ◌≤◌, min, true, false, ◌||◌, List, [], length, None, Result, Ok, OnOk, OnErr, IsErr, is_err, if◌then◌else◌}
use Rattle.genie_host.specs.Host.{Writing, HandleState, HostView, Reads}
use Rattle.genie_console.specs.declared.console.Console.{Console}
use Rattle.genie_console.specs.Replies.{RepliesView, room, gathered, answered, Flushes}

-- the host inside, and the replies that wait before it
pub record ConsoleView : Type 0 where
  pub inner : HostView
  pub replies : RepliesView

abbrev pub seen : HostView → RepliesView → ConsoleView
seen inner replies = record { inner = inner; replies = replies }

-- what a console is seen as, by the view of the host inside
abbrev pub console_of : {H : Type 0} → (H → HostView) → Console H → ConsoleView
console_of view console = seen (view console.inner) console.replies

-- The reply output, with a count of faults of its own. It tells no bytes: the clauses of each call say which bytes
-- wait, and which went to the host inside.
abbrev pub reply_output : RepliesView → HandleState
reply_output replies = record { mode = Writing; bytes = None; faults = replies.faults }

abbrev pub handle_of : ConsoleView → ℕ → HandleState
handle_of c k = if k == 0 then reply_output c.replies else c.inner.handle k

-- a console as a host: but for the reply output it is the host inside
abbrev pub host_of : ConsoleView → HostView
host_of c = record {
  names = c.inner.names;
  handle = handle_of c;
  opened = c.inner.opened;
  tried = c.inner.tried;
  refusals = c.inner.refusals;
}

-- What waits is flushed, and a failure of that is remembered.
pub record FlushesFirst {E : Type 0} (old new : ConsoleView) (flushed : Result (Unit {0}) E) : Type 0 where
  pub flushes : Flushes old.inner new.inner old.replies.waiting new.replies.waiting flushed
  pub remembers : new.replies.has_failed ≡ (old.replies.has_failed || is_err flushed)
  pub faults : new.replies.faults ≡ old.replies.faults

-- a read: what waits is flushed first, and then the host inside reads
pub record FlushesAndReads {E : Type 0} (handle : ℕ) (old new : ConsoleView) (result : Result ℕ E) (into : List ℕ) : Type 0 where
  pub middle : HostView
  pub flushed : Result (Unit {0}) E
  pub first : FlushesFirst old (seen middle new.replies) flushed
  pub reads : Reads handle middle new.inner result into

-- a write answers a failure that was remembered, and does nothing else
pub record AnswersFailure {E : Type 0} (old new : ConsoleView) (result : Result ℕ E) : Type 0 where
  pub failed : IsErr result
  pub counted : new ≡ record old { replies = answered old.replies }
  pub later : old.replies.faults ≤ new.replies.faults

-- a write appends to what waits, as far as there is room
pub record Gathers {E : Type 0} (old new : ConsoleView) (result : Result ℕ E) (from : List ℕ) : Type 0 where
  pub taken : result ≡ Ok (min (length from) (room old.replies))
  pub appended : new ≡ record old { replies = gathered old.replies (min (length from) (room old.replies)) from }

-- A write where there is no room flushes first. If all went it gathers, and else it fails with nothing taken.
pub record FlushesAndGathers {E : Type 0} (old new : ConsoleView) (result : Result ℕ E) (from : List ℕ) : Type 0 where
  pub rest : List ℕ
  pub flushed : Result (Unit {0}) E
  pub flushes : Flushes old.inner new.inner old.replies.waiting rest flushed
  pub gathers : OnOk flushed (Gathers (seen new.inner (record old.replies { waiting = [] })) new result from)
  pub failed : OnErr flushed (AnswersFailure (seen new.inner (record old.replies { waiting = rest })) new result)

-- a write of replies
pub data WritesReply {E : Type 0} (old new : ConsoleView) (result : Result ℕ E) (from : List ℕ) : Type 0 where
  Answered : old.replies.has_failed ≡ true → AnswersFailure old new result → WritesReply old new result from
  Gathered : old.replies.has_failed ≡ false → length old.replies.waiting < 2 ^ 16 → Gathers old new result from → WritesReply old new result from
  Flushed : old.replies.has_failed ≡ false → 2 ^ 16 ≤ length old.replies.waiting → FlushesAndGathers old new result from → WritesReply old new result from

-- The end: what waits is flushed. It fails where that fails, and where an earlier failure wasn't answered yet.
pub record Finishes {E : Type 0} (old new : ConsoleView) (result : Result (Unit {0}) E) : Type 0 where
  pub flushed : Result (Unit {0}) E
  pub flushes : Flushes old.inner new.inner old.replies.waiting new.replies.waiting flushed
  pub answer : is_err result ≡ (old.replies.has_failed || is_err flushed)
  pub shown : new.replies ≡ record old.replies { waiting = new.replies.waiting; has_failed = false }
