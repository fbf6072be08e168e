-- Worked rows, which the definitions compute.
use Rattle.std.specs.Prelude.{ℕ, Bool, true, false, List, [], ◌∷◌, ◌++◌, replicate, Option, None, Some}
use Rattle.genie_base.specs.Transfers.{class_of, is_system}
use Rattle.genie_base.specs.declared.config.Kind.{Kind}
use Rattle.genie_base.specs.declared.config.Kind.TheVariants.{Early, Pooled, Outboard}
use Rattle.genie_base.specs.declared.event.Event.TheVariants.{Fork, Exit, Map, Alloc, Unmap, Protect, Read, Write, Output, Input, Send, Recv, Finish, Cancel}
use Rattle.genie_base.specs.declared.refusal.Refusal.TheVariants.{Range, Region, Denied, State as InState, Frames}
use Rattle.genie_base.specs.declared.reply.Note.TheVariants.{Cut, Trunc}
use Rattle.genie_base.specs.declared.reply.Reply.TheVariants as reply
use Rattle.genie_base.specs.declared.semantics.Semantics.{Semantics}
use Rattle.genie_base.specs.declared.semantics.Semantics.TheVariants as semantics
use Rattle.genie_model.specs.State.{State}
use Rattle.genie_model.specs.Scripts.{Line, Runs, booted, mapped, rising, header, writes, reads, outputs, inputs, sends, receives, is_out, is_in}

abbrev pub start : Kind → List ℕ → State
start kind input = booted 32 64 kind 0 input

-- what is written after the call doesn't show
abbrev pub copy_output : List Line
copy_output = mapped
    ++ writes 0 0 (rising 0 16)
    ∷ writes 0 16 (rising 16 16)
    ∷ outputs semantics.EmulatedCopy 0 32 1
    ∷ writes 0 0 (replicate 16 255)
    ∷ writes 0 16 (replicate 16 255)
    ∷ sends 40
    ∷ is_out 1 32
    ∷ reads 0 0 4 (replicate 4 255)
    ∷ []

-- what is written before the bytes are sent shows
abbrev pub share_output : List Line
share_output = mapped
    ++ writes 0 0 (rising 0 16)
    ∷ writes 0 16 (rising 16 16)
    ∷ outputs semantics.EmulatedShare 0 32 1
    ∷ sends 24
    ∷ writes 0 0 (replicate 16 255)
    ∷ writes 0 16 (replicate 16 255)
    ∷ sends 16
    ∷ is_out 1 32
    ∷ []

-- the process ends before its output is sent
abbrev pub exit_before_sending : List Line
exit_before_sending = mapped
    ++ writes 0 0 (rising 1 4)
    ∷ outputs semantics.EmulatedCopy 0 4 1
    ∷ (Exit 0, reply.Okay)
    ∷ sends 12
    ∷ (Finish 1, reply.Gone)
    ∷ []

-- nothing of a copy input is seen before it is done, and then no byte outside its range has changed
abbrev pub copy_input : List Line
copy_input = mapped
    ++ writes 0 0 (replicate 16 238)
    ∷ writes 0 16 (replicate 16 238)
    ∷ writes 0 32 (replicate 16 238)
    ∷ inputs semantics.EmulatedCopy (Some 5) 40 1
    ∷ receives 48
    ∷ reads 0 0 8 (replicate 8 238)
    ∷ is_in 1 None 40
    ∷ reads 0 0 16 (replicate 5 238 ++ rising 1 11)
    ∷ reads 0 16 16 (rising 12 16)
    ∷ reads 0 32 16 (rising 28 13 ++ replicate 3 238)
    ∷ []

-- a child has what had landed when it was forked
abbrev pub share_input : List Line
share_input = mapped
    ++ inputs semantics.EmulatedShare (Some 0) 16 1
    ∷ receives 16
    ∷ (Fork 0 1, reply.Okay)
    ∷ receives 8
    ∷ is_in 1 None 16
    ∷ reads 0 0 16 (rising 1 16)
    ∷ reads 1 0 16 (rising 1 8 ++ replicate 8 0)
    ∷ []

-- a moved region is gone, and its place free again; an input's region has zeros after the data
abbrev pub move_both_ways : Semantics → List Line
move_both_ways sem = mapped
    ++ (Alloc 0 2, reply.At 8192)
    ∷ writes 0 8192 (rising 170 4)
    ∷ outputs sem 8192 32 1
    ∷ (Read 0 8192 1, reply.Err Range)
    ∷ sends 40
    ∷ is_out 1 32
    ∷ inputs sem None 32 2
    ∷ receives 11
    ∷ is_in 2 (Some 8192) 3
    ∷ reads 0 8192 16 (rising 1 3 ++ replicate 13 0)
    ∷ reads 0 8208 16 (replicate 16 0)
    ∷ []

-- so many frames may be wired and no more
abbrev pub wired_frames : List Line
wired_frames = mapped
    ++ (Map 0 4 16, reply.Okay)
    ∷ outputs semantics.Share 64 255 1
    ∷ outputs semantics.Share 64 192 2
    ∷ (Output 0 semantics.Copy 0 5 None 0 1, reply.Err Frames)
    ∷ sends 263
    ∷ is_out 1 255
    ∷ outputs semantics.Copy 0 1 3
    ∷ []

-- one datagram waits in the pool, and the second is taken when the first is done
abbrev pub pooled_input : List Line
pooled_input = mapped
    ++ inputs semantics.Copy (Some 0) 4 1
    ∷ inputs semantics.Copy (Some 8) 4 2
    ∷ receives 10
    ∷ (Recv 0 9, reply.Busy)
    ∷ is_in 1 None 2
    ∷ receives 9
    ∷ is_in 2 None 1
    ∷ reads 0 0 12 (rising 1 2 ++ replicate 6 0 ++ 3 ∷ replicate 3 0)
    ∷ []

-- an early device matches the header: what is posted later doesn't get the payload
abbrev pub dropped_early : List Line
dropped_early = mapped
    ++ (Recv 0 10, reply.Dropped 5 None 2)
    ∷ inputs semantics.Copy (Some 0) 2 1
    ∷ receives 2
    ∷ (Recv 0 1, reply.End)
    ∷ (Cancel 1, reply.Okay)
    ∷ (Finish 1, reply.Err InState)
    ∷ []

-- a pooled device matches the whole record
abbrev pub matched_late : List Line
matched_late = mapped ++ receives 9 ∷ inputs semantics.Copy (Some 0) 2 1 ∷ receives 1 ∷ is_in 1 None 2 ∷ reads 0 0 2 (rising 1 2) ∷ []

-- the stream ends inside a datagram
abbrev pub truncated : List Line
truncated = mapped
    ++ inputs semantics.Copy (Some 0) 8 1
    ∷ (Recv 0 12, reply.Got 10)
    ∷ (Recv 0 1, reply.Got 0)
    ∷ (Finish 1, reply.Input None 2 Trunc)
    ∷ (Recv 0 1, reply.End)
    ∷ []

-- a header of no format is bad for good, and so is one that tells too many bytes
abbrev pub bad_header : List Line
bad_header = (Recv 0 8, reply.Bad) ∷ (Recv 0 1, reply.Bad) ∷ []

-- a buffer that is too small, and one that is gone when its input is done
abbrev pub cut_and_lost : List Line
cut_and_lost = mapped
    ++ inputs semantics.Copy (Some 0) 2 1
    ∷ receives 12
    ∷ (Finish 1, reply.Input None 2 Cut)
    ∷ inputs semantics.Copy (Some 0) 4 2
    ∷ receives 12
    ∷ (Unmap 0 0, reply.Okay)
    ∷ (Finish 2, reply.Lost)
    ∷ (Finish 2, reply.Err InState)
    ∷ []

-- what lands after a region was unmapped still goes out, from the orphan
abbrev pub orphan : List Line
orphan = mapped
    ++ writes 0 0 (replicate 16 238)
    ∷ inputs semantics.Share (Some 0) 16 1
    ∷ (Output 0 semantics.Share 0 6 None 0 16, reply.Id 2)
    ∷ receives 16
    ∷ (Unmap 0 0, reply.Okay)
    ∷ receives 8
    ∷ sends 24
    ∷ is_out 2 16
    ∷ (Finish 1, reply.Lost)
    ∷ []

-- a region that was moved out is used again once no transfer names it
abbrev pub weak_moves : List Line
weak_moves = mapped
    ++ (Alloc 0 1, reply.At 8192)
    ∷ outputs semantics.WeakMove 8192 4 1
    ∷ reads 0 8192 1 (0 ∷ [])
    ∷ inputs semantics.WeakMove None 16 2
    ∷ sends 12
    ∷ is_out 1 4
    ∷ inputs semantics.WeakMove None 16 3
    ∷ receives 9
    ∷ receives 9
    ∷ is_in 2 (Some 8208) 1
    ∷ is_in 3 (Some 8192) 1
    ∷ reads 0 8192 1 (187 ∷ [])
    ∷ []

-- a weak move input that is cancelled queues its region again
abbrev pub cancelled_weak_move : List Line
cancelled_weak_move = mapped
    ++ inputs semantics.WeakMove None 16 1
    ∷ (Cancel 1, reply.Okay)
    ∷ writes 0 8192 (7 ∷ [])
    ∷ inputs semantics.WeakMove None 16 2
    ∷ reads 0 8192 1 (7 ∷ [])
    ∷ inputs semantics.Move None 16 3
    ∷ (Cancel 3, reply.Okay)
    ∷ (Alloc 0 1, reply.At 8208)
    ∷ []

-- the host fails after some bytes, and the next step goes on behind them
abbrev pub failing_host : List Line
failing_host = mapped
    ++ writes 0 0 (rising 170 4)
    ∷ outputs semantics.Copy 0 4 1
    ∷ (Send 0 12, reply.Fault 3)
    ∷ sends 9
    ∷ is_out 1 4
    ∷ inputs semantics.EmulatedShare (Some 0) 4 2
    ∷ (Recv 0 12, reply.Fault 10)
    ∷ reads 0 0 4 (1 ∷ 2 ∷ 172 ∷ 173 ∷ [])
    ∷ receives 2
    ∷ is_in 2 None 4
    ∷ reads 0 0 4 (rising 1 4)
    ∷ []

-- a weak output's bytes are those of the step that stages them
abbrev pub staged_output : List Line
staged_output = mapped
    ++ writes 0 0 (rising 170 4)
    ∷ outputs semantics.EmulatedShare 0 4 1
    ∷ (Send 0 2, reply.Staged 2)
    ∷ writes 0 0 (rising 17 4)
    ∷ (Send 0 9, reply.Staged 2)
    ∷ sends 5
    ∷ (Send 0 99, reply.Sent 7)
    ∷ is_out 1 4
    ∷ []

-- a region that is read-only takes no write and no input
abbrev pub read_only : List Line
read_only = mapped
    ++ writes 0 0 (170 ∷ [])
    ∷ inputs semantics.Copy (Some 0) 4 1
    ∷ receives 12
    ∷ (Protect 0 0 false, reply.Okay)
    ∷ (Write 0 0 (187 ∷ []), reply.Err Denied)
    ∷ (Input 0 semantics.Copy 0 5 None (Some 0) 4, reply.Err Denied)
    ∷ (Finish 1, reply.Lost)
    ∷ reads 0 0 1 (170 ∷ [])
    ∷ (Fork 0 1, reply.Okay)
    ∷ (Write 1 0 (187 ∷ []), reply.Err Denied)
    ∷ (Protect 0 0 true, reply.Okay)
    ∷ writes 0 0 (187 ∷ [])
    ∷ reads 1 0 1 (170 ∷ [])
    ∷ []

-- a region that a weak input may store in stays writable
abbrev pub protected_late : List Line
protected_late = mapped
    ++ inputs semantics.Share (Some 0) 4 1
    ∷ (Protect 0 0 false, reply.Err InState)
    ∷ (Cancel 1, reply.Okay)
    ∷ (Protect 0 0 false, reply.Okay)
    ∷ (Input 0 semantics.Share 0 5 None (Some 0) 4, reply.Err Denied)
    ∷ outputs semantics.EmulatedShare 0 1 2
    ∷ (Protect 0 1 false, reply.Err Region)
    ∷ []

-- an input with a flow meets only the records of that flow
abbrev pub flows : List Line
flows = mapped
    ++ (Input 0 semantics.Copy 0 5 (Some 8) (Some 0) 4, reply.Id 1)
    ∷ inputs semantics.Copy (Some 8) 4 2
    ∷ receives 13
    ∷ is_in 2 None 1
    ∷ (Input 0 semantics.Copy 0 5 (Some 7) (Some 8) 4, reply.Id 3)
    ∷ (Recv 0 9, reply.Dropped 5 None 1)
    ∷ receives 1
    ∷ (Cancel 1, reply.Okay)
    ∷ (Cancel 3, reply.Okay)
    ∷ reads 0 8 1 (1 ∷ [])
    ∷ (Output 0 semantics.Copy 0 5 (Some 9) 8 1, reply.Id 4)
    ∷ sends 13
    ∷ is_out 4 1
    ∷ []

-- `GE`, port 5, a length of 1 and a flow
abbrev pub flow_header : ℕ → List ℕ
flow_header flow = 71 ∷ 69 ∷ 0 ∷ 5 ∷ 0 ∷ 0 ∷ 0 ∷ 1 ∷ 0 ∷ 0 ∷ 0 ∷ flow ∷ []

-- the address that an input names, by whether the system places its buffer
abbrev pub named : Bool → Option ℕ
named true = None
named false = Some 0

-- the address that its end answers
abbrev pub answered : Bool → Option ℕ
answered true = Some 8192
answered false = None

-- the address at which the bytes are
abbrev pub used : Bool → ℕ
used true = 8192
used false = 0

abbrev pub staging : Kind → List Line
staging Early = []
staging Pooled = []
staging Outboard = (Send 0 24, reply.Staged 16) ∷ []

-- what was received is sent back
abbrev pub there_and_back : Kind → Semantics → Bool → List Line
there_and_back kind sem system = mapped
    ++ inputs sem (named system) 16 1
    ∷ receives 24
    ∷ is_in 1 (answered system) 16
    ∷ outputs sem (used system) 16 2
    ∷ staging kind
    ++ sends 24
    ∷ is_out 2 16
    ∷ []

abbrev pub SendsBack : Kind → Semantics → Type 0
SendsBack kind sem = Runs (start kind (header 5 16 ++ rising 1 16)) (there_and_back kind sem (is_system (class_of sem))) (header 5 16 ++ rising 1 16)

-- every semantics sends back what it received, on a device of every kind
abbrev pub EachSendsBack : Type 0
EachSendsBack = (kind : Kind) (sem : Semantics) → SendsBack kind sem

pub record WorkedRows : Type 0 where
  pub sends_back : EachSendsBack
  pub copy_output : Runs (start Early []) copy_output (header 5 32 ++ rising 0 32)
  pub share_output : Runs (start Early []) share_output (header 5 32 ++ rising 0 16 ++ replicate 16 255)
  pub exit_before_sending : Runs (start Early []) exit_before_sending (header 5 4 ++ rising 1 4)
  pub copy_input : Runs (start Early (header 5 40 ++ rising 1 40)) copy_input []
  pub share_input : Runs (start Early (header 5 16 ++ rising 1 16)) share_input []
  pub emulated_move : Runs (start Early (header 5 3 ++ rising 1 3)) (move_both_ways semantics.EmulatedMove) (header 5 32 ++ rising 170 4 ++ replicate 28 0)
  pub basic_move : Runs (start Early (header 5 3 ++ rising 1 3)) (move_both_ways semantics.Move) (header 5 32 ++ rising 170 4 ++ replicate 28 0)
  pub wired_frames : Runs (start Early []) wired_frames (header 5 255 ++ replicate 255 0)
  pub pooled_input : Runs (booted 32 64 Pooled 5 (header 5 2 ++ rising 1 2 ++ header 5 1 ++ 3 ∷ [])) pooled_input []
  pub dropped_early : Runs (start Early (header 5 2 ++ rising 1 2)) dropped_early []
  pub matched_late : Runs (start Pooled (header 5 2 ++ rising 1 2)) matched_late []
  pub truncated : Runs (start Early (header 5 4 ++ rising 1 2)) truncated []
  pub bad_format : Runs (start Early (72 ∷ 68 ∷ 0 ∷ 5 ∷ 0 ∷ 0 ∷ 0 ∷ 0 ∷ [])) bad_header []
  pub bad_length : Runs (start Pooled (71 ∷ 68 ∷ 0 ∷ 5 ∷ 0 ∷ 0 ∷ 1 ∷ 1 ∷ [])) bad_header []
  pub cut_and_lost : Runs (start Early (header 5 4 ++ rising 1 4 ++ header 5 4 ++ rising 1 4)) cut_and_lost []
  pub orphan : Runs (start Early (header 5 16 ++ rising 1 16)) orphan (header 6 16 ++ rising 1 16)
  pub weak_moves : Runs (start Early (header 5 1 ++ 170 ∷ header 5 1 ++ 187 ∷ [])) weak_moves (header 5 4 ++ replicate 4 0)
  pub cancelled_weak_move : Runs (start Early []) cancelled_weak_move []
  pub failing_host : Runs (start Early (header 5 4 ++ rising 1 4)) failing_host (header 5 4 ++ rising 170 4)
  pub staged_output : Runs (start Outboard []) staged_output (header 5 4 ++ 170 ∷ 171 ∷ 19 ∷ 20 ∷ [])
  pub read_only : Runs (start Early (header 5 4 ++ rising 1 4)) read_only []
  pub protected_late : Runs (start Early []) protected_late []
  pub flows : Runs (start Early (flow_header 7 ++ 1 ∷ header 5 1 ++ 2 ∷ [])) flows (flow_header 9 ++ 1 ∷ [])
