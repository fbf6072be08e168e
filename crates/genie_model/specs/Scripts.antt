-- Words for worked rows: scripts with the replies and the bytes sent that are expected.
use Rattle.std.specs.Prelude.{◌≡◌, ℕ, ◌+◌, zero, suc, true, List, [], ◌∷◌, replicate, Option, None, Some}
use Rattle.genie_base.specs.Configs.{DeviceConfig}
use Rattle.genie_base.specs.Events.{mark_of}
use Rattle.genie_base.specs.declared.config.Kind.{Kind}
use Rattle.genie_base.specs.declared.event.Event.{Event}
use Rattle.genie_base.specs.declared.event.Event.TheVariants.{Spawn, Map, Read, Write, Output, Input, Send, Recv, Finish}
use Rattle.genie_base.specs.declared.reply.Note.TheVariants.{Whole}
use Rattle.genie_base.specs.declared.reply.Reply.{Reply}
use Rattle.genie_base.specs.declared.reply.Reply.TheVariants as reply
use Rattle.genie_base.specs.declared.semantics.Semantics.{Semantics}
use Rattle.genie_model.specs.Sending.{sent_of}
use Rattle.genie_model.specs.State.{State, boot}
use Rattle.genie_model.specs.Step.{step}

-- an event and the reply that is expected to it, which also shows what failed
abbrev pub Line : Type 0
Line = Event × Reply

-- the state after these lines
abbrev pub after : State → List Line → State
after s [] = s
after s (l ∷ lines) = after (step s l.0 (mark_of l.1)).0 lines

-- the replies that the steps give
abbrev pub answers : State → List Line → List Reply
answers s [] = []
answers s (l ∷ lines) = (step s l.0 (mark_of l.1)).1 ∷ answers (step s l.0 (mark_of l.1)).0 lines

abbrev pub expected : List Line → List Reply
expected [] = []
expected (l ∷ lines) = l.1 ∷ expected lines

-- the lines give the replies that are expected, and device 0 has sent these bytes
pub record Runs (start : State) (lines : List Line) (sent : List ℕ) : Type 0 where
  pub replies : answers start lines ≡ expected lines
  pub file : sent_of (after start lines) 0 ≡ sent

-- a device with an input and an output
abbrev pub device : Kind → ℕ → DeviceConfig
device kind offset = record { kind = kind; has_input = true; has_output = true; depth = 1; offset = offset }

-- pages of 16 bytes, with so many frames and backing pages, and device 0 with its input
abbrev pub booted : ℕ → ℕ → Kind → ℕ → List ℕ → State
booted frames slots kind offset input = boot (record { page = 16; frames = frames; slots = slots; copy_out = 16; reverse_copy_out = 8; devices = Some (device kind offset) ∷ replicate 7 None }) (λ _. input)

-- process 0 with a region of four pages
abbrev pub mapped : List Line
mapped = (Spawn 0, reply.Okay) ∷ (Map 0 0 4, reply.Okay) ∷ []

-- n bytes that rise from b
abbrev pub rising : ℕ → ℕ → List ℕ
rising b zero = []
rising b (suc n) = b ∷ rising (b + 1) n

-- `GD`, a port and a length
abbrev pub header : ℕ → ℕ → List ℕ
header port n = 71 ∷ 68 ∷ 0 ∷ port ∷ 0 ∷ 0 ∷ 0 ∷ n ∷ []

abbrev pub writes : ℕ → ℕ → List ℕ → Line
writes p a bytes = (Write p a bytes, reply.Okay)

abbrev pub reads : ℕ → ℕ → ℕ → List ℕ → Line
reads p a n bytes = (Read p a n, reply.Bytes bytes)

abbrev pub outputs : Semantics → ℕ → ℕ → ℕ → Line
outputs sem a n k = (Output 0 sem 0 5 None a n, reply.Id k)

abbrev pub inputs : Semantics → Option ℕ → ℕ → ℕ → Line
inputs sem a n k = (Input 0 sem 0 5 None a n, reply.Id k)

abbrev pub sends : ℕ → Line
sends n = (Send 0 n, reply.Sent n)

abbrev pub receives : ℕ → Line
receives n = (Recv 0 n, reply.Got n)

-- an output ends
abbrev pub is_out : ℕ → ℕ → Line
is_out k n = (Finish k, reply.Output n)

-- an input ends, with its address where the system placed it
abbrev pub is_in : ℕ → Option ℕ → ℕ → Line
is_in k a n = (Finish k, reply.Input a n Whole)
