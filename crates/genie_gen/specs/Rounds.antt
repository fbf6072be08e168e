-- The made script: its first lines, and then its rounds.
use Rattle.std.specs.Prelude.{ℕ, zero, suc, ◌+◌, ◌*◌, ◌%◌, ◌==◌, nat_lt, List, [], ◌∷◌, ◌++◌, map, flat_map, codes, Some, None, if◌then◌else◌}
use Rattle.std.specs.List.{range_with_len}
use Rattle.genie_base.specs.declared.semantics.Semantics.{Semantics}
use Rattle.genie_base.specs.declared.semantics.Semantics.TheVariants.{Copy, EmulatedCopy, Share, EmulatedShare, Move, EmulatedMove, WeakMove, EmulatedWeakMove}
use Rattle.genie_base.specs.declared.event.Event.{Event}
use Rattle.genie_base.specs.declared.event.Event.TheVariants as event
use Rattle.genie_script.specs.Spelling.{line_text}
use Rattle.genie_script.specs.declared.line.Line.TheVariants as line
use Rattle.genie_gen.specs.declared.draws.Round.{Round}
use Rattle.genie_gen.specs.Draws.{after, round_of}

-- the four semantics whose buffer the application allocates
abbrev pub application : ℕ → Semantics
application n = if n == 0 then Copy else if n == 1 then EmulatedCopy else if n == 2 then Share else EmulatedShare

-- the four whose buffer the system allocates
abbrev pub system : ℕ → Semantics
system n = if n == 0 then Move else if n == 1 then EmulatedMove else if n == 2 then WeakMove else EmulatedWeakMove

-- the process of their transfers: process 0 moves, process 1 moves weakly
abbrev pub owner : ℕ → ℕ
owner n = if nat_lt n 2 then 0 else 1

-- sixteen bytes that count up from q
abbrev pub counting : ℕ → List ℕ
counting q = map (λ j. (q + j) % 256) (range_with_len 0 16)

-- An output and an input whose buffers overlap in a process that is forked and written to while they are pending; then
-- a system input, whose region is written to and sent again. Round i has the transfers 4i + 1 to 4i + 4.
unfoldable pub round_events : Round → ℕ → List Event
round_events r i =
    event.Write 0 r.from (counting r.first)
    ∷ event.Output 0 (application r.output) r.device 7 None r.from r.sent
    ∷ event.Input 0 (application r.input) r.device 9 None (Some r.to) r.wanted
    ∷ event.Recv r.device r.receive
    ∷ event.Write 0 r.from (counting (r.first + 1))
    ∷ event.Send r.device r.send
    ∷ event.Pageout r.pages
    ∷ event.Fork 0 2
    ∷ event.Write 0 r.to (counting (r.first + 2))
    ∷ event.Recv r.device 300
    ∷ event.Send r.device 300
    ∷ event.Send r.device 300
    ∷ event.Send r.device 300
    ∷ event.Finish (4 * i + 1)
    ∷ event.Finish (4 * i + 2)
    ∷ event.Read 0 r.to 16
    ∷ event.Read 2 r.from 16
    ∷ event.Exit 2
    ∷ event.Input (owner r.system) (system r.system) r.device 9 None None r.moved
    ∷ event.Recv r.device 300
    ∷ event.Finish (4 * i + 3)
    ∷ event.Write (owner r.system) 8192 (counting (r.first + 3))
    ∷ event.Output (owner r.system) (system r.system) r.device 7 None 8192 r.moved
    ∷ event.Send r.device 300
    ∷ event.Send r.device 300
    ∷ event.Send r.device 300
    ∷ event.Finish (4 * i + 4)
    ∷ []

-- a line with its end
abbrev pub ended : List ℕ → List ℕ
ended text = text ++ 10 ∷ []

abbrev pub event_line : Event → List ℕ
event_line e = ended (line_text (line.Event e))

unfoldable pub head_text : List ℕ
head_text =
    ended (codes "boot 16 64 128 16 8")
    ++ ended (codes "device 0 early i0 o0 1 0")
    ++ ended (codes "device 1 pooled i1 o1 1 5")
    ++ ended (codes "device 2 outboard i2 o2 2 0")
    ++ ended (codes "spawn 0")
    ++ ended (codes "spawn 1")
    ++ ended (codes "map 0 0 8")

-- so many rounds from round i on, drawn from the state x
abbrev pub rounds_text : ℕ → ℕ → ℕ → List ℕ
rounds_text x i zero = []
rounds_text x i (suc n) = flat_map event_line (round_events (round_of x) i) ++ rounds_text (after 13 x) (i + 1) n

-- the made script
abbrev pub script_text : ℕ → ℕ → List ℕ
script_text seed rounds = head_text ++ rounds_text seed 0 rounds
