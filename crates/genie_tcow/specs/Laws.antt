-- What a device sends of a plan, whatever is called later.
use Rattle.std.specs.Prelude.{◌≡◌, ℕ, ◌<◌, false, List, length, slice_index_or}
use Rattle.genie_base.specs.Bytes.{part}
use Rattle.genie_frame.specs.declared.frame.OutLoan.{OutLoan}
use Rattle.genie_store.specs.StoreView.{StoreView}
use Rattle.genie_object.specs.declared.memory.Memory.{Memory}
use Rattle.genie_object.specs.declared.objects.Range.{Range}
use Rattle.genie_object.specs.Memory.{seen}
use Rattle.genie_object.specs.Touching.{KeepsLoans}
use Rattle.genie_plan.specs.Landings.{entries_bytes, AreOfEntries}
use Rattle.genie_plan.specs.Plans.{output_frames, range_bytes, CanSend}
use Rattle.genie_tcow.specs.Ranges.{SendsRange}

-- after calls that keep loans a plan still has the bytes that the range had when it was prepared, whatever the process
-- has written since
abbrev pub SendsAsLent : Type 0
SendsAsLent = (old new later : Memory) (v : StoreView) (range : Range) (loans : List OutLoan) (first len : ℕ) → CanSend new.frames loans first len → SendsRange old new v range loans first len → KeepsLoans new later → SendsRange old later v range loans first len

-- after calls that keep loans a plan of weak loans on the frames of entries has the bytes that the entries have then
abbrev pub SendsAsIs : Type 0
SendsAsIs = (new later : Memory) (o i : ℕ) (loans : List OutLoan) (first len : ℕ) (slots : ℕ → List ℕ) → ((k : ℕ) (d : OutLoan) → k < length loans → (slice_index_or loans k d).strong ≡ false) → CanSend new.frames loans first len → AreOfEntries new o i (output_frames loans) → KeepsLoans new later
    → range_bytes later.frames (output_frames loans) first len ≡ part first len (entries_bytes (seen later slots) o i (length loans))
