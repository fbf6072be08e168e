-- The counts of the frames with the loans and wires of a transfer more, and with those less.
use Rattle.std.specs.Prelude.{◌≡◌, ℕ, ◌+◌, ◌-◌, Bool, List, [], ◌∷◌, ◌++◌, find, Option, Some, slice_index_or}
use Rattle.genie_frame.specs.declared.frame.Counts.{Counts}
use Rattle.genie_frame.specs.FrameTable.{no_counts}
use Rattle.genie_input.specs.Pools.{PoolState}
use Rattle.genie_plan.specs.Loans.{more, less}
use Rattle.genie_model.specs.Tables.{without}
use Rattle.genie_kernel.specs.declared.transfer.Transfer.{Transfer}
use Rattle.genie_kernel.specs.Loans.{loans_of}
use Rattle.genie_kernel.specs.Counted.{AreCounted, wires_on}

abbrev pub with_loans : Transfer → ℕ → Counts → Counts
with_loans t f c = record (more (loans_of t.loans) f c) { wires = c.wires + wires_on f t }

abbrev pub without_loans : Transfer → ℕ → Counts → Counts
without_loans t f c = record (less (loans_of t.loans) f c) { wires = c.wires - wires_on f t }

-- frames are lent and wired for a transfer
abbrev pub LendsFor : Transfer → List Counts → List Counts → Type 0
LendsFor t old new = (f : ℕ) → slice_index_or new f no_counts ≡ with_loans t f (slice_index_or old f no_counts)

-- its loans and wires are given back
abbrev pub GivesBack : Transfer → List Counts → List Counts → Type 0
GivesBack t old new = (f : ℕ) → slice_index_or new f no_counts ≡ without_loans t f (slice_index_or old f no_counts)

-- the counts fit the table with that transfer more
abbrev pub CountsGrow : Type 0
CountsGrow = (t : Transfer) (ts : List Transfer) (pools : List (Option PoolState)) (old new : List Counts) → LendsFor t old new → AreCounted old ts pools → AreCounted new (ts ++ t ∷ []) pools

-- and that with it less
abbrev pub CountsShrink : Type 0
CountsShrink = (p : Transfer → Bool) (t : Transfer) (ts : List Transfer) (pools : List (Option PoolState)) (old new : List Counts) → find p ts ≡ Some t → GivesBack t old new → AreCounted old ts pools → AreCounted new (without p ts) pools
