-- The counts of the frames: what transfers and pools have lent and wired.
use Rattle.std.specs.Prelude.{◌≡◌, ℕ, ◌+◌, Bool, not, ◌&&◌, List, sum_by, slice_index_or, Option, None, Some, if◌then◌else◌}
use Rattle.genie_base.specs.Transfers.{is_emulated}
use Rattle.genie_frame.specs.declared.frame.Counts.{Counts}
use Rattle.genie_frame.specs.FrameTable.{no_counts}
use Rattle.genie_input.specs.Pools.{PoolState}
use Rattle.genie_plan.specs.Loans.{LoanKind, loan_times}
use Rattle.genie_plan.specs.Loans as kind
use Rattle.genie_plan.specs.Plans.{times, input_frames}
use Rattle.genie_kernel.specs.declared.transfer.Transfer.{Transfer}
use Rattle.genie_kernel.specs.Loans.{loans_of, frames_of}
use Rattle.genie_kernel.specs.Calls.{is_strong_call}

-- how many loans of a kind a transfer has on frame f
abbrev pub loans_on : LoanKind → ℕ → Transfer → ℕ
loans_on kind f t = loan_times (loans_of t.loans) kind f

-- a basic weak call wires its pages; the emulated one holds them by its loans alone
abbrev pub is_wiring : Transfer → Bool
is_wiring t = not (is_strong_call t) && not (is_emulated t.sem)

abbrev pub wires_on : ℕ → Transfer → ℕ
wires_on f t = if is_wiring t then times (frames_of t.loans) f else 0

-- how many input loans a pool has on frame f
abbrev pub pool_on : ℕ → Option PoolState → ℕ
pool_on f None = 0
pool_on f (Some p) = times (input_frames p.loans) f

-- all that is lent and wired of frame f
abbrev pub lent_of : List Transfer → List (Option PoolState) → ℕ → Counts
lent_of transfers pools f = record {
  strong = sum_by (loans_on kind.Strong f) transfers;
  weak = sum_by (loans_on kind.Weak f) transfers;
  input = sum_by (loans_on kind.Input f) transfers + sum_by (pool_on f) pools;
  wires = sum_by (wires_on f) transfers;
}

-- each frame's counts are just that
abbrev pub AreCounted : List Counts → List Transfer → List (Option PoolState) → Type 0
AreCounted counts transfers pools = (f : ℕ) → slice_index_or counts f no_counts ≡ lent_of transfers pools f
