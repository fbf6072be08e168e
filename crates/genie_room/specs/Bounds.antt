-- How long plans are, and how high counts of loans.
use Rattle.std.specs.Prelude.{ℕ, ◌+◌, ◌*◌, ◌≤◌, All}
use Rattle.genie_base.specs.Counts.{span}
use Rattle.genie_frame.specs.declared.frame.Counts.{Counts}
use Rattle.genie_frame.specs.FrameTable.{counts_at}
use Rattle.genie_kernel.specs.declared.kernel.Kernel.{Kernel}
use Rattle.genie_kernel.specs.declared.transfer.Transfer.{Transfer}
use Rattle.genie_kernel.specs.Calls.{begins_at}
use Rattle.genie_kernel.specs.Good.{IsGood}
use Rattle.genie_room.specs.Frames.{loan_count}

-- a transfer has at most 64 pages' bytes, which touch at most 65 pages, and at most a loan for each of these
pub record IsShort (page : ℕ) (t : Transfer) : Type 0 where
  pub len : t.len ≤ 64 * page
  pub pages : span page (begins_at t) t.len ≤ 65
  pub loans : loan_count t ≤ span page (begins_at t) t.len

abbrev pub PlansAreShort : Type 0
PlansAreShort = (k : Kernel) → IsGood k → All (IsShort k.config.page) k.transfers

-- at most 4,096 loans are out, and as many wires
pub record AreLow (c : Counts) : Type 0 where
  pub loans : c.strong + c.weak + c.input ≤ 4096
  pub wires : c.wires ≤ 4096

-- so it is of each frame
abbrev pub CountsAreLow : Type 0
CountsAreLow = (k : Kernel) (f : ℕ) → IsGood k → AreLow (counts_at k.memory.frames f)
