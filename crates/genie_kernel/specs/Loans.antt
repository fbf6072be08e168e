-- The frames that are lent for a transfer.
use Rattle.std.specs.Prelude.{ℕ, Bool, ◌==◌, List, [], flat_map}
use Rattle.std.specs.List.{list_any}
use Rattle.genie_plan.specs.Loans.{Loan, output_loans, input_loans}
use Rattle.genie_plan.specs.Plans.{output_frames, input_frames}
use Rattle.genie_kernel.specs.declared.transfer.Loans.{Loans}
use Rattle.genie_kernel.specs.declared.transfer.Loans.TheVariants.{Nothing, Outward, Inward}
use Rattle.genie_kernel.specs.declared.transfer.Transfer.{Transfer}

-- the loans of a range, one for each of its pages, in order
abbrev pub loans_of : Loans → List Loan
loans_of Nothing = []
loans_of (Outward p) = output_loans p.loans.items
loans_of (Inward p) = input_loans p.loans.items

-- their frames
abbrev pub frames_of : Loans → List ℕ
frames_of Nothing = []
frames_of (Outward p) = output_frames p.loans.items
frames_of (Inward p) = input_frames p.loans.items

-- where the range begins in the first one
abbrev pub first_of : Loans → ℕ
first_of Nothing = 0
first_of (Outward p) = p.first
first_of (Inward p) = p.first

-- the bytes of frames in a row, as far as they are seen by themselves
abbrev pub bytes_in_frames : (ℕ → List ℕ) → List ℕ → List ℕ
bytes_in_frames s frames = flat_map s frames

-- the transfer has a loan on this frame
abbrev pub has_frame : ℕ → Transfer → Bool
has_frame f t = list_any (λ g. g == f) (frames_of t.loans)
