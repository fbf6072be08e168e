-- The pages of a range, and the plan on them.
use Rattle.std.specs.Prelude.{◌≡◌, Bool, ℕ, zero, suc, ◌+◌, ◌-◌, ◌*◌, ◌/◌, ◌%◌, ◌^◌, ◌<◌, ◌≤◌, List, length, count_by, IfSome, slice_index_or, nat_lt, if◌then◌else◌}
use Rattle.genie_base.specs.Bytes.{part}
use Rattle.genie_base.specs.Counts.{span}
use Rattle.genie_frame.specs.declared.frame.OutLoan.{OutLoan}
use Rattle.genie_frame.specs.FrameTable.{FrameTable, counts_at, bytes_at, is_free}
use Rattle.genie_store.specs.StoreView.{StoreView}
use Rattle.genie_object.specs.declared.memory.Memory.{Memory}
use Rattle.genie_object.specs.declared.objects.Range.{Range}
use Rattle.genie_object.specs.Pages.{is_there}
use Rattle.genie_object.specs.Objects.{object_at}
use Rattle.genie_object.specs.Memory.{seen, bytes_of}
use Rattle.genie_object.specs.Touching.{is_in_range}
use Rattle.genie_object.specs.Costs.{AreBelow}
use Rattle.genie_plan.specs.Loans.{Loan}
use Rattle.genie_plan.specs.Landings.{entries_bytes}
use Rattle.genie_plan.specs.Plans.{output_frames, range_bytes}

-- the first page of a range, and how many pages it touches
abbrev pub first_page : ℕ → Range → ℕ
first_page page range = range.off / page

abbrev pub pages_of : ℕ → Range → ℕ
pages_of page range = span page range.off range.len

-- the entries of the range
abbrev pub is_of_range : ℕ → Range → ℕ → ℕ → Bool
is_of_range page range = is_in_range range.object.0 (first_page page range) (pages_of page range)

-- a range may be prepared for output: it lies in its object, there is a frame and a logical page for each of its pages,
-- no meter is near its end, and no count of loans
pub record CanPrepare (m : Memory) (range : Range) : Type 0 where
  pub fits : range.off + range.len < 2 ^ 32
  pub within : first_page m.frames.page range + pages_of m.frames.page range ≤ length (object_at m.objects range.object.0)
  pub most : pages_of m.frames.page range ≤ 65
  pub free : pages_of m.frames.page range ≤ count_by is_free m.frames.owners
  pub room : count_by is_there m.pages.pages + pages_of m.frames.page range ≤ m.pages.most
  pub meters : AreBelow (2 ^ 64 - 2 ^ 21) m.frames.meters
  pub strong : (f : ℕ) → (counts_at m.frames f).strong < 2 ^ 31
  pub weak : (f : ℕ) → (counts_at m.frames f).weak < 2 ^ 31

-- a plan has a loan for each page of the range, in order, and begins where the range begins in its first page
pub record IsPlanOf (page : ℕ) (range : Range) (loans : List OutLoan) (place size : ℕ) : Type 0 where
  pub number : length loans ≡ pages_of page range
  pub first : place ≡ range.off % page
  pub len : size ≡ range.len

-- the bytes of the plan are those that the range had before the call, where the store tells its own
abbrev pub SendsRange : Memory → Memory → StoreView → Range → List OutLoan → ℕ → ℕ → Type 0
SendsRange old new v range loans first len = IfSome v.slots (λ slots. range_bytes new.frames (output_frames loans) first len ≡ part first len (entries_bytes (seen old slots) range.object.0 (first_page old.frames.page range) (pages_of old.frames.page range)))

-- the frames of the loans have the bytes that the entries of object o had, from entry i on
abbrev pub HoldsEntries : Memory → StoreView → ℕ → ℕ → List Loan → FrameTable → Type 0
HoldsEntries old v o i loans t = (k : ℕ) (d : Loan) → k < length loans → IfSome (bytes_of old v o (i + k)) (λ b. bytes_at t (slice_index_or loans k d).frame ≡ b)

-- where the bytes of a range begin in the range's page k, and how many are left from there on
abbrev pub begin_in : ℕ → ℕ → ℕ
begin_in first zero = first
begin_in first (suc k) = 0

abbrev pub left_in : ℕ → ℕ → ℕ → ℕ → ℕ
left_in page first len k = len - (page * k - first)

-- how many bytes of them lie in a page from a place on
abbrev pub piece_of : ℕ → ℕ → ℕ → ℕ
piece_of page off left = if nat_lt left (page - off) then left else page - off

-- the same of the bytes that lie in the range: len of them, from place first of the first page on
abbrev pub HoldsParts : Memory → StoreView → ℕ → ℕ → ℕ → ℕ → List Loan → FrameTable → Type 0
HoldsParts old v o i first len loans t = (k : ℕ) (d : Loan) → k < length loans → IfSome (bytes_of old v o (i + k)) (λ b. part (begin_in first k) (left_in old.frames.page first len k) (bytes_at t (slice_index_or loans k d).frame) ≡ part (begin_in first k) (left_in old.frames.page first len k) b)
