-- What is lent for each transfer.
use Rattle.std.specs.Prelude.{◌≡◌, ℕ, ◌%◌, ◌≤◌, Bool, true, false, List, length, All, Option, None, Some, slice_index_or}
use Rattle.genie_base.specs.Counts.{span}
use Rattle.genie_base.specs.declared.semantics.Direction.{Direction}
use Rattle.genie_base.specs.declared.semantics.Direction.TheVariants as direction
use Rattle.genie_device.specs.Device.{DeviceView}
use Rattle.genie_frame.specs.declared.frame.OutLoan.{OutLoan}
use Rattle.genie_frame.specs.declared.frame.Owner.{Owner}
use Rattle.genie_frame.specs.declared.frame.Owner.TheVariants.{Free, System}
use Rattle.genie_plan.specs.Plans.{AreApart, output_frames, input_frames}
use Rattle.genie_model.specs.Pending.{is_early}
use Rattle.genie_model.specs.Tables.{entry}
use Rattle.genie_kernel.specs.declared.transfer.Loans.{Loans}
use Rattle.genie_kernel.specs.declared.transfer.Loans.TheVariants.{Nothing, Outward, Inward}
use Rattle.genie_kernel.specs.declared.transfer.Transfer.{Transfer}
use Rattle.genie_kernel.specs.Loans.{frames_of}
use Rattle.genie_kernel.specs.Calls.{number_of, begins_at, is_strong_call}

abbrev pub is_early_device : Option DeviceView → Bool
is_early_device None = false
is_early_device (Some v) = is_early v.config.kind

-- a loan for each page of the range from place `at` on, which begins there in the first frame
pub record LendsRange (page at len : ℕ) (frames : List ℕ) (first long : ℕ) : Type 0 where
  pub pages : length frames ≡ span page at len
  pub begins : first ≡ at % page
  pub length_kept : long ≡ len

-- a strong output has strong loans, and a weak one weak loans
abbrev pub LendsOut : ℕ → Transfer → Loans → Type 0
LendsOut page t Nothing = ⊥
LendsOut page t (Outward p) = All (λ (l : OutLoan). l.strong ≡ is_strong_call t) p.loans.items × LendsRange page (begins_at t) t.len (output_frames p.loans.items) p.first p.len
LendsOut page t (Inward p) = ⊥

-- an input that bytes land in has input loans
abbrev pub LendsIn : ℕ → Transfer → Loans → Type 0
LendsIn page t Nothing = ⊥
LendsIn page t (Outward p) = ⊥
LendsIn page t (Inward p) = LendsRange page (begins_at t) t.len (input_frames p.loans.items) p.first p.len

-- frames of a transfer's own, each another one
pub record AreItsOwn (owners : List Owner) (number : ℕ) (frames : List ℕ) : Type 0 where
  pub own : All (λ f. slice_index_or owners f Free ≡ System number) frames
  pub apart : AreApart frames

-- a strong one has frames of its own on an early device, and none on another
abbrev pub LendsStrongly : ℕ → List Owner → Bool → Transfer → Loans → Type 0
LendsStrongly page owners false t loans = loans ≡ Nothing
LendsStrongly page owners true t loans = LendsIn page t loans × AreItsOwn owners (number_of t) (frames_of loans)

abbrev pub LendsInput : ℕ → List Owner → Bool → Transfer → Bool → Type 0
LendsInput page owners early t true = LendsStrongly page owners early t t.loans
LendsInput page owners early t false = LendsIn page t t.loans

abbrev pub Lends : ℕ → List Owner → Bool → Transfer → Direction → Type 0
Lends page owners early t direction.Outward = LendsOut page t t.loans
Lends page owners early t direction.Inward = LendsInput page owners early t (is_strong_call t)

abbrev pub ArePlanned : ℕ → List Owner → List (Option DeviceView) → List Transfer → Type 0
ArePlanned page owners devices transfers = All (λ (t : Transfer). Lends page owners (is_early_device (entry devices t.dev)) t t.dir) transfers

-- the device of a transfer is there, and takes datagrams as long as its buffer
abbrev pub FitsDevice : ℕ → Option DeviceView → Type 0
FitsDevice len None = ⊥
FitsDevice len (Some v) = len ≤ v.limit

abbrev pub FitDevices : List (Option DeviceView) → List Transfer → Type 0
FitDevices devices transfers = All (λ (t : Transfer). FitsDevice t.len (entry devices t.dev)) transfers
