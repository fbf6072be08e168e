-- The loans of a plan, whatever their kind, and what is left once they have ended.
use Rattle.std.specs.Prelude.{◌≡◌, ◌==◌, ◌&&◌, ℕ, ◌+◌, ◌-◌, ◌<◌, ◌≤◌, Bool, true, false, List, [], ◌∷◌, length, map, count_by}
use Rattle.genie_frame.specs.declared.frame.InLoan.{InLoan}
use Rattle.genie_frame.specs.declared.frame.OutLoan.{OutLoan}
use Rattle.genie_frame.specs.declared.frame.Owner.{Owner}
use Rattle.genie_frame.specs.declared.frame.Owner.TheVariants.{Free, Page, System, Pool, Nobody}
use Rattle.genie_frame.specs.declared.frame.Counts.{Counts}
use Rattle.genie_frame.specs.FrameTable.{FrameTable, owner_at, counts_at, set_counts, set_owner}
use Rattle.genie_frame.specs.Frames.{unowned}

pub data LoanKind : Type 0 where
  Strong : LoanKind
  Weak : LoanKind
  Input : LoanKind

pub record Loan : Type 0 where
  pub kind : LoanKind
  pub frame : ℕ

abbrev pub output_kind : Bool → LoanKind
output_kind true = Strong
output_kind false = Weak

abbrev pub input_loan : InLoan → Loan
input_loan loan = record { kind = Input; frame = loan.frame.0 }

abbrev pub output_loan : OutLoan → Loan
output_loan loan = record { kind = output_kind loan.strong; frame = loan.frame.0 }

abbrev pub input_loans : List InLoan → List Loan
input_loans loans = map input_loan loans

abbrev pub output_loans : List OutLoan → List Loan
output_loans loans = map output_loan loans

abbrev pub is_kind : LoanKind → LoanKind → Bool
is_kind Strong Strong = true
is_kind Strong Weak = false
is_kind Strong Input = false
is_kind Weak Strong = false
is_kind Weak Weak = true
is_kind Weak Input = false
is_kind Input Strong = false
is_kind Input Weak = false
is_kind Input Input = true

-- how many of these loans are of a kind and on a frame
abbrev pub loan_times : List Loan → LoanKind → ℕ → ℕ
loan_times loans kind f = count_by (λ (loan : Loan). is_kind kind loan.kind && (loan.frame == f)) loans

-- how many loans of a kind are out
abbrev pub amount : LoanKind → Counts → ℕ
amount Strong c = c.strong
amount Weak c = c.weak
amount Input c = c.input

abbrev pub one_more : LoanKind → Counts → Counts
one_more Strong c = record c { strong = c.strong + 1 }
one_more Weak c = record c { weak = c.weak + 1 }
one_more Input c = record c { input = c.input + 1 }

abbrev pub one_less : LoanKind → Counts → Counts
one_less Strong c = record c { strong = c.strong - 1 }
one_less Weak c = record c { weak = c.weak - 1 }
one_less Input c = record c { input = c.input - 1 }

-- a frame's counts with these loans more, and with these less
abbrev pub more : List Loan → ℕ → Counts → Counts
more loans f c = record c { strong = c.strong + loan_times loans Strong f; weak = c.weak + loan_times loans Weak f; input = c.input + loan_times loans Input f }

abbrev pub less : List Loan → ℕ → Counts → Counts
less loans f c = record c { strong = c.strong - loan_times loans Strong f; weak = c.weak - loan_times loans Weak f; input = c.input - loan_times loans Input f }

-- each of these loans is out
abbrev pub AreOut : FrameTable → List Loan → Type 0
AreOut t loans = (kind : LoanKind) (f : ℕ) → loan_times loans kind f ≤ amount kind (counts_at t f)

-- whose a frame is after a loan of a plan has ended: a frame of a transfer's own buffer, or of a device's pool, is let go
-- with the loan
abbrev pub let_go : Owner → Counts → Owner
let_go Free c = Free
let_go (Page p) c = Page p
let_go (System t) c = unowned c
let_go (Pool d) c = unowned c
let_go Nobody c = unowned c

-- the frames after a loan of a plan has ended
abbrev pub ended : FrameTable → Loan → FrameTable
ended t loan = set_owner (set_counts t loan.frame (one_less loan.kind (counts_at t loan.frame))) loan.frame (let_go (owner_at t loan.frame) (one_less loan.kind (counts_at t loan.frame)))

abbrev pub all_ended : FrameTable → List Loan → FrameTable
all_ended t [] = t
all_ended t (loan ∷ loans) = all_ended (ended t loan) loans

-- the loans have ended, each once; nothing else of the frames has changed
pub record Ended (loans : List Loan) (old new : FrameTable) : Type 0 where
  pub page : new.page ≡ old.page
  pub bytes : new.bytes ≡ old.bytes
  pub meters : new.meters ≡ old.meters
  pub landed : new.landed ≡ old.landed
  pub size : length new.owners ≡ length old.owners
  pub counts : (f : ℕ) → counts_at new f ≡ less loans f (counts_at old f)
  pub owners : (f : ℕ) → 0 < count_by (λ (loan : Loan). loan.frame == f) loans → owner_at new f ≡ let_go (owner_at old f) (counts_at new f)
  pub others : (f : ℕ) → count_by (λ (loan : Loan). loan.frame == f) loans ≡ 0 → owner_at new f ≡ owner_at old f
