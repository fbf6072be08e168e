-- How many frames are lent, and how many can be had.
use Rattle.std.specs.Prelude.{◌≡◌, ℕ, ◌+◌, ◌*◌, ◌≤◌, Bool, true, false, IsTrue, List, length, sum_by, count_by, All, Option, None}
use Rattle.genie_base.specs.Configs.{config_of, pool_of}
use Rattle.genie_base.specs.Counts.{span, cost}
use Rattle.genie_base.specs.Transfers.{class_of}
use Rattle.genie_base.specs.declared.event.Event.{Event}
use Rattle.genie_base.specs.declared.event.Event.TheVariants as event
use Rattle.genie_base.specs.Events.{is_whole}
use Rattle.genie_base.specs.declared.semantics.Class.TheVariants.{Copy}
use Rattle.genie_base.specs.declared.semantics.Direction.TheVariants.{Inward, Outward}
use Rattle.genie_base.specs.declared.semantics.Semantics.{Semantics}
use Rattle.genie_frame.specs.declared.frame.Owner.{Owner}
use Rattle.genie_frame.specs.declared.frame.Owner.TheVariants.{Free, Page, System, Pool, Nobody}
use Rattle.genie_object.specs.declared.memory.Memory.{Memory}
use Rattle.genie_object.specs.Sound.{IsSound}
use Rattle.genie_object.specs.Touching.{KeepsLoans}
use Rattle.genie_hiding.specs.Rooms.{available}
use Rattle.genie_model.specs.Inputs.{address_or_zero}
use Rattle.genie_model.specs.Pending as pending
use Rattle.genie_model.specs.Pending.{wired}
use Rattle.genie_model.specs.Refusing.{frames_to_wire, refuse}
use Rattle.genie_model.specs.State as flat
use Rattle.genie_orderly.specs.Lemmas.AcceptedCalls.{OnCall}
use Rattle.genie_orderly.specs.Lemmas.KeptCalls.{call_of}
use Rattle.genie_kernel.specs.declared.kernel.Kernel.{Kernel}
use Rattle.genie_kernel.specs.declared.transfer.Transfer.{Transfer}
use Rattle.genie_kernel.specs.Asked.{cost_of}
use Rattle.genie_kernel.specs.Loans.{frames_of}
use Rattle.genie_kernel.specs.View.{outline}
use Rattle.genie_kernel.specs.Good.{IsGood}

-- how many loans a transfer has
abbrev pub loan_count : Transfer → ℕ
loan_count t = length (frames_of t.loans)

-- how many these transfers have
abbrev pub loans_in : List Transfer → ℕ
loans_in transfers = sum_by loan_count transfers

abbrev pub is_pool : Owner → Bool
is_pool Free = false
is_pool (Page p) = false
is_pool (System t) = false
is_pool (Pool d) = true
is_pool Nobody = false

-- how many frames the configuration gives to pools
abbrev pub pooled : Kernel → ℕ
pooled k = pool_of (config_of k.config).devices

-- pools have at most the frames that they were given
abbrev pub PoolsAreFew : Type 0
PoolsAreFew = (k : Kernel) → IsGood k → count_by is_pool k.memory.frames.owners ≤ pooled k

-- all frames can be had but those of pools and those that are lent for transfers
abbrev pub FramesAreLent : Type 0
FramesAreLent = (k : Kernel) → IsGood k → k.config.frames ≤ available k.memory.frames + loans_in k.transfers + pooled k

-- the pending transfers have at most as many loans as they may need frames
abbrev pub LoansAreWired : Type 0
LoansAreWired = (k : Kernel) → IsGood k → loans_in k.transfers ≤ wired (outline k)

-- four frames can always be had
abbrev pub FourAreAvailable : Type 0
FourAreAvailable = (k : Kernel) → IsGood k → 4 ≤ available k.memory.frames

-- and so many more as one more transfer may need
abbrev pub CostsAreAvailable : Type 0
CostsAreAvailable = (k : Kernel) (frames : ℕ) → IsGood k → wired (outline k) + frames ≤ frames_to_wire (outline k) → frames + 4 ≤ available k.memory.frames

-- the transfer of a call can have all that it may need, and four frames, and touches at most 65 pages
pub record CanBegin (page frames : ℕ) (t : flat.Transfer) : Type 0 where
  pub len : t.len ≤ 64 * page
  pub pages : pending.touched page t ≤ 65
  pub cost : pending.cost_of page t + 4 ≤ frames

-- so it is with each call that isn't refused
abbrev pub CallsCanBegin : Type 0
CallsCanBegin = (k : Kernel) (e : Event) → IsGood k → IsTrue (is_whole e) → refuse (outline k) e ≡ None → OnCall (CanBegin k.config.page (available k.memory.frames)) (call_of (outline k) e)

-- the same of an output, by its address: it can have all that its pages may need, and four frames
abbrev pub OutputsAreAvailable : Type 0
OutputsAreAvailable = (k : Kernel) (p : ℕ) (sem : Semantics) (d port : ℕ) (flow : Option ℕ) (a n : ℕ) → IsGood k → refuse (outline k) (event.Output p sem d port flow a n) ≡ None → cost (class_of sem) Outward (span k.config.page a n) + 4 ≤ available k.memory.frames

-- and of an input, by its own
abbrev pub InputsAreAvailable : Type 0
InputsAreAvailable = (k : Kernel) (p : ℕ) (sem : Semantics) (d port : ℕ) (flow addr : Option ℕ) (n : ℕ) → IsGood k → refuse (outline k) (event.Input p sem d port flow addr n) ≡ None → cost (class_of sem) Inward (span k.config.page (address_or_zero addr) n) + 4 ≤ available k.memory.frames

-- a pending transfer can have what it may need, its loans included, and four frames
abbrev pub PendingAreAvailable : Type 0
PendingAreAvailable = (k : Kernel) → IsGood k → All (λ (t : Transfer). cost_of k.config.page t + 4 ≤ available k.memory.frames + loan_count t) k.transfers

-- a copy input can have the pages of its range beside its loans, and four
abbrev pub CopiesAreAvailable : Type 0
CopiesAreAvailable = (k : Kernel) → IsGood k → All (λ (t : Transfer). class_of t.sem ≡ Copy → t.dir ≡ Inward → span k.config.page t.addr t.len + 4 ≤ available k.memory.frames) k.transfers

-- as many frames can be had after calls that keep loans and the owners of system frames, where no count has changed
abbrev pub AvailableIsKept : Type 0
AvailableIsKept = (old new : Memory) → IsSound old → IsSound new → KeepsLoans old new → new.frames.counts ≡ old.frames.counts → available new.frames ≡ available old.frames
