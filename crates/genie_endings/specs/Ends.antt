-- A transfer that is taken out of a kernel, with its loans given back.
use Rattle.std.specs.Prelude.{◌≡◌, ℕ, Bool, true, false, Option, None, Some, find}
use Rattle.genie_base.specs.declared.semantics.Class.{Class}
use Rattle.genie_base.specs.declared.semantics.Class.TheVariants.{Copy, Share, Move, WeakMove}
use Rattle.genie_model.specs.Pending.{is_inward}
use Rattle.genie_kernel.specs.declared.kernel.Kernel.{Kernel}
use Rattle.genie_kernel.specs.declared.transfer.Transfer.{Transfer}
use Rattle.genie_kernel.specs.Calls.{has_number}
use Rattle.genie_changes.specs.Ending.{IsGivenBack, LeavesOthers, without_call}

-- transfer n, which was pending, is so no more, and its loans are given back; nothing else has changed
pub record EndsCall (n : ℕ) (old new : Kernel) (t : Transfer) : Type 0 where
  pub found : find (has_number n) old.transfers ≡ Some t
  pub back : IsGivenBack t old.memory.frames new.memory.frames
  pub leaves : LeavesOthers n t old.transfers old.pools old.memory (record (old.memory) { frames = new.memory.frames })
  pub only : new ≡ without_call old (record (old.memory) { frames = new.memory.frames }) n old.posted

-- the transfer is an output
abbrev pub IsOutput : Option Transfer → Type 0
IsOutput None = ⊥
IsOutput (Some t) = is_inward t.dir ≡ false

-- its buffer is the application's, where the transfer has not to give up a region
abbrev pub is_app : Class → Bool
is_app Copy = true
is_app Share = true
is_app Move = false
is_app WeakMove = false
