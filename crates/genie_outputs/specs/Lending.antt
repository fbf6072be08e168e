-- The frames that a new output of class Copy is lent.
use Rattle.std.specs.Prelude.{◌≡◌, ℕ, ◌/◌, Bool, true, false, [], ◌∷◌, ◌++◌}
use Rattle.genie_base.specs.Transfers.{class_of}
use Rattle.genie_base.specs.declared.reply.Reply.{Reply}
use Rattle.genie_base.specs.declared.reply.Reply.TheVariants as reply
use Rattle.genie_base.specs.declared.semantics.Class.TheVariants.{Copy}
use Rattle.genie_region.specs.declared.region.Region.{Region}
use Rattle.genie_tcow.specs.Owning.{AreOwnFrames, AreTransfers}
use Rattle.genie_kernel.specs.declared.kernel.Kernel.{Kernel}
use Rattle.genie_kernel.specs.declared.transfer.Transfer.{Transfer}
use Rattle.genie_kernel.specs.Loans.{loans_of}
use Rattle.genie_outputs.specs.declared.call.Call.{Call}
use Rattle.genie_outputs.specs.Calls.{Reaches, is_plain, place_in}

-- there is one transfer more, whose loans are on frames of its own
pub record LendsCopies (old new : Kernel) : Type 0 where
  pub transfer : Transfer
  pub is_new : new.transfers ≡ old.transfers ++ transfer ∷ []
  pub system : AreTransfers transfer.id.0 (loans_of transfer.loans) new.memory.frames

-- there is one transfer more, and each page of the call's range that wasn't weakly held is in the frame that the transfer's
-- loan of this page is on
pub record LendsOwn (old new : Kernel) (c : Call) : Type 0 where
  pub region : Region
  pub reached : Reaches old c region
  pub transfer : Transfer
  pub is_new : new.transfers ≡ old.transfers ++ transfer ∷ []
  pub own : AreOwnFrames old.memory new.memory region.object.0 (place_in old.config.page c region / old.config.page) (loans_of transfer.loans)

-- a call that is a copy lends frames of its own, and one that isn't the pages' own
abbrev pub LendsBy : Bool → Kernel → Kernel → Call → Type 0
LendsBy true old new c = LendsCopies old new
LendsBy false old new c = LendsOwn old new c

abbrev pub LendsFrames : Kernel → Kernel → Call → Reply → Type 0
LendsFrames old new c answer = (n : ℕ) → class_of c.sem ≡ Copy → answer ≡ reply.Id n → LendsBy (is_plain c.sem c.len old.config.cout) old new c
