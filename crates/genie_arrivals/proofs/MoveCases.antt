-- A move input on an outboard device whose bytes have nowhere to go.
use Rattle.std.proofs.Common.{◌≡◌, ℕ, false, subst, sym}
use Rattle.std.specs.Prelude.{None, IfSome, IsSome, find}
use Rattle.genie_base.specs.declared.semantics.Class.TheVariants.{Move}
use Rattle.genie_kernel.specs.declared.kernel.Kernel.{Kernel}
use Rattle.genie_kernel.specs.declared.transfer.Transfer.{Transfer}
use Rattle.genie_kernel.specs.Calls.{has_number}
use Rattle.genie_kernel.specs.Regions.{owned_regions}
use Rattle.genie_arrivals.specs.Outboard.{IsLateOutboard, IsOutboardInput}
use Rattle.genie_arrivals.specs.Pooled.{IsOwned}
use Rattle.genie_arrivals.specs.Replies.{is_there}
use Rattle.genie_arrivals.specs.Waiting.{IsLateGone, IsLateLost, LosesBytes}
use Rattle.genie_arrivals.proofs.LateAim.{both_some}
use Rattle.genie_arrivals.proofs.PooledShare.{some_owner}
use Rattle.genie_arrivals.proofs.WeakPlan.{is_waiting}

pub move_gone : (k : Kernel) (n : ℕ) → IsLateOutboard Move k n → IfSome (find (has_number n) k.transfers) (λ (t : Transfer). t.owner ≡ None) → IsLateGone k n
move_gone k n case gone = both_some (λ (t : Transfer) (is : IsOutboardInput Move k.devices t) (none : t.owner ≡ None). record { waiting = is_waiting k t is.inward is.outboard; gone = none }) (find (has_number n) k.transfers) case gone

pub move_lost : (k : Kernel) (n : ℕ) → IsLateOutboard Move k n → IsOwned k n → IfSome (find (has_number n) k.transfers) (λ (t : Transfer). is_there (owned_regions k.spaces.processes) t ≡ false) → IsLateLost k n
move_lost k n case owner lost =
    both_some {Q = λ (t : Transfer). IsSome t.owner × (is_there (owned_regions k.spaces.processes) t ≡ false)} (λ (t : Transfer) (is : IsOutboardInput Move k.devices t) h.
    let p = some_owner t.owner h.0 in
    record { waiting = is_waiting k t is.inward is.outboard; pid = p.0; owner = p.1; loses = subst (LosesBytes k t) (sym is.class_is) h.1 })
    (find (has_number n) k.transfers) case (both_some (λ t a b. (a, b)) (find (has_number n) k.transfers) owner lost)
