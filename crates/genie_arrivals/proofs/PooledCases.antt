-- An input on a pooled device that has nowhere to put its bytes.
use Rattle.std.proofs.Common.{◌≡◌, ℕ, Bool, true, false, ap, ◌∙◌}
use Rattle.std.specs.Prelude.{Option, Some, None, IfSome, IsSome, find}
use Rattle.genie_base.specs.Transfers.{class_of}
use Rattle.genie_base.specs.declared.semantics.Class.{Class}
use Rattle.genie_base.specs.declared.semantics.Class.TheVariants.{Copy, Share, Move, WeakMove}
use Rattle.genie_kernel.specs.declared.kernel.Kernel.{Kernel}
use Rattle.genie_kernel.specs.declared.transfer.Transfer.{Transfer}
use Rattle.genie_kernel.specs.Calls.{has_number}
use Rattle.genie_kernel.specs.Regions.{owned_regions}
use Rattle.genie_arrivals.specs.Pooled.{IsOwned, IsPooledInput, IsPooledOf}
use Rattle.genie_arrivals.specs.Replies.{is_there}
use Rattle.genie_arrivals.specs.Waiting.{IsLateGone, IsLateLost, LosesBytes}
use Rattle.genie_arrivals.proofs.PooledAt.{pooled_waits}
use Rattle.genie_arrivals.proofs.PooledShare.{some_owner}

both : {P Q R : Transfer → Type 0} → ((t : Transfer) → P t → Q t → R t) → (o : Option Transfer) → IfSome o P → IfSome o Q → IfSome o R
both f None h l = tt
both f (Some t) h l = f t h l

pub pooled_gone : (k : Kernel) (n : ℕ) (class : Class) → IsPooledInput class k n → IfSome (find (has_number n) k.transfers) (λ (t : Transfer). t.owner ≡ None) → IsLateGone k n
pooled_gone k n class case gone = both (λ (t : Transfer) (is : IsPooledOf class k.devices t) (none : t.owner ≡ None). record { waiting = pooled_waits k.devices t is.inward is.pooled; gone = none }) (find (has_number n) k.transfers) case gone

-- only the bytes of a copy input don't go to a region that it names
abbrev pub is_copy : Class → Bool
is_copy Copy = true
is_copy Share = false
is_copy Move = false
is_copy WeakMove = false

loses : (k : Kernel) (t : Transfer) (class : Class) → is_copy class ≡ false → is_there (owned_regions k.spaces.processes) t ≡ false → LosesBytes k t class
loses k t Copy named e = absurd (cc)
loses k t Share named e = e
loses k t Move named e = e
loses k t WeakMove named e = e

pub pooled_lost : (k : Kernel) (n : ℕ) (class : Class) → is_copy class ≡ false → IsPooledInput class k n → IsOwned k n → IfSome (find (has_number n) k.transfers) (λ (t : Transfer). is_there (owned_regions k.spaces.processes) t ≡ false) → IsLateLost k n
pooled_lost k n class named case owner lost =
    both {Q = λ (t : Transfer). IsSome t.owner × (is_there (owned_regions k.spaces.processes) t ≡ false)} (λ (t : Transfer) (is : IsPooledOf class k.devices t) h.
    let p = some_owner t.owner h.0 in
    record { waiting = pooled_waits k.devices t is.inward is.pooled; pid = p.0; owner = p.1; loses = loses k t (class_of t.sem) (ap is_copy is.class_is ∙ named) h.1 })
    (find (has_number n) k.transfers) case (both (λ t a b. (a, b)) (find (has_number n) k.transfers) owner lost)
