-- What a device receives for.
use Rattle.std.proofs.Common.{◌≡◌, ℕ, subst}
use Rattle.std.specs.Prelude.{Option, Some, None, IfSome, option_and_then}
use Rattle.genie_model.specs.declared.fate.Fate.{Fate}
use Rattle.genie_model.specs.declared.fate.Fate.TheVariants.{Matched, Skipped, Gathering}
use Rattle.genie_model.specs.State.{State, Device, Datagram}
use Rattle.genie_orderly.specs.Orderly.{matched_to, receives_for, IsInput, GoesToInput, IsUnderWay, ReceivesForInput}

-- a device receives for an input alone
pub received_input : (s : State) (d : ℕ) (v : Option Device) (k : ℕ) → ReceivesForInput s d v → receives_for v ≡ Some k → IsInput s d k
received_input s d None k goes e = absurd (cc)
received_input s d (Some v) k goes e = of_datagram v.present goes e
  where
    of_fate : (fate : Fate) → GoesToInput s d fate → matched_to fate ≡ Some k → IsInput s d k
    of_fate Skipped goes e = absurd (cc)
    of_fate (Matched n) goes e = let same : n ≡ k = cc in subst (IsInput s d) same goes
    of_fate Gathering goes e = absurd (cc)

    of_datagram : (o : Option Datagram) → IfSome o (IsUnderWay s d) → option_and_then (λ (g : Datagram). matched_to g.fate) o ≡ Some k → IsInput s d k
    of_datagram None under e = absurd (cc)
    of_datagram (Some g) under e = of_fate g.fate under.input e
