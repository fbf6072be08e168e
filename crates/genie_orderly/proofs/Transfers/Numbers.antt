-- The numbers of the pending transfers.
use Rattle.genie_orderly.specs.Orderly.{NumbersRise}
use Rattle.genie_orderly.specs.Steps.{Stays}
use Rattle.genie_orderly.specs.Lemmas.KeptCalls.{call_of, steps_keep}
use Rattle.genie_orderly.specs.Lemmas.AcceptedCalls.{accepted, numbers_kept, number_added}

pub numbers_rise : Stays NumbersRise
numbers_rise s e m whole orderly = steps_keep NumbersRise numbers_kept s e m orderly.transfers (λ none. number_added s (call_of s e) (accepted s e orderly.config whole none) orderly.transfers)
