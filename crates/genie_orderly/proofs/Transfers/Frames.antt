-- How many frames the pending transfers may need.
use Rattle.std.proofs.Common.{arith}
use Rattle.std.proofs.lemmas.List.Sums.{sum_by_push}
use Rattle.std.specs.Prelude.{Option, Some, None}
use Rattle.genie_model.specs.State.{State, Transfer}
use Rattle.genie_orderly.specs.Orderly.{WiredIsBounded}
use Rattle.genie_orderly.specs.Steps.{Stays}
use Rattle.genie_model.specs.Pending.{cost_of}
use Rattle.genie_model.specs.Lemmas.PendingCalls.{remain_cost}
use Rattle.genie_orderly.specs.Lemmas.KeptCalls.{Keeps, call_of, with_call, steps_keep}
use Rattle.genie_orderly.specs.Lemmas.AcceptedCalls.{IsAccepted, OnCall, accepted}

wired_kept : (s t : State) → Keeps s t → WiredIsBounded s → WiredIsBounded t
wired_kept s t k h = let less = remain_cost s.config.page k.left in rw (k.config) (omega (arith, less, h))

wired_added : (s : State) (c : Option Transfer) → OnCall (IsAccepted s) c → WiredIsBounded s → WiredIsBounded (with_call s c)
wired_added s None a h = h
wired_added s (Some t) a h = let sum = sum_by_push (cost_of s.config.page) s.transfers t in omega (arith, sum, a.wired)

pub wired_is_bounded : Stays WiredIsBounded
wired_is_bounded s e m whole orderly = steps_keep WiredIsBounded wired_kept s e m orderly.wired (λ none. wired_added s (call_of s e) (accepted s e orderly.config whole none) orderly.wired)
