-- What a device has sent is a front of the records of its accepted outputs.
use Rattle.std.proofs.Common.{◌≡◌, ℕ, zero, suc, ◌+◌, List, [], ◌∷◌, refl, subst}
use Rattle.std.specs.Prelude.{Option, Some, None, IsTrue, All}
use Rattle.std.proofs.lemmas.List.Elements.{All-head, All-tail}
use Rattle.genie_base.specs.Configs.{DeviceConfig}
use Rattle.genie_base.specs.Events.{is_whole, mark_of}
use Rattle.genie_base.specs.declared.event.Event.{Event}
use Rattle.genie_base.specs.declared.reply.Reply.{Reply}
use Rattle.genie_model.specs.Sending.{sent_by, sent_of}
use Rattle.genie_model.specs.State.{State, boot, boot_devices}
use Rattle.genie_model.specs.Tables.{entry}
use Rattle.genie_model.specs.Refusing.{has_output}
use Rattle.genie_model.specs.Step.{step, Follows}
use Rattle.genie_orderly.specs.Orderly.{IsOrderly}
use Rattle.genie_laws.specs.Integrity.{states, accepted, outputs, OutputsKeepIntegrity}
use Rattle.genie_orderly.specs.Steps.{Stays, BootIsOrderly}
use Rattle.genie_model.specs.Lemmas.SendQueues.{queue}
use Rattle.genie_laws.proofs.Outputs.ReceiveSteps.{OnDevice, Meets}
use Rattle.genie_laws.proofs.Outputs.Records.{AreWaiting, Leaves, leaves_now}
use Rattle.genie_laws.proofs.Outputs.Turns.{Turn, turn_waiting, turn_leaves}
use Rattle.genie_laws.proofs.Outputs.SendSteps.{queue_lies}
use Rattle.genie_laws.proofs.Outputs.Events.{step_goes}

-- what a run sends from a state on
run_leaves : Stays IsOrderly → (d : ℕ) (s : State) (es : List Event) (rs : List Reply) (last : State) → IsOrderly s → AreWaiting (queue d s.transfers) → Meets d s → All (λ (e : Event). IsTrue (is_whole e)) es → Follows s es rs last
    → Leaves (queue d s.transfers) (sent_of s d) (states s es rs) (outputs d s es rs) (sent_of last d)
run_leaves stay d s [] [] last o w meets whole h = subst (λ t. Leaves (queue d s.transfers) (sent_of s d) (s ∷ []) [] (sent_of t d)) h (leaves_now s (queue d s.transfers) (sent_of s d) o (queue_lies d s o) w)
run_leaves stay d s (e ∷ es) (r ∷ rs) last o w meets whole h =
    let t : State = (step s e (mark_of r)).0 in
    let Whole : Event → Type 0 = λ x. IsTrue (is_whole x) in
    let goes = step_goes d s e (mark_of r) o w meets in
    let turn = subst (λ x. Turn d s (queue d t.transfers) (sent_of t d) (accepted d s e x)) h.0 goes.0 in
    turn_leaves d s (queue d t.transfers) (sent_of t d) (accepted d s e r) (states t es rs) (outputs d t es rs) (sent_of last d) turn w
    (run_leaves stay d t es rs last (stay s e (mark_of r) (All-head Whole e es whole) o) (turn_waiting d s (queue d t.transfers) (sent_of t d) (accepted d s e r) turn w) goes.1 (All-tail Whole e es whole) h.1)
run_leaves stay d s [] (r ∷ rs) last o w meets whole h = absurd h
run_leaves stay d s (e ∷ es) [] last o w meets whole h = absurd h

-- at first nothing is sent, and no datagram is there
pub boot_meets : (inputs : ℕ → List ℕ) (configs : List (Option DeviceConfig)) (from dev : ℕ) → OnDevice [] 1 (has_output (entry configs dev)) (entry (boot_devices inputs from configs) dev)
boot_meets inputs [] from dev = refl
boot_meets inputs (None ∷ configs) from zero = refl
boot_meets inputs (Some c ∷ configs) from zero = tt
boot_meets inputs (c ∷ configs) from (suc dev) = boot_meets inputs configs (from + 1) dev

pub boot_sent : (inputs : ℕ → List ℕ) (configs : List (Option DeviceConfig)) (from d : ℕ) → sent_by (entry (boot_devices inputs from configs) d) ≡ []
boot_sent inputs [] from d = refl
boot_sent inputs (None ∷ configs) from zero = refl
boot_sent inputs (Some c ∷ configs) from zero = refl
boot_sent inputs (c ∷ configs) from (suc d) = boot_sent inputs configs (from + 1) d

pub outputs_keep_integrity : BootIsOrderly → Stays IsOrderly → OutputsKeepIntegrity
outputs_keep_integrity boots stay c inputs es rs last d fits whole h =
    let l = run_leaves stay d (boot c inputs) es rs last (boots c inputs fits) tt (λ dev. boot_meets inputs c.devices 0 dev) whole h in
    record { payloads = l.payloads; are = l.are; left = l.left; front = rw (boot_sent inputs c.devices 0 d) at l.front }
