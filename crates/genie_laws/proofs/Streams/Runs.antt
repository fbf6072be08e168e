-- In every run devices take the records of their input.
use Rattle.std.proofs.Common.{◌≡◌, ℕ, zero, suc, ◌+◌, List, [], ◌∷◌, ◌++◌, All, refl, ap, arith}
use Rattle.std.specs.Prelude.{Option, Some, None, IfSome, IsTrue}
use Rattle.std.proofs.lemmas.List.Elements.{All-head, All-tail}
use Rattle.genie_base.specs.Configs.{Config, DeviceConfig}
use Rattle.genie_base.specs.Events.{is_whole, mark_of}
use Rattle.genie_base.specs.declared.event.Event.{Event}
use Rattle.genie_base.specs.declared.reply.Reply.{Reply}
use Rattle.genie_model.specs.State.{State, boot, boot_devices}
use Rattle.genie_model.specs.Tables.{entry}
use Rattle.genie_model.specs.Step.{step, Follows}
use Rattle.genie_orderly.specs.Orderly.{IsOrderly}
use Rattle.genie_orderly.specs.Steps.{Stays, BootIsOrderly}
use Rattle.genie_laws.specs.Streams.{Taken, Reads, HasTaken, Takes, InputsGetRecords}
use Rattle.genie_laws.proofs.Streams.Events.{step_goes}

abbrev AllTake : (ℕ → List ℕ) → State → Type 0
AllTake inputs s = (x : ℕ) → (taken : List Taken) × HasTaken (inputs x) x taken s

takes : Stays IsOrderly → (inputs : ℕ → List ℕ) (d : ℕ) (taken : List Taken) (s : State) (es : List Event) (rs : List Reply) (last : State) → IsOrderly s → AllTake inputs s → HasTaken (inputs d) d taken s → All (λ (e : Event). IsTrue (is_whole e)) es → Follows s es rs last → Takes (inputs d) d taken s es rs
takes stay inputs d taken s [] [] last o all h whole f = h
takes stay inputs d taken s (e ∷ es) (r ∷ rs) last o all h whole f =
    let t : State = (step s e (mark_of r)).0 in
    let Whole : Event → Type 0 = λ x. IsTrue (is_whole x) in
    let next : AllTake inputs t = λ x. let old = all x in let goes = step_goes inputs s o all x old.0 old.1 e (mark_of r) in (old.0 ++ goes.0, goes.2) in
    let goes = step_goes inputs s o all d taken h e (mark_of r) in
    (h, (goes.0, goes.1, takes stay inputs d (taken ++ goes.0) t es rs last (stay s e (mark_of r) (All-head Whole e es whole) o) next goes.2 (All-tail Whole e es whole) f.1))
takes stay inputs d taken s [] (r ∷ rs) last o all h whole f = absurd f
takes stay inputs d taken s (e ∷ es) [] last o all h whole f = absurd f

-- at first nothing is taken
boot_reads : (inputs : ℕ → List ℕ) (configs : List (Option DeviceConfig)) (from d n : ℕ) → from + d ≡ n → IfSome (entry (boot_devices inputs from configs) d) (Reads (inputs n) [] [] [])
boot_reads inputs [] from d n e = tt
boot_reads inputs (None ∷ configs) from zero n e = tt
boot_reads inputs (Some c ∷ configs) from zero n e = let same : n ≡ from = omega (arith, e) in (ap inputs same, (refl, λ _. (refl, refl)))
boot_reads inputs (c ∷ configs) from (suc d) n e = boot_reads inputs configs (from + 1) d n (omega (arith, e))

boot_takes : (c : Config) (inputs : ℕ → List ℕ) (d : ℕ) → HasTaken (inputs d) d [] (boot c inputs)
boot_takes c inputs d = record {
  header = [];
  payload = [];
  device = boot_reads inputs c.devices 0 d d (omega arith);
  calls = λ i x lt. absurd (omega arith);
  apart = λ i j x lt within. absurd (omega arith);
  inputs = λ i x lt. absurd (omega arith);
}

pub inputs_get_records : BootIsOrderly → Stays IsOrderly → InputsGetRecords
inputs_get_records boots stay c inputs es rs last d fits whole f = takes stay inputs d [] (boot c inputs) es rs last (boots c inputs fits) (λ x. ([], boot_takes c inputs x)) (boot_takes c inputs d) whole f
