-- Steps that leave the files of devices as they are.
use Rattle.std.proofs.Common.{◌≡◌, ℕ, true, false, List, [], ◌++◌, refl, sym, ap, subst, ◌∙◌, append-nil, eqb-true}
use Rattle.std.specs.Prelude.{Option, Some, None, ◌==◌, if◌then◌else◌}
use Rattle.std.specs.Io.KnownBytes.{Appends, Consumes}
use Rattle.genie_base.specs.declared.event.Event.{Event}
use Rattle.genie_base.specs.declared.reply.Reply.{Reply}
use Rattle.genie_host.specs.Host.{HostView}
use Rattle.genie_store.specs.StoreView.{StoreView}
use Rattle.genie_model.specs.Tables.{entry}
use Rattle.genie_kernel.specs.declared.kernel.Kernel.{Kernel}
use Rattle.std.specs.Option.{option_map}
use Rattle.genie_object.specs.Memory.{Seen, seen}
use Rattle.genie_model.specs.Refusing.{refuse}
use Rattle.genie_kernel.specs.View.{outline, state_of}
use Rattle.genie_kernel.specs.Lemmas.Stepping.{accepted_step}
use Rattle.genie_kernel.specs.Steps.{StepsAlone, StepsTold, bytes_over}
use Rattle.genie_kernel.specs.Told.{input_at, output_at, told_at}
use Rattle.genie_changes.specs.Filling.{AreFiles, StepsFilled, device_of, filled_at, state_over}

-- a file with its own bytes
pub filled_same : (d : ℕ) (files : ℕ → List ℕ) (bytes : List ℕ) → bytes ≡ files d → filled_at d bytes files ≡ files
filled_same d files bytes own = λ i j. each j i
  where
    each : (j : ℕ) → (if j == d then bytes else files j) ≡ files j
    each j = elim (j == d) as (λ b. (j == d) ≡ b → (if b then bytes else files j) ≡ files j) [
      | true ↦ λ e. own ∙ ap files (sym (eqb-true j d e))
      | false ↦ λ e. refl
    ] refl

-- and with them again after others
pub filled_twice : (d : ℕ) (bytes : List ℕ) (files : ℕ → List ℕ) → filled_at d (files d) (filled_at d bytes files) ≡ files
filled_twice d bytes files = λ i j. each j i
  where
    each : (j : ℕ) → (if j == d then files d else (if j == d then bytes else files j)) ≡ files j
    each j = elim (j == d) as (λ b. (j == d) ≡ b → (if b then files d else (if b then bytes else files j)) ≡ files j) [
      | true ↦ λ e. ap files (sym (eqb-true j d e))
      | false ↦ λ e. refl
    ] refl

-- where bytes are known, none more are
pub none_taken : (a b : Option (List ℕ)) → b ≡ a → Consumes a b []
none_taken a b e = subst (λ (x : Option (List ℕ)). Consumes a x []) (sym e) (own a)
  where
    own : (a : Option (List ℕ)) → Consumes a a []
    own None = tt
    own (Some x) = refl

pub none_sent : (a b : Option (List ℕ)) → b ≡ a → Appends a b []
none_sent a b e = subst (λ (x : Option (List ℕ)). Appends a x []) (sym e) (own a)
  where
    own : (a : Option (List ℕ)) → Appends a a []
    own None = tt
    own (Some x) = sym (append-nil x)

-- an event that leaves the host as it is
pub still_filled : (old new : Kernel) (e : Event) (r : Reply) (host : HostView) (v w : StoreView) → ((rests sents : ℕ → List ℕ) → AreFiles input_at old.config.devices rests → AreFiles output_at old.config.devices sents → StepsTold (state_over old v rests sents) e (state_over new w rests sents) r) → StepsFilled old e new r host host v w
still_filled old new e r host v w steps = record {
  taken = [];
  sent = [];
  ended = false;
  input = none_taken (told_at host (input_at (entry old.config.devices (device_of e)))) (told_at host (input_at (entry old.config.devices (device_of e)))) refl;
  output = none_sent (told_at host (output_at (entry old.config.devices (device_of e)))) (told_at host (output_at (entry old.config.devices (device_of e)))) refl;
  at_end = λ is. let clash : false ≡ true = is in absurd (cc);
  steps = λ rests sents a b left.
      subst (λ (x : ℕ → List ℕ). StepsTold (state_over old v x sents) e (state_over new w rests (filled_at (device_of e) (sents (device_of e) ++ []) sents)) r) (sym (filled_same (device_of e) rests ([] ++ rests (device_of e)) refl))
      (subst (λ (x : ℕ → List ℕ). StepsTold (state_over old v rests sents) e (state_over new w rests x) r) (sym (filled_same (device_of e) sents (sents (device_of e) ++ []) (append-nil (sents (device_of e))))) (steps rests sents a b));
}

-- an event that touches neither the host nor the store
pub alone_filled : (old new : Kernel) (e : Event) (r : Reply) (host : HostView) (v : StoreView) → refuse (outline old) e ≡ None → StepsAlone old e new r → StepsFilled old e new r host host v v
alone_filled old new e r host v accepted alone = still_filled old new e r host v v (λ rests sents a b. by_slots v.slots rests sents)
  where
    by_slots : (slots : Option (ℕ → List ℕ)) (rests sents : ℕ → List ℕ) → StepsTold (option_map (λ (z : Seen). state_of old (record { seen = z; rests = rests; sents = sents })) (option_map (seen old.memory) slots)) e (option_map (λ (z : Seen). state_of new (record { seen = z; rests = rests; sents = sents })) (option_map (seen new.memory) slots)) r
    by_slots None rests sents = tt
    by_slots (Some slots) rests sents = accepted_step old (bytes_over old.memory slots rests sents) e (state_of new (bytes_over new.memory slots rests sents)) r accepted (alone slots rests sents)
