-- The state that the devices' inputs make is the boot's with these inputs.
use Rattle.std.proofs.Common.{◌≡◌, ◌≢◌, ℕ, zero, suc, ◌+◌, ◌≤◌, List, [], ◌∷◌, length, refl, ap, ◌∙◌, arith, subst}
use Rattle.std.specs.Prelude.{Option, Some, None, ◌==◌, IfSome, slice_set, if◌then◌else◌}
use Rattle.std.proofs.lemmas.Bool.Decides.{nat_tests}
use Rattle.std.specs.Io.KnownBytes.{Keeps}
use Rattle.genie_base.specs.Configs.{Config, DeviceConfig}
use Rattle.genie_host.specs.Host.{HostView}
use Rattle.genie_model.specs.Receiving.{with_input}
use Rattle.genie_model.specs.Receiving.{with_rest}
use Rattle.genie_model.specs.Sending.{change_device}
use Rattle.genie_model.specs.State.{State, boot, boot_device, boot_devices}
use Rattle.genie_model.specs.Tables.{entry}
use Rattle.genie_script.specs.declared.line.DeviceLine.{DeviceLine}
use Rattle.genie_replay.specs.Files.{HoldsOfInput, HoldsOfInputs, openings_of}
use Rattle.genie_replay.specs.Inputs.{AreTold, HasInputs, IsTold, SetsInput, SetsInputs, Tells, inputs_from, told_by, with_file}
use Rattle.genie_replay.specs.Plays.{IsFirst}

abbrev pub put_at : (ℕ → List ℕ) → ℕ → List ℕ → ℕ → List ℕ
put_at f j b k = if k == j then b else f k

put_here : (f : ℕ → List ℕ) (j k : ℕ) (b : List ℕ) → k ≡ j → put_at f j b k ≡ b
put_here f j k b e = grind (arith, nat_tests, e)

put_there : (f : ℕ → List ℕ) (j k : ℕ) (b : List ℕ) → k ≢ j → put_at f j b k ≡ f k
put_there f j k b e = grind (arith, nat_tests, e)

head_set : (f g : ℕ → List ℕ) (m : ℕ) (b : List ℕ) (c : Option DeviceConfig) → g m ≡ b → change_device (with_rest b) (boot_device f m c) ≡ boot_device g m c
head_set f g m b None e = refl
head_set f g m b (Some c) e = rw e refl

head_same : (f g : ℕ → List ℕ) (m : ℕ) (c : Option DeviceConfig) → g m ≡ f m → boot_device f m c ≡ boot_device g m c
head_same f g m None e = refl
head_same f g m (Some c) e = rw e refl

devices_same : (f g : ℕ → List ℕ) (m : ℕ) (cs : List (Option DeviceConfig)) → ((k : ℕ) → m ≤ k → g k ≡ f k) → boot_devices f m cs ≡ boot_devices g m cs
devices_same f g m [] same = refl
devices_same f g m (c ∷ cs) same = rw (head_same f g m c (same m (omega arith)), devices_same f g (m + 1) cs (λ k low. same k (omega arith))) refl

input_devices : (f : ℕ → List ℕ) (m i j : ℕ) (b : List ℕ) (cs : List (Option DeviceConfig)) → j ≡ m + i → slice_set (boot_devices f m cs) i (change_device (with_rest b) (entry (boot_devices f m cs) i)) ≡ boot_devices (put_at f j b) m cs
input_devices f m i j b [] e = refl
input_devices f m zero j b (c ∷ cs) e =
    rw (head_set f (put_at f j b) m b c (put_here f j m b (omega (arith, e))), devices_same f (put_at f j b) (m + 1) cs (λ k low. put_there f j k b (λ x. omega (arith, e, x, low)))) refl
input_devices f m (suc i) j b (c ∷ cs) e =
    rw (head_same f (put_at f j b) m c (put_there f j m b (λ x. omega (arith, e, x))), input_devices f (m + 1) i j b cs (omega (arith, e))) refl

-- a device's input, set after the boot, is that of a boot with this input
input_boot : (c : Config) (f : ℕ → List ℕ) (d : ℕ) (b : List ℕ) → with_input (boot c f) d b ≡ boot c (put_at f d b)
input_boot c f d b = ap (λ devices. record (boot c f) { devices = devices }) (input_devices f 0 d d b c.devices (omega arith))

told_bytes : (content told : Option (List ℕ)) (bytes : List ℕ) → content ≢ None → Keeps content told → Tells told bytes → bytes ≡ told_by content
told_bytes None told bytes some k t = absurd (some refl)
told_bytes (Some x) None bytes some k t = absurd k
told_bytes (Some x) (Some y) bytes some k t = t ∙ k

abbrev pub KeptInput : (List ℕ → Option (List ℕ)) → HostView → List ℕ → ℕ → Type 0
KeptInput names host name handle = Keeps (names name) (host.handle handle).bytes

some_same : (s t : State) → Some s ≡ Some t → s ≡ t
some_same s t e = cc

set_boot : (names : List ℕ → Option (List ℕ)) (c : Config) (inputs : ℕ → List ℕ) (host : HostView) (handle number : ℕ) (o : Option (List ℕ)) (t : State) → IsTold names o → HoldsOfInput (KeptInput names host) o handle → SetsInput o number (host.handle handle).bytes (boot c inputs) t → t ≡ boot c (with_file names inputs number o)
set_boot names c inputs host handle number None t some kept p = p
set_boot names c inputs host handle number (Some name) t some kept p =
    let bytes : p.bytes ≡ told_by (names name) = told_bytes (names name) (host.handle handle).bytes p.bytes some kept p.tells in
    some_same t (with_input (boot c inputs) number p.bytes) p.is ∙ ap (with_input (boot c inputs) number) bytes ∙ input_boot c inputs number (told_by (names name))

pub sets_boot : (names : List ℕ → Option (List ℕ)) (c : Config) (inputs : ℕ → List ℕ) (host : HostView) (opened : ℕ) (ds : List DeviceLine) (t : State)
    → AreTold names ds → HoldsOfInputs (KeptInput names host) opened ds → SetsInputs host opened ds (boot c inputs) t → t ≡ boot c (inputs_from names inputs ds)
sets_boot names c inputs host opened [] t told kept p = p
sets_boot names c inputs host opened (d ∷ ds) t told kept p =
    let first : p.0 ≡ boot c (with_file names inputs d.number d.input) = set_boot names c inputs host (opened + 1) d.number d.input p.0 told.0 kept.0 p.1 in
    sets_boot names c (with_file names inputs d.number d.input) host (opened + length (openings_of d)) ds t told.1 kept.1 (subst (λ s. SetsInputs host (opened + length (openings_of d)) ds s t) first p.2)

-- whatever the files have, the state is a boot with some inputs
set_some : (c : Config) (inputs : ℕ → List ℕ) (number : ℕ) (o told : Option (List ℕ)) (t : State) → SetsInput o number told (boot c inputs) t → (f : ℕ → List ℕ) × (t ≡ boot c f)
set_some c inputs number None told t p = (inputs, p)
set_some c inputs number (Some name) told t p = (put_at inputs number p.bytes, some_same t (with_input (boot c inputs) number p.bytes) p.is ∙ input_boot c inputs number p.bytes)

pub sets_some : (c : Config) (inputs : ℕ → List ℕ) (host : HostView) (opened : ℕ) (ds : List DeviceLine) (t : State) → SetsInputs host opened ds (boot c inputs) t → (f : ℕ → List ℕ) × (t ≡ boot c f)
sets_some c inputs host opened [] t p = (inputs, p)
sets_some c inputs host opened (d ∷ ds) t p =
    let first = set_some c inputs d.number d.input (host.handle (opened + 1)).bytes p.0 p.1 in
    sets_some c first.0 host (opened + length (openings_of d)) ds t (subst (λ s. SetsInputs host (opened + length (openings_of d)) ds s t) first.1 p.2)

set_next : (o : Option (List ℕ)) (number : ℕ) (told : Option (List ℕ)) (s t : State) → SetsInput o number told s t → t.next ≡ s.next
set_next None number told s t p = ap (λ (x : State). x.next) p
set_next (Some name) number told s t p = ap (λ (x : State). x.next) (some_same t (with_input s number p.bytes) p.is)

sets_next : (host : HostView) (opened : ℕ) (ds : List DeviceLine) (s t : State) → SetsInputs host opened ds s t → t.next ≡ s.next
sets_next host opened [] s t p = ap (λ (x : State). x.next) p
sets_next host opened (d ∷ ds) s t p = sets_next host (opened + length (openings_of d)) ds p.0 t p.2 ∙ set_next d.input d.number (host.handle (opened + 1)).bytes s p.0 p.1

-- no call was accepted yet
pub first_number : (host : HostView) (ds : List DeviceLine) (c : Config) (machine : Option State) → HasInputs host 1 ds (boot c (λ _. [])) machine → IfSome machine IsFirst
first_number host ds c machine h = rw h.is (sets_next host 1 ds (boot c (λ _. [])) h.now h.sets)
