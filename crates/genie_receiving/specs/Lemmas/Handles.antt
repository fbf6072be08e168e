-- The handle of a device's input is no other device's, and no output's.
use Rattle.std.proofs.Common.{◌≡◌, ◌≢◌, ℕ, ◌≤◌, zero, suc, List, [], ◌∷◌, refl, sym, ap, subst, arith, ◌∙◌, ⊎_elim, eq-eqb}
use Rattle.std.specs.Prelude.{Option, Some, None, IfSome, flat_map, ◌==◌}
use Rattle.genie_base.specs.Lemmas.Places.{same_or}
use Rattle.genie_base.specs.declared.config.Config.{Config}
use Rattle.genie_base.specs.declared.config.DeviceConfig.{DeviceConfig}
use Rattle.genie_host.specs.Host.{HostView, Reading}
use Rattle.genie_orderly.specs.Lemmas.RegionNumbers.{one, times, times-append, once_each}
use Rattle.genie_model.specs.Tables.{entry}
use Rattle.genie_kernel.specs.Handles.{HasHandles, IsOpen, handles, handles_of, listed}
use Rattle.genie_kernel.specs.Told.{input_at, output_at}
use Rattle.genie_device.specs.Device.{IsReading}

listed_one : (h : ℕ) (o : Option ℕ) → o ≡ Some h → times h (listed o) ≡ 1
listed_one h o e = ap (λ x. times h (listed x)) e ∙ (let here : one (h == h) ≡ 1 = ap one (eq-eqb h h refl) in omega (arith, here))

-- it is among the handles of its device
as_input : (h : ℕ) (o : Option DeviceConfig) → input_at o ≡ Some h → 1 ≤ times h (handles_of o)
as_input h None e = absurd (cc)
as_input h (Some c) e = omega (arith, listed_one h c.input e, times-append h (listed c.input) (listed c.output))

as_output : (h : ℕ) (o : Option DeviceConfig) → output_at o ≡ Some h → 1 ≤ times h (handles_of o)
as_output h None e = absurd (cc)
as_output h (Some c) e = omega (arith, listed_one h c.output e, times-append h (listed c.input) (listed c.output))

as_both : (h : ℕ) (o : Option DeviceConfig) → input_at o ≡ Some h → output_at o ≡ Some h → 2 ≤ times h (handles_of o)
as_both h None e f = absurd (cc)
as_both h (Some c) e f = omega (arith, listed_one h c.input e, listed_one h c.output f, times-append h (listed c.input) (listed c.output))

-- so often it is among all
at_place : (h : ℕ) (ds : List (Option DeviceConfig)) (d : ℕ) → 1 ≤ times h (handles_of (entry ds d)) → 1 ≤ times h (flat_map handles_of ds)
at_place h [] d l = absurd (omega (arith, l))
at_place h (x ∷ ds) zero l = omega (arith, l, times-append h (handles_of x) (flat_map handles_of ds))
at_place h (x ∷ ds) (suc d) l = omega (arith, at_place h ds d l, times-append h (handles_of x) (flat_map handles_of ds))

in_one : (h : ℕ) (ds : List (Option DeviceConfig)) (d : ℕ) → 2 ≤ times h (handles_of (entry ds d)) → 2 ≤ times h (flat_map handles_of ds)
in_one h [] d l = absurd (omega (arith, l))
in_one h (x ∷ ds) zero l = omega (arith, l, times-append h (handles_of x) (flat_map handles_of ds))
in_one h (x ∷ ds) (suc d) l = omega (arith, in_one h ds d l, times-append h (handles_of x) (flat_map handles_of ds))

in_two : (h : ℕ) (ds : List (Option DeviceConfig)) (d j : ℕ) → d ≢ j → 1 ≤ times h (handles_of (entry ds d)) → 1 ≤ times h (handles_of (entry ds j)) → 2 ≤ times h (flat_map handles_of ds)
in_two h [] d j apart a b = absurd (omega (arith, a))
in_two h (x ∷ ds) zero zero apart a b = absurd (apart refl)
in_two h (x ∷ ds) zero (suc j) apart a b = omega (arith, a, at_place h ds j b, times-append h (handles_of x) (flat_map handles_of ds))
in_two h (x ∷ ds) (suc d) zero apart a b = omega (arith, b, at_place h ds d a, times-append h (handles_of x) (flat_map handles_of ds))
in_two h (x ∷ ds) (suc d) (suc j) apart a b = omega (arith, in_two h ds d j (λ e. apart (ap suc e)) a b, times-append h (handles_of x) (flat_map handles_of ds))

-- no other device has this handle
pub record IsAlone (c : Config) (d handle : ℕ) : Type 0 where
  pub input : input_at (entry c.devices d) ≡ Some handle
  pub inputs : (j : ℕ) → j ≢ d → input_at (entry c.devices j) ≢ Some handle
  pub outputs : (j : ℕ) → output_at (entry c.devices j) ≢ Some handle

pub input_alone : (c : Config) (host : HostView) (d handle : ℕ) → HasHandles c host → input_at (entry c.devices d) ≡ Some handle → IsAlone c d handle
input_alone c host d handle h is =
    let most : times handle (handles c) ≤ 1 = once_each (handles c) h.apart handle in
    let here = as_input handle (entry c.devices d) is in
    record {
      input = is;
      inputs = λ j apart e. let two = in_two handle c.devices d j (λ s. apart (sym s)) here (as_input handle (entry c.devices j) e) in absurd (omega (arith, most, two));
      outputs = λ j e. ⊎_elim
          (λ (s : d ≡ j). let two = in_one handle c.devices d (as_both handle (entry c.devices d) is (ap (λ i. output_at (entry c.devices i)) s ∙ e)) in absurd (omega (arith, most, two)))
          (λ (n : d ≢ j). let two = in_two handle c.devices d j n here (as_output handle (entry c.devices j) e) in absurd (omega (arith, most, two)))
          (same_or d j);
    }

-- nor is an output's handle another output's
pub outputs_alone : (c : Config) (host : HostView) (d handle : ℕ) → HasHandles c host → output_at (entry c.devices d) ≡ Some handle → (j : ℕ) → j ≢ d → output_at (entry c.devices j) ≢ Some handle
outputs_alone c host d handle h is j apart e =
    let most : times handle (handles c) ≤ 1 = once_each (handles c) h.apart handle in
    let two = in_two handle c.devices d j (λ s. apart (sym s)) (as_output handle (entry c.devices d) is) (as_output handle (entry c.devices j) e) in
    absurd (omega (arith, most, two))

reading_of : (host : HostView) (o : Option DeviceConfig) (c : DeviceConfig) → o ≡ Some c → IfSome o (IsOpen host) → IsOpen host c
reading_of host o c e h = subst (λ x. IfSome x (IsOpen host)) e h

reads_from : (host : HostView) (input : Option ℕ) (handle : ℕ) → input ≡ Some handle → IfSome input (λ h. (host.handle h).mode ≡ Reading) → IsReading input host
reads_from host None handle e h = absurd (cc)
reads_from host (Some x) handle e h = h

-- the input of a device is open
pub input_open : (c : Config) (host : HostView) (d handle : ℕ) (x : DeviceConfig) → HasHandles c host → entry c.devices d ≡ Some x → x.input ≡ Some handle → IsReading x.input host
input_open c host d handle x h there is = reads_from host x.input handle is (reading_of host (entry c.devices d) x there (h.open_each d)).input
