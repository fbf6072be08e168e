-- The handle of an event's device is one that the configuration names.
use Rattle.std.proofs.Common.{◌≡◌, ℕ, zero, suc, true, not, List, [], ◌∷◌, refl, sym, ap, ◌∙◌, inl, map, rules, arith}
use Rattle.std.specs.Prelude.{Option, Some, None, ◌==◌, flat_map, is_some}
use Rattle.std.specs.Option.{option_map}
use Rattle.std.specs.List.{list_any}
use Rattle.std.proofs.lemmas.Bool.{not-false}
use Rattle.genie_base.specs.Configs.{config_of, device_config}
use Rattle.genie_base.specs.declared.config.DeviceConfig.{DeviceConfig}
use Rattle.genie_base.specs.declared.event.Event.TheVariants.{Recv, Send}
use Rattle.genie_base.specs.declared.refusal.Refusal.TheVariants as cause
use Rattle.genie_device.specs.Device.{handle_of}
use Rattle.genie_model.specs.Lemmas.Causes.{first_none}
use Rattle.genie_model.specs.Lemmas.Lists.{Has, has_any, has_left, has_right}
use Rattle.genie_model.specs.Refusing.{refuse, has_input, has_output, is_within}
use Rattle.genie_model.specs.Tables.{entry}
use Rattle.genie_kernel.specs.declared.kernel.Kernel.{Kernel}
use Rattle.genie_kernel.specs.Handles.{handles, handles_of, listed}
use Rattle.genie_kernel.specs.Told.{input_at, output_at}
use Rattle.genie_kernel.specs.View.{outline}

pub configured : (ds : List (Option DeviceConfig)) (d : ℕ) → entry (map (option_map device_config) ds) d ≡ option_map device_config (entry ds d)
configured [] d = refl
configured (x ∷ ds) zero = refl
configured (x ∷ ds) (suc d) = configured ds d

handle_there : (ds : List (Option DeviceConfig)) (d h : ℕ) → Has h (handles_of (entry ds d)) → Has h (flat_map handles_of ds)
handle_there [] d h has = has
handle_there (x ∷ ds) zero h has = has_left h (handles_of x) (flat_map handles_of ds) has
handle_there (x ∷ ds) (suc d) h has = has_right h (handles_of x) (flat_map handles_of ds) (handle_there ds d h has)

is_same : (h : ℕ) → (h == h) ≡ true
is_same h = grind (arith, rules)

listed_there : (o : Option ℕ) → is_some o ≡ true → Has (handle_of o) (listed o)
listed_there None e = absurd (cc)
listed_there (Some h) e = inl refl

output_there : (o : Option DeviceConfig) → has_output (option_map device_config o) ≡ true → Has (handle_of (output_at o)) (handles_of o)
output_there None e = absurd (cc)
output_there (Some c) e = has_right (handle_of c.output) (listed c.input) (listed c.output) (listed_there c.output e)

pub output_named : (k : Kernel) (d n : ℕ) → refuse (outline k) (Send d n) ≡ None → list_any (λ h. h == handle_of (output_at (entry k.config.devices d))) (handles k.config) ≡ true
output_named k d n accepted =
    let c = entry (config_of k.config).devices d in
    let a = first_none (not (has_output c), cause.Dev) ((not (is_within 1 65536 n), cause.Range) ∷ []) accepted in
    let there = ap has_output (sym (configured k.config.devices d)) ∙ not-false (has_output c) a.0 in
    let handle = handle_of (output_at (entry k.config.devices d)) in
    has_any (λ h. h == handle) handle (handles k.config) (handle_there k.config.devices d handle (output_there (entry k.config.devices d) there)) (is_same handle)

input_there : (o : Option DeviceConfig) → has_input (option_map device_config o) ≡ true → Has (handle_of (input_at o)) (handles_of o)
input_there None e = absurd (cc)
input_there (Some c) e = has_left (handle_of c.input) (listed c.input) (listed c.output) (listed_there c.input e)

pub input_named : (k : Kernel) (d n : ℕ) → refuse (outline k) (Recv d n) ≡ None → list_any (λ h. h == handle_of (input_at (entry k.config.devices d))) (handles k.config) ≡ true
input_named k d n accepted =
    let c = entry (config_of k.config).devices d in
    let a = first_none (not (has_input c), cause.Dev) ((not (is_within 1 65536 n), cause.Range) ∷ []) accepted in
    let there = ap has_input (sym (configured k.config.devices d)) ∙ not-false (has_input c) a.0 in
    let handle = handle_of (input_at (entry k.config.devices d)) in
    has_any (λ h. h == handle) handle (handles k.config) (handle_there k.config.devices d handle (input_there (entry k.config.devices d) there)) (is_same handle)
