-- Handles stay open in their directions.
use Rattle.std.proofs.Common.{◌≡◌, ◌≢◌, true, eqb-true, ℕ, sym, ap, ◌∙◌, ⊎_elim}
use Rattle.std.specs.List.{list_any}
use Rattle.std.specs.Prelude.{◌==◌, Option, Some, None, IfSome}
use Rattle.genie_base.specs.declared.config.Config.{Config}
use Rattle.genie_base.specs.declared.config.DeviceConfig.{DeviceConfig}
use Rattle.genie_base.specs.Lemmas.Places.{same_or}
use Rattle.genie_host.specs.Host.{HostView, HandleState, Mode, OnlyHandle}
use Rattle.genie_model.specs.Tables.{entry}
use Rattle.genie_model.specs.Lemmas.Lists.{all_has, any_has}
use Rattle.genie_kernel.specs.Handles.{IsOpen, HasHandles, KeepsOthers, handles}

mode_kept : (handle h : ℕ) (old new : HostView) → OnlyHandle handle old new → (new.handle h).mode ≡ (old.handle h).mode
mode_kept handle h old new only = ⊎_elim
    (λ is. ap (λ n. (new.handle n).mode) is ∙ only.mode ∙ sym (ap (λ n. (old.handle n).mode) is))
    (λ ne. ap (λ (s : HandleState). s.mode) (only.others h ne))
    (same_or h handle)

some_kept : (handle : ℕ) (old new : HostView) (m : Mode) → OnlyHandle handle old new → (o : Option ℕ) → IfSome o (λ h. (old.handle h).mode ≡ m) → IfSome o (λ h. (new.handle h).mode ≡ m)
some_kept handle old new m only None h = h
some_kept handle old new m only (Some x) h = mode_kept handle x old new only ∙ h

open_kept : (handle : ℕ) (old new : HostView) → OnlyHandle handle old new → (o : Option DeviceConfig) → IfSome o (IsOpen old) → IfSome o (IsOpen new)
open_kept handle old new only None h = h
open_kept handle old new only (Some c) h = record { input = some_kept handle old new _ only c.input h.input; output = some_kept handle old new _ only c.output h.output }

pub handles_kept : (c : Config) (handle : ℕ) (old new : HostView) → OnlyHandle handle old new → HasHandles c old → HasHandles c new
handles_kept c handle old new only h = record { open_each = λ d. open_kept handle old new only (entry c.devices d) (h.open_each d); apart = h.apart; own = h.own }

pub others_kept : (c : Config) (handle : ℕ) (old new : HostView) → OnlyHandle handle old new → list_any (λ h. h == handle) (handles c) ≡ true → KeepsOthers c old new
others_kept c handle old new only there = record {
  handles_kept = λ h apart. only.others h (λ is.
      let named = any_has (λ g. g == handle) (handles c) there in
      absurd (all_has (λ g. h ≢ g) (handles c) apart named.0 named.1 (is ∙ sym (eqb-true named.0 handle named.2))));
  modes = λ h. mode_kept handle h old new only;
  names = only.names;
  opened = only.opened;
  tried = only.tried;
  refusals = only.refusals;
}
