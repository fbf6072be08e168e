-- Devices that are put in their places, one after the other.
use Rattle.std.proofs.Common.{◌≡◌, ℕ, ◌<◌, Bool, true, false, List, [], ◌∷◌, ◌++◌, length, refl, sym, ap, ◌∙◌, subst, arith}
use Rattle.std.specs.Prelude.{Option, Some, None, ◌&&◌, nat_lt, slice_set}
use Rattle.std.proofs.lemmas.Bool.{and_parts}
use Rattle.std.proofs.lemmas.Bool.Decides.{nat_tests}
use Rattle.std.proofs.lemmas.List.{length-set}
use Rattle.genie_base.specs.Configs.{Config, DeviceConfig}
use Rattle.genie_model.specs.Tables.{entry}
use Rattle.genie_script.specs.Judge.{Part, has_place, is_unused, line_config, part_of, with_device}
use Rattle.genie_script.specs.declared.judge.BootLine.{BootLine}
use Rattle.genie_script.specs.declared.line.DeviceLine.{DeviceLine}
use Rattle.genie_replay.specs.Places.{FindPlaces, IsPlaced, no_devices, places_from}

places_more : (places : List (Option DeviceConfig)) (ds : List DeviceLine) (d : DeviceLine) → places_from places (ds ++ d ∷ []) ≡ slice_set (places_from places ds) d.number (Some (line_config d))
places_more places [] d = refl
places_more places (x ∷ ds) d = places_more (slice_set places x.number (Some (line_config x))) ds d

find_more : (places : List (Option DeviceConfig)) (ds : List DeviceLine) (d : DeviceLine) → FindPlaces places ds → d.number < length (places_from places ds) → entry (places_from places ds) d.number ≡ None → FindPlaces places (ds ++ d ∷ [])
find_more places [] d f low free = (low, free, tt)
find_more places (x ∷ ds) d f low free = (f.0, f.1, find_more (slice_set places x.number (Some (line_config x))) ds d f.2 low free)

places_length : (places : List (Option DeviceConfig)) (ds : List DeviceLine) → length (places_from places ds) ≡ length places
places_length places [] = refl
places_length places (d ∷ ds) = places_length (slice_set places d.number (Some (line_config d))) ds ∙ length-set places d.number (Some (line_config d))

unused_none : (o : Option DeviceConfig) → is_unused o ≡ true → o ≡ None
unused_none None e = refl
unused_none (Some d) e = absurd (cc)

pub placed_none : (b : BootLine) → IsPlaced (part_of b)
placed_none b = record { is = refl; free = tt }

pub placed_more : (p : Part) (d : DeviceLine) → IsPlaced p → has_place p.config d ≡ true → IsPlaced (with_device p d)
placed_more p d placed has =
    let parts = and_parts (nat_lt d.number 8) (is_unused (entry p.config.devices d.number)) has in
    let low : d.number < 8 = grind (arith, nat_tests, parts.0) in
    let size = places_length no_devices p.devices in
    record {
      is = ap (λ ds. slice_set ds d.number (Some (line_config d))) placed.is ∙ sym (places_more no_devices p.devices d);
      free = find_more no_devices p.devices d placed.free (omega (arith, low, size)) (ap (λ ds. entry ds d.number) (sym placed.is) ∙ unused_none (entry p.config.devices d.number) parts.1);
    }
