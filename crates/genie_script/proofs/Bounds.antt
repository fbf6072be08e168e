-- The boot bounds of a device line are the limits of the configuration with it.
use Rattle.std.proofs.Common.{◌≡◌, ◌+◌, ◌<◌, ◌≤◌, true, false, IsTrue, Bool, length, refl, ap, sym, ◌∙◌, arith, subst}
use Rattle.std.specs.Prelude.{ℕ, Some, None, ◌↔◌, ◌&&◌, slice_set, slice_index_or, List, [], ◌∷◌}
use Rattle.std.proofs.lemmas.Bool.Decides.{nat_tests}
use Rattle.std.proofs.lemmas.List.{length-set}
use Rattle.std.proofs.lemmas.List.Elements.{All-replicate, All-set}
use Rattle.std.proofs.lemmas.Grind.{get_or-set_at}
use Rattle.std.proofs.lemmas.List.{length-append}
use Rattle.genie_base.specs.Lemmas.Places.{count_by-set, num}
use Rattle.genie_base.specs.Configs.{Config, Fits, FitsDevice, FitsPlace, pool_of, most_depth, offset_end}
use Rattle.genie_script.specs.declared.judge.BootLine.{BootLine}
use Rattle.genie_script.specs.declared.line.DeviceLine.{DeviceLine}
use Rattle.genie_script.specs.Judge.{IsPart, Part, boot_config, boot_fits, config_with, has_place, is_bounded, is_unused, keeps_limits, line_config, may_receive, may_send, part_of, with_device}

-- a device that keeps its limits leaves all limits kept
pub limits_fit : (c : Config) (d : DeviceLine) → Fits c → IsTrue (keeps_limits c d) → Fits (config_with c d)
limits_fit c d f t =
    let depth : (1 ≤ d.depth) × (d.depth ≤ most_depth d.kind) = grind (arith, nat_tests, t) in
    let offset : d.offset < offset_end d.kind c.page = grind (arith, nat_tests, t) in
    record {
      page = f.page;
      frames_low = f.frames_low;
      frames_high = f.frames_high;
      slots_low = f.slots_low;
      slots_high = f.slots_high;
      copy_out = f.copy_out;
      reverse_copy_out = f.reverse_copy_out;
      table = length-set c.devices d.number (Some (line_config d)) ∙ f.table;
      devices = All-set (FitsPlace c.page) c.devices d.number (Some (line_config d)) (record { depth_low = depth.0; depth_high = depth.1; offset = offset }) f.devices;
      pool = grind (arith, nat_tests, t);
    }

-- and the other way round
fit_limits : (c : Config) (d : DeviceLine) → Fits c → has_place c d ≡ true → Fits (config_with c d) → IsTrue (keeps_limits c d)
fit_limits c d f place g =
    let table : length c.devices ≡ 8 = f.table in
    let number : d.number < 8 = grind (arith, nat_tests, place) in
    let there : d.number < length c.devices = omega arith in
    let within : d.number < length (slice_set c.devices d.number (Some (line_config d))) = rw length-set there in
    let device : FitsDevice c.page (line_config d) = subst (FitsPlace c.page) (get_or-set_at c.devices d.number d.number (Some (line_config d)) None refl there) (g.devices d.number None within) in
    let low : 1 ≤ d.depth = device.depth_low in
    let high : d.depth ≤ most_depth d.kind = device.depth_high in
    let offset : d.offset < offset_end d.kind c.page = device.offset in
    let pool : pool_of (config_with c d).devices + 8 ≤ c.frames = g.pool in
    grind (arith, nat_tests, low, high, offset, pool)

same_tests : (a b : Bool) → (IsTrue a → IsTrue b) → (IsTrue b → IsTrue a) → a ≡ b
same_tests true true f g = refl
same_tests true false f g = sym (f refl)
same_tests false true f g = g refl
same_tests false false f g = refl

pub limits_told : (c : Config) (d : DeviceLine) (fits : Bool) → Fits c → has_place c d ≡ true → IsTrue fits ↔ Fits (config_with c d) → fits ≡ keeps_limits c d
limits_told c d fits f place told = same_tests fits (keeps_limits c d) (λ t. fit_limits c d f place (told.0 t)) (λ t. told.1 (limits_fit c d f t))

-- a boot line within its limits has a configuration within its limits
pub boot_fit : (b : BootLine) → boot_fits b ≡ true → Fits (boot_config b)
boot_fit b t = record {
  page = grind (arith, nat_tests, t);
  frames_low = grind (arith, nat_tests, t);
  frames_high = grind (arith, nat_tests, t);
  slots_low = grind (arith, nat_tests, t);
  slots_high = grind (arith, nat_tests, t);
  copy_out = grind (arith, nat_tests, t);
  reverse_copy_out = grind (arith, nat_tests, t);
  table = refl;
  devices = All-replicate (FitsPlace b.page) 8 None tt;
  pool = grind (arith, nat_tests, t);
}

-- the boot part of a boot line within its limits
pub boot_is_part : (b : BootLine) → boot_fits b ≡ true → IsPart (part_of b)
boot_is_part b t = record { fits = boot_fit b t; places = refl }

-- with one more device line
pub more_is_part : (p : Part) (d : DeviceLine) → has_place p.config d ≡ true → keeps_limits p.config d ≡ true → IsPart p → IsPart (with_device p d)
more_is_part p d place limits is =
    let table : length p.config.devices ≡ 8 = is.fits.table in
    let number : d.number < 8 = grind (arith, nat_tests, place) in
    let there : d.number < length p.config.devices = omega arith in
    let unused : is_unused (slice_index_or p.config.devices d.number None) ≡ true = grind (arith, nat_tests, place) in
    let count = count_by-set is_unused p.config.devices d.number (Some (line_config d)) None there in
    record {
      fits = limits_fit p.config d is.fits limits;
      places = omega (arith, count, ap num unused, is.places, length-append p.devices (d ∷ []));
    }

second : (a b c d : Bool) → (a && b && c && d) ≡ true → b ≡ true
second true true c d t = refl
second true false c d t = t
second false b c d t = absurd (cc)

pub bounded_limits : (script : List ℕ) (p : Part) (d : DeviceLine) → is_bounded script p d ≡ true → keeps_limits p.config d ≡ true
bounded_limits script p d t = second (has_place p.config d) (keeps_limits p.config d) (may_send script p.devices d d.output) (may_receive p.devices d.input) t
