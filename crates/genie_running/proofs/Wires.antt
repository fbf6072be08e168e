-- The configuration with the handles of the devices' files.
use Rattle.std.proofs.Common.{◌≡◌, ◌≢◌, ℕ, zero, suc, ◌+◌, ◌<◌, ◌≤◌, Bool, true, false, ◌==◌, List, [], ◌∷◌, ◌++◌, length, map, flat_map, All, ⊎_elim, refl, sym, ap, subst, ◌∙◌, ne_eqb, eq-eqb, arith}
use Rattle.std.specs.Prelude.{Option, Some, None, IfSome, slice_set, is_some}
use Rattle.std.specs.Option.{option_map}
use Rattle.std.proofs.lemmas.Bool.{cases_lt}
use Rattle.std.proofs.lemmas.List.Elements.{All-nil, All-cons}
use Rattle.genie_base.specs.Configs.{Config as FlatConfig, DeviceConfig, config_of, device_config}
use Rattle.genie_base.specs.declared.config.DeviceConfig.{DeviceConfig as Device}
use Rattle.genie_base.specs.declared.config.Config.{Config}
use Rattle.genie_base.specs.declared.semantics.Direction.TheVariants.{Inward, Outward}
use Rattle.genie_host.specs.Host.{HostView, Reading, Writing}
use Rattle.genie_orderly.specs.Lemmas.RegionNumbers.{one, times, times-append, differ_from_once}
use Rattle.genie_model.specs.Tables.{entry}
use Rattle.genie_model.specs.Lemmas.Lists.{entry_set}
use Rattle.genie_kernel.specs.Handles.{IsOpen, HasHandles, handles, handles_of, listed}
use Rattle.genie_script.specs.Judge.{Part, line_config}
use Rattle.genie_script.specs.declared.line.DeviceLine.{DeviceLine}
use Rattle.genie_replay.specs.Files.{HoldsOfFile, HoldsOfInput, HoldsOfInputs, HoldsOfOutputs, IsReading, IsWriting, file_opening, openings_of}
use Rattle.genie_replay.specs.Places.{FindPlaces, IsPlaced, places_from}
use Rattle.genie_running.specs.Wiring.{IsWired, device_at, no_wires, wired_from}

-- of a table of devices, only whether their files are there
abbrev pub unwired : List (Option Device) → List (Option DeviceConfig)
unwired ds = map (option_map device_config) ds

map_set : {X Y : Type 0} (f : X → Y) (xs : List X) (n : ℕ) (x : X) → map f (slice_set xs n x) ≡ slice_set (map f xs) n (f x)
map_set f [] n x = refl
map_set f (y ∷ xs) zero x = refl
map_set f (y ∷ xs) (suc n) x = ap (λ l. f y ∷ l) (map_set f xs n x)

is_there : (h : ℕ) (o : Option (List ℕ)) → is_some (option_map (λ name. h) o) ≡ is_some o
is_there h None = refl
is_there h (Some name) = refl

config_of_line : (opened : ℕ) (d : DeviceLine) → device_config (device_at opened d) ≡ line_config d
config_of_line opened d = rw (is_there (opened + 1) d.input, is_there (opened + length (openings_of d)) d.output) refl

pub unwired_set : (ps : List (Option Device)) (opened : ℕ) (d : DeviceLine) → unwired (slice_set ps d.number (Some (device_at opened d))) ≡ slice_set (unwired ps) d.number (Some (line_config d))
unwired_set ps opened d = map_set (option_map device_config) ps d.number (Some (device_at opened d)) ∙ ap (λ c. slice_set (unwired ps) d.number (Some c)) (config_of_line opened d)

-- without their handles, the devices are those of the lines
pub unwired_all : (ps : List (Option Device)) (opened : ℕ) (ds : List DeviceLine) → unwired (wired_from ps opened ds) ≡ places_from (unwired ps) ds
unwired_all ps opened [] = refl
unwired_all ps opened (d ∷ ds) = unwired_all (slice_set ps d.number (Some (device_at opened d))) (opened + length (openings_of d)) ds ∙ ap (λ l. places_from l ds) (unwired_set ps opened d)

length_map : {X Y : Type 0} (f : X → Y) (xs : List X) → length (map f xs) ≡ length xs
length_map f [] = refl
length_map f (x ∷ xs) = ap suc (length_map f xs)

none_wired : (o : Option Device) → option_map device_config o ≡ None → o ≡ None
none_wired None e = refl
none_wired (Some d) e = absurd (cc)

entry_of : {X Y : Type 0} (f : Option X → Option Y) → f None ≡ None → (xs : List (Option X)) (n : ℕ) → entry (map f xs) n ≡ f (entry xs n)
entry_of f e [] n = sym e
entry_of f e (x ∷ xs) zero = refl
entry_of f e (x ∷ xs) (suc n) = entry_of f e xs n

-- a line finds its place free
pub record FindsPlace (ps : List (Option Device)) (d : DeviceLine) : Type 0 where
  pub within : d.number < length ps
  pub free : entry ps d.number ≡ None

pub finds_place : (ps : List (Option Device)) (d : DeviceLine) (ds : List DeviceLine) → FindPlaces (unwired ps) (d ∷ ds) → FindsPlace ps d
finds_place ps d ds f = record {
  within = let low = f.0 in let size = length_map (option_map device_config) ps in omega (arith, low, size);
  free = none_wired (entry ps d.number) (sym (entry_of (option_map device_config) refl ps d.number) ∙ f.1);
}

-- and so do the lines behind it
pub find_rest : (ps : List (Option Device)) (opened : ℕ) (d : DeviceLine) (ds : List DeviceLine) → FindPlaces (unwired ps) (d ∷ ds) → FindPlaces (unwired (slice_set ps d.number (Some (device_at opened d)))) ds
find_rest ps opened d ds f = subst (λ l. FindPlaces l ds) (sym (unwired_set ps opened d)) f.2

pub entry_put : {X : Type 0} (xs : List (Option X)) (p : ℕ) (y : Option X) → p < length xs → entry (slice_set xs p y) p ≡ y
entry_put [] p y low = absurd (omega arith)
entry_put (x ∷ xs) zero y low = refl
entry_put (x ∷ xs) (suc p) y low = entry_put xs p y (omega arith)

-- a device that is in its place stays there
pub wired_stays : (ps : List (Option Device)) (opened : ℕ) (ds : List DeviceLine) (n : ℕ) (x : Device) → FindPlaces (unwired ps) ds → entry ps n ≡ Some x → entry (wired_from ps opened ds) n ≡ Some x
wired_stays ps opened [] n x f is = is
wired_stays ps opened (d ∷ ds) n x f is =
    let place = finds_place ps d ds f in
    wired_stays (slice_set ps d.number (Some (device_at opened d))) (opened + length (openings_of d)) ds n x (find_rest ps opened d ds f)
    (entry_set (λ o. o ≡ Some x) ps d.number n (Some (device_at opened d)) is (λ e. absurd (let none = place.free in let here : entry ps d.number ≡ Some x = ap (entry ps) (sym e) ∙ is in cc)))

-- the devices with that of a line, and those of the lines behind it
abbrev behind : List (Option Device) → ℕ → DeviceLine → List DeviceLine → List (Option Device)
behind ps opened d ds = wired_from (slice_set ps d.number (Some (device_at opened d))) (opened + length (openings_of d)) ds

-- each output is that of its device
pub wired_outputs : (ps : List (Option Device)) (opened : ℕ) (ds : List DeviceLine) → FindPlaces (unwired ps) ds → HoldsOfOutputs (λ n h. (x : Device) × (entry (wired_from ps opened ds) n ≡ Some x) × (x.output ≡ Some h)) opened ds
wired_outputs ps opened [] f = tt
wired_outputs ps opened (d ∷ ds) f = (
  own d.output refl,
  wired_outputs (slice_set ps d.number (Some (device_at opened d))) (opened + length (openings_of d)) ds (find_rest ps opened d ds f),
) where
  own : (o : Option (List ℕ)) → d.output ≡ o → HoldsOfFile (λ n h. (x : Device) × (entry (behind ps opened d ds) n ≡ Some x) × (x.output ≡ Some h)) o d.number (opened + length (openings_of d))
  own None is = tt
  own (Some name) is = (
    device_at opened d,
    wired_stays (slice_set ps d.number (Some (device_at opened d))) (opened + length (openings_of d)) ds d.number (device_at opened d) (find_rest ps opened d ds f)
        (entry_put ps d.number (Some (device_at opened d)) (finds_place ps d ds f).within),
    ap (λ o. option_map (λ n. opened + length (openings_of d)) o) is,
  )

-- The handles: open in their directions, each once, and none of them that of the replies or of the script.
pub record AreWired (ps : List (Option Device)) (opened : ℕ) (host : HostView) : Type 0 where
  pub each : (d : ℕ) → IfSome (entry ps d) (IsOpen host)
  pub once : (h : ℕ) → times h (flat_map handles_of ps) ≤ 1
  pub low : (h : ℕ) → h ≤ 1 → times h (flat_map handles_of ps) ≡ 0
  pub later : (h : ℕ) → opened < h → times h (flat_map handles_of ps) ≡ 0

other_none : (x k : ℕ) → x ≢ k → one (x == k) ≡ 0
other_none x k ne = ap one (ne_eqb x k ne)

one_most : (b : Bool) → one b ≤ 1
one_most true = omega arith
one_most false = omega arith

placed : (ds : List (Option Device)) (p : ℕ) (c : Device) → p < length ds → entry ds p ≡ None → (h : ℕ) → times h (flat_map handles_of (slice_set ds p (Some c))) ≡ times h (flat_map handles_of ds) + times h (handles_of (Some c))
placed [] p c lt free h = absurd (omega arith)
placed (x ∷ ds) zero c lt free h =
    let none = ap (λ o. times h (handles_of o)) free in
    omega (arith, none, times-append h (handles_of x) (flat_map handles_of ds), times-append h (handles_of (Some c)) (flat_map handles_of ds))
placed (x ∷ ds) (suc p) c lt free h =
    omega (arith, placed ds p c (omega arith) free h, times-append h (handles_of x) (flat_map handles_of ds), times-append h (handles_of x) (flat_map handles_of (slice_set ds p (Some c))))

-- the handles of a line, by whether its files are there
abbrev line_handles : ℕ → Option (List ℕ) → Option (List ℕ) → List ℕ
line_handles opened i o = listed (option_map (λ n. opened + 1) i) ++ listed (option_map (λ n. opened + length (file_opening Inward i ++ file_opening Outward o)) o)

abbrev Fresh : ℕ → ℕ → ℕ → List ℕ → Type 0
Fresh opened last h hs = (times h hs ≤ 1) × (h ≤ opened → times h hs ≡ 0) × (last < h → times h hs ≡ 0)

line_times : (opened : ℕ) (i o : Option (List ℕ)) (h : ℕ) → Fresh opened (opened + length (file_opening Inward i ++ file_opening Outward o)) h (line_handles opened i o)
line_times opened None None h = (omega arith, λ low. refl, λ high. refl)
line_times opened (Some a) None h = (
  omega (arith, one_most (opened + 1 == h)),
  λ low. omega (arith, other_none (opened + 1) h (λ e. absurd (omega (arith, low, e)))),
  λ high. omega (arith, other_none (opened + 1) h (λ e. absurd (omega (arith, high, e)))),
)
line_times opened None (Some b) h = (
  omega (arith, one_most (opened + 1 == h)),
  λ low. omega (arith, other_none (opened + 1) h (λ e. absurd (omega (arith, low, e)))),
  λ high. omega (arith, other_none (opened + 1) h (λ e. absurd (omega (arith, high, e)))),
)
line_times opened (Some a) (Some b) h = (
  ⊎_elim
      (λ (low : h < opened + 2). omega (arith, one_most (opened + 1 == h), other_none (opened + 2) h (λ e. absurd (omega (arith, low, e)))))
      (λ (high : opened + 2 ≤ h). omega (arith, one_most (opened + 2 == h), other_none (opened + 1) h (λ e. absurd (omega (arith, high, e)))))
      (cases_lt h (opened + 2)),
  λ low. omega (arith, other_none (opened + 1) h (λ e. absurd (omega (arith, low, e))), other_none (opened + 2) h (λ e. absurd (omega (arith, low, e)))),
  λ high. omega (arith, other_none (opened + 1) h (λ e. absurd (omega (arith, high, e))), other_none (opened + 2) h (λ e. absurd (omega (arith, high, e)))),
)

input_open : (host : HostView) (opened : ℕ) (o : Option (List ℕ)) → HoldsOfInput (IsReading host) o (opened + 1) → IfSome (option_map (λ n. opened + 1) o) (λ h. (host.handle h).mode ≡ Reading)
input_open host opened None is = tt
input_open host opened (Some name) is = is

output_open : (host : HostView) (n h : ℕ) (o : Option (List ℕ)) → HoldsOfFile (IsWriting host) o n h → IfSome (option_map (λ n. h) o) (λ h. (host.handle h).mode ≡ Writing)
output_open host n h None is = tt
output_open host n h (Some name) is = is

-- one more device
wired_more : (ps : List (Option Device)) (opened : ℕ) (d : DeviceLine) (host : HostView) → 1 ≤ opened → FindsPlace ps d → HoldsOfInput (IsReading host) d.input (opened + 1) → HoldsOfFile (IsWriting host) d.output d.number (opened + length (openings_of d)) → AreWired ps opened host → AreWired (slice_set ps d.number (Some (device_at opened d))) (opened + length (openings_of d)) host
wired_more ps opened d host some place i o wired =
    let sum = λ (h : ℕ). placed ps d.number (device_at opened d) place.within place.free h in
    let fresh = λ (h : ℕ). line_times opened d.input d.output h in
    record {
      each = λ k. entry_set (λ x. IfSome x (IsOpen host)) ps d.number k (Some (device_at opened d)) (wired.each k) (λ e. record { input = input_open host opened d.input i; output = output_open host d.number (opened + length (openings_of d)) d.output o });
      once = λ h. ⊎_elim
          (λ (low : h < opened + 1). let none = (fresh h).1 (omega (arith, low)) in omega (arith, sum h, none, wired.once h))
          (λ (high : opened + 1 ≤ h). let none = wired.later h (omega (arith, high)) in omega (arith, sum h, none, (fresh h).0))
          (cases_lt h (opened + 1));
      low = λ h small. let none = (fresh h).1 (omega (arith, small, some)) in omega (arith, sum h, none, wired.low h small);
      later = λ h past. let none = (fresh h).2 past in omega (arith, sum h, none, wired.later h (omega (arith, past)));
    }

wired_some : (ps : List (Option Device)) (opened : ℕ) (ds : List DeviceLine) (host : HostView) → 1 ≤ opened → FindPlaces (unwired ps) ds → HoldsOfInputs (IsReading host) opened ds → HoldsOfOutputs (IsWriting host) opened ds → AreWired ps opened host → (last : ℕ) × AreWired (wired_from ps opened ds) last host
wired_some ps opened [] host some f i o wired = (opened, wired)
wired_some ps opened (d ∷ ds) host some f i o wired =
    wired_some (slice_set ps d.number (Some (device_at opened d))) (opened + length (openings_of d)) ds host (omega (arith, some)) (find_rest ps opened d ds f) i.1 o.1
    (wired_more ps opened d host some (finds_place ps d ds f) i.0 o.0 wired)

pub nothing_at : (d : ℕ) → entry no_wires d ≡ None
nothing_at zero = refl
nothing_at (suc zero) = refl
nothing_at (suc (suc zero)) = refl
nothing_at (suc (suc (suc zero))) = refl
nothing_at (suc (suc (suc (suc zero)))) = refl
nothing_at (suc (suc (suc (suc (suc zero))))) = refl
nothing_at (suc (suc (suc (suc (suc (suc zero)))))) = refl
nothing_at (suc (suc (suc (suc (suc (suc (suc zero))))))) = refl
nothing_at (suc (suc (suc (suc (suc (suc (suc (suc d)))))))) = refl

if_none : (P : Device → Type 0) (o : Option Device) → o ≡ None → IfSome o P
if_none P None e = tt
if_none P (Some d) e = absurd (cc)

-- no device has a handle yet
none_wired_yet : (host : HostView) → AreWired no_wires 1 host
none_wired_yet host = record { each = λ d. if_none (IsOpen host) (entry no_wires d) (nothing_at d); once = λ h. omega arith; low = λ h small. refl; later = λ h past. refl }

all_not : (k : ℕ) (xs : List ℕ) → times k xs ≡ 0 → All (λ (h : ℕ). h ≢ k) xs
all_not k [] none = All-nil (λ (h : ℕ). h ≢ k)
all_not k (x ∷ xs) none = All-cons (λ (h : ℕ). h ≢ k) x xs (λ e. absurd (omega (arith, none, ap one (eq-eqb x k e)))) (all_not k xs (omega (arith, none)))

-- a configuration with these devices has its handles, and none of them is the script's
pub has_handles : (c : Config) (ds : List DeviceLine) (host : HostView) → c.devices ≡ wired_from no_wires 1 ds → FindPlaces (unwired no_wires) ds → HoldsOfInputs (IsReading host) 1 ds → HoldsOfOutputs (IsWriting host) 1 ds → HasHandles c host × All (λ (h : ℕ). h ≢ 1) (handles c)
has_handles c ds host is f i o =
    let all = wired_some no_wires 1 ds host (omega arith) f i o (none_wired_yet host) in
    let wired : AreWired c.devices all.0 host = rw is all.1 in (
      record { open_each = wired.each; apart = differ_from_once (flat_map handles_of c.devices) wired.once; own = all_not 0 (flat_map handles_of c.devices) (wired.low 0 (omega arith)) },
      all_not 1 (flat_map handles_of c.devices) (wired.low 1 (omega arith)),
    )

-- the configuration of a boot part, with handles
pub wired_config : (old : Config) (new : Config) (p : Part) → config_of old ≡ p.config → new ≡ record old { devices = new.devices } → new.devices ≡ wired_from no_wires 1 p.devices → IsPlaced p → IsWired p new
wired_config old new p is only devices placed =
    let same : unwired new.devices ≡ p.config.devices = ap unwired devices ∙ unwired_all no_wires 1 p.devices ∙ sym placed.is in
    let first : config_of new ≡ record (config_of old) { devices = unwired new.devices } = ap config_of only in
    let second : record (config_of old) { devices = unwired new.devices } ≡ record p.config { devices = unwired new.devices } = ap (λ (q : FlatConfig). record q { devices = unwired new.devices }) is in
    let third : record p.config { devices = unwired new.devices } ≡ p.config = ap (λ (l : List (Option DeviceConfig)). record p.config { devices = l }) same in
    record { config = first ∙ second ∙ third; devices = devices }
