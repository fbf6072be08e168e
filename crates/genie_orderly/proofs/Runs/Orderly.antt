-- Every state that a run reaches is orderly.
use Rattle.std.proofs.Common.{◌≡◌, ℕ, zero, suc, ◌+◌, List, [], ◌∷◌, refl, sym, arith}
use Rattle.std.specs.Prelude.{Option, Some, None, IfSome, IsTrue, All, replicate}
use Rattle.std.specs.Option.{option_map}
use Rattle.std.proofs.lemmas.List.Elements.{All-head, All-tail, All-replicate}
use Rattle.genie_base.specs.Configs.{Config, DeviceConfig, Fits}
use Rattle.genie_base.specs.Events.{is_whole, mark_of}
use Rattle.genie_base.specs.declared.event.Event.{Event}
use Rattle.genie_base.specs.declared.reply.Mark.{Mark}
use Rattle.genie_base.specs.declared.reply.Reply.{Reply}
use Rattle.genie_orderly.specs.Steps.{RunsStayOrderly}
use Rattle.genie_orderly.specs.Orderly.{IsOrderly, AreApart, shape_of, ReceivesForInput, SuitsDevice, KeepsDepth, IsFilled, ListsOut}
use Rattle.genie_model.specs.Regions.{regions_of}
use Rattle.genie_model.specs.Lemmas.Lists.{at_entry}
use Rattle.genie_model.specs.State.{State, Region, Process, Device, boot, boot_devices}
use Rattle.genie_model.specs.Tables.{entry}
use Rattle.genie_model.specs.Step.{step, Follows}
use Rattle.genie_orderly.proofs.Regions.Filled.{buffers_are_filled}
use Rattle.genie_orderly.proofs.Regions.Queues.{queues_list_out}
use Rattle.genie_orderly.proofs.Regions.Distinct.{numbers_differ, numbers_are_below}
use Rattle.genie_orderly.specs.Lemmas.Growth.{devices_are_configs}
use Rattle.genie_orderly.proofs.Names.Steps.{held_for_one}
use Rattle.genie_orderly.specs.Lemmas.KeptCalls.{steps_keep_config}
use Rattle.genie_orderly.proofs.Orphans.Named.{orphans_are_named}
use Rattle.genie_orderly.proofs.Transfers.Numbers.{numbers_rise}
use Rattle.genie_orderly.proofs.Orphans.Rising.{orphans_rise, orphan_places_rise}
use Rattle.genie_orderly.proofs.Names.Steps.{ranges_lie}
use Rattle.genie_orderly.proofs.Inputs.Receivers.{posted_are_inputs, matched_are_inputs, calls_stay, one_is_sent, moving_are_received, received_are_moving, datagrams_suit, depths_are_kept}
use Rattle.genie_orderly.proofs.Regions.Spaces.{none_apart, places_stay, regions_stay_apart, committed_is_bounded}
use Rattle.genie_orderly.proofs.Orphans.Tidy.{orphans_tidy}
use Rattle.genie_orderly.proofs.Transfers.Frames.{wired_is_bounded}

-- no device is receiving
boot_matched : (s : State) (inputs : ℕ → List ℕ) (k : ℕ) (configs : List (Option DeviceConfig)) (d n : ℕ) → ReceivesForInput s d (entry (boot_devices inputs k configs) n)
boot_matched s inputs k [] d n = tt
boot_matched s inputs k (None ∷ configs) d zero = tt
boot_matched s inputs k (Some c ∷ configs) d zero = tt
boot_matched s inputs k (c ∷ configs) d (suc n) = boot_matched s inputs (k + 1) configs d n

boot_suits : (page : ℕ) (inputs : ℕ → List ℕ) (k : ℕ) (configs : List (Option DeviceConfig)) (n : ℕ) → IfSome (entry (boot_devices inputs k configs) n) (λ (v : Device). IfSome v.present (SuitsDevice page v))
boot_suits page inputs k [] n = tt
boot_suits page inputs k (None ∷ configs) zero = tt
boot_suits page inputs k (Some c ∷ configs) zero = tt
boot_suits page inputs k (c ∷ configs) (suc n) = boot_suits page inputs (k + 1) configs n

boot_depths : (inputs : ℕ → List ℕ) (k : ℕ) (configs : List (Option DeviceConfig)) (n : ℕ) → KeepsDepth 0 (entry (boot_devices inputs k configs) n)
boot_depths inputs k [] n = tt
boot_depths inputs k (None ∷ configs) zero = tt
boot_depths inputs k (Some c ∷ configs) zero = λ early. omega arith
boot_depths inputs k (c ∷ configs) (suc n) = boot_depths inputs (k + 1) configs n

boot_devices_are : (inputs : ℕ → List ℕ) (n : ℕ) (configs : List (Option DeviceConfig)) (d : ℕ) → shape_of (entry (boot_devices inputs n configs) d) ≡ option_map (λ (c : DeviceConfig). (c.kind, c.depth)) (entry configs d)
boot_devices_are inputs n [] d = refl
boot_devices_are inputs n (None ∷ configs) zero = refl
boot_devices_are inputs n (Some c ∷ configs) zero = refl
boot_devices_are inputs n (c ∷ configs) (suc d) = boot_devices_are inputs (n + 1) configs d

pub boot_is_orderly : (c : Config) (inputs : ℕ → List ℕ) → Fits c → IsOrderly (boot c inputs)
boot_is_orderly c inputs fits = record {
  config = fits;
  places = refl;
  devices = boot_devices_are inputs 0 c.devices;
  regions = All-replicate (λ (p : Option Process). AreApart c.page (regions_of p)) 16 None (none_apart c.page);
  wired = omega arith;
  committed = omega arith;
  transfers = record { few = omega arith; order = λ i j d l m. absurd (omega arith); below = λ k d l. absurd (omega arith) };
  numbers = λ i j d l m. absurd (omega arith);
  orphans = λ k d l. absurd (omega arith);
  rise = λ i j d l m. absurd (omega arith);
  order = λ k d l. absurd (omega arith);
  tidied = refl;
  ranges = λ k d l. absurd (omega arith);
  holds = record { held = λ k d l. absurd (omega arith); one = λ k named. omega arith };
  posted = λ k d l. absurd (omega arith);
  matched = λ d. boot_matched (boot c inputs) inputs 0 c.devices d d;
  below = λ k d l. absurd (omega arith);
  filled = λ p. at_entry (λ (x : Option Process). All (λ (r : Region). IsFilled [] p r.number r.state) (regions_of x)) (replicate 16 None) p (λ k d l. absurd (omega arith)) (All-replicate (λ (x : Option Process). All (λ (r : Region). IsFilled [] p r.number r.state) (regions_of x)) 16 None (λ k d l. absurd (omega arith)));
  weak = λ p. at_entry (λ (x : Option Process). IfSome x ListsOut) (replicate 16 None) p tt (All-replicate (λ (x : Option Process). IfSome x ListsOut) 16 None tt);
  calls = λ k d l. absurd (omega arith);
  queues = λ i j d l m. absurd (omega arith);
  moving = λ k d l. absurd (omega arith);
  received = λ k d l. absurd (omega arith);
  datagrams = λ d. boot_suits c.page inputs 0 c.devices d;
  depths = λ d. boot_depths inputs 0 c.devices d;
}

pub step_is_orderly : (s : State) (e : Event) (m : Mark) → IsTrue (is_whole e) → IsOrderly s → IsOrderly (step s e m).0
step_is_orderly s e m whole o =
    let same = steps_keep_config s e m in
    record {
      config = rw same o.config;
      places = places_stay s e m whole o;
      devices = devices_are_configs s e m whole o;
      regions = regions_stay_apart s e m whole o;
      wired = wired_is_bounded s e m whole o;
      committed = committed_is_bounded s e m whole o;
      transfers = numbers_rise s e m whole o;
      numbers = numbers_differ s e m whole o;
      orphans = orphans_are_named s e m whole o;
      rise = orphans_rise s e m whole o;
      order = orphan_places_rise s e m whole o;
      tidied = orphans_tidy s e m whole o;
      ranges = ranges_lie s e m whole o;
      holds = held_for_one s e m whole o;
      posted = posted_are_inputs s e m whole o;
      matched = matched_are_inputs s e m whole o;
      below = numbers_are_below s e m whole o;
      filled = buffers_are_filled s e m whole o;
      weak = queues_list_out s e m whole o;
      calls = calls_stay s e m whole o;
      queues = one_is_sent s e m whole o;
      moving = moving_are_received s e m whole o;
      received = received_are_moving s e m whole o;
      datagrams = datagrams_suit s e m whole o;
      depths = depths_are_kept s e m whole o;
    }

follows_orderly : (s : State) (es : List Event) (rs : List Reply) (last : State) → IsOrderly s → All (λ (e : Event). IsTrue (is_whole e)) es → Follows s es rs last → IsOrderly last
follows_orderly s [] [] last o whole h = rw (sym h) o
follows_orderly s (e ∷ es) (r ∷ rs) last o whole h =
    let Whole : Event → Type 0 = λ x. IsTrue (is_whole x) in
    follows_orderly (step s e (mark_of r)).0 es rs last (step_is_orderly s e (mark_of r) (All-head Whole e es whole) o) (All-tail Whole e es whole) h.1
follows_orderly s [] (r ∷ rs) last o whole h = absurd h
follows_orderly s (e ∷ es) [] last o whole h = absurd h

pub runs_stay_orderly : RunsStayOrderly
runs_stay_orderly c inputs es rs last fits whole h = follows_orderly (boot c inputs) es rs last (boot_is_orderly c inputs fits) whole h
