-- The devices of the view, and what of them is asked whatever is left of the inputs and was sent.
use Rattle.std.proofs.Common.{◌≡◌, ℕ, ◌+◌, zero, suc, List, [], ◌∷◌, refl, sym, ap, subst, arith, ◌∙◌, get_or}
use Rattle.std.specs.Prelude.{Option, Some, None, IfSome}
use Rattle.std.specs.Option.{option_map}
use Rattle.genie_device.specs.Device.{DeviceView}
use Rattle.genie_device.specs.declared.present.Present.{Present}
use Rattle.genie_input.specs.Pools.{PoolState}
use Rattle.genie_object.specs.Memory.{Seen}
use Rattle.genie_orderly.specs.Orderly.{IsOrderly, shape_of, ReceivesForInput, GoesToInput, IsUnderWay, SuitsDevice, KeepsDepth, receives_for}
use Rattle.genie_model.specs.Pending.{arrived}
use Rattle.genie_model.specs.State as flat
use Rattle.genie_model.specs.Tables.{entry}
use Rattle.genie_model.specs.declared.fate.Fate.{Fate}
use Rattle.genie_model.specs.declared.fate.Fate.TheVariants.{Matched, Skipped, Gathering}
use Rattle.genie_kernel.specs.declared.kernel.Kernel.{Kernel}
use Rattle.genie_kernel.specs.declared.transfer.Transfer.{Transfer}
use Rattle.genie_kernel.specs.Calls.{receiver}
use Rattle.genie_kernel.specs.Devices.{device_view, devices_view, datagram_view}
use Rattle.genie_kernel.specs.View.{Bytes, state_of}
use Rattle.genie_kernel.specs.Lemmas.Tidying.{tidy_view}

-- a device at its place
device_entry : (s : ℕ → List ℕ) (n : ℕ) (rests sents : ℕ → List ℕ) (pools : List (Option PoolState)) (rs : ℕ → Option Transfer) (vs : List (Option DeviceView)) (d : ℕ)
    → entry (devices_view s n rests sents pools rs vs) d ≡ option_map (device_view s (rests (n + d)) (sents (n + d)) (entry pools (n + d)) (rs (n + d))) (entry vs d)
device_entry s n rests sents pools rs [] d = refl
device_entry s n rests sents pools rs (v ∷ vs) zero = let e : n + 0 ≡ n = omega arith in ap (λ m. option_map (device_view s (rests m) (sents m) (entry pools m) (rs m)) v) (sym e)
device_entry s n rests sents pools rs (v ∷ vs) (suc d) = let e : (n + 1) + d ≡ n + suc d = omega arith in device_entry s (n + 1) rests sents pools rs vs d ∙ ap (λ m. option_map (device_view s (rests m) (sents m) (entry pools m) (rs m)) (entry vs d)) e

pub entry_view : (s : ℕ → List ℕ) (rests sents : ℕ → List ℕ) (pools : List (Option PoolState)) (rs : ℕ → Option Transfer) (vs : List (Option DeviceView)) (d : ℕ)
    → entry (devices_view s 0 rests sents pools rs vs) d ≡ option_map (device_view s (rests d) (sents d) (entry pools d) (rs d)) (entry vs d)
entry_view s rests sents pools rs vs d = let e : 0 + d ≡ d = omega arith in device_entry s 0 rests sents pools rs vs d ∙ ap (λ m. option_map (device_view s (rests m) (sents m) (entry pools m) (rs m)) (entry vs d)) e

-- the same bytes seen, with other inputs and outputs
abbrev pub over : Seen → (ℕ → List ℕ) → (ℕ → List ℕ) → Bytes
over seen rests sents = record { seen = seen; rests = rests; sents = sents }

module _ (k : Kernel) (seen : Seen) (r q x y : ℕ → List ℕ) where
  abbrev old : flat.State
  old = state_of k (over seen r x)

  abbrev new : flat.State
  new = state_of k (over seen q y)

  abbrev one : List ℕ → List ℕ → ℕ → Option DeviceView → Option flat.Device
  one rest sent d v = option_map (device_view seen.kept_bytes rest sent (entry k.pools d) (receiver k.transfers d)) v

  old_entry : (d : ℕ) → entry old.devices d ≡ one (r d) (x d) d (entry k.devices d)
  old_entry d = entry_view seen.kept_bytes r x k.pools (receiver k.transfers) k.devices d

  new_entry : (d : ℕ) → entry new.devices d ≡ one (q d) (y d) d (entry k.devices d)
  new_entry d = entry_view seen.kept_bytes q y k.pools (receiver k.transfers) k.devices d

  -- what doesn't look at what is left and was sent is so of each device as before
  at_each : (P Q : ℕ → Option flat.Device → Type 0) → ((d : ℕ) (o : Option DeviceView) → P d (one (r d) (x d) d o) → Q d (one (q d) (y d) d o)) → (d : ℕ) → P d (entry old.devices d) → Q d (entry new.devices d)
  at_each P Q h d p = subst (Q d) (sym (new_entry d)) (h d (entry k.devices d) (subst (P d) (old_entry d) p))

  shape_same : (d : ℕ) (o : Option DeviceView) → shape_of (one (q d) (y d) d o) ≡ shape_of (one (r d) (x d) d o)
  shape_same d None = refl
  shape_same d (Some v) = refl

  receives_same : (d : ℕ) (o : Option DeviceView) → receives_for (one (q d) (y d) d o) ≡ receives_for (one (r d) (x d) d o)
  receives_same d None = refl
  receives_same d (Some v) = refl

  input_same : (d : ℕ) (f : Fate) → GoesToInput old d f → GoesToInput new d f
  input_same d Skipped h = h
  input_same d (Matched t) h = h
  input_same d Gathering h = h

  present_same : (d : ℕ) (v : DeviceView) (p : Option PoolState) (t : Option Transfer) (g : Option Present) → IfSome (option_map (datagram_view seen.kept_bytes v p t) g) (IsUnderWay old d) → IfSome (option_map (datagram_view seen.kept_bytes v p t) g) (IsUnderWay new d)
  present_same d v p t None h = h
  present_same d v p t (Some g) h = record { left = h.left; input = input_same d (datagram_view seen.kept_bytes v p t g).fate h.input }

  matched_same : (d : ℕ) (o : Option DeviceView) → ReceivesForInput old d (one (r d) (x d) d o) → ReceivesForInput new d (one (q d) (y d) d o)
  matched_same d None h = h
  matched_same d (Some v) h = present_same d v (entry k.pools d) (receiver k.transfers d) v.present h

  suits_same : (d : ℕ) (v : DeviceView) (g : Option Present) → IfSome (option_map (datagram_view seen.kept_bytes v (entry k.pools d) (receiver k.transfers d)) g) (SuitsDevice k.config.page (device_view seen.kept_bytes (r d) (x d) (entry k.pools d) (receiver k.transfers d) v)) → IfSome (option_map (datagram_view seen.kept_bytes v (entry k.pools d) (receiver k.transfers d)) g) (SuitsDevice k.config.page (device_view seen.kept_bytes (q d) (y d) (entry k.pools d) (receiver k.transfers d) v))
  suits_same d v None h = h
  suits_same d v (Some g) h = record { header = h.header; short = h.short; fate = h.fate }

  datagram_same : (d : ℕ) (o : Option DeviceView) → IfSome (one (r d) (x d) d o) (λ (v : flat.Device). IfSome v.present (SuitsDevice k.config.page v)) → IfSome (one (q d) (y d) d o) (λ (v : flat.Device). IfSome v.present (SuitsDevice k.config.page v))
  datagram_same d None h = h
  datagram_same d (Some v) h = suits_same d v v.present h

  depth_same : (d : ℕ) (o : Option DeviceView) → KeepsDepth (arrived old d) (one (r d) (x d) d o) → KeepsDepth (arrived new d) (one (q d) (y d) d o)
  depth_same d None h = h
  depth_same d (Some v) h = h

  pub rests_blind : IsOrderly old → IsOrderly new
  rests_blind o = record {
    config = o.config;
    places = o.places;
    devices = λ d. ap shape_of (new_entry d) ∙ shape_same d (entry k.devices d) ∙ sym (ap shape_of (old_entry d)) ∙ o.devices d;
    regions = o.regions;
    wired = o.wired;
    committed = o.committed;
    transfers = record { few = o.transfers.few; order = o.transfers.order; below = o.transfers.below };
    numbers = o.numbers;
    orphans = o.orphans;
    rise = o.rise;
    order = o.order;
    tidied = tidy_view k (over seen q y);
    ranges = o.ranges;
    holds = record { held = o.holds.held; one = o.holds.one };
    posted = o.posted;
    matched = λ d. at_each (ReceivesForInput old) (ReceivesForInput new) matched_same d (o.matched d);
    below = o.below;
    filled = o.filled;
    weak = o.weak;
    calls = o.calls;
    queues = o.queues;
    moving = λ i t l is. ap receives_for (new_entry (get_or old.transfers i t).device) ∙ receives_same (get_or old.transfers i t).device (entry k.devices (get_or old.transfers i t).device) ∙ sym (ap receives_for (old_entry (get_or old.transfers i t).device)) ∙ o.moving i t l is;
    received = λ i t l is. o.received i t l (ap receives_for (old_entry (get_or old.transfers i t).device) ∙ sym (receives_same (get_or old.transfers i t).device (entry k.devices (get_or old.transfers i t).device)) ∙ sym (ap receives_for (new_entry (get_or old.transfers i t).device)) ∙ is);
    datagrams = λ d. at_each (λ j v. IfSome v (λ (w : flat.Device). IfSome w.present (SuitsDevice k.config.page w))) (λ j v. IfSome v (λ (w : flat.Device). IfSome w.present (SuitsDevice k.config.page w))) datagram_same d (o.datagrams d);
    depths = λ d. at_each (λ j v. KeepsDepth (arrived old j) v) (λ j v. KeepsDepth (arrived new j) v) depth_same d (o.depths d);
  }
