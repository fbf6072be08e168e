-- The devices of the view, where one has sent or staged more.
use Rattle.std.proofs.Common.{◌≡◌, ℕ, ◌+◌, ◌≤◌, zero, suc, List, [], ◌∷◌, ◌++◌, refl, sym, ap, ap₂, subst, arith, ◌∙◌, set, take}
use Rattle.std.specs.Prelude.{◌≢◌, ◌==◌, Option, Some, None, if◌then◌else◌}
use Rattle.std.specs.Option.{option_map}
use Rattle.genie_device.specs.Device.{DeviceView}
use Rattle.genie_device.specs.declared.present.Present.{Present}
use Rattle.genie_input.specs.Pools.{PoolState}
use Rattle.genie_model.specs.Tables.{entry}
use Rattle.genie_kernel.specs.declared.transfer.Transfer.{Transfer}
use Rattle.genie_kernel.specs.Devices.{device_view, devices_view, datagram_view, filling, gathered_in}
use Rattle.genie_kernel.specs.Transfers.{buffer_bytes}
use Rattle.genie_kernel.specs.View.{Bytes}

-- the device with this much staged and sent of a record
abbrev pub with_output : List ℕ → ℕ → DeviceView → DeviceView
with_output staged sent v = record v { staged = staged; sent = sent }

-- more bytes sent by device d
abbrev pub more_at : (ℕ → List ℕ) → ℕ → List ℕ → ℕ → List ℕ
more_at sents d new j = if j == d then sents j ++ new else sents j

abbrev pub more_sent : Bytes → ℕ → List ℕ → Bytes
more_sent b d new = record b { sents = more_at b.sents d new }

module _ (s : ℕ → List ℕ) (staged : List ℕ) (sent : ℕ) (v : DeviceView) where
  abbrev w : DeviceView
  w = with_output staged sent v

  pub buffer_same : (p : Option PoolState) (b : ℕ) → buffer_bytes s (Some w) p b ≡ buffer_bytes s (Some v) p b
  buffer_same None b = refl
  buffer_same (Some p) b = refl

  gathered_same : (p : Option PoolState) (moved : ℕ) (b : Option ℕ) → gathered_in s w p moved b ≡ gathered_in s v p moved b
  gathered_same p moved None = refl
  gathered_same p moved (Some b) = ap (take moved) (buffer_same p b)

  datagram_same : (p : Option PoolState) (r : Option Transfer) (g : Present) → datagram_view s w p r g ≡ datagram_view s v p r g
  datagram_same p r g = λ i. record (datagram_view s v p r g) { bytes = gathered_same p g.moved (filling p g) i }

  present_same : (p : Option PoolState) (r : Option Transfer) (g : Option Present) → option_map (datagram_view s w p r) g ≡ option_map (datagram_view s v p r) g
  present_same p r None = refl
  present_same p r (Some g) = ap Some (datagram_same p r g)

  -- the view shows nothing of what is staged
  pub device_same : (rest out : List ℕ) (p : Option PoolState) (r : Option Transfer) → device_view s rest out p r w ≡ device_view s rest out p r v
  device_same rest out p r = λ i. record (device_view s rest out p r v) { present = present_same p r v.present i }

devices_behind : (s : ℕ → List ℕ) (n : ℕ) (rests old new : ℕ → List ℕ) (pools : List (Option PoolState)) (rs : ℕ → Option Transfer) (vs : List (Option DeviceView)) → ((j : ℕ) → n ≤ j → new j ≡ old j) → devices_view s n rests new pools rs vs ≡ devices_view s n rests old pools rs vs
devices_behind s n rests old new pools rs [] h = refl
devices_behind s n rests old new pools rs (v ∷ vs) h = ap₂ ◌∷◌ (ap (λ x. option_map (device_view s (rests n) x (entry pools n) (rs n)) v) (h n (omega arith))) (devices_behind s (n + 1) rests old new pools rs vs (λ j l. h j (omega (arith, l))))

devices_put : (s : ℕ → List ℕ) (n d : ℕ) (rests old new : ℕ → List ℕ) (pools : List (Option PoolState)) (rs : ℕ → Option Transfer) (vs : List (Option DeviceView)) (w : DeviceView) → ((j : ℕ) → j ≢ n + d → new j ≡ old j)
    → devices_view s n rests new pools rs (set vs d (Some w)) ≡ set (devices_view s n rests old pools rs vs) d (Some (device_view s (rests (n + d)) (new (n + d)) (entry pools (n + d)) (rs (n + d)) w))
devices_put s n d rests old new pools rs [] w h = refl
devices_put s n zero rests old new pools rs (v ∷ vs) w h =
    let e : n + 0 ≡ n = omega arith in
    ap₂ ◌∷◌ (ap (λ m. Some (device_view s (rests m) (new m) (entry pools m) (rs m) w)) (sym e)) (devices_behind s (n + 1) rests old new pools rs vs (λ j l. h j (λ same. absurd (omega (arith, l, same)))))
devices_put s n (suc d) rests old new pools rs (v ∷ vs) w h =
    let e : (n + 1) + d ≡ n + suc d = omega arith in
    ap₂ ◌∷◌ (ap (λ x. option_map (device_view s (rests n) x (entry pools n) (rs n)) v) (h n (λ same. absurd (omega (arith, same)))))
    (subst (λ m. devices_view s (n + 1) rests new pools rs (set vs d (Some w)) ≡ set (devices_view s (n + 1) rests old pools rs vs) d (Some (device_view s (rests m) (new m) (entry pools m) (rs m) w))) e
    (devices_put s (n + 1) d rests old new pools rs vs w (λ j ne. h j (λ same. ne (same ∙ sym e)))))

-- the devices with a changed one, which has sent more
pub devices_changed : (s : ℕ → List ℕ) (d : ℕ) (rests old new : ℕ → List ℕ) (pools : List (Option PoolState)) (rs : ℕ → Option Transfer) (vs : List (Option DeviceView)) (w : DeviceView) → ((j : ℕ) → j ≢ d → new j ≡ old j)
    → devices_view s 0 rests new pools rs (set vs d (Some w)) ≡ set (devices_view s 0 rests old pools rs vs) d (Some (device_view s (rests d) (new d) (entry pools d) (rs d) w))
devices_changed s d rests old new pools rs vs w h =
    let e : 0 + d ≡ d = omega arith in
    subst (λ m. devices_view s 0 rests new pools rs (set vs d (Some w)) ≡ set (devices_view s 0 rests old pools rs vs) d (Some (device_view s (rests m) (new m) (entry pools m) (rs m) w))) e
    (devices_put s 0 d rests old new pools rs vs w (λ j ne. h j (λ same. ne (same ∙ sym e))))
