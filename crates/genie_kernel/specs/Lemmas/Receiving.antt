-- An input that is receiving is the one into which its device moves the datagram.
use Rattle.std.proofs.Common.{◌≡◌, ℕ, ◌<◌, true, List, [], ◌∷◌, refl, sym, ap, arith, ◌∙◌, inl, inr, map, get_or}
use Rattle.std.specs.Prelude.{Option, Some, None, All, AllPairs}
use Rattle.std.specs.Option.{option_map}
use Rattle.genie_base.specs.declared.config.Kind.{Kind}
use Rattle.genie_base.specs.declared.config.Kind.TheVariants.{Early, Pooled, Outboard}
use Rattle.genie_device.specs.Device.{DeviceView}
use Rattle.genie_device.specs.declared.present.Present.{Present}
use Rattle.genie_input.specs.Pools.{PoolState}
use Rattle.genie_orderly.specs.Orderly.{receives_for, matched_to}
use Rattle.genie_model.specs.Pending.{is_moving}
use Rattle.genie_model.specs.State as flat
use Rattle.genie_model.specs.Tables.{entry}
use Rattle.genie_model.specs.Lemmas.Lists.{Has, has_at, has_map, all_has, find_has, pairs_head, pairs_tail}
use Rattle.genie_kernel.specs.declared.kernel.Kernel.{Kernel}
use Rattle.genie_kernel.specs.declared.transfer.Transfer.{Transfer}
use Rattle.genie_kernel.specs.Calls.{number_of, receiver, receives_from, first_waiting}
use Rattle.genie_kernel.specs.Devices.{device_view, fate_of, datagram_view}
use Rattle.genie_kernel.specs.Good.{IsGood}
use Rattle.genie_kernel.specs.Transfers.{transfer_view}
use Rattle.genie_kernel.specs.View.{no_bytes, outline}
use Rattle.genie_kernel.specs.Lemmas.DeviceViews.{entry_view}

record IsReceiver (rc : Option Transfer) (n : ℕ) : Type 0 where
  input : Transfer
  is : rc ≡ Some input
  number : number_of input ≡ n

by_fate : (kind : Kind) (rc : Option Transfer) (n : ℕ) → matched_to (fate_of kind rc) ≡ Some n → IsReceiver rc n
by_fate Early None n e = absurd (cc)
by_fate Early (Some r) n e = let h : Some (number_of r) ≡ Some n = e in record { input = r; is = refl; number = cc }
by_fate Pooled rc n e = absurd (cc)
by_fate Outboard rc n e = absurd (cc)

by_datagram : (s : ℕ → List ℕ) (v : DeviceView) (pool : Option PoolState) (rc : Option Transfer) (n : ℕ) (rest sent : List ℕ) (g : Option Present) → v.present ≡ g → receives_for (Some (record (device_view s rest sent pool rc v) { present = option_map (datagram_view s v pool rc) g })) ≡ Some n → IsReceiver rc n
by_datagram s v pool rc n rest sent None is e = absurd (cc)
by_datagram s v pool rc n rest sent (Some g) is e = by_fate v.config.kind rc n e

by_device : (s : ℕ → List ℕ) (pool : Option PoolState) (rc : Option Transfer) (n : ℕ) (rest sent : List ℕ) (o : Option DeviceView) → receives_for (option_map (device_view s rest sent pool rc) o) ≡ Some n → IsReceiver rc n
by_device s pool rc n rest sent None e = absurd (cc)
by_device s pool rc n rest sent (Some v) e = by_datagram s v pool rc n rest sent v.present refl e

-- no two have the same number
same_number : (f : Transfer → flat.Transfer) → ((x : Transfer) → (f x).number ≡ x.id.0) → (ts : List Transfer) (r t : Transfer) → AllPairs (λ (x y : flat.Transfer). x.number < y.number) (map f ts) → Has r ts → Has t ts → r.id.0 ≡ t.id.0 → r ≡ t
same_number f same [] r t a hr ht e = absurd hr
same_number f same (x ∷ ts) r t a (inl er) (inl et) e = sym er ∙ et
same_number f same (x ∷ ts) r t a (inl er) (inr ht) e =
    let less = pairs_head (λ (y z : flat.Transfer). y.number < z.number) (f x) (map f ts) a (f t) (has_map f t ts ht) in
    let is : x.id.0 ≡ r.id.0 = ap number_of er in
    absurd (omega (arith, less, same x, same t, is, e))
same_number f same (x ∷ ts) r t a (inr hr) (inl et) e =
    let less = pairs_head (λ (y z : flat.Transfer). y.number < z.number) (f x) (map f ts) a (f r) (has_map f r ts hr) in
    let is : x.id.0 ≡ t.id.0 = ap number_of et in
    absurd (omega (arith, less, same x, same r, is, e))
same_number f same (x ∷ ts) r t a (inr hr) (inr ht) e = same_number f same ts r t (pairs_tail (λ (y z : flat.Transfer). y.number < z.number) (f x) (map f ts) a) hr ht e

pub moving_received : (k : Kernel) → IsGood k → All (λ (t : Transfer). is_moving t.phase ≡ true → receiver k.transfers t.dev ≡ Some t) k.transfers
moving_received k g = λ i d l moving.
    let ts = k.transfers in
    let t : Transfer = get_or ts i d in
    let s : ℕ → List ℕ = (no_bytes k.config.page).seen.kept_bytes in
    let tv : Transfer → flat.Transfer = transfer_view s k.devices k.pools (first_waiting ts) in
    let there : Has t ts = has_at ts i d l in
    let receives : receives_for (entry (outline k).devices t.dev) ≡ Some (number_of t) = all_has (λ (u : flat.Transfer). is_moving u.phase ≡ true → receives_for (entry (outline k).devices u.device) ≡ Some u.number) (outline k).transfers g.orderly.moving (tv t) (has_map tv t ts there) moving in
    let at : entry (outline k).devices t.dev ≡ option_map (device_view s [] [] (entry k.pools t.dev) (receiver ts t.dev)) (entry k.devices t.dev) = entry_view s (λ j. []) (λ j. []) k.pools (receiver ts) k.devices t.dev in
    let r = by_device s (entry k.pools t.dev) (receiver ts t.dev) (number_of t) [] [] (entry k.devices t.dev) (sym (ap receives_for at) ∙ receives) in
    let found = (find_has (receives_from t.dev) ts r.input r.is).0 in
    r.is ∙ ap Some (same_number tv (λ x. refl) ts r.input t g.orderly.transfers.order found there r.number)
