-- A step that goes on with a datagram in a buffer of a pool.
use Rattle.std.proofs.Common.{◌≡◌, ℕ, ◌+◌, ◌-◌, ◌*◌, ◌^◌, ◌<◌, ◌≤◌, true, false, List, [], refl, sym, ap, subst, arith, ◌∙◌, set}
use Rattle.std.specs.Prelude.{Option, Some, None, IfSome, IsSome, is_some, position}
use Rattle.std.specs.Option.{option_map}
use Rattle.std.specs.Io.KnownBytes.{Consumes}
use Rattle.genie_base.specs.Posted.{first}
use Rattle.genie_base.specs.declared.event.Event.TheVariants.{Recv}
use Rattle.genie_base.specs.declared.reply.Reply.{Reply}
use Rattle.genie_demux.specs.Posted.{address, number_of as posted_number}
use Rattle.genie_device.specs.Device.{DeviceView, handle_of, header_of}
use Rattle.genie_device.specs.declared.present.Present.{Present}
use Rattle.genie_host.specs.Host.{HostView}
use Rattle.genie_host.specs.OnlyHandle.{only_refl}
use Rattle.genie_input.specs.Pools.{PoolState, is_filling}
use Rattle.genie_object.specs.Lemmas.Works.{page_most}
use Rattle.genie_plan.specs.Plans.{CanLand}
use Rattle.genie_wire.specs.declared.header.Header.{Header}
use Rattle.genie_model.specs.Refusing.{refuse}
use Rattle.genie_model.specs.Tables.{entry}
use Rattle.genie_kernel.specs.declared.kernel.Kernel.{Kernel}
use Rattle.genie_kernel.specs.declared.transfer.Transfer.{Transfer}
use Rattle.genie_kernel.specs.Good.{IsGood}
use Rattle.genie_kernel.specs.Handles.{HasHandles}
use Rattle.genie_kernel.specs.Matching.{has_filling, is_filling_pool}
use Rattle.genie_kernel.specs.Transfers.{pool_frames}
use Rattle.genie_kernel.specs.View.{outline}
use Rattle.genie_receiving.specs.Devices.{KeepsPayload}
use Rattle.genie_receiving.specs.Landing.{MayMove}
use Rattle.genie_receiving.specs.Laws.{ReceiveLaws}
use Rattle.genie_receiving.specs.Receiving.{Receives}
use Rattle.genie_receiving.specs.Lemmas.Accepted.{may_receive, reading}
use Rattle.genie_receiving.specs.Lemmas.Gathered.{set_same}
use Rattle.genie_pooling.specs.Buffers.{HasFilling}
use Rattle.genie_pooling.specs.Delivering.{IsPending}
use Rattle.genie_pooling.specs.Filling.{MayLandIn, offset_at}
use Rattle.genie_pooling.specs.Pooled.{FillsPayload, IsWithin, IsWithinAt}
use Rattle.genie_pooling.proofs.Meeting.{IsMetAt, encounter}
use Rattle.genie_pooling.proofs.Pools.{Fills, fills_one, fills_still}
use Rattle.genie_pooling.proofs.Received.{fills_receive}
use Rattle.genie_pooling.proofs.Room.{IsPooled, may_land, pooled_of}
use Rattle.genie_pooling.proofs.Steps.{within_steps}

nothing : (o : Option (List ℕ)) → Consumes o o []
nothing None = tt
nothing (Some x) = refl

-- the device, its datagram and its pool
pub record IsGathering (h : Header) (k : Kernel) (d : ℕ) : Type 0 where
  pub v : DeviceView
  pub p : PoolState
  pub g : Present
  pub b : ℕ
  pub is : IsPooled k d v p
  pub fine : v.is_bad ≡ false
  pub present : v.present ≡ Some g
  pub header : g.header ≡ h
  pub fills : Fills p p b

has_header : (o : Option Present) (h : Header) → header_of o ≡ Some h → (g : Present) × (o ≡ Some g) × (g.header ≡ h)
has_header None h e = absurd (cc)
has_header (Some g) h e = (g, refl, cc)

some_place : (o : Option ℕ) → IsSome o → (b : ℕ) × (o ≡ Some b)
some_place None h = absurd (cc)
some_place (Some b) h = (b, refl)

device_of : (o : Option DeviceView) (h : Header) → IsWithinAt h o → (v : DeviceView) × (o ≡ Some v) × IsWithin h v
device_of None h is = absurd is
device_of (Some v) h is = (v, refl, is)

pub is_gathering : (h : Header) (k : Kernel) (d : ℕ) → IsGood k → IsWithinAt h (entry k.devices d) → IsGathering h k d
is_gathering h k d g at =
    let x = device_of (entry k.devices d) h at in
    let v : DeviceView = x.0 in
    let its = has_header v.present h x.2.present in
    let pool = pooled_of k d v g x.1 x.2.kind in
    let p : PoolState = pool.0 in
    let fill : has_filling (Some p) ≡ true = sym (ap has_filling pool.1.pooled) ∙ g.arrived.filling d ∙ (λ i. is_filling_pool (x.1 i) (pool.1.pooled i)) ∙ (λ i. is_filling_pool (Some (record v { present = its.1 i })) (Some p)) in
    let place = some_place (position is_filling p.buffers) (fills_one p.buffers fill) in
    record { v = v; p = p; g = its.0; b = place.0; is = pool.1; fine = x.2.fine; present = its.1; header = its.2; fills = fills_still p place.0 pool.1.pool place.1 }

pub may_move : (h : Header) (k : Kernel) (d n : ℕ) (host : HostView) → IsGood k → refuse (outline k) (Recv d n) ≡ None → HasHandles k.config host → IsWithinAt h (entry k.devices d) → MayMove (entry k.devices d) host
may_move h k d n host g accepted handles at =
    let x = is_gathering h k d g at in
    subst (λ o. MayMove o host) (sym x.is.there) (ap is_some x.present, reading k d n x.v host g accepted handles x.is.there)

pub has_config : (h : Header) (k : Kernel) (d : ℕ) → IsGood k → IsWithinAt h (entry k.devices d) → IsSome (entry k.config.devices d)
has_config h k d g at = let x = is_gathering h k d g at in ap is_some x.is.config

pub page_fits : (k : Kernel) → IsGood k → k.config.page ≤ 4096
page_fits k g = let same = g.sized.page in let high = page_most k.memory.frames.page g.sound.shaped.size in omega (arith, same, high)

pub has_filling_pool : (h : Header) (k : Kernel) (d : ℕ) → IsGood k → IsWithinAt h (entry k.devices d) → HasFilling (entry k.pools d)
has_filling_pool h k d g at = let x = is_gathering h k d g at in subst HasFilling (sym x.is.pooled) (ap is_some x.fills.filling)

pub may_fill : (h : Header) (k : Kernel) (d : ℕ) → IsGood k → IsWithinAt h (entry k.devices d) → MayLandIn k.memory.frames (offset_at (entry k.config.devices d)) (16 * k.config.page) (entry k.pools d)
may_fill h k d g at =
    let x = is_gathering h k d g at in
    subst (MayLandIn k.memory.frames (offset_at (entry k.config.devices d)) (16 * k.config.page)) (sym x.is.pooled)
    (λ b e. subst (λ o. CanLand k.memory.frames (pool_frames x.p b) o (16 * k.config.page)) (sym (ap offset_at x.is.config)) (may_land k d x.v x.p g x.is b (fills_still x.p b x.is.pool e).place))

pub may_deliver : ReceiveLaws → (h : Header) (k : Kernel) (d : ℕ) → IsGood k → IsPending (posted_number (first address d h.port h.flow k.posted)) k.transfers
may_deliver laws h k d g = let x = encounter laws k d h.port h.flow g (posted_number (first address d h.port h.flow k.posted)) refl in by x.met x.is x.input
  where
    by : (met : Option (ℕ × Transfer)) → posted_number (first address d h.port h.flow k.posted) ≡ option_map (λ (x : ℕ × Transfer). x.0) met → IfSome met (λ (x : ℕ × Transfer). IsMetAt k d x.0 x.1) → IsPending (posted_number (first address d h.port h.flow k.posted)) k.transfers
    by None e i = subst (λ o. IsPending o k.transfers) (sym e) tt
    by (Some (n, t)) e i = subst (λ o. IsPending o k.transfers) (sym e) (ap is_some i.input.found)

pub fits_room : (k : Kernel) (d n landed : ℕ) → refuse (outline k) (Recv d n) ≡ None → landed < 2 ^ 63 → landed + n < 2 ^ 64
fits_room k d n landed h l = let most = (may_receive k d n h).most in omega (arith, l, most)

pub fits_budget : (k : Kernel) (d n : ℕ) → refuse (outline k) (Recv d n) ≡ None → 0 + n < 2 ^ 32
fits_budget k d n h = let most = (may_receive k d n h).most in omega (arith, most)

pub rest_receives : ReceiveLaws → (h : Header) (k new : Kernel) (d n : ℕ) (old now : HostView) (r : Reply) → IsGood k → refuse (outline k) (Recv d n) ≡ None → IsWithinAt h (entry k.devices d) → FillsPayload d h 0 n old now k new r → Receives d n old now k new r
rest_receives laws h k new d n old now r g accepted at fills =
    let x = is_gathering h k d g at in
    let itself : KeepsPayload x.v x.v = record { config = refl; limit = refl; buffers = refl; staged = refl; sent = refl } in
    let some = (may_receive k d n accepted).some in
    let same : n ≡ n - 0 = omega arith in
    let mid : k ≡ record k { devices = set k.devices d (Some x.v); pools = set k.pools d (Some x.p) } = λ i. record k { devices = sym (set_same k.devices d x.v x.is.there) i; pools = sym (set_same k.pools d x.p x.is.pooled) i } in
    let fills2 : FillsPayload d x.g.header 0 (n - 0) old now k new r = subst (λ m. FillsPayload d x.g.header 0 m old now k new r) same (subst (λ z. FillsPayload d z 0 n old now k new r) (sym x.header) fills) in
    fills_receive laws k g d n x.v x.v x.p x.p x.b x.g [] x.is itself x.fills old old now k new r accepted (omega arith) (only_refl (handle_of x.v.config.input) old) (nothing (old.handle (handle_of x.v.config.input)).bytes) refl mid x.present
    (λ b c bytes rest shows met input end ended meets ends room len left. within_steps laws k g b c d x.b n x.v x.p x.g bytes rest x.is x.fills shows x.fine x.present met input end ended meets ends some room len left) fills2
