-- A step that gathers a header, and begins a datagram in a buffer of a pool.
use Rattle.std.proofs.Common.{◌≡◌, ℕ, ◌+◌, ◌-◌, ◌*◌, ◌^◌, ◌<◌, ◌≤◌, Bool, true, false, not, List, [], ◌∷◌, ◌++◌, refl, sym, ap, subst, arith, ◌∙◌, ⊎_elim, length, set, take, drop, eq-eqb}
use Rattle.std.specs.Prelude.{Option, Some, None, IsSome, count_by, is_some, position, nat_le, ◌==◌, ◌&&◌}
use Rattle.std.specs.List.{list_any}
use Rattle.std.specs.Option.{option_map}
use Rattle.std.proofs.lemmas.Bool.{cases_lt}
use Rattle.std.proofs.lemmas.List.{length-set, get_or-set_same}
use Rattle.std.proofs.lemmas.List.Folds.{list_any_at}
use Rattle.std.proofs.lemmas.List.Quantifiers.{position-Some}
use Rattle.std.proofs.lemmas.List.Sums.{sum_by-cons}
use Rattle.genie_base.specs.Configs.{most}
use Rattle.genie_base.specs.Headers.{is_valid_header, is_whole_header}
use Rattle.genie_base.specs.Lemmas.Places.{num}
use Rattle.genie_base.specs.Lemmas.Searches.{position_any}
use Rattle.genie_base.specs.declared.config.Kind.TheVariants.{Pooled}
use Rattle.genie_base.specs.declared.event.Event.TheVariants.{Recv}
use Rattle.genie_base.specs.declared.reply.Reply.{Reply}
use Rattle.genie_device.specs.Buffers.{arrived_count, begun as buffers_begun, first_free}
use Rattle.genie_device.specs.Device.{DeviceView, IsReading, after_header, handle_of, is_outboard}
use Rattle.genie_device.specs.declared.steps.HeaderEnd.{HeaderEnd}
use Rattle.genie_device.specs.declared.steps.HeaderEnd.TheVariants.{More, Whole, Bad, Faulted}
use Rattle.genie_frame.specs.declared.frame.InLoan.{InLoan}
use Rattle.genie_host.specs.Host.{HostView, OnlyHandle}
use Rattle.genie_input.specs.Pools.{PoolState, is_filling, is_free, is_held, set_buffer}
use Rattle.genie_input.specs.declared.pool.BufferState.{BufferState}
use Rattle.genie_input.specs.declared.pool.BufferState.TheVariants.{Free, Filling, Held}
use Rattle.genie_orderly.specs.Orderly.{KeepsDepth, on_its_way}
use Rattle.genie_plan.specs.Plans.{CanLand, input_frames}
use Rattle.genie_wire.specs.Headers.{IsWhole, header_in}
use Rattle.genie_wire.specs.declared.header.Header.{Header}
use Rattle.genie_model.specs.Pending.{arrived, is_early}
use Rattle.genie_model.specs.Receiving.{is_between_records}
use Rattle.genie_model.specs.Refusing.{refuse}
use Rattle.genie_model.specs.State as flat
use Rattle.genie_model.specs.Tables.{entry}
use Rattle.genie_model.specs.Lemmas.Lists.{entry_same}
use Rattle.genie_kernel.specs.declared.kernel.Kernel.{Kernel}
use Rattle.genie_kernel.specs.declared.transfer.Transfer.{Transfer}
use Rattle.genie_kernel.specs.Calls.{has_arrived, receiver}
use Rattle.genie_kernel.specs.Devices.{device_view}
use Rattle.genie_kernel.specs.Good.{IsGood}
use Rattle.genie_kernel.specs.Handles.{HasHandles}
use Rattle.genie_kernel.specs.Matching.{has_filling, is_filling_pool}
use Rattle.genie_kernel.specs.Steps.{StaysOrderly}
use Rattle.genie_kernel.specs.Transfers.{pool_frames}
use Rattle.genie_kernel.specs.View.{Bytes, no_bytes, outline, state_of}
use Rattle.genie_kernel.specs.Lemmas.DeviceViews.{entry_view}
use Rattle.genie_receiving.specs.Devices.{KeepsPayload}
use Rattle.genie_receiving.specs.Gathering.{GathersHeader, IsBetween, MayGather}
use Rattle.genie_receiving.specs.Landing.{MayMove}
use Rattle.genie_receiving.specs.Laws.{ReceiveLaws}
use Rattle.genie_receiving.specs.Receiving.{Receives}
use Rattle.genie_receiving.specs.Lemmas.Accepted.{may_receive, reading}
use Rattle.genie_receiving.specs.Lemmas.Bytes.{append_none}
use Rattle.genie_receiving.specs.Lemmas.Flat.{whole_true}
use Rattle.genie_receiving.specs.Lemmas.Gathered.{IsFree, IsSkipped, gathered_device, gathered_receives, gathered_reply, judged_whole}
use Rattle.genie_receiving.specs.Lemmas.Good.{configured}
use Rattle.genie_pooling.specs.Buffers.{Begins, HasFilling, MayBegin}
use Rattle.genie_pooling.specs.Filling.{MayLandIn, offset_at}
use Rattle.genie_pooling.specs.Pooled.{FillsPayload, IsOutside, IsOutsideAt}
use Rattle.genie_pooling.proofs.Counting.{arrived_same, as_many_held}
use Rattle.genie_pooling.proofs.Pools.{Fills, fills_begun, fills_none, fills_one}
use Rattle.genie_pooling.proofs.Received.{fills_receive}
use Rattle.genie_pooling.proofs.Room.{IsPooled, may_land, pooled_of}
use Rattle.genie_pooling.proofs.Steps.{begun, beginning, begun_steps}

pub outside_of : (k : Kernel) (d : ℕ) → IsOutsideAt d k.transfers (entry k.devices d) → (v : DeviceView) × (entry k.devices d ≡ Some v) × IsOutside d k.transfers v
outside_of k d at = by (entry k.devices d) refl at
  where
    by : (o : Option DeviceView) → entry k.devices d ≡ o → IsOutsideAt d k.transfers o → (v : DeviceView) × (entry k.devices d ≡ Some v) × IsOutside d k.transfers v
    by None e is = absurd is
    by (Some v) e is = (v, e, is)

between_of : (d : ℕ) (ts : List Transfer) (v : DeviceView) → IsOutside d ts v → IsBetween v
between_of d ts v is = record { absent = is.absent; good = is.fine; free = ap (λ c. is_outboard c && nat_le v.config.depth (arrived_count v.buffers)) is.kind }

pub may_gather : (k : Kernel) (d n : ℕ) (host : HostView) → IsGood k → refuse (outline k) (Recv d n) ≡ None → HasHandles k.config host → IsOutsideAt d k.transfers (entry k.devices d) → MayGather (entry k.devices d) host
may_gather k d n host g h handles at =
    let x = outside_of k d at in
    subst (λ o. MayGather o host) (sym x.1) (between_of d k.transfers x.0 x.2, reading k d n x.0 host g h handles x.1)

unbusy : (a e c : Bool) → c ≡ false → (a && e && c) ≡ false
unbusy true true c h = h
unbusy true false c h = refl
unbusy false e c h = refl

-- fewer datagrams wait than it has buffers
free_of : (k : Kernel) (d : ℕ) (v : DeviceView) → IsOutside d k.transfers v → IsFree k d v
free_of k d v is b rest =
    let x : flat.Device = device_view b.seen.kept_bytes rest (b.sents d) (entry k.pools d) (receiver k.transfers d) v in
    unbusy (is_between_records x) (not (is_early v.config.kind)) (arrived (state_of k b) d == v.config.depth) (ap (λ n. n == v.config.depth) (arrived_same k b d) ∙ is.free)

pub depth_kept : (k : Kernel) (d : ℕ) (v : DeviceView) → IsGood k → entry k.devices d ≡ Some v → v.config.kind ≡ Pooled → arrived (outline k) d + on_its_way (device_view (no_bytes k.config.page).seen.kept_bytes [] [] (entry k.pools d) (receiver k.transfers d) v) ≤ v.config.depth
depth_kept k d v g there kind =
    let z : Bytes = no_bytes k.config.page in
    let at : entry (outline k).devices d ≡ Some (device_view z.seen.kept_bytes [] [] (entry k.pools d) (receiver k.transfers d) v) = entry_view z.seen.kept_bytes (λ j. []) (λ j. []) k.pools (receiver k.transfers) k.devices d ∙ ap (option_map (device_view z.seen.kept_bytes [] [] (entry k.pools d) (receiver k.transfers d))) there in
    let kept : KeepsDepth (arrived (outline k) d) (Some (device_view z.seen.kept_bytes [] [] (entry k.pools d) (receiver k.transfers d) v)) = subst (KeepsDepth (arrived (outline k) d)) at (g.orderly.depths d) in
    kept (ap is_early kind)

less_of : (a c : ℕ) → (a == c) ≡ false → a ≤ c → a < c
less_of a c e l = ⊎_elim (λ (s : a < c). s) (λ (m : c ≤ a). let yes : (a == c) ≡ true = eq-eqb a c (omega (arith, l, m)) in let clash : true ≡ false = sym yes ∙ e in absurd (cc)) (cases_lt a c)

free_there : (bs : List BufferState) → list_any is_filling bs ≡ false → count_by is_held bs < length bs → list_any is_free bs ≡ true
free_there [] f l = absurd (omega (arith, l))
free_there (Free ∷ bs) f l = refl
free_there (Filling ∷ bs) f l = absurd (cc)
free_there (Held ∷ bs) f l = let s = sum_by-cons (λ y. num (is_held y)) Held bs in let one : num (is_held Held) ≡ 1 = refl in free_there bs f (omega (arith, s, one, l))

-- its pool fills no buffer
none_filling : (k : Kernel) (d : ℕ) (v : DeviceView) (p : PoolState) → IsGood k → IsPooled k d v p → IsOutside d k.transfers v → list_any is_filling p.buffers ≡ false
none_filling k d v p g is out = sym (ap has_filling is.pooled) ∙ g.arrived.filling d ∙ (λ i. is_filling_pool (is.there i) (is.pooled i)) ∙ ap (λ o. is_some o && true) out.absent

pub may_begin : (k : Kernel) (d : ℕ) → IsGood k → IsOutsideAt d k.transfers (entry k.devices d) → MayBegin (entry k.pools d)
may_begin k d g at =
    let x = outside_of k d at in
    let v : DeviceView = x.0 in
    let pool = pooled_of k d v g x.1 x.2.kind in
    let p : PoolState = pool.0 in
    let is = pool.1 in
    let z : Bytes = no_bytes k.config.page in
    let same : arrived (outline k) d ≡ count_by (has_arrived d) k.transfers = arrived_same k z d in
    let held : arrived (outline k) d ≡ count_by is_held p.buffers = as_many_held k z d v p g x.1 (ap is_early is.kind) is.pooled in
    let kept = depth_kept k d v g x.1 is.kind in
    let less = less_of (count_by (has_arrived d) k.transfers) v.config.depth x.2.free (omega (arith, same, kept)) in
    let depth = is.depth in
    let none = none_filling k d v p g is x.2 in
    let any = free_there p.buffers none (omega (arith, same, held, less, depth)) in
    subst MayBegin (sym is.pooled) (record { free = position_any is_free p.buffers any; none = fills_none p.buffers none })

-- the pool fills its first free buffer now
pub record HasBegun (k : Kernel) (d : ℕ) (v : DeviceView) (pools : List (Option PoolState)) : Type 0 where
  pub p : PoolState
  pub q : PoolState
  pub b : ℕ
  pub is : IsPooled k d v p
  pub fills : Fills p q b
  pub now : pools ≡ set k.pools d (Some q)

same_pool : (a e : PoolState) → Some a ≡ Some e → a ≡ e
same_pool a e s = cc

same_device : (a e : DeviceView) → Some a ≡ Some e → a ≡ e
same_device a e s = cc

some_place : (o : Option ℕ) → IsSome o → (b : ℕ) × (o ≡ Some b)
some_place None h = absurd (cc)
some_place (Some b) h = (b, refl)

has_begun : (k : Kernel) (d : ℕ) (v : DeviceView) (pools : List (Option PoolState)) → IsGood k → entry k.devices d ≡ Some v → IsOutside d k.transfers v → Begins d k.pools pools → HasBegun k d v pools
has_begun k d v pools g there out x =
    let pool = pooled_of k d v g there out.kind in
    let p : PoolState = pool.0 in
    let is = pool.1 in
    let before : x.before ≡ p = same_pool x.before p (sym x.there ∙ is.pooled) in
    let first : position is_free p.buffers ≡ Some x.buffer = ap (λ (z : PoolState). position is_free z.buffers) (sym before) ∙ x.first in
    let at = position-Some is_free p.buffers x.buffer Free first in
    let low = at.0 in
    let size = length-set p.buffers x.buffer Filling in
    let any : list_any is_filling (set p.buffers x.buffer Filling) ≡ true = list_any_at is_filling (set p.buffers x.buffer Filling) x.buffer Free (omega (arith, low, size)) (ap is_filling (get_or-set_same p.buffers x.buffer Filling Free at.0)) in
    let place = some_place (position is_filling (set p.buffers x.buffer Filling)) (fills_one (set p.buffers x.buffer Filling) any) in
    record {
      p = p;
      q = set_buffer p x.buffer Filling;
      b = place.0;
      is = is;
      fills = fills_begun p x.buffer place.0 is.pool (fills_none p.buffers (none_filling k d v p g is out)) first place.1;
      now = x.only ∙ ap (λ (z : PoolState). set k.pools d (Some (set_buffer z x.buffer Filling))) before;
    }

pub begun_filling : (k : Kernel) (d : ℕ) (pools : List (Option PoolState)) → IsGood k → IsOutsideAt d k.transfers (entry k.devices d) → Begins d k.pools pools → HasFilling (entry pools d)
begun_filling k d pools g at x =
    let o = outside_of k d at in
    let h = has_begun k d o.0 pools g o.1 o.2 x in
    subst HasFilling (sym (ap (λ ps. entry ps d) h.now ∙ entry_same k.pools d h.p (Some h.q) h.is.pooled)) (ap is_some h.fills.filling)

pub begun_ready : (k : Kernel) (d : ℕ) (pools : List (Option PoolState)) → IsGood k → IsOutsideAt d k.transfers (entry k.devices d) → Begins d k.pools pools → MayLandIn k.memory.frames (offset_at (entry k.config.devices d)) (16 * k.config.page) (entry pools d)
begun_ready k d pools g at x =
    let o = outside_of k d at in
    let h = has_begun k d o.0 pools g o.1 o.2 x in
    let size = h.fills.count in
    let frames : (b : ℕ) → pool_frames h.q b ≡ pool_frames h.p b = λ b. ap (λ (l : List InLoan). input_frames (take 17 (drop (17 * b) l))) h.fills.loans in
    subst (MayLandIn k.memory.frames (offset_at (entry k.config.devices d)) (16 * k.config.page)) (sym (ap (λ ps. entry ps d) h.now ∙ entry_same k.pools d h.p (Some h.q) h.is.pooled))
    (λ b e. let place = (position-Some is_filling h.q.buffers b Free e).0 in
    subst (λ (fs : List ℕ). CanLand k.memory.frames fs (offset_at (entry k.config.devices d)) (16 * k.config.page)) (sym (frames b))
    (subst (λ w. CanLand k.memory.frames (pool_frames h.p b) w (16 * k.config.page)) (sym (ap offset_at h.is.config)) (may_land k d o.0 h.p g h.is b (omega (arith, place, size)))))

pub begun_config : (k : Kernel) (d : ℕ) → IsGood k → IsOutsideAt d k.transfers (entry k.devices d) → IsSome (entry k.config.devices d)
begun_config k d g at = let o = outside_of k d at in let pool = pooled_of k d o.0 g o.1 o.2.kind in ap is_some pool.1.config

-- the device may move the payload of the datagram that its header has begun
pub begun_moves : (k : Kernel) (d n moved : ℕ) (old now : HostView) (devices : List (Option DeviceView)) (h : Header) → IsGood k → refuse (outline k) (Recv d n) ≡ None → HasHandles k.config old → GathersHeader d n old now k.devices devices moved (Whole h) → MayMove (entry devices d) now
begun_moves k d n moved old now devices h g accepted handles x =
    let here : entry devices d ≡ Some x.after = ap (λ ds. entry ds d) x.only ∙ entry_same k.devices d x.before (Some x.after) x.there in
    let present : is_some x.after.present ≡ true = ap (λ (v : DeviceView). is_some v.present) x.receives.device in
    let config : x.after.config.input ≡ x.before.config.input = ap (λ (v : DeviceView). v.config.input) x.receives.device in
    let open_before = reading k d n x.before old g accepted handles x.there in
    subst (λ o. MayMove o now) (sym here) (present, subst (λ i. IsReading i now) (sym config) (still x.before.config.input open_before x.receives.takes.only))
  where
    still : (i : Option ℕ) → IsReading i old → OnlyHandle (handle_of i) old now → IsReading i now
    still None is only = absurd is
    still (Some a) is only = only.mode ∙ is

pub begun_room : (k : Kernel) (d n moved landed : ℕ) → refuse (outline k) (Recv d n) ≡ None → landed < 2 ^ 63 → landed + (n - moved) < 2 ^ 64
begun_room k d n moved landed h l = let high = (may_receive k d n h).most in omega (arith, l, high)

pub begun_short : (k : Kernel) (d n moved : ℕ) → refuse (outline k) (Recv d n) ≡ None → moved ≤ n → moved + (n - moved) < 2 ^ 32
begun_short k d n moved h l = let high = (may_receive k d n h).most in omega (arith, l, high)

-- the header isn't whole and valid
abbrev pub is_over : HeaderEnd → Bool
is_over More = true
is_over (Whole h) = false
is_over Bad = true
is_over Faulted = true

over_skipped : (end : HeaderEnd) (k : Kernel) (d : ℕ) (v : DeviceView) → is_over end ≡ true → IsSkipped end k d v
over_skipped More k d v e = tt
over_skipped (Whole h) k d v e = absurd (cc)
over_skipped Bad k d v e = tt
over_skipped Faulted k d v e = tt

over_device : (end : HeaderEnd) (bytes : List ℕ) (v : DeviceView) → is_over end ≡ true → after_header end bytes v ≡ gathered_device end bytes v
over_device More bytes v e = refl
over_device (Whole h) bytes v e = absurd (cc)
over_device Bad bytes v e = refl
over_device Faulted bytes v e = refl

pub short_receives : StaysOrderly → (k : Kernel) (d n : ℕ) (old now : HostView) (devices : List (Option DeviceView)) (moved : ℕ) (end : HeaderEnd) → IsGood k → refuse (outline k) (Recv d n) ≡ None → IsOutsideAt d k.transfers (entry k.devices d) → is_over end ≡ true → GathersHeader d n old now k.devices devices moved end → Receives d n old now k (record k { devices = devices }) (gathered_reply end moved)
short_receives law k d n old now devices moved end good accepted at over x =
    let v : DeviceView = x.before in
    let is : IsOutside d k.transfers v = subst (IsOutsideAt d k.transfers) x.there at in
    let w : devices ≡ set k.devices d (Some (gathered_device end (v.gathered ++ x.receives.taken) v)) = x.only ∙ ap (λ u. set k.devices d (Some u)) (x.receives.device ∙ over_device end (v.gathered ++ x.receives.taken) v over) in
    subst (λ ds. Receives d n old now k (record k { devices = ds }) (gathered_reply end moved)) (sym w)
    (gathered_receives law k d n v x.receives.taken moved end old now good accepted x.there (between_of d k.transfers v is) (free_of k d v is) (over_skipped end k d v over) x.receives.takes)

some_taken : (gathered taken : List ℕ) → is_whole_header gathered ≡ false → IsWhole (gathered ++ taken) → 0 < length taken
some_taken gathered [] short whole = let is : is_whole_header gathered ≡ true = whole_true gathered (subst IsWhole (append_none gathered) whole) in let clash : false ≡ true = sym short ∙ is in absurd (cc)
some_taken gathered (x ∷ taken) short whole = omega arith

-- a pooled device has no buffers of its own
begun_device : (h : Header) (bytes : List ℕ) (v : DeviceView) → v.buffers ≡ [] → after_header (Whole h) bytes v ≡ beginning h v
begun_device h bytes v none =
    (λ i. record v { gathered = []; present = Some (record { header = h; moved = 0; buffer = first_free (none i) }); buffers = buffers_begun (first_free (none i)) (none i) })
    ∙ (λ i. record v { gathered = []; present = Some (record { header = h; moved = 0; buffer = None }); buffers = sym none i })

-- a step whose header is whole
pub record_receives : ReceiveLaws → (k new : Kernel) (devices : List (Option DeviceView)) (pools : List (Option PoolState)) (d n moved : ℕ) (h : Header) (old middle now : HostView) (r : Reply) → IsGood k → refuse (outline k) (Recv d n) ≡ None → IsOutsideAt d k.transfers (entry k.devices d) → GathersHeader d n old middle k.devices devices moved (Whole h) → Begins d k.pools pools
    → FillsPayload d h moved (n - moved) middle now (record k { devices = devices; pools = pools }) new r → Receives d n old now k new r
record_receives laws k new devices pools d n moved h old middle now r good accepted at x begins y =
    let v : DeviceView = x.before in
    let there : entry k.devices d ≡ Some v = x.there in
    let out : IsOutside d k.transfers v = subst (IsOutsideAt d k.transfers) there at in
    let taken : List ℕ = x.receives.taken in
    let takes = x.receives.takes in
    let size : length taken ≡ moved = takes.size in
    let all : List ℕ = v.gathered ++ taken in
    let whole : IsWhole all = takes.ends.0 in
    let judge = judged_whole (is_valid_header v.limit all) h all takes.ends.1 in
    let hh : Header = header_in all in
    let valid : is_valid_header (most v.config.kind k.config.page) all ≡ true = subst (λ m. is_valid_header m all ≡ true) (configured k d v good there).1 judge.0 in
    let v1 : DeviceView = beginning hh v in
    let buffers : v.buffers ≡ [] = x.buffers (ap is_outboard out.kind) in
    let after_is : x.after ≡ v1 = x.receives.device ∙ ap (λ z. after_header (Whole z) all v) judge.1 ∙ begun_device hh all v buffers in
    let devices_are : devices ≡ set k.devices d (Some v1) = x.only ∙ ap (λ z. set k.devices d (Some z)) after_is in
    let b = has_begun k d v pools good there out begins in
    let kept : KeepsPayload v v1 = record { config = refl; limit = refl; buffers = refl; staged = refl; sent = refl } in
    let within : length taken ≤ n = subst (λ j. j ≤ n) (sym size) takes.within in
    let some : 0 < length taken = some_taken v.gathered taken x.short whole in
    let y1 : FillsPayload d hh (length taken) (n - length taken) middle now (record k { devices = devices; pools = pools }) new r = subst (λ j. FillsPayload d hh j (n - j) middle now (record k { devices = devices; pools = pools }) new r) (sym size) (subst (λ z. FillsPayload d z moved (n - moved) middle now (record k { devices = devices; pools = pools }) new r) judge.1 y) in
    fills_receive laws k good d n v v1 b.p b.q b.b (begun hh) taken b.is kept b.fills old middle now (record k { devices = devices; pools = pools }) new r accepted within takes.only takes.bytes takes.cause
    (λ i. record k { devices = devices_are i; pools = b.now i }) refl
    (λ o c bytes rest shows met input end ended meets ends room len left. begun_steps laws k good o c d b.b n v b.p b.q taken bytes rest b.is b.fills (between_of d k.transfers v out) (free_of k d v out) within some whole valid shows met input end ended meets ends room len left)
    y1
