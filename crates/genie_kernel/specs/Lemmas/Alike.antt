-- The view hangs on the bytes of entries, on those of frames under strong loans and of pools, and on those of orphans.
use Rattle.std.proofs.Common.{◌≡◌, ℕ, ◌+◌, ◌-◌, ◌*◌, ◌<◌, true, false, cond, zero, suc, List, [], ◌∷◌, ◌++◌, refl, ap, ap₂, ◌∙◌, arith, map, length, take, drop, get_or, inl, inr}
use Rattle.std.specs.Prelude.{Option, Some, None, All, find, filter, flat_map, if◌then◌else◌, slice_index}
use Rattle.std.specs.Option.{option_map}
use Rattle.genie_base.specs.Bytes.{part}
use Rattle.genie_base.specs.declared.semantics.Direction.{Direction}
use Rattle.genie_base.specs.declared.semantics.Direction.TheVariants.{Outward, Inward}
use Rattle.genie_device.specs.Device.{DeviceView}
use Rattle.genie_device.specs.declared.present.Present.{Present}
use Rattle.genie_frame.specs.declared.frame.InLoan.{InLoan}
use Rattle.genie_input.specs.Pools.{PoolState}
use Rattle.genie_plan.specs.Plans.{input_frames}
use Rattle.genie_region.specs.declared.region.Region.{Region}
use Rattle.genie_model.specs.Tables.{entry}
use Rattle.genie_model.specs.Lemmas.Lists.{Has, all_has, find_has}
use Rattle.genie_kernel.specs.declared.kernel.Kernel.{Kernel}
use Rattle.genie_kernel.specs.declared.transfer.Transfer.{Transfer}
use Rattle.genie_kernel.specs.Calls.{is_sent, is_strong_call, first_waiting, receiver}
use Rattle.genie_kernel.specs.Devices.{gathered_in, filling, datagram_view, device_view, devices_view}
use Rattle.genie_kernel.specs.Loans.{frames_of, first_of, bytes_in_frames}
use Rattle.genie_kernel.specs.Orphans.{covers, is_orphan, lent_bytes, byte_under, orphan_view, orphans_view, all_places, all_numbers}
use Rattle.genie_kernel.specs.Regions.{processes_view, owned_regions}
use Rattle.genie_kernel.specs.Transfers.{pool_frames, buffer_bytes, payload_of, transfer_view, transfers_view, staged_of, input_bytes}
use Rattle.genie_kernel.specs.Same.{SameFrames, SameNeeded, ShowSame}
use Rattle.genie_kernel.specs.View.{Bytes, state_of}

map_alike : {X Y : Type 0} (f g : X → Y) (xs : List X) → ((x : X) → Has x xs → f x ≡ g x) → map f xs ≡ map g xs
map_alike f g [] h = refl
map_alike f g (x ∷ xs) h = ap₂ ◌∷◌ (h x (inl refl)) (map_alike f g xs (λ y e. h y (inr e)))

all_tail : {X : Type 0} (P : X → Type 0) (x : X) (xs : List X) → All P (x ∷ xs) → All P xs
all_tail P x xs a = λ k d l. a (suc k) d (omega arith)

frames_alike : (old new : ℕ → List ℕ) (fs : List ℕ) → ShowSame old new fs → bytes_in_frames new fs ≡ bytes_in_frames old fs
frames_alike old new [] h = refl
frames_alike old new (f ∷ fs) h = ap₂ ◌++◌ (h 0 0 (omega arith)) (frames_alike old new fs (all_tail (λ g. new g ≡ old g) f fs h))

-- so do some of these frames
taken_same : (old new : ℕ → List ℕ) (n : ℕ) (loans : List InLoan) → ShowSame old new (input_frames loans) → ShowSame old new (input_frames (take n loans))
taken_same old new zero loans h = λ k d l. absurd (omega arith)
taken_same old new (suc n) [] h = h
taken_same old new (suc n) (x ∷ loans) h =
    let later = taken_same old new n loans (all_tail (λ g. new g ≡ old g) x.frame.0 (input_frames loans) h) in
    λ k d l. elim k as (λ j. j < suc (length (input_frames (take n loans))) → new (get_or (x.frame.0 ∷ input_frames (take n loans)) j d) ≡ old (get_or (x.frame.0 ∷ input_frames (take n loans)) j d)) [ zero ↦ λ m. h 0 d (omega arith) | suc j ↦ λ m. later j d (omega (arith, m)) ] l

left_same : (old new : ℕ → List ℕ) (n : ℕ) (loans : List InLoan) → ShowSame old new (input_frames loans) → ShowSame old new (input_frames (drop n loans))
left_same old new zero loans h = h
left_same old new (suc n) [] h = h
left_same old new (suc n) (x ∷ loans) h = left_same old new n loans (all_tail (λ g. new g ≡ old g) x.frame.0 (input_frames loans) h)

module _ (regions : List Region) (transfers : List Transfer) (pools : List (Option PoolState)) (old new : ℕ → List ℕ) (same : SameNeeded regions transfers pools old new) where
  lent_alike : (t : Transfer) → Has t transfers → is_strong_call t ≡ true → lent_bytes new t ≡ lent_bytes old t
  lent_alike t h strong = ap (part (first_of t.loans) t.len) (frames_alike old new (frames_of t.loans) (all_has (λ (u : Transfer). is_strong_call u ≡ true → ShowSame old new (frames_of u.loans)) transfers same.lent t h strong))

  pooled_alike : (d : ℕ) (p : PoolState) → entry pools d ≡ Some p → ShowSame old new (input_frames p.loans)
  pooled_alike d p e = rw e at (same.pooled d)

  buffer_alike : (v : Option DeviceView) (d b : ℕ) (p : Option PoolState) → entry pools d ≡ p → buffer_bytes new v p b ≡ buffer_bytes old v p b
  buffer_alike None d b p e = refl
  buffer_alike (Some v) d b None e = refl
  buffer_alike (Some v) d b (Some p) e = ap (drop v.config.offset) (frames_alike old new (pool_frames p b) (taken_same old new 17 (drop (17 * b) p.loans) (left_same old new (17 * b) p.loans (pooled_alike d p e))))

  strong_alike : (f : List ℕ → List ℕ) (t : Transfer) → Has t transfers → (if is_strong_call t then f (lent_bytes new t) else []) ≡ (if is_strong_call t then f (lent_bytes old t) else [])
  strong_alike f t h = elim (is_strong_call t) as (λ c. is_strong_call t ≡ c → (if c then f (lent_bytes new t) else []) ≡ (if c then f (lent_bytes old t) else [])) [
    | true ↦ λ strong. ap f (lent_alike t h strong)
    | false ↦ λ weak. refl
  ] refl

  input_alike : (devices : List (Option DeviceView)) (t : Transfer) → Has t transfers → (b : Option ℕ) → input_bytes new devices pools t b ≡ input_bytes old devices pools t b
  input_alike devices t h None = strong_alike (take t.stored) t h
  input_alike devices t h (Some b) = ap (take t.stored) (buffer_alike (entry devices t.dev) t.dev b (entry pools t.dev) refl)

  payload_alike : (devices : List (Option DeviceView)) (t : Transfer) → Has t transfers → (d : Direction) → payload_of new devices pools (first_waiting transfers) t d ≡ payload_of old devices pools (first_waiting transfers) t d
  payload_alike devices t h Outward =
      let staged : List ℕ = staged_of devices (first_waiting transfers) t in
      ap (λ l. if is_sent t then [] else staged ++ l) (strong_alike (drop (length staged)) t h)
  payload_alike devices t h Inward = input_alike devices t h t.buffer

  transfer_alike : (devices : List (Option DeviceView)) (t : Transfer) → Has t transfers → transfer_view new devices pools (first_waiting transfers) t ≡ transfer_view old devices pools (first_waiting transfers) t
  transfer_alike devices t h = ap (λ bytes. record (transfer_view old devices pools (first_waiting transfers) t) { payload = bytes }) (payload_alike devices t h t.dir)

  pub transfers_alike : (devices : List (Option DeviceView)) → transfers_view new devices pools transfers ≡ transfers_view old devices pools transfers
  transfers_alike devices = map_alike (transfer_view new devices pools (first_waiting transfers)) (transfer_view old devices pools (first_waiting transfers)) transfers (transfer_alike devices)

  orphan_alike : (page k : ℕ) → is_orphan regions transfers k ≡ true → orphan_view page new transfers k ≡ orphan_view page old transfers k
  orphan_alike page k e = λ i. record { number = k; bytes = flat_map (λ x. same.orphans k x e i) (all_places page) }

  orphans_from : (page : ℕ) (ks : List ℕ) → map (orphan_view page new transfers) (filter (is_orphan regions transfers) ks) ≡ map (orphan_view page old transfers) (filter (is_orphan regions transfers) ks)
  orphans_from page [] = refl
  orphans_from page (k ∷ ks) = elim (is_orphan regions transfers k) as (λ c. is_orphan regions transfers k ≡ c → map (orphan_view page new transfers) (cond c (k ∷ filter (is_orphan regions transfers) ks) (filter (is_orphan regions transfers) ks)) ≡ map (orphan_view page old transfers) (cond c (k ∷ filter (is_orphan regions transfers) ks) (filter (is_orphan regions transfers) ks))) [
    | true ↦ λ e. ap₂ ◌∷◌ (orphan_alike page k e) (orphans_from page ks)
    | false ↦ λ e. orphans_from page ks
  ] refl

  pub orphans_alike : (page : ℕ) → orphans_view page new regions transfers ≡ orphans_view page old regions transfers
  orphans_alike page = orphans_from page all_numbers

  gathered_alike : (v : DeviceView) (d moved : ℕ) (b : Option ℕ) → gathered_in new v (entry pools d) moved b ≡ gathered_in old v (entry pools d) moved b
  gathered_alike v d moved None = refl
  gathered_alike v d moved (Some b) = ap (take moved) (buffer_alike (Some v) d b (entry pools d) refl)

  present_alike : (v : DeviceView) (d : ℕ) (r : Option Transfer) (g : Option Present) → option_map (datagram_view new v (entry pools d) r) g ≡ option_map (datagram_view old v (entry pools d) r) g
  present_alike v d r None = refl
  present_alike v d r (Some g) = ap (λ bytes. Some (record (datagram_view old v (entry pools d) r g) { bytes = bytes })) (gathered_alike v d g.moved (filling (entry pools d) g))

  device_alike : (d : ℕ) (rest sent : List ℕ) (r : Option Transfer) (v : Option DeviceView) → option_map (device_view new rest sent (entry pools d) r) v ≡ option_map (device_view old rest sent (entry pools d) r) v
  device_alike d rest sent r None = refl
  device_alike d rest sent r (Some v) = ap (λ p. Some (record (device_view old rest sent (entry pools d) r v) { present = p })) (present_alike v d r v.present)

  pub devices_alike : (d : ℕ) (rests sents : ℕ → List ℕ) (rs : ℕ → Option Transfer) (vs : List (Option DeviceView)) → devices_view new d rests sents pools rs vs ≡ devices_view old d rests sents pools rs vs
  devices_alike d rests sents rs [] = refl
  devices_alike d rests sents rs (v ∷ vs) = ap₂ ◌∷◌ (device_alike d (rests d) (sents d) (rs d) v) (devices_alike (d + 1) rests sents rs vs)

-- so the state is the same
pub state_alike : (k : Kernel) (old new : Bytes) → new.seen.entry_bytes ≡ old.seen.entry_bytes → new.rests ≡ old.rests → new.sents ≡ old.sents → SameNeeded (owned_regions k.spaces.processes) k.transfers k.pools old.seen.kept_bytes new.seen.kept_bytes → state_of k new ≡ state_of k old
state_alike k old new entries rests sents same =
    let a = old.seen.kept_bytes in
    let b = new.seen.kept_bytes in
    let regions : List Region = owned_regions k.spaces.processes in
    let orphans = orphans_alike regions k.transfers k.pools a b same k.config.page in
    let transfers = transfers_alike regions k.transfers k.pools a b same k.devices in
    let devices = (λ i. devices_view b 0 (rests i) (sents i) k.pools (receiver k.transfers) k.devices) ∙ devices_alike regions k.transfers k.pools a b same 0 old.rests old.sents (receiver k.transfers) k.devices in
    λ i. record (state_of k old) { processes = processes_view (entries i) k.spaces.processes k.queues; orphans = orphans i; transfers = transfers i; devices = devices i }

byte_alike : (old new : ℕ → List ℕ) (transfers : List Transfer) (x : ℕ) (o : Option Transfer) → All (λ (t : Transfer). ShowSame old new (frames_of t.loans)) transfers → ((t : Transfer) → o ≡ Some t → Has t transfers) → byte_under new x o ≡ byte_under old x o
byte_alike old new transfers x None same h = refl
byte_alike old new transfers x (Some t) same h = ap (λ l. (x, slice_index (part (first_of t.loans) t.len l) (x - t.offset)) ∷ []) (frames_alike old new (frames_of t.loans) (all_has (λ (u : Transfer). ShowSame old new (frames_of u.loans)) transfers same t (h t refl)))

-- it is enough that all lent frames show the same
pub lent_suffice : (regions : List Region) (transfers : List Transfer) (pools : List (Option PoolState)) (old new : ℕ → List ℕ) → SameFrames transfers pools old new → SameNeeded regions transfers pools old new
lent_suffice regions transfers pools old new same = record {
  lent = λ k d l strong. same.lent k d l;
  pooled = same.pooled;
  orphans = λ k x e. byte_alike old new transfers x (find (covers k x) transfers) same.lent (λ t f. (find_has (covers k x) transfers t f).0);
}
