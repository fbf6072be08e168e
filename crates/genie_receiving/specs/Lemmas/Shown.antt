-- What the state shows while other bytes come into frames: what each transfer shows, and what pools and orphans do.
use Rattle.std.proofs.Common.{◌≡◌, ℕ, ◌*◌, ◌<◌, zero, suc, true, false, cond, List, [], ◌∷◌, ◌++◌, refl, ap, ap₂, arith, ◌∙◌, map, length, take, drop, get_or, inl, inr}
use Rattle.std.specs.Prelude.{Option, Some, None, filter, flat_map, if◌then◌else◌}
use Rattle.genie_base.specs.declared.semantics.Direction.{Direction}
use Rattle.genie_base.specs.declared.semantics.Direction.TheVariants.{Outward, Inward}
use Rattle.genie_device.specs.Device.{DeviceView}
use Rattle.genie_frame.specs.declared.frame.InLoan.{InLoan}
use Rattle.genie_input.specs.Pools.{PoolState}
use Rattle.genie_plan.specs.Plans.{input_frames}
use Rattle.genie_region.specs.declared.region.Region.{Region}
use Rattle.genie_model.specs.Tables.{entry}
use Rattle.genie_model.specs.Lemmas.Lists.{Has}
use Rattle.genie_kernel.specs.declared.kernel.Kernel.{Kernel}
use Rattle.genie_kernel.specs.declared.transfer.Transfer.{Transfer}
use Rattle.genie_kernel.specs.Calls.{is_sent, is_strong_call, first_waiting, receiver}
use Rattle.genie_kernel.specs.Devices.{devices_view}
use Rattle.genie_kernel.specs.Loans.{bytes_in_frames}
use Rattle.genie_kernel.specs.Orphans.{is_orphan, orphan_byte, orphan_view, orphans_view, lent_bytes, all_places, all_numbers}
use Rattle.genie_kernel.specs.Regions.{owned_regions, processes_view}
use Rattle.genie_kernel.specs.Same.{PoolsShowSame, SameNeeded, ShowSame}
use Rattle.genie_kernel.specs.Transfers.{buffer_bytes, payload_of, transfer_view, staged_of, input_bytes, pool_frames}
use Rattle.genie_kernel.specs.View.{Bytes, state_of}
use Rattle.genie_kernel.specs.Lemmas.Alike.{devices_alike}

-- frames that show the same have the same bytes
pub frames_same : (old new : ℕ → List ℕ) (fs : List ℕ) → ShowSame old new fs → bytes_in_frames new fs ≡ bytes_in_frames old fs
frames_same old new [] h = refl
frames_same old new (f ∷ fs) h = ap₂ ◌++◌ (h 0 0 (omega arith)) (frames_same old new fs (λ k d l. h (suc k) d (omega (arith, l))))

-- for pools and devices it is as if there were no transfer
only_pools : (old new : ℕ → List ℕ) (pools : List (Option PoolState)) → PoolsShowSame old new pools → SameNeeded [] [] pools old new
only_pools old new pools h = record { lent = λ k d l. absurd (omega (arith, l)); pooled = h; orphans = λ k x e. absurd (cc) }

pub devices_shown : (old new : ℕ → List ℕ) (pools : List (Option PoolState)) (rests sents : ℕ → List ℕ) (rs : ℕ → Option Transfer) (vs : List (Option DeviceView)) → PoolsShowSame old new pools → devices_view new 0 rests sents pools rs vs ≡ devices_view old 0 rests sents pools rs vs
devices_shown old new pools rests sents rs vs h = devices_alike [] [] pools old new (only_pools old new pools h) 0 rests sents rs vs

taken_same : (old new : ℕ → List ℕ) (n : ℕ) (loans : List InLoan) → ShowSame old new (input_frames loans) → ShowSame old new (input_frames (take n loans))
taken_same old new zero loans h = λ k d l. absurd (omega arith)
taken_same old new (suc n) [] h = h
taken_same old new (suc n) (x ∷ loans) h =
    let later = taken_same old new n loans (λ k d l. h (suc k) d (omega (arith, l))) in
    λ k d l. elim k as (λ j. j < suc (length (input_frames (take n loans))) → new (get_or (x.frame.0 ∷ input_frames (take n loans)) j d) ≡ old (get_or (x.frame.0 ∷ input_frames (take n loans)) j d)) [ zero ↦ λ m. h 0 d (omega arith) | suc j ↦ λ m. later j d (omega (arith, m)) ] l

left_same : (old new : ℕ → List ℕ) (n : ℕ) (loans : List InLoan) → ShowSame old new (input_frames loans) → ShowSame old new (input_frames (drop n loans))
left_same old new zero loans h = h
left_same old new (suc n) [] h = h
left_same old new (suc n) (x ∷ loans) h = left_same old new n loans (λ k d l. h (suc k) d (omega (arith, l)))

buffer_shown : (old new : ℕ → List ℕ) (pools : List (Option PoolState)) (v : Option DeviceView) (d b : ℕ) (p : Option PoolState) → PoolsShowSame old new pools → entry pools d ≡ p → buffer_bytes new v p b ≡ buffer_bytes old v p b
buffer_shown old new pools None d b p h e = refl
buffer_shown old new pools (Some v) d b None h e = refl
buffer_shown old new pools (Some v) d b (Some p) h e =
    let same : ShowSame old new (input_frames p.loans) = rw e at (h d) in
    ap (drop v.config.offset) (frames_same old new (pool_frames p b) (taken_same old new 17 (drop (17 * b) p.loans) (left_same old new (17 * b) p.loans same)))

-- the payload of a transfer whose frames show the same
module _ (old new : ℕ → List ℕ) (pools : List (Option PoolState)) (h : PoolsShowSame old new pools) (devices : List (Option DeviceView)) (first : ℕ → Option Transfer) where
  pub strong_shown : (f : List ℕ → List ℕ) (t : Transfer) → (is_strong_call t ≡ true → lent_bytes new t ≡ lent_bytes old t) → (if is_strong_call t then f (lent_bytes new t) else []) ≡ (if is_strong_call t then f (lent_bytes old t) else [])
  strong_shown f t same = elim (is_strong_call t) as (λ c. is_strong_call t ≡ c → (if c then f (lent_bytes new t) else []) ≡ (if c then f (lent_bytes old t) else [])) [
    | true ↦ λ strong. ap f (same strong)
    | false ↦ λ weak. refl
  ] refl

  input_shown : (t : Transfer) → (is_strong_call t ≡ true → lent_bytes new t ≡ lent_bytes old t) → (b : Option ℕ) → input_bytes new devices pools t b ≡ input_bytes old devices pools t b
  input_shown t same None = strong_shown (take t.stored) t same
  input_shown t same (Some b) = ap (take t.stored) (buffer_shown old new pools (entry devices t.dev) t.dev b (entry pools t.dev) h refl)

  pub payload_shown : (t : Transfer) → (is_strong_call t ≡ true → lent_bytes new t ≡ lent_bytes old t) → (d : Direction) → payload_of new devices pools first t d ≡ payload_of old devices pools first t d
  payload_shown t same Outward =
      let staged : List ℕ = staged_of devices first t in
      ap (λ l. if is_sent t then [] else staged ++ l) (strong_shown (drop (length staged)) t same)
  payload_shown t same Inward = input_shown t same t.buffer

-- the transfers, where each shows the same payload
pub transfers_shown : (old new : ℕ → List ℕ) (devices : List (Option DeviceView)) (pools : List (Option PoolState)) (first : ℕ → Option Transfer) (ts : List Transfer) → ((t : Transfer) → Has t ts → payload_of new devices pools first t t.dir ≡ payload_of old devices pools first t t.dir) → map (transfer_view new devices pools first) ts ≡ map (transfer_view old devices pools first) ts
transfers_shown old new devices pools first [] h = refl
transfers_shown old new devices pools first (t ∷ ts) h = ap₂ ◌∷◌ (ap (λ l. record (transfer_view old devices pools first t) { payload = l }) (h t (inl refl))) (transfers_shown old new devices pools first ts (λ u i. h u (inr i)))

-- the orphans, where each of their bytes shows the same
orphans_from : (page : ℕ) (old new : ℕ → List ℕ) (regions : List Region) (ts : List Transfer) → ((k x : ℕ) → is_orphan regions ts k ≡ true → orphan_byte new ts k x ≡ orphan_byte old ts k x) → (ks : List ℕ) → map (orphan_view page new ts) (filter (is_orphan regions ts) ks) ≡ map (orphan_view page old ts) (filter (is_orphan regions ts) ks)
orphans_from page old new regions ts h [] = refl
orphans_from page old new regions ts h (k ∷ ks) = elim (is_orphan regions ts k) as (λ c. is_orphan regions ts k ≡ c → map (orphan_view page new ts) (cond c (k ∷ filter (is_orphan regions ts) ks) (filter (is_orphan regions ts) ks)) ≡ map (orphan_view page old ts) (cond c (k ∷ filter (is_orphan regions ts) ks) (filter (is_orphan regions ts) ks))) [
  | true ↦ λ e. ap₂ ◌∷◌ (λ i. record { number = k; bytes = flat_map (λ x. h k x e i) (all_places page) }) (orphans_from page old new regions ts h ks)
  | false ↦ λ e. orphans_from page old new regions ts h ks
] refl

pub orphans_shown : (page : ℕ) (old new : ℕ → List ℕ) (regions : List Region) (ts : List Transfer) → ((k x : ℕ) → is_orphan regions ts k ≡ true → orphan_byte new ts k x ≡ orphan_byte old ts k x) → orphans_view page new regions ts ≡ orphans_view page old regions ts
orphans_shown page old new regions ts h = orphans_from page old new regions ts h all_numbers

-- what a state shows beside regions and orphans
pub record ShowsBeside (k : Kernel) (b c : Bytes) : Type 0 where
  pub rests : c.rests ≡ b.rests
  pub sents : c.sents ≡ b.sents
  pub payloads : (t : Transfer) → Has t k.transfers → payload_of c.seen.kept_bytes k.devices k.pools (first_waiting k.transfers) t t.dir ≡ payload_of b.seen.kept_bytes k.devices k.pools (first_waiting k.transfers) t t.dir
  pub pooled : PoolsShowSame b.seen.kept_bytes c.seen.kept_bytes k.pools

-- so the state differs in its regions and orphans alone
pub state_beside : (k : Kernel) (b c : Bytes) → ShowsBeside k b c → state_of k c ≡ record (state_of k b) {
  processes = processes_view c.seen.entry_bytes k.spaces.processes k.queues;
  orphans = orphans_view k.config.page c.seen.kept_bytes (owned_regions k.spaces.processes) k.transfers;
}
state_beside k b c h =
    let old = b.seen.kept_bytes in
    let new = c.seen.kept_bytes in
    let transfers = transfers_shown old new k.devices k.pools (first_waiting k.transfers) k.transfers h.payloads in
    let devices = (λ i. devices_view new 0 (h.rests i) (h.sents i) k.pools (receiver k.transfers) k.devices) ∙ devices_shown old new k.pools b.rests b.sents (receiver k.transfers) k.devices h.pooled in
    λ i. record (state_of k c) { transfers = transfers i; devices = devices i }
