-- The view with another state of one device, and with one transfer at another point of its work.
use Rattle.std.proofs.Common.{◌≡◌, ◌≢◌, ℕ, ◌+◌, zero, suc, Bool, true, false, List, [], ◌∷◌, ◌++◌, refl, sym, ap, ap₂, subst, arith, ◌∙◌, ⊎_elim, map, length, take, set, eq-eqb, inl, inr}
use Rattle.std.specs.Prelude.{Option, Some, None, find, ◌==◌, ◌&&◌, if◌then◌else◌}
use Rattle.std.specs.Option.{option_map}
use Rattle.std.proofs.lemmas.Bool.{ne_eqb}
use Rattle.std.proofs.lemmas.List.{length-set, get_or-set_other}
use Rattle.genie_base.specs.Lemmas.Places.{same_or}
use Rattle.genie_base.specs.declared.config.DeviceConfig.{DeviceConfig}
use Rattle.genie_base.specs.declared.config.Kind.{Kind}
use Rattle.genie_base.specs.declared.config.Kind.TheVariants.{Early, Pooled, Outboard}
use Rattle.genie_base.specs.declared.semantics.Direction.{Direction}
use Rattle.genie_base.specs.declared.semantics.Direction.TheVariants.{Outward, Inward}
use Rattle.genie_base.specs.Records.{header_len}
use Rattle.genie_device.specs.Device.{DeviceView}
use Rattle.genie_device.specs.Buffers.{state_at, bytes_in, is_arrived}
use Rattle.genie_device.specs.declared.present.Present.{Present}
use Rattle.genie_input.specs.Pools.{PoolState}
use Rattle.genie_model.specs.Pending.{is_queued, is_moving}
use Rattle.genie_model.specs.Receiving.{change_transfer}
use Rattle.genie_model.specs.State as flat
use Rattle.genie_model.specs.Tables.{entry}
use Rattle.genie_model.specs.Lemmas.Lists.{Has, entry_same}
use Rattle.genie_kernel.specs.declared.kernel.Kernel.{Kernel}
use Rattle.genie_kernel.specs.declared.transfer.Transfer.{Transfer}
use Rattle.genie_kernel.specs.Calls.{has_number, is_sent, is_first, first_waiting, receiver, receives_from}
use Rattle.genie_kernel.specs.Devices.{device_view, devices_view, datagram_view, fate_of, matched_or_skipped}
use Rattle.genie_kernel.specs.Regions.{owned_regions}
use Rattle.genie_kernel.specs.Transfers.{staged_by, sent_by, is_outboard_device, buffer_bytes, unstaged, staged_of, sent_count, payload_of, input_bytes, transfer_view, transfers_view}
use Rattle.genie_kernel.specs.View.{Bytes, state_of}
use Rattle.genie_kernel.specs.Lemmas.DeviceViews.{entry_view}
use Rattle.genie_kernel.specs.Lemmas.Turning.{find_changed}
use Rattle.genie_changes.specs.Working.{Work, at_work, worked, OrphansWorked, TransfersWorked}
use Rattle.genie_gathering.specs.Devices.{with_device, with_rest}
use Rattle.genie_gathering.proofs.Buffers.{KeepsWaiting}

-- tables with the same entries
table_same : {X : Type 0} (xs ys : List (Option X)) → length xs ≡ length ys → ((j : ℕ) → entry xs j ≡ entry ys j) → xs ≡ ys
table_same [] [] e h = refl
table_same [] (y ∷ ys) e h = absurd (omega (arith, e))
table_same (x ∷ xs) [] e h = absurd (omega (arith, e))
table_same (x ∷ xs) (y ∷ ys) e h = ap₂ ◌∷◌ (h 0) (table_same xs ys (omega (arith, e)) (λ j. h (suc j)))

-- what is asked of each device, and of the changed one as before
pub same_at : {Z : Type 0} (f : Option DeviceView → Z) (vs : List (Option DeviceView)) (d j : ℕ) (v w : DeviceView) → entry vs d ≡ Some v → f (Some w) ≡ f (Some v) → f (entry (set vs d (Some w)) j) ≡ f (entry vs j)
same_at f [] d j v w e h = refl
same_at f (x ∷ vs) zero zero v w e h = h ∙ sym (ap f e)
same_at f (x ∷ vs) zero (suc j) v w e h = refl
same_at f (x ∷ vs) (suc d) zero v w e h = refl
same_at f (x ∷ vs) (suc d) (suc j) v w e h = same_at f vs d j v w e h

-- what is so of each device, and of the changed one
pub so_at : (P : ℕ → Option DeviceView → Type 0) (vs : List (Option DeviceView)) (d : ℕ) (v w : DeviceView) → entry vs d ≡ Some v → (P d (Some v) → P d (Some w)) → ((j : ℕ) → P j (entry vs j)) → (j : ℕ) → P j (entry (set vs d (Some w)) j)
so_at P [] d v w e h a j = a j
so_at P (x ∷ vs) zero v w e h a zero = h (subst (P 0) e (a zero))
so_at P (x ∷ vs) zero v w e h a (suc j) = a (suc j)
so_at P (x ∷ vs) (suc d) v w e h a zero = a zero
so_at P (x ∷ vs) (suc d) v w e h a (suc j) = so_at (λ i. P (suc i)) vs d v w e h (λ i. a (suc i)) j

view_length : (s : ℕ → List ℕ) (n : ℕ) (rests sents : ℕ → List ℕ) (pools : List (Option PoolState)) (rs : ℕ → Option Transfer) (vs : List (Option DeviceView)) → length (devices_view s n rests sents pools rs vs) ≡ length vs
view_length s n rests sents pools rs [] = refl
view_length s n rests sents pools rs (v ∷ vs) = ap suc (view_length s (n + 1) rests sents pools rs vs)

-- device j, as it is seen
abbrev pub seen_device : (ℕ → List ℕ) → (ℕ → List ℕ) → (ℕ → List ℕ) → List (Option PoolState) → (ℕ → Option Transfer) → ℕ → Option DeviceView → Option flat.Device
seen_device s rests sents pools rs j o = option_map (device_view s (rests j) (sents j) (entry pools j) (rs j)) o

module _ (s t : ℕ → List ℕ) (rests rests' sents : ℕ → List ℕ) (pools pools' : List (Option PoolState)) (rs rs' : ℕ → Option Transfer) (vs : List (Option DeviceView)) where
  -- the devices where each is seen as before
  pub devices_same : ((j : ℕ) → seen_device t rests' sents pools' rs' j (entry vs j) ≡ seen_device s rests sents pools rs j (entry vs j)) → devices_view t 0 rests' sents pools' rs' vs ≡ devices_view s 0 rests sents pools rs vs
  devices_same h = table_same (devices_view t 0 rests' sents pools' rs' vs) (devices_view s 0 rests sents pools rs vs) (view_length t 0 rests' sents pools' rs' vs ∙ sym (view_length s 0 rests sents pools rs vs))
      (λ j. entry_view t rests' sents pools' rs' vs j ∙ h j ∙ sym (entry_view s rests sents pools rs vs j))

  -- and where one has changed
  pub devices_set : (d : ℕ) (v w : DeviceView) (x : flat.Device) → entry vs d ≡ Some v → device_view t (rests' d) (sents d) (entry pools' d) (rs' d) w ≡ x → ((j : ℕ) → j ≢ d → seen_device t rests' sents pools' rs' j (entry vs j) ≡ seen_device s rests sents pools rs j (entry vs j))
      → devices_view t 0 rests' sents pools' rs' (set vs d (Some w)) ≡ set (devices_view s 0 rests sents pools rs vs) d (Some x)
  devices_set d v w x there is h =
      let old : List (Option flat.Device) = devices_view s 0 rests sents pools rs vs in
      let was : entry old d ≡ Some (device_view s (rests d) (sents d) (entry pools d) (rs d) v) = entry_view s rests sents pools rs vs d ∙ ap (seen_device s rests sents pools rs d) there in
      table_same (devices_view t 0 rests' sents pools' rs' (set vs d (Some w))) (set old d (Some x))
      (view_length t 0 rests' sents pools' rs' (set vs d (Some w)) ∙ length-set vs d (Some w) ∙ sym (view_length s 0 rests sents pools rs vs) ∙ sym (length-set old d (Some x)))
      (λ j. entry_view t rests' sents pools' rs' (set vs d (Some w)) j ∙ ⊎_elim
      (λ (e : j ≡ d).
      ap (λ i. seen_device t rests' sents pools' rs' i (entry (set vs d (Some w)) i)) e
      ∙ ap (seen_device t rests' sents pools' rs' d) (entry_same vs d v (Some w) there) ∙ ap Some is
      ∙ sym (ap (λ i. entry (set old d (Some x)) i) e ∙ entry_same old d _ (Some x) was))
      (λ (n : j ≢ d).
      ap (seen_device t rests' sents pools' rs' j) (get_or-set_other vs d j (Some w) None n)
      ∙ h j n ∙ sym (entry_view s rests sents pools rs vs j)
      ∙ sym (get_or-set_other old d j (Some x) None n))
      (same_or j d))

-- the fate of a datagram hangs on the number of its input alone
fate_same : (kind : Kind) (r q : Option Transfer) → matched_or_skipped r ≡ matched_or_skipped q → fate_of kind r ≡ fate_of kind q
fate_same Early r q e = e
fate_same Pooled r q e = refl
fate_same Outboard r q e = refl

present_same : (s : ℕ → List ℕ) (v : DeviceView) (p : Option PoolState) (r q : Option Transfer) (g : Option Present) → matched_or_skipped r ≡ matched_or_skipped q → option_map (datagram_view s v p r) g ≡ option_map (datagram_view s v p q) g
present_same s v p r q None e = refl
present_same s v p r q (Some g) e = ap (λ f. Some (record (datagram_view s v p q g) { fate = f })) (fate_same v.config.kind r q e)

-- a device that moves its datagram into the same input, or has none
pub receiver_same : (s : ℕ → List ℕ) (rests sents : ℕ → List ℕ) (pools : List (Option PoolState)) (rs qs : ℕ → Option Transfer) (j : ℕ) (o : Option DeviceView) → matched_or_skipped (qs j) ≡ matched_or_skipped (rs j) → seen_device s rests sents pools qs j o ≡ seen_device s rests sents pools rs j o
receiver_same s rests sents pools rs qs j None e = refl
receiver_same s rests sents pools rs qs j (Some v) e = ap (λ p. Some (record (device_view s (rests j) (sents j) (entry pools j) (rs j) v) { present = p })) (present_same s v (entry pools j) (qs j) (rs j) v.present e)

pub absent_same : (s : ℕ → List ℕ) (rests sents : ℕ → List ℕ) (pools : List (Option PoolState)) (rs qs : ℕ → Option Transfer) (j : ℕ) (o : Option DeviceView) (v : DeviceView) → o ≡ Some v → v.present ≡ None → seen_device s rests sents pools qs j o ≡ seen_device s rests sents pools rs j o
absent_same s rests sents pools rs qs j o v there absent =
    let one : device_view s (rests j) (sents j) (entry pools j) (qs j) v ≡ device_view s (rests j) (sents j) (entry pools j) (rs j) v = λ i. record (device_view s (rests j) (sents j) (entry pools j) (rs j) v) {
      present = (ap (option_map (datagram_view s v (entry pools j) (qs j))) absent ∙ sym (ap (option_map (datagram_view s v (entry pools j) (rs j))) absent)) i;
    } in
    ap (seen_device s rests sents pools qs j) there ∙ ap Some one ∙ sym (ap (seen_device s rests sents pools rs j) there)

-- the datagrams of a device's transfers wait in its buffers
abbrev pub AreWaiting : ℕ → DeviceView → List Transfer → Type 0
AreWaiting d v ts = (t : Transfer) → Has t ts → t.dev ≡ d → (b : ℕ) → t.buffer ≡ Some b → is_arrived (state_at v.buffers b) ≡ true

map_same : (f g : Transfer → flat.Transfer) (ts : List Transfer) → ((t : Transfer) → Has t ts → f t ≡ g t) → map f ts ≡ map g ts
map_same f g [] h = refl
map_same f g (t ∷ ts) h = ap₂ ◌∷◌ (h t (inl refl)) (map_same f g ts (λ u i. h u (inr i)))

module _ (s : ℕ → List ℕ) (vs : List (Option DeviceView)) (pools : List (Option PoolState)) (d : ℕ) (v w : DeviceView) (there : entry vs d ≡ Some v) (kept : KeepsWaiting v w) (unpooled : entry pools d ≡ None) (ts : List Transfer) (waits : AreWaiting d v ts) where
  staged_same : (first : ℕ → Option Transfer) (t : Transfer) → staged_of (set vs d (Some w)) first t ≡ staged_of vs first t
  staged_same first t = ap (λ l. if is_first first t then l else []) (same_at staged_by vs d t.dev v w there kept.staged)

  -- the buffer in which a datagram waits
  pub buffer_same : (t : Transfer) → Has t ts → (b : ℕ) → t.buffer ≡ Some b → buffer_bytes s (entry (set vs d (Some w)) t.dev) (entry pools t.dev) b ≡ buffer_bytes s (entry vs t.dev) (entry pools t.dev) b
  buffer_same t i b e = ⊎_elim
      (λ (at : t.dev ≡ d).
      let same : state_at w.buffers b ≡ state_at v.buffers b = kept.waiting b (waits t i at b e) in
      ap (λ j. buffer_bytes s (entry (set vs d (Some w)) j) (entry pools j) b) at
      ∙ (λ i. buffer_bytes s (entry_same vs d v (Some w) there i) (unpooled i) b)
      ∙ ap bytes_in same
      ∙ sym (ap (λ j. buffer_bytes s (entry vs j) (entry pools j) b) at ∙ (λ i. buffer_bytes s (there i) (unpooled i) b)))
      (λ (n : t.dev ≢ d). ap (λ o. buffer_bytes s o (entry pools t.dev) b) (get_or-set_other vs d t.dev (Some w) None n))
      (same_or t.dev d)

  input_same : (t : Transfer) → Has t ts → (o : Option ℕ) → t.buffer ≡ o → input_bytes s (set vs d (Some w)) pools t o ≡ input_bytes s vs pools t o
  input_same t i None e = refl
  input_same t i (Some b) e = ap (take t.stored) (buffer_same t i b e)

  payload_same : (first : ℕ → Option Transfer) (t : Transfer) → Has t ts → (dir : Direction) → payload_of s (set vs d (Some w)) pools first t dir ≡ payload_of s vs pools first t dir
  payload_same first t i Outward = ap (λ l. if is_sent t then [] else l ++ unstaged s t (length l)) (staged_same first t)
  payload_same first t i Inward = input_same t i t.buffer refl

  kind_same : (t : Transfer) → is_outboard_device (entry (set vs d (Some w)) t.dev) ≡ is_outboard_device (entry vs t.dev)
  kind_same t = same_at is_outboard_device vs d t.dev v w there (ap (λ (c : DeviceConfig). is_outboard_device (Some (record v { config = c }))) kept.config)

  sent_same : (first : ℕ → Option Transfer) (t : Transfer) → sent_count (set vs d (Some w)) first t ≡ sent_count vs first t
  sent_same first t = ap (λ n. if is_sent t then header_len t.flow + t.len else (if is_first first t then n else 0)) (same_at sent_by vs d t.dev v w there kept.sent)

  transfer_same : (first : ℕ → Option Transfer) (t : Transfer) → Has t ts → transfer_view s (set vs d (Some w)) pools first t ≡ transfer_view s vs pools first t
  transfer_same first t has = λ i. record (transfer_view s vs pools first t) {
    payload = payload_same first t has t.dir i;
    staged = if is_sent t then (if kind_same t i then t.len else 0) else length (staged_same first t i);
    moved = sent_same first t i;
  }

  -- a step of a device that keeps the datagrams that wait changes no transfer
  pub transfers_same : transfers_view s (set vs d (Some w)) pools ts ≡ transfers_view s vs pools ts
  transfers_same = map_same (transfer_view s (set vs d (Some w)) pools (first_waiting ts)) (transfer_view s vs pools (first_waiting ts)) ts (transfer_same (first_waiting ts))

-- the state with another device, and so much left of its input
pub device_state : (k : Kernel) (b : Bytes) (d : ℕ) (v w : DeviceView) (rest : List ℕ) (x : flat.Device) → entry k.devices d ≡ Some v → KeepsWaiting v w → entry k.pools d ≡ None → AreWaiting d v k.transfers → device_view b.seen.kept_bytes rest (b.sents d) (entry k.pools d) (receiver k.transfers d) w ≡ x
    → state_of (with_device k d w) (with_rest d rest b) ≡ record (state_of k b) { devices = set (state_of k b).devices d (Some x) }
device_state k b d v w rest x there kept unpooled waits is =
    let s = b.seen.kept_bytes in
    let rests = (with_rest d rest b).rests in
    let here : device_view s (rests d) (b.sents d) (entry k.pools d) (receiver k.transfers d) w ≡ x = ap (λ c. device_view s (if c then rest else b.rests d) (b.sents d) (entry k.pools d) (receiver k.transfers d) w) (eq-eqb d d refl) ∙ is in
    let devices = devices_set s s b.rests rests b.sents k.pools k.pools (receiver k.transfers) (receiver k.transfers) k.devices d v w x there here
    (λ j n. ap (λ c. option_map (device_view s (if c then rest else b.rests j) (b.sents j) (entry k.pools j) (receiver k.transfers j)) (entry k.devices j)) (ne_eqb j d n)) in
    λ i. record (state_of k b) { transfers = transfers_same s k.devices k.pools d v w there kept unpooled k.transfers waits i; devices = devices i }

-- the state with a transfer at another point of its work, where the devices move their datagrams into the same inputs
pub worked_state : OrphansWorked → TransfersWorked → (k : Kernel) (b : Bytes) (n : ℕ) (w : Work) (t : Transfer) (f : flat.Transfer → flat.Transfer) → find (has_number n) k.transfers ≡ Some t → is_queued t.phase ≡ false → is_queued w.phase ≡ false
    → transfer_view b.seen.kept_bytes k.devices k.pools (first_waiting k.transfers) (at_work w t) ≡ f (transfer_view b.seen.kept_bytes k.devices k.pools (first_waiting k.transfers) t)
    → ((j : ℕ) → seen_device b.seen.kept_bytes b.rests b.sents k.pools (receiver (worked (has_number n) w k.transfers)) j (entry k.devices j) ≡ seen_device b.seen.kept_bytes b.rests b.sents k.pools (receiver k.transfers) j (entry k.devices j))
    → state_of (record k { transfers = worked (has_number n) w k.transfers }) b ≡ change_transfer (state_of k b) n f
worked_state orphans transfers k b n w t f found was is here each =
    let s = b.seen.kept_bytes in
    let devices = devices_same s s b.rests b.rests b.sents k.pools k.pools (receiver k.transfers) (receiver (worked (has_number n) w k.transfers)) k.devices each in
    let orphan = orphans k.config.page s (owned_regions k.spaces.processes) (has_number n) w k.transfers in
    let moved = transfers s k.devices k.pools n w t f k.transfers found was is here in
    λ i. record (state_of k b) { orphans = orphan i; transfers = moved i; devices = devices i }

-- the first transfer that passes a test, changed
module _ (p : Transfer → Bool) (w : Work) (t : Transfer) where
  -- a device that isn't its own moves its datagram into the same input
  pub receiver_elsewhere : (ts : List Transfer) (j : ℕ) → find p ts ≡ Some t → t.dev ≢ j → receiver (worked p w ts) j ≡ receiver ts j
  receiver_elsewhere ts j e apart =
      let no : (t.dev == j) ≡ false = ne_eqb t.dev j apart in
      find_changed p (at_work w) t (receives_from j) (ap (λ b. is_moving t.phase && b) no ∙ and_no (is_moving t.phase)) (ap (λ b. is_moving w.phase && b) no ∙ and_no (is_moving w.phase)) ts e
    where
      and_no : (b : Bool) → (b && false) ≡ false
      and_no true = refl
      and_no false = refl

pub set_again : {X : Type 0} (xs : List (Option X)) (d : ℕ) (x y : Option X) → set (set xs d x) d y ≡ set xs d y
set_again [] d x y = refl
set_again (z ∷ xs) zero x y = refl
set_again (z ∷ xs) (suc d) x y = ap (λ l. z ∷ l) (set_again xs d x y)

pub set_same : {X : Type 0} (xs : List (Option X)) (d : ℕ) (x : X) → entry xs d ≡ Some x → set xs d (Some x) ≡ xs
set_same [] d x e = refl
set_same (y ∷ xs) zero x e = ap (λ z. z ∷ xs) (sym e)
set_same (y ∷ xs) (suc d) x e = ap (λ zs. y ∷ zs) (set_same xs d x e)
