-- One transfer more.
use Rattle.std.proofs.Common.{◌≡◌, ◌≢◌, ℕ, take, ◌+◌, Bool, true, false, not, cond, List, [], ◌∷◌, ◌++◌, refl, sym, ap, ap₂, arith, rules, ◌∙◌, inl, inr, length, map, filter}
use Rattle.std.specs.Prelude.{Option, Some, None, flat_map, ◌&&◌, ◌==◌, if◌then◌else◌, nat_le, nat_lt}
use Rattle.std.specs.Option.{option_map}
use Rattle.std.specs.List.{list_any}
use Rattle.genie_base.specs.declared.semantics.Direction.{Direction}
use Rattle.genie_base.specs.declared.semantics.Direction.TheVariants.{Outward, Inward}
use Rattle.genie_device.specs.Device.{DeviceView}
use Rattle.genie_region.specs.declared.region.Region.{Region}
use Rattle.genie_model.specs.Pending.{is_queued, is_just, is_ready, is_inward}
use Rattle.genie_model.specs.Tables.{entry}
use Rattle.genie_model.specs.declared.phase.Phase.TheVariants.{Posted}
use Rattle.genie_model.specs.Lemmas.Lists.{Has, all_has, find_has}
use Rattle.genie_input.specs.Pools.{PoolState}
use Rattle.genie_kernel.specs.declared.transfer.Transfer.{Transfer}
use Rattle.genie_kernel.specs.Calls.{first_waiting, is_first, is_sent, is_strong_call, names_weakly, number_of, waits_for}
use Rattle.genie_kernel.specs.Orphans.{covers, byte_under, is_orphan, is_owned, lent_bytes, orphan_byte, orphan_view, orphans_view, all_places, all_numbers}
use Rattle.genie_kernel.specs.Transfers.{payload_of, buffer_bytes, input_bytes, sent_by, staged_by, staged_count, sent_count, staged_of, transfer_view, transfers_view, unstaged, is_outboard_device}
use Rattle.genie_base.specs.Records.{header_len}
use Rattle.genie_demux.specs.declared.input.Input.{Input}
use Rattle.genie_object.specs.declared.memory.Memory.{Memory}
use Rattle.genie_model.specs.declared.phase.Phase.{Phase}
use Rattle.genie_model.specs.Pending.{is_moving, add_transfer}
use Rattle.genie_kernel.specs.declared.kernel.Kernel.{Kernel}
use Rattle.genie_kernel.specs.Calls.{receiver, receives_from}
use Rattle.genie_kernel.specs.Devices.{devices_view}
use Rattle.genie_kernel.specs.Regions.{owned_regions, processes_view}
use Rattle.genie_kernel.specs.Same.{SameNeeded}
use Rattle.genie_kernel.specs.View.{Bytes, state_of}
use Rattle.genie_kernel.specs.Lemmas.Alike.{transfers_alike, orphans_alike, devices_alike}
use Rattle.genie_changes.proofs.Lists.{found_before, found_same, any_same, passes_found, map_more}
use Rattle.genie_changes.specs.States.{WaitsBehind, begun, first_phase, first_payload}

map_alike : {X Y : Type 0} (f g : X → Y) (xs : List X) → ((x : X) → Has x xs → f x ≡ g x) → map f xs ≡ map g xs
map_alike f g [] h = refl
map_alike f g (x ∷ xs) h = ap₂ ◌∷◌ (h x (inl refl)) (map_alike f g xs (λ y e. h y (inr e)))

map_filtered : {X : Type 0} (f g : ℕ → X) (p : ℕ → Bool) (ks : List ℕ) → ((k : ℕ) → p k ≡ true → f k ≡ g k) → map f (filter p ks) ≡ map g (filter p ks)
map_filtered f g p [] h = refl
map_filtered f g p (k ∷ ks) h =
    let rest = map_filtered f g p ks h in
    elim (p k) as (λ b. p k ≡ b → map f (cond b (k ∷ filter p ks) (filter p ks)) ≡ map g (cond b (k ∷ filter p ks) (filter p ks))) [
      | true ↦ λ e. ap₂ ◌∷◌ (h k e) rest
      | false ↦ λ e. rest
    ] refl

both_none : (b : Bool) → (b && false) ≡ false
both_none true = refl
both_none false = refl

module _ (s : ℕ → List ℕ) (devices : List (Option DeviceView)) (pools : List (Option PoolState)) (t : Transfer) (ts : List Transfer) (w : WaitsBehind devices t ts) where
  abbrev before : ℕ → Option Transfer
  before = first_waiting ts

  abbrev after : ℕ → Option Transfer
  after = first_waiting (ts ++ t ∷ [])

  first_found : (u : Transfer) → Has u ts → waits_for u.dev u ≡ true → (o : Option Transfer) → before u.dev ≡ o → after u.dev ≡ o
  first_found u h q None e = absurd (passes_found (waits_for u.dev) t ts u h q e)
  first_found u h q (Some x) e = found_before (waits_for u.dev) t ts x e

  first_same : (u : Transfer) → Has u ts → (b : Bool) → is_queued u.phase ≡ b → (b && is_just (option_map number_of (after u.dev)) u.id.0) ≡ (b && is_just (option_map number_of (before u.dev)) u.id.0)
  first_same u h true e = let q : waits_for u.dev u ≡ true = grind (arith, rules, e) in ap (λ o. is_just (option_map number_of o) u.id.0) (first_found u h q (before u.dev) refl)
  first_same u h false e = refl

  is_first_same : (u : Transfer) → Has u ts → is_first after u ≡ is_first before u
  is_first_same u h = first_same u h (is_queued u.phase) refl

  payload_same : (u : Transfer) → Has u ts → (d : Direction) → payload_of s devices pools after u d ≡ payload_of s devices pools before u d
  payload_same u h Outward = ap (λ b. let l : List ℕ = if b then staged_by (entry devices u.dev) else [] in if is_sent u then [] else l ++ unstaged s u (length l)) (is_first_same u h)
  payload_same u h Inward = refl

  earlier_same : (u : Transfer) → Has u ts → transfer_view s devices pools after u ≡ transfer_view s devices pools before u
  earlier_same u h = λ i. record (transfer_view s devices pools before u) {
    payload = payload_same u h u.dir i;
    staged = if is_sent u then (if is_outboard_device (entry devices u.dev) then u.len else 0) else length (if is_first_same u h i then staged_by (entry devices u.dev) else []);
    moved = if is_sent u then header_len u.flow + u.len else (if is_first_same u h i then sent_by (entry devices u.dev) else 0);
  }

  other_number : (x : Transfer) → before t.dev ≡ Some x → is_just (option_map number_of (after t.dev)) t.id.0 ≡ false
  other_number x e =
      let ne : x.id.0 ≢ t.id.0 = all_has (λ (u : Transfer). u.id.0 ≢ t.id.0) ts w.later x (find_has (waits_for t.dev) ts x e).0 in
      let differ : (x.id.0 == t.id.0) ≡ false = grind (arith, rules, ne) in
      ap (λ o. is_just (option_map number_of o) t.id.0) (found_before (waits_for t.dev) t ts x e) ∙ differ

  -- nothing is staged or sent of an output that another one waits before, or whose device has staged and sent nothing
  nothing : {Y : Type 0} (none something : Y) → (before t.dev ≡ None → something ≡ none) → (if is_first after t then something else none) ≡ none
  nothing none something idle = elim (before t.dev) as (λ o. before t.dev ≡ o → (if is_first after t then something else none) ≡ none) [
    | None ↦ λ e. ap (λ y. if is_first after t then y else none) (idle e) ∙ (elim (is_first after t) as (λ b. (if b then none else none) ≡ none) [ true ↦ refl | false ↦ refl ])
    | Some x ↦ λ e. ap (λ b. if is_queued t.phase && b then something else none) (other_number x e) ∙ (elim (is_queued t.phase) as (λ b. (if b && false then something else none) ≡ none) [ true ↦ refl | false ↦ refl ])
  ] refl

  unready : (d : Direction) → t.phase ≡ first_phase d → is_ready t.phase ≡ false
  unready Outward e = ap is_ready e
  unready Inward e = ap is_ready e

  unsent_yet : is_sent t ≡ false
  unsent_yet = ap (λ r. not (is_inward t.dir) && r) (unready t.dir w.phase) ∙ both_none (not (is_inward t.dir))

  -- an input is first of none
  first_none : {Y : Type 0} (none something : Y) → t.phase ≡ Posted → (if is_first after t then something else none) ≡ none
  first_none none something e = ap (λ p. if is_queued p && is_just (option_map number_of (after t.dev)) t.id.0 then something else none) e

  untouched : {Y : Type 0} (none something : Y) → (t.dir ≡ Outward → before t.dev ≡ None → something ≡ none) → (d : Direction) → t.dir ≡ d → (if is_first after t then something else none) ≡ none
  untouched none something idle Outward e = nothing none something (idle e)
  untouched none something idle Inward e = first_none none something (w.phase ∙ ap first_phase e)

  staged_none : staged_of devices after t ≡ []
  staged_none = untouched [] (staged_by (entry devices t.dev)) w.unstaged t.dir refl

  stored_none : (b : Option ℕ) → input_bytes s devices pools t b ≡ []
  stored_none None = let none : List ℕ = [] in ap (λ n. if is_strong_call t then take n (lent_bytes s t) else none) w.unstored ∙ (elim (is_strong_call t) as (λ b. (if b then none else none) ≡ none) [ true ↦ refl | false ↦ refl ])
  stored_none (Some b) = ap (λ n. take n (buffer_bytes s (entry devices t.dev) (entry pools t.dev) b)) w.unstored

  new_payload : (d : Direction) → payload_of s devices pools after t d ≡ first_payload s t d
  new_payload Outward =
      ap (λ b. if b then [] else staged_of devices after t ++ unstaged s t (length (staged_of devices after t))) unsent_yet
      ∙ ap (λ l. l ++ unstaged s t (length l)) staged_none
  new_payload Inward = stored_none t.buffer

  new_view : transfer_view s devices pools after t ≡ begun s t
  new_view =
      let sent = untouched 0 (sent_by (entry devices t.dev)) w.unsent t.dir refl in
      let count : staged_count devices after t ≡ 0 = ap (λ b. if b then (if is_outboard_device (entry devices t.dev) then t.len else 0) else length (staged_of devices after t)) unsent_yet ∙ ap length staged_none in
      let moved : sent_count devices after t ≡ 0 = ap (λ b. if b then header_len t.flow + t.len else (if is_first after t then sent_by (entry devices t.dev) else 0)) unsent_yet ∙ sent in
      λ i. record (begun s t) { phase = w.phase i; payload = new_payload t.dir i; staged = count i; moved = moved i; stored = w.unstored i }

  pub transfers_more : transfers_view s devices pools (ts ++ t ∷ []) ≡ transfers_view s devices pools ts ++ begun s t ∷ []
  transfers_more = map_more (transfer_view s devices pools after) ts t ∙ ap₂ (λ l v. l ++ v ∷ []) (map_alike (transfer_view s devices pools after) (transfer_view s devices pools before) ts earlier_same) new_view

module _ (page : ℕ) (s : ℕ → List ℕ) (rs : List Region) (t : Transfer) (ts : List Transfer) (named : (k : ℕ) → names_weakly k t ≡ true → is_owned rs k ≡ true) where
  is_orphan_same : (k : ℕ) (b : Bool) → names_weakly k t ≡ b → is_orphan rs (ts ++ t ∷ []) k ≡ is_orphan rs ts k
  is_orphan_same k true e = ap (λ o. list_any (names_weakly k) (ts ++ t ∷ []) && not o) (named k e) ∙ both_none (list_any (names_weakly k) (ts ++ t ∷ [])) ∙ sym (ap (λ o. list_any (names_weakly k) ts && not o) (named k e) ∙ both_none (list_any (names_weakly k) ts))
  is_orphan_same k false e = ap (λ b. b && not (is_owned rs k)) (any_same (names_weakly k) t ts e)

  unnamed : (k : ℕ) (b : Bool) → names_weakly k t ≡ b → is_orphan rs ts k ≡ true → names_weakly k t ≡ false
  unnamed k true e o = let never : (list_any (names_weakly k) ts && false) ≡ true = sym (ap (λ b. list_any (names_weakly k) ts && not b) (named k e)) ∙ o in let no : false ≡ true = sym (both_none (list_any (names_weakly k) ts)) ∙ never in absurd (cc)
  unnamed k false e o = e

  byte_same : (k x : ℕ) → is_orphan rs ts k ≡ true → orphan_byte s (ts ++ t ∷ []) k x ≡ orphan_byte s ts k x
  byte_same k x o =
      let out : covers k x t ≡ false = ap (λ b. b && nat_le t.offset x && nat_lt x (t.offset + t.len)) (unnamed k (names_weakly k t) refl o) in
      ap (byte_under s x) (found_same (covers k x) t ts out)

  pub orphans_same : orphans_view page s rs (ts ++ t ∷ []) ≡ orphans_view page s rs ts
  orphans_same = (λ i. map (orphan_view page s (ts ++ t ∷ [])) (filter (λ k. is_orphan_same k (names_weakly k t) refl i) all_numbers)) ∙ map_filtered (orphan_view page s (ts ++ t ∷ [])) (orphan_view page s ts) (is_orphan rs ts) all_numbers (λ k o. λ i. record { number = k; bytes = flat_map (λ x. byte_same k x o i) (all_places page) })

unmoved : (p : Phase) (d : Direction) → p ≡ first_phase d → is_moving p ≡ false
unmoved p Outward e = ap is_moving e
unmoved p Inward e = ap is_moving e

-- the state with one transfer more
pub added_state : (k : Kernel) (m : Memory) (t : Transfer) (posted : List Input) (old new : Bytes) → WaitsBehind k.devices t k.transfers → ((n : ℕ) → names_weakly n t ≡ true → is_owned (owned_regions k.spaces.processes) n ≡ true)
    → new.seen.entry_bytes ≡ old.seen.entry_bytes → new.rests ≡ old.rests → new.sents ≡ old.sents
    → SameNeeded (owned_regions k.spaces.processes) k.transfers k.pools old.seen.kept_bytes new.seen.kept_bytes
    → state_of (record k { memory = m; transfers = k.transfers ++ t ∷ []; posted = posted; next = k.next + 1 }) new ≡ add_transfer (state_of k old) (begun new.seen.kept_bytes t)
added_state k m t posted old new w named entries rests sents same =
    let a = old.seen.kept_bytes in
    let b = new.seen.kept_bytes in
    let rs : List Region = owned_regions k.spaces.processes in
    let transfers = transfers_more b k.devices k.pools t k.transfers w ∙ ap (λ ts. ts ++ begun b t ∷ []) (transfers_alike rs k.transfers k.pools a b same k.devices) in
    let orphans = orphans_same k.config.page b rs t k.transfers named ∙ orphans_alike rs k.transfers k.pools a b same k.config.page in
    let receivers : (d : ℕ) → receiver (k.transfers ++ t ∷ []) d ≡ receiver k.transfers d = λ d. found_same (receives_from d) t k.transfers (ap (λ c. c && (t.dev == d)) (unmoved t.phase t.dir w.phase)) in
    let devices = (λ i. devices_view b 0 (rests i) (sents i) k.pools (λ d. receivers d i) k.devices) ∙ devices_alike rs k.transfers k.pools a b same 0 old.rests old.sents (receiver k.transfers) k.devices in
    λ i. record (state_of k old) { processes = processes_view (entries i) k.spaces.processes k.queues; orphans = orphans i; transfers = transfers i; devices = devices i; next = k.next + 1 }
