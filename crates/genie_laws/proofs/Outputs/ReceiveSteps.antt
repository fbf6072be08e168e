-- A receive step leaves the transfers that wait for a device to send, since what it receives meets others.
use Rattle.std.proofs.Common.{◌≡◌, ℕ, ◌+◌, ◌<◌, Bool, true, false, List, [], ◌++◌, refl, sym, subst, ◌∙◌, eqb-true}
use Rattle.std.specs.Prelude.{Option, Some, None, ⊤, find, take, drop, ◌==◌}
use Rattle.std.specs.Option.{option_map}
use Rattle.std.specs.List.{list_any}
use Rattle.std.proofs.lemmas.Bool.{cond_both, and_left, and_parts}
use Rattle.genie_base.specs.Configs.{DeviceConfig, most}
use Rattle.genie_base.specs.Headers.{header_taken, is_whole_header, is_valid_header, port_in, flow_in, len_in}
use Rattle.genie_model.specs.declared.phase.Phase.{Phase}
use Rattle.genie_model.specs.declared.phase.Phase.TheVariants.{Queued, Moving}
use Rattle.genie_model.specs.State.{State, Transfer, Device, Datagram}
use Rattle.genie_model.specs.declared.fate.Fate.{Fate}
use Rattle.genie_model.specs.declared.fate.Fate.TheVariants.{Matched, Skipped, Gathering}
use Rattle.genie_model.specs.Tables.{entry}
use Rattle.genie_model.specs.Pending.{is_queued, is_posted, is_early, is_numbered, waits_for, awaits, pending, first_posted}
use Rattle.genie_model.specs.Sending.{change_device}
use Rattle.genie_model.specs.Refusing.{has_output}
use Rattle.genie_model.specs.Receiving.{receiving, set_device, is_busy, with_phase, with_datagram, gathered, after_receiving, change_transfer, deliver, complete, landing, landed, land_in, land, after_bytes, go_on, take_payload, datagram, skipped, match_header, begin_datagram, take_header, receive_record, receive, recv}
use Rattle.genie_orderly.specs.Orderly.{NumbersRise}
use Rattle.genie_model.specs.Lemmas.Lists.{all_has, find_has, entry_set}
use Rattle.genie_model.specs.Lemmas.SendQueues.{queue, number_free, queue_free}
use Rattle.genie_model.specs.Lemmas.ReceiveSteps.{choice}

-- a number that no transfer of this queue has, nor a later one will have
abbrev pub IsFree : List Transfer → ℕ → ℕ → Type 0
IsFree q n k = (list_any (is_numbered k) q ≡ false) × (k < n)

abbrev pub IsFreeOr : List Transfer → ℕ → Option ℕ → Type 0
IsFreeOr q n None = ⊤
IsFreeOr q n (Some k) = IsFree q n k

-- a datagram meets no transfer of the queue
abbrev pub MeetsOther : List Transfer → ℕ → Fate → Type 0
MeetsOther q n Skipped = ⊤
MeetsOther q n Gathering = ⊤
MeetsOther q n (Matched k) = IsFree q n k

abbrev pub HasMet : List Transfer → ℕ → Option Datagram → Type 0
HasMet q n None = ⊤
HasMet q n (Some g) = MeetsOther q n g.fate

-- a device that sends is there, and the datagram that it receives meets no transfer of the queue
abbrev pub OnDevice : List Transfer → ℕ → Bool → Option Device → Type 0
OnDevice q n sends None = sends ≡ false
OnDevice q n sends (Some v) = HasMet q n v.present

abbrev pub MeetOthers : List Transfer → ℕ → List (Option DeviceConfig) → List (Option Device) → Type 0
MeetOthers q n configs devices = (dev : ℕ) → OnDevice q n (has_output (entry configs dev)) (entry devices dev)

-- so it is in a state, for the transfers that wait for device d
abbrev pub Meets : ℕ → State → Type 0
Meets d s = MeetOthers (queue d s.transfers) s.next s.config.devices s.devices

pub posted_idle : (phase : Phase) → is_posted phase ≡ true → is_queued phase ≡ false
posted_idle Queued e = sym e
posted_idle phase e = refl

-- posted inputs have free numbers
abbrev PostsFree : List Transfer → ℕ → State → Type 0
PostsFree q n s = (dev port : ℕ) (flow : Option ℕ) → IsFreeOr q n (first_posted s dev port flow)

posted_free : (d : ℕ) (s : State) (dev port : ℕ) (flow : Option ℕ) → NumbersRise s → (o : Option Transfer) → find (awaits dev port flow) s.transfers ≡ o → IsFreeOr (queue d s.transfers) s.next (option_map (λ (t : Transfer). t.number) o)
posted_free d s dev port flow rise None e = tt
posted_free d s dev port flow rise (Some t) e =
    let found = find_has (awaits dev port flow) s.transfers t e in
    let waits = and_left (is_queued t.phase) (t.device == d) (posted_idle t.phase (and_parts (is_posted t.phase) _ found.1).0) in
    (number_free d s.transfers rise.order t found.0 waits, all_has (λ (u : Transfer). u.number < s.next) s.transfers rise.below t found.0)

-- of what is left, the end of a datagram finds a free number
abbrev EndsFree : List Transfer → ℕ → State → Fate → Type 0
EndsFree q n s Skipped = ⊤
EndsFree q n s (Matched k) = IsFree q n k
EndsFree q n s Gathering = PostsFree q n s

module _ (d : ℕ) (q : List Transfer) (n : ℕ) (configs : List (Option DeviceConfig)) where
  pub record Keeps (t : State) : Type 0 where
    pub queue : queue d t.transfers ≡ q
    pub next : t.next ≡ n
    pub config : t.config.devices ≡ configs
    pub meets : MeetOthers q n configs t.devices

  set_keeps : (s : State) (dev : ℕ) (v : Device) → HasMet q n v.present → Keeps s → Keeps (set_device s dev v)
  set_keeps s dev v h k =
      let new : (sends : Bool) (o : Option Device) → OnDevice q n sends o → OnDevice q n sends (change_device (receiving v) o) = λ sends o old. elim o as (λ x. OnDevice q n sends x → OnDevice q n sends (change_device (receiving v) x)) [ None ↦ λ a. a | Some x ↦ λ a. h ] old in
      record {
        queue = k.queue;
        next = k.next;
        config = k.config;
        meets = λ i. entry_set (OnDevice q n (has_output (entry configs i))) s.devices dev i (change_device (receiving v) (entry s.devices dev)) (k.meets i)
            (λ same. subst (λ j. OnDevice q n (has_output (entry configs j)) (change_device (receiving v) (entry s.devices dev))) (sym same) (new (has_output (entry configs dev)) (entry s.devices dev) (k.meets dev)));
      }

  change_keeps : (s : State) (k : ℕ) (f : Transfer → Transfer) → ((t : Transfer) → waits_for d t ≡ false → waits_for d (f t) ≡ false) → IsFree q n k → Keeps s → Keeps (change_transfer s k f)
  change_keeps s k f idle free h = record { queue = queue_free d k f s.transfers idle (rw (h.queue) free.0) ∙ h.queue; next = h.next; config = h.config; meets = h.meets }

  deliver_keeps : (s : State) (g : Datagram) (truncated : Bool) (k : ℕ) (o : Option ℕ) → IsFreeOr q n o → Keeps s → Keeps (deliver s g truncated k o).0
  deliver_keeps s g truncated k None free h = h
  deliver_keeps s g truncated k (Some t) free h = change_keeps s t (gathered truncated g.len g.bytes) (λ u e. refl) free h

  complete_keeps : (s : State) (dev : ℕ) (g : Datagram) (truncated : Bool) (k : ℕ) (fate : Fate) → EndsFree q n s fate → Keeps s → Keeps (complete s dev g truncated k fate).0
  complete_keeps s dev g truncated k Skipped free h = h
  complete_keeps s dev g truncated k (Matched t) free h = change_keeps s t (with_datagram truncated g.len) (λ u e. refl) free h
  complete_keeps s dev g truncated k Gathering free h = deliver_keeps s g truncated k (first_posted s dev g.port g.flow) (free dev g.port g.flow) h

  ends_met : (s : State) (fate : Fate) → EndsFree q n s fate → MeetsOther q n fate
  ends_met s Skipped free = tt
  ends_met s (Matched t) free = free
  ends_met s Gathering free = tt

  met_ends : (s : State) (fate : Fate) → PostsFree q n s → MeetsOther q n fate → EndsFree q n s fate
  met_ends s Skipped posts h = tt
  met_ends s (Matched t) posts h = h
  met_ends s Gathering posts h = posts

  ended : (s : State) (dev : ℕ) (v : Device) (fate : Fate) → EndsFree q n s fate → EndsFree q n (set_device s dev v) fate
  ended s dev v Skipped free = tt
  ended s dev v (Matched t) free = free
  ended s dev v Gathering free = free

  go_on_keeps : (s : State) (dev : ℕ) (v : Device) (g : Datagram) (k : ℕ) → EndsFree q n s g.fate → Keeps s → Keeps (go_on s dev v g k).0
  go_on_keeps s dev v g k free h =
      let over : Device = record v { present = None } in
      let last : State = set_device s dev over in
      let there = set_keeps s dev over tt h in
      choice Keeps (k == 0) _ _ (complete_keeps last dev g true 0 g.fate (ended s dev over g.fate free) there)
      (choice Keeps (g.moved == g.len) _ _ (complete_keeps last dev g false k g.fate (ended s dev over g.fate free) there) (set_keeps s dev (record v { present = Some g }) (ends_met s g.fate free) h))

  landed_keeps : (s : State) (t : Transfer) (x : ℕ) (bytes : List ℕ) (r : Option ℕ) → Keeps s → Keeps (landed s t x bytes r)
  landed_keeps s t x bytes None h = h
  landed_keeps s t x bytes (Some r) h = record { queue = h.queue; next = h.next; config = h.config; meets = h.meets }

  land_in_keeps : (s : State) (k x : ℕ) (bytes : List ℕ) (o : Option Transfer) → pending s k ≡ o → IsFree q n k → Keeps s → Keeps (land_in s x bytes o)
  land_in_keeps s k x bytes None e free h = h
  land_in_keeps s k x bytes (Some t) e free h =
      let number = eqb-true t.number k (find_has (is_numbered k) s.transfers t e).1 in
      change_keeps (landed s t x bytes (landing t)) t.number (after_receiving x bytes) (λ u idle. idle) (rw number free) (landed_keeps s t x bytes (landing t) h)

  land_keeps : (s : State) (x : ℕ) (bytes : List ℕ) (fate : Fate) → EndsFree q n s fate → Keeps s → Keeps (land s x bytes fate) × EndsFree q n (land s x bytes fate) fate
  land_keeps s x bytes Skipped free h = (h, tt)
  land_keeps s x bytes Gathering free h = (h, free)
  land_keeps s x bytes (Matched t) free h = (land_in_keeps s t x bytes (pending s t) refl free h, free)

  payload_keeps : (s : State) (dev : ℕ) (v : Device) (g : Datagram) (a b : ℕ) → EndsFree q n s g.fate → Keeps s → Keeps (take_payload s dev v g a b).0
  payload_keeps s dev v g a b free h =
      let bytes : List ℕ = take b v.rest in
      let both = land_keeps s g.moved bytes g.fate free h in
      go_on_keeps (land s g.moved bytes g.fate) dev (record v { rest = drop b v.rest }) (after_bytes bytes g) (a + b) both.1 both.0

  skipped_met : (header : List ℕ) → HasMet q n (skipped header)
  skipped_met header = cond_both (len_in header == 0) None (Some (datagram header Skipped)) (HasMet q n) (λ _. tt) (λ _. tt)

  match_keeps : (s : State) (dev left : ℕ) (v : Device) (header : List ℕ) (a : ℕ) (o : Option ℕ) → IsFreeOr q n o → Keeps s → Keeps (match_header s dev left v header a o).0
  match_keeps s dev left v header a None free h = set_keeps s dev (record v { present = skipped header }) (skipped_met header) h
  match_keeps s dev left v header a (Some t) free h = payload_keeps (change_transfer s t (with_phase Moving)) dev v (datagram header (Matched t)) a _ free (change_keeps s t (with_phase Moving) (λ u e. refl) free h)

  begin_keeps : (s : State) (dev left : ℕ) (v : Device) (header : List ℕ) (a : ℕ) → PostsFree q n s → Keeps s → Keeps (begin_datagram s dev left v header a).0
  begin_keeps s dev left v header a posts h = choice Keeps (is_early v.kind) _ _ (match_keeps s dev left v header a (first_posted s dev (port_in header) (flow_in header)) (posts dev (port_in header) (flow_in header)) h) (payload_keeps s dev v (datagram header Gathering) a _ posts h)

  take_keeps : (s : State) (dev m : ℕ) (v : Device) (a : ℕ) → HasMet q n v.present → PostsFree q n s → Keeps s → Keeps (take_header s dev m v a).0
  take_keeps s dev m v a met posts h =
      let header : List ℕ = v.header ++ take a v.rest in
      let after : Device = record v { rest = drop a v.rest; header = header } in
      choice Keeps (is_whole_header header) _ _
      (choice Keeps (is_valid_header (most after.kind s.config.page) header) _ _ (begin_keeps s dev _ (record after { header = [] }) header a posts h) (set_keeps s dev (record after { header = []; is_bad = true }) met h))
      (set_keeps s dev after met h)

  record_keeps : (s : State) (dev m : ℕ) (v : Device) (o : Option Datagram) → HasMet q n v.present → HasMet q n o → PostsFree q n s → Keeps s → Keeps (receive_record s dev m v o).0
  record_keeps s dev m v None met there posts h = take_keeps s dev m v (header_taken m v.header v.rest) met posts h
  record_keeps s dev m v (Some g) met there posts h = payload_keeps s dev v g 0 _ (met_ends s g.fate posts there) h

  receive_keeps : (s : State) (dev m : ℕ) (o : Option Device) (sends : Bool) → OnDevice q n sends o → PostsFree q n s → Keeps s → Keeps (receive s dev m o).0
  receive_keeps s dev m None sends met posts h = h
  receive_keeps s dev m (Some v) sends met posts h = choice Keeps v.is_bad _ _ h (choice Keeps (is_busy s dev v) _ _ h (record_keeps s dev m v v.present met met posts h))

pub recv_keeps : (d : ℕ) (s : State) (dev m : ℕ) → NumbersRise s → Meets d s → Keeps d (queue d s.transfers) s.next s.config.devices (recv s dev m).0
recv_keeps d s dev m rise meets = receive_keeps d (queue d s.transfers) s.next s.config.devices s dev m (entry s.devices dev) (has_output (entry s.config.devices dev)) (meets dev)
    (λ other port flow. posted_free d s other port flow rise (find (awaits other port flow) s.transfers) refl)
    (record { queue = refl; next = refl; config = refl; meets = meets })
