-- What a receive step does: it stores the payload's bytes where a pending weak input covers their places, and devices receive for inputs alone.
use Rattle.std.proofs.Common.{◌≡◌, ◌⊎◌, ℕ, ◌+◌, ◌-◌, ◌<◌, ◌≤◌, Bool, true, false, inl, inr, ⊎_elim, List, [], ◌++◌, length, get_or, find, All, AllPairs, refl, sym, ap, subst, ◌∙◌, true≢false, eqb-true, le-leb, lt-ltb, eq-eqb, arith}
use Rattle.std.specs.Prelude.{Option, Some, None, IfSome, take, drop, nat_le, nat_lt, ◌==◌, ◌&&◌, if◌then◌else◌}
use Rattle.std.specs.Option.{option_map}
use Rattle.std.proofs.lemmas.Bool.{cond_both, and_parts, and_from}
use Rattle.std.proofs.lemmas.Bool.Decides.{nat_tests}
use Rattle.std.proofs.lemmas.List.{length-take, length-drop}
use Rattle.std.proofs.lemmas.List.Elements.{All-weaker}
use Rattle.genie_base.specs.declared.reply.Reply.TheVariants as reply
use Rattle.genie_base.specs.Bytes.{part}
use Rattle.genie_base.specs.Configs.{most}
use Rattle.genie_base.specs.Headers.{header_taken, is_whole_header, is_valid_header, port_in, len_in, flow_in}
use Rattle.genie_base.specs.Posted.{meets, meets_flow}
use Rattle.genie_base.specs.Transfers.{is_strong}
use Rattle.genie_base.specs.declared.event.Event.TheVariants.{Recv}
use Rattle.genie_model.specs.declared.fate.Fate.{Fate}
use Rattle.genie_model.specs.declared.fate.Fate.TheVariants.{Matched, Skipped, Gathering}
use Rattle.genie_model.specs.declared.phase.Phase.TheVariants.{Moving, Ready}
use Rattle.genie_laws.specs.Integrity.{is_under_input, next_header, is_to_come, payload_byte, byte_to_come, met_by, met, Landed, InputsKeepIntegrity}
use Rattle.genie_orderly.specs.Orderly.{matched_to, OrphanPlacesRise, IsInput, GoesToInput, IsUnderWay, ReceivesForInput, IsOrderly}
use Rattle.genie_model.specs.State.{State, Transfer, Device, Datagram}
use Rattle.genie_model.specs.Tables.{change, entry}
use Rattle.genie_model.specs.Regions.{bytes_of}
use Rattle.genie_model.specs.Pending.{is_early, is_inward, is_posted, is_numbered, posted_for, awaits, names_weakly, covers, pending, first_posted}
use Rattle.genie_model.specs.Sending.{change_device}
use Rattle.genie_model.specs.Receiving.{receiving, set_device, is_busy, with_phase, with_datagram, gathered, after_receiving, change_transfer, deliver, complete, fitting, landing, landed, land_in, land, after_bytes, go_on, take_payload, datagram, skipped, match_header, begin_datagram, read_header, header_reply, take_header, receive_record, receive, recv}
use Rattle.genie_model.specs.Step.{accept}
use Rattle.genie_model.specs.Lemmas.ReceiveSteps.{choice}
use Rattle.genie_laws.proofs.Inputs.Payloads.{part_taken, whole_taken, behind_header}
use Rattle.genie_laws.proofs.Inputs.OtherBytes.{IsNeat, neat_from_tidy, tidy_neat, neat_stored}
use Rattle.genie_model.specs.Lemmas.Lists.{entry_set, Has, any_found, has_at, all_has, has_any, find_has}
use Rattle.genie_laws.proofs.Inputs.StoredBytes.{IsNew, put_gives}
use Rattle.genie_orderly.specs.Lemmas.NamingTransfers.{all_change, any_change}
use Rattle.genie_model.specs.Lemmas.Steps.{event_so}
use Rattle.genie_model.specs.Lemmas.SendQueues.{same_number}

-- what is known of a transfer later in the step that began in state s
pub record IsKnown (s : State) (t : Transfer) : Type 0 where
  pub posted : is_posted t.phase ≡ true → IsInput s t.device t.number
  pub input : (d : ℕ) → IsInput s d t.number → (is_inward t.direction ≡ true) × (t.device ≡ d)
  pub before : Transfer
  pub was : pending s before.number ≡ Some before
  pub like : t ≡ record before { phase = t.phase; payload = t.payload; stored = t.stored; note = t.note }

-- a byte stays, or is the payload's
abbrev Shows : State → ℕ → ℕ → ℕ → List ℕ → Type 0
Shows s d k x byte = (byte ≡ bytes_of s k x 1) ⊎ Landed s d k x byte

-- a datagram of this fate goes to no input, or to the one whose payload the device receives
abbrev Aims : State → ℕ → Fate → Type 0
Aims s d fate = (k : ℕ) → matched_to fate ≡ Some k → met s d (entry s.devices d) ≡ Some k

-- these are bytes of the payload, from its place x on
abbrev Gives : State → ℕ → ℕ → List ℕ → Type 0
Gives s d x new = (i : ℕ) → i < length new → part i 1 new ≡ payload_byte (entry s.devices d) (x + i)

one_byte : (i : ℕ) (bytes : List ℕ) → i < length bytes → length (part i 1 bytes) ≡ 1
one_byte i bytes lt = omega (arith, lt, length-take 1 (drop i bytes), length-drop i bytes)

-- so many bytes are the payload, and from place x on it is there
abbrev Reads : State → ℕ → ℕ → ℕ → List ℕ → Type 0
Reads s d x len rest = (i : ℕ) → x + i < len → part i 1 rest ≡ payload_byte (entry s.devices d) (x + i)

-- what that step of device d has made of state s so far
pub record Received (s : State) (d : ℕ) (t : State) : Type 0 where
  pub transfers : All (IsKnown s) t.transfers
  pub devices : (e : ℕ) → ReceivesForInput s e (entry t.devices e)
  pub next : t.next ≡ s.next
  pub neat : All (IsNeat t.transfers) t.orphans
  pub bytes : (k x : ℕ) → Shows s d k x (bytes_of t k x 1)

-- and it is what their number finds
found_one : (s : State) → AllPairs (λ (t u : Transfer). t.number < u.number) s.transfers → (t : Transfer) → Has t s.transfers → pending s t.number ≡ Some t
found_one s order t there =
    let found = any_found (is_numbered t.number) s.transfers (has_any (is_numbered t.number) t s.transfers there (eq-eqb t.number t.number refl)) in
    let has = find_has (is_numbered t.number) s.transfers found.0 found.1 in
    found.1 ∙ ap Some (same_number s.transfers order found.0 t has.0 there (eqb-true found.0.number t.number has.1))

begun : (s : State) (d : ℕ) → IsOrderly s → Received s d s
begun s d o = record {
  transfers = λ i e lt.
      let t = get_or s.transfers i e in
      let there = has_at s.transfers i e lt in
      record {
        posted = λ p. (o.transfers.below i e lt, λ j c within same. subst (λ (u : Transfer). (is_inward u.direction ≡ true) × (u.device ≡ t.device)) (same_number s.transfers o.transfers.order t (get_or s.transfers j c) there (has_at s.transfers j c within) (sym same)) (o.posted i e lt p, refl));
        input = λ d is. is.1 i e lt refl;
        before = t;
        was = found_one s o.transfers.order t there;
        like = refl;
      };
  devices = o.matched;
  next = refl;
  neat = neat_from_tidy s o.tidied;
  bytes = λ k x. inl refl;
}

-- a change of a transfer that isn't posted anew
record IsMild (f : Transfer → Transfer) : Type 0 where
  like : (t : Transfer) → f t ≡ record t { phase = (f t).phase; payload = (f t).payload; stored = (f t).stored; note = (f t).note }
  posted : (t : Transfer) → is_posted (f t).phase ≡ true → is_posted t.phase ≡ true

first_is_input : (s : State) (d : ℕ) (test : Transfer → Bool) (ts : List Transfer) (k : ℕ) → ((t : Transfer) → test t ≡ true → (is_posted t.phase ≡ true) × (t.device ≡ d)) → All (IsKnown s) ts → (found : Option Transfer) → find test ts ≡ found → option_map (λ (t : Transfer). t.number) found ≡ Some k → IsInput s d k
first_is_input s d test ts k posted known None is e = absurd (cc)
first_is_input s d test ts k posted known (Some t) is e =
    let has = find_has test ts t is in
    let number : t.number ≡ k = cc in
    let p = posted t has.1 in
    subst (IsInput s d) number (subst (λ n. IsInput s n t.number) p.1 ((all_has (IsKnown s) ts known t has.0).posted p.0))

module _ (s : State) (d : ℕ) (o : IsOrderly s) where
  known_mild : (f : Transfer → Transfer) → IsMild f → (t : Transfer) → IsKnown s t → IsKnown s (f t)
  known_mild f m t h = record {
    posted = λ e. subst (λ (u : Transfer). IsInput s u.device u.number) (sym (m.like t)) (h.posted (m.posted t e));
    input = λ e is. subst (λ (u : Transfer). (is_inward u.direction ≡ true) × (u.device ≡ e)) (sym (m.like t)) (h.input e (subst (λ (u : Transfer). IsInput s e u.number) (m.like t) is));
    before = h.before;
    was = h.was;
    like = m.like t ∙ ap (λ (u : Transfer). record u { phase = (f t).phase; payload = (f t).payload; stored = (f t).stored; note = (f t).note }) h.like;
  }

  changed_so : (t : State) (k : ℕ) (f : Transfer → Transfer) → IsMild f → Received s d t → Received s d (change_transfer t k f)
  changed_so t k f m r = record {
    transfers = all_change (IsKnown s) (is_numbered k) f (known_mild f m) t.transfers r.transfers;
    devices = r.devices;
    next = r.next;
    neat = All-weaker (IsNeat t.transfers) (IsNeat (change (is_numbered k) f t.transfers)) (λ o neat. (
      any_change (names_weakly o.number) (is_numbered k) f (λ u. ap (names_weakly o.number) (m.like u)) t.transfers ∙ neat.0,
      λ i e lt. any_change (covers o.number (get_or o.bytes i e).0) (is_numbered k) f (λ u. ap (covers o.number (get_or o.bytes i e).0) (m.like u)) t.transfers ∙ neat.1 i e lt,
    )) t.orphans r.neat;
    bytes = r.bytes;
  }

  device_so : (t : State) (v : Device) → IfSome v.present (IsUnderWay s d) → Received s d t → Received s d (set_device t d v)
  device_so t v goes r = record {
    transfers = r.transfers;
    devices = λ e. entry_set (ReceivesForInput s e) t.devices d e (change_device (receiving v) (entry t.devices d)) (r.devices e) (λ same. subst (λ i. ReceivesForInput s i (change_device (receiving v) (entry t.devices d))) (sym same) (there (entry t.devices d)));
    next = r.next;
    neat = r.neat;
    bytes = r.bytes;
  }
    where
      there : (old : Option Device) → ReceivesForInput s d (change_device (receiving v) old)
      there None = tt
      there (Some old) = goes

  -- the bytes that fit a weak input are stored in places that it covers
  landed_so : (t : State) → OrphanPlacesRise t → (u : Transfer) (x : ℕ) (new : List ℕ) (strong : Bool) (region : Option ℕ) → is_strong u.class ≡ strong → u.region ≡ region → IsKnown s u → (is_inward u.direction ≡ true) × (u.device ≡ d) → met s d (entry s.devices d) ≡ Some u.number → Gives s d x new → Received s d t → Received s d (landed t u x new (if strong then None else region))
  landed_so t order u x new true region c n known inward aims gives r = r
  landed_so t order u x new false None c n known inward aims gives r = r
  landed_so t order u x new false (Some k) c n known inward aims gives r = record {
    transfers = r.transfers;
    devices = r.devices;
    next = r.next;
    neat = neat_stored t.transfers k (u.offset + x) (fitting u x new) t.orphans r.neat;
    bytes = λ j y. ⊎_elim (λ same. subst (Shows s d j y) (sym same) (r.bytes j y)) (λ is. inr (there j y _ is)) (put_gives t k (u.offset + x) j y (fitting u x new) order);
  }
    where
      there : (j y : ℕ) (now : List ℕ) → IsNew k (u.offset + x) (fitting u x new) j y now → Landed s d j y now
      there j y now is =
          let short = length-take (u.len - x) new in
          let within = is.within in
          let place = is.place in
          let under : is_under_input j y u ≡ true = rw (inward.0, c, n, eq-eqb k j (sym is.same)) (and_from (nat_le u.offset y) (nat_lt y (u.offset + u.len)) (le-leb u.offset y (omega arith)) (lt-ltb y (u.offset + u.len) (omega arith))) in
          let from : x + is.index ≡ y - known.before.offset = omega (arith, place, ap (λ (v : Transfer). v.offset) known.like) in
          record {
            input = known.before;
            pending = known.was;
            device = ap (λ (v : Transfer). v.device) (sym known.like) ∙ inward.1;
            met = aims ∙ ap (λ (v : Transfer). Some v.number) known.like;
            covers = sym (ap (is_under_input j y) known.like) ∙ under;
            one = ap (λ (l : List ℕ). length l) is.byte ∙ one_byte is.index (fitting u x new) within;
            payload = is.byte ∙ part_taken (u.len - x) is.index new within ∙ gives is.index (omega arith) ∙ ap (payload_byte (entry s.devices d)) from;
          }

  land_in_so : (t : State) → OrphanPlacesRise t → (x : ℕ) (new : List ℕ) (found : Option Transfer) → ((u : Transfer) → found ≡ Some u → IsKnown s u × ((is_inward u.direction ≡ true) × (u.device ≡ d)) × (met s d (entry s.devices d) ≡ Some u.number)) → Gives s d x new → Received s d t → Received s d (land_in t x new found)
  land_in_so t order x new None is gives r = r
  land_in_so t order x new (Some u) is gives r =
      let known = is u refl in
      changed_so (landed t u x new (landing u)) u.number (after_receiving x new) (record { like = λ v. refl; posted = λ v e. e }) (landed_so t order u x new (is_strong u.class) u.region refl refl known.0 known.1 known.2 gives r)

  land_so : (t : State) → OrphanPlacesRise t → (x : ℕ) (new : List ℕ) (fate : Fate) → GoesToInput s d fate → Aims s d fate → Gives s d x new → Received s d t → Received s d (land t x new fate)
  land_so t order x new Skipped goes aims gives r = r
  land_so t order x new Gathering goes aims gives r = r
  land_so t order x new (Matched k) goes aims gives r = land_in_so t order x new (pending t k) (λ u e.
      let has = find_has (is_numbered k) t.transfers u e in
      let known = all_has (IsKnown s) t.transfers r.transfers u has.0 in
      (known, known.input d (subst (IsInput s d) (sym (eqb-true u.number k has.1)) goes), aims k refl ∙ ap Some (sym (eqb-true u.number k has.1)))) gives r

  ready : (f : Transfer → Transfer) → ((t : Transfer) → f t ≡ record t { phase = Ready; payload = (f t).payload; stored = (f t).stored; note = (f t).note }) → IsMild f
  ready f like = record { like = λ t. like t ∙ ap (λ p. record t { phase = p; payload = (f t).payload; stored = (f t).stored; note = (f t).note }) (sym (ap (λ (u : Transfer). u.phase) (like t))); posted = λ t e. absurd (true≢false (sym e ∙ ap (λ (u : Transfer). is_posted u.phase) (like t))) }

  deliver_so : (t : State) (g : Datagram) (truncated : Bool) (k : ℕ) (o : Option ℕ) → Received s d t → Received s d (deliver t g truncated k o).0
  deliver_so t g truncated k None r = r
  deliver_so t g truncated k (Some u) r = changed_so t u (gathered truncated g.len g.bytes) (ready (gathered truncated g.len g.bytes) (λ v. refl)) r

  complete_so : (t : State) (g : Datagram) (truncated : Bool) (k : ℕ) (fate : Fate) → Received s d t → Received s d (complete t d g truncated k fate).0
  complete_so t g truncated k Skipped r = r
  complete_so t g truncated k (Matched u) r = changed_so t u (with_datagram truncated g.len) (ready (with_datagram truncated g.len) (λ v. refl)) r
  complete_so t g truncated k Gathering r = deliver_so t g truncated k (first_posted t d g.port g.flow) r

  go_on_so : (t : State) (v : Device) (g : Datagram) (k : ℕ) → g.moved ≤ g.len → GoesToInput s d g.fate → Received s d t → Received s d (go_on t d v g k).0
  go_on_so t v g k most goes r =
      let over : Device = record v { present = None } in
      let ended = device_so t over tt r in
      choice (Received s d) (k == 0) _ _ (complete_so (set_device t d over) g true 0 g.fate ended)
      (cond_both (g.moved == g.len) (complete (set_device t d over) d g false k g.fate) (set_device t d (record v { present = Some g }), reply.Got k) (λ u. Received s d u.0)
      (λ _. complete_so (set_device t d over) g false k g.fate ended)
      (λ less. device_so t (record v { present = Some g }) (record { left = grind (arith, nat_tests, less, most); input = goes }) r))

  payload_so : (t : State) → OrphanPlacesRise t → (v : Device) (g : Datagram) (h b : ℕ) → g.moved + b ≤ g.len → GoesToInput s d g.fate → Aims s d g.fate → Reads s d g.moved g.len v.rest → Received s d t → Received s d (take_payload t d v g h b).0
  payload_so t order v g h b fit goes aims reads r =
      let few = length-take b v.rest in
      go_on_so (land t g.moved (take b v.rest) g.fate) (record v { rest = drop b v.rest }) (after_bytes (take b v.rest) g) (h + b) (omega (arith, few, fit)) goes
      (land_so t order g.moved (take b v.rest) g.fate goes aims (λ i lt. part_taken b i v.rest lt ∙ reads i (omega (arith, few, fit, lt))) r)

  match_so : (left : ℕ) (v : Device) (header : List ℕ) (h : ℕ) (k : Option ℕ) → ((i : ℕ) → k ≡ Some i → IsInput s d i) → met s d (entry s.devices d) ≡ k → Reads s d 0 (len_in header) v.rest → Received s d (match_header s d left v header h k).0
  match_so left v header h None is aims reads = device_so s (record v { present = skipped header }) (cond_both (len_in header == 0) None (Some (datagram header Skipped)) (λ g. IfSome g (IsUnderWay s d)) (λ _. tt) (λ some. record { left = grind (arith, nat_tests, some); input = tt })) (begun s d o)
  match_so left v header h (Some k) is aims reads = payload_so (change_transfer s k (with_phase Moving)) o.order v (datagram header (Matched k)) h _ (omega arith) (is k refl) (λ i e. aims ∙ e) reads
      (changed_so s k (with_phase Moving) (record { like = λ u. refl; posted = λ u e. absurd (true≢false (sym e)) }) (begun s d o))

  begin_so : (left : ℕ) (v : Device) (header : List ℕ) (h : ℕ) → met s d (entry s.devices d) ≡ first_posted s d (port_in header) (flow_in header) → Reads s d 0 (len_in header) v.rest → Received s d (begin_datagram s d left v header h).0
  begin_so left v header h aims reads =
      let test : Transfer → Bool = awaits d (port_in header) (flow_in header) in
      let is = λ (k : ℕ). first_is_input s d test s.transfers k (λ u e.
      let parts = and_parts (is_posted u.phase) (meets d (port_in header) (flow_in header) (posted_for u)) e in
      (parts.0, eqb-true u.device d (and_parts (u.device == d) (u.port == port_in header) (and_parts ((u.device == d) && (u.port == port_in header)) (meets_flow u.flow (flow_in header)) parts.1).0).0)) (begun s d o).transfers (find test s.transfers) refl in
      choice (Received s d) (is_early v.kind) _ _ (match_so left v header h (first_posted s d (port_in header) (flow_in header)) is aims reads) (payload_so s o.order v (datagram header Gathering) h _ (omega arith) tt (λ i e. absurd (cc)) reads (begun s d o))

  read_so : (left : ℕ) (v : Device) (header : List ℕ) (h : ℕ) → ReceivesForInput s d (Some v) → met s d (entry s.devices d) ≡ first_posted s d (port_in header) (flow_in header) → Reads s d 0 (len_in header) v.rest → Received s d (read_header s d left v header h).0
  read_so left v header h goes aims reads = choice (Received s d) (is_valid_header (most v.kind s.config.page) header) _ _ (begin_so left (record v { header = [] }) header h aims reads) (device_so s (record v { header = []; is_bad = true }) goes (begun s d o))

  take_so : (n : ℕ) (v : Device) → ReceivesForInput s d (Some v) → ((j : ℕ) → payload_byte (entry s.devices d) j ≡ byte_to_come v None j) → met s d (entry s.devices d) ≡ met_by s d v None → Received s d (take_header s d n v (header_taken n v.header v.rest)).0
  take_so n v goes byte aims =
      let h : ℕ = header_taken n v.header v.rest in
      let header : List ℕ = v.header ++ take h v.rest in
      let after : Device = record v { rest = drop h v.rest; header = header } in
      cond_both (is_whole_header header) (read_header s d (n - h) after header h) (set_device s d after, header_reply h) (λ r. Received s d r.0)
      (λ whole.
      let same : next_header v ≡ header = ap (λ i. v.header ++ take i v.rest) (whole_taken n v.header v.rest whole) in
      read_so _ after header h goes (aims ∙ ap (λ l. first_posted s d (port_in l) (flow_in l)) same) (λ i lt.
      let due : is_to_come v None (0 + i) ≡ true = lt-ltb (0 + i) (len_in (next_header v)) (subst (λ l. 0 + i < len_in l) (sym same) lt) in
      behind_header n v.header v.rest i whole ∙ sym (byte (0 + i) ∙ rw due refl)))
      (λ _. device_so s after goes (begun s d o))

  record_so : (n : ℕ) (v : Device) (present : Option Datagram) → ReceivesForInput s d (Some v) → IfSome present (IsUnderWay s d) → ((j : ℕ) → payload_byte (entry s.devices d) j ≡ byte_to_come v present j) → met s d (entry s.devices d) ≡ met_by s d v present → Received s d (receive_record s d n v present).0
  record_so n v None goes under byte aims = take_so n v goes byte aims
  record_so n v (Some g) goes under byte aims =
      let left = under.left in
      payload_so s o.order v g 0 _ (omega (arith, left)) under.input (λ k e. aims ∙ e)
      (λ i lt.
      let back : (g.moved + i) - g.moved ≡ i = omega arith in
      let due : is_to_come v (Some g) (g.moved + i) ≡ true = and_from (nat_le g.moved (g.moved + i)) (nat_lt (g.moved + i) g.len) (le-leb g.moved (g.moved + i) (omega arith)) (lt-ltb (g.moved + i) g.len lt) in
      ap (λ k. part k 1 v.rest) (sym back) ∙ sym (byte (g.moved + i) ∙ rw due refl)) (begun s d o)

  receive_so : (n : ℕ) (v : Option Device) → ReceivesForInput s d v → ((j : ℕ) → payload_byte (entry s.devices d) j ≡ payload_byte v j) → met s d (entry s.devices d) ≡ met s d v → Received s d (receive s d n v).0
  receive_so n None goes byte aims = begun s d o
  receive_so n (Some v) goes byte aims = choice (Received s d) v.is_bad _ _ (begun s d o) (choice (Received s d) (is_busy s d v) _ _ (begun s d o) (record_so n v v.present goes goes byte aims))

pub received : (s : State) (d n : ℕ) → IsOrderly s → Received s d (recv s d n).0
received s d n o = receive_so s d o n (entry s.devices d) (o.matched d) (λ j. refl) refl

bytes_shown : (s : State) (d n k x : ℕ) → IsOrderly s → Shows s d k x (bytes_of (accept s (Recv d n)).0 k x 1)
bytes_shown s d n k x o =
    let r = received s d n o in
    subst (λ u. Shows s d k x (bytes_of u k x 1)) (sym (tidy_neat (recv s d n).0 r.neat)) (r.bytes k x)

pub inputs_keep_integrity : InputsKeepIntegrity
inputs_keep_integrity s d n m k x o = event_so (λ u. Shows s d k x (bytes_of u k x 1)) s (inl refl) (Recv d n) (λ _. bytes_shown s d n k x o) (λ _ b. bytes_shown s d b k x o) m
