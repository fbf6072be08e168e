-- The flat machine's receive step, part by part.
use Rattle.std.proofs.Common.{◌≡◌, ℕ, ◌+◌, ◌-◌, ◌≤◌, Bool, true, false, not, List, [], ◌++◌, refl, sym, ap, arith, rules, ◌∙◌, length, take, drop, set, inl}
use Rattle.std.specs.Prelude.{Option, Some, None, ◌==◌, ◌&&◌, ◌||◌, is_none, is_some, if◌then◌else◌}
use Rattle.genie_base.specs.Configs.{most}
use Rattle.genie_base.specs.Headers.{header_taken, payload_taken, is_whole_header, is_valid_header, port_in, len_in, flow_in}
use Rattle.genie_base.specs.declared.reply.Reply.TheVariants as reply
use Rattle.genie_wire.specs.Headers.{IsWhole}
use Rattle.genie_model.specs.Pending.{is_early, arrived, first_posted}
use Rattle.genie_model.specs.Receiving.{set_device, receiving, is_busy, is_between_records, no_bytes, receive, receive_record, recv, read_header, begin_datagram, match_header, receive_payload, go_on, land, after_bytes, complete, datagram, header_reply, may_fail_at, may_fail_receiving, stays_inside, stays_behind_header, is_received, stays_in_payload}
use Rattle.genie_model.specs.Sending.{change_device}
use Rattle.genie_model.specs.declared.fate.Fate.TheVariants.{Gathering}
use Rattle.genie_model.specs.Space.{Outcome}
use Rattle.genie_model.specs.State.{State, Device, Datagram}
use Rattle.genie_model.specs.Tables.{entry}
use Rattle.genie_gathering.proofs.Bytes.{take_front, drop_front, short_taken, whole_taken}

-- a device between records, or inside a header, that isn't busy
pub record Gathers (s : State) (d : ℕ) (v : Device) : Type 0 where
  pub there : entry s.devices d ≡ Some v
  pub good : v.is_bad ≡ false
  pub free : is_busy s d v ≡ false
  pub absent : v.present ≡ None

-- the header of these bytes, with this rest behind them
abbrev taking : State → ℕ → ℕ → Device → List ℕ → List ℕ → ℕ → Outcome
taking s d n v header rest h = if is_whole_header header then read_header s d (n - h) (record v { rest = rest; header = header }) header h else (set_device s d (record v { rest = rest; header = header }), header_reply h)

recv_takes : (s : State) (d n : ℕ) (v : Device) (taken rest : List ℕ) → Gathers s d v → v.rest ≡ taken ++ rest → length taken ≡ header_taken n v.header (taken ++ rest) → recv s d n ≡ taking s d n v (v.header ++ taken) rest (length taken)
recv_takes s d n v taken rest g is all =
    let count : header_taken n v.header v.rest ≡ length taken = ap (header_taken n v.header) is ∙ sym all in
    let front : take (header_taken n v.header v.rest) v.rest ≡ taken = (λ i. take (count i) (is i)) ∙ take_front taken rest in
    let behind : drop (header_taken n v.header v.rest) v.rest ≡ rest = (λ i. drop (count i) (is i)) ∙ drop_front taken rest in
    ap (receive s d n) g.there
    ∙ ap (λ b. if b then (s, reply.Bad) else (if is_busy s d v then (s, reply.Busy) else receive_record s d n v v.present)) g.good
    ∙ ap (λ b. if b then (s, reply.Busy) else receive_record s d n v v.present) g.free
    ∙ ap (receive_record s d n v) g.absent
    ∙ (λ i. taking s d n v (v.header ++ front i) (behind i) (count i))

-- the device changed
pub device_changed : (s : State) (d : ℕ) (v w : Device) → entry s.devices d ≡ Some v → set_device s d w ≡ record s { devices = set s.devices d (Some (record w { sent = v.sent })) }
device_changed s d v w there = ap (λ o. record s { devices = set s.devices d (change_device (receiving w) o) }) there

pub whole_true : (bytes : List ℕ) → IsWhole bytes → is_whole_header bytes ≡ true
whole_true bytes h = grind (arith, rules, h)

-- the header isn't whole
pub recv_more : (s : State) (d n : ℕ) (v : Device) (taken rest : List ℕ) → Gathers s d v → v.rest ≡ taken ++ rest → is_whole_header (v.header ++ taken) ≡ false → length taken ≡ header_taken n v.header (taken ++ rest)
    → recv s d n ≡ (set_device s d (record v { rest = rest; header = v.header ++ taken }), header_reply (length taken))
recv_more s d n v taken rest g is short all = recv_takes s d n v taken rest g is all ∙ ap (λ b. if b then read_header s d (n - length taken) (record v { rest = rest; header = v.header ++ taken }) (v.header ++ taken) (length taken) else (set_device s d (record v { rest = rest; header = v.header ++ taken }), header_reply (length taken))) short

recv_whole : (s : State) (d n : ℕ) (v : Device) (taken rest : List ℕ) → Gathers s d v → v.rest ≡ taken ++ rest → IsWhole (v.header ++ taken) → length taken ≤ n
    → recv s d n ≡ read_header s d (n - length taken) (record v { rest = rest; header = v.header ++ taken }) (v.header ++ taken) (length taken)
recv_whole s d n v taken rest g is whole within = recv_takes s d n v taken rest g is (whole_taken n v.header taken rest whole within) ∙ ap (λ b. if b then read_header s d (n - length taken) (record v { rest = rest; header = v.header ++ taken }) (v.header ++ taken) (length taken) else (set_device s d (record v { rest = rest; header = v.header ++ taken }), header_reply (length taken))) (whole_true (v.header ++ taken) whole)

-- it isn't valid
pub recv_bad : (s : State) (d n : ℕ) (v : Device) (taken rest : List ℕ) → Gathers s d v → v.rest ≡ taken ++ rest → IsWhole (v.header ++ taken) → length taken ≤ n → is_valid_header (most v.kind s.config.page) (v.header ++ taken) ≡ false
    → recv s d n ≡ (set_device s d (record v { rest = rest; header = []; is_bad = true }), reply.Bad)
recv_bad s d n v taken rest g is whole within bad =
    let after : Device = record v { rest = rest; header = v.header ++ taken } in
    recv_whole s d n v taken rest g is whole within
    ∙ ap (λ b. if b then begin_datagram s d (n - length taken) (record after { header = [] }) (v.header ++ taken) (length taken) else (set_device s d (record after { header = []; is_bad = true }), reply.Bad)) bad

-- it begins a datagram
recv_begins : (s : State) (d n : ℕ) (v : Device) (taken rest : List ℕ) → Gathers s d v → v.rest ≡ taken ++ rest → IsWhole (v.header ++ taken) → length taken ≤ n → is_valid_header (most v.kind s.config.page) (v.header ++ taken) ≡ true
    → recv s d n ≡ begin_datagram s d (n - length taken) (record v { rest = rest; header = [] }) (v.header ++ taken) (length taken)
recv_begins s d n v taken rest g is whole within good =
    let after : Device = record v { rest = rest; header = v.header ++ taken } in
    recv_whole s d n v taken rest g is whole within
    ∙ ap (λ b. if b then begin_datagram s d (n - length taken) (record after { header = [] }) (v.header ++ taken) (length taken) else (set_device s d (record after { header = []; is_bad = true }), reply.Bad)) good

-- a device that isn't early gathers its payload
pub recv_gathers : (s : State) (d n : ℕ) (v : Device) (taken rest : List ℕ) → Gathers s d v → v.rest ≡ taken ++ rest → IsWhole (v.header ++ taken) → length taken ≤ n → is_valid_header (most v.kind s.config.page) (v.header ++ taken) ≡ true → is_early v.kind ≡ false
    → recv s d n ≡ receive_payload s d (n - length taken) (record v { rest = rest; header = [] }) (datagram (v.header ++ taken) Gathering) (length taken)
recv_gathers s d n v taken rest g is whole within good late =
    let header : List ℕ = v.header ++ taken in
    let w : Device = record v { rest = rest; header = [] } in
    recv_begins s d n v taken rest g is whole within good
    ∙ ap (λ b. if b then match_header s d (n - length taken) w header (length taken) (first_posted s d (port_in header) (flow_in header)) else receive_payload s d (n - length taken) w (datagram header Gathering) (length taken)) late

-- a device that has begun a datagram
pub record HasPresent (s : State) (d : ℕ) (v : Device) (g : Datagram) : Type 0 where
  pub there : entry s.devices d ≡ Some v
  pub good : v.is_bad ≡ false
  pub present : v.present ≡ Some g

and_false : (a : Bool) → (a && false) ≡ false
and_false true = refl
and_false false = refl

busy_none : (a b c : Bool) → b ≡ false → (a && b && not c) ≡ false
busy_none true true c e = absurd (cc)
busy_none true false c e = refl
busy_none false b c e = refl

within_free : (s : State) (d : ℕ) (v : Device) (g : Datagram) → v.present ≡ Some g → is_busy s d v ≡ false
within_free s d v g e =
    let no : is_between_records v ≡ false = ap (λ (p : Option Datagram). no_bytes v.header && is_none p) e ∙ and_false (no_bytes v.header) in
    ap (λ b. b && not (is_early v.kind) && (arrived s d == v.depth)) no

pub recv_within : (s : State) (d n : ℕ) (v : Device) (g : Datagram) → HasPresent s d v g → recv s d n ≡ receive_payload s d n v g 0
recv_within s d n v g h =
    ap (receive s d n) h.there
    ∙ ap (λ b. if b then (s, reply.Bad) else (if is_busy s d v then (s, reply.Busy) else receive_record s d n v v.present)) h.good
    ∙ ap (λ b. if b then (s, reply.Busy) else receive_record s d n v v.present) (within_free s d v g h.present)
    ∙ ap (receive_record s d n v) h.present

-- so many bytes of the payload are moved
pub payload_moved : (s : State) (d left h : ℕ) (v : Device) (g : Datagram) (taken rest : List ℕ) → v.rest ≡ taken ++ rest → length taken ≡ payload_taken left (g.len - g.moved) (taken ++ rest)
    → receive_payload s d left v g h ≡ go_on (land s g.moved taken g.fate) d (record v { rest = rest }) (after_bytes taken g) (h + length taken)
payload_moved s d left h v g taken rest is all =
    let count : payload_taken left (g.len - g.moved) v.rest ≡ length taken = ap (payload_taken left (g.len - g.moved)) is ∙ sym all in
    let front : take (payload_taken left (g.len - g.moved) v.rest) v.rest ≡ taken = (λ i. take (count i) (is i)) ∙ take_front taken rest in
    let behind : drop (payload_taken left (g.len - g.moved) v.rest) v.rest ≡ rest = (λ i. drop (count i) (is i)) ∙ drop_front taken rest in
    λ i. go_on (land s g.moved (front i) g.fate) d (record v { rest = behind i }) (after_bytes (front i) g) (h + count i)

-- the datagram goes on, or is over
pub goes_on : (s : State) (d : ℕ) (v : Device) (g : Datagram) (k : ℕ) → (k == 0) ≡ false → (g.moved == g.len) ≡ false → go_on s d v g k ≡ (set_device s d (record v { present = Some g }), reply.Got k)
goes_on s d v g k some more =
    let over : Device = record v { present = None } in
    ap (λ b. if b then complete (set_device s d over) d g true 0 g.fate else (if g.moved == g.len then complete (set_device s d over) d g false k g.fate else (set_device s d (record v { present = Some g }), reply.Got k))) some
    ∙ ap (λ b. if b then complete (set_device s d over) d g false k g.fate else (set_device s d (record v { present = Some g }), reply.Got k)) more

pub is_over : (s : State) (d : ℕ) (v : Device) (g : Datagram) (k : ℕ) → (k == 0) ≡ false → (g.moved == g.len) ≡ true → go_on s d v g k ≡ complete (set_device s d (record v { present = None })) d g false k g.fate
is_over s d v g k some all =
    let over : Device = record v { present = None } in
    ap (λ b. if b then complete (set_device s d over) d g true 0 g.fate else (if g.moved == g.len then complete (set_device s d over) d g false k g.fate else (set_device s d (record v { present = Some g }), reply.Got k))) some
    ∙ ap (λ b. if b then complete (set_device s d over) d g false k g.fate else (set_device s d (record v { present = Some g }), reply.Got k)) all

true_or : (a b : Bool) → b ≡ true → (a || b) ≡ true
true_or true b e = refl
true_or false b e = e

-- the host may fail after these bytes of a header
pub may_fail_short : (s : State) (d : ℕ) (v : Device) (taken rest : List ℕ) → Gathers s d v → v.rest ≡ taken ++ rest → is_whole_header (v.header ++ taken) ≡ false → may_fail_receiving s d (length taken) ≡ true
may_fail_short s d v taken rest g is short =
    let k = length taken in
    let all : k ≡ header_taken k v.header (taken ++ rest) = short_taken k v.header taken rest short (omega arith) (inl refl) in
    let count : header_taken k v.header v.rest ≡ k = ap (header_taken k v.header) is ∙ sym all in
    let front : take (header_taken k v.header v.rest) v.rest ≡ taken = (λ i. take (count i) (is i)) ∙ take_front taken rest in
    let shorter : is_whole_header (v.header ++ take (header_taken k v.header v.rest) v.rest) ≡ false = ap (λ l. is_whole_header (v.header ++ l)) front ∙ short in
    let equal : (header_taken k v.header v.rest == k) ≡ true = grind (arith, rules, count) in
    let inside : stays_behind_header s d k v (header_taken k v.header v.rest) ≡ true =
    ap (λ b. if b then is_received s d v (v.header ++ take (header_taken k v.header v.rest) v.rest) && stays_in_payload (drop (header_taken k v.header v.rest) v.rest) (len_in (v.header ++ take (header_taken k v.header v.rest) v.rest)) (k - header_taken k v.header v.rest) else (header_taken k v.header v.rest == k)) shorter ∙ equal in
    ap (may_fail_at s d k) g.there
    ∙ ap (λ b. not b && not (is_busy s d v) && ((k == 0) || stays_inside s d k v v.present)) g.good
    ∙ ap (λ b. not b && ((k == 0) || stays_inside s d k v v.present)) g.free
    ∙ ap (λ p. (k == 0) || stays_inside s d k v p) g.absent
    ∙ true_or (k == 0) _ inside

-- after these bytes of a payload
pub may_fail_within : (s : State) (d : ℕ) (v : Device) (g : Datagram) (taken rest : List ℕ) → HasPresent s d v g → v.rest ≡ taken ++ rest → stays_in_payload (taken ++ rest) (g.len - g.moved) (length taken) ≡ true → may_fail_receiving s d (length taken) ≡ true
may_fail_within s d v g taken rest h is inside =
    let k = length taken in
    ap (may_fail_at s d k) h.there
    ∙ ap (λ b. not b && not (is_busy s d v) && ((k == 0) || stays_inside s d k v v.present)) h.good
    ∙ ap (λ b. not b && ((k == 0) || stays_inside s d k v v.present)) (within_free s d v g h.present)
    ∙ ap (λ p. (k == 0) || stays_inside s d k v p) h.present
    ∙ true_or (k == 0) _ (ap (λ l. stays_in_payload l (g.len - g.moved) k) is ∙ inside)

pub is_cut_off : (s : State) (d : ℕ) (v : Device) (g : Datagram) (k : ℕ) → (k == 0) ≡ true → go_on s d v g k ≡ complete (set_device s d (record v { present = None })) d g true 0 g.fate
is_cut_off s d v g k none =
    let over : Device = record v { present = None } in
    ap (λ b. if b then complete (set_device s d over) d g true 0 g.fate else (if g.moved == g.len then complete (set_device s d over) d g false k g.fate else (set_device s d (record v { present = Some g }), reply.Got k))) none

both_true : (a b : Bool) → a ≡ true → b ≡ true → (a && b) ≡ true
both_true true b e f = f
both_true false b e f = e

-- after these bytes of a header and of its payload, on a device that isn't early
pub may_fail_begun : (s : State) (d : ℕ) (v : Device) (taken bytes rest : List ℕ) → Gathers s d v → v.rest ≡ taken ++ (bytes ++ rest) → IsWhole (v.header ++ taken) → is_valid_header (most v.kind s.config.page) (v.header ++ taken) ≡ true
    → is_early v.kind ≡ false → stays_in_payload (bytes ++ rest) (len_in (v.header ++ taken)) (length bytes) ≡ true → may_fail_receiving s d (length taken + length bytes) ≡ true
may_fail_begun s d v taken bytes rest g is whole valid late inside =
    let k = length taken + length bytes in
    let header : List ℕ = v.header ++ taken in
    let count : header_taken k v.header v.rest ≡ length taken = ap (header_taken k v.header) is ∙ sym (whole_taken k v.header taken (bytes ++ rest) whole (omega arith)) in
    let front : take (header_taken k v.header v.rest) v.rest ≡ taken = (λ i. take (count i) (is i)) ∙ take_front taken (bytes ++ rest) in
    let behind : drop (header_taken k v.header v.rest) v.rest ≡ bytes ++ rest = (λ i. drop (count i) (is i)) ∙ drop_front taken (bytes ++ rest) in
    let left : k - length taken ≡ length bytes = omega arith in
    let received : is_received s d v header ≡ true = both_true (is_valid_header (most v.kind s.config.page) header) (not (is_early v.kind) || is_some (first_posted s d (port_in header) (flow_in header))) valid (ap (λ b. not b || is_some (first_posted s d (port_in header) (flow_in header))) late) in
    let here : stays_behind_header s d k v (header_taken k v.header v.rest) ≡ true =
    (λ i. if is_whole_header (v.header ++ front i) then is_received s d v (v.header ++ front i) && stays_in_payload (behind i) (len_in (v.header ++ front i)) (k - count i) else (count i == k))
    ∙ ap (λ b. if b then is_received s d v header && stays_in_payload (bytes ++ rest) (len_in header) (k - length taken) else (length taken == k)) (whole_true header whole)
    ∙ both_true (is_received s d v header) (stays_in_payload (bytes ++ rest) (len_in header) (k - length taken)) received (ap (stays_in_payload (bytes ++ rest) (len_in header)) left ∙ inside) in
    ap (may_fail_at s d k) g.there
    ∙ ap (λ b. not b && not (is_busy s d v) && ((k == 0) || stays_inside s d k v v.present)) g.good
    ∙ ap (λ b. not b && ((k == 0) || stays_inside s d k v v.present)) g.free
    ∙ ap (λ p. (k == 0) || stays_inside s d k v p) g.absent
    ∙ true_or (k == 0) _ here
