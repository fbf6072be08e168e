-- What each change that a receive step is made of keeps, the whole step keeps.
use Rattle.std.proofs.Common.{◌≡◌, ℕ, ◌+◌, Bool, true, false, List, [], ◌++◌, refl}
use Rattle.std.specs.Prelude.{Option, Some, None, ⊤, take, drop, ◌==◌, if◌then◌else◌}
use Rattle.std.proofs.lemmas.Bool.{cond_both}
use Rattle.genie_base.specs.Headers.{header_taken, is_whole_header, is_valid_header, port_in, flow_in}
use Rattle.genie_base.specs.Configs.{most}
use Rattle.genie_base.specs.declared.config.Kind.{Kind}
use Rattle.genie_base.specs.declared.reply.Reply.{Reply}
use Rattle.genie_base.specs.declared.reply.Reply.TheVariants as reply
use Rattle.genie_model.specs.declared.phase.Phase.TheVariants.{Moving}
use Rattle.genie_model.specs.State.{State, Transfer, Device, Datagram}
use Rattle.genie_model.specs.declared.fate.Fate.{Fate}
use Rattle.genie_model.specs.declared.fate.Fate.TheVariants.{Matched, Skipped, Gathering}
use Rattle.genie_model.specs.Tables.{entry}
use Rattle.genie_model.specs.Regions.{put}
use Rattle.genie_model.specs.Pending.{is_early, pending, first_posted}
use Rattle.genie_model.specs.Space.{Outcome}
use Rattle.genie_model.specs.Receiving.{set_device, is_busy, with_phase, change_transfer, deliver, complete, landing, landed, land_in, land, after_bytes, go_on, take_payload, datagram, skipped, match_header, begin_datagram, read_header, take_header, receive_record, receive, recv}
use Rattle.genie_model.specs.Lemmas.PendingCalls.{KeepsCall}

pub choice : (P : State → Type 0) (b : Bool) (x y : Outcome) → P x.0 → P y.0 → P (if b then x else y).0
choice P true x y p q = p
choice P false x y p q = q

-- what a receive step of device d may answer
pub record Answers (Q : Reply → Type 0) : Type 0 where
  pub end : Q reply.End
  pub bad : Q reply.Bad
  pub busy : Q reply.Busy
  pub got : (k : ℕ) → Q (reply.Got k)
  pub dropped : (port : ℕ) (flow : Option ℕ) (len : ℕ) → Q (reply.Dropped port flow len)

-- P is kept of states, devices have a shape, and Q is so of replies
module _ (P : State → Type 0) (Shape : Kind → ℕ → Type 0) (Q : Reply → Type 0) (d : ℕ) (device : (s : State) (v : Device) → Shape v.kind v.depth → P s → P (set_device s d v)) (transfer : (s : State) (k : ℕ) (f : Transfer → Transfer) → KeepsCall f → P s → P (change_transfer s k f)) (bytes : (s : State) (k x : ℕ) (new : List ℕ) → P s → P (put s k x new)) (answers : Answers Q) where
  abbrev Does : Outcome → Type 0
  Does o = P o.0 × Q o.1

  deliver_does : (s : State) (g : Datagram) (truncated : Bool) (k : ℕ) (o : Option ℕ) → P s → Does (deliver s g truncated k o)
  deliver_does s g truncated k None p = (p, answers.dropped _ _ _)
  deliver_does s g truncated k (Some t) p = (transfer s t _ (λ u. refl) p, answers.got k)

  complete_does : (s : State) (g : Datagram) (truncated : Bool) (k : ℕ) (fate : Fate) → P s → Does (complete s d g truncated k fate)
  complete_does s g truncated k Skipped p = (p, answers.got k)
  complete_does s g truncated k (Matched t) p = (transfer s t _ (λ u. refl) p, answers.got k)
  complete_does s g truncated k Gathering p = deliver_does s g truncated k (first_posted s d g.port g.flow) p

  go_on_does : (s : State) (v : Device) (g : Datagram) (k : ℕ) → Shape v.kind v.depth → P s → Does (go_on s d v g k)
  go_on_does s v g k has p =
      let over : Device = record v { present = None } in
      let ended = device s over has p in
      cond_both (k == 0) _ _ Does (λ _. complete_does (set_device s d over) g true 0 g.fate ended)
      (λ _. cond_both (g.moved == g.len) _ _ Does (λ _. complete_does (set_device s d over) g false k g.fate ended) (λ _. (device s (record v { present = Some g }) has p, answers.got k)))

  landed_keeps : (s : State) (t : Transfer) (x : ℕ) (new : List ℕ) (r : Option ℕ) → P s → P (landed s t x new r)
  landed_keeps s t x new None p = p
  landed_keeps s t x new (Some r) p = bytes s r _ _ p

  land_in_keeps : (s : State) (x : ℕ) (new : List ℕ) (o : Option Transfer) → P s → P (land_in s x new o)
  land_in_keeps s x new None p = p
  land_in_keeps s x new (Some t) p = transfer (landed s t x new (landing t)) t.number _ (λ u. refl) (landed_keeps s t x new (landing t) p)

  land_keeps : (s : State) (x : ℕ) (new : List ℕ) (fate : Fate) → P s → P (land s x new fate)
  land_keeps s x new Skipped p = p
  land_keeps s x new Gathering p = p
  land_keeps s x new (Matched t) p = land_in_keeps s x new (pending s t) p

  payload_does : (s : State) (v : Device) (g : Datagram) (h b : ℕ) → Shape v.kind v.depth → P s → Does (take_payload s d v g h b)
  payload_does s v g h b has p = go_on_does (land s g.moved (take b v.rest) g.fate) (record v { rest = drop b v.rest }) (after_bytes (take b v.rest) g) (h + b) has (land_keeps s g.moved (take b v.rest) g.fate p)

  match_does : (s : State) (left : ℕ) (v : Device) (header : List ℕ) (h : ℕ) (o : Option ℕ) → Shape v.kind v.depth → P s → Does (match_header s d left v header h o)
  match_does s left v header h None has p = (device s (record v { present = skipped header }) has p, answers.dropped _ _ _)
  match_does s left v header h (Some t) has p = payload_does (change_transfer s t (with_phase Moving)) v (datagram header (Matched t)) h _ has (transfer s t (with_phase Moving) (λ u. refl) p)

  begin_does : (s : State) (left : ℕ) (v : Device) (header : List ℕ) (h : ℕ) → Shape v.kind v.depth → P s → Does (begin_datagram s d left v header h)
  begin_does s left v header h has p = cond_both (is_early v.kind) _ _ Does (λ _. match_does s left v header h (first_posted s d (port_in header) (flow_in header)) has p) (λ _. payload_does s v (datagram header Gathering) h _ has p)

  read_does : (s : State) (left : ℕ) (v : Device) (header : List ℕ) (h : ℕ) → Shape v.kind v.depth → P s → Does (read_header s d left v header h)
  read_does s left v header h has p = cond_both (is_valid_header (most v.kind s.config.page) header) _ _ Does (λ _. begin_does s left (record v { header = [] }) header h has p) (λ _. (device s (record v { header = []; is_bad = true }) has p, answers.bad))

  take_does : (s : State) (n : ℕ) (v : Device) (h : ℕ) → Shape v.kind v.depth → P s → Does (take_header s d n v h)
  take_does s n v h has p =
      let header : List ℕ = v.header ++ take h v.rest in
      let after : Device = record v { rest = drop h v.rest; header = header } in
      cond_both (is_whole_header header) _ _ Does (λ _. read_does s _ after header h has p) (λ _. (device s after has p, cond_both (h == 0) _ _ Q (λ _. answers.end) (λ _. answers.got h)))

  record_does : (s : State) (n : ℕ) (v : Device) (o : Option Datagram) → Shape v.kind v.depth → P s → Does (receive_record s d n v o)
  record_does s n v None has p = take_does s n v (header_taken n v.header v.rest) has p
  record_does s n v (Some g) has p = payload_does s v g 0 _ has p

  receive_does : (s : State) (n : ℕ) (o : Option Device) → ((v : Device) → o ≡ Some v → Shape v.kind v.depth) → P s → Does (receive s d n o)
  receive_does s n None has p = (p, answers.end)
  receive_does s n (Some v) has p = cond_both v.is_bad _ _ Does (λ _. (p, answers.bad)) (λ _. cond_both (is_busy s d v) _ _ Does (λ _. (p, answers.busy)) (λ _. record_does s n v v.present (has v refl) p))

  pub recv_does : (s : State) (n : ℕ) → ((v : Device) → entry s.devices d ≡ Some v → Shape v.kind v.depth) → P s → Does (recv s d n)
  recv_does s n has p = receive_does s n (entry s.devices d) has p

-- any answer will do
pub any_answer : Answers (λ _. ⊤)
any_answer = record { end = tt; bad = tt; busy = tt; got = λ _. tt; dropped = λ _ _ _. tt }

-- the same of states alone
pub recv_keeps : (P : State → Type 0) → ((s : State) (d : ℕ) (v : Device) → P s → P (set_device s d v)) → ((s : State) (k : ℕ) (f : Transfer → Transfer) → KeepsCall f → P s → P (change_transfer s k f)) → ((s : State) (k x : ℕ) (new : List ℕ) → P s → P (put s k x new)) → (s : State) (d n : ℕ) → P s → P (recv s d n).0
recv_keeps P device transfer bytes s d n p = (recv_does P (λ _ _. ⊤) (λ _. ⊤) d (λ t v _ h. device t d v h) transfer bytes any_answer s n (λ _ _. tt) p).0
