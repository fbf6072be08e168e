-- What a step leaves that has moved payload bytes into an input.
use Rattle.std.proofs.Common.{◌≡◌, ℕ, ◌+◌, ◌-◌, ◌<◌, ◌≤◌, Bool, true, false, List, [], refl, sym, ap, subst, arith, ◌∙◌, ⊎_elim, length, set, inl, inr}
use Rattle.std.specs.Prelude.{Option, Some, None, IfSome, min, replicate, is_some, if◌then◌else◌}
use Rattle.std.specs.Option.{option_map}
use Rattle.std.specs.Io.KnownBytes.{Consumes, IsAtEnd}
use Rattle.std.proofs.lemmas.List.{length-replicate}
use Rattle.genie_base.specs.Bytes.{overlaid}
use Rattle.genie_base.specs.Events.{mark_of}
use Rattle.genie_base.specs.declared.config.Kind.{Kind}
use Rattle.genie_base.specs.declared.config.Kind.TheVariants.{Early, Pooled, Outboard}
use Rattle.genie_base.specs.declared.event.Event.TheVariants.{Recv}
use Rattle.genie_base.specs.declared.reply.Reply.{Reply}
use Rattle.genie_base.specs.declared.reply.Reply.TheVariants as reply
use Rattle.genie_device.specs.Device.{DeviceView, handle_of, is_outboard, landing_after, left_of, moved_of, buffer_of}
use Rattle.genie_device.specs.Kept.{IsAllowed}
use Rattle.genie_device.specs.Receiving.{EndsBody, BodyCause, TakesPayload}
use Rattle.genie_device.specs.declared.present.Present.{Present}
use Rattle.genie_device.specs.declared.steps.BodyEnd.{BodyEnd}
use Rattle.genie_device.specs.declared.steps.BodyEnd.TheVariants.{More, Whole, Truncated, Faulted}
use Rattle.genie_frame.specs.FrameTable.{FrameTable}
use Rattle.genie_host.specs.Host.{HostView, OnlyHandle}
use Rattle.genie_object.specs.declared.memory.Memory.{Memory}
use Rattle.genie_object.specs.Sound.{IsSound}
use Rattle.genie_orderly.specs.Lemmas.AcceptedEvents.{page_some}
use Rattle.genie_orderly.specs.Orderly.{IsOrderly}
use Rattle.genie_plan.specs.declared.plan.InPlan.{InPlan}
use Rattle.genie_plan.specs.Landings.{Lands}
use Rattle.genie_plan.specs.Plans.{OnlyRange, input_frames, range_bytes}
use Rattle.genie_plan.specs.Lemmas.Landings.{lands_soundly}
use Rattle.genie_model.specs.Pending.{is_early, is_queued, is_posted}
use Rattle.genie_model.specs.Refusing.{refuse}
use Rattle.genie_model.specs.Tables.{entry}
use Rattle.genie_kernel.specs.declared.kernel.Kernel.{Kernel}
use Rattle.genie_kernel.specs.declared.transfer.Loans.TheVariants as loans
use Rattle.genie_kernel.specs.declared.transfer.Transfer.{Transfer}
use Rattle.genie_kernel.specs.Calls.{has_number, number_of, receiver}
use Rattle.genie_kernel.specs.Good.{IsGood}
use Rattle.genie_kernel.specs.Matching.{ArePosted, IsStored}
use Rattle.genie_kernel.specs.Steps.{Steps, DeviceCause, bytes_over}
use Rattle.genie_kernel.specs.View.{Bytes, state_of, outline}
use Rattle.genie_changes.specs.Working.{Work, at_work, worked}
use Rattle.genie_receiving.specs.Course.{course_of, is_faulted}
use Rattle.genie_receiving.specs.declared.course.Course.{Course}
use Rattle.genie_receiving.specs.declared.course.Course.TheVariants.{GoesOn, Ends, IsTruncated}
use Rattle.genie_receiving.specs.declared.payload.Moved.{Moved}
use Rattle.genie_receiving.specs.Devices.{with_rest, KeepsPayload}
use Rattle.genie_receiving.specs.Landing.{ReceivesInto, reply_to, work_of}
use Rattle.genie_receiving.specs.Early.{IsWithin, IsWithinAt, len_of}
use Rattle.genie_receiving.specs.Laws.{ReceiveLaws}
use Rattle.genie_receiving.specs.Payload.{MovesPayload}
use Rattle.genie_receiving.specs.Receiving.{Receives, ArePages, input_of, with_landed}
use Rattle.genie_receiving.specs.Lemmas.Accepted.{may_receive}
use Rattle.genie_receiving.specs.Lemmas.Bytes.{append_none}
use Rattle.genie_receiving.specs.Lemmas.Gathered.{early_kind, handle_is}
use Rattle.genie_receiving.specs.Lemmas.Good.{input_good, landed_good}
use Rattle.genie_receiving.specs.Lemmas.Inputs.{IsReceiver, is_receiver, is_stored}
use Rattle.genie_receiving.specs.Lemmas.Kept.{kept_worked}
use Rattle.genie_receiving.specs.Lemmas.Marking.{zeros_with, zeros_rest, orderly_behind}
use Rattle.genie_receiving.specs.Lemmas.Matched.{EndsPayload, after_moving, moving_keeps, moved_device, received_kernel}
use Rattle.genie_receiving.specs.Lemmas.Payloads.{ShowsLanded, work_on, receives_still}
use Rattle.genie_receiving.specs.Lemmas.Ready.{plan_of}
use Rattle.genie_receiving.specs.Lemmas.Within.{within_steps, body_reply}
use Rattle.genie_receiving.specs.Lemmas.Zeros.{shows_zeros}

-- how a step of a payload ended over a host
pub record EndingBody (end : BodyEnd) (left n moved : ℕ) (told : Option (List ℕ)) : Type 0 where
  pub ended : Bool
  pub so : EndsPayload end left n moved ended
  pub at_end : ended ≡ true → IsAtEnd told

pub ending_body : (end : BodyEnd) (left n moved : ℕ) (told : Option (List ℕ)) → EndsBody end left n moved told → EndingBody end left n moved told
ending_body More left n moved told h = ⊎_elim
    (λ (all : moved ≡ n). record { ended = false; so = (h.0, inl all); at_end = λ e. absurd (cc) })
    (λ (at : (0 < moved) × IsAtEnd told). record { ended = true; so = (h.0, inr (at.0, refl)); at_end = λ e. at.1 })
    h.1
ending_body Whole left n moved told h = record { ended = false; so = h; at_end = λ e. absurd (cc) }
ending_body Truncated left n moved told h = record { ended = true; so = (h.0, h.1, h.2, refl); at_end = λ e. h.3 }
ending_body Faulted left n moved told h = record { ended = false; so = h; at_end = λ e. absurd (cc) }

pub caused_body : (end : BodyEnd) (m before now : ℕ) → BodyCause end before now → DeviceCause (mark_of (body_reply end m)) before now
caused_body More m before now h = h
caused_body Whole m before now h = h
caused_body Truncated m before now h = h
caused_body Faulted m before now h = h

-- what is answered
pub replied : (moved : Moved) (end : BodyEnd) (h m : ℕ) → moved.faulted ≡ is_faulted end → moved.bytes ≡ m → reply_to moved h ≡ body_reply end (h + m)
replied moved end h m faulted bytes = λ i. if faulted i then reply.Fault (h + bytes i) else reply.Got (h + bytes i)

unbuffered_kind : (kind : Kind) → is_early kind ≡ true → is_outboard kind ≡ false
unbuffered_kind Early e = refl
unbuffered_kind Pooled e = absurd (cc)
unbuffered_kind Outboard e = absurd (cc)

no_number : (o : Option ℕ) → is_some o ≡ false → o ≡ None
no_number None e = refl
no_number (Some x) e = absurd (cc)

-- a datagram of an early device fills no buffer of it
pub unbuffered : (v : DeviceView) (g : Present) → is_early v.config.kind ≡ true → v.present ≡ Some g → IfSome v.present (IsAllowed v.config.kind v.limit) → g.buffer ≡ None
unbuffered v g early present allowed =
    let a : IsAllowed v.config.kind v.limit g = subst (λ o. IfSome o (IsAllowed v.config.kind v.limit)) present allowed in
    no_number g.buffer (a.buffer ∙ unbuffered_kind v.config.kind early)

-- of the frames only bytes and their count have changed
pub only_landed : (k : Kernel) (frames : List ℕ) (first len : ℕ) (f : FrameTable) → OnlyRange frames first len k.memory.frames f → record (k.memory) { frames = f } ≡ with_landed k.memory f.bytes f.landed
only_landed k frames first len f h = λ i. record (k.memory) { frames = record { page = h.page i; owners = h.owners i; counts = h.counts i; bytes = f.bytes; meters = h.meters i; landed = f.landed } }

-- what is stored of an input at the datagram's place
pub stored_now : (course : Course) (g : Present) (moved len : ℕ) (v : DeviceView) (t : Transfer) (o : Option Transfer) → (course ≡ GoesOn → o ≡ Some (at_work (work_on (g.moved + moved) t) t)) → IfSome (after_moving course g moved v).present (λ (p : Present). IfSome o (IsStored p))
stored_now GoesOn g moved len v t o h = subst (λ (z : Option Transfer). IfSome z (IsStored (record g { moved = g.moved + moved }))) (sym (h refl)) refl
stored_now Ends g moved len v t o h = tt
stored_now IsTruncated g moved len v t o h = tt

pub unqueued : (course : Course) (so_far len : ℕ) (t : Transfer) → is_queued (work_of course so_far len t).phase ≡ false
unqueued GoesOn so_far len t = refl
unqueued Ends so_far len t = refl
unqueued IsTruncated so_far len t = refl

pub unposted : (course : Course) (so_far len : ℕ) (t : Transfer) → is_posted (work_of course so_far len t).phase ≡ false
unposted GoesOn so_far len t = refl
unposted Ends so_far len t = refl
unposted IsTruncated so_far len t = refl

pub bufferless : (course : Course) (so_far len : ℕ) (t : Transfer) → (work_of course so_far len t).buffer ≡ None
bufferless GoesOn so_far len t = refl
bufferless Ends so_far len t = refl
bufferless IsTruncated so_far len t = refl

-- a page has bytes
pub good_page : (k : Kernel) → IsGood k → 0 < k.config.page
good_page k g = let some = page_some k.memory.frames.page g.sound.shaped.size in let same = g.sized.page in omega (arith, some, same)

-- bytes that have landed in memory m, over any slots
abbrev pub ShowsReal : Kernel → Transfer → ℕ → List ℕ → Memory → Type 0
ShowsReal k t x bytes m = (slots rests sents : ℕ → List ℕ) → ArePages k.memory.frames.page slots → ShowsLanded k t x bytes (bytes_over k.memory slots rests sents) (bytes_over m slots rests sents)

-- what lands in the frames of an input shows so
abbrev pub LandingsShow : Kernel → Transfer → ℕ → Type 0
LandingsShow k t x = (p : InPlan) (m : Memory) (bytes : List ℕ) → t.loans ≡ loans.Inward p → Lands (input_frames p.loans.items) p.first p.len x bytes k.memory m → ShowsReal k t x bytes m

-- the device's own part of the step
pub record HasMoved (d h n : ℕ) (old new : HostView) (k : Kernel) (v : DeviceView) (g : Present) (devices : List (Option DeviceView)) (moved : Moved) : Type 0 where
  pub taken : List ℕ
  pub end : BodyEnd
  pub takes : TakesPayload (handle_of v.config.input) (g.header.len - g.moved) n old new taken (length taken) end
  pub devices_are : devices ≡ set k.devices d (Some (after_moving (course_of end h) g (length taken) v))
  pub course : moved.course ≡ course_of end h
  pub so_far : moved.so_far ≡ g.moved + length taken
  pub faulted : moved.faulted ≡ is_faulted end
  pub bytes : moved.bytes ≡ length taken

pub has_moved : (d h n : ℕ) (old new : HostView) (k : Kernel) (v w : DeviceView) (g : Present) (devices : List (Option DeviceView)) (content now : List ℕ) (moved : Moved) → v.present ≡ Some g → g.buffer ≡ None → MovesPayload h n old new v w content now moved → devices ≡ set k.devices d (Some w) → (x : HasMoved d h n old new k v g devices moved) × (now ≡ overlaid g.moved x.taken content)
has_moved d h n old new k v w g devices content now moved present none x at = (
  record {
    taken = x.taken;
    end = x.end;
    takes = subst (λ m. TakesPayload (handle_of v.config.input) (g.header.len - g.moved) n old new x.taken m x.end) (sym x.takes.size) (subst (λ l. TakesPayload (handle_of v.config.input) l n old new x.taken moved.bytes x.end) (ap left_of present) x.takes);
    devices_are = at ∙ ap (λ u. set k.devices d (Some u)) (x.device ∙ moved_device (course_of x.end h) g x.taken v present none);
    course = x.course;
    so_far = x.so_far ∙ ap (λ p. moved_of p + length x.taken) present;
    faulted = x.faulted;
    bytes = sym x.takes.size;
  },
  x.landed ∙ (λ i. landing_after (buffer_of (present i)) (moved_of (present i)) x.taken content) ∙ ap (λ b. landing_after b g.moved x.taken content) none,
)

-- the datagram of a device that has one
pub the_datagram : (o : Option Present) (len : ℕ) → option_map len_of o ≡ Some len → (g : Present) × (o ≡ Some g) × (g.header.len ≡ len)
the_datagram None len e = absurd (cc)
the_datagram (Some g) len e = (g, refl, cc)

-- a step that goes on with the datagram that is present
pub within_receives : ReceiveLaws → (k new : Kernel) (d n len : ℕ) (t : Transfer) (old now : HostView) (r : Reply) → IsGood k → refuse (outline k) (Recv d n) ≡ None → IsWithinAt len (entry k.devices d) → receiver k.transfers d ≡ Some t → ((x : ℕ) → t.stored ≡ min x t.len → LandingsShow k t x) → ReceivesInto d (number_of t) len 0 n old now k new r → Receives d n old now k new r
within_receives laws k new d n len t old now r good accepted at receives law x =
    let v : DeviceView = x.lands.before in
    let there : entry k.devices d ≡ Some v = x.lands.there in
    let is : IsWithin len v = subst (IsWithinAt len) there at in
    let early : is_early v.config.kind ≡ true = is.early in
    let its = the_datagram v.present len is.present in
    let g : Present = its.0 in
    let present : v.present ≡ Some g = its.1 in
    let none : g.buffer ≡ None = unbuffered v g early present x.lands.allowed in
    let q : IsReceiver k d v t = is_receiver laws k d v t good there early receives in
    let stored : t.stored ≡ min g.moved t.len = is_stored k d v g t good there present receives in
    let number : ℕ = number_of t in
    let p : InPlan = x.lands.plan in
    let planned : t.loans ≡ loans.Inward p = x.lands.planned t q.input.found in
    let f : FrameTable = new.memory.frames in
    let moved = has_moved d 0 n old now k v x.lands.after g new.devices (range_bytes k.memory.frames (input_frames p.loans.items) p.first p.len) (range_bytes f (input_frames p.loans.items) p.first p.len) x.moved present none x.lands.moves x.lands.device in
    let m : HasMoved d 0 n old now k v g new.devices x.moved = moved.0 in
    let course : Course = course_of m.end 0 in
    let count : ℕ = length m.taken in
    let so_far : ℕ = g.moved + count in
    let left : ℕ = g.header.len - g.moved in
    let w : DeviceView = after_moving course g count v in
    let work : Work = work_of course so_far g.header.len t in
    let lands : Lands (input_frames p.loans.items) p.first p.len g.moved m.taken k.memory new.memory = record { only = x.lands.only; content = moved.1; pages = ap (λ (z : Kernel). z.memory.pages) x.only; objects = ap (λ (z : Kernel). z.memory.objects) x.only; slots = ap (λ (z : Kernel). z.memory.slots) x.only } in
    let sound : IsSound new.memory = lands_soundly k.memory new.memory p.first p.len g.moved (input_frames p.loans.items) m.taken good.sound lands in
    let memory : new.memory ≡ with_landed k.memory f.bytes f.landed = ap (λ (z : Kernel). z.memory) x.only ∙ only_landed k (input_frames p.loans.items) p.first p.len f x.lands.only in
    let transfers : new.transfers ≡ worked (has_number number) work k.transfers = x.works t q.input.found ∙ (λ i. worked (has_number number) (work_of (m.course i) (m.so_far i) (sym its.2 i) t) k.transfers) in
    let new_is : new ≡ record k { memory = with_landed k.memory f.bytes f.landed; devices = set k.devices d (Some w); transfers = worked (has_number number) work k.transfers } = x.only ∙ (λ i. record k { memory = (sym (ap (λ (z : Kernel). z.memory) x.only) ∙ memory) i; devices = m.devices_are i; transfers = transfers i }) in
    let reply_is : r ≡ body_reply m.end (0 + count) = x.reply_is ∙ replied x.moved m.end 0 count m.faulted m.bytes in
    let may = may_receive k d n accepted in
    let some : 0 < n = may.some in
    let over = ending_body m.end left n count (now.handle (handle_of v.config.input)).bytes m.takes.ends in
    let handle = handle_is k d v good there in
    let kind = early_kind v.config.kind early in
    let shows : (slots rests sents : ℕ → List ℕ) → ArePages k.memory.frames.page slots → ShowsLanded k t g.moved m.taken (bytes_over k.memory slots rests sents) (bytes_over new.memory slots rests sents) = law g.moved stored p new.memory m.taken planned lands in
    let page_has = good_page k good in
    let zero_bytes : List ℕ = replicate count 0 in
    let z : Bytes = zeros_with k.config.page d zero_bytes in
    let same : length zero_bytes ≡ count = length-replicate count 0 in
    let zero_steps = within_steps laws k z z d number n t v g zero_bytes [] good there is.fine kind early present none q.input q.moving stored receives (shows_zeros k d zero_bytes t g.moved count page_has (plan_of k d v t good q.early)) (zeros_rest k.config.page d zero_bytes ∙ sym (append_none zero_bytes))
    m.end over.ended (subst (λ j. EndsPayload m.end left n j over.ended) (sym same) over.so) (subst (λ j. j ≤ n) (sym same) m.takes.within) (subst (λ j. j ≤ left) (sym same) m.takes.fits) some (λ e. refl) in
    let zero_steps_so : Steps (state_of k z) (Recv d n) (state_of (received_kernel k d number w work) (with_rest d [] z)) (body_reply m.end (0 + count)) = subst (λ j. Steps (state_of k z) (Recv d n) (state_of (received_kernel k d number (after_moving course g j v) (work_of course (g.moved + j) g.header.len t)) (with_rest d [] z)) (body_reply m.end (0 + j))) same zero_steps in
    let orderly : IsOrderly (outline (received_kernel k d number w work)) = orderly_behind laws.orderly k (received_kernel k d number w work) d n (body_reply m.end (0 + count)) zero_bytes [] good accepted refl zero_steps_so in
    let k1 : Kernel = record k { memory = with_landed k.memory f.bytes f.landed } in
    let good1 : IsGood k1 = landed_good k f.bytes f.landed good (subst IsSound memory sound) in
    let itself : KeepsPayload v v = record { config = refl; limit = refl; buffers = refl; staged = refl; sent = refl } in
    let posted : ArePosted k.posted (worked (has_number number) work k.transfers) = laws.posted (has_number number) work t k.transfers k.posted q.input.found (ap is_posted q.moving) (unposted course so_far g.header.len t) good.posted in
    let still : course ≡ GoesOn → receiver (worked (has_number number) work k.transfers) d ≡ Some (at_work (work_on so_far t) t) = λ e. ap (λ c. receiver (worked (has_number number) (work_of c so_far g.header.len t) k.transfers) d) e ∙ receives_still laws k d number g.moved t m.taken q.input q.moving stored receives in
    record {
      good = subst IsGood (sym new_is) (input_good laws k1 d number v w t work k.posted good1 there early (moving_keeps course g count v v itself) q.input.found q.input.dev (ap is_queued q.moving) (unqueued course so_far g.header.len t) q.input.unbuffered (bufferless course so_far g.header.len t) posted
          (stored_now course g count g.header.len v t (receiver (worked (has_number number) work k.transfers) d) still) orderly);
      kept = kept_worked (has_number number) work k new good x.lands.only.owners transfers;
      config = ap (λ (y : Kernel). y.config) x.only;
      numbers = ap (λ (y : Kernel). y.next) x.only;
      memory = memory;
      landed = x.lands.most;
      taken = m.taken;
      ended = over.ended;
      only = subst (λ a. OnlyHandle a old now) (sym handle) m.takes.only;
      bytes = subst (λ a. Consumes (old.handle a).bytes (now.handle a).bytes m.taken) (sym handle) m.takes.bytes;
      at_end = subst (λ a. over.ended ≡ true → IsAtEnd (now.handle a).bytes) (sym handle) over.at_end;
      cause = subst (λ y. DeviceCause (mark_of y) (old.handle (input_of k.config d)).faults (now.handle (input_of k.config d)).faults) (sym reply_is)
          (subst (λ a. DeviceCause (mark_of (body_reply m.end (0 + count))) (old.handle a).faults (now.handle a).faults) (sym handle) (caused_body m.end (0 + count) (old.handle (handle_of v.config.input)).faults (now.handle (handle_of v.config.input)).faults m.takes.cause));
      steps = λ slots rests sents rest paged place behind.
          let b : Bytes = bytes_over k.memory slots rests sents in
          let c : Bytes = bytes_over new.memory slots rests sents in
          let real = within_steps laws k b c d number n t v g m.taken rest good there is.fine kind early present none q.input q.moving stored receives (shows slots rests sents paged) place m.end over.ended over.so m.takes.within m.takes.fits some behind in
          subst (λ y. Steps (state_of k b) (Recv d n) (state_of new (with_rest d rest c)) y) (sym reply_is)
          (subst (λ (y : Kernel). Steps (state_of k b) (Recv d n) (state_of y (with_rest d rest c)) (body_reply m.end (0 + count))) (sym new_is) real);
    }
