-- What a step leaves that gathers payload bytes.
use Rattle.std.proofs.Common.{◌≡◌, ℕ, ◌+◌, ◌-◌, ◌<◌, ◌≤◌, Bool, true, false, List, [], ◌++◌, refl, sym, ap, subst, ◌∙◌, ⊎_elim, length, set, append_assoc, inl, inr}
use Rattle.std.specs.Prelude.{Option, Some, None, find, ◌==◌, if◌then◌else◌}
use Rattle.std.specs.Io.KnownBytes.{Consumes, IsAtEnd}
use Rattle.genie_base.specs.Events.{mark_of}
use Rattle.genie_base.specs.Posted.{first}
use Rattle.genie_base.specs.declared.config.DeviceConfig.{DeviceConfig}
use Rattle.genie_base.specs.declared.config.Kind.TheVariants.{Outboard}
use Rattle.genie_base.specs.declared.event.Event.TheVariants.{Recv}
use Rattle.genie_base.specs.declared.reply.Mark.TheVariants as mark
use Rattle.genie_base.specs.declared.reply.Reply.{Reply}
use Rattle.genie_base.specs.declared.reply.Reply.TheVariants as reply
use Rattle.genie_demux.specs.Posted.{address, without, number_of as posted_number}
use Rattle.genie_device.specs.Buffers.{is_arrived}
use Rattle.genie_device.specs.Device.{DeviceView, buffer_of, finished, handle_of, left_of, moved_of}
use Rattle.genie_device.specs.Receiving.{EndsBody, BodyCause, TakesPayload}
use Rattle.genie_device.specs.declared.present.Present.{Present}
use Rattle.genie_device.specs.declared.steps.BodyEnd.{BodyEnd}
use Rattle.genie_device.specs.declared.steps.BodyEnd.TheVariants.{More, Whole, Truncated, Faulted}
use Rattle.genie_host.specs.Host.{HostView, OnlyHandle}
use Rattle.genie_host.specs.OnlyHandle.{only_trans}
use Rattle.genie_orderly.specs.Orderly.{IsOrderly}
use Rattle.genie_model.specs.Pending.{is_queued, is_moving}
use Rattle.genie_model.specs.Refusing.{refuse}
use Rattle.genie_model.specs.State as flat
use Rattle.genie_model.specs.Tables.{entry}
use Rattle.genie_model.specs.Lemmas.Lists.{entry_same}
use Rattle.genie_kernel.specs.declared.kernel.Kernel.{Kernel}
use Rattle.genie_kernel.specs.declared.transfer.Transfer.{Transfer}
use Rattle.genie_kernel.specs.Calls.{has_number}
use Rattle.genie_kernel.specs.Good.{IsGood}
use Rattle.genie_kernel.specs.Kept.{Kept}
use Rattle.genie_kernel.specs.Steps.{Steps, DeviceCause, bytes_over}
use Rattle.genie_kernel.specs.View.{Bytes, state_of, outline}
use Rattle.genie_changes.specs.Working.{worked}
use Rattle.genie_gathering.specs.Delivering.{Delivers, DeliversTo, ready_with, released}
use Rattle.genie_gathering.specs.Devices.{with_device, with_rest}
use Rattle.genie_gathering.specs.Gathering.{GathersPayload, EndsStep}
use Rattle.genie_gathering.specs.Laws.{GatheringLaws}
use Rattle.genie_gathering.specs.Payload.{MovesPayload, course_of, is_faulted}
use Rattle.genie_gathering.specs.Receiving.{Receives, MayBeLeft, input_of}
use Rattle.genie_gathering.specs.declared.payload.Course.{Course}
use Rattle.genie_gathering.specs.declared.payload.Course.TheVariants.{GoesOn, Ends, IsTruncated}
use Rattle.genie_gathering.specs.declared.payload.Moved.{Moved}
use Rattle.genie_gathering.proofs.Buffers.{Fills, keeps_waiting, waits_alike, filled_device, arrived_device, dropped_device, filled_is, finished_is, there_is, filled_touches, arrived_touches, dropped_touches, filled_state, arrived_state, dropped_state}
use Rattle.genie_gathering.proofs.Bytes.{append_none}
use Rattle.genie_gathering.proofs.Gathered.{EndsPayload, IsMet, Meets, all_size, flat_device, gathering_datagram, over_reply, final, plain_reply}
use Rattle.genie_gathering.proofs.Good.{device_good, delivered_good}
use Rattle.genie_gathering.proofs.Header.{handle_is}
use Rattle.genie_gathering.proofs.Kept.{kept_alone, kept_worked}
use Rattle.genie_gathering.proofs.Marking.{zeros_with, zeros_rest, orderly_behind}
use Rattle.genie_gathering.proofs.Steps.{MovesOn, step_reply, gathered_steps, plain_mark}
use Rattle.genie_gathering.proofs.Views.{set_again}

-- how a step of a payload ended over a host
record EndingBody (end : BodyEnd) (left n moved : ℕ) (told : Option (List ℕ)) : Type 0 where
  pub ended : Bool
  pub so : EndsPayload end left n moved ended
  pub at_end : ended ≡ true → IsAtEnd told

ending_body : (end : BodyEnd) (left n moved : ℕ) (told : Option (List ℕ)) → EndsBody end left n moved told → EndingBody end left n moved told
ending_body More left n moved told h = ⊎_elim
    (λ (all : moved ≡ n). record { ended = false; so = (h.0, inl all); at_end = λ e. absurd (cc) })
    (λ (at : (0 < moved) × IsAtEnd told). record { ended = true; so = (h.0, inr (at.0, refl)); at_end = λ e. at.1 })
    h.1
ending_body Whole left n moved told h = record { ended = false; so = h; at_end = λ e. absurd (cc) }
ending_body Truncated left n moved told h = record { ended = true; so = (h.0, h.1, h.2, refl); at_end = λ e. h.3 }
ending_body Faulted left n moved told h = record { ended = false; so = h; at_end = λ e. absurd (cc) }

-- a header and payload bytes that were taken one after the other
consumes_more : (a b c : Option (List ℕ)) (xs ys : List ℕ) → Consumes a b xs → Consumes b c ys → Consumes a c (xs ++ ys)
consumes_more None b c xs ys h g = tt
consumes_more (Some x) None c xs ys h g = absurd h
consumes_more (Some x) (Some y) None xs ys h g = absurd g
consumes_more (Some x) (Some y) (Some z) xs ys h g = h ∙ ap (λ l. xs ++ l) g ∙ sym (append_assoc xs ys z)

same_number : (a e : ℕ) → Some a ≡ Some e → a ≡ e
same_number a e s = cc

same_device : (a e : DeviceView) → Some a ≡ Some e → a ≡ e
same_device a e s = cc

-- device v of a good kernel is v1 once its header is gathered, and has the datagram g
module _ (laws : GatheringLaws) (k : Kernel) (d h n buffer : ℕ) (v v1 : DeviceView) (g : Present) (held : List ℕ) (good : IsGood k) (there : entry k.devices d ≡ Some v) (f : Fills buffer held v v1 g) (o : Option ℕ) (m : Meets k d o) (met : posted_number (first address d g.header.port g.header.flow k.posted) ≡ o) where
  abbrev none : Bytes
  none = zeros_with k.config.page d []

  abbrev off_kernel : List ℕ → Kernel
  off_kernel bytes = with_device k d (dropped_device buffer (held ++ bytes) v1)

  abbrev over_kernel : Bool → List ℕ → (i : ℕ) → IsMet k d i → Kernel
  over_kernel truncated bytes i x = record k { devices = set k.devices d (Some (arrived_device buffer (held ++ bytes) v1)); transfers = worked (has_number i) (ready_with buffer (g.moved + length bytes) truncated g.header.len x.transfer) k.transfers; posted = without i k.posted }

  -- what a step leaves that ended so, with these bytes moved
  abbrev ended_kernel : Bool → List ℕ → (q : Option ℕ) → Meets k d q → Kernel
  ended_kernel truncated bytes None x = off_kernel bytes
  ended_kernel truncated bytes (Some i) x = over_kernel truncated bytes i x

  abbrev pub left_kernel : Course → List ℕ → (q : Option ℕ) → Meets k d q → Kernel
  left_kernel GoesOn bytes q x = with_device k d (filled_device buffer (held ++ bytes) g (length bytes) v1)
  left_kernel Ends bytes q x = ended_kernel false bytes q x
  left_kernel IsTruncated bytes q x = ended_kernel true bytes q x

  abbrev ended_reply : Option ℕ → ℕ → Reply
  ended_reply None j = reply.Dropped g.header.port g.header.flow g.header.len
  ended_reply (Some i) j = reply.Got j

  abbrev pub left_reply : BodyEnd → Course → List ℕ → Reply
  left_reply end GoesOn bytes = step_reply (is_faulted end) (h + length bytes) (reply.Got (h + length bytes))
  left_reply end Ends bytes = ended_reply o (h + length bytes)
  left_reply end IsTruncated bytes = ended_reply o 0

  final_is : (b : Bytes) (bytes rest : List ℕ) (c : Course) (q : Option ℕ) (x : Meets k d q) → final laws k b d h buffer v v1 g held bytes rest good there f c q x ≡ left_kernel c bytes q x
  final_is b bytes rest GoesOn q x = refl
  final_is b bytes rest Ends None x = refl
  final_is b bytes rest Ends (Some i) x = refl
  final_is b bytes rest IsTruncated None x = refl
  final_is b bytes rest IsTruncated (Some i) x = refl

  ended_reply_is : (b : Bytes) (bytes rest : List ℕ) (q : Option ℕ) (j : ℕ) → over_reply laws k b d h buffer v v1 g held bytes rest good there f q j ≡ ended_reply q j
  ended_reply_is b bytes rest None j = refl
  ended_reply_is b bytes rest (Some i) j = refl

  reply_is : (b : Bytes) (bytes rest : List ℕ) (end : BodyEnd) → step_reply (is_faulted end) (h + length bytes) (plain_reply laws k b d h buffer v v1 g held bytes rest good there f (course_of end h) o) ≡ left_reply end (course_of end h) bytes
  reply_is b bytes rest More = refl
  reply_is b bytes rest Faulted = refl
  reply_is b bytes rest Whole = ended_reply_is b bytes rest o (h + length bytes)
  reply_is b bytes rest Truncated = by (h == 0)
    where
      by : (z : Bool) → plain_reply laws k b d h buffer v v1 g held bytes rest good there f (if z then IsTruncated else GoesOn) o ≡ left_reply Truncated (if z then IsTruncated else GoesOn) bytes
      by true = ended_reply_is b bytes rest o 0
      by false = refl

  -- the kernel is good there
  left_good : (c : Course) (bytes : List ℕ) (q : Option ℕ) (x : Meets k d q) → v1.config.kind ≡ Outboard → IsOrderly (outline (left_kernel c bytes q x)) → IsGood (left_kernel c bytes q x)
  left_good c bytes q x kind orderly = by c q x orderly
    where
      before : v.config.kind ≡ Outboard
      before = sym (ap (λ (z : DeviceConfig). z.kind) f.touches.config) ∙ f.kind

      over : (truncated : Bool) (i : ℕ) (y : IsMet k d i) → IsOrderly (outline (over_kernel truncated bytes i y)) → IsGood (over_kernel truncated bytes i y)
      over truncated i y h2 =
          let t : Transfer = y.transfer in
          delivered_good laws k d i buffer (g.moved + length bytes) g.header.len truncated v (arrived_device buffer (held ++ bytes) v1) t (held ++ bytes) (without i k.posted) good there before
          (arrived_touches buffer held bytes v v1 g f) (arrived_state buffer held bytes v v1 g f) (all_size laws k none d h buffer v v1 g held bytes [] good there f) refl
          y.found y.dev y.inward (ap is_queued y.posted) (ap is_moving y.posted) y.unbuffered
          (laws.taken i (ready_with buffer (g.moved + length bytes) truncated g.header.len t) k.transfers k.posted (laws.rise k good).order refl good.posted) h2

      off : IsOrderly (outline (off_kernel bytes)) → IsGood (off_kernel bytes)
      off h2 =
          let touches = dropped_touches buffer held bytes v v1 g f in
          device_good k d v (dropped_device buffer (held ++ bytes) v1) good there before (keeps_waiting buffer v (dropped_device buffer (held ++ bytes) v1) touches)
          (waits_alike buffer v (dropped_device buffer (held ++ bytes) v1) touches (ap is_arrived (dropped_state buffer held bytes v v1 g f))) h2

      by : (a : Course) (p : Option ℕ) (y : Meets k d p) → IsOrderly (outline (left_kernel a bytes p y)) → IsGood (left_kernel a bytes p y)
      by GoesOn p y h2 =
          let touches = filled_touches buffer held bytes v v1 g f in
          device_good k d v (filled_device buffer (held ++ bytes) g (length bytes) v1) good there before (keeps_waiting buffer v (filled_device buffer (held ++ bytes) g (length bytes) v1) touches)
          (waits_alike buffer v (filled_device buffer (held ++ bytes) g (length bytes) v1) touches (ap is_arrived (filled_state buffer held bytes v v1 g f))) h2
      by Ends None y h2 = off h2
      by Ends (Some i) y h2 = over false i y h2
      by IsTruncated None y h2 = off h2
      by IsTruncated (Some i) y h2 = over true i y h2

  -- and no frame is freed
  left_kept : (c : Course) (bytes : List ℕ) (q : Option ℕ) (x : Meets k d q) → Kept k (left_kernel c bytes q x)
  left_kept GoesOn bytes q x = kept_alone k (left_kernel GoesOn bytes q x) good refl refl
  left_kept Ends bytes None x = kept_alone k (off_kernel bytes) good refl refl
  left_kept Ends bytes (Some i) x = kept_worked (has_number i) (ready_with buffer (g.moved + length bytes) false g.header.len x.transfer) k (over_kernel false bytes i x) good refl refl
  left_kept IsTruncated bytes None x = kept_alone k (off_kernel bytes) good refl refl
  left_kept IsTruncated bytes (Some i) x = kept_worked (has_number i) (ready_with buffer (g.moved + length bytes) true g.header.len x.transfer) k (over_kernel true bytes i x) good refl refl

  same_config : (c : Course) (bytes : List ℕ) (q : Option ℕ) (x : Meets k d q) → (left_kernel c bytes q x).config ≡ k.config
  same_config GoesOn bytes q x = refl
  same_config Ends bytes None x = refl
  same_config Ends bytes (Some i) x = refl
  same_config IsTruncated bytes None x = refl
  same_config IsTruncated bytes (Some i) x = refl

  same_next : (c : Course) (bytes : List ℕ) (q : Option ℕ) (x : Meets k d q) → (left_kernel c bytes q x).next ≡ k.next
  same_next GoesOn bytes q x = refl
  same_next Ends bytes None x = refl
  same_next Ends bytes (Some i) x = refl
  same_next IsTruncated bytes None x = refl
  same_next IsTruncated bytes (Some i) x = refl

  same_memory : (c : Course) (bytes : List ℕ) (q : Option ℕ) (x : Meets k d q) → (left_kernel c bytes q x).memory ≡ k.memory
  same_memory GoesOn bytes q x = refl
  same_memory Ends bytes None x = refl
  same_memory Ends bytes (Some i) x = refl
  same_memory IsTruncated bytes None x = refl
  same_memory IsTruncated bytes (Some i) x = refl

  -- what the calls have left is this
  module _ (mid new : Kernel) (bytes : List ℕ) (moved : Moved) (devices : List (Option DeviceView)) (r : Reply) (end : BodyEnd) (mid_is : mid ≡ with_device k d v1) (now : devices ≡ set k.devices d (Some (filled_device buffer (held ++ bytes) g (length bytes) v1))) (course : moved.course ≡ course_of end h) (so_far : moved.so_far ≡ g.moved + length bytes) (count : moved.bytes ≡ length bytes) (faulted : moved.faulted ≡ is_faulted end) where
    abbrev behind : Kernel
    behind = record mid { devices = devices }

    behind_is : behind ≡ with_device k d (filled_device buffer (held ++ bytes) g (length bytes) v1)
    behind_is = λ i. record (mid_is i) { devices = now i }

    delivered_is : (truncated : Bool) (j : ℕ) → Delivers d g.header moved.so_far truncated j behind new r → (new ≡ ended_kernel truncated bytes o m) × (r ≡ ended_reply o j)
    delivered_is truncated j x =
        let w : DeviceView = filled_device buffer (held ++ bytes) g (length bytes) v1 in
        let here : entry behind.devices d ≡ Some w = ap (λ ds. entry ds d) now ∙ entry_same k.devices d v (Some w) there in
        let device : x.device ≡ w = same_device x.device w (sym x.there ∙ here) in
        let place : x.buffer ≡ buffer = same_number x.buffer buffer (sym x.place ∙ ap (λ (z : DeviceView). buffer_of z.present) device ∙ f.place) in
        let over : finished x.device ≡ arrived_device buffer (held ++ bytes) v1 = ap finished device ∙ finished_is buffer (held ++ bytes) (length bytes) v1 g f.place (there_is buffer held v v1 g f) in
        let posted : behind.posted ≡ k.posted = ap (λ (z : Kernel). z.posted) behind_is in
        let transfers : behind.transfers ≡ k.transfers = ap (λ (z : Kernel). z.transfers) behind_is in
        let all : DeliversTo o d g.header moved.so_far truncated j x.device x.buffer behind new r = subst (λ q. DeliversTo q d g.header moved.so_far truncated j x.device x.buffer behind new r) (ap (λ ps. posted_number (first address d g.header.port g.header.flow ps)) posted ∙ met) x.delivers in
        by o m x.device x.buffer all device place over transfers posted
      where
        by : (q : Option ℕ) (y : Meets k d q) (dv : DeviceView) (bf : ℕ) → DeliversTo q d g.header moved.so_far truncated j dv bf behind new r → dv ≡ filled_device buffer (held ++ bytes) g (length bytes) v1 → bf ≡ buffer → finished dv ≡ arrived_device buffer (held ++ bytes) v1 → behind.transfers ≡ k.transfers → behind.posted ≡ k.posted → (new ≡ ended_kernel truncated bytes q y) × (r ≡ ended_reply q j)
        by None y dv bf z device place over transfers posted =
            let w : released bf (finished dv) ≡ dropped_device buffer (held ++ bytes) v1 = λ i. released (place i) (over i) in
            let ds : set behind.devices d (Some (released bf (finished dv))) ≡ set k.devices d (Some (dropped_device buffer (held ++ bytes) v1)) = (λ i. set (now i) d (Some (w i))) ∙ set_again k.devices d (Some (filled_device buffer (held ++ bytes) g (length bytes) v1)) (Some (dropped_device buffer (held ++ bytes) v1)) in
            (z.0 ∙ (λ i. record (behind_is i) { devices = ds i }), z.1)
        by (Some q) y dv bf z device place over transfers posted =
            let ds : set behind.devices d (Some (finished dv)) ≡ set k.devices d (Some (arrived_device buffer (held ++ bytes) v1)) = (λ i. set (now i) d (Some (over i))) ∙ set_again k.devices d (Some (filled_device buffer (held ++ bytes) g (length bytes) v1)) (Some (arrived_device buffer (held ++ bytes) v1)) in
            let found : find (has_number q) behind.transfers ≡ Some y.transfer = ap (find (has_number q)) transfers ∙ y.found in
            (z.0 y.transfer found ∙ (λ i. record (behind_is i) { devices = ds i; transfers = worked (has_number q) (ready_with (place i) (so_far i) truncated g.header.len y.transfer) (transfers i); posted = without q (posted i) }), z.1)

    ends_is : (e : BodyEnd) (c : Course) → c ≡ course_of e h → moved.faulted ≡ is_faulted e → EndsStep c d g.header h moved behind new r → (new ≡ left_kernel c bytes o m) × (r ≡ left_reply e c bytes)
    ends_is e GoesOn ce fe x = (x.0 ∙ behind_is, x.1 ∙ (λ i. if fe i then reply.Fault (h + count i) else reply.Got (h + count i)))
    ends_is e Ends ce fe x = let y = delivered_is false (h + moved.bytes) x in (y.0, y.1 ∙ ap (λ j. ended_reply o (h + j)) count)
    ends_is e IsTruncated ce fe x = delivered_is true 0 x

    pub step_is : EndsStep moved.course d g.header h moved behind new r → (new ≡ left_kernel (course_of end h) bytes o m) × (r ≡ left_reply end (course_of end h) bytes)
    step_is x = ends_is end (course_of end h) refl faulted (subst (λ c. EndsStep c d g.header h moved behind new r) course x)

caused_body : (end : BodyEnd) (c : Course) (before now m : ℕ) (plain : Course → Reply) → ((a : Course) → mark_of (plain a) ≡ mark.NoFault) → BodyCause end before now → DeviceCause (mark_of (step_reply (is_faulted end) m (plain c))) before now
caused_body More c before now m plain marks cause = subst (λ x. DeviceCause x before now) (sym (marks c)) cause
caused_body Whole c before now m plain marks cause = subst (λ x. DeviceCause x before now) (sym (marks c)) cause
caused_body Truncated c before now m plain marks cause = subst (λ x. DeviceCause x before now) (sym (marks c)) cause
caused_body Faulted c before now m plain marks cause = cause

-- the whole of a step that moves payload bytes, behind the bytes `front` of the header
pub payload_receives : (laws : GatheringLaws) (k mid new : Kernel) (d n h buffer : ℕ) (v v1 : DeviceView) (g : Present) (held front : List ℕ) (old middle now : HostView) (r : Reply) (good : IsGood k) → refuse (outline k) (Recv d n) ≡ None → (there : entry k.devices d ≡ Some v) (f : Fills buffer held v v1 g)
    → (o : Option ℕ) (m : Meets k d o) → posted_number (first address d g.header.port g.header.flow k.posted) ≡ o → h ≤ n → 0 < n → length front ≡ h → g.moved ≤ g.header.len → 0 < h + (g.header.len - g.moved) → v1.config.input ≡ v.config.input
    → OnlyHandle (handle_of v.config.input) old middle → Consumes (old.handle (handle_of v.config.input)).bytes (middle.handle (handle_of v.config.input)).bytes front → (middle.handle (handle_of v.config.input)).faults ≡ (old.handle (handle_of v.config.input)).faults
    → mid ≡ with_device k d v1 → GathersPayload d g.header h (n - h) middle now mid new r
    → ((b : Bytes) (bytes rest : List ℕ) → b.rests d ≡ front ++ (bytes ++ rest) → (y : Option flat.Datagram) × MovesOn (state_of k b) d h (g.header.len - g.moved) (flat_device v1 rest (b.sents d) y) (gathering_datagram g.header (g.moved + length bytes) (held ++ bytes)) bytes rest)
    → ((b : Bytes) (bytes rest : List ℕ) → b.rests d ≡ front ++ (bytes ++ rest) → (h + length bytes == 0) ≡ true → state_of (with_device k d (filled_device buffer (held ++ bytes) g (length bytes) v1)) (with_rest d rest b) ≡ state_of k b)
    → Receives d n old now k new r
payload_receives laws k mid new d n h buffer v v1 g held front old middle now r good accepted there f o m met within some size fits more input only consumes faults mid_is x moves unmoved =
    let mid_there : entry mid.devices d ≡ Some v1 = ap (λ (z : Kernel). entry z.devices d) mid_is ∙ entry_same k.devices d v (Some v1) there in
    let before_is : x.moves.before ≡ v1 = same_device x.moves.before v1 (sym x.moves.there ∙ mid_there) in
    let p : MovesPayload h (n - h) middle now v1 x.moves.after x.moved = subst (λ u. MovesPayload h (n - h) middle now u x.moves.after x.moved) before_is x.moves.moves in
    let bytes : List ℕ = p.taken in
    let w : DeviceView = filled_device buffer (held ++ bytes) g (length bytes) v1 in
    let after_is : x.moves.after ≡ w = p.device ∙ filled_is buffer held bytes v v1 g f in
    let now_is : x.devices ≡ set k.devices d (Some w) = x.moves.only ∙ (λ i. set (mid_is i).devices d (Some (after_is i))) ∙ set_again k.devices d (Some v1) (Some w) in
    let so_far : x.moved.so_far ≡ g.moved + length bytes = p.so_far ∙ ap (λ (z : DeviceView). moved_of z.present) after_is in
    let c : Course = course_of p.end h in
    let is = step_is laws k d h n buffer v v1 g held good there f o m met mid new bytes x.moved x.devices r p.end mid_is now_is p.course so_far (sym p.takes.size) p.faulted x.ends in
    let left : ℕ = g.header.len - g.moved in
    let same_handle : handle_of v1.config.input ≡ handle_of v.config.input = ap handle_of input in
    let takes : TakesPayload (handle_of v.config.input) (g.header.len - g.moved) (n - h) middle now bytes (length bytes) p.end =
    subst (λ j. TakesPayload (handle_of v.config.input) (g.header.len - g.moved) (n - h) middle now bytes j p.end) (sym p.takes.size)
    (subst (λ l. TakesPayload (handle_of v.config.input) l (n - h) middle now bytes x.moved.bytes p.end) (ap left_of f.present)
    (subst (λ a. TakesPayload a (left_of v1.present) (n - h) middle now bytes x.moved.bytes p.end) same_handle p.takes)) in
    let over = ending_body p.end left (n - h) (length bytes) (now.handle (handle_of v.config.input)).bytes takes.ends in
    let handle = handle_is k d v good there in
    let stepped : (b : Bytes) (rest : List ℕ) → b.rests d ≡ front ++ (bytes ++ rest) → MayBeLeft over.ended rest → Steps (state_of k b) (Recv d n) (state_of new (with_rest d rest b)) r = λ b rest place may.
    let mv = moves b bytes rest place in
    let steps = gathered_steps laws k b d h n buffer v v1 g held bytes rest good there f mv.0 o m met within mv.1 fits more some (unmoved b bytes rest place) p.end over.ended over.so takes.within takes.fits may in
    subst (λ (z : Kernel). Steps (state_of k b) (Recv d n) (state_of z (with_rest d rest b)) r) (final_is laws k d h n buffer v v1 g held good there f o m met b bytes rest c o m ∙ sym is.0)
    (subst (λ y. Steps (state_of k b) (Recv d n) (state_of (final laws k b d h buffer v v1 g held bytes rest good there f c o m) (with_rest d rest b)) y) (reply_is laws k d h n buffer v v1 g held good there f o m met b bytes rest p.end ∙ sym is.1) steps) in
    let all : List ℕ = front ++ bytes in
    let zero_rest : (zeros_with k.config.page d all).rests d ≡ front ++ (bytes ++ []) = zeros_rest k.config.page d all ∙ ap (λ l. front ++ l) (sym (append_none bytes)) in
    let config : new.config ≡ k.config = ap (λ (z : Kernel). z.config) is.0 ∙ same_config laws k d h n buffer v v1 g held good there f o m met c bytes o m in
    let orderly : IsOrderly (outline new) = orderly_behind laws.orderly k new d n r all [] good accepted config (stepped (zeros_with k.config.page d all) [] zero_rest (λ e. refl)) in
    record {
      good = subst IsGood (sym is.0) (left_good laws k d h n buffer v v1 g held good there f o m met c bytes o m f.kind (subst (λ (z : Kernel). IsOrderly (outline z)) is.0 orderly));
      kept = subst (Kept k) (sym is.0) (left_kept laws k d h n buffer v v1 g held good there f o m met c bytes o m);
      config = config;
      numbers = ap (λ (z : Kernel). z.next) is.0 ∙ same_next laws k d h n buffer v v1 g held good there f o m met c bytes o m;
      memory = ap (λ (z : Kernel). z.memory) is.0 ∙ same_memory laws k d h n buffer v v1 g held good there f o m met c bytes o m;
      taken = all;
      ended = over.ended;
      only = subst (λ a. OnlyHandle a old now) (sym handle) (only_trans (handle_of v.config.input) old middle now only takes.only);
      bytes = subst (λ a. Consumes (old.handle a).bytes (now.handle a).bytes all) (sym handle) (consumes_more (old.handle (handle_of v.config.input)).bytes (middle.handle (handle_of v.config.input)).bytes (now.handle (handle_of v.config.input)).bytes front bytes consumes takes.bytes);
      at_end = subst (λ a. over.ended ≡ true → IsAtEnd (now.handle a).bytes) (sym handle) over.at_end;
      cause = subst (λ y. DeviceCause (mark_of y) (old.handle (input_of k.config d)).faults (now.handle (input_of k.config d)).faults) (reply_is laws k d h n buffer v v1 g held good there f o m met (zeros_with k.config.page d all) bytes [] p.end ∙ sym is.1)
          (subst (λ a. DeviceCause (mark_of (step_reply (is_faulted p.end) (h + length bytes) (plain_reply laws k (zeros_with k.config.page d all) d h buffer v v1 g held bytes [] good there f c o))) (old.handle a).faults (now.handle a).faults) (sym handle)
          (caused_body p.end c (old.handle (handle_of v.config.input)).faults (now.handle (handle_of v.config.input)).faults (h + length bytes) (λ a. plain_reply laws k (zeros_with k.config.page d all) d h buffer v v1 g held bytes [] good there f a o) (λ a. plain_mark laws k (zeros_with k.config.page d all) d h buffer v v1 g held bytes [] good there f a o)
          (subst (λ y. BodyCause p.end y (now.handle (handle_of v.config.input)).faults) faults takes.cause)));
      steps = λ slots rests sents rest place may.
          subst (λ z. Steps (state_of k (bytes_over k.memory slots rests sents)) (Recv d n) (state_of new (with_rest d rest (bytes_over z slots rests sents))) r) (sym (ap (λ (z : Kernel). z.memory) is.0 ∙ same_memory laws k d h n buffer v v1 g held good there f o m met c bytes o m))
          (stepped (bytes_over k.memory slots rests sents) rest (place ∙ append_assoc front bytes rest) may);
    }
