-- What a step leaves with whose header an input begins to receive.
use Rattle.std.proofs.Common.{◌≡◌, ℕ, ◌+◌, ◌-◌, ◌<◌, ◌≤◌, zero, suc, Bool, true, false, List, [], ◌∷◌, ◌++◌, refl, sym, ap, subst, arith, ◌∙◌, length, set, append_assoc, eq-eqb}
use Rattle.std.specs.Prelude.{Option, Some, None, find, replicate, nat_le, ◌==◌, ◌&&◌, not}
use Rattle.std.specs.Io.KnownBytes.{Consumes, IsAtEnd}
use Rattle.std.proofs.lemmas.List.{length-replicate}
use Rattle.genie_base.specs.Bytes.{overlaid}
use Rattle.genie_base.specs.Configs.{most}
use Rattle.genie_base.specs.Events.{mark_of}
use Rattle.genie_base.specs.Headers.{is_valid_header, is_whole_header, port_in, flow_in}
use Rattle.genie_base.specs.Posted.{first}
use Rattle.genie_base.specs.declared.config.Kind.{Kind}
use Rattle.genie_base.specs.declared.config.Kind.TheVariants.{Early, Pooled, Outboard}
use Rattle.genie_base.specs.declared.event.Event.TheVariants.{Recv}
use Rattle.genie_base.specs.declared.reply.Reply.{Reply}
use Rattle.genie_demux.specs.Posted.{address, without, number_of as posted_number}
use Rattle.genie_device.specs.Buffers.{begun, first_free, arrived_count}
use Rattle.genie_device.specs.Device.{DeviceView, after_header, handle_of, is_full, is_outboard as outboard}
use Rattle.genie_device.specs.Receiving.{BodyCause}
use Rattle.genie_device.specs.declared.present.Present.{Present}
use Rattle.genie_device.specs.declared.steps.BodyEnd.{BodyEnd}
use Rattle.genie_device.specs.declared.steps.HeaderEnd.TheVariants.{Whole}
use Rattle.genie_frame.specs.FrameTable.{FrameTable}
use Rattle.genie_host.specs.Host.{HostView, OnlyHandle}
use Rattle.genie_host.specs.OnlyHandle.{only_trans}
use Rattle.genie_object.specs.declared.memory.Memory.{Memory}
use Rattle.genie_object.specs.Sound.{IsSound}
use Rattle.genie_orderly.specs.Orderly.{IsOrderly}
use Rattle.genie_plan.specs.declared.plan.InPlan.{InPlan}
use Rattle.genie_plan.specs.Landings.{Lands}
use Rattle.genie_plan.specs.Plans.{OnlyRange, input_frames, range_bytes}
use Rattle.genie_plan.specs.Lemmas.Landings.{lands_soundly}
use Rattle.genie_wire.specs.Headers.{IsWhole, header_in}
use Rattle.genie_wire.specs.declared.header.Header.{Header}
use Rattle.genie_model.specs.Pending.{is_early, is_queued, arrived, first_posted}
use Rattle.genie_model.specs.Receiving.{is_between_records}
use Rattle.genie_model.specs.Refusing.{refuse}
use Rattle.genie_model.specs.Tables.{entry}
use Rattle.genie_model.specs.Lemmas.Lists.{entry_same}
use Rattle.genie_model.specs.State as flat
use Rattle.genie_kernel.specs.declared.kernel.Kernel.{Kernel}
use Rattle.genie_kernel.specs.declared.transfer.Loans.TheVariants as loans
use Rattle.genie_kernel.specs.declared.transfer.Transfer.{Transfer}
use Rattle.genie_kernel.specs.Calls.{has_number, receiver, receives_from}
use Rattle.genie_kernel.specs.Devices.{device_view}
use Rattle.genie_kernel.specs.Good.{IsGood}
use Rattle.genie_kernel.specs.Matching.{ArePosted}
use Rattle.genie_kernel.specs.Steps.{Steps, DeviceCause, bytes_over}
use Rattle.genie_kernel.specs.View.{Bytes, state_of, outline}
use Rattle.genie_changes.specs.Working.{Work, at_work, worked}
use Rattle.genie_receiving.specs.Course.{course_of}
use Rattle.genie_receiving.specs.declared.course.Course.{Course}
use Rattle.genie_receiving.specs.declared.course.Course.TheVariants.{GoesOn}
use Rattle.genie_receiving.specs.Devices.{with_rest, KeepsPayload}
use Rattle.genie_receiving.specs.Early.{IsOutside, IsOutsideAt}
use Rattle.genie_receiving.specs.Gathering.{IsBetween, GathersHeader}
use Rattle.genie_receiving.specs.Landing.{ReceivesInto, work_of}
use Rattle.genie_receiving.specs.Laws.{ReceiveLaws}
use Rattle.genie_receiving.specs.Payload.{MovesPayload}
use Rattle.genie_receiving.specs.Receiving.{Receives, input_of, with_landed}
use Rattle.genie_receiving.proofs.Begun.{begun_steps, begun_kernel, beginning, work_begun}
use Rattle.genie_receiving.specs.Lemmas.Bytes.{append_none}
use Rattle.genie_receiving.specs.Lemmas.Flat.{whole_true}
use Rattle.genie_receiving.specs.Lemmas.Gathered.{IsFree, early_kind, first_met, handle_is, judged_whole}
use Rattle.genie_receiving.specs.Lemmas.Good.{configured, input_good, landed_good, none_received}
use Rattle.genie_receiving.specs.Lemmas.Inputs.{is_met}
use Rattle.genie_receiving.specs.Lemmas.Kept.{kept_worked}
use Rattle.genie_receiving.specs.Lemmas.Landed.{HasMoved, LandingsShow, bufferless, caused_body, ending_body, good_page, has_moved, only_landed, replied, stored_now, unposted, unqueued}
use Rattle.genie_receiving.specs.Lemmas.Marking.{zeros_with, zeros_rest, orderly_behind}
use Rattle.genie_receiving.specs.Lemmas.Matched.{EndsPayload, after_moving, moving_keeps, received_kernel}
use Rattle.genie_receiving.specs.Lemmas.Payloads.{ShowsLanded, work_on}
use Rattle.genie_receiving.specs.Lemmas.Ready.{HasRange, plan_of}
use Rattle.genie_receiving.specs.Lemmas.Views.{found_now}
use Rattle.genie_receiving.specs.Lemmas.Within.{body_reply}
use Rattle.genie_receiving.specs.Lemmas.Zeros.{shows_zeros}

never_busy : (a e c : Bool) → e ≡ true → (a && not e && c) ≡ false
never_busy true true c h = refl
never_busy true false c h = absurd (cc)
never_busy false e c h = refl

-- an early device is never busy
pub early_free : (k : Kernel) (d : ℕ) (v : DeviceView) → is_early v.config.kind ≡ true → IsFree k d v
early_free k d v early b rest =
    let x : flat.Device = device_view b.seen.kept_bytes rest (b.sents d) (entry k.pools d) (receiver k.transfers d) v in
    never_busy (is_between_records x) (is_early v.config.kind) (arrived (state_of k b) d == v.config.depth) early

-- a header that was taken in two parts
consumes_more : (a b c : Option (List ℕ)) (xs ys : List ℕ) → Consumes a b xs → Consumes b c ys → Consumes a c (xs ++ ys)
consumes_more None b c xs ys h g = tt
consumes_more (Some x) None c xs ys h g = absurd h
consumes_more (Some x) (Some y) None xs ys h g = absurd g
consumes_more (Some x) (Some y) (Some z) xs ys h g = h ∙ ap (λ l. xs ++ l) g ∙ sym (append_assoc xs ys z)

pub set_again : {X : Type 0} (xs : List (Option X)) (d : ℕ) (x y : Option X) → set (set xs d x) d y ≡ set xs d y
set_again [] d x y = refl
set_again (z ∷ xs) zero x y = refl
set_again (z ∷ xs) (suc d) x y = ap (λ l. z ∷ l) (set_again xs d x y)

-- the device that has begun the datagram, and has no buffers
pub begun_device : (h : Header) (bytes : List ℕ) (v : DeviceView) → v.buffers ≡ [] → after_header (Whole h) bytes v ≡ beginning h v
begun_device h bytes v none =
    (λ i. record v { gathered = []; present = Some (record { header = h; moved = 0; buffer = first_free (none i) }); buffers = begun (first_free (none i)) (none i) })
    ∙ (λ i. record v { gathered = []; present = Some (record { header = h; moved = 0; buffer = None }); buffers = sym none i })

some_taken : (gathered taken : List ℕ) → is_whole_header gathered ≡ false → IsWhole (gathered ++ taken) → 0 < length taken
some_taken gathered [] short whole = let is : is_whole_header gathered ≡ true = whole_true gathered (subst IsWhole (append_none gathered) whole) in let clash : false ≡ true = sym short ∙ is in absurd (cc)
some_taken gathered (x ∷ taken) short whole = omega arith

pub early_kept : (kind : Kind) → is_early kind ≡ true → outboard kind ≡ false
early_kept Early e = refl
early_kept Pooled e = absurd (cc)
early_kept Outboard e = absurd (cc)

pub not_full : (v : DeviceView) → is_early v.config.kind ≡ true → is_full v ≡ false
not_full v e = ap (λ b. b && nat_le v.config.depth (arrived_count v.buffers)) (early_kept v.config.kind e)

cause_behind : (end : BodyEnd) (m before mid now : ℕ) → mid ≡ before → BodyCause end mid now → DeviceCause (mark_of (body_reply end m)) before now
cause_behind end m before mid now same h = caused_body end m before now (subst (λ x. BodyCause end x now) same h)

-- the header of a kernel's early device is whole, and input n receives the record
pub matching_receives : ReceiveLaws → (k mid new : Kernel) (d n number moved_header : ℕ) (h : Header) (old middle now : HostView) (r : Reply) → IsGood k → refuse (outline k) (Recv d n) ≡ None → IsOutsideAt (entry k.devices d)
    → GathersHeader d n old middle k.devices mid.devices moved_header (Whole h) → mid ≡ record k { devices = mid.devices; posted = mid.posted } → mid.posted ≡ without number k.posted → posted_number (first address d h.port h.flow k.posted) ≡ Some number
    → ((t : Transfer) → find (has_number number) k.transfers ≡ Some t → t.stored ≡ 0 → LandingsShow (begun_kernel k number t) (at_work (work_begun t) t) 0) → ReceivesInto d number h.len moved_header (n - moved_header) middle now mid new r → Receives d n old now k new r
matching_receives laws k mid new d n number moved_header h old middle now r good accepted at gathered mid_is posted_is met law into =
    let v : DeviceView = gathered.before in
    let there : entry k.devices d ≡ Some v = gathered.there in
    let is : IsOutside v = subst IsOutsideAt there at in
    let early : is_early v.config.kind ≡ true = is.early in
    let kind = early_kind v.config.kind early in
    let header : List ℕ = gathered.receives.taken in
    let takes = gathered.receives.takes in
    let size : length header ≡ moved_header = takes.size in
    let bytes : List ℕ = v.gathered ++ header in
    let whole : IsWhole bytes = takes.ends.0 in
    let judge = judged_whole (is_valid_header v.limit bytes) h bytes takes.ends.1 in
    let hh : Header = header_in bytes in
    let x : ReceivesInto d number hh.len (length header) (n - length header) middle now mid new r = subst (λ j. ReceivesInto d number hh.len j (n - j) middle now mid new r) (sym size) (subst (λ (y : Header). ReceivesInto d number y.len moved_header (n - moved_header) middle now mid new r) judge.1 into) in
    let valid : is_valid_header (most v.config.kind k.config.page) bytes ≡ true = subst (λ m. is_valid_header m bytes ≡ true) (configured k d v good there).1 judge.0 in
    let met_here : posted_number (first address d hh.port hh.flow k.posted) ≡ Some number = subst (λ (y : Header). posted_number (first address d y.port y.flow k.posted) ≡ Some number) judge.1 met in
    let buffers : v.buffers ≡ [] = gathered.buffers (early_kept v.config.kind early) in
    let v1 : DeviceView = beginning hh v in
    let begun_is : gathered.after ≡ v1 = gathered.receives.device ∙ begun_device h bytes v buffers ∙ ap (λ y. beginning y v) judge.1 in
    let same_transfers : mid.transfers ≡ k.transfers = ap (λ (z : Kernel). z.transfers) mid_is in
    let same_memory : mid.memory ≡ k.memory = ap (λ (z : Kernel). z.memory) mid_is in
    let mid_there : entry mid.devices d ≡ Some gathered.after = ap (λ ds. entry ds d) gathered.only ∙ entry_same k.devices d v (Some gathered.after) there in
    let before_is : x.lands.before ≡ v1 = same_some x.lands.before gathered.after (sym x.lands.there ∙ mid_there) ∙ begun_is in
    let g : Present = record { header = hh; moved = 0; buffer = None } in
    let meets = is_met laws k d number hh.port hh.flow v good there early met_here in
    let t : Transfer = meets.transfer in
    let found_mid : find (has_number number) mid.transfers ≡ Some t = ap (find (has_number number)) same_transfers ∙ meets.input.found in
    let p : InPlan = x.lands.plan in
    let planned : t.loans ≡ loans.Inward p = x.lands.planned t found_mid in
    let f : FrameTable = new.memory.frames in
    let frames : List ℕ = input_frames p.loans.items in
    let moves : MovesPayload (length header) (n - length header) middle now v1 x.lands.after (range_bytes mid.memory.frames frames p.first p.len) (range_bytes f frames p.first p.len) x.moved = subst (λ u. MovesPayload (length header) (n - length header) middle now u x.lands.after (range_bytes mid.memory.frames frames p.first p.len) (range_bytes f frames p.first p.len) x.moved) before_is x.lands.moves in
    let devices_at : new.devices ≡ set k.devices d (Some x.lands.after) = x.lands.device ∙ ap (λ ds. set ds d (Some x.lands.after)) gathered.only ∙ set_again k.devices d (Some gathered.after) (Some x.lands.after) in
    let moved = has_moved d (length header) (n - length header) middle now k v1 x.lands.after g new.devices (range_bytes mid.memory.frames frames p.first p.len) (range_bytes f frames p.first p.len) x.moved refl refl moves devices_at in
    let m : HasMoved d (length header) (n - length header) middle now k v1 g new.devices x.moved = moved.0 in
    let course : Course = course_of m.end (length header) in
    let count : ℕ = length m.taken in
    let so_far : ℕ = 0 + count in
    let w : DeviceView = after_moving course g count v1 in
    let work : Work = work_of course so_far hh.len t in
    let only : OnlyRange frames p.first p.len k.memory.frames f = subst (λ (z : Memory). OnlyRange frames p.first p.len z.frames f) same_memory x.lands.only in
    let lands : Lands frames p.first p.len 0 m.taken k.memory new.memory = record {
      only = only;
      content = moved.1 ∙ ap (λ (z : Memory). overlaid 0 m.taken (range_bytes z.frames frames p.first p.len)) same_memory;
      pages = ap (λ (z : Kernel). z.memory.pages) x.only ∙ ap (λ (z : Memory). z.pages) same_memory;
      objects = ap (λ (z : Kernel). z.memory.objects) x.only ∙ ap (λ (z : Memory). z.objects) same_memory;
      slots = ap (λ (z : Kernel). z.memory.slots) x.only ∙ ap (λ (z : Memory). z.slots) same_memory;
    } in
    let sound : IsSound new.memory = lands_soundly k.memory new.memory p.first p.len 0 frames m.taken good.sound lands in
    let memory_of : new.memory ≡ record (k.memory) { frames = f } = ap (λ (z : Kernel). z.memory) x.only ∙ ap (λ (z : Memory). record z { frames = f }) same_memory in
    let memory : new.memory ≡ with_landed k.memory f.bytes f.landed = memory_of ∙ only_landed k frames p.first p.len f only in
    let transfers : new.transfers ≡ worked (has_number number) work k.transfers = x.works t found_mid ∙ ap (worked (has_number number) (work_of x.moved.course x.moved.so_far hh.len t)) same_transfers ∙ (λ i. worked (has_number number) (work_of (m.course i) (m.so_far i) hh.len t) k.transfers) in
    let new_is : new ≡ record k { memory = with_landed k.memory f.bytes f.landed; devices = set k.devices d (Some w); transfers = worked (has_number number) work k.transfers; posted = mid.posted } =
    x.only ∙ (λ i. record (mid_is i) { memory = record (same_memory i) { frames = f }; devices = new.devices; transfers = new.transfers; posted = mid.posted })
    ∙ (λ i. record k { memory = only_landed k frames p.first p.len f only i; devices = m.devices_are i; transfers = transfers i; posted = mid.posted }) in
    let reply_is : r ≡ body_reply m.end (length header + count) = x.reply_is ∙ replied x.moved m.end (length header) count m.faulted m.bytes in
    let over = ending_body m.end (hh.len - 0) (n - length header) count (now.handle (handle_of v.config.input)).bytes m.takes.ends in
    let handle = handle_is k d v good there in
    let within : length header ≤ n = subst (λ j. j ≤ n) (sym size) takes.within in
    let some : 0 < length header = some_taken v.gathered header gathered.short whole in
    let between : IsBetween v = record { absent = is.absent; good = is.fine; free = not_full v early } in
    let free = early_free k d v early in
    let first_is : (b : Bytes) → first_posted (state_of k b) d (port_in bytes) (flow_in bytes) ≡ Some number = λ b. first_met k b d hh.port hh.flow good ∙ met_here in
    let has : HasRange k.config.page t t.loans = plan_of k d v t good meets.early in
    let t1 : Transfer = at_work (work_begun t) t in
    let zero_bytes : List ℕ = replicate count 0 in
    let all_bytes : List ℕ = header ++ zero_bytes in
    let z : Bytes = zeros_with k.config.page d all_bytes in
    let same : length zero_bytes ≡ count = length-replicate count 0 in
    let zero_steps = begun_steps laws k z z d number n t v header zero_bytes [] good there between free kind early within some whole valid meets.input meets.posted meets.unstored (first_is z)
    (shows_zeros (begun_kernel k number t) d all_bytes t1 0 count (good_page k good) (record { plan = has.plan; is = has.is; range = has.range })) (zeros_rest k.config.page d all_bytes ∙ ap (λ l. header ++ l) (sym (append_none zero_bytes)))
    m.end over.ended (subst (λ j. EndsPayload m.end (hh.len - 0) (n - length header) j over.ended) (sym same) over.so) (subst (λ j. j ≤ n - length header) (sym same) m.takes.within) (subst (λ j. j ≤ hh.len - 0) (sym same) m.takes.fits) (λ e. refl) in
    let zero_steps_so : Steps (state_of k z) (Recv d n) (state_of (received_kernel k d number w work) (with_rest d [] z)) (body_reply m.end (length header + count)) = subst (λ j. Steps (state_of k z) (Recv d n) (state_of (received_kernel k d number (after_moving course g j v1) (work_of course (0 + j) hh.len t)) (with_rest d [] z)) (body_reply m.end (length header + j))) same zero_steps in
    let orderly : IsOrderly (outline (received_kernel k d number w work)) = orderly_behind laws.orderly k (received_kernel k d number w work) d n (body_reply m.end (length header + count)) all_bytes [] good accepted refl zero_steps_so in
    let k1 : Kernel = record k { memory = with_landed k.memory f.bytes f.landed } in
    let good1 : IsGood k1 = landed_good k f.bytes f.landed good (subst IsSound memory sound) in
    let keeps : KeepsPayload v v1 = record { config = refl; limit = refl; buffers = refl; staged = refl; sent = refl } in
    let posted : ArePosted mid.posted (worked (has_number number) work k.transfers) = subst (λ ps. ArePosted ps (worked (has_number number) work k.transfers)) (sym posted_is) (laws.taken number work k.transfers k.posted (laws.rise k good).order (unposted course so_far hh.len t) good.posted) in
    let still : course ≡ GoesOn → receiver (worked (has_number number) work k.transfers) d ≡ Some (at_work (work_on so_far t) t) = λ e. ap (λ c. receiver (worked (has_number number) (work_of c so_far hh.len t) k.transfers) d) e ∙ found_now (has_number number) (work_on so_far t) t (receives_from d) k.transfers meets.input.found (none_received k d v good there is.absent) (eq-eqb t.dev d meets.input.dev) in
    record {
      good = subst IsGood (sym new_is) (input_good laws k1 d number v w t work mid.posted good1 there early (moving_keeps course g count v v1 keeps) meets.input.found meets.input.dev (ap is_queued meets.posted) (unqueued course so_far hh.len t) meets.input.unbuffered (bufferless course so_far hh.len t) posted
          (stored_now course g count hh.len v1 t (receiver (worked (has_number number) work k.transfers) d) still) orderly);
      kept = kept_worked (has_number number) work k new good only.owners transfers;
      config = ap (λ (y : Kernel). y.config) x.only ∙ ap (λ (y : Kernel). y.config) mid_is;
      numbers = ap (λ (y : Kernel). y.next) x.only ∙ ap (λ (y : Kernel). y.next) mid_is;
      memory = memory;
      landed = landed_most new.memory.frames.landed k.memory.frames.landed mid.memory.frames.landed (length header) n (ap (λ (y : Memory). y.frames.landed) same_memory) x.lands.most within;
      taken = header ++ m.taken;
      ended = over.ended;
      only = subst (λ a. OnlyHandle a old now) (sym handle) (only_trans (handle_of v.config.input) old middle now takes.only m.takes.only);
      bytes = subst (λ a. Consumes (old.handle a).bytes (now.handle a).bytes (header ++ m.taken)) (sym handle) (consumes_more (old.handle (handle_of v.config.input)).bytes (middle.handle (handle_of v.config.input)).bytes (now.handle (handle_of v.config.input)).bytes header m.taken takes.bytes m.takes.bytes);
      at_end = subst (λ a. over.ended ≡ true → IsAtEnd (now.handle a).bytes) (sym handle) over.at_end;
      cause = subst (λ y. DeviceCause (mark_of y) (old.handle (input_of k.config d)).faults (now.handle (input_of k.config d)).faults) (sym reply_is)
          (subst (λ a. DeviceCause (mark_of (body_reply m.end (length header + count))) (old.handle a).faults (now.handle a).faults) (sym handle) (cause_behind m.end (length header + count) (old.handle (handle_of v.config.input)).faults (middle.handle (handle_of v.config.input)).faults (now.handle (handle_of v.config.input)).faults takes.cause m.takes.cause));
      steps = λ slots rests sents rest paged place behind.
          let b : Bytes = bytes_over k.memory slots rests sents in
          let c : Bytes = bytes_over new.memory slots rests sents in
          let shows : ShowsLanded (begun_kernel k number t) t1 0 m.taken b c = law t meets.input.found meets.unstored p new.memory m.taken planned lands slots rests sents paged in
          let real = begun_steps laws k b c d number n t v header m.taken rest good there between free kind early within some whole valid meets.input meets.posted meets.unstored (first_is b) shows (place ∙ append_assoc header m.taken rest) m.end over.ended over.so m.takes.within m.takes.fits behind in
          subst (λ y. Steps (state_of k b) (Recv d n) (state_of new (with_rest d rest c)) y) (sym reply_is)
          (subst (λ (y : Kernel). Steps (state_of k b) (Recv d n) (state_of y (with_rest d rest c)) (body_reply m.end (length header + count))) (sym new_is) real);
    }
  where
    same_some : (a e : DeviceView) → Some a ≡ Some e → a ≡ e
    same_some a e s = cc

    landed_most : (a b c h m : ℕ) → c ≡ b → a ≤ c + (m - h) → h ≤ m → a ≤ b + m
    landed_most a b c h m e l k = omega (arith, e, l, k)
