-- A step that has moved payload bytes into a buffer of a pool has received them.
use Rattle.std.proofs.Common.{◌≡◌, ◌≢◌, ℕ, ◌+◌, ◌-◌, ◌*◌, ◌<◌, ◌≤◌, Bool, true, false, List, [], ◌++◌, refl, sym, ap, subst, arith, ◌∙◌, ⊎_elim, length, take, drop, set, get_or, append_assoc}
use Rattle.std.specs.Prelude.{Option, Some, None, IfSome, is_some, position, replicate}
use Rattle.std.specs.Option.{option_map}
use Rattle.std.specs.Io.KnownBytes.{Consumes, IsAtEnd}
use Rattle.std.proofs.lemmas.List.{get_or-set_same, get_or-set_other, length-replicate, length-set}
use Rattle.std.proofs.lemmas.List.Folds.{list_any_at}
use Rattle.std.proofs.lemmas.List.Quantifiers.{position-Some}
use Rattle.genie_base.specs.Events.{mark_of}
use Rattle.genie_base.specs.Lemmas.Places.{same_or}
use Rattle.genie_base.specs.Posted.{first}
use Rattle.genie_base.specs.declared.config.DeviceConfig.{DeviceConfig}
use Rattle.genie_base.specs.declared.event.Event.TheVariants.{Recv}
use Rattle.genie_base.specs.declared.reply.Reply.{Reply}
use Rattle.genie_demux.specs.Posted.{address, number_of as posted_number}
use Rattle.genie_device.specs.Device.{DeviceView, handle_of, is_outboard}
use Rattle.genie_device.specs.Kept.{IsAllowed}
use Rattle.genie_device.specs.declared.present.Present.{Present}
use Rattle.genie_device.specs.declared.steps.BodyEnd.{BodyEnd}
use Rattle.genie_device.specs.declared.steps.BodyEnd.TheVariants.{More, Whole, Truncated, Faulted}
use Rattle.genie_device.specs.Receiving.{BodyCause}
use Rattle.genie_frame.specs.declared.frame.InLoan.{InLoan}
use Rattle.genie_host.specs.Host.{HostView, OnlyHandle}
use Rattle.genie_host.specs.OnlyHandle.{only_trans}
use Rattle.genie_input.specs.Pools.{PoolState, is_filling, is_held, set_buffer}
use Rattle.genie_input.specs.declared.pool.BufferState.TheVariants.{Free, Held}
use Rattle.genie_object.specs.declared.memory.Memory.{Memory}
use Rattle.genie_object.specs.Sound.{IsSound}
use Rattle.genie_orderly.specs.Orderly.{IsOrderly}
use Rattle.genie_plan.specs.Landings.{Lands}
use Rattle.genie_plan.specs.Plans.{OnlyRange, input_frames, range_bytes}
use Rattle.genie_plan.specs.Lemmas.Landings.{lands_soundly}
use Rattle.genie_model.specs.Refusing.{refuse}
use Rattle.genie_model.specs.Tables.{entry}
use Rattle.genie_model.specs.Lemmas.Lists.{entry_same}
use Rattle.genie_kernel.specs.declared.kernel.Kernel.{Kernel}
use Rattle.genie_kernel.specs.declared.transfer.Transfer.{Transfer}
use Rattle.genie_kernel.specs.Calls.{has_number, receiver}
use Rattle.genie_kernel.specs.Good.{IsGood}
use Rattle.genie_kernel.specs.Kept.{Kept}
use Rattle.genie_kernel.specs.Matching.{IsStored, has_filling}
use Rattle.genie_kernel.specs.Steps.{DeviceCause, Steps, bytes_over}
use Rattle.genie_kernel.specs.Transfers.{pool_frames}
use Rattle.genie_kernel.specs.View.{Bytes, outline, state_of}
use Rattle.genie_receiving.specs.Course.{course_of, is_faulted}
use Rattle.genie_receiving.specs.declared.course.Course.{Course}
use Rattle.genie_receiving.specs.declared.course.Course.TheVariants.{GoesOn, Ends, IsTruncated}
use Rattle.genie_receiving.specs.Devices.{KeepsPayload, with_rest}
use Rattle.genie_receiving.specs.Laws.{ReceiveLaws}
use Rattle.genie_receiving.specs.Payload.{MovesPayload}
use Rattle.genie_receiving.specs.Receiving.{MayBeLeft, Receives, with_landed}
use Rattle.genie_receiving.specs.Lemmas.Bytes.{append_none}
use Rattle.genie_receiving.specs.Lemmas.Gathered.{handle_is}
use Rattle.genie_receiving.specs.Lemmas.Good.{landed_good}
use Rattle.genie_receiving.specs.Lemmas.Kept.{kept_alone, kept_worked}
use Rattle.genie_receiving.specs.Lemmas.Landed.{HasMoved, caused_body, ending_body, has_moved, only_landed}
use Rattle.genie_receiving.specs.Lemmas.Marking.{orderly_behind, zeros_rest, zeros_with}
use Rattle.genie_receiving.specs.Lemmas.Matched.{EndsPayload, after_moving, moving_keeps}
use Rattle.genie_receiving.specs.Lemmas.Within.{body_reply}
use Rattle.genie_pooling.specs.Delivering.{ready_with}
use Rattle.genie_pooling.specs.Filling.{offset_at}
use Rattle.genie_pooling.specs.Pooled.{EndsStep, FillsPayload}
use Rattle.genie_pooling.proofs.Ends.{IsMetBy, done, done_reply, ended_so, set_twice}
use Rattle.genie_pooling.proofs.Good.{IsPoolNow, delivered_good, pooled_good}
use Rattle.genie_pooling.proofs.Lands.{lands_filled, zeros_filled}
use Rattle.genie_pooling.proofs.Meeting.{IsMetAt, encounter, none_moved}
use Rattle.genie_pooling.proofs.Pools.{Fills, over_none, over_pool, unheld_filling}
use Rattle.genie_pooling.proofs.Room.{IsPooled}
use Rattle.genie_pooling.proofs.Shows.{ShowsFilled}
use Rattle.genie_pooling.proofs.Steps.{step_reply}
use Rattle.genie_pooling.proofs.Went.{Meets, final, final_reply}

consumes_more : (a b c : Option (List ℕ)) (xs ys : List ℕ) → Consumes a b xs → Consumes b c ys → Consumes a c (xs ++ ys)
consumes_more None b c xs ys h g = tt
consumes_more (Some x) None c xs ys h g = absurd h
consumes_more (Some x) (Some y) None xs ys h g = absurd g
consumes_more (Some x) (Some y) (Some z) xs ys h g = h ∙ ap (λ l. xs ++ l) g ∙ sym (append_assoc xs ys z)

no_place : (o : Option ℕ) → is_some o ≡ false → o ≡ None
no_place None e = refl
no_place (Some n) e = absurd (cc)

same_device : (a e : DeviceView) → Some a ≡ Some e → a ≡ e
same_device a e s = cc

same_pool : (a e : PoolState) → Some a ≡ Some e → a ≡ e
same_pool a e s = cc

same_place : (a e : ℕ) → Some a ≡ Some e → a ≡ e
same_place a e s = cc

cause_behind : (end : BodyEnd) (m before mid now : ℕ) → mid ≡ before → BodyCause end mid now → DeviceCause (mark_of (body_reply end m)) before now
cause_behind end m before mid now same h = caused_body end m before now (subst (λ x. BodyCause end x now) same h)

-- device d of kernel k is v1 now, whose datagram g fills buffer b of its pool p, which is q now
module _ (laws : ReceiveLaws) (k : Kernel) (good : IsGood k) (d n : ℕ) (v v1 : DeviceView) (p q : PoolState) (b : ℕ) (g : Present) (header : List ℕ) (is : IsPooled k d v p) (kept : KeepsPayload v v1) (f : Fills p q b) where
  -- over any bytes it is a step of the flat machine
  abbrev pub StepsFlat : Type 0
  StepsFlat = (old new : Bytes) (bytes rest : List ℕ) (shows : ShowsFilled k d p b v g.moved bytes old new) (met : Option (ℕ × Transfer)) → old.rests d ≡ header ++ (bytes ++ rest) → (end : BodyEnd) (ended : Bool) → Meets laws k good old new d (length header) b v v1 p q g bytes rest is kept f shows met → EndsPayload end (g.header.len - g.moved) (n - length header) (length bytes) ended → length bytes ≤ n - length header → length bytes ≤ g.header.len - g.moved → MayBeLeft ended rest
      → Steps (state_of k old) (Recv d n) (state_of (final laws k good old new d (length header) b v v1 p q g bytes rest is kept f shows (course_of end (length header)) met) (with_rest d rest new)) (step_reply end (length header + length bytes) (final_reply laws k good old new d (length header) b v v1 p q g bytes rest is kept f shows (course_of end (length header)) (length header + length bytes) met))

  -- the kernel and the reply are those
  state_same : (old new : Bytes) (bytes rest : List ℕ) (shows : ShowsFilled k d p b v g.moved bytes old new) (m : Memory) (c : Bytes) (course : Course) (met : Option (ℕ × Transfer)) → state_of (final laws k good old new d (length header) b v v1 p q g bytes rest is kept f shows course met) c ≡ state_of (done k d b v1 q g (length bytes) m course met) c
  state_same old new bytes rest shows m c GoesOn met = refl
  state_same old new bytes rest shows m c Ends None = refl
  state_same old new bytes rest shows m c Ends (Some (i, t)) = refl
  state_same old new bytes rest shows m c IsTruncated None = refl
  state_same old new bytes rest shows m c IsTruncated (Some (i, t)) = refl

  plain_reply : (old new : Bytes) (bytes rest : List ℕ) (shows : ShowsFilled k d p b v g.moved bytes old new) (m : Memory) (j : ℕ) (course : Course) (met : Option (ℕ × Transfer)) → done_reply k d b v1 q g (length bytes) m course j false met ≡ final_reply laws k good old new d (length header) b v v1 p q g bytes rest is kept f shows course j met
  plain_reply old new bytes rest shows m j GoesOn met = refl
  plain_reply old new bytes rest shows m j Ends None = refl
  plain_reply old new bytes rest shows m j Ends (Some x) = refl
  plain_reply old new bytes rest shows m j IsTruncated None = refl
  plain_reply old new bytes rest shows m j IsTruncated (Some x) = refl

  reply_same : (old new : Bytes) (bytes rest : List ℕ) (shows : ShowsFilled k d p b v g.moved bytes old new) (m : Memory) (j : ℕ) (end : BodyEnd) (met : Option (ℕ × Transfer)) → step_reply end j (final_reply laws k good old new d (length header) b v v1 p q g bytes rest is kept f shows (course_of end (length header)) j met) ≡ done_reply k d b v1 q g (length bytes) m (course_of end (length header)) j (is_faulted end) met
  reply_same old new bytes rest shows m j More met = refl
  reply_same old new bytes rest shows m j Whole met = sym (plain_reply old new bytes rest shows m j Ends met)
  reply_same old new bytes rest shows m j Truncated met = sym (plain_reply old new bytes rest shows m j (course_of Truncated (length header)) met)
  reply_same old new bytes rest shows m j Faulted met = refl

  met_flat : (old new : Bytes) (bytes rest : List ℕ) (shows : ShowsFilled k d p b v g.moved bytes old new) (met : Option (ℕ × Transfer)) → posted_number (first address d g.header.port g.header.flow k.posted) ≡ option_map (λ (x : ℕ × Transfer). x.0) met → IfSome met (λ (x : ℕ × Transfer). IsMetAt k d x.0 x.1) → Meets laws k good old new d (length header) b v v1 p q g bytes rest is kept f shows met
  met_flat old new bytes rest shows None e h = e
  met_flat old new bytes rest shows (Some (i, t)) e h = (e, h.input, h.posted)

  met_by : (count : ℕ) (m : Memory) (met : Option (ℕ × Transfer)) → posted_number (first address d g.header.port g.header.flow k.posted) ≡ option_map (λ (x : ℕ × Transfer). x.0) met → IfSome met (λ (x : ℕ × Transfer). IsMetAt k d x.0 x.1) → IsMetBy k d b v1 q g count m met
  met_by count m None e h = e
  met_by count m (Some (i, t)) e h = (e, h.input.found)

  memory_of : (count : ℕ) (m : Memory) (course : Course) (met : Option (ℕ × Transfer)) → (done k d b v1 q g count m course met).memory ≡ m
  memory_of count m GoesOn met = refl
  memory_of count m Ends None = refl
  memory_of count m Ends (Some (i, t)) = refl
  memory_of count m IsTruncated None = refl
  memory_of count m IsTruncated (Some (i, t)) = refl

  config_of_done : (count : ℕ) (m : Memory) (course : Course) (met : Option (ℕ × Transfer)) → (done k d b v1 q g count m course met).config ≡ k.config
  config_of_done count m GoesOn met = refl
  config_of_done count m Ends None = refl
  config_of_done count m Ends (Some (i, t)) = refl
  config_of_done count m IsTruncated None = refl
  config_of_done count m IsTruncated (Some (i, t)) = refl

  next_of_done : (count : ℕ) (m : Memory) (course : Course) (met : Option (ℕ × Transfer)) → (done k d b v1 q g count m course met).next ≡ k.next
  next_of_done count m GoesOn met = refl
  next_of_done count m Ends None = refl
  next_of_done count m Ends (Some (i, t)) = refl
  next_of_done count m IsTruncated None = refl
  next_of_done count m IsTruncated (Some (i, t)) = refl

  kept_done : (count : ℕ) (m : Memory) (new : Kernel) (course : Course) (met : Option (ℕ × Transfer)) → new.memory.frames.owners ≡ k.memory.frames.owners → new ≡ done k d b v1 q g count m course met → Kept k new
  kept_done count m new GoesOn met o e = kept_alone k new good o (ap (λ (z : Kernel). z.transfers) e)
  kept_done count m new Ends None o e = kept_alone k new good o (ap (λ (z : Kernel). z.transfers) e)
  kept_done count m new Ends (Some (i, t)) o e = kept_worked (has_number i) (ready_with b (g.moved + count) false g.header.len t) k new good o (ap (λ (z : Kernel). z.transfers) e)
  kept_done count m new IsTruncated None o e = kept_alone k new good o (ap (λ (z : Kernel). z.transfers) e)
  kept_done count m new IsTruncated (Some (i, t)) o e = kept_worked (has_number i) (ready_with b (g.moved + count) true g.header.len t) k new good o (ap (λ (z : Kernel). z.transfers) e)

  -- the kernel with landed bytes is good, once its outline is orderly
  module _ (bytes : List (List ℕ)) (landed count : ℕ) (sound : IsSound (with_landed k.memory bytes landed)) (fits : g.moved + count ≤ v.limit) where
    abbrev k1 : Kernel
    k1 = record k { memory = with_landed k.memory bytes landed }

    good1 : IsGood k1
    good1 = landed_good k bytes landed good sound

    is1 : IsPooled k1 d v p
    is1 = record { there = is.there; kind = is.kind; pooled = is.pooled; config = is.config; limit = is.limit; pool = is.pool; depth = is.depth; offset = is.offset }

    abbrev gone : DeviceView
    gone = record v1 { present = None }

    gone_keeps : KeepsPayload v gone
    gone_keeps = record { config = kept.config; limit = kept.limit; buffers = kept.buffers; staged = kept.staged; sent = kept.sent }

    pool_now : IsPoolNow p q
    pool_now = record { loans = f.loans; count = f.count; pool = record { most = (let a = is.pool.most in let c = f.count in omega (arith, a, c)); size = ap length f.loans ∙ is.pool.size ∙ ap (λ m. 17 * m) (sym f.count); one = f.one } }

    filling_yes : has_filling (Some q) ≡ true
    filling_yes = let at = position-Some is_filling q.buffers b Free f.filling in list_any_at is_filling q.buffers b Free at.0 at.1

    none_receives : (o : Option Transfer) (z : Present) → o ≡ None → IfSome o (IsStored z)
    none_receives o z e = subst (λ x. IfSome x (IsStored z)) (sym e) tt

    abbrev free_pool : PoolState
    free_pool = set_buffer (set_buffer q b Held) b Free

    free_is : free_pool ≡ set_buffer q b Free
    free_is = ap (λ l. record q { buffers = l }) (set_twice q.buffers b Held Free)

    there : b < length q.buffers
    there = let l = f.place in let c = f.count in omega (arith, l, c)

    free_held : (j : ℕ) → is_held (get_or (set q.buffers b Free) j Free) ≡ is_held (get_or p.buffers j Free)
    free_held j = ⊎_elim
        (λ (e : j ≡ b). ap (λ i. is_held (get_or (set q.buffers b Free) i Free)) e ∙ ap is_held (get_or-set_same q.buffers b Free Free there) ∙ sym (ap (λ i. is_held (get_or p.buffers i Free)) e ∙ unheld_filling p q b f))
        (λ (e : j ≢ b). ap is_held (get_or-set_other q.buffers b j Free Free e) ∙ f.held j)
        (same_or j b)

    free_now : IsPoolNow p (set_buffer q b Free)
    free_now = record { loans = f.loans; count = length-set q.buffers b Free ∙ f.count; pool = over_pool p q b f Free refl is.pool }

    free_good : IsOrderly (outline (record k1 { devices = set k.devices d (Some gone); pools = set k.pools d (Some (set_buffer q b Free)) })) → IsGood (record k1 { devices = set k.devices d (Some gone); pools = set k.pools d (Some (set_buffer q b Free)) })
    free_good orderly = pooled_good k1 d v gone p (set_buffer q b Free) good1 is1 gone_keeps free_now free_held (over_none p q b f Free refl) tt orderly

    freed : IsOrderly (outline (record k1 { devices = set k.devices d (Some gone); pools = set k.pools d (Some free_pool) })) → IsGood (record k1 { devices = set k.devices d (Some gone); pools = set k.pools d (Some free_pool) })
    freed = subst (λ (r : PoolState). IsOrderly (outline (record k1 { devices = set k.devices d (Some gone); pools = set k.pools d (Some r) })) → IsGood (record k1 { devices = set k.devices d (Some gone); pools = set k.pools d (Some r) })) (sym free_is) free_good

    pub done_good : (course : Course) (met : Option (ℕ × Transfer)) → IfSome met (λ (x : ℕ × Transfer). IsMetAt k d x.0 x.1) → IsOrderly (outline (done k d b v1 q g count (with_landed k.memory bytes landed) course met)) → IsGood (done k d b v1 q g count (with_landed k.memory bytes landed) course met)
    done_good GoesOn met h orderly =
        let w : DeviceView = after_moving GoesOn g count v1 in
        pooled_good k1 d v w p q good1 is1 (moving_keeps GoesOn g count v v1 kept) pool_now f.held filling_yes (none_receives (receiver k.transfers d) (record g { moved = g.moved + count }) (none_moved k d v good is.there is.kind)) orderly
    done_good Ends None h orderly = freed orderly
    done_good IsTruncated None h orderly = freed orderly
    done_good Ends (Some (i, t)) h orderly = delivered_good laws k1 d i b (g.moved + count) false g.header.len v gone p q t good1 is1 gone_keeps refl f (record { found = h.input.found; dev = h.input.dev; inward = h.input.inward; unbuffered = h.input.unbuffered }) h.posted fits orderly
    done_good IsTruncated (Some (i, t)) h orderly = delivered_good laws k1 d i b (g.moved + count) true g.header.len v gone p q t good1 is1 gone_keeps refl f (record { found = h.input.found; dev = h.input.dev; inward = h.input.inward; unbuffered = h.input.unbuffered }) h.posted fits orderly

  -- so the step has received them
  pub fills_receive : (old middle now : HostView) (mid new : Kernel) (r : Reply) → refuse (outline k) (Recv d n) ≡ None → length header ≤ n → OnlyHandle (handle_of v.config.input) old middle → Consumes (old.handle (handle_of v.config.input)).bytes (middle.handle (handle_of v.config.input)).bytes header → (middle.handle (handle_of v.config.input)).faults ≡ (old.handle (handle_of v.config.input)).faults
      → mid ≡ record k { devices = set k.devices d (Some v1); pools = set k.pools d (Some q) } → v1.present ≡ Some g → StepsFlat → FillsPayload d g.header (length header) (n - length header) middle now mid new r → Receives d n old now k new r
  fills_receive old middle now mid new r accepted within only_before bytes_before cause_before mid_is present steps fills =
      let mid0 : Kernel = record k { devices = set k.devices d (Some v1); pools = set k.pools d (Some q) } in
      let y : FillsPayload d g.header (length header) (n - length header) middle now mid0 new r = subst (λ (z : Kernel). FillsPayload d g.header (length header) (n - length header) middle now z new r) mid_is fills in
      let before_is : y.fills.before ≡ v1 = same_device y.fills.before v1 (sym y.fills.there ∙ entry_same k.devices d v (Some v1) is.there) in
      let pool_is : y.fills.pool ≡ q = same_pool y.fills.pool q (sym y.fills.pooled ∙ entry_same k.pools d p (Some q) is.pooled) in
      let place_is : y.fills.buffer ≡ b = same_place y.fills.buffer b (sym y.fills.filling ∙ ap (λ (z : PoolState). position is_filling z.buffers) pool_is ∙ f.filling) in
      let frames_is : pool_frames y.fills.pool y.fills.buffer ≡ pool_frames p b = (λ i. pool_frames (pool_is i) (place_is i)) ∙ ap (λ (l : List InLoan). input_frames (take 17 (drop (17 * b) l))) f.loans in
      let offset_is : offset_at (entry k.config.devices d) ≡ v.config.offset = ap offset_at is.config in
      let len : ℕ = 16 * k.config.page in
      let mv1 : MovesPayload (length header) (n - length header) middle now v1 y.fills.after (range_bytes k.memory.frames (pool_frames y.fills.pool y.fills.buffer) (offset_at (entry k.config.devices d)) (16 * k.config.page)) (range_bytes y.frames (pool_frames y.fills.pool y.fills.buffer) (offset_at (entry k.config.devices d)) (16 * k.config.page)) y.moved =
      subst (λ u. MovesPayload (length header) (n - length header) middle now u y.fills.after (range_bytes k.memory.frames (pool_frames y.fills.pool y.fills.buffer) (offset_at (entry k.config.devices d)) (16 * k.config.page)) (range_bytes y.frames (pool_frames y.fills.pool y.fills.buffer) (offset_at (entry k.config.devices d)) (16 * k.config.page)) y.moved) before_is y.fills.moves in
      let mv2 : MovesPayload (length header) (n - length header) middle now v1 y.fills.after (range_bytes k.memory.frames (pool_frames p b) (offset_at (entry k.config.devices d)) (16 * k.config.page)) (range_bytes y.frames (pool_frames p b) (offset_at (entry k.config.devices d)) (16 * k.config.page)) y.moved =
      subst (λ (fs : List ℕ). MovesPayload (length header) (n - length header) middle now v1 y.fills.after (range_bytes k.memory.frames fs (offset_at (entry k.config.devices d)) (16 * k.config.page)) (range_bytes y.frames fs (offset_at (entry k.config.devices d)) (16 * k.config.page)) y.moved) frames_is mv1 in
      let mv3 : MovesPayload (length header) (n - length header) middle now v1 y.fills.after (range_bytes k.memory.frames (pool_frames p b) v.config.offset (16 * k.config.page)) (range_bytes y.frames (pool_frames p b) v.config.offset (16 * k.config.page)) y.moved =
      subst (λ (o : ℕ). MovesPayload (length header) (n - length header) middle now v1 y.fills.after (range_bytes k.memory.frames (pool_frames p b) o (16 * k.config.page)) (range_bytes y.frames (pool_frames p b) o (16 * k.config.page)) y.moved) offset_is mv2 in
      let only : OnlyRange (pool_frames p b) v.config.offset (16 * k.config.page) k.memory.frames y.frames = subst (λ (o : ℕ). OnlyRange (pool_frames p b) o (16 * k.config.page) k.memory.frames y.frames) offset_is (subst (λ (fs : List ℕ). OnlyRange fs (offset_at (entry k.config.devices d)) (16 * k.config.page) k.memory.frames y.frames) frames_is y.fills.only) in
      let allowed : IsAllowed v1.config.kind v1.limit g = subst (λ o. IfSome o (IsAllowed v1.config.kind v1.limit)) present (subst (λ (u : DeviceView). IfSome u.present (IsAllowed u.config.kind u.limit)) before_is y.fills.allowed) in
      let none : g.buffer ≡ None = no_place g.buffer (allowed.buffer ∙ ap (λ (c : DeviceConfig). is_outboard c.kind) kept.config ∙ ap is_outboard is.kind) in
      let devices_at : y.devices ≡ set k.devices d (Some y.fills.after) = y.fills.device ∙ set_twice k.devices d (Some v1) (Some y.fills.after) in
      let moved = has_moved d (length header) (n - length header) middle now k v1 y.fills.after g y.devices (range_bytes k.memory.frames (pool_frames p b) v.config.offset (16 * k.config.page)) (range_bytes y.frames (pool_frames p b) v.config.offset (16 * k.config.page)) y.moved present none mv3 devices_at in
      let m : HasMoved d (length header) (n - length header) middle now k v1 g y.devices y.moved = moved.0 in
      let course : Course = course_of m.end (length header) in
      let count : ℕ = length m.taken in
      let m1 : Memory = record (k.memory) { frames = y.frames } in
      let lands : Lands (pool_frames p b) v.config.offset (16 * k.config.page) g.moved m.taken k.memory m1 = record { only = only; content = moved.1; pages = refl; objects = refl; slots = refl } in
      let limit_is : v1.limit ≡ 16 * k.config.page = kept.limit ∙ is.limit in
      let long = allowed.len in
      let so = allowed.moved in
      let few = m.takes.fits in
      let fits : g.moved + length m.taken ≤ 16 * k.config.page = omega (arith, long, limit_is, so, few) in
      let most : g.moved + length m.taken ≤ v.limit = subst (λ z. g.moved + length m.taken ≤ z) (sym is.limit) fits in
      let sound : IsSound m1 = lands_soundly k.memory m1 v.config.offset (16 * k.config.page) g.moved (pool_frames p b) m.taken good.sound lands in
      let memory_is : m1 ≡ with_landed k.memory y.frames.bytes y.frames.landed = only_landed k (pool_frames p b) v.config.offset (16 * k.config.page) y.frames only in
      let enc = encounter laws k d g.header.port g.header.flow good (posted_number (first address d g.header.port g.header.flow k.posted)) refl in
      let met : Option (ℕ × Transfer) = enc.met in
      let ends1 = subst (λ c. EndsStep c d g.header (length header) y.moved (record k { memory = m1; devices = y.devices; pools = set k.pools d (Some q) }) new r) m.course y.ends in
      let ends2 = subst (λ ds. EndsStep course d g.header (length header) y.moved (record k { memory = m1; devices = ds; pools = set k.pools d (Some q) }) new r) m.devices_are ends1 in
      let ended = ended_so k d b v1 q g count m1 p course (length header) y.moved new r met is.pooled f.filling (met_by count m1 met enc.is enc.input) m.so_far m.bytes ends2 in
      let new_is : new ≡ done k d b v1 q g count m1 course met = ended.0 in
      let reply_is : r ≡ done_reply k d b v1 q g count m1 course (length header + count) (is_faulted m.end) met = ended.1 ∙ ap (λ z. done_reply k d b v1 q g count m1 course (length header + count) z met) m.faulted in
      let over = ending_body m.end (g.header.len - g.moved) (n - length header) count (now.handle (handle_of v1.config.input)).bytes m.takes.ends in
      let zero_bytes : List ℕ = replicate count 0 in
      let same : length zero_bytes ≡ count = length-replicate count 0 in
      let z : Bytes = zeros_with k.config.page d (header ++ zero_bytes) in
      let blank = zeros_filled k d b g.moved count v p (header ++ zero_bytes) good is f.place fits in
      let zero_steps = steps z z zero_bytes [] blank met (zeros_rest k.config.page d (header ++ zero_bytes) ∙ ap (λ l. header ++ l) (sym (append_none zero_bytes))) m.end over.ended (met_flat z z zero_bytes [] blank met enc.is enc.input)
      (subst (λ j. EndsPayload m.end (g.header.len - g.moved) (n - length header) j over.ended) (sym same) over.so) (subst (λ j. j ≤ n - length header) (sym same) m.takes.within) (subst (λ j. j ≤ g.header.len - g.moved) (sym same) m.takes.fits) (λ e. refl) in
      let m2 : Memory = with_landed k.memory y.frames.bytes y.frames.landed in
      let zero_done : Steps (state_of k z) (Recv d n) (state_of (done k d b v1 q g (length zero_bytes) m2 course met) (with_rest d [] z)) (done_reply k d b v1 q g (length zero_bytes) m2 course (length header + length zero_bytes) (is_faulted m.end) met) =
      subst (λ s. Steps (state_of k z) (Recv d n) s (done_reply k d b v1 q g (length zero_bytes) m2 course (length header + length zero_bytes) (is_faulted m.end) met)) (state_same z z zero_bytes [] blank m2 (with_rest d [] z) course met)
      (subst (λ y. Steps (state_of k z) (Recv d n) (state_of (final laws k good z z d (length header) b v v1 p q g zero_bytes [] is kept f blank course met) (with_rest d [] z)) y) (reply_same z z zero_bytes [] blank m2 (length header + length zero_bytes) m.end met) zero_steps) in
      let zero_so : Steps (state_of k z) (Recv d n) (state_of (done k d b v1 q g count m2 course met) (with_rest d [] z)) (done_reply k d b v1 q g count m2 course (length header + count) (is_faulted m.end) met) = subst (λ j. Steps (state_of k z) (Recv d n) (state_of (done k d b v1 q g j m2 course met) (with_rest d [] z)) (done_reply k d b v1 q g j m2 course (length header + j) (is_faulted m.end) met)) same zero_done in
      let orderly : IsOrderly (outline (done k d b v1 q g count m2 course met)) = orderly_behind laws.orderly k (done k d b v1 q g count m2 course met) d n (done_reply k d b v1 q g count m2 course (length header + count) (is_faulted m.end) met) (header ++ zero_bytes) [] good accepted (config_of_done count m2 course met) zero_so in
      let good2 : IsGood (done k d b v1 q g count m2 course met) = done_good y.frames.bytes y.frames.landed count (subst IsSound memory_is sound) most course met enc.input orderly in
      let memory_new : new.memory ≡ m1 = ap (λ (x : Kernel). x.memory) new_is ∙ memory_of count m1 course met in
      let handle = handle_is k d v good is.there in
      let input_is : handle_of v1.config.input ≡ handle_of v.config.input = ap (λ (c : DeviceConfig). handle_of c.input) kept.config in
      let a : ℕ = handle_of v.config.input in
      let only_after : OnlyHandle (handle_of v.config.input) middle now = subst (λ i. OnlyHandle i middle now) input_is m.takes.only in
      let bytes_after : Consumes (middle.handle (handle_of v.config.input)).bytes (now.handle (handle_of v.config.input)).bytes m.taken = subst (λ i. Consumes (middle.handle i).bytes (now.handle i).bytes m.taken) input_is m.takes.bytes in
      let cause_after : BodyCause m.end (middle.handle (handle_of v.config.input)).faults (now.handle (handle_of v.config.input)).faults = subst (λ i. BodyCause m.end (middle.handle i).faults (now.handle i).faults) input_is m.takes.cause in
      let owners : new.memory.frames.owners ≡ k.memory.frames.owners = ap (λ (x : Memory). x.frames.owners) memory_new ∙ only.owners in
      let landed_low = y.fills.most in
      record {
        good = subst IsGood (sym (new_is ∙ ap (λ (x : Memory). done k d b v1 q g count x course met) memory_is)) good2;
        kept = kept_done count m1 new course met owners new_is;
        config = ap (λ (x : Kernel). x.config) new_is ∙ config_of_done count m1 course met;
        numbers = ap (λ (x : Kernel). x.next) new_is ∙ next_of_done count m1 course met;
        memory = memory_new ∙ memory_is ∙ (λ i. with_landed k.memory ((sym memory_new) i).frames.bytes ((sym memory_new) i).frames.landed);
        landed = (let l : new.memory.frames.landed ≡ y.frames.landed = ap (λ (x : Memory). x.frames.landed) memory_new in omega (arith, l, landed_low, within));
        taken = header ++ m.taken;
        ended = over.ended;
        only = subst (λ i. OnlyHandle i old now) (sym handle) (only_trans (handle_of v.config.input) old middle now only_before only_after);
        bytes = subst (λ i. Consumes (old.handle i).bytes (now.handle i).bytes (header ++ m.taken)) (sym handle) (consumes_more (old.handle (handle_of v.config.input)).bytes (middle.handle (handle_of v.config.input)).bytes (now.handle (handle_of v.config.input)).bytes header m.taken bytes_before bytes_after);
        at_end = subst (λ i. over.ended ≡ true → IsAtEnd (now.handle i).bytes) (sym handle) (subst (λ i. over.ended ≡ true → IsAtEnd (now.handle i).bytes) input_is over.at_end);
        cause = subst (λ i. DeviceCause (mark_of r) (old.handle i).faults (now.handle i).faults) (sym handle)
            (subst (λ x. DeviceCause x (old.handle (handle_of v.config.input)).faults (now.handle (handle_of v.config.input)).faults) (sym (ap mark_of reply_is ∙ done_mark count m1 m.end met (length header + count)))
            (cause_behind m.end (length header + count) (old.handle (handle_of v.config.input)).faults (middle.handle (handle_of v.config.input)).faults (now.handle (handle_of v.config.input)).faults cause_before cause_after));
        steps = λ slots rests sents rest paged place behind.
            let bo : Bytes = bytes_over k.memory slots rests sents in
            let bn : Bytes = bytes_over m1 slots rests sents in
            let shows : ShowsFilled k d p b v g.moved m.taken (bytes_over k.memory slots rests sents) (bytes_over m1 slots rests sents) = lands_filled k d b g.moved v p m1 m.taken good is f.place fits lands slots rests sents in
            let real = steps bo bn m.taken rest shows met (place ∙ append_assoc header m.taken rest) m.end over.ended (met_flat bo bn m.taken rest shows met enc.is enc.input) over.so m.takes.within m.takes.fits behind in
            let real2 : Steps (state_of k bo) (Recv d n) (state_of (done k d b v1 q g count m1 course met) (with_rest d rest bn)) (done_reply k d b v1 q g count m1 course (length header + count) (is_faulted m.end) met) =
            subst (λ s. Steps (state_of k bo) (Recv d n) s (done_reply k d b v1 q g count m1 course (length header + count) (is_faulted m.end) met)) (state_same bo bn m.taken rest shows m1 (with_rest d rest bn) course met)
            (subst (λ x. Steps (state_of k bo) (Recv d n) (state_of (final laws k good bo bn d (length header) b v v1 p q g m.taken rest is kept f shows course met) (with_rest d rest bn)) x) (reply_same bo bn m.taken rest shows m1 (length header + count) m.end met) real) in
            subst (λ (x : Memory). Steps (state_of k bo) (Recv d n) (state_of new (with_rest d rest (bytes_over x slots rests sents))) r) (sym memory_new)
            (subst (λ x. Steps (state_of k bo) (Recv d n) (state_of new (with_rest d rest bn)) x) (sym reply_is)
            (subst (λ (x : Kernel). Steps (state_of k bo) (Recv d n) (state_of x (with_rest d rest bn)) (done_reply k d b v1 q g count m1 course (length header + count) (is_faulted m.end) met)) (sym new_is) real2));
      }
    where
      plain_mark : (count : ℕ) (m : Memory) (c : Course) (met : Option (ℕ × Transfer)) (j i : ℕ) → mark_of (done_reply k d b v1 q g count m c j false met) ≡ mark_of (body_reply More i)
      plain_mark count m GoesOn met j i = refl
      plain_mark count m Ends None j i = refl
      plain_mark count m Ends (Some x) j i = refl
      plain_mark count m IsTruncated None j i = refl
      plain_mark count m IsTruncated (Some x) j i = refl

      done_mark : (count : ℕ) (m : Memory) (end : BodyEnd) (met : Option (ℕ × Transfer)) (j : ℕ) → mark_of (done_reply k d b v1 q g count m (course_of end (length header)) j (is_faulted end) met) ≡ mark_of (body_reply end j)
      done_mark count m More met j = refl
      done_mark count m Whole met j = plain_mark count m Ends met j j
      done_mark count m Truncated met j = plain_mark count m (course_of Truncated (length header)) met j j
      done_mark count m Faulted met j = refl
