-- The records that a device has sent whole are those of the outputs that don't wait any more.
use Rattle.std.proofs.Common.{◌≡◌, ◌⊎◌, inl, inr, ⊎_elim, ℕ, zero, suc, ◌+◌, ◌<◌, ◌≤◌, true, ◌==◌, AllPairs, List, [], ◌∷◌, ◌++◌, length, drop, map, filter, get_or, append-nil, append_assoc, refl, sym, ap, ap₂, subst, ◌∙◌, true≢false, arith}
use Rattle.std.specs.Prelude.{⊤, All, IsTrue}
use Rattle.std.specs.List.{Any}
use Rattle.std.proofs.lemmas.Bool.{cond_both, and_parts}
use Rattle.std.proofs.lemmas.List.{length-append, length-take-le, length-drop}
use Rattle.std.proofs.lemmas.List.Elements.{All-head, All-tail, All-push}
use Rattle.genie_base.specs.Bytes.{part}
use Rattle.genie_base.specs.Events.{is_whole, mark_of}
use Rattle.genie_base.specs.Records.{header_len, header_bytes}
use Rattle.genie_base.specs.declared.event.Event.{Event}
use Rattle.genie_base.specs.declared.reply.Reply.{Reply}
use Rattle.genie_base.specs.declared.semantics.Class.{Class}
use Rattle.genie_base.specs.declared.semantics.Class.TheVariants.{Copy, Share, Move, WeakMove}
use Rattle.genie_model.specs.Pending.{is_queued, is_ready, waits_for}
use Rattle.genie_model.specs.declared.phase.Phase.{Phase}
use Rattle.genie_model.specs.declared.phase.Phase.TheVariants.{Queued}
use Rattle.genie_model.specs.Lemmas.Lists.{Has, has_at}
use Rattle.genie_laws.proofs.Outputs.Called.{Called, run_called}
use Rattle.genie_model.specs.Sending.{sent_of, record_of, unsent}
use Rattle.genie_model.specs.State.{State, Transfer, boot}
use Rattle.genie_model.specs.Step.{step, Follows}
use Rattle.genie_model.specs.Lemmas.SendQueues.{plain, queue, same_number}
use Rattle.genie_orderly.specs.Orderly.{IsOrderly}
use Rattle.genie_orderly.specs.Steps.{Stays, BootIsOrderly, RunsStayOrderly}
use Rattle.genie_laws.specs.Integrity.{Accepted, accepted, outputs, states, HasPayload, ArePayloads, records, moved_of, IsCallOf, IsAmong, OutputsAreSentWhole}
use Rattle.genie_laws.proofs.Outputs.ReceiveSteps.{Meets}
use Rattle.genie_laws.proofs.Outputs.Records.{AreWaiting, begun, begun_more, begun_none, header_length, HasLength, sends_whole}
use Rattle.genie_laws.proofs.Outputs.Turns.{Turn, still, called, stages, sends, ends, turn_waiting}
use Rattle.genie_laws.proofs.Outputs.Events.{step_goes}
use Rattle.genie_laws.proofs.Outputs.Sent.{boot_meets, boot_sent, outputs_keep_integrity}

-- how many bytes the records of these outputs have
abbrev total : List Accepted → ℕ
total [] = 0
total (o ∷ os) = length o.header + o.len + total os

total-append : (xs ys : List Accepted) → total (xs ++ ys) ≡ total xs + total ys
total-append [] ys = omega arith
total-append (x ∷ xs) ys = let rest = total-append xs ys in omega (arith, rest)

-- the output is that of this transfer
record IsOf (o : Accepted) (t : Transfer) : Type 0 where
  number : o.number ≡ t.number
  size : length o.header + o.len ≡ header_len t.flow + t.len

abbrev AreOf : List Accepted → List Transfer → Type 0
AreOf [] [] = ⊤
AreOf (o ∷ os) (t ∷ ts) = IsOf o t × AreOf os ts
AreOf os ts = ⊥

of_more : (os : List Accepted) (ts : List Transfer) (o : Accepted) (t : Transfer) → AreOf os ts → IsOf o t → AreOf (os ++ o ∷ []) (ts ++ t ∷ [])
of_more [] [] o t h is = (is, tt)
of_more (p ∷ os) (u ∷ ts) o t h is = (h.0, of_more os ts o t h.1 is)
of_more [] (u ∷ ts) o t h is = absurd h
of_more (p ∷ os) [] o t h is = absurd h

abbrev AreLong : List Accepted → Type 0
AreLong os = All (λ (o : Accepted). HasLength o o.class) os

-- of the outputs that were accepted so far some are sent whole, and the others wait
record Split (os : List Accepted) (q : List Transfer) (sent : List ℕ) : Type 0 where
  over : List Accepted
  waiting : List Accepted
  all : os ≡ over ++ waiting
  are : AreOf waiting q
  count : length sent ≡ total over + begun q
  long : AreLong os

-- the first one that waits
record Cut (os : List Accepted) (t : Transfer) (rest : List Transfer) (over : List Accepted) : Type 0 where
  first : Accepted
  later : List Accepted
  all : os ≡ over ++ first ∷ later
  is : IsOf first t
  are : AreOf later rest

cut : (os over waiting : List Accepted) (t : Transfer) (rest : List Transfer) → os ≡ over ++ waiting → AreOf waiting (t ∷ rest) → Cut os t rest over
cut os over [] t rest all are = absurd are
cut os over (o ∷ waiting) t rest all are = record { first = o; later = waiting; all = all; is = are.0; are = are.1 }

sent_more : (t : Transfer) (sent bytes : List ℕ) (k : ℕ) → length bytes ≡ t.len → t.moved + k ≤ header_len t.flow + t.len → length (sent ++ part t.moved k (record_of t bytes)) ≡ length sent + k
sent_more t sent bytes k whole within =
    let r : List ℕ = record_of t bytes in
    let long : length r ≡ header_len t.flow + t.len = omega (arith, length-append (header_bytes t.port t.flow t.len) bytes, header_length t.port t.flow t.len, whole) in
    let rest = length-drop t.moved r in
    omega (arith, length-append sent (part t.moved k r), length-take-le k (drop t.moved r) (omega (arith, rest, long, within)))

-- a turn of those that wait
module _ (d : ℕ) (s : State) (before : List Accepted) where
  turn_split : (q : List Transfer) (sent : List ℕ) (accepted : List State → List Accepted) (later : List State) → Turn d s q sent accepted → AreWaiting (queue d s.transfers) → Split before (queue d s.transfers) (sent_of s d) → Split (before ++ accepted later) q sent
  turn_split q sent accepted later (still same says none) w h = rw (none later, same, says, append-nil before) h
  turn_split q sent accepted later (called t o waits unmoved number call same says one) w h =
      let is = call later in
      let size : length (o later).header + (o later).len ≡ header_len t.flow + t.len = omega (arith, is.len, ap length is.header, header_length t.port t.flow t.len) in
      rw (one later, same, says) (record {
        over = h.over;
        waiting = h.waiting ++ o later ∷ [];
        all = ap (λ l. l ++ o later ∷ []) h.all ∙ append_assoc h.over h.waiting (o later ∷ []);
        are = of_more h.waiting (queue d s.transfers) (o later) t h.are (record { number = is.number; size = size });
        count = h.count ∙ ap (λ n. total h.over + n) (sym (begun_more (queue d s.transfers) t unmoved));
        long = All-push (λ (x : Accepted). HasLength x x.class) before (o later) h.long is.long;
      })
  turn_split q sent accepted later (stages t rest k now first most is same says none) w h =
      let c = cut before h.over h.waiting t rest h.all (subst (AreOf h.waiting) first h.are) in
      let count : length (sent_of s d) ≡ total h.over + t.moved = h.count ∙ ap (λ l. total h.over + begun l) first in
      rw (none later, same, says, append-nil before) (record { over = h.over; waiting = c.first ∷ c.later; all = c.all; are = (record { number = c.is.number; size = c.is.size }, c.are); count = count; long = h.long })
  turn_split q sent accepted later (sends t rest k bytes first less is same says none) w h =
      let c = cut before h.over h.waiting t rest h.all (subst (AreOf h.waiting) first h.are) in
      let count : length (sent_of s d) ≡ total h.over + t.moved = h.count ∙ ap (λ l. total h.over + begun l) first in
      let old = (subst AreWaiting first w).0 in
      let moved = old.moved in
      let more = sent_more t (sent_of s d) bytes k (sends_whole s t bytes t.class old.bytes is) (omega (arith, less, moved)) in
      rw (none later, same, says, append-nil before) (record { over = h.over; waiting = c.first ∷ c.later; all = c.all; are = (record { number = c.is.number; size = c.is.size }, c.are); count = omega (arith, more, count); long = h.long })
  turn_split q sent accepted later (ends t rest bytes first is same says none) w h =
      let c = cut before h.over h.waiting t rest h.all (subst (AreOf h.waiting) first h.are) in
      let count : length (sent_of s d) ≡ total h.over + t.moved = h.count ∙ ap (λ l. total h.over + begun l) first in
      let both = subst AreWaiting first w in
      let moved = both.0.moved in
      let more = sent_more t (sent_of s d) bytes (unsent t) (sends_whole s t bytes t.class both.0.bytes is) (omega (arith, moved)) in
      let size = c.is.size in
      let sum = total-append h.over (c.first ∷ []) in
      rw (none later, same, says, append-nil before) (record {
        over = h.over ++ c.first ∷ [];
        waiting = c.later;
        all = c.all ∙ sym (append_assoc h.over (c.first ∷ []) c.later);
        are = c.are;
        count = omega (arith, more, count, moved, size, sum, begun_none rest both.1);
        long = h.long;
      })

run_split : Stays IsOrderly → (d : ℕ) (before : List Accepted) (s : State) (es : List Event) (rs : List Reply) (last : State) → IsOrderly s → AreWaiting (queue d s.transfers) → Meets d s → Split before (queue d s.transfers) (sent_of s d) → All (λ (e : Event). IsTrue (is_whole e)) es → Follows s es rs last
    → Split (before ++ outputs d s es rs) (queue d last.transfers) (sent_of last d)
run_split stay d before s [] [] last o w meets h whole f = rw (append-nil before) (subst (λ (t : State). Split before (queue d t.transfers) (sent_of t d)) f h)
run_split stay d before s (e ∷ es) (r ∷ rs) last o w meets h whole f =
    let t : State = (step s e (mark_of r)).0 in
    let Whole : Event → Type 0 = λ x. IsTrue (is_whole x) in
    let goes = step_goes d s e (mark_of r) o w meets in
    let turn = subst (λ x. Turn d s (queue d t.transfers) (sent_of t d) (accepted d s e x)) f.0 goes.0 in
    let now : List Accepted = accepted d s e r (states t es rs) in
    subst (λ l. Split l (queue d last.transfers) (sent_of last d)) (append_assoc before now (outputs d t es rs))
    (run_split stay d (before ++ now) t es rs last (stay s e (mark_of r) (All-head Whole e es whole) o) (turn_waiting d s (queue d t.transfers) (sent_of t d) (accepted d s e r) turn w) goes.1
    (turn_split d s before (queue d t.transfers) (sent_of t d) (accepted d s e r) (states t es rs) turn w h) (All-tail Whole e es whole) f.1)
run_split stay d before s [] (r ∷ rs) last o w meets h whole f = absurd f
run_split stay d before s (e ∷ es) [] last o w meets h whole f = absurd f

-- the numbers of those that wait
waiting_numbers : (d : ℕ) (os : List Accepted) (ts : List Transfer) → AreOf os (queue d ts) → map (λ (o : Accepted). o.number) os ≡ map (λ (t : Transfer). t.number) (filter (waits_for d) ts)
waiting_numbers d os ts are = of_numbers os (queue d ts) are ∙ queue_numbers ts
  where
    of_numbers : (os : List Accepted) (q : List Transfer) → AreOf os q → map (λ (o : Accepted). o.number) os ≡ map (λ (t : Transfer). t.number) q
    of_numbers [] [] h = refl
    of_numbers (o ∷ os) (t ∷ q) h = ap₂ (λ n l. n ∷ l) h.0.number (of_numbers os q h.1)
    of_numbers [] (t ∷ q) h = absurd h
    of_numbers (o ∷ os) [] h = absurd h

    queue_numbers : (ts : List Transfer) → map (λ (t : Transfer). t.number) (queue d ts) ≡ map (λ (t : Transfer). t.number) (filter (waits_for d) ts)
    queue_numbers [] = refl
    queue_numbers (t ∷ ts) = cond_both (waits_for d t) (plain t ∷ queue d ts) (queue d ts) (λ l. map (λ (t : Transfer). t.number) l ≡ map (λ (t : Transfer). t.number) (filter (waits_for d) (t ∷ ts)))
        (λ yes. rw yes (ap (λ l. t.number ∷ l) (queue_numbers ts))) (λ other. rw other (queue_numbers ts))

-- what is sent of the first one that waits
waiting_moved : (d : ℕ) (ts : List Transfer) → begun (queue d ts) ≡ moved_of (filter (waits_for d) ts)
waiting_moved d [] = refl
waiting_moved d (t ∷ ts) = cond_both (waits_for d t) (plain t ∷ queue d ts) (queue d ts) (λ l. begun l ≡ moved_of (filter (waits_for d) (t ∷ ts))) (λ waits. rw waits refl) (λ other. rw other (waiting_moved d ts))

-- payloads of some and of others
record Parted (over waiting : List Accepted) (payloads : List (List ℕ)) : Type 0 where
  first : List (List ℕ)
  others : List (List ℕ)
  are : ArePayloads over first
  are_others : ArePayloads waiting others
  same : records (over ++ waiting) payloads ≡ records over first ++ records waiting others
  count : length (records over first) ≡ total over

payload_long : (o : Accepted) (p : List ℕ) (class : Class) → HasLength o class → HasPayload class o p → length p ≡ o.len
payload_long o p Copy long is = ap length is ∙ long
payload_long o p Share long is = is.whole
payload_long o p Move long is = ap length is ∙ long
payload_long o p WeakMove long is = is.whole

parted : (over waiting : List Accepted) (payloads : List (List ℕ)) → ArePayloads (over ++ waiting) payloads → AreLong (over ++ waiting) → Parted over waiting payloads
parted [] waiting payloads are long = record { first = []; others = payloads; are = tt; are_others = are; same = refl; count = refl }
parted (o ∷ over) waiting [] are long = absurd are
parted (o ∷ over) waiting (p ∷ payloads) are long =
    let Long : Accepted → Type 0 = λ x. HasLength x x.class in
    let rest = parted over waiting payloads are.1 (All-tail Long o (over ++ waiting) long) in
    let count = rest.count in
    let size = payload_long o p o.class (All-head Long o (over ++ waiting) long) are.0 in
    record {
      first = p ∷ rest.first;
      others = rest.others;
      are = (are.0, rest.are);
      are_others = rest.are_others;
      same = ap (λ l. o.header ++ p ++ l) rest.same ∙ sym (append_assoc (o.header ++ p) (records over rest.first) (records waiting rest.others));
      count = omega (arith, length-append (o.header ++ p) (records over rest.first), length-append o.header p, count, size);
    }

-- where one front is no longer than the other
split_at : (a b c left : List ℕ) → a ++ b ≡ c ++ left → length a ≤ length c → (begun : List ℕ) × (c ≡ a ++ begun) × (b ≡ begun ++ left)
split_at [] b c left e short = (c, refl, e)
split_at (x ∷ a) b [] left e short = absurd (omega (arith, short))
split_at (x ∷ a) b (y ∷ c) left e short =
    let rest = split_at a b c left (ap (drop 1) e) (omega (arith, short)) in
    let first : y ≡ x = sym (ap (λ l. get_or l 0 0) e) in
    (rest.0, ap₂ (λ n l. n ∷ l) first rest.1, rest.2)

any_either : (P : Accepted → Type 0) (xs ys : List Accepted) → Any P (xs ++ ys) → Any P xs ⊎ Any P ys
any_either P [] ys h = inr h
any_either P (x ∷ xs) ys (zero, q, lt, is, p) = inl (0, q, omega arith, is, p)
any_either P (x ∷ xs) ys (suc k, q, lt, is, p) = ⊎_elim (λ (h : Any P xs). inl (suc h.0, h.1, omega (arith, h.2), h.3, h.4)) inr (any_either P xs ys (k, q, omega (arith, lt), is, p))

-- the number of one that waits
number_of_one : (t : Transfer) (xs : List Accepted) → Any (IsCallOf t) xs → Has t.number (map (λ (o : Accepted). o.number) xs)
number_of_one t [] h = absurd (omega (arith, h.2))
number_of_one t (x ∷ xs) (zero, q, lt, is, p) = inl (ap (λ (o : Accepted). o.number) is ∙ p.0)
number_of_one t (x ∷ xs) (suc k, q, lt, is, p) = inr (number_of_one t xs (k, q, omega (arith, lt), is, p))

one_waits : (d n : ℕ) (ts : List Transfer) → Has n (map (λ (t : Transfer). t.number) (filter (waits_for d) ts)) → (w : Transfer) × Has w ts × (waits_for d w ≡ true) × (w.number ≡ n)
one_waits d n [] h = absurd h
one_waits d n (t ∷ ts) h = cond_both (waits_for d t) (t ∷ filter (waits_for d) ts) (filter (waits_for d) ts) (λ l. Has n (map (λ (t : Transfer). t.number) l) → (w : Transfer) × Has w (t ∷ ts) × (waits_for d w ≡ true) × (w.number ≡ n))
    (λ waits g. ⊎_elim (λ (same : t.number ≡ n). (t, inl refl, waits, same)) (λ later. let r = one_waits d n ts later in (r.0, inr r.1, r.2, r.3)) g)
    (λ _ g. let r = one_waits d n ts g in (r.0, inr r.1, r.2, r.3)) h

ready_waits : (phase : Phase) → is_queued phase ≡ true → is_ready phase ≡ true → ⊥
ready_waits Queued q r = true≢false (sym r)
ready_waits phase q r = true≢false (sym q)

-- a ready one doesn't wait
ready_over : (d : ℕ) (over waiting : List Accepted) (ts : List Transfer) → AllPairs (λ (t u : Transfer). t.number < u.number) ts → map (λ (o : Accepted). o.number) waiting ≡ map (λ (t : Transfer). t.number) (filter (waits_for d) ts) → All (Called d (over ++ waiting)) ts → All (IsAmong over d) ts
ready_over d over waiting ts order numbers each i c lt out at ready = ⊎_elim (λ h. h)
    (λ waits.
    let t = get_or ts i c in
    let one = one_waits d t.number ts (subst (Has t.number) numbers (number_of_one t waiting waits)) in
    let same = same_number ts order one.0 t one.1 (has_at ts i c lt) one.3 in
    absurd (ready_waits t.phase (and_parts (is_queued t.phase) (t.device == d) (subst (λ x. waits_for d x ≡ true) same one.2)).0 ready))
    (any_either (IsCallOf (get_or ts i c)) over waiting (each i c lt out at))

pub outputs_are_sent_whole : BootIsOrderly → Stays IsOrderly → RunsStayOrderly → OutputsAreSentWhole
outputs_are_sent_whole boots stay follow c inputs es rs last d fits whole f =
    let start : State = boot c inputs in
    let sends = outputs_keep_integrity boots stay c inputs es rs last d fits whole f in
    let none : Split [] (queue d start.transfers) (sent_of start d) = record { over = []; waiting = []; all = refl; are = tt; count = ap length (boot_sent inputs c.devices 0 d); long = λ k x lt. absurd (omega arith) } in
    let h = run_split stay d [] start es rs last (boots c inputs fits) tt (λ dev. boot_meets inputs c.devices 0 dev) none whole f in
    let parts = parted h.over h.waiting sends.payloads (subst (λ l. ArePayloads l sends.payloads) h.all sends.are) (subst AreLong h.all h.long) in
    let count = h.count in
    let at = split_at (records h.over parts.first) (records h.waiting parts.others) (sent_of last d) sends.left
    (sym parts.same ∙ ap (λ l. records l sends.payloads) (sym h.all) ∙ sends.front) (omega (arith, parts.count, count)) in
    record {
      over = h.over;
      waiting = h.waiting;
      all = h.all;
      wait = waiting_numbers d h.waiting last.transfers h.are;
      payloads = parts.first;
      are = parts.are;
      others = parts.others;
      are_others = parts.are_others;
      begun = at.0;
      sent = at.1;
      part = omega (arith, parts.count, count, ap length at.1, length-append (records h.over parts.first) at.0, waiting_moved d last.transfers);
      left = sends.left;
      front = at.2;
      ready = ready_over d h.over h.waiting last.transfers (follow c inputs es rs last fits whole f).transfers.order (waiting_numbers d h.waiting last.transfers h.are)
          (subst (λ l. All (Called d l) last.transfers) h.all (run_called d [] start es rs last (λ i x lt. absurd (omega arith)) f));
    }
