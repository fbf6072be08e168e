-- An input whose datagram waits in a buffer ends, and nothing changes but that the buffer is free and what was lent is back.
use Rattle.std.proofs.Common.{◌≡◌, ℕ, ◌<◌, zero, suc, Bool, true, false, List, [], ◌∷◌, refl, sym, ap, subst, arith, rules, ◌∙◌, length, get_or}
use Rattle.std.specs.Prelude.{Option, Some, None, IfSome, find, is_some, not, ◌&&◌, ◌==◌, if◌then◌else◌}
use Rattle.genie_base.specs.Events.{mark_of}
use Rattle.genie_base.specs.Lemmas.Places.{num}
use Rattle.genie_base.specs.Transfers.{class_of}
use Rattle.genie_base.specs.declared.event.Event.TheVariants.{Finish}
use Rattle.genie_base.specs.declared.reply.Mark.TheVariants.{NoFault}
use Rattle.genie_base.specs.declared.reply.Reply.{Reply}
use Rattle.genie_base.specs.declared.reply.Reply.TheVariants as reply
use Rattle.genie_base.specs.declared.semantics.Class.{Class}
use Rattle.genie_base.specs.declared.semantics.Class.TheVariants.{Copy, Share, Move, WeakMove}
use Rattle.genie_base.specs.declared.semantics.Direction.{Direction}
use Rattle.genie_base.specs.declared.semantics.Direction.TheVariants.{Inward}
use Rattle.genie_device.specs.Device.{DeviceView}
use Rattle.genie_input.specs.Pools.{PoolState}
use Rattle.genie_object.specs.declared.memory.Memory.{Memory}
use Rattle.genie_model.specs.Ending.{without_transfer, finish, finish_move, finish_share, region_of}
use Rattle.genie_model.specs.Lemmas.Lists.{all_has, find_has}
use Rattle.genie_model.specs.Pending.{is_inward, is_just, is_ready}
use Rattle.genie_model.specs.Refusing.{refuse}
use Rattle.genie_model.specs.Space.{tidy}
use Rattle.genie_model.specs.Tables.{entry}
use Rattle.genie_orderly.specs.Orderly.{IsOrderly}
use Rattle.genie_kernel.specs.declared.kernel.Kernel.{Kernel}
use Rattle.genie_kernel.specs.declared.transfer.Transfer.{Transfer}
use Rattle.genie_kernel.specs.Calls.{has_arrived, has_number}
use Rattle.genie_kernel.specs.Good.{IsGood}
use Rattle.genie_kernel.specs.Kept.{Kept}
use Rattle.genie_kernel.specs.Matching.{has_buffer, has_waiting}
use Rattle.genie_kernel.specs.Planned.{FitsDevice, is_early_device}
use Rattle.genie_kernel.specs.Steps.{Steps, bytes_over}
use Rattle.genie_kernel.specs.View.{Bytes, state_of, outline, no_bytes}
use Rattle.genie_kernel.specs.Lemmas.Staying.{at_least}
use Rattle.genie_changes.specs.Ending.{LeavesOthers, without_call}
use Rattle.genie_changes.specs.Released.{BuffersShow, ReleasedEnds, ReleasedShows, devices_freed, pools_freed}
use Rattle.genie_changes.specs.Settled.{IsSettled}
use Rattle.genie_arrivals.specs.EndLaws.{EndLaws}
use Rattle.genie_arrivals.specs.Ends.{EndsAlone}
use Rattle.genie_arrivals.specs.Waiting.{EndsWaiting, IsLostWaiting, IsWaiting, LosesBytes}
use Rattle.genie_arrivals.proofs.Finishing.{copy_lost}
use Rattle.genie_arrivals.proofs.Found.{IsIdle, ready_idle, seen_as}
use Rattle.genie_arrivals.proofs.Replying.{input_finish, outcome, quiet_steps, there_view, weak_lost}

has_one : (o : Option ℕ) (arrived early : Bool) → is_some o ≡ (arrived && not early) → arrived ≡ true → early ≡ false → is_some o ≡ true
has_one o arrived early is has late = is ∙ (λ i. has i && not (late i))

one_more : (c : Bool) → 0 < (if c then 1 else 0) → c ≡ true
one_more true l = refl
one_more false l = absurd (omega (arith, l))

there_in : (v : List (Option DeviceView)) (d : ℕ) (len : ℕ) → FitsDevice len (get_or v d None) → d < length v
there_in [] d len h = absurd h
there_in (x ∷ xs) zero len h = omega arith
there_in (x ∷ xs) (suc d) len h = let l = there_in xs d len h in omega (arith, l)

-- what follows for the one that is found
pub if_some : {P Q : Transfer → Type 0} → ((t : Transfer) → P t → Q t) → (o : Option Transfer) → IfSome o P → IfSome o Q
if_some f None h = tt
if_some f (Some t) h = f t h

module _ (k : Kernel) (n : ℕ) (t : Transfer) (g : IsGood k) (found : find (has_number n) k.transfers ≡ Some t) where
  -- its device is one of the eight
  pub device_number : t.dev < 8
  device_number =
      let places = g.equipped.device_places in
      let l = there_in k.devices t.dev t.len (all_has (λ (u : Transfer). FitsDevice u.len (entry k.devices u.dev)) k.transfers g.fitting t (find_has (has_number n) k.transfers t found).0) in
      omega (arith, places, l)

  -- the datagram of a ready input waits in a buffer
  pub has_some : is_ready t.phase ≡ true → IsWaiting k.devices t → is_some t.buffer ≡ true
  has_some ready is =
      let arrived : has_arrived t.dev t ≡ true = ap (λ (d : Direction). is_inward d && is_ready t.phase && (t.dev == t.dev)) is.inward ∙ ap (λ b. b && (t.dev == t.dev)) ready ∙ grind (arith, rules) in
      has_one t.buffer (has_arrived t.dev t) (is_early_device (entry k.devices t.dev)) (all_has (λ (u : Transfer). is_some u.buffer ≡ (has_arrived u.dev u && not (is_early_device (entry k.devices u.dev)))) k.transfers g.arrived.inputs t (find_has (has_number n) k.transfers t found).0) arrived is.late

  pub waits_in : (b : ℕ) → t.buffer ≡ Some b → has_waiting (entry k.devices t.dev) (entry k.pools t.dev) b ≡ true
  waits_in b mine =
      let its : has_buffer t.dev b t ≡ true = ap (λ o. (t.dev == t.dev) && is_just o b) mine ∙ grind (arith, rules) in
      let one : num (has_buffer t.dev b t) ≡ 1 = ap num its in
      let counted = g.arrived.buffers t.dev b in
      let least = at_least (λ (u : Transfer). num (has_buffer t.dev b u)) k.transfers t (find_has (has_number n) k.transfers t found).0 in
      one_more (has_waiting (entry k.devices t.dev) (entry k.pools t.dev) b) (omega (arith, counted, one, least))

module _ (laws : EndLaws) (show : BuffersShow) (end : ReleasedEnds) (release : ReleasedShows) (k : Kernel) (n : ℕ) (t : Transfer) (new : Kernel) (g : IsGood k) (accepted : refuse (outline k) (Finish n) ≡ None) (ready : is_ready t.phase ≡ true) (x : EndsWaiting n k new t) where
  abbrev pub idle : IsIdle t.phase
  idle = ready_idle t.phase ready

  abbrev pub ended : Memory
  ended = record (k.memory) { frames = new.memory.frames }

  -- the kernel without the transfer, and then without what its buffer held
  abbrev pub less : Kernel
  less = without_call k ended n k.posted

  abbrev pub devices : List (Option DeviceView)
  devices = devices_freed k.devices k.pools t.dev x.buffer

  abbrev pub pools : List (Option PoolState)
  pools = pools_freed k.pools t.dev x.buffer

  abbrev pub freed : Kernel
  freed = record less { devices = devices; pools = pools }

  settled : IsSettled k
  settled = laws.settled k g

  others : LeavesOthers n t k.transfers k.pools k.memory ended
  others = laws.given k.config.page k.memory k.devices n t k.transfers k.pools new.memory.frames (laws.lends k n settled) x.found x.shaped x.lent x.back

  pub freed_settled : IsSettled freed
  freed_settled = laws.ends k ended n t k.posted devices pools settled x.found idle.unqueued idle.unmoved (laws.ended k n t new.memory.frames settled x.back others) (end k n t x.buffer settled x.found x.mine) (laws.posted (has_number n) t k.posted k.transfers x.found idle.unposted g.posted)

  pub freed_kept : Kept k freed
  freed_kept =
      let kept : Kept k less = laws.kept k ended n t k.posted settled x.found others in
      record {
        lent = λ j f a b y. kept.lent j f a b (record { was = y.was; is = y.is });
        pooled = λ d f on still. kept.pooled d f on on;
        fresh = λ j f a b y. kept.fresh j f a b (record { was = y.was; is = y.is });
      }

  freed_same : (b : Bytes) → state_of freed b ≡ state_of less b
  freed_same b = show less devices pools b (release k n t x.buffer b.seen.kept_bytes settled x.found x.mine x.filling)

  pub freed_outline : outline freed ≡ tidy (without_transfer (outline k) n)
  freed_outline = freed_same (no_bytes k.config.page) ∙ laws.leaves k ended n t k.posted (no_bytes k.config.page) (no_bytes k.config.page) g x.found idle.unqueued idle.unmoved (laws.outlines k n)

  pub freed_shown : (slots rests sents : ℕ → List ℕ) → state_of freed (bytes_over ended slots rests sents) ≡ tidy (without_transfer (state_of k (bytes_over k.memory slots rests sents)) n)
  freed_shown slots rests sents =
      freed_same (bytes_over ended slots rests sents)
      ∙ laws.leaves k ended n t k.posted (bytes_over k.memory slots rests sents) (bytes_over ended slots rests sents) g x.found idle.unqueued idle.unmoved (laws.shows k ended n t slots rests sents settled others)

  module _ (r : Reply) (mark : mark_of r ≡ NoFault) (fin : (b : Bytes) → finish (state_of k b) n ≡ outcome (without_transfer (state_of k b) n) r) where
    freed_orderly : IsOrderly (outline freed)
    freed_orderly =
        let steps : Steps (outline k) (Finish n) (outline freed) r = quiet_steps (outline k) (outline freed) n r (without_transfer (outline k) n) (fin (no_bytes k.config.page)) mark freed_outline in
        laws.orderly (outline k) (outline freed) (Finish n) r refl accepted steps g.orderly

    -- the end of such an input whose bytes go nowhere
    pub ends_waiting : EndsAlone k n new r
    ends_waiting = subst (λ (z : Kernel). EndsAlone k n z r) (sym x.only) (record {
      good = laws.good freed freed_settled freed_orderly;
      sized = λ v s. record { count = s.count; page = s.page ∙ sym (x.back.loans.page ∙ x.back.wires.only.page) };
      kept = freed_kept;
      step = λ slots rests sents. quiet_steps (state_of k (bytes_over k.memory slots rests sents)) (state_of freed (bytes_over ended slots rests sents)) n r (without_transfer (state_of k (bytes_over k.memory slots rests sents)) n) (fin (bytes_over k.memory slots rests sents)) mark (freed_shown slots rests sents);
      config = refl;
      numbers = refl;
      unfailed = mark;
      meters = x.back.loans.meters ∙ x.back.wires.only.meters;
      landed = x.back.loans.landed ∙ x.back.wires.only.landed;
    })

none_of : {X : Type 0} (o : Option X) → is_some o ≡ false → o ≡ None
none_of None e = refl
none_of (Some x) e = absurd (cc)

-- an input that has nowhere to put its bytes, by its class
lost_as : (k : Kernel) (b : Bytes) (n p : ℕ) (t : Transfer) (class : Class) → find (has_number n) k.transfers ≡ Some t → t.owner ≡ Some p → t.dir ≡ Inward → class_of t.sem ≡ class → LosesBytes k t class → finish (state_of k b) n ≡ outcome (without_transfer (state_of k b) n) reply.Lost
lost_as k b n p t Copy found owner inward is loses = copy_lost k b n p t found owner inward is (loses p owner)
lost_as k b n p t Share found owner inward is loses = input_finish k b n p t Share found owner inward is ∙ ap (finish_share (without_transfer (state_of k b) n) (seen_as k b t)) (none_of (region_of (state_of k b) (seen_as k b t)) (there_view k b t ∙ loses))
lost_as k b n p t Move found owner inward is loses = input_finish k b n p t Move found owner inward is ∙ ap (finish_move (without_transfer (state_of k b) n) (seen_as k b t)) (none_of (region_of (state_of k b) (seen_as k b t)) (there_view k b t ∙ loses))
lost_as k b n p t WeakMove found owner inward is loses = weak_lost k b n p t found owner inward is loses

pub lost_finish : (k : Kernel) (b : Bytes) (n : ℕ) (t : Transfer) → find (has_number n) k.transfers ≡ Some t → IsLostWaiting k t → finish (state_of k b) n ≡ outcome (without_transfer (state_of k b) n) reply.Lost
lost_finish k b n t found is = lost_as k b n is.pid t (class_of t.sem) found is.owner is.waiting.inward refl is.loses
