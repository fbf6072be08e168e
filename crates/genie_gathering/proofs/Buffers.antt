-- The buffers of a device while a datagram comes into one of them.
use Rattle.std.proofs.Common.{◌≡◌, ◌≢◌, ℕ, ◌+◌, ◌<◌, zero, suc, Bool, true, false, cond, rules, List, [], ◌∷◌, ◌++◌, refl, sym, ap, subst, arith, ◌∙◌, ⊎_elim, length, get_or}
use Rattle.std.specs.Prelude.{Option, Some, None, IfSome, is_some, nat_lt}
use Rattle.std.specs.List.{position_or_len}
use Rattle.std.proofs.lemmas.List.Sums.{passes_at_first}
use Rattle.std.proofs.lemmas.List.{length-set, get_or-set_same, get_or-set_other}
use Rattle.genie_base.specs.Lemmas.Places.{same_or}
use Rattle.genie_base.specs.declared.config.Kind.TheVariants.{Outboard}
use Rattle.genie_device.specs.Buffers.{BufferState, BufferView, Free, Filling, Arrived, no_buffer, state_at, with_state, is_free, is_filling, is_arrived, bytes_in, first_free, begun, filled, arrived}
use Rattle.genie_device.specs.Device.{DeviceView, after_body, after_header, buffer_of, finished, is_outboard, more_moved, moved_of}
use Rattle.genie_device.specs.Kept.{AreBuffers, IsAllowed, IsFilledTo}
use Rattle.genie_device.specs.declared.present.Present.{Present}
use Rattle.genie_device.specs.declared.steps.HeaderEnd.TheVariants.{Whole}
use Rattle.genie_wire.specs.declared.header.Header.{Header}

pub state_here : (s : BufferState) (i : ℕ) (bs : List BufferView) → i < length bs → state_at (with_state s i bs) i ≡ s
state_here s i bs l = ap (λ (x : BufferView). x.state) (get_or-set_same bs i (record (get_or bs i no_buffer) { state = s }) no_buffer l)

pub state_there : (s : BufferState) (i j : ℕ) (bs : List BufferView) → j ≢ i → state_at (with_state s i bs) j ≡ state_at bs j
state_there s i j bs n = ap (λ (x : BufferView). x.state) (get_or-set_other bs i j (record (get_or bs i no_buffer) { state = s }) no_buffer n)

pub as_many : (s : BufferState) (i : ℕ) (bs : List BufferView) → length (with_state s i bs) ≡ length bs
as_many s i bs = length-set bs i (record (get_or bs i no_buffer) { state = s })

-- a buffer that isn't free is there
pub in_range : (bs : List BufferView) (i : ℕ) → is_free (state_at bs i) ≡ false → i < length bs
in_range [] i e = absurd (cc)
in_range (b ∷ bs) zero e = omega arith
in_range (b ∷ bs) (suc i) e = omega (arith, in_range bs i e)

-- the datagrams that wait in buffers stay there
pub record KeepsWaiting (v w : DeviceView) : Type 0 where
  pub config : w.config ≡ v.config
  pub limit : w.limit ≡ v.limit
  pub staged : w.staged ≡ v.staged
  pub sent : w.sent ≡ v.sent
  pub waiting : (b : ℕ) → is_arrived (state_at v.buffers b) ≡ true → state_at w.buffers b ≡ state_at v.buffers b

-- of its buffers, only this one changes, in which none waited
pub record Touches (buffer : ℕ) (v w : DeviceView) : Type 0 where
  pub config : w.config ≡ v.config
  pub limit : w.limit ≡ v.limit
  pub staged : w.staged ≡ v.staged
  pub sent : w.sent ≡ v.sent
  pub unwaiting : is_arrived (state_at v.buffers buffer) ≡ false
  pub others : (b : ℕ) → b ≢ buffer → state_at w.buffers b ≡ state_at v.buffers b

pub apart_from : (buffer : ℕ) (v : DeviceView) (b : ℕ) → is_arrived (state_at v.buffers buffer) ≡ false → is_arrived (state_at v.buffers b) ≡ true → b ≢ buffer
apart_from buffer v b free waits e = let clash : true ≡ false = sym waits ∙ ap (λ i. is_arrived (state_at v.buffers i)) e ∙ free in absurd (cc)

pub keeps_waiting : (buffer : ℕ) (v w : DeviceView) → Touches buffer v w → KeepsWaiting v w
keeps_waiting buffer v w t = record { config = t.config; limit = t.limit; staged = t.staged; sent = t.sent; waiting = λ b e. t.others b (apart_from buffer v b t.unwaiting e) }

-- another state of it
pub touched : (buffer : ℕ) (v w : DeviceView) (s : BufferState) (p : Option Present) → Touches buffer v w → Touches buffer v (record w { present = p; buffers = with_state s buffer w.buffers })
touched buffer v w s p t = record { config = t.config; limit = t.limit; staged = t.staged; sent = t.sent; unwaiting = t.unwaiting; others = λ b n. state_there s buffer b w.buffers n ∙ t.others b n }

-- which buffers have a datagram that waits, where this one has or hasn't
pub waits_alike : (buffer : ℕ) (v w : DeviceView) → Touches buffer v w → is_arrived (state_at w.buffers buffer) ≡ false → (b : ℕ) → is_arrived (state_at w.buffers b) ≡ is_arrived (state_at v.buffers b)
waits_alike buffer v w t free b = ⊎_elim
    (λ (e : b ≡ buffer). ap (λ i. is_arrived (state_at w.buffers i)) e ∙ free ∙ sym (ap (λ i. is_arrived (state_at v.buffers i)) e ∙ t.unwaiting))
    (λ (n : b ≢ buffer). ap is_arrived (t.others b n))
    (same_or b buffer)

-- a device v is v1 once its header is gathered, and has the datagram g, whose bytes so far are in this buffer
pub record Fills (buffer : ℕ) (held : List ℕ) (v v1 : DeviceView) (g : Present) : Type 0 where
  pub touches : Touches buffer v v1
  pub kind : v1.config.kind ≡ Outboard
  pub present : v1.present ≡ Some g
  pub place : g.buffer ≡ Some buffer
  pub state : state_at v1.buffers buffer ≡ Filling held
  pub size : length held ≡ g.moved

pub there_is : (buffer : ℕ) (held : List ℕ) (v v1 : DeviceView) (g : Present) → Fills buffer held v v1 g → buffer < length v1.buffers
there_is buffer held v v1 g f = in_range v1.buffers buffer (ap is_free f.state)

-- with more bytes
abbrev pub filled_device : ℕ → List ℕ → Present → ℕ → DeviceView → DeviceView
filled_device buffer all g count v1 = record v1 { present = Some (record g { moved = g.moved + count }); buffers = with_state (Filling all) buffer v1.buffers }

-- with all that have come
abbrev pub arrived_device : ℕ → List ℕ → DeviceView → DeviceView
arrived_device buffer all v1 = record v1 { present = None; buffers = with_state (Arrived all) buffer (with_state (Filling all) buffer v1.buffers) }

-- and dropped
abbrev pub dropped_device : ℕ → List ℕ → DeviceView → DeviceView
dropped_device buffer all v1 = record v1 { present = None; buffers = with_state Free buffer (with_state (Arrived all) buffer (with_state (Filling all) buffer v1.buffers)) }

pub filled_is : (buffer : ℕ) (held bytes : List ℕ) (v v1 : DeviceView) (g : Present) → Fills buffer held v v1 g → after_body bytes v1 ≡ filled_device buffer (held ++ bytes) g (length bytes) v1
filled_is buffer held bytes v v1 g f =
    (λ i. record v1 { present = more_moved (length bytes) (f.present i); buffers = filled (buffer_of (f.present i)) bytes v1.buffers })
    ∙ (λ i. record v1 { present = Some (record g { moved = g.moved + length bytes }); buffers = filled (f.place i) bytes v1.buffers })
    ∙ (λ i. record v1 { present = Some (record g { moved = g.moved + length bytes }); buffers = with_state (Filling (bytes_in (f.state i) ++ bytes)) buffer v1.buffers })

pub finished_is : (buffer : ℕ) (all : List ℕ) (count : ℕ) (v1 : DeviceView) (g : Present) → g.buffer ≡ Some buffer → buffer < length v1.buffers → finished (filled_device buffer all g count v1) ≡ arrived_device buffer all v1
finished_is buffer all count v1 g place there =
    (λ i. record v1 { present = None; buffers = arrived (place i) (with_state (Filling all) buffer v1.buffers) })
    ∙ (λ i. record v1 { present = None; buffers = with_state (Arrived (bytes_in (state_here (Filling all) buffer v1.buffers there i))) buffer (with_state (Filling all) buffer v1.buffers) })

module _ (buffer : ℕ) (held bytes : List ℕ) (v v1 : DeviceView) (g : Present) (f : Fills buffer held v v1 g) where
  abbrev all : List ℕ
  all = held ++ bytes

  there : buffer < length v1.buffers
  there = there_is buffer held v v1 g f

  pub filled_touches : Touches buffer v (filled_device buffer all g (length bytes) v1)
  filled_touches = touched buffer v v1 (Filling all) (Some (record g { moved = g.moved + length bytes })) f.touches

  pub arrived_touches : Touches buffer v (arrived_device buffer all v1)
  arrived_touches = touched buffer v (filled_device buffer all g (length bytes) v1) (Arrived all) None filled_touches

  pub dropped_touches : Touches buffer v (dropped_device buffer all v1)
  dropped_touches = touched buffer v (arrived_device buffer all v1) Free None arrived_touches

  pub filled_state : state_at (filled_device buffer all g (length bytes) v1).buffers buffer ≡ Filling all
  filled_state = state_here (Filling all) buffer v1.buffers there

  still_there : buffer < length (with_state (Filling all) buffer v1.buffers)
  still_there = omega (arith, there, as_many (Filling all) buffer v1.buffers)

  pub arrived_state : state_at (arrived_device buffer all v1).buffers buffer ≡ Arrived all
  arrived_state = state_here (Arrived all) buffer (with_state (Filling all) buffer v1.buffers) still_there

  pub dropped_state : state_at (dropped_device buffer all v1).buffers buffer ≡ Free
  dropped_state = state_here Free buffer (with_state (Arrived all) buffer (with_state (Filling all) buffer v1.buffers)) (omega (arith, still_there, as_many (Arrived all) buffer (with_state (Filling all) buffer v1.buffers)))

filling_bytes : (s : BufferState) → is_filling s ≡ true → s ≡ Filling (bytes_in s)
filling_bytes Free e = absurd (cc)
filling_bytes (Filling bytes) e = refl
filling_bytes (Arrived bytes) e = absurd (cc)

filling_unwaiting : (s : BufferState) → is_filling s ≡ true → is_arrived s ≡ false
filling_unwaiting Free e = refl
filling_unwaiting (Filling bytes) e = refl
filling_unwaiting (Arrived bytes) e = absurd (cc)

some_number : (o : Option ℕ) → is_some o ≡ true → (n : ℕ) × (o ≡ Some n)
some_number None e = absurd (cc)
some_number (Some n) e = (n, refl)

-- the datagram that is present fills a buffer
pub record HasBuffer (v : DeviceView) (g : Present) : Type 0 where
  pub buffer : ℕ
  pub held : List ℕ
  pub fills : Fills buffer held v v g

pub has_buffer_of : (v : DeviceView) (g : Present) → v.config.kind ≡ Outboard → v.present ≡ Some g → IfSome v.present (IsAllowed v.config.kind v.limit) → AreBuffers v.limit v.present v.buffers → HasBuffer v g
has_buffer_of v g kind present allowed buffers =
    let a : IsAllowed v.config.kind v.limit g = subst (λ o. IfSome o (IsAllowed v.config.kind v.limit)) present allowed in
    let b = some_number g.buffer (a.buffer ∙ ap is_outboard kind) in
    let to : IsFilledTo (moved_of v.present) (state_at v.buffers b.0) = buffers.filled b.0 (ap buffer_of present ∙ b.1) in
    record {
      buffer = b.0;
      held = bytes_in (state_at v.buffers b.0);
      fills = record {
        touches = record { config = refl; limit = refl; staged = refl; sent = refl; unwaiting = filling_unwaiting (state_at v.buffers b.0) to.filling; others = λ j n. refl };
        kind = kind;
        present = present;
        place = b.1;
        state = filling_bytes (state_at v.buffers b.0) to.filling;
        size = to.bytes ∙ ap moved_of present;
      };
    }

free_unwaiting : (s : BufferState) → is_free s ≡ true → is_arrived s ≡ false
free_unwaiting Free e = refl
free_unwaiting (Filling bytes) e = absurd (cc)
free_unwaiting (Arrived bytes) e = absurd (cc)

-- the first free buffer is there and free
free_at : (bs : List BufferView) (i : ℕ) → first_free bs ≡ Some i → (is_free (state_at bs i) ≡ true) × (i < length bs)
free_at bs i e = by (nat_lt (position_or_len (λ (b : BufferView). is_free b.state) bs) (length bs)) refl e
  where
    by : (c : Bool) → nat_lt (position_or_len (λ (b : BufferView). is_free b.state) bs) (length bs) ≡ c → cond c (Some (position_or_len (λ (b : BufferView). is_free b.state) bs)) None ≡ Some i → (is_free (state_at bs i) ≡ true) × (i < length bs)
    by true l h =
        let same : position_or_len (λ (b : BufferView). is_free b.state) bs ≡ i = cc in
        let less : position_or_len (λ (b : BufferView). is_free b.state) bs < length bs = grind (arith, rules, l) in
        (subst (λ j. is_free (state_at bs j) ≡ true) same (passes_at_first (λ (b : BufferView). is_free b.state) bs no_buffer less), subst (λ j. j < length bs) same less)
    by false l h = absurd (cc)

-- the datagram that a header begins
abbrev pub begun_datagram : Header → DeviceView → Present
begun_datagram h v = record { header = h; moved = 0; buffer = first_free v.buffers }

pub record HasBegun (h : Header) (bytes : List ℕ) (v : DeviceView) : Type 0 where
  pub buffer : ℕ
  pub fills : Fills buffer [] v (after_header (Whole h) bytes v) (begun_datagram h v)

pub has_begun : (h : Header) (bytes : List ℕ) (v : DeviceView) → v.config.kind ≡ Outboard → IsAllowed v.config.kind v.limit (begun_datagram h v) → HasBegun h bytes v
has_begun h bytes v kind allowed =
    let b = some_number (first_free v.buffers) (allowed.buffer ∙ ap is_outboard kind) in
    let free = free_at v.buffers b.0 b.1 in
    let buffers : begun (first_free v.buffers) v.buffers ≡ with_state (Filling []) b.0 v.buffers = ap (λ o. begun o v.buffers) b.1 in
    record {
      buffer = b.0;
      fills = record {
        touches = record { config = refl; limit = refl; staged = refl; sent = refl; unwaiting = free_unwaiting (state_at v.buffers b.0) free.0; others = λ j n. ap (λ bs. state_at bs j) buffers ∙ state_there (Filling []) b.0 j v.buffers n };
        kind = kind;
        present = refl;
        place = b.1;
        state = ap (λ bs. state_at bs b.0) buffers ∙ state_here (Filling []) b.0 v.buffers free.1;
        size = refl;
      };
    }
