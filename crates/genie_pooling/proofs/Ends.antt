-- What a step leaves that has moved payload bytes into a buffer of a pool: the kernel and the reply.
use Rattle.std.proofs.Common.{◌≡◌, ℕ, ◌+◌, zero, suc, Bool, true, false, List, [], ◌∷◌, refl, sym, ap, subst, ◌∙◌, set}
use Rattle.std.specs.Prelude.{Option, Some, None, find, position, if◌then◌else◌}
use Rattle.genie_base.specs.Posted.{first}
use Rattle.genie_base.specs.declared.reply.Reply.{Reply}
use Rattle.genie_base.specs.declared.reply.Reply.TheVariants as reply
use Rattle.genie_demux.specs.Posted.{address, number_of as posted_number, without}
use Rattle.genie_device.specs.Device.{DeviceView}
use Rattle.genie_device.specs.declared.present.Present.{Present}
use Rattle.genie_input.specs.Pools.{PoolState, is_filling, set_buffer}
use Rattle.genie_input.specs.declared.pool.BufferState.TheVariants.{Free, Held}
use Rattle.genie_object.specs.declared.memory.Memory.{Memory}
use Rattle.genie_model.specs.Tables.{entry}
use Rattle.genie_model.specs.Lemmas.Lists.{entry_same}
use Rattle.genie_kernel.specs.declared.kernel.Kernel.{Kernel}
use Rattle.genie_kernel.specs.declared.transfer.Transfer.{Transfer}
use Rattle.genie_kernel.specs.Calls.{has_number}
use Rattle.genie_changes.specs.Working.{worked}
use Rattle.genie_receiving.specs.declared.course.Course.{Course}
use Rattle.genie_receiving.specs.declared.course.Course.TheVariants.{GoesOn, Ends, IsTruncated}
use Rattle.genie_receiving.specs.declared.payload.Moved.{Moved}
use Rattle.genie_receiving.specs.Lemmas.Matched.{after_moving}
use Rattle.genie_pooling.specs.Delivering.{Delivers, DeliversTo, ready_with}
use Rattle.genie_pooling.specs.Pooled.{EndsStep}

pub set_twice : {X : Type 0} (xs : List X) (d : ℕ) (x y : X) → set (set xs d x) d y ≡ set xs d y
set_twice [] d x y = refl
set_twice (z ∷ xs) zero x y = refl
set_twice (z ∷ xs) (suc d) x y = ap (λ l. z ∷ l) (set_twice xs d x y)

-- kernel k with this memory, where device d gathers g into buffer b of its pool, which is q
module _ (k : Kernel) (d b : ℕ) (v1 : DeviceView) (q : PoolState) (g : Present) (count : ℕ) (m : Memory) where
  abbrev pub during : Course → Kernel
  during course = record k { memory = m; devices = set k.devices d (Some (after_moving course g count v1)); pools = set k.pools d (Some q) }

  -- what becomes of the datagram
  abbrev pub after_end : Bool → Course → Option (ℕ × Transfer) → Kernel
  after_end truncated course None = record (during course) { pools = set k.pools d (Some (set_buffer (set_buffer q b Held) b Free)) }
  after_end truncated course (Some (n, t)) = record (during course) { pools = set k.pools d (Some (set_buffer q b Held)); transfers = worked (has_number n) (ready_with b (g.moved + count) truncated g.header.len t) k.transfers; posted = without n k.posted }

  abbrev pub done : Course → Option (ℕ × Transfer) → Kernel
  done GoesOn met = during GoesOn
  done Ends met = after_end false Ends met
  done IsTruncated met = after_end true IsTruncated met

  abbrev pub end_reply : ℕ → Option (ℕ × Transfer) → Reply
  end_reply moved None = reply.Dropped g.header.port g.header.flow g.header.len
  end_reply moved (Some x) = reply.Got moved

  abbrev pub done_reply : Course → ℕ → Bool → Option (ℕ × Transfer) → Reply
  done_reply GoesOn moved faulted met = if faulted then reply.Fault moved else reply.Got moved
  done_reply Ends moved faulted met = end_reply moved met
  done_reply IsTruncated moved faulted met = end_reply 0 met

  -- the input that it meets
  abbrev pub IsMetBy : Option (ℕ × Transfer) → Type 0
  IsMetBy None = posted_number (first address d g.header.port g.header.flow k.posted) ≡ None
  IsMetBy (Some (n, t)) = (posted_number (first address d g.header.port g.header.flow k.posted) ≡ Some n) × (find (has_number n) k.transfers ≡ Some t)

  delivered : (old : PoolState) (truncated : Bool) (course : Course) (moved : ℕ) (new : Kernel) (r : Reply) (met : Option (ℕ × Transfer)) → entry k.pools d ≡ Some old → position is_filling q.buffers ≡ Some b → IsMetBy met → Delivers d g.header (g.moved + count) truncated moved (during course) new r → (new ≡ after_end truncated course met) × (r ≡ end_reply moved met)
  delivered old truncated course moved new r met there fills meets x =
      let pool_is : x.pool ≡ q = (let same : Some x.pool ≡ Some q = sym x.there ∙ entry_same k.pools d old (Some q) there in cc) in
      let place : position is_filling x.pool.buffers ≡ Some b = ap (λ (z : PoolState). position is_filling z.buffers) pool_is ∙ fills in
      let buffer_is : x.buffer ≡ b = (let same : Some x.buffer ≡ Some b = sym x.filling ∙ place in cc) in
      by met meets (subst (λ (n : ℕ). DeliversTo (posted_number (first address d g.header.port g.header.flow k.posted)) d g.header (g.moved + count) truncated moved q n (during course) new r) buffer_is
      (subst (λ (z : PoolState). DeliversTo (posted_number (first address d g.header.port g.header.flow k.posted)) d g.header (g.moved + count) truncated moved z x.buffer (during course) new r) pool_is x.delivers))
    where
      by : (o : Option (ℕ × Transfer)) → IsMetBy o → DeliversTo (posted_number (first address d g.header.port g.header.flow k.posted)) d g.header (g.moved + count) truncated moved q b (during course) new r → (new ≡ after_end truncated course o) × (r ≡ end_reply moved o)
      by None e y =
          let z = subst (λ n. DeliversTo n d g.header (g.moved + count) truncated moved q b (during course) new r) e y in
          (z.0 ∙ (λ i. record (during course) { pools = (set_twice (set k.pools d (Some q)) d (Some (set_buffer q b Held)) (Some (set_buffer (set_buffer q b Held) b Free)) ∙ set_twice k.pools d (Some q) (Some (set_buffer (set_buffer q b Held) b Free))) i }), z.1)
      by (Some (n, t)) e y =
          let z = subst (λ o. DeliversTo o d g.header (g.moved + count) truncated moved q b (during course) new r) e.0 y in
          (z.0 t e.1 ∙ (λ i. record (after_end truncated course (Some (n, t))) { pools = set_twice k.pools d (Some q) (Some (set_buffer q b Held)) i }), z.1)

  pub ended_so : (old : PoolState) (course : Course) (h : ℕ) (moved : Moved) (new : Kernel) (r : Reply) (met : Option (ℕ × Transfer)) → entry k.pools d ≡ Some old → position is_filling q.buffers ≡ Some b → IsMetBy met → moved.so_far ≡ g.moved + count → moved.bytes ≡ count → EndsStep course d g.header h moved (during course) new r → (new ≡ done course met) × (r ≡ done_reply course (h + count) moved.faulted met)
  ended_so old GoesOn h moved new r met there fills meets so_far bytes x = (x.0, x.1 ∙ (λ i. if moved.faulted then reply.Fault (h + bytes i) else reply.Got (h + bytes i)))
  ended_so old Ends h moved new r met there fills meets so_far bytes x = delivered old false Ends (h + count) new r met there fills meets (subst (λ n. Delivers d g.header (g.moved + count) false (h + n) (during Ends) new r) bytes (subst (λ n. Delivers d g.header n false (h + moved.bytes) (during Ends) new r) so_far x))
  ended_so old IsTruncated h moved new r met there fills meets so_far bytes x = delivered old true IsTruncated 0 new r met there fills meets (subst (λ n. Delivers d g.header n true 0 (during IsTruncated) new r) so_far x)
