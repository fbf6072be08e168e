-- What each change that an event is made of keeps, the event keeps, where it makes no process and no region.
use Rattle.std.proofs.Common.{◌≡◌, ℕ, Bool, true, false, List, true≢false}
use Rattle.std.specs.Prelude.{Option, Some, None}
use Rattle.genie_base.specs.Transfers.{class_of}
use Rattle.genie_base.specs.declared.event.Event.{Event}
use Rattle.genie_base.specs.declared.event.Event.TheVariants.{Spawn, Fork, Exit, Map, Alloc, Unmap, Protect, Read, Write, Output, Input, Send, Recv, Finish, Cancel, Pageout}
use Rattle.genie_base.specs.declared.region.RegionState.TheVariants.{Live}
use Rattle.genie_base.specs.declared.semantics.Class.{Class}
use Rattle.genie_base.specs.declared.semantics.Class.TheVariants.{Move, WeakMove}
use Rattle.genie_model.specs.State.{State, Region, Transfer, Device}
use Rattle.genie_model.specs.Regions.{reach_of, change_region, with_mode, with_state, put}
use Rattle.genie_model.specs.Pending.{first_queued, pending, add_transfer}
use Rattle.genie_model.specs.Space.{exit, remove, remove_found, region_from, protect_found, stored}
use Rattle.genie_model.specs.Outputs.{moved_out, give_up}
use Rattle.genie_model.specs.Sending.{must_stage, send_next}
use Rattle.genie_model.specs.Ending.{filled, finish_found, cancel_found, without_transfer, region_of}
use Rattle.genie_model.specs.Step.{perform}
use Rattle.genie_model.specs.Lemmas.ReceiveSteps.{choice, recv_keeps}
use Rattle.genie_model.specs.Lemmas.Ends.{finish_for_keeps}
use Rattle.genie_orderly.specs.Lemmas.FoundRegions.{IsThere, at_there, region_there}

abbrev pub makes : Event → Bool
makes (Spawn p) = true
makes (Fork p q) = true
makes (Map p g n) = true
makes (Alloc p n) = true
makes (Input p sem d port flow addr n) = true
makes _ = false

-- each change of processes and orphans that the other events are made of keeps P, and transfers and devices don't count
pub record IsKept (P : State → Type 0) : Type 0 where
  pub exit : (s : State) (p : ℕ) → P s → P (exit s p).0
  pub remove : (s : State) (r : Region) → IsThere s (Some r) → P s → P (remove s r)
  pub mode : (s : State) (k : ℕ) (writable : Bool) → P s → P (change_region s k (with_mode writable))
  pub bytes : (s : State) (k x : ℕ) (new : List ℕ) → P s → P (put s k x new)
  pub out : (s : State) (k : ℕ) → P s → P (moved_out s k)
  pub fill : (s : State) (k : ℕ) (new : List ℕ) → P s → P (change_region s k (filled new))
  pub live : (s : State) (k : ℕ) → P s → P (change_region s k (with_state Live))
  pub rest : (s : State) (transfers : List Transfer) (devices : List (Option Device)) (next : ℕ) → P s → P (record s { transfers = transfers; devices = devices; next = next })

module _ (P : State → Type 0) (kept : IsKept P) where
  removed : (s : State) (o : Option Region) → IsThere s o → P s → P (remove_found s o)
  removed s None there h = h
  removed s (Some r) there h = kept.remove s r there h

  protected : (s : State) (o : Option Region) (writable : Bool) → P s → P (protect_found s o writable)
  protected s None writable h = h
  protected s (Some r) writable h = kept.mode s r.number writable h

  bytes_stored : (s : State) (o : Option Region) (a : ℕ) (bytes : List ℕ) → P s → P (stored s o a bytes)
  bytes_stored s None a bytes h = h
  bytes_stored s (Some r) a bytes h = kept.bytes s r.number _ bytes h

  given_up : (s : State) (class : Class) (o : Option Region) → IsThere s o → P s → P (give_up s class o)
  given_up s class None there h = h
  given_up s Move (Some r) there h = kept.remove s r there h
  given_up s WeakMove (Some r) there h = kept.out s r.number h
  given_up s class (Some r) there h = h

  sent : (s : State) (d n : ℕ) (o : Option Transfer) → P s → P (send_next s d n o).0
  sent s d n None h = h
  sent s d n (Some t) h = choice P (must_stage s d t) _ _ (kept.rest s _ s.devices s.next h) (kept.rest s _ _ s.next h)

  taken : (s : State) (k : ℕ) → P s → P (without_transfer s k)
  taken s k h = kept.rest s _ s.devices s.next h

  finished : (s : State) (k : ℕ) (o : Option Transfer) → P s → P (finish_found s k o).0
  finished s k None h = h
  finished s k (Some t) h = finish_for_keeps P kept.bytes kept.fill kept.live (without_transfer s k) t t.owner (taken s k h)

  cancelled : (s : State) (k : ℕ) (o : Option Transfer) → P s → P (cancel_found s k o).0
  cancelled s k None h = h
  cancelled s k (Some t) h = let left = without_transfer s k in given_up left t.class (region_of left t) (region_there left t) (taken s k h)

  pub event_kept : (s : State) (e : Event) → makes e ≡ false → P s → P (perform s e).0
  event_kept s (Spawn p) none h = absurd (true≢false none)
  event_kept s (Fork p q) none h = absurd (true≢false none)
  event_kept s (Exit p) none h = kept.exit s p h
  event_kept s (Map p g n) none h = absurd (true≢false none)
  event_kept s (Alloc p n) none h = absurd (true≢false none)
  event_kept s (Unmap p g) none h = removed s (region_from s p g) (at_there s p _) h
  event_kept s (Protect p g writable) none h = protected s (region_from s p g) writable h
  event_kept s (Read p a n) none h = h
  event_kept s (Write p a bytes) none h = bytes_stored s _ a bytes h
  event_kept s (Output p sem d port flow a n) none h = given_up (add_transfer s _) (class_of sem) (reach_of s p a n) (at_there s p _) (kept.rest s _ s.devices _ h)
  event_kept s (Input p sem d port flow addr n) none h = absurd (true≢false none)
  event_kept s (Send d n) none h = sent s d n (first_queued s d) h
  event_kept s (Recv d n) none h = recv_keeps P (λ t d v g. kept.rest t t.transfers _ t.next g) (λ t k f e g. kept.rest t _ t.devices t.next g) kept.bytes s d n h
  event_kept s (Finish k) none h = finished s k (pending s k) h
  event_kept s (Cancel k) none h = cancelled s k (pending s k) h
  event_kept s (Pageout n) none h = h
