-- The kernel after calls of the memory that change nothing of what is seen.
use Rattle.std.proofs.Common.{◌≡◌, ℕ, refl, sym, ap, subst, ◌∙◌}
use Rattle.std.specs.Prelude.{Option, Some, None, Result, Ok, Err}
use Rattle.std.specs.Option.{option_map}
use Rattle.genie_base.specs.Causes.{HasCause}
use Rattle.genie_base.specs.Events.{mark_of}
use Rattle.genie_base.specs.declared.event.Event.TheVariants.{Pageout}
use Rattle.genie_base.specs.declared.reply.Reply.{Reply}
use Rattle.genie_host.specs.Host.{HostView}
use Rattle.genie_store.specs.StoreView.{StoreView}
use Rattle.genie_object.specs.declared.memory.Memory.{Memory}
use Rattle.genie_object.specs.Memory.{seen_with}
use Rattle.genie_object.specs.Sound.{IsSized}
use Rattle.genie_hiding.specs.Hidden.{objects_of}
use Rattle.genie_hiding.specs.Rooms.{MakesRoom}
use Rattle.genie_kernel.specs.declared.kernel.Kernel.{Kernel}
use Rattle.genie_kernel.specs.Good.{IsGood}
use Rattle.genie_kernel.specs.Kept.{Kept}
use Rattle.genie_kernel.specs.Laws.{MemoryCallsKeepGood, MemoryCallsKeepLent, ViewIsTidy}
use Rattle.genie_kernel.specs.Steps.{StepsTold, StoreCause}
use Rattle.genie_kernel.specs.Told.{rests_of, sents_of}
use Rattle.genie_kernel.specs.View.{Bytes, state_of, view}
use Rattle.genie_access.specs.Moving.{with_memory, KeepsSeen, reply_to}
use Rattle.genie_access.proofs.Outside.{guards_outside, told_same}

pub room_seen : (k : Kernel) (m : Memory) (v w : StoreView) → IsGood k → IsSized k.memory v → MakesRoom (objects_of k.hidden) k.memory m v w → KeepsSeen k m v w
room_seen k m v w g sized r = record {
  sound = r.sound;
  sized = r.sized sized;
  fits = r.fits;
  seen = r.seen;
  keeps = r.keeps;
  counts = r.counts;
  guarded = guards_outside k m g r.narrows;
}

clocked : (k : Kernel) (m : Memory) (clock : ℕ) → IsGood (record k { memory = m }) → IsGood (with_memory k m clock)
clocked k m clock g = record {
  fits = g.fits;
  sized = g.sized;
  spaced = g.spaced;
  equipped = g.equipped;
  orderly = g.orderly;
  sound = g.sound;
  cached = g.cached;
  few = g.few;
  backed = g.backed;
  guarded = g.guarded;
  counted = g.counted;
  owners = g.owners;
  held = g.held;
  planned = g.planned;
  fitting = g.fitting;
  posted = g.posted;
  sending = g.sending;
  receiving = g.receiving;
  arrived = g.arrived;
}

pub good_moved : MemoryCallsKeepGood → (k new : Kernel) (v w : StoreView) → IsGood k → new ≡ with_memory k new.memory new.clock → KeepsSeen k new.memory v w → IsGood new
good_moved law k new v w g only s = subst IsGood (sym only) (clocked k new.memory new.clock (law k new.memory g s.sound s.fits s.guarded s.counts s.keeps))

clocked_kept : (k : Kernel) (m : Memory) (clock : ℕ) → Kept k (record k { memory = m }) → Kept k (with_memory k m clock)
clocked_kept k m clock x = record {
  lent = λ n f t u p. x.lent n f t u (record { was = p.was; is = p.is });
  pooled = x.pooled;
  fresh = λ n f t u p. x.fresh n f t u (record { was = p.was; is = p.is });
}

pub kept_moved : MemoryCallsKeepLent → (k new : Kernel) (v w : StoreView) → IsGood k → new ≡ with_memory k new.memory new.clock → KeepsSeen k new.memory v w → Kept k new
kept_moved law k new v w g only s = subst (Kept k) (sym only) (clocked_kept k new.memory new.clock (law k new.memory g s.keeps))

-- it stands for the same state
pub view_moved : (k new : Kernel) (host : HostView) (v w : StoreView) → IsGood k → new ≡ with_memory k new.memory new.clock → KeepsSeen k new.memory v w → view new host w ≡ view k host v
view_moved k new host v w g only s = ap (λ x. view x host w) only ∙ told_same k g (seen_with new.memory w) (seen_with k.memory v) (rests_of host k.config) (sents_of host k.config) s.seen

put_step : ViewIsTidy → (k : Kernel) (n : ℕ) {T E : Type 0} (done : Result T E) (o : Option Bytes) → StepsTold (option_map (state_of k) o) (Pageout n) (option_map (state_of k) o) (reply_to done)
put_step tidy k n done None = tt
put_step tidy k n (Ok x) (Some b) = (ap Some (sym (tidy k b)), refl)
put_step tidy k n (Err e) (Some b) = (refl, refl)

pub put_told : ViewIsTidy → (k new : Kernel) (host : HostView) (v w : StoreView) (n : ℕ) {T E : Type 0} (done : Result T E) (r : Reply) → r ≡ reply_to done → IsGood k → new ≡ with_memory k new.memory new.clock → KeepsSeen k new.memory v w → StepsTold (view k host v) (Pageout n) (view new host w) r
put_told tidy k new host v w n done r is g only s = subst (StepsTold (view k host v) (Pageout n) (view new host w)) (sym is) (subst (λ x. StepsTold (view k host v) (Pageout n) x (reply_to done)) (sym (view_moved k new host v w g only s)) (put_step tidy k n done _))

pub cause_told : (before now : ℕ) {T E : Type 0} (done : Result T E) → HasCause before now done → StoreCause (mark_of (reply_to done)) before now
cause_told before now (Ok x) c = c.kept
cause_told before now (Err e) c = c.failed
