-- The counts of a run of events.
use Rattle.std.proofs.Common.{◌≡◌, ◌≢◌, ℕ, ◌+◌, ◌≤◌, true, false, List, [], ◌∷◌, refl, ap, ◌∙◌, arith, zero, suc}
use Rattle.std.specs.Prelude.{◌==◌, ◌&&◌}
use Rattle.std.proofs.lemmas.Bool.Decides.{nat_tests}
use Rattle.std.proofs.lemmas.List.Elements.{All-nil, All-cons}
use Rattle.genie_base.specs.Causes.{Rose}
use Rattle.genie_base.specs.Events.{mark_of}
use Rattle.genie_base.specs.declared.config.Config.{Config}
use Rattle.genie_base.specs.declared.event.Event.{Event}
use Rattle.genie_base.specs.declared.reply.Mark.{Mark}
use Rattle.genie_base.specs.declared.reply.Mark.TheVariants as mark
use Rattle.genie_base.specs.declared.reply.Mark.TheVariants.{NoFault}
use Rattle.genie_base.specs.declared.reply.Reply.{Reply}
use Rattle.genie_host.specs.Host.{HostView, HandleState}
use Rattle.genie_store.specs.StoreView.{StoreView}
use Rattle.genie_orderly.specs.Steps.{ShowNoFault}
use Rattle.genie_kernel.specs.declared.kernel.Kernel.{Kernel}
use Rattle.genie_kernel.specs.Steps.{DeviceCause, StoreCause}
use Rattle.genie_calls.specs.Serving.{Nothing, Outside, TheHandle, TheStore, Touches, touched_by}
use Rattle.genie_playing.specs.Costs.{Answer, replies_of}
use Rattle.genie_playing.specs.Faults.{AreCounted, RoseBy, faults_at, is_at, is_device, is_store, one_if, store_faults}
use Rattle.genie_playing.specs.Moments.{Between, Moment, Serves, Steps}

stays : (x : ℕ) → RoseBy 0 x x
stays x = omega arith

same_rose : (b n : ℕ) → n ≡ b → RoseBy 0 b n
same_rose b n e = omega (arith, e)

-- the count of a handle in one step
handle_cause : (m : Mark) (b n : ℕ) → DeviceCause m b n → RoseBy (one_if (is_device m)) b n
handle_cause mark.NoFault b n c = same_rose b n c
handle_cause (mark.Device k) b n c = c
handle_cause mark.Store b n c = absurd c

handle_rose : (o : Outside) (m : Mark) (h : ℕ) (old new : HostView) (v w : StoreView) → Touches o m old new v w → RoseBy (one_if (is_at h o && is_device m)) (old.handle h).faults (new.handle h).faults
handle_rose Nothing m h old new v w t = rw t.host (stays (old.handle h).faults)
handle_rose TheStore m h old new v w t = rw t.host (stays (old.handle h).faults)
handle_rose (TheHandle k) m h old new v w t = elim (k == h) as (λ b. (k == h) ≡ b → RoseBy (one_if (b && is_device m)) (old.handle h).faults (new.handle h).faults) [
  | true ↦ λ e. let same : k ≡ h = grind (arith, nat_tests, e) in rw (← same) (handle_cause m (old.handle k).faults (new.handle k).faults t.cause)
  | false ↦ λ e. let other : h ≢ k = λ s. grind (arith, nat_tests, e, s) in same_rose (old.handle h).faults (new.handle h).faults (ap (λ (x : HandleState). x.faults) (t.only.others h other))
] refl

-- and that of the store
store_cause : (m : Mark) (b n : ℕ) → StoreCause m b n → RoseBy (one_if (is_store m)) b n
store_cause mark.NoFault b n c = same_rose b n c
store_cause (mark.Device k) b n c = absurd c
store_cause mark.Store b n c = c

unshown : (m : Mark) (b n x : ℕ) → DeviceCause m b n → RoseBy (one_if (is_store m)) x x
unshown mark.NoFault b n x c = stays x
unshown (mark.Device k) b n x c = stays x
unshown mark.Store b n x c = absurd c

store_rose : (o : Outside) (m : Mark) (old new : HostView) (v w : StoreView) → Touches o m old new v w → RoseBy (one_if (is_store m)) v.faults w.faults
store_rose Nothing m old new v w t = rw (t.unfailed, t.store) (stays v.faults)
store_rose TheStore m old new v w t = store_cause m v.faults w.faults t.cause
store_rose (TheHandle k) m old new v w t = rw t.store (unshown m (old.handle k).faults (new.handle k).faults v.faults t.cause)

pub rose_sum : (x n a b c l : ℕ) → a ≤ b → RoseBy x b c → RoseBy n c l → RoseBy (x + n) a l
rose_sum x n a b c l low first rest = omega (arith, low, first, rest)

rose_none : (a b : ℕ) → a ≤ b → RoseBy 0 a b
rose_none a b low = omega (arith, low)

config_after : (start before after : Moment) (e : Event) (r : Reply) (c : Config) → start.kernel.config ≡ c → Between start before → Serves before e r after → (before.kernel.config ≡ c) × (after.kernel.config ≡ c)
config_after start before after e r c is b s = let first = ap (λ (k : Kernel). k.config) b.kernel ∙ is in (first, s.config ∙ first)

handles_rose : (c : Config) (h : ℕ) (start : Moment) (es : List Event) (answers : List Answer) (last : Moment) → start.kernel.config ≡ c → Steps start es answers last → RoseBy (faults_at c h es (replies_of answers)) (start.host.handle h).faults (last.host.handle h).faults
handles_rose c h start [] [] last is s = rose_none _ _ (s.later h)
handles_rose c h start [] (a ∷ answers) last is s = absurd s
handles_rose c h start (e ∷ es) [] last is s = absurd s
handles_rose c h start (e ∷ es) (a ∷ answers) last is s =
    let same = config_after start s.0 s.1 e a.reply c is s.2 s.3.serves in
    rose_sum _ _ _ _ _ _ (s.2.later h) (handle_rose (touched_by c e) (mark_of a.reply) h s.0.host s.1.host s.0.store s.1.store (rw same.0 at s.3.serves.cause)) (handles_rose c h s.1 es answers last same.1 s.4)

store_roses : (start : Moment) (es : List Event) (answers : List Answer) (last : Moment) → Steps start es answers last → RoseBy (store_faults (replies_of answers)) start.store.faults last.store.faults
store_roses start [] [] last s = rw s.store (stays start.store.faults)
store_roses start [] (a ∷ answers) last s = absurd s
store_roses start (e ∷ es) [] last s = absurd s
store_roses start (e ∷ es) (a ∷ answers) last s =
    let kept : s.0.store ≡ start.store = s.2.store in
    rose_sum _ _ _ _ _ _ (omega (arith, ap (λ (v : StoreView). v.faults) kept)) (store_rose _ (mark_of a.reply) s.0.host s.1.host s.0.store s.1.store s.3.serves.cause) (store_roses s.1 es answers last s.4)

-- a reply that shows a failure counts
counts_none : (m : Mark) (o : Outside) (old new : HostView) (v w : StoreView) → Touches o m old new v w → ((h : ℕ) → one_if (is_at h o && is_device m) ≡ 0) → one_if (is_store m) ≡ 0 → m ≡ NoFault
counts_none mark.NoFault o old new v w t handles store = refl
counts_none (mark.Device n) Nothing old new v w t handles store = t.unfailed
counts_none (mark.Device n) TheStore old new v w t handles store = absurd t.cause
counts_none (mark.Device n) (TheHandle k) old new v w t handles store =
    let one : one_if ((k == k) && true) ≡ 0 = handles k in
    absurd (grind (arith, nat_tests, one))
counts_none mark.Store o old new v w t handles store = absurd (cc)

shows_none : (c : Config) (start : Moment) (es : List Event) (answers : List Answer) (last : Moment) → start.kernel.config ≡ c → Steps start es answers last → ((h : ℕ) → faults_at c h es (replies_of answers) ≡ 0) → store_faults (replies_of answers) ≡ 0 → ShowNoFault (replies_of answers)
shows_none c start [] [] last is s handles store = All-nil (λ (r : Reply). mark_of r ≡ NoFault)
shows_none c start [] (a ∷ answers) last is s handles store = absurd s
shows_none c start (e ∷ es) [] last is s handles store = absurd s
shows_none c start (e ∷ es) (a ∷ answers) last is s handles store =
    let same = config_after start s.0 s.1 e a.reply c is s.2 s.3.serves in
    All-cons (λ (r : Reply). mark_of r ≡ NoFault) a.reply (replies_of answers)
    (counts_none (mark_of a.reply) (touched_by c e) s.0.host s.1.host s.0.store s.1.store (rw same.0 at s.3.serves.cause) (λ h. omega (arith, handles h)) (omega (arith, store)))
    (shows_none c s.1 es answers last same.1 s.4 (λ h. omega (arith, handles h)) (omega (arith, store)))

none_by : (n a l : ℕ) → RoseBy n a l → (Rose a l → ⊥) → n ≡ 0
none_by zero a l rose none = refl
none_by (suc n) a l rose none = absurd (none (omega (arith, rose)))

-- the number of failures that replies show is no higher than that of the counted ones
pub steps_count : (start : Moment) (es : List Event) (answers : List Answer) (last : Moment) → Steps start es answers last → AreCounted start.kernel.config es (replies_of answers) start.host last.host start.store last.store
steps_count start es answers last s =
    let handles = λ (h : ℕ). handles_rose start.kernel.config h start es answers last refl s in
    let store = store_roses start es answers last s in
    record {
      handles = handles;
      store = store;
      none = λ n. shows_none start.kernel.config start es answers last refl s (λ h. none_by _ _ _ (handles h) (n.handles h)) (none_by _ _ _ store n.store);
    }
