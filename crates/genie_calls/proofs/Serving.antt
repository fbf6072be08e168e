-- What each family of events leaves.
use Rattle.std.proofs.Common.{◌≡◌, ℕ, ◌+◌, ◌^◌, ◌≤◌, true, refl, sym, ap, subst, arith, ◌∙◌, List}
use Rattle.std.specs.Prelude.{Option, Some, None, ◌==◌}
use Rattle.std.specs.List.{list_any}
use Rattle.std.specs.Option.{option_map}
use Rattle.genie_base.specs.Events.{mark_of}
use Rattle.genie_base.specs.declared.config.Config.{Config}
use Rattle.genie_base.specs.declared.event.Event.{Event}
use Rattle.genie_base.specs.declared.event.Event.TheVariants.{Finish}
use Rattle.genie_base.specs.declared.event.Event.TheVariants as event
use Rattle.genie_base.specs.declared.refusal.Refusal.{Refusal}
use Rattle.genie_base.specs.declared.reply.Mark.{Mark}
use Rattle.genie_base.specs.declared.reply.Mark.TheVariants.{NoFault}
use Rattle.genie_base.specs.declared.reply.Reply.{Reply}
use Rattle.genie_base.specs.declared.reply.Reply.TheVariants as reply
use Rattle.genie_host.specs.Host.{HostView, OnlyHandle}
use Rattle.genie_store.specs.StoreView.{StoreView}
use Rattle.genie_object.specs.Costs.{work}
use Rattle.genie_object.specs.Memory.{seen}
use Rattle.genie_object.specs.Sound.{IsSized}
use Rattle.genie_object.specs.Lemmas.Touching.{keeps_all}
use Rattle.genie_model.specs.Refusing.{refuse}
use Rattle.genie_model.specs.State.{State}
use Rattle.genie_model.specs.Step.{Outcome, answer, step}
use Rattle.genie_kernel.specs.declared.kernel.Kernel.{Kernel}
use Rattle.genie_kernel.specs.Good.{IsGood}
use Rattle.genie_kernel.specs.Handles.{HasHandles, KeepsOthers, handles}
use Rattle.genie_kernel.specs.Kept.{Kept}
use Rattle.genie_kernel.specs.Rising.{MetersRise}
use Rattle.genie_kernel.specs.Steps.{StepsAlone, StepsTold, StoreCause, DeviceCause, bytes_over}
use Rattle.genie_kernel.specs.Told.{rests_of, sents_of}
use Rattle.genie_kernel.specs.View.{bytes_with, outline, state_of, view}
use Rattle.genie_kernel.specs.Lemmas.Blind.{refuses_alike}
use Rattle.genie_kernel.specs.Lemmas.Keeping.{calls_kept}
use Rattle.genie_kernel.specs.Lemmas.OpenHandles.{others_kept}
use Rattle.genie_kernel.specs.Lemmas.Rising.{rises_most, rises_none, rises_same}
use Rattle.genie_kernel.specs.Lemmas.Stepping.{alone_told}
use Rattle.genie_frame.specs.declared.frame.Meters.{Meters}
use Rattle.genie_copying.specs.Bounds.{KeepsToBound}
use Rattle.genie_copying.specs.Getting.{pages_most}
use Rattle.genie_changes.specs.Filling.{StepsFilled}
use Rattle.genie_calls.proofs.Filling.{told_filled}
use Rattle.genie_changes.specs.Paged.{IsPaged, PagedIsTold, StepsPaged}
use Rattle.genie_arrivals.specs.Failing.{Serves}
use Rattle.genie_arrivals.specs.Paging.{EndsPaged}
use Rattle.genie_calls.specs.Sharing.{Shares}
use Rattle.genie_calls.specs.Serving.{GetsWithin, IsTabled, LandsWithin, Outside, Nothing, TheStore, TheHandle, Served, ServedAlone, ServedByHost, ServedByStore, Touches, touched_by}

only_refl : (h : ℕ) (v : HostView) → OnlyHandle h v v
only_refl h v = record { names = refl; others = λ k ne. refl; mode = refl; opened = refl; tried = refl; refusals = refl }

pub others_refl : (c : Config) (v : HostView) → KeepsOthers c v v
others_refl c v = record { handles_kept = λ h apart. refl; modes = λ h. refl; names = refl; opened = refl; tried = refl; refusals = refl }

-- where nothing failed and nothing outside has changed
untouched : (o : Outside) (m : Mark) (host : HostView) (v : StoreView) → m ≡ NoFault → Touches o m host host v v
untouched Nothing m host v none = record { unfailed = none; host = refl; store = refl }
untouched TheStore m host v none = record { host = refl; cause = subst (λ x. StoreCause x v.faults v.faults) (sym none) refl }
untouched (TheHandle h) m host v none = record { only = only_refl h host; cause = subst (λ x. DeviceCause x (host.handle h).faults (host.handle h).faults) (sym none) refl; store = refl }

-- the sizes of the memory are those of the configuration
still_sized : (old new : Kernel) (v : StoreView) → IsGood old → IsGood new → new.config ≡ old.config → IsSized old.memory v → IsSized new.memory v
still_sized old new v g h config s = record {
  count = s.count ∙ g.sized.slots ∙ sym (h.sized.slots ∙ ap (λ (c : Config). c.slots) config);
  page = s.page ∙ g.sized.page ∙ sym (h.sized.page ∙ ap (λ (c : Config). c.page) config);
}

-- an event that leaves the meters copies nothing
pub copies_nothing : (old new : Kernel) (e : Event) (r : Reply) → new.memory.frames.meters ≡ old.memory.frames.meters → IsTabled old e → KeepsToBound old e new r
copies_nothing old new e r same tabled = let equal = ap work same in omega (arith, equal)

-- an event that leaves the count of what has landed, and one that leaves the meters
pub same_lands : (old : Kernel) (e : Event) (new : Kernel) → new.memory.frames.landed ≡ old.memory.frames.landed → LandsWithin old e new
same_lands old (event.Recv d n) new same = omega (arith, same)
same_lands old (event.Finish n) new same = tt
same_lands old (event.Spawn p) new same = same
same_lands old (event.Fork p child) new same = same
same_lands old (event.Exit p) new same = same
same_lands old (event.Map p start pages) new same = same
same_lands old (event.Alloc p pages) new same = same
same_lands old (event.Unmap p start) new same = same
same_lands old (event.Protect p start writable) new same = same
same_lands old (event.Read p a n) new same = same
same_lands old (event.Write p a bytes) new same = same
same_lands old (event.Output p sem d port flow a n) new same = same
same_lands old (event.Input p sem d port flow a n) new same = same
same_lands old (event.Send d n) new same = same
same_lands old (event.Cancel n) new same = same
same_lands old (event.Pageout n) new same = same

fewer_gets : (old new : Kernel) (pages : ℕ) → new.memory.frames.meters ≡ old.memory.frames.meters → new.memory.frames.meters.gets ≤ old.memory.frames.meters.gets + pages
fewer_gets old new pages same = let gets = ap (λ (m : Meters). m.gets) same in omega (arith, gets)

pub same_gets : (old : Kernel) (e : Event) (new : Kernel) → new.memory.frames.meters ≡ old.memory.frames.meters → GetsWithin old e new
same_gets old (event.Finish n) new same = tt
same_gets old (event.Recv d n) new same = fewer_gets old new (pages_most old (event.Recv d n)) same
same_gets old (event.Spawn p) new same = fewer_gets old new (pages_most old (event.Spawn p)) same
same_gets old (event.Fork p child) new same = fewer_gets old new (pages_most old (event.Fork p child)) same
same_gets old (event.Exit p) new same = fewer_gets old new (pages_most old (event.Exit p)) same
same_gets old (event.Map p start pages) new same = fewer_gets old new (pages_most old (event.Map p start pages)) same
same_gets old (event.Alloc p pages) new same = fewer_gets old new (pages_most old (event.Alloc p pages)) same
same_gets old (event.Unmap p start) new same = fewer_gets old new (pages_most old (event.Unmap p start)) same
same_gets old (event.Protect p start writable) new same = fewer_gets old new (pages_most old (event.Protect p start writable)) same
same_gets old (event.Read p a n) new same = fewer_gets old new (pages_most old (event.Read p a n)) same
same_gets old (event.Write p a bytes) new same = fewer_gets old new (pages_most old (event.Write p a bytes)) same
same_gets old (event.Output p sem d port flow a n) new same = fewer_gets old new (pages_most old (event.Output p sem d port flow a n)) same
same_gets old (event.Input p sem d port flow a n) new same = fewer_gets old new (pages_most old (event.Input p sem d port flow a n)) same
same_gets old (event.Send d n) new same = fewer_gets old new (pages_most old (event.Send d n)) same
same_gets old (event.Cancel n) new same = fewer_gets old new (pages_most old (event.Cancel n)) same
same_gets old (event.Pageout n) new same = fewer_gets old new (pages_most old (event.Pageout n)) same

-- an event that gives out no number gives out one at most
pub none_given : (old new : Kernel) → new.next ≡ old.next → new.next ≤ old.next + 1
none_given old new same = omega (arith, same)

-- an event that touches nothing outside, and is told where host and store tell
served_alone : (old new : Kernel) (e : Event) (r : Reply) (host : HostView) (v : StoreView) → IsGood old → IsGood new → Kept old new → new.config ≡ old.config → new.next ≤ old.next + 1 → MetersRise (2 ^ 36) old.memory.frames new.memory.frames → mark_of r ≡ NoFault → HasHandles old.config host → IsSized old.memory v → ((h : HostView) → StepsTold (view old h v) e (view new h v) r) → (IsTabled old e → KeepsToBound old e new r) → Shares old e new r → LandsWithin old e new → GetsWithin old e new → Served old new e host host v v r
served_alone old new e r host v g good kept config numbers rises unfailed handles sized told copying sharing lands gets = record {
  good = good;
  sized = still_sized old new v g good config sized;
  kept = kept;
  config = config;
  numbers = numbers;
  step = told host;
  touches = untouched (touched_by old.config e) (mark_of r) host v unfailed;
  handles = subst (λ c. HasHandles c host) (sym config) handles;
  others = others_refl old.config host;
  rises = rises;
  copying = copying;
  sharing = sharing;
  filled = told_filled old new e r host v v handles config told;
  lands = lands;
  gets = gets;
}

pub alone_served : (old new : Kernel) (e : Event) (r : Reply) → IsGood old → refuse (outline old) e ≡ None → IsGood new → Kept old new → new.config ≡ old.config → new.next ≡ old.next → new.memory.frames.meters ≡ old.memory.frames.meters → new.memory.frames.landed ≡ old.memory.frames.landed → mark_of r ≡ NoFault → StepsAlone old e new r → Shares old e new r → ServedAlone old e new r
alone_served old new e r g h good kept config numbers meters landed unfailed steps sharing = λ host v handles sized paged. served_alone old new e r host v g good kept config (none_given old new numbers) (rises_same (2 ^ 36) old.memory.frames new.memory.frames meters landed) unfailed handles sized (λ z. alone_told old new e r z v h config steps) (copies_nothing old new e r meters) sharing (same_lands old e new landed) (same_gets old e new meters)

-- the same of an event that may touch the store, and doesn't
pub alone_by_store : (old new : Kernel) (e : Event) (r : Reply) (v : StoreView) → IsGood old → refuse (outline old) e ≡ None → IsSized old.memory v → IsGood new → Kept old new → new.config ≡ old.config → new.next ≡ old.next → new.memory.frames.meters ≡ old.memory.frames.meters → new.memory.frames.landed ≡ old.memory.frames.landed → mark_of r ≡ NoFault → StepsAlone old e new r → Shares old e new r → ServedByStore old e new v v r
alone_by_store old new e r v g h sized good kept config numbers meters landed unfailed steps sharing = λ host handles. served_alone old new e r host v g good kept config (none_given old new numbers) (rises_same (2 ^ 36) old.memory.frames new.memory.frames meters landed) unfailed handles sized (λ z. alone_told old new e r z v h config steps) (copies_nothing old new e r meters) sharing (same_lands old e new landed) (same_gets old e new meters)

pub paged_served : PagedIsTold → (old new : Kernel) (e : Event) (r : Reply) → IsGood old → refuse (outline old) e ≡ None → IsGood new → Kept old new → new.config ≡ old.config → new.next ≡ old.next → new.memory.frames.meters ≡ old.memory.frames.meters → new.memory.frames.landed ≡ old.memory.frames.landed → mark_of r ≡ NoFault → StepsPaged old e new r → Shares old e new r → ServedAlone old e new r
paged_served law old new e r g h good kept config numbers meters landed unfailed steps sharing = λ host v handles sized paged. served_alone old new e r host v g good kept config (none_given old new numbers) (rises_same (2 ^ 36) old.memory.frames new.memory.frames meters landed) unfailed handles sized (λ z. law old new e r z v h config sized paged steps) (copies_nothing old new e r meters) sharing (same_lands old e new landed) (same_gets old e new meters)

-- an event that may touch the store
pub store_served : (old new : Kernel) (e : Event) (v w : StoreView) (r : Reply) → touched_by old.config e ≡ TheStore → IsGood new → IsSized new.memory w → Kept old new → new.config ≡ old.config → new.next ≤ old.next + 1 → MetersRise (2 ^ 36) old.memory.frames new.memory.frames → ((host : HostView) → StepsTold (view old host v) e (view new host w) r) → StoreCause (mark_of r) v.faults w.faults → (IsTabled old e → KeepsToBound old e new r) → Shares old e new r → LandsWithin old e new → GetsWithin old e new → ServedByStore old e new v w r
store_served old new e v w r outside good sized kept config numbers rises told cause copying sharing lands gets = λ host handles. record {
  good = good;
  sized = sized;
  kept = kept;
  config = config;
  numbers = numbers;
  step = told host;
  touches = subst (λ o. Touches o (mark_of r) host host v w) (sym outside) (record { host = refl; cause = cause });
  handles = subst (λ c. HasHandles c host) (sym config) handles;
  others = others_refl old.config host;
  rises = rises;
  copying = copying;
  sharing = sharing;
  filled = told_filled old new e r host v w handles config told;
  lands = lands;
  gets = gets;
}

-- a refusal
refused_told : (k : Kernel) (e : Event) (x : Refusal) → refuse (outline k) e ≡ Some x → (slots rests sents : Option (ℕ → List ℕ)) → StepsTold (option_map (state_of k) (bytes_with (option_map (seen k.memory) slots) rests sents)) e (option_map (state_of k) (bytes_with (option_map (seen k.memory) slots) rests sents)) (reply.Err x)
refused_told k e x h None rests sents = tt
refused_told k e x h (Some slots) None sents = tt
refused_told k e x h (Some slots) (Some rests) None = tt
refused_told k e x h (Some slots) (Some rests) (Some sents) =
    let s : State = state_of k (bytes_over k.memory slots rests sents) in
    let same : step s e NoFault ≡ (s, reply.Err x) = ap (answer s e NoFault) (refuses_alike k (bytes_over k.memory slots rests sents) e ∙ h) in
    (ap Some (sym (ap (λ (o : Outcome). o.0) same)), sym (ap (λ (o : Outcome). o.1) same))

refused_shares : (k : Kernel) (e : Event) (x : Refusal) → Shares k e k (reply.Err x)
refused_shares k (event.Fork p child) x = λ is. absurd (cc)
refused_shares k (event.Input p sem d port flow a n) x = λ m start r class may is place first. absurd (cc)
refused_shares k (event.Pageout n) x = λ is. absurd (cc)
refused_shares k (event.Spawn p) x = tt
refused_shares k (event.Exit p) x = tt
refused_shares k (event.Map p start pages) x = tt
refused_shares k (event.Alloc p pages) x = tt
refused_shares k (event.Unmap p start) x = tt
refused_shares k (event.Protect p start writable) x = tt
refused_shares k (event.Read p a n) x = tt
refused_shares k (event.Write p a bytes) x = tt
refused_shares k (event.Output p sem d port flow a n) x = λ m class is. absurd (cc)
refused_shares k (event.Send d n) x = tt
refused_shares k (event.Recv d n) x = tt
refused_shares k (event.Finish n) x = tt
refused_shares k (event.Cancel n) x = tt

pub refused_served : (k : Kernel) (e : Event) (x : Refusal) → IsGood k → refuse (outline k) e ≡ Some x → ServedAlone k e k (reply.Err x)
refused_served k e x g h = λ host v handles sized paged. served_alone k k e (reply.Err x) host v g g (calls_kept k k.memory g (keeps_all k.memory)) refl (none_given k k refl) (rises_none (2 ^ 36) k.memory.frames k.memory.frames refl) refl handles sized (λ z. refused_told k e x h v.slots (rests_of z k.config) (sents_of z k.config)) (copies_nothing k k e (reply.Err x) refl) (refused_shares k e x) (same_lands k e k refl) (same_gets k e k refl)

-- an event that touches the handle of its device
pub host_served : (old new : Kernel) (e : Event) (h : ℕ) (before after : HostView) (r : Reply) → touched_by old.config e ≡ TheHandle h → list_any (λ g. g == h) (handles old.config) ≡ true → IsGood old → IsGood new → Kept old new → new.config ≡ old.config → new.next ≡ old.next → MetersRise (2 ^ 36) old.memory.frames new.memory.frames → new.memory.frames.meters ≡ old.memory.frames.meters → OnlyHandle h before after → HasHandles new.config after → ((v : StoreView) → IsSized old.memory v → IsPaged v → StepsTold (view old before v) e (view new after v) r) → DeviceCause (mark_of r) (before.handle h).faults (after.handle h).faults → Shares old e new r → ((v : StoreView) → IsSized old.memory v → IsPaged v → StepsFilled old e new r before after v v) → LandsWithin old e new → ServedByHost old e new before after r
host_served old new e h before after r outside named g good kept config numbers rises meters only opened told cause sharing filled lands = λ v sized paged. record {
  good = good;
  sized = still_sized old new v g good config sized;
  kept = kept;
  config = config;
  numbers = none_given old new numbers;
  step = told v sized paged;
  touches = subst (λ o. Touches o (mark_of r) before after v v) (sym outside) (record { only = only; cause = cause; store = refl });
  handles = opened;
  others = others_kept old.config h before after only named;
  rises = rises;
  copying = copies_nothing old new e r meters;
  sharing = sharing;
  filled = filled v sized paged;
  lands = lands;
  gets = same_gets old e new meters;
}

-- of the event as it was matched
module _ (old new : Kernel) (e f : Event) (r : Reply) (is : e ≡ f) where
  pub as_alone : (host : HostView) (v : StoreView) → HasHandles old.config host → IsSized old.memory v → IsPaged v → ServedAlone old f new r → Served old new e host host v v r
  as_alone host v handles sized paged served = subst (λ x. Served old new x host host v v r) (sym is) (served host v handles sized paged)

  pub as_store : (host : HostView) (v w : StoreView) → HasHandles old.config host → ServedByStore old f new v w r → Served old new e host host v w r
  as_store host v w handles served = subst (λ x. Served old new x host host v w r) (sym is) (served host handles)

  pub as_host : (before after : HostView) (v : StoreView) → IsSized old.memory v → IsPaged v → ServedByHost old f new before after r → Served old new e before after v v r
  as_host before after v sized paged served = subst (λ x. Served old new x before after v v r) (sym is) (served v sized paged)

-- the end of an input that touches nothing outside, and one that may touch the store
pub paged_by_store : PagedIsTold → (old new : Kernel) (n : ℕ) (r : Reply) (v : StoreView) → IsGood old → refuse (outline old) (Finish n) ≡ None → IsSized old.memory v → IsPaged v → (IsTabled old (Finish n) → KeepsToBound old (Finish n) new r) → EndsPaged old n new r → ServedByStore old (Finish n) new v v r
paged_by_store law old new n r v g h sized paged copying ends = λ host handles. served_alone old new (Finish n) r host v g ends.good ends.kept ends.config (none_given old new ends.numbers) (rises_most (2 ^ 35) (2 ^ 36) old.memory.frames new.memory.frames (omega arith) ends.rises) ends.unfailed handles sized (λ z. law old new (Finish n) r z v h ends.config sized paged ends.step) copying tt tt tt

pub ends_by_store : (old new : Kernel) (n : ℕ) (r : Reply) (v w : StoreView) → (IsTabled old (Finish n) → KeepsToBound old (Finish n) new r) → Serves old (Finish n) new v w r → ServedByStore old (Finish n) new v w r
ends_by_store old new n r v w copying ends = store_served old new (Finish n) v w r refl ends.good ends.sized ends.kept ends.config (none_given old new ends.numbers) ends.rises ends.step ends.cause copying tt tt tt
