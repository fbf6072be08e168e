-- An input that is posted, beside others that are pending.
use Rattle.std.proofs.Common.{◌≡◌, ℕ, ◌+◌, true, List, refl, sym, ap, subst, arith, ◌∙◌}
use Rattle.std.specs.Prelude.{Option, Some, None, IfSome, IsTrue}
use Rattle.genie_base.specs.Events.{is_whole}
use Rattle.genie_base.specs.declared.event.Event.{Event}
use Rattle.genie_base.specs.declared.reply.Mark.TheVariants.{NoFault}
use Rattle.genie_base.specs.declared.reply.Reply.TheVariants as reply
use Rattle.genie_host.specs.Host.{HostView}
use Rattle.genie_store.specs.StoreView.{StoreView}
use Rattle.genie_object.specs.declared.memory.Memory.{Memory}
use Rattle.genie_object.specs.Memory.{seen}
use Rattle.genie_object.specs.Sound.{IsSized}
use Rattle.genie_input.specs.Pools.{PoolState}
use Rattle.genie_plan.specs.Plans.{input_frames}
use Rattle.genie_model.specs.Pending.{add_transfer}
use Rattle.genie_model.specs.Refusing.{refuse}
use Rattle.genie_model.specs.Space.{tidy}
use Rattle.genie_model.specs.Step.{Outcome, marked}
use Rattle.genie_model.specs.Tables.{entry}
use Rattle.genie_kernel.specs.declared.kernel.Kernel.{Kernel}
use Rattle.genie_kernel.specs.declared.transfer.Transfer.{Transfer}
use Rattle.genie_kernel.specs.Calls.{names_weakly}
use Rattle.genie_kernel.specs.Good.{IsGood}
use Rattle.genie_kernel.specs.Kept.{Kept}
use Rattle.genie_kernel.specs.Orphans.{is_owned}
use Rattle.genie_kernel.specs.Regions.{owned_regions}
use Rattle.genie_kernel.specs.Same.{SameNeeded, ShowSame}
use Rattle.genie_kernel.specs.Steps.{Steps, StepsAlone, StepsTold, bytes_over}
use Rattle.genie_kernel.specs.View.{Bytes, state_of, outline, no_bytes, view}
use Rattle.genie_kernel.specs.Lemmas.Alike.{lent_suffice}
use Rattle.genie_changes.specs.States.{begun}
use Rattle.genie_changes.specs.Beginning.{Begins, HasParts, IsNew, with_call}
use Rattle.genie_inputs.specs.declared.call.Call.{Call}
use Rattle.genie_inputs.specs.Calls.{input_event}
use Rattle.genie_inputs.specs.InputLaws.{InputLaws}
use Rattle.genie_inputs.specs.Posting.{IsAnswered}
use Rattle.genie_inputs.specs.Ready.{IsReady}
use Rattle.genie_inputs.proofs.Readied.{kept_on}

-- what is seen is as before, but for frames that no earlier transfer and no pool has
pub record ShowsLent (k : Kernel) (old new : Memory) (slots : ℕ → List ℕ) : Type 0 where
  pub entries : (seen new slots).entry_bytes ≡ (seen old slots).entry_bytes
  pub needed : SameNeeded (owned_regions k.spaces.processes) k.transfers k.pools (seen old slots).kept_bytes (seen new slots).kept_bytes

-- the event does nothing but to post the transfer
abbrev pub OnlyPosts : Kernel → Transfer → Event → Type 0
OnlyPosts k t e = (b : Bytes) (s : ℕ → List ℕ) → marked (state_of k b) e NoFault ≡ (tidy (add_transfer (state_of k b) (begun s t)), reply.Id k.next)

pool_blind : (s : ℕ → List ℕ) (p : Option PoolState) → IfSome p (λ (q : PoolState). ShowSame s s (input_frames q.loans))
pool_blind s None = tt
pool_blind s (Some q) = λ i d l. refl

-- nothing is seen to change by itself
pub same_needed : (k : Kernel) (s : ℕ → List ℕ) → SameNeeded (owned_regions k.spaces.processes) k.transfers k.pools s s
same_needed k s = lent_suffice (owned_regions k.spaces.processes) k.transfers k.pools s s (record { lent = λ i d l j x n. refl; pooled = λ d. pool_blind s (entry k.pools d) })

-- a memory shows what it shows
pub shows_itself : (k : Kernel) (m : Memory) (slots : ℕ → List ℕ) → ShowsLent k m m slots
shows_itself k m slots = record {
  entries = refl;
  needed = same_needed k (seen m slots).kept_bytes;
}

-- the event is one step, where room was made first without a change of what is told
pub call_answers : InputLaws → (old k after : Kernel) (from : Memory) (e : Event) (u v w : StoreView) → IsTrue (is_whole e) → refuse (outline k) e ≡ None → IsReady old k u v → ((host : HostView) → view (record k { memory = from }) host w ≡ view k host v) → HasParts after → after.config ≡ k.config → after.next ≡ k.next + 1 → Kept k after → IsSized after.memory w → Steps (outline k) e (outline after) (reply.Id k.next) → StepsAlone (record k { memory = from }) e after (reply.Id k.next)
    → IsAnswered old after u w e (reply.Id k.next)
call_answers laws old k after from e u v w whole accepted ready told parts config next kept sized blind alone = record {
  good = laws.made after parts (laws.orderly (outline k) (outline after) e (reply.Id k.next) whole accepted blind ready.good.orderly);
  sized = sized;
  kept = kept_on old k after (ap (λ (x : Kernel). x.transfers) ready.only) (ap (λ (x : Kernel). x.pools) ready.only) ready.kept kept;
  config = config ∙ ap (λ (x : Kernel). x.config) ready.only;
  numbers = (let was : k.next ≡ old.next = ap (λ (x : Kernel). x.next) ready.only in omega (arith, next, was));
  step = λ host. subst (λ s. StepsTold s e (view after host w) (reply.Id k.next)) (told host ∙ ready.told host) (laws.alone (record k { memory = from }) after e (reply.Id k.next) host w accepted config alone);
}

module _ (laws : InputLaws) (k : Kernel) (from m : Memory) (t : Transfer) (e : Event) (good : IsGood k) (is_new : IsNew k t) (b : Begins k m t)
    (named : (n : ℕ) → names_weakly n t ≡ true → is_owned (owned_regions k.spaces.processes) n ≡ true)
    (shows : (slots : ℕ → List ℕ) → ShowsLent k from m slots)
    (whole : IsTrue (is_whole e)) (accepted : refuse (outline k) e ≡ None) (posts : OnlyPosts k t e)
  where
    abbrev after : Kernel
    after = with_call k m t

    steps : (old new : Bytes) → new.seen.entry_bytes ≡ old.seen.entry_bytes → new.rests ≡ old.rests → new.sents ≡ old.sents → SameNeeded (owned_regions k.spaces.processes) k.transfers k.pools old.seen.kept_bytes new.seen.kept_bytes → Steps (state_of k old) e (state_of after new) (reply.Id k.next)
    steps old new entries rests sents needed =
        let is_added : state_of after new ≡ add_transfer (state_of k old) (begun new.seen.kept_bytes t) = laws.added k m t after.posted old new (laws.waits k t good is_new) named entries rests sents needed in
        record {
          state = sym (laws.tidied after new) ∙ ap tidy is_added ∙ sym (ap (λ (o : Outcome). o.0) (posts old new.seen.kept_bytes));
          reply_is = sym (ap (λ (o : Outcome). o.1) (posts old new.seen.kept_bytes));
        }

    -- the event is one step
    pub posted_answers : (old : Kernel) (u v w : StoreView) → IsReady old k u v → ((host : HostView) → view (record k { memory = from }) host w ≡ view k host v) → IsSized m w → IsAnswered old after u w e (reply.Id k.next)
    posted_answers old u v w ready told sized =
        let blind = no_bytes k.config.page in
        call_answers laws old k after from e u v w whole accepted ready told (laws.parts k m t good is_new b) refl refl (laws.kept k m t good b) sized
        (steps blind blind refl refl refl (same_needed k blind.seen.kept_bytes))
        (λ slots rests sents. let s = shows slots in steps (bytes_over from slots rests sents) (bytes_over m slots rests sents) s.entries refl refl s.needed)

-- a failure of the store changes nothing that is told
pub fails : InputLaws → (old new : Kernel) (c : Call) (addr : Option ℕ) (v w : StoreView) → refuse (outline old) (input_event c addr) ≡ None → IsReady old new v w → IsAnswered old new v w (input_event c addr) reply.StoreFault
fails laws old new c addr v w accepted moved = record {
  good = moved.good;
  sized = moved.sized;
  kept = moved.kept;
  config = ap (λ (x : Kernel). x.config) moved.only;
  numbers = (let same : new.next ≡ old.next = ap (λ (x : Kernel). x.next) moved.only in omega (arith, same));
  step = λ host. subst (λ s. StepsTold (view old host v) (input_event c addr) s reply.StoreFault) (sym (moved.told host))
      (laws.alone old old (input_event c addr) reply.StoreFault host v accepted refl (λ slots rests sents. record { state = refl; reply_is = refl }));
}
