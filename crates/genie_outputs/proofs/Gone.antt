-- What an output call leaves whose region is removed.
use Rattle.std.proofs.Common.{◌≡◌, ℕ, ◌+◌, ◌*◌, ◌<◌, ◌≤◌, zero, suc, Bool, true, false, not, List, [], ◌∷◌, ◌++◌, refl, sym, ap, subst, arith, ◌∙◌, ⊎_elim, inl, inr}
use Rattle.std.specs.Prelude.{Some, All, AllPairs, IfSome, find, ◌&&◌, if◌then◌else◌}
use Rattle.genie_base.specs.Transfers.{class_of, is_strong}
use Rattle.genie_base.specs.declared.reply.Reply.TheVariants as reply
use Rattle.genie_base.specs.declared.semantics.Class.{Class}
use Rattle.genie_base.specs.declared.semantics.Class.TheVariants.{Move}
use Rattle.genie_frame.specs.declared.frame.Owner.{Owner}
use Rattle.genie_store.specs.StoreView.{StoreView}
use Rattle.genie_object.specs.declared.memory.Memory.{Memory}
use Rattle.genie_object.specs.declared.objects.Range.{Range}
use Rattle.genie_object.specs.Memory.{seen}
use Rattle.genie_object.specs.Sound.{IsSized}
use Rattle.genie_plan.specs.declared.plan.OutPlan.{OutPlan}
use Rattle.genie_plan.specs.Loans.{output_loans}
use Rattle.genie_plan.specs.Loans as kind
use Rattle.genie_plan.specs.Plans.{CanSend}
use Rattle.genie_region.specs.declared.region.Region.{Region}
use Rattle.genie_model.specs.Outputs.{give_up, output_of}
use Rattle.genie_model.specs.Pending.{add_transfer}
use Rattle.genie_model.specs.Space.{remove, tidy}
use Rattle.genie_model.specs.State as flat
use Rattle.genie_kernel.specs.declared.kernel.Kernel.{Kernel}
use Rattle.genie_kernel.specs.declared.transfer.Transfer.{Transfer}
use Rattle.genie_kernel.specs.Calls.{has_number, is_named, names_weakly}
use Rattle.genie_kernel.specs.Counted.{pool_on}
use Rattle.genie_kernel.specs.Kept.{Kept, KeepsOwner}
use Rattle.genie_kernel.specs.Regions.{has_id, owned_regions, region_view}
use Rattle.genie_kernel.specs.Steps.{Steps}
use Rattle.genie_kernel.specs.View.{Bytes, state_of, outline, no_bytes}
use Rattle.genie_model.specs.Tables.{entry}
use Rattle.genie_changes.specs.Beginning.{Begins, HasParts}
use Rattle.genie_changes.specs.Hiding.{HidesRegion}
use Rattle.genie_changes.specs.Paged.{HavePages}
use Rattle.genie_changes.specs.Removal.{RemovesRegion}
use Rattle.genie_changes.specs.Settled.{IsSettled}
use Rattle.genie_tcow.specs.Lending.{HasLent}
use Rattle.genie_tcow.specs.Ranges.{IsPlanOf, SendsRange, is_of_range}
use Rattle.genie_outputs.specs.declared.call.Call.{Call}
use Rattle.genie_outputs.specs.Answering.{IsAnswered, IsReady}
use Rattle.genie_outputs.specs.Calls.{event_of, transfer_of, with_output}
use Rattle.genie_outputs.specs.GivingUp.{HidingLaws, RemovalLaws}
use Rattle.genie_outputs.specs.OutputLaws.{OutputLaws}
use Rattle.genie_outputs.proofs.Answered.{IsTold, answered_by, good_by, over, strong_told}
use Rattle.genie_outputs.proofs.Lent.{IsShut, lent_begins}
use Rattle.genie_outputs.proofs.Loaned.{new_output}
use Rattle.genie_outputs.proofs.Pages.{HasPages}
use Rattle.genie_outputs.proofs.Shown.{Shows, outline_shows}
use Rattle.genie_outputs.proofs.Stepping.{state_with, steps_tidied}

all_more : {X : Type 0} (P : X → Type 0) (t : X) (xs : List X) → All P xs → P t → All P (xs ++ t ∷ [])
all_more P t [] a p zero d l = p
all_more P t [] a p (suc k) d l = absurd (omega (arith, l))
all_more P t (x ∷ xs) a p zero d l = a zero x (omega arith)
all_more P t (x ∷ xs) a p (suc k) d l = all_more P t xs (λ i e n. a (suc i) e (omega (arith, n))) p k d (omega (arith, l))

pairs_more : {X : Type 0} (R : X → X → Type 0) (t : X) (xs : List X) → AllPairs R xs → All (λ x. R x t) xs → AllPairs R (xs ++ t ∷ [])
pairs_more R t [] a b i j d l m = absurd (omega (arith, l, m))
pairs_more R t (x ∷ xs) a b zero zero d l m = absurd (omega (arith, l))
pairs_more R t (x ∷ xs) a b zero (suc j) d l m = all_more (R x) t xs (λ n e h. a zero (suc n) e (omega arith) (omega (arith, h))) (b zero x (omega arith)) j d (omega (arith, m))
pairs_more R t (x ∷ xs) a b (suc i) zero d l m = absurd (omega (arith, l))
pairs_more R t (x ∷ xs) a b (suc i) (suc j) d l m = pairs_more R t xs (λ n o e h q. a (suc n) (suc o) e (omega (arith, h)) (omega (arith, q))) (λ n e h. b (suc n) e (omega (arith, h))) i j d (omega (arith, l)) (omega (arith, m))

-- a kernel with a strong call more is settled
pub begun_settled : OutputLaws → RemovalLaws → (k : Kernel) (m : Memory) (c : Call) (r : Region) (range : Range) (plan : OutPlan) (v : StoreView) → IsReady k c r range v → is_strong (class_of c.sem) ≡ true → Begins k m (transfer_of k c r plan) → IsSettled (with_output k m c r plan)
begun_settled laws gone k m c r range plan v x strong begins =
    let t : Transfer = transfer_of k c r plan in
    let h : HasParts (with_output k m c r plan) = laws.parts k m t x.good (new_output k c r plan) begins in
    let s = gone.settled k x.good in
    let later = (laws.waits k t x.good (new_output k c r plan)).later in
    record {
      fits = h.fits;
      has_bytes = s.has_bytes;
      sized = h.sized;
      spaced = h.spaced;
      equipped = h.equipped;
      numbered = s.numbered;
      listed = s.listed;
      ranges = all_more (λ (u : Transfer). (q : Region) → find (has_id q.id.0) (owned_regions k.spaces.processes) ≡ Some q → names_weakly q.id.0 u ≡ true → u.offset + u.len ≤ q.pages * k.config.page) t k.transfers s.ranges
          (λ q found named. let none : names_weakly q.id.0 t ≡ false = ap (λ b. not b && is_named t.region q.id.0) strong in let clash : false ≡ true = sym none ∙ named in absurd (cc));
      rising = pairs_more (λ (a b : Transfer). a.id.0 < b.id.0) t k.transfers s.rising (gone.rising k x.good).below;
      sound = h.sound;
      cached = h.cached;
      few = h.few;
      backed = h.backed;
      guarded = h.guarded;
      counted = h.counted;
      owners = h.owners;
      held = h.held;
      planned = h.planned;
      fitting = h.fitting;
      posted = h.posted;
      sending = h.sending;
      receiving = h.receiving;
      arrived = h.arrived;
    }

settled_parts : (k : Kernel) → IsSettled k → HasParts k
settled_parts k s = record {
  fits = s.fits;
  sized = s.sized;
  spaced = s.spaced;
  equipped = s.equipped;
  sound = s.sound;
  cached = s.cached;
  few = s.few;
  backed = s.backed;
  guarded = s.guarded;
  counted = s.counted;
  owners = s.owners;
  held = s.held;
  planned = s.planned;
  fitting = s.fitting;
  posted = s.posted;
  sending = s.sending;
  receiving = s.receiving;
  arrived = s.arrived;
}

-- a region has gone from a kernel: what is true between two changes is still so, and the state is that without the region
pub record IsGone (r : Region) (mid final : Kernel) : Type 0 where
  pub settled : IsSettled final
  pub kept : Kept mid final
  pub config : final.config ≡ mid.config
  pub next : final.next ≡ mid.next
  pub transfers : final.transfers ≡ mid.transfers
  pub pools : final.pools ≡ mid.pools
  pub outlined : state_of final (no_bytes mid.config.page) ≡ tidy (remove (state_of mid (no_bytes mid.config.page)) (region_view (no_bytes mid.config.page).seen.entry_bytes r))
  pub state : (slots rests sents : ℕ → List ℕ) → HavePages mid.memory slots → state_of final (over (seen final.memory slots) rests sents) ≡ tidy (remove (state_of mid (over (seen mid.memory slots) rests sents)) (region_view (seen mid.memory slots).entry_bytes r))

-- so it is of one that was removed
pub removed_gone : RemovalLaws → (p : ℕ) (r : Region) (mid final : Kernel) → RemovesRegion p r mid final → IsSettled mid → IsGone r mid final
removed_gone gone p r mid final x s = record {
  settled = gone.settles p r mid final x s;
  kept = gone.keeps p r mid final x s;
  config = ap (λ (z : Kernel). z.config) x.left;
  next = ap (λ (z : Kernel). z.next) x.left;
  transfers = ap (λ (z : Kernel). z.transfers) x.left;
  pools = ap (λ (z : Kernel). z.pools) x.left;
  outlined = gone.state p r mid final (no_bytes mid.config.page) (no_bytes mid.config.page) x s (gone.outlines r mid);
  state = λ slots rests sents paged. gone.state p r mid final (over (seen mid.memory slots) rests sents) (over (seen final.memory slots) rests sents) x s (gone.shows p r mid final slots rests sents x s paged);
}

-- and of one that was hidden
pub hidden_gone : RemovalLaws → HidingLaws → (p : ℕ) (r : Region) (mid final : Kernel) → HidesRegion p r mid final → IsSettled mid → IsGone r mid final
hidden_gone gone hiding p r mid final x s = record {
  settled = hiding.settles p r mid final x s;
  kept = hiding.keeps p r mid final x s;
  config = ap (λ (z : Kernel). z.config) x.left;
  next = ap (λ (z : Kernel). z.next) x.left;
  transfers = ap (λ (z : Kernel). z.transfers) x.left;
  pools = ap (λ (z : Kernel). z.pools) x.left;
  outlined = hiding.state p r mid final (no_bytes mid.config.page) (no_bytes mid.config.page) x s (gone.outlines r mid);
  state = λ slots rests sents paged. hiding.state p r mid final (over (seen mid.memory slots) rests sents) (over (seen final.memory slots) rests sents) x s (hiding.shows p r mid final slots rests sents x s paged);
}

owner_on : (a b c : Owner) → KeepsOwner a b → KeepsOwner b c → KeepsOwner a c
owner_on a b c x y = record {
  owner = ⊎_elim (λ same. ⊎_elim (λ was. inl (same ∙ was)) (λ left. inr (same ∙ left)) x.owner) (λ left. inr left) y.owner;
  unfreed = y.unfreed;
}

found_before : (q : Transfer → Bool) (t : Transfer) (xs : List Transfer) (x : Transfer) → find q xs ≡ Some x → find q (xs ++ t ∷ []) ≡ Some x
found_before q t [] x e = absurd (cc)
found_before q t (y ∷ ys) x e = elim (q y) as (λ b. (if b then Some y else find q ys) ≡ Some x → (if b then Some y else find q (ys ++ t ∷ [])) ≡ Some x) [ true ↦ λ h. h | false ↦ λ h. found_before q t ys x h ] e

module _ (laws : OutputLaws) (k : Kernel) (m : Memory) (c : Call) (r : Region) (range : Range) (plan : OutPlan) (v w : StoreView) (x : IsReady k c r range v) (class : class_of c.sem ≡ Move) (final : Kernel) (gone : IsGone r (with_output k m c r plan) final) where
  abbrev mid : Kernel
  mid = with_output k m c r plan

  abbrev waits : Bytes → flat.State
  waits b = add_transfer (state_of k b) (output_of (state_of k b) c.pid (class_of c.sem) (record { device = c.dev; port = c.port; flow = c.flow }) c.addr c.len (Some (region_view b.seen.entry_bytes r)))

  -- the state after the call
  gone_step : (b new : Bytes) (after : flat.State) → Shows k c r plan b.seen new.seen → new.rests ≡ b.rests → new.sents ≡ b.sents → after ≡ tidy (remove (state_of mid new) (region_view new.seen.entry_bytes r)) → after ≡ tidy (give_up (waits b) (class_of c.sem) (Some (region_view b.seen.entry_bytes r)))
  gone_step b new after shows rests sents is =
      is
      ∙ (λ i. tidy (remove (state_with k c r plan b new shows laws x.good x.reached m rests sents i) (region_view (shows.entries i) r)))
      ∙ ap (λ (z : Class). tidy (give_up (waits b) z (Some (region_view b.seen.entry_bytes r)))) (sym class)

  gone_kept : Kept k mid → Kept k final
  gone_kept before = record {
    lent = λ n f u y p on still.
        let here : find (has_number n) mid.transfers ≡ Some u = found_before (has_number n) (transfer_of k c r plan) k.transfers u p.was in
        let after : find (has_number n) final.transfers ≡ Some y = p.is in
        owner_on _ _ _ (before.lent n f u u (record { was = p.was; is = here }) on on) (gone.kept.lent n f u y (record { was = here; is = after }) on still);
    pooled = λ d f on still.
        let now = subst (λ ps. 0 < pool_on f (entry ps d)) gone.pools still in
        owner_on _ _ _ (before.pooled d f on now) (gone.kept.pooled d f now still);
    fresh = λ n f u y p. before.fresh n f u y (record { was = p.was; is = ap (find (has_number n)) (sym gone.transfers) ∙ p.is });
  }

  pages_there : IsSized m w → (d : ℕ → List ℕ) → HasPages w d → HavePages m d
  pages_there sized d h s l = h s (omega (arith, l, sized.count)) ∙ sized.page

  final_sized : HasParts mid → IsSized m w → IsSized final.memory w
  final_sized parts sized =
      let one = parts.sized in
      let two = gone.settled.sized in
      let config = gone.config in
      record {
        count = sized.count ∙ one.slots ∙ sym (two.slots ∙ ap (λ z. z.slots) config);
        page = sized.page ∙ one.page ∙ sym (two.page ∙ ap (λ z. z.page) config);
      }

  pub gone_answered : Begins k m (transfer_of k c r plan) → IsSized m w → w.faults ≡ v.faults → IfSome w.slots (HasPages w) → Shows k c r plan (no_bytes k.config.page).seen (no_bytes k.config.page).seen → ((slots : ℕ → List ℕ) → v.slots ≡ Some slots → IsTold k m c r plan w.slots slots) → IsAnswered k c final v w (reply.Id k.next)
  gone_answered begins sized same paged outlined told =
      let t : Transfer = transfer_of k c r plan in
      let none = no_bytes k.config.page in
      let parts = laws.parts k m t x.good (new_output k c r plan) begins in
      let outline_is : Steps (outline k) (event_of c) (state_of final none) (reply.Id k.next) = steps_tidied k final c r none none x.reached (gone_step none none (state_of final none) outlined refl refl gone.outlined) in
      let step : Steps (outline k) (event_of c) (outline final) (reply.Id k.next) = subst (λ z. Steps (outline k) (event_of c) (state_of final (no_bytes z.page)) (reply.Id k.next)) (sym gone.config) outline_is in
      answered_by laws k m c r range plan v w x final (HasPages w) gone.config gone.next (good_by laws k m c r range plan v w x final (settled_parts final gone.settled) step) (gone_kept (laws.kept k m t x.good begins)) (final_sized parts sized) same
      (λ a d rs ss shows pages. steps_tidied k final c r (over (seen k.memory a) rs ss) (over (seen final.memory d) rs ss) x.reached (gone_step (over (seen k.memory a) rs ss) (over (seen m d) rs ss) (state_of final (over (seen final.memory d) rs ss)) shows refl refl (gone.state d rs ss (pages_there sized d pages)))) paged told

-- what an output call leaves whose region goes once its frames are lent
module _ (laws : OutputLaws) (removal : RemovalLaws) (k : Kernel) (m : Memory) (c : Call) (r : Region) (range : Range) (plan : OutPlan) (v w : StoreView) (x : IsReady k c r range v) (class : class_of c.sem ≡ Move) (lent : HasLent kind.Strong k.next (is_of_range k.memory.frames.page range) (output_loans plan.loans.items) k.memory m v w) (p : IsPlanOf k.memory.frames.page range plan.loans.items plan.first plan.len) (shut : IsShut m r range) where
  moved_begins : Begins k m (transfer_of k c r plan)
  moved_begins = lent_begins laws k m c r range plan v w x (ap is_strong class) lent p shut

  pub moved_settled : IsSettled (with_output k m c r plan)
  moved_settled = begun_settled laws removal k m c r range plan v x (ap is_strong class) moved_begins

  pub gone_out : (final : Kernel) → IsGone r (with_output k m c r plan) final → IfSome v.slots (HasPages v) → IfSome w.slots (HasPages w) → CanSend m.frames plan.loans.items plan.first plan.len → SendsRange k.memory m v range plan.loans.items plan.first plan.len → IsSized m w → w.faults ≡ v.faults → IsAnswered k c final v w (reply.Id k.next)
  gone_out final gone paged after ready sends sized same =
      let plan_is = subst (λ z. IsPlanOf k.memory.frames.page z plan.loans.items plan.first plan.len) x.range_is p in
      gone_answered laws k m c r range plan v w x class final gone moved_begins sized same after (outline_shows k m c r plan x.good x.reached lent.keeps.page plan_is ready) (strong_told laws k m c r range plan v w x (is_of_range k.memory.frames.page range) lent paged p ready sends)

  pub removed_out : (before final : Kernel) → before ≡ with_output k m c r plan → RemovesRegion c.pid r before final → IfSome v.slots (HasPages v) → IfSome w.slots (HasPages w) → CanSend m.frames plan.loans.items plan.first plan.len → SendsRange k.memory m v range plan.loans.items plan.first plan.len → IsSized m w → w.faults ≡ v.faults → IsAnswered k c final v w (reply.Id k.next)
  removed_out before final is gone = gone_out final (removed_gone removal c.pid r (with_output k m c r plan) final (subst (λ z. RemovesRegion c.pid r z final) is gone) moved_settled)

  pub hidden_out : HidingLaws → (before final : Kernel) → before ≡ with_output k m c r plan → HidesRegion c.pid r before final → IfSome v.slots (HasPages v) → IfSome w.slots (HasPages w) → CanSend m.frames plan.loans.items plan.first plan.len → SendsRange k.memory m v range plan.loans.items plan.first plan.len → IsSized m w → w.faults ≡ v.faults → IsAnswered k c final v w (reply.Id k.next)
  hidden_out hiding before final is gone = gone_out final (hidden_gone removal hiding c.pid r (with_output k m c r plan) final (subst (λ z. HidesRegion c.pid r z final) is gone) moved_settled)
