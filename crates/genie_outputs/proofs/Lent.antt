-- What an output call leaves whose frames are lent strongly.
use Rattle.std.proofs.Common.{◌≡◌, ◌≢◌, ℕ, ◌<◌, Bool, true, false, [], refl, sym, ap, subst, arith, ◌∙◌, length}
use Rattle.std.specs.Prelude.{IfSome}
use Rattle.genie_base.specs.Events.{mark_of}
use Rattle.genie_base.specs.Transfers.{class_of, is_strong, is_system}
use Rattle.genie_base.specs.declared.reply.Reply.TheVariants as reply
use Rattle.genie_hiding.specs.Hidden.{objects_of, is_among}
use Rattle.genie_store.specs.StoreView.{StoreView}
use Rattle.genie_object.specs.declared.memory.Memory.{Memory}
use Rattle.genie_object.specs.declared.objects.Range.{Range}
use Rattle.genie_object.specs.Objects.{entry_at, object_at}
use Rattle.genie_object.specs.Sound.{IsSized}
use Rattle.genie_plan.specs.declared.plan.OutPlan.{OutPlan}
use Rattle.genie_plan.specs.Loans.{output_loans}
use Rattle.genie_plan.specs.Loans as kind
use Rattle.genie_plan.specs.Plans.{CanSend}
use Rattle.genie_region.specs.declared.region.Region.{Region}
use Rattle.genie_model.specs.Lemmas.Lists.{all_has, has_left}
use Rattle.genie_kernel.specs.declared.kernel.Kernel.{Kernel}
use Rattle.genie_kernel.specs.Backed.{all_regions}
use Rattle.genie_kernel.specs.Regions.{owned_regions}
use Rattle.genie_kernel.specs.Steps.{StoreCause}
use Rattle.genie_tcow.specs.Lending.{HasLent, IsTakenBack}
use Rattle.genie_tcow.specs.Ranges.{IsPlanOf, SendsRange, is_of_range}
use Rattle.genie_changes.specs.Beginning.{Begins}
use Rattle.genie_outputs.specs.declared.call.Call.{Call}
use Rattle.genie_outputs.specs.Answering.{IsAnswered, IsReady}
use Rattle.genie_outputs.specs.Calls.{transfer_of, with_output}
use Rattle.genie_outputs.specs.OutputLaws.{OutputLaws}
use Rattle.genie_outputs.proofs.Answered.{begun_answered, failed_answered, strong_told, taken_back}
use Rattle.genie_outputs.proofs.Loaned.{hidden_fit, strong_begins}
use Rattle.genie_outputs.proofs.Narrowed.{guards_after, only_object, only_visible}
use Rattle.genie_outputs.proofs.Pages.{HasPages}
use Rattle.genie_outputs.proofs.Reached.{fits_device, may_output, reached_backed, reached_owned, reached_unhidden}
use Rattle.genie_outputs.proofs.Shown.{outline_shows}

-- the object of the region is there
pub object_there : (k : Kernel) (c : Call) (r : Region) (range : Range) (v : StoreView) → IsReady k c r range v → object_at k.memory.objects range.object.0 ≢ []
object_there k c r range v x none =
    let g = x.good in
    let some : 0 < r.pages = all_has (λ (q : Region). 0 < q.pages) (all_regions k.spaces.processes k.hidden) g.backed.some r (has_left r (owned_regions k.spaces.processes) _ (reached_owned k c r x.reached)) in
    let size = reached_backed k c r g x.reached in
    let gone : object_at k.memory.objects r.object.0 ≡ [] = ap (λ (z : Range). object_at k.memory.objects z.object.0) (sym x.range_is) ∙ none in
    let long = ap length gone in
    omega (arith, some, size, long)

-- the range's entries are those of the region's object alone, which is none of a hidden region
pub only_its : (k : Kernel) (c : Call) (r : Region) (range : Range) (v : StoreView) → IsReady k c r range v → (page o i : ℕ) → o ≢ r.object.0 → is_of_range page range o i ≡ false
only_its k c r range v x page o i other = only_object page range o i (λ same. other (same ∙ ap (λ (z : Range). z.object.0) x.range_is))

pub only_shown : (k : Kernel) (c : Call) (r : Region) (range : Range) (v : StoreView) → IsReady k c r range v → (page o i : ℕ) → is_among o (objects_of k.hidden) ≡ true → is_of_range page range o i ≡ false
only_shown k c r range v x page o i among = only_visible page range (objects_of k.hidden) (ap (λ (z : Range). is_among z.object.0 (objects_of k.hidden)) x.range_is ∙ reached_unhidden k c r x.good x.reached) o i among

-- no entry of it permits writing, where the region is read-only
abbrev pub IsShut : Memory → Region → Range → Type 0
IsShut m r range = r.writable ≡ false → (i : ℕ) → (entry_at m.objects range.object.0 i).writable ≡ false

pub shut_there : (k : Kernel) (c : Call) (m : Memory) (r : Region) (range : Range) (v : StoreView) → IsReady k c r range v → IsShut m r range → r.writable ≡ false → (i : ℕ) → (entry_at m.objects r.object.0 i).writable ≡ false
shut_there k c m r range v x shut closed i = ap (λ (z : Range). (entry_at m.objects z.object.0 i).writable) (sym x.range_is) ∙ shut closed i

module _ (laws : OutputLaws) (k : Kernel) (m : Memory) (c : Call) (r : Region) (range : Range) (plan : OutPlan) (v w : StoreView) (x : IsReady k c r range v) (strong : is_strong (class_of c.sem) ≡ true) where
  abbrev spoken : ℕ → ℕ → Bool
  spoken = is_of_range k.memory.frames.page range

  pub lent_begins : HasLent kind.Strong k.next spoken (output_loans plan.loans.items) k.memory m v w → IsPlanOf k.memory.frames.page range plan.loans.items plan.first plan.len → IsShut m r range → Begins k m (transfer_of k c r plan)
  lent_begins lent p shut =
      let device = fits_device k c x.good (may_output k c x.accepted) in
      let cached = hidden_fit k m c r plan v w spoken x.good strong lent (only_shown k c r range v x k.memory.frames.page) in
      let guarded = guards_after k m r spoken x.good (reached_owned k c r x.reached) lent.touches (only_its k c r range v x k.memory.frames.page) (shut_there k c m r range v x shut) in
      let plan_is = subst (λ z. IsPlanOf k.memory.frames.page z plan.loans.items plan.first plan.len) x.range_is p in
      strong_begins k m c r plan v w spoken x.good strong lent plan_is device cached guarded

  lent_answered : is_system (class_of c.sem) ≡ false → HasLent kind.Strong k.next spoken (output_loans plan.loans.items) k.memory m v w → IfSome v.slots (HasPages v) → IsPlanOf k.memory.frames.page range plan.loans.items plan.first plan.len → CanSend m.frames plan.loans.items plan.first plan.len → SendsRange k.memory m v range plan.loans.items plan.first plan.len → IsShut m r range → IsSized m w → w.faults ≡ v.faults → IsAnswered k c (with_output k m c r plan) v w (reply.Id k.next)
  lent_answered app lent paged p ready sends shut sized same =
      let plan_is = subst (λ z. IsPlanOf k.memory.frames.page z plan.loans.items plan.first plan.len) x.range_is p in
      begun_answered laws k m c r range plan v w x app (lent_begins lent p shut) sized same (outline_shows k m c r plan x.good x.reached lent.keeps.page plan_is ready) (strong_told laws k m c r range plan v w x spoken lent paged p ready sends)

  pub lent_out : is_system (class_of c.sem) ≡ false → (new : Kernel) → new ≡ with_output k m c r plan → HasLent kind.Strong k.next spoken (output_loans plan.loans.items) k.memory m v w → IfSome v.slots (HasPages v) → IsPlanOf k.memory.frames.page range plan.loans.items plan.first plan.len → CanSend m.frames plan.loans.items plan.first plan.len → SendsRange k.memory m v range plan.loans.items plan.first plan.len → IsShut m r range → IsSized m w → w.faults ≡ v.faults → IsAnswered k c new v w (reply.Id k.next)
  lent_out app new is lent paged p ready sends shut sized same = subst (λ z. IsAnswered k c z v w (reply.Id k.next)) (sym is) (lent_answered app lent paged p ready sends shut sized same)

pub unlent_out : (laws : OutputLaws) (k : Kernel) (m : Memory) (c : Call) (r : Region) (range : Range) (v w : StoreView) → IsReady k c r range v → IsTakenBack (is_of_range k.memory.frames.page range) k.memory m v w → IsShut m r range → IsSized m w → StoreCause (mark_of reply.StoreFault) v.faults w.faults → IsAnswered k c (record k { memory = m }) v w reply.StoreFault
unlent_out laws k m c r range v w x back shut sized cause =
    let spoken = is_of_range k.memory.frames.page range in
    let guarded = guards_after k m r spoken x.good (reached_owned k c r x.reached) back.touches (only_its k c r range v x k.memory.frames.page) (shut_there k c m r range v x shut) in
    failed_answered k (record k { memory = m }) c v w x.accepted (laws.moved k (record k { memory = m }) v w x.good refl (taken_back k m v w spoken x.good (only_shown k c r range v x k.memory.frames.page) guarded sized back)) cause
