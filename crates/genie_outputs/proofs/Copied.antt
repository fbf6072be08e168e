-- What an output call leaves whose bytes are copied.
use Rattle.std.proofs.Common.{◌≡◌, true, false, refl, sym, ap, subst}
use Rattle.std.specs.Prelude.{IfSome}
use Rattle.genie_base.specs.Events.{mark_of}
use Rattle.genie_base.specs.Transfers.{class_of, is_strong, is_system}
use Rattle.genie_base.specs.declared.reply.Reply.TheVariants as reply
use Rattle.genie_base.specs.declared.semantics.Class.TheVariants.{Copy}
use Rattle.genie_store.specs.StoreView.{StoreView}
use Rattle.genie_object.specs.declared.memory.Memory.{Memory}
use Rattle.genie_object.specs.declared.objects.Range.{Range}
use Rattle.genie_object.specs.Sound.{IsSized}
use Rattle.genie_plan.specs.declared.plan.OutPlan.{OutPlan}
use Rattle.genie_plan.specs.Loans.{output_loans}
use Rattle.genie_plan.specs.Loans as kind
use Rattle.genie_plan.specs.Plans.{CanSend}
use Rattle.genie_region.specs.declared.region.Region.{Region}
use Rattle.genie_kernel.specs.declared.kernel.Kernel.{Kernel}
use Rattle.genie_kernel.specs.Regions.{owned_regions}
use Rattle.genie_kernel.specs.Steps.{StoreCause}
use Rattle.genie_kernel.specs.Lemmas.Keeping.{guards_kept}
use Rattle.genie_tcow.specs.Lending.{HasLent, IsTakenBack, no_entry}
use Rattle.genie_tcow.specs.Ranges.{IsPlanOf, SendsRange}
use Rattle.genie_outputs.specs.declared.call.Call.{Call}
use Rattle.genie_outputs.specs.Answering.{IsAnswered, IsReady}
use Rattle.genie_outputs.specs.Calls.{with_output}
use Rattle.genie_outputs.specs.OutputLaws.{OutputLaws}
use Rattle.genie_outputs.proofs.Answered.{begun_answered, failed_answered, strong_told, taken_back}
use Rattle.genie_outputs.proofs.Loaned.{hidden_fit, strong_begins}
use Rattle.genie_outputs.proofs.Pages.{HasPages}
use Rattle.genie_outputs.proofs.Reached.{fits_device, may_output}
use Rattle.genie_outputs.proofs.Shown.{outline_shows}

module _ (laws : OutputLaws) (k : Kernel) (m : Memory) (c : Call) (r : Region) (range : Range) (plan : OutPlan) (v w : StoreView) (x : IsReady k c r range v) (copy : class_of c.sem ≡ Copy) where
  copied_answered : HasLent kind.Strong k.next no_entry (output_loans plan.loans.items) k.memory m v w → IfSome v.slots (HasPages v) → IsPlanOf k.memory.frames.page range plan.loans.items plan.first plan.len → CanSend m.frames plan.loans.items plan.first plan.len → SendsRange k.memory m v range plan.loans.items plan.first plan.len → IsSized m w → w.faults ≡ v.faults → IsAnswered k c (with_output k m c r plan) v w (reply.Id k.next)
  copied_answered lent paged p ready sends sized same =
      let strong : is_strong (class_of c.sem) ≡ true = ap is_strong copy in
      let app : is_system (class_of c.sem) ≡ false = ap is_system copy in
      let device = fits_device k c x.good (may_output k c x.accepted) in
      let cached = hidden_fit k m c r plan v w no_entry x.good strong lent (λ o i among. refl) in
      let guarded = guards_kept no_entry k.memory m (owned_regions k.spaces.processes) lent.touches (λ i d l shut j. refl) x.good.guarded in
      let plan_is = subst (λ z. IsPlanOf k.memory.frames.page z plan.loans.items plan.first plan.len) x.range_is p in
      let begins = strong_begins k m c r plan v w no_entry x.good strong lent plan_is device cached guarded in
      begun_answered laws k m c r range plan v w x app begins sized same (outline_shows k m c r plan x.good x.reached lent.keeps.page plan_is ready) (strong_told laws k m c r range plan v w x no_entry lent paged p ready sends)

  pub copied : (new : Kernel) → new ≡ with_output k m c r plan → HasLent kind.Strong k.next no_entry (output_loans plan.loans.items) k.memory m v w → IfSome v.slots (HasPages v) → IsPlanOf k.memory.frames.page range plan.loans.items plan.first plan.len → CanSend m.frames plan.loans.items plan.first plan.len → SendsRange k.memory m v range plan.loans.items plan.first plan.len → IsSized m w → w.faults ≡ v.faults → IsAnswered k c new v w (reply.Id k.next)
  copied new is lent paged p ready sends sized same = subst (λ z. IsAnswered k c z v w (reply.Id k.next)) (sym is) (copied_answered lent paged p ready sends sized same)

pub uncopied : (laws : OutputLaws) (k : Kernel) (m : Memory) (c : Call) (r : Region) (range : Range) (v w : StoreView) → IsReady k c r range v → IsTakenBack no_entry k.memory m v w → IsSized m w → StoreCause (mark_of reply.StoreFault) v.faults w.faults → IsAnswered k c (record k { memory = m }) v w reply.StoreFault
uncopied laws k m c r range v w x back sized cause =
    let guarded = guards_kept no_entry k.memory m (owned_regions k.spaces.processes) back.touches (λ i d l shut j. refl) x.good.guarded in
    failed_answered k (record k { memory = m }) c v w x.accepted (laws.moved k (record k { memory = m }) v w x.good refl (taken_back k m v w no_entry x.good (λ o i among. refl) guarded sized back)) cause
