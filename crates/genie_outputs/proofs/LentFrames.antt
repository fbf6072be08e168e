-- The frames that a new output is lent.
use Rattle.std.proofs.Common.{◌≡◌, ◌+◌, false, [], ◌∷◌, ◌++◌, sym, ap, subst, ◌∙◌}
use Rattle.std.specs.Prelude.{◌/◌, Some, slice_index_or}
use Rattle.genie_store.specs.StoreView.{StoreView}
use Rattle.genie_hiding.specs.Hidden.{objects_of}
use Rattle.genie_object.specs.declared.memory.Memory.{Memory}
use Rattle.genie_object.specs.declared.objects.Range.{Range}
use Rattle.genie_object.specs.Memory.{entry_frame}
use Rattle.genie_plan.specs.declared.plan.OutPlan.{OutPlan}
use Rattle.genie_plan.specs.Loans.{output_loans}
use Rattle.genie_region.specs.declared.region.Region.{Region}
use Rattle.genie_tcow.specs.Costs as tcow
use Rattle.genie_tcow.specs.Owning.{AreOwnFrames, AreTransfers}
use Rattle.genie_tcow.specs.Ranges.{first_page}
use Rattle.genie_kernel.specs.declared.kernel.Kernel.{Kernel}
use Rattle.genie_kernel.specs.Good.{IsGood}
use Rattle.genie_kernel.specs.Loans.{loans_of}
use Rattle.genie_changes.specs.Making.{IsMoved}
use Rattle.genie_copying.specs.Kinds.{is_weakly_held}
use Rattle.genie_copying.specs.Spending.{StayUnheld}
use Rattle.genie_outputs.specs.declared.call.Call.{Call}
use Rattle.genie_outputs.specs.Answering.{IsReady}
use Rattle.genie_outputs.specs.Calls.{Reaches, place_in, transfer_of, with_output}
use Rattle.genie_outputs.specs.Lending.{LendsCopies, LendsOwn}
use Rattle.genie_outputs.proofs.Reached.{reached_unhidden}
use Rattle.genie_outputs.proofs.Rows.{held_alike}

-- the call waits over copies
pub copies_lent : (k : Kernel) (m : Memory) (c : Call) (r : Region) (plan : OutPlan) (new : Kernel) → new ≡ with_output k m c r plan → AreTransfers k.next (output_loans plan.loans.items) m.frames → LendsCopies k new
copies_lent k m c r plan new is system = record {
  transfer = transfer_of k c r plan;
  is_new = ap (λ (z : Kernel). z.transfers) is;
  system = subst (λ (z : Kernel). AreTransfers k.next (output_loans plan.loans.items) z.memory.frames) (sym is) system;
}

-- and over the pages' own frames
pub own_lent : (k : Kernel) (m : Memory) (c : Call) (r : Region) (range : Range) (plan : OutPlan) (v : StoreView) (new : Kernel) → IsReady k c r range v → new ≡ with_output k m c r plan → AreOwnFrames k.memory m range.object.0 (first_page k.memory.frames.page range) (output_loans plan.loans.items) → LendsOwn k new c
own_lent k m c r range plan v new x is own = record {
  region = r;
  reached = x.reached;
  transfer = transfer_of k c r plan;
  is_new = ap (λ (z : Kernel). z.transfers) is;
  own =
      let there : AreOwnFrames k.memory m r.object.0 (place_in k.config.page c r / k.config.page) (output_loans plan.loans.items) = subst (λ (z : Range). AreOwnFrames k.memory m z.object.0 (z.off / k.config.page) (output_loans plan.loans.items)) x.range_is (subst (λ p. AreOwnFrames k.memory m range.object.0 (range.off / p) (output_loans plan.loans.items)) x.good.sized.page own) in
      subst (λ (z : Kernel). AreOwnFrames k.memory z.memory r.object.0 (place_in k.config.page c r / k.config.page) (output_loans plan.loans.items)) (sym is) there;
}

-- so it is from before room was made on
pub copies_since : (k mid new : Kernel) (u v : StoreView) → IsMoved k mid u v → LendsCopies mid new → LendsCopies k new
copies_since k mid new u v moved x = record {
  transfer = x.transfer;
  is_new = x.is_new ∙ ap (λ (z : Kernel). z.transfers ++ x.transfer ∷ []) moved.only;
  system = x.system;
}

pub own_since : (k mid new : Kernel) (c : Call) (u v : StoreView) → IsGood k → IsMoved k mid u v → StayUnheld (objects_of k.hidden) k.memory mid.memory → LendsOwn mid new c → LendsOwn k new c
own_since k mid new c u v good moved unheld x =
    let reached : Reaches k c x.region = subst (λ (z : Kernel). Reaches z c x.region) moved.only x.reached in
    record {
      region = x.region;
      reached = reached;
      transfer = x.transfer;
      is_new = x.is_new ∙ ap (λ (z : Kernel). z.transfers ++ x.transfer ∷ []) moved.only;
      own = λ n d l free.
          let at : place_in mid.config.page c x.region / mid.config.page ≡ place_in k.config.page c x.region / k.config.page = ap (λ (z : Kernel). place_in z.config.page c x.region / z.config.page) moved.only in
          let before : is_weakly_held k.memory x.region.object.0 (place_in k.config.page c x.region / k.config.page + n) ≡ false = sym (held_alike k.memory x.region.object.0 (place_in k.config.page c x.region / k.config.page + n)) ∙ free in
          let then = unheld x.region.object.0 (place_in k.config.page c x.region / k.config.page + n) (reached_unhidden k c x.region good reached) before in
          let now = held_alike mid.memory x.region.object.0 (place_in k.config.page c x.region / k.config.page + n) ∙ then in
          subst (λ p. entry_frame new.memory x.region.object.0 (p + n) ≡ Some (slice_index_or (loans_of x.transfer.loans) n d).frame) at (x.own n d l (subst (λ p. tcow.is_weakly_held mid.memory x.region.object.0 (p + n) ≡ false) (sym at) now));
    }
