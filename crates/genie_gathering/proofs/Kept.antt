-- No frame is freed or gets another owner by a receive step.
use Rattle.std.proofs.Common.{◌≡◌, ℕ, Bool, true, false, cond, List, [], ◌∷◌, sym, ap, ◌∙◌, inl, get_or}
use Rattle.std.specs.Prelude.{Option, Some, find}
use Rattle.genie_frame.specs.declared.frame.Owner.TheVariants.{Free, Pool}
use Rattle.genie_frame.specs.FrameTable.{owner_at}
use Rattle.genie_model.specs.Lemmas.Lists.{find_has}
use Rattle.genie_kernel.specs.declared.kernel.Kernel.{Kernel}
use Rattle.genie_kernel.specs.declared.transfer.Loans.{Loans}
use Rattle.genie_kernel.specs.declared.transfer.Transfer.{Transfer}
use Rattle.genie_kernel.specs.Calls.{has_number}
use Rattle.genie_kernel.specs.Good.{IsGood}
use Rattle.genie_kernel.specs.Kept.{Kept, StaysPending}
use Rattle.genie_kernel.specs.Loans.{frames_of}
use Rattle.genie_kernel.specs.Lemmas.Keeping.{transfer_lent}
use Rattle.genie_changes.specs.Working.{Work, at_work, worked}
use Rattle.std.specs.List.{list_any}
use Rattle.std.specs.Prelude.{◌==◌}

same_one : (o : Option Transfer) (t u : Transfer) → o ≡ Some t → o ≡ Some u → t ≡ u
same_one o t u a b = let e : Some t ≡ Some u = sym a ∙ b in cc

-- where owners are as before, and each pending transfer has the loans that it had
pub kept_by : (k new : Kernel) → IsGood k → new.memory.frames.owners ≡ k.memory.frames.owners → ((n : ℕ) (t u : Transfer) → StaysPending k new n t u → u.loans ≡ t.loans) → Kept k new
kept_by k new g owners loans =
    let same : (f : ℕ) → owner_at new.memory.frames f ≡ owner_at k.memory.frames f = λ f. ap (λ os. get_or os f Free) owners in
    record {
      lent = λ n f t u p on still. record {
        owner = inl (same f);
        unfreed = λ free.
            let lent = transfer_lent k f t g (find_has (has_number n) k.transfers t p.was).0 on in
            let unlent = (g.sound.lent f).free (sym (same f) ∙ free) in
            let clash : true ≡ false = sym lent ∙ unlent in absurd (cc);
      };
      pooled = λ d f on still. record {
        owner = inl (same f);
        unfreed = λ free. let clash : Pool d ≡ Free = sym (g.owners.pool_frames f d on) ∙ sym (same f) ∙ free in absurd (cc);
      };
      fresh = λ n f t u p unready on. ap (λ (l : Loans). list_any (λ h. h == f) (frames_of l)) (sym (loans n t u p)) ∙ on;
    }

-- a step that changes no transfer and no frame
pub kept_alone : (k new : Kernel) → IsGood k → new.memory.frames.owners ≡ k.memory.frames.owners → new.transfers ≡ k.transfers → Kept k new
kept_alone k new g owners transfers = kept_by k new g owners (λ n t u p. ap (λ (x : Transfer). x.loans) (same_one (find (has_number n) k.transfers) u t (sym (ap (find (has_number n)) transfers) ∙ p.is) p.was))

-- at another point of its work a transfer has the loans that it had
worked_loans : (p : Transfer → Bool) (w : Work) (m : ℕ) (t u : Transfer) (ts : List Transfer) → find (has_number m) ts ≡ Some t → find (has_number m) (worked p w ts) ≡ Some u → u.loans ≡ t.loans
worked_loans p w m t u [] a b = absurd (cc)
worked_loans p w m t u (x ∷ ts) a b = elim (p x) as (λ c. find (has_number m) (cond c (at_work w x ∷ ts) (x ∷ worked p w ts)) ≡ Some u → u.loans ≡ t.loans) [
  | true ↦ λ f. elim (has_number m x) as (λ c. cond c (Some x) (find (has_number m) ts) ≡ Some t → cond c (Some (at_work w x)) (find (has_number m) ts) ≡ Some u → u.loans ≡ t.loans) [
    | true ↦ λ h i. let first : x ≡ t = cc in let second : at_work w x ≡ u = cc in sym (ap (λ (y : Transfer). y.loans) second) ∙ ap (λ (y : Transfer). y.loans) first
    | false ↦ λ h i. ap (λ (y : Transfer). y.loans) (same_one (find (has_number m) ts) u t i h)
  ] a f
  | false ↦ λ f. elim (has_number m x) as (λ c. cond c (Some x) (find (has_number m) ts) ≡ Some t → cond c (Some x) (find (has_number m) (worked p w ts)) ≡ Some u → u.loans ≡ t.loans) [
    | true ↦ λ h i. ap (λ (y : Transfer). y.loans) (let e : Some u ≡ Some t = sym i ∙ h in let same : u ≡ t = cc in same)
    | false ↦ λ h i. worked_loans p w m t u ts h i
  ] a f
] b

pub kept_worked : (p : Transfer → Bool) (w : Work) (k new : Kernel) → IsGood k → new.memory.frames.owners ≡ k.memory.frames.owners → new.transfers ≡ worked p w k.transfers → Kept k new
kept_worked p w k new g owners transfers = kept_by k new g owners (λ n t u q. worked_loans p w n t u k.transfers q.was (sym (ap (find (has_number n)) transfers) ∙ q.is))
