-- The loans and wires of a pending transfer are out.
use Rattle.std.proofs.Common.{◌≡◌, ℕ, ◌-◌, ◌≤◌, Bool, true, false, List, [], refl, sym, ap, subst, arith, ◌∙◌}
use Rattle.std.specs.Prelude.{Some, find, sum_by, if◌then◌else◌}
use Rattle.genie_base.specs.declared.semantics.Direction.TheVariants as direction
use Rattle.genie_frame.specs.declared.frame.Counts.{Counts}
use Rattle.genie_frame.specs.declared.frame.Owner.{Owner}
use Rattle.genie_frame.specs.FrameTable.{FrameTable, counts_at}
use Rattle.genie_plan.specs.Loans.{Loan, LoanKind, AreOut, Ended, amount, loan_times}
use Rattle.genie_plan.specs.Loans as kind
use Rattle.genie_plan.specs.Plans.{times}
use Rattle.genie_plan.specs.Wiring.{Unwired}
use Rattle.genie_model.specs.Lemmas.Lists.{Has, all_has, find_has}
use Rattle.genie_model.specs.Tables.{entry}
use Rattle.genie_kernel.specs.declared.kernel.Kernel.{Kernel}
use Rattle.genie_kernel.specs.declared.transfer.Loans.{Loans}
use Rattle.genie_kernel.specs.declared.transfer.Loans.TheVariants.{Nothing, Outward, Inward}
use Rattle.genie_kernel.specs.declared.transfer.Transfer.{Transfer}
use Rattle.genie_kernel.specs.Calls.{has_number, is_strong_call}
use Rattle.genie_kernel.specs.Counted.{is_wiring, lent_of, loans_on, wires_on}
use Rattle.genie_kernel.specs.Good.{IsGood}
use Rattle.genie_kernel.specs.Loans.{frames_of, loans_of}
use Rattle.genie_kernel.specs.Planned.{Lends, LendsIn, LendsInput, LendsStrongly, is_early_device}
use Rattle.genie_kernel.specs.Lemmas.Staying.{at_least}
use Rattle.genie_changes.specs.Ending.{IsGivenBack, wired_frames}
use Rattle.genie_arrivals.specs.Backing.{AreInward, CanGiveBack}

in_inward : (page : ℕ) (t : Transfer) (loans : Loans) → LendsIn page t loans → AreInward loans
in_inward page t Nothing h = tt
in_inward page t (Outward p) h = h
in_inward page t (Inward p) h = tt

strongly_inward : (page : ℕ) (owners : List Owner) (early : Bool) (t : Transfer) (loans : Loans) → LendsStrongly page owners early t loans → AreInward loans
strongly_inward page owners false t loans h = subst AreInward (sym h) tt
strongly_inward page owners true t loans h = in_inward page t loans h.0

input_inward : (page : ℕ) (owners : List Owner) (early : Bool) (t : Transfer) (strong : Bool) → LendsInput page owners early t strong → AreInward t.loans
input_inward page owners early t true h = strongly_inward page owners early t t.loans h
input_inward page owners early t false h = in_inward page t t.loans h

-- what is lent for a transfer of a good kernel
pub lends_at : (k : Kernel) (t : Transfer) → IsGood k → Has t k.transfers → Lends k.config.page k.memory.frames.owners (is_early_device (entry k.devices t.dev)) t t.dir
lends_at k t g there = all_has (λ (u : Transfer). Lends k.config.page k.memory.frames.owners (is_early_device (entry k.devices u.dev)) u u.dir) k.transfers g.planned t there

kind_out : (k : Kernel) (t : Transfer) → IsGood k → Has t k.transfers → (wanted : LoanKind) (f : ℕ) → loan_times (loans_of t.loans) wanted f ≤ amount wanted (lent_of k.transfers k.pools f)
kind_out k t g there kind.Strong f = at_least (loans_on kind.Strong f) k.transfers t there
kind_out k t g there kind.Weak f = at_least (loans_on kind.Weak f) k.transfers t there
kind_out k t g there kind.Input f = omega (arith, at_least (loans_on kind.Input f) k.transfers t there)

wires_same : (f : ℕ) (wiring : Bool) (frames : List ℕ) → times (if wiring then frames else []) f ≡ (if wiring then times frames f else 0)
wires_same f true frames = refl
wires_same f false frames = refl

pub can_give_back : (k : Kernel) (n : ℕ) (t : Transfer) → IsGood k → find (has_number n) k.transfers ≡ Some t → t.dir ≡ direction.Inward → CanGiveBack t k.memory.frames
can_give_back k n t g found inward =
    let there = (find_has (has_number n) k.transfers t found).0 in
    let lends = subst (Lends k.config.page k.memory.frames.owners (is_early_device (entry k.devices t.dev)) t) inward (lends_at k t g there) in
    record {
      inward = input_inward k.config.page k.memory.frames.owners (is_early_device (entry k.devices t.dev)) t (is_strong_call t) lends;
      out = λ wanted f. subst (λ (c : Counts). loan_times (loans_of t.loans) wanted f ≤ amount wanted c) (sym (g.counted f)) (kind_out k t g there wanted f);
      wired = λ f. subst (λ (c : Counts). times (wired_frames t) f ≤ c.wires) (sym (g.counted f)) (subst (λ j. j ≤ sum_by (wires_on f) k.transfers) (sym (wires_same f (is_wiring t) (frames_of t.loans))) (at_least (wires_on f) k.transfers t there));
    }

out_of : (wanted : LoanKind) (n w : ℕ) (c d : Counts) → c ≡ record d { wires = w } → n ≤ amount wanted d → n ≤ amount wanted c
out_of kind.Strong n w c d e l = subst (λ (x : Counts). n ≤ x.strong) (sym e) l
out_of kind.Weak n w c d e l = subst (λ (x : Counts). n ≤ x.weak) (sym e) l
out_of kind.Input n w c d e l = subst (λ (x : Counts). n ≤ x.input) (sym e) l

-- loans are still out once wires are off
pub out_unwired : (frames : List ℕ) (loans : List Loan) (old new : FrameTable) → Unwired frames old new → AreOut old loans → AreOut new loans
out_unwired frames loans old new off out = λ wanted f. out_of wanted (loan_times loans wanted f) ((counts_at old f).wires - times frames f) (counts_at new f) (counts_at old f) (off.counts f) (out wanted f)

less_none : (n m : ℕ) → m ≡ 0 → n ≡ n - m
less_none n m e = omega (arith, e)

no_wires : (b : Bool) (f : ℕ) → times (if b then [] else []) f ≡ 0
no_wires true f = refl
no_wires false f = refl

-- where nothing was lent, nothing changes
pub nothing_back : (t : Transfer) (frames : FrameTable) → t.loans ≡ Nothing → IsGivenBack t frames frames
nothing_back t frames none =
    let wires : (f : ℕ) → times (wired_frames t) f ≡ 0 = λ f. ap (λ (l : Loans). times (if is_wiring t then frames_of l else []) f) none ∙ no_wires (is_wiring t) f in
    record {
      unwired = frames;
      wires = record {
        only = record { page = refl; owners = refl; number = refl; bytes = refl; meters = refl; landed = refl };
        counts = λ f i. record (counts_at frames f) { wires = less_none (counts_at frames f).wires (times (wired_frames t) f) (wires f) i };
      };
      loans = subst (λ (l : Loans). Ended (loans_of l) frames frames) (sym none) (record {
        page = refl;
        bytes = refl;
        meters = refl;
        landed = refl;
        size = refl;
        counts = λ f i. record (counts_at frames f) { strong = less_none (counts_at frames f).strong 0 refl i; weak = less_none (counts_at frames f).weak 0 refl i; input = less_none (counts_at frames f).input 0 refl i };
        owners = λ f l. absurd (omega (arith, l));
        others = λ f e. refl;
      });
    }
