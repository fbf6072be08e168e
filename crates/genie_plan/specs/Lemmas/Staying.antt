-- A plan stays as it is.
use Rattle.std.proofs.Common.{◌≡◌, ℕ, suc, ◌<◌, ◌≤◌, true, false, List, [], ◌∷◌, ◌++◌, length, refl, ap, arith, rules, subst, get_or}
use Rattle.genie_base.specs.Bytes.{part}
use Rattle.genie_frame.specs.declared.frame.OutLoan.{OutLoan}
use Rattle.genie_frame.specs.declared.frame.Counts.{Counts}
use Rattle.genie_frame.specs.FrameTable.{counts_at, bytes_at, is_lent}
use Rattle.genie_object.specs.Touching.{NoFewer}
use Rattle.genie_plan.specs.Plans.{output_frames, joined}
use Rattle.genie_plan.specs.Loans.{LoanKind, Strong, Weak, Input, amount, one_more, output_kind}
use Rattle.genie_plan.specs.Staying.{OutputsStay, InputsStay, CallsLeavePlans}
use Rattle.genie_plan.specs.Lemmas.Ending.{outputs_are}
use Rattle.genie_plan.specs.Lemmas.Ranges.{out_frame_at, out_frames_count}

lent_of : (kind : LoanKind) (c : Counts) → 0 < amount kind c → is_lent c ≡ true
lent_of Strong c h = grind (arith, rules)
lent_of Weak c h = grind (arith, rules)
lent_of Input c h = grind (arith, rules)

amount_kept : (kind : LoanKind) (a b : Counts) → NoFewer a b → amount kind a ≤ amount kind b
amount_kept Strong a b x = x.strong
amount_kept Weak a b x = x.weak
amount_kept Input a b x = x.input

-- one loan more is no fewer loans
pub one_loan_more : (kind : LoanKind) (c : Counts) → NoFewer c (one_more kind c)
one_loan_more Strong c = record { strong = omega arith; weak = omega arith; input = omega arith }
one_loan_more Weak c = record { strong = omega arith; weak = omega arith; input = omega arith }
one_loan_more Input c = record { strong = omega arith; weak = omega arith; input = omega arith }

-- frames that keep their bytes
joined_same : (frames : List ℕ) (old new : List (List ℕ)) → ((k : ℕ) → k < length frames → get_or new (get_or frames k 0) [] ≡ get_or old (get_or frames k 0) []) → joined new frames ≡ joined old frames
joined_same [] old new h = refl
joined_same (f ∷ frames) old new h = λ k. h 0 (omega arith) k ++ joined_same frames old new (λ j l. h (suc j) (omega arith)) k

pub inputs_stay : InputsStay
inputs_stay old new frames first len x r = record {
  ready = record { out = λ k l. omega (arith, r.out k l, x.loans Input (get_or frames k 0)); apart = r.apart; within = λ p. rw x.page (r.within p); fits = r.fits };
  bytes = ap (part first len) (joined_same frames old.bytes new.bytes (λ k l. x.bytes (get_or frames k 0) (lent_of Input (counts_at old (get_or frames k 0)) (r.out k l))));
}

no_loan : OutLoan
no_loan = record { frame = record { 0 = 0 }; strong = false }

pub outputs_stay : OutputsStay
outputs_stay old new loans first len x r = record {
  ready = record {
    out = λ k d l.
        let loan = get_or loans k d in
        omega (arith, r.out k d l, x.loans (output_kind loan.strong) loan.frame.0, outputs_are loan.strong (counts_at old loan.frame.0), outputs_are loan.strong (counts_at new loan.frame.0));
    within = λ p. rw x.page (r.within p);
    fits = r.fits;
  };
  bytes = ap (part first len) (joined_same (output_frames loans) old.bytes new.bytes (λ k l.
      let l' : k < length loans = rw (out_frames_count loans) at l in
      let loan = get_or loans k no_loan in
      let out : 0 < amount (output_kind loan.strong) (counts_at old loan.frame.0) = omega (arith, r.out k no_loan l', outputs_are loan.strong (counts_at old loan.frame.0)) in
      subst (λ f. bytes_at new f ≡ bytes_at old f) (out_frame_at loans k no_loan l') (x.bytes loan.frame.0 (lent_of (output_kind loan.strong) (counts_at old loan.frame.0) out))));
}

pub calls_leave_plans : CallsLeavePlans
calls_leave_plans old new k = record { page = k.page; loans = λ kind f. amount_kept kind (counts_at old.frames f) (counts_at new.frames f) (k.loans f); bytes = λ f l. (k.lent f l).bytes }
