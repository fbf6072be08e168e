-- What is sent of a plan after other calls.
use Rattle.std.proofs.Common.{◌≡◌, ℕ, suc, ◌+◌, ◌<◌, Bool, true, false, List, [], ◌∷◌, ◌++◌, length, refl, ap, sym, ◌∙◌, arith, rules, subst, get_or}
use Rattle.std.specs.Prelude.{Option, Some, None, IfSome, flat_map}
use Rattle.std.specs.List.{range_with_len}
use Rattle.genie_base.specs.Bytes.{part}
use Rattle.genie_frame.specs.declared.frame.OutLoan.{OutLoan}
use Rattle.genie_frame.specs.declared.frame.Counts.{Counts}
use Rattle.genie_frame.specs.Frames.{outputs}
use Rattle.genie_frame.specs.FrameTable.{counts_at, bytes_at, is_held, is_lent}
use Rattle.genie_object.specs.declared.memory.Memory.{Memory}
use Rattle.genie_object.specs.Memory.{seen, entry_frame}
use Rattle.genie_object.specs.Touching.{KeepsLoans}
use Rattle.genie_plan.specs.Plans.{output_frames, joined, range_bytes, CanSend}
use Rattle.genie_plan.specs.Lemmas.Landings.{entry_shown}
use Rattle.genie_plan.specs.Landings.{entries_bytes}
use Rattle.genie_tcow.specs.Ranges.{first_page, pages_of}
use Rattle.genie_tcow.specs.Laws.{SendsAsLent, SendsAsIs}
use Rattle.genie_tcow.proofs.Ready.{joined_entries, count_frames, frame_at}

outputs_lent : (strong : Bool) (c : Counts) → 0 < outputs strong c → is_lent c ≡ true
outputs_lent true c h = grind (arith, rules)
outputs_lent false c h = grind (arith, rules)

outputs_held : (strong : Bool) (c : Counts) → strong ≡ false → 0 < outputs strong c → is_held c ≡ true
outputs_held true c e h = cc
outputs_held false c e h = grind (arith, rules)

joined_same : (frames : List ℕ) (a b : List (List ℕ)) → ((k : ℕ) → k < length frames → get_or b (get_or frames k 0) [] ≡ get_or a (get_or frames k 0) []) → joined b frames ≡ joined a frames
joined_same [] a b h = refl
joined_same (f ∷ frames) a b h = let rest = joined_same frames a b (λ k l. h (suc k) (omega arith)) in let one = h 0 (omega arith) in λ k. one k ++ rest k

no_loan : OutLoan
no_loan = record { frame = record { 0 = 0 }; strong = false }

bytes_last : (new later : Memory) (loans : List OutLoan) (first len : ℕ) → CanSend new.frames loans first len → KeepsLoans new later → range_bytes later.frames (output_frames loans) first len ≡ range_bytes new.frames (output_frames loans) first len
bytes_last new later loans first len c x = ap (part first len) (joined_same (output_frames loans) new.frames.bytes later.frames.bytes (λ k l.
    let l' : k < length loans = rw (count_frames loans) at l in
    let loan = get_or loans k no_loan in
    subst (λ f. bytes_at later.frames f ≡ bytes_at new.frames f) (frame_at loans k no_loan l') (x.lent loan.frame.0 (outputs_lent loan.strong (counts_at new.frames loan.frame.0) (c.out k no_loan l'))).bytes))

pub sends_as_lent : SendsAsLent
sends_as_lent old new later v range loans first len c x keeps = told (λ s. part first len (entries_bytes (seen old s) range.object.0 (first_page old.frames.page range) (pages_of old.frames.page range))) v.slots x
  where
    told : (Q : (ℕ → List ℕ) → List ℕ) (slots : Option (ℕ → List ℕ)) → IfSome slots (λ s. range_bytes new.frames (output_frames loans) first len ≡ Q s) → IfSome slots (λ s. range_bytes later.frames (output_frames loans) first len ≡ Q s)
    told Q None h = tt
    told Q (Some s) h = bytes_last new later loans first len c keeps ∙ h

pub sends_as_is : SendsAsIs
sends_as_is new later o i loans first len slots weak c of keeps = ap (part first len) (joined_entries (output_frames loans) later.frames.bytes ((seen later slots).entry_bytes o) i (λ k l.
    let l' : k < length loans = rw (count_frames loans) at l in
    let loan = get_or loans k no_loan in
    let held : is_held (counts_at new.frames loan.frame.0) ≡ true = outputs_held loan.strong (counts_at new.frames loan.frame.0) (weak k no_loan l') (c.out k no_loan l') in
    let on : entry_frame later o (i + k) ≡ Some (get_or (output_frames loans) k 0) = keeps.entry_held o (i + k) (get_or (output_frames loans) k 0) (of k l) (subst (λ f. is_held (counts_at new.frames f) ≡ true) (frame_at loans k no_loan l') held) in
    sym (entry_shown later slots o (i + k) (get_or (output_frames loans) k 0) on))
    ∙ ap (λ n. flat_map ((seen later slots).entry_bytes o) (range_with_len i n)) (count_frames loans))
