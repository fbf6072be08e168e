-- An end at which nothing lands is one at which few bytes do.
use Rattle.std.proofs.Common.{◌≡◌, ℕ, ◌≤◌, ◌+◌, ◌^◌, true, arith, find}
use Rattle.std.specs.Prelude.{Option, Some, None, IfSome, is_some}
use Rattle.genie_base.specs.declared.reply.Reply.{Reply}
use Rattle.genie_kernel.specs.declared.kernel.Kernel.{Kernel}
use Rattle.genie_kernel.specs.declared.transfer.Transfer.{Transfer}
use Rattle.genie_kernel.specs.Calls.{has_number}
use Rattle.genie_kernel.specs.Lemmas.Rising.{rises_same}
use Rattle.genie_arrivals.specs.Ends.{EndsAlone}
use Rattle.genie_arrivals.specs.Outboard.{EndsLanded}

pub alone_lands : (k new : Kernel) (n : ℕ) (r : Reply) → is_some (find (has_number n) k.transfers) ≡ true → EndsAlone k n new r → EndsLanded k n new r
alone_lands k new n r some e = record {
  ends = record { good = e.good; sized = e.sized; kept = e.kept; step = λ slots rests sents have. e.step slots rests sents; config = e.config; numbers = e.numbers; unfailed = e.unfailed; rises = rises_same (2 ^ 35) k.memory.frames new.memory.frames e.meters e.landed };
  meters = e.meters;
  landed = by (find (has_number n) k.transfers) some;
} where
  by : (o : Option Transfer) → is_some o ≡ true → IfSome o (λ (t : Transfer). new.memory.frames.landed ≤ k.memory.frames.landed + t.stored)
  by None h = absurd (cc)
  by (Some t) h = let same = e.landed in omega (arith, same)
