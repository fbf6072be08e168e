-- The worked rows compute.
use Rattle.std.proofs.Common.{refl}
use Rattle.genie_base.specs.declared.config.Kind.TheVariants.{Early, Pooled, Outboard}
use Rattle.genie_base.specs.declared.semantics.Semantics.TheVariants.{Copy, EmulatedCopy, Share, EmulatedShare, Move, EmulatedMove, WeakMove, EmulatedWeakMove}
use Rattle.genie_model.specs.Regions.{fresh, least_unused}
use Rattle.genie_model.specs.Rows.{WorkedRows, EachSendsBack}

sends_back : EachSendsBack
unfolding fresh least_unused
sends_back Early Copy = record { replies = refl; file = refl }
sends_back Early EmulatedCopy = record { replies = refl; file = refl }
sends_back Early Share = record { replies = refl; file = refl }
sends_back Early EmulatedShare = record { replies = refl; file = refl }
sends_back Early Move = record { replies = refl; file = refl }
sends_back Early EmulatedMove = record { replies = refl; file = refl }
sends_back Early WeakMove = record { replies = refl; file = refl }
sends_back Early EmulatedWeakMove = record { replies = refl; file = refl }
sends_back Pooled Copy = record { replies = refl; file = refl }
sends_back Pooled EmulatedCopy = record { replies = refl; file = refl }
sends_back Pooled Share = record { replies = refl; file = refl }
sends_back Pooled EmulatedShare = record { replies = refl; file = refl }
sends_back Pooled Move = record { replies = refl; file = refl }
sends_back Pooled EmulatedMove = record { replies = refl; file = refl }
sends_back Pooled WeakMove = record { replies = refl; file = refl }
sends_back Pooled EmulatedWeakMove = record { replies = refl; file = refl }
sends_back Outboard Copy = record { replies = refl; file = refl }
sends_back Outboard EmulatedCopy = record { replies = refl; file = refl }
sends_back Outboard Share = record { replies = refl; file = refl }
sends_back Outboard EmulatedShare = record { replies = refl; file = refl }
sends_back Outboard Move = record { replies = refl; file = refl }
sends_back Outboard EmulatedMove = record { replies = refl; file = refl }
sends_back Outboard WeakMove = record { replies = refl; file = refl }
sends_back Outboard EmulatedWeakMove = record { replies = refl; file = refl }

pub worked_rows : WorkedRows
unfolding fresh least_unused
worked_rows = record {
  sends_back = sends_back;
  copy_output = record { replies = refl; file = refl };
  share_output = record { replies = refl; file = refl };
  exit_before_sending = record { replies = refl; file = refl };
  copy_input = record { replies = refl; file = refl };
  share_input = record { replies = refl; file = refl };
  emulated_move = record { replies = refl; file = refl };
  basic_move = record { replies = refl; file = refl };
  wired_frames = record { replies = refl; file = refl };
  pooled_input = record { replies = refl; file = refl };
  dropped_early = record { replies = refl; file = refl };
  matched_late = record { replies = refl; file = refl };
  truncated = record { replies = refl; file = refl };
  bad_format = record { replies = refl; file = refl };
  bad_length = record { replies = refl; file = refl };
  cut_and_lost = record { replies = refl; file = refl };
  orphan = record { replies = refl; file = refl };
  weak_moves = record { replies = refl; file = refl };
  cancelled_weak_move = record { replies = refl; file = refl };
  failing_host = record { replies = refl; file = refl };
  staged_output = record { replies = refl; file = refl };
  read_only = record { replies = refl; file = refl };
  protected_late = record { replies = refl; file = refl };
  flows = record { replies = refl; file = refl };
}
