-- The table computes.
use Rattle.std.proofs.Common.{refl}
use Rattle.genie_copying.specs.Rows.{TableRows}

pub table_rows : TableRows
table_rows = record {
  kinds = record { untouched = refl; shared = refl; strong = refl; held = refl; fixed = refl; unlendable = refl };
  accesses = record { read_untouched = refl; read_in_place = refl; write_fixed = refl; write_in_place = refl; write_failed = refl; write_refused = refl; fork = refl; pageout = refl };
  outputs = record { copy = refl; emulated_copy = refl; short_copy = refl; move = refl; emulated_move = refl; share = refl; emulated_share = refl; weak_move = refl; emulated_weak_move = refl };
  inputs = record { copy = refl; move = refl; share = refl; new_region = refl; same_region = refl };
  ends = record { copy = refl; swapped = refl; outboard = refl; aligned = refl; unaligned = refl; move = refl; aligned_move = refl; unaligned_move = refl; share = refl; weak_move = refl; pooled_share = refl; output = refl; gone = refl; lost = refl; sent = refl; received = refl };
}
