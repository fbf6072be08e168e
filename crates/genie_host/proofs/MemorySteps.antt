-- What an opening finds in a host in memory.
use Rattle.std.proofs.Common.{◌≡◌, ℕ, List, refl}
use Rattle.std.specs.List.{slice_get}
use Rattle.std.specs.Prelude.{Some, None, true, false, if◌then◌else◌}
use Rattle.genie_host.specs.MemoryRecords.{FileView}
use Rattle.genie_host.specs.MemoryParts.{bytes_in}
use Rattle.genie_host.specs.MemoryView.{told_of, is_refused, file_place}

-- the file that an opening found is told by its name
pub told_found : (files : List FileView) (refused : List (List ℕ)) (name : List ℕ) (i : ℕ) → Some i ≡ (if is_refused refused name then None else file_place files name) → told_of files name ≡ Some (bytes_in (slice_get files i))
told_found files refused name i is = elim (is_refused refused name) as (λ b. is_refused refused name ≡ b → told_of files name ≡ Some (bytes_in (slice_get files i))) [
  | true ↦ λ e. let none : Some i ≡ None = rw e at is in cc
  | false ↦ λ e. let found : Some i ≡ file_place files name = rw e at is in rw (← found) refl
] refl
