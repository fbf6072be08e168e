-- What is left once bytes were lent.
use Rattle.std.specs.Prelude.{ℕ, List, length, take, drop, ◌++◌}
use Rattle.std.specs.Borrow.{Lends, MutBor, Fml, Array, u8 as byte}
use Rattle.genie_base.specs.contracts.fixed_bytes.FixedBytes.{the_row as bytes_row}

-- the bytes once a slice of them all has ended as the new ones: a slice keeps its length
abbrev pub left_by_slice : List ℕ → List ℕ → List ℕ
left_by_slice old new = take (length old) (new ++ drop (length new) old)

abbrev pub LendsBytes : MutBor (List ℕ) → MutBor (List ℕ) → Fml
LendsBytes s r = Lends bytes_row (Array byte 0) s r (left_by_slice s.now)
