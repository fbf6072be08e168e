-- Runs of bytes, and what slices of a list leave.
use Rattle.std.proofs.Common.{subst, ◌≡◌, ℕ, ◌+◌, ◌≤◌, List, ◌++◌, length, take, drop, refl, ap, sym, ◌∙◌, arith, append_assoc, length-take, length-drop}
use Rattle.std.proofs.lemmas.List.{drop-drop}
use Rattle.std.proofs.lemmas.List.Edits.{paste_all}
use Rattle.std.proofs.lemmas.Slice.{put_mid-paste}
use borrow.Rule.Slice.PartMut.{put_mid}
use Rattle.std.proofs.lemmas.Grind.{common_steps}
use Rattle.genie_base.specs.Bytes.{overlaid, part}
use Rattle.genie_base.specs.Lemmas.Overlaid.{overlaid-pieces}

pub laid : (x : ℕ) (new old : List ℕ) → x + length new ≤ length old → take x old ++ new ++ drop (x + length new) old ≡ overlaid x new old
laid x new old h = append_assoc (take x old) new (drop (x + length new) old) ∙ ap (λ rest. take x old ++ (new ++ rest)) (sym (drop-drop (length new) x old)) ∙ overlaid-pieces x new old h

-- what a run of the bytes leaves that were written to
pub put_laid : (x k : ℕ) (old run new : List ℕ) → run ≡ new → length new ≡ k → x + k ≤ length old → put_mid x k old run ≡ overlaid x new old
put_laid x k old run new e is h = put_mid-paste x k old run new (length new) e is refl ∙ paste_all old x new (length new) refl ∙ sym (append_assoc (take x old) new (drop (x + length new) old)) ∙ laid x new old (omega arith)

pub part_size : (x n : ℕ) (bytes : List ℕ) → x + n ≤ length bytes → length (part x n bytes) ≡ n
part_size x n bytes h = simp (length-take, length-drop) (omega arith)

pub shifted : (from to n m : ℕ) (old : List ℕ) → from + n ≤ length old → to + n ≤ length old → m ≡ n → take to old ++ take m (drop from old) ++ drop (to + m) old ≡ overlaid to (part from n old) old
shifted from to n m old h k e = let s = part_size from n old h in rw e (subst (λ i. take to old ++ part from n old ++ drop (to + i) old ≡ overlaid to (part from n old) old) s (laid to (part from n old) old (omega arith)))

-- what a slice of a whole list leaves
pub refilled : {X : Type 0} (n : ℕ) (old new : List X) → n ≡ length old → length new ≡ length old → take n (new ++ drop (length new) old) ≡ new
refilled n old new e h = grind (arith, common_steps)
