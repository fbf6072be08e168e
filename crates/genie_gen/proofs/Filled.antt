-- A piece has a byte at least, but at the end.
use Rattle.std.proofs.Common.{◌≡◌, ℕ, ◌<◌, List, [], ◌∷◌, length, length-append, arith, refl}
use Rattle.std.specs.Prelude.{slice_get}
use Rattle.std.proofs.lemmas.Option.{slice_get-get_or}
use Rattle.genie_base.specs.declared.event.Event.{Event}
use Rattle.genie_base.specs.declared.event.Event.TheVariants as event
use Rattle.genie_gen.specs.declared.source.Source.{Source}
use Rattle.genie_gen.specs.declared.source.Source.TheVariants.{Head, Line, Record, End}
use Rattle.genie_gen.specs.Rounds.{ended, head_text, round_events}
use Rattle.genie_gen.specs.Streams.{record_text}
use Rattle.genie_gen.specs.Sources.{IsPlace, left, piece, line_in}
use Rattle.genie_gen.proofs.Lines.{round_length}

ended_filled : (t : List ℕ) → length (ended t) ≡ 0 → ⊥
ended_filled t none = let more = length-append t (10 ∷ []) in omega (arith, more, none)

line_filled : (es : List Event) (l : ℕ) → l < length es → length (line_in (slice_get es l)) ≡ 0 → ⊥
line_filled es l lt none =
    let there = slice_get-get_or es l (event.Send 0 0) lt in
    ended_filled _ (rw there at none)

head_filled : length head_text ≡ 0 → ⊥
unfolding head_text
head_filled none = omega (arith, none)

record_filled : (d r : ℕ) → length (record_text d r) ≡ 0 → ⊥
unfolding record_text
record_filled d r none = omega (arith, none)

-- where a piece has no byte, nothing is left
pub filled : (s : Source) → IsPlace s → length (piece s) ≡ 0 → left s ≡ []
filled (Head x n) place none = absurd (head_filled none)
filled (Line l r i x n) place none = absurd (line_filled (round_events r i) l (rw (round_length r i) place.0) none)
filled (Record d r n) place none = absurd (record_filled d r none)
filled End place none = refl
