-- What is left of a script from one of its lines on.
use Rattle.std.proofs.Common.{◌≡◌, ℕ, zero, suc, ◌+◌, ◌<◌, List, [], ◌∷◌, ◌++◌, length, drop, append_assoc, arith, refl, ap, ◌∙◌, sym}
use Rattle.std.specs.List.{flat_map}
use Rattle.std.specs.Prelude.{slice_get}
use Rattle.genie_base.specs.declared.event.Event.{Event}
use Rattle.genie_gen.specs.declared.draws.Round.{Round}
use Rattle.genie_gen.specs.declared.source.Source.TheVariants.{Line, Record}
use Rattle.genie_gen.specs.Draws.{after, round_of}
use Rattle.genie_gen.specs.Rounds.{event_line, round_events, rounds_text}
use Rattle.genie_gen.specs.Streams.{stream_from}
use Rattle.genie_gen.specs.Sources.{left, line_in, behind_piece}

-- a line, and those behind it
line_and_rest : (es : List Event) (l m : ℕ) → l < length es → m ≡ l + 1 → line_in (slice_get es l) ++ flat_map event_line (drop m es) ≡ flat_map event_line (drop l es)
line_and_rest [] l m lt is = absurd (omega arith)
line_and_rest (e ∷ es) zero m lt is = rw is refl
line_and_rest (e ∷ es) (suc l) m lt is =
    let more : m ≡ suc (l + 1) = omega arith in
    rw more (line_and_rest es l (l + 1) (omega arith) refl)

pub round_length : (r : Round) (i : ℕ) → length (round_events r i) ≡ 27
unfolding round_events
round_length r i = refl

-- a line of a round, and all that stands behind it
pub left_at_line : (l : ℕ) (r : Round) (i x n : ℕ) → l < 27 → left (Line l r i x n) ≡ flat_map event_line (drop l (round_events r i)) ++ rounds_text x (i + 1) n
left_at_line l r i x n lt =
    let is = line_and_rest (round_events r i) l (l + 1) (rw (round_length r i) lt) refl in
    sym (append_assoc (line_in (slice_get (round_events r i) l)) (flat_map event_line (drop (l + 1) (round_events r i))) (rounds_text x (i + 1) n)) ∙ ap (λ t. t ++ rounds_text x (i + 1) n) is

-- behind the last line of a round the next one begins
pub behind_last : (l : ℕ) (r : Round) (i x n : ℕ) → l + 1 ≡ 27 → behind_piece (Line l r i x n) ≡ rounds_text x (i + 1) n
unfolding round_events
behind_last l r i x n last = rw last refl

-- the first line of a round stands before the whole of it
pub first_line : (x i n m : ℕ) → n ≡ suc m → left (Line 0 (round_of x) i (after 13 x) m) ≡ rounds_text x i n
first_line x i n m is = rw is (left_at_line 0 (round_of x) i (after 13 x) m (omega arith))

-- a record, and those behind it
pub first_record : (d r n m : ℕ) → n ≡ suc m → left (Record d r m) ≡ stream_from d r n
first_record d r n m is = rw is refl
