-- A stored page in the bytes of a region.
use Rattle.std.proofs.Common.{◌≡◌, ◌≢◌, ℕ, zero, suc, ◌+◌, ◌*◌, ◌<◌, ◌≤◌, true, false, List, [], ◌∷◌, ◌++◌, length, refl, ap, sym, ◌∙◌, arith, subst}
use Rattle.std.specs.Prelude.{flat_map, ◌==◌, ◌&&◌, if◌then◌else◌}
use Rattle.std.specs.List.{range_with_len}
use Rattle.genie_base.specs.Bytes.{overlaid, part}
use Rattle.genie_plan.specs.Lemmas.Laid.{overlaid-left, overlaid-right}
use Rattle.genie_plan.specs.Lemmas.Ending.{same_test, other_test}
use Rattle.genie_frame.specs.FrameTable.{bytes_at}
use Rattle.genie_object.specs.declared.memory.Memory.{Memory}
use Rattle.genie_object.specs.Memory.{Seen, seen}
use Rattle.genie_object.specs.Sound.{IsSound}
use Rattle.genie_plan.specs.Landings.{entries_bytes}
use Rattle.genie_plan.specs.Lemmas.Landings.{entry_size}
use Rattle.genie_finish.specs.Storing.{ShowsStoredPage, see_stored}

same_rest : (f h : ℕ → List ℕ) (a n : ℕ) → ((k : ℕ) → a ≤ k → h k ≡ f k) → flat_map h (range_with_len a n) ≡ flat_map f (range_with_len a n)
same_rest f h a zero e = refl
same_rest f h a (suc n) e =
    let one = e a (omega arith) in
    let rest = same_rest f h (a + 1) n (λ k l. e k (omega (arith, l))) in
    λ k. one k ++ rest k

-- bytes that are stored in one of several pages
pub stored_at : (f h : ℕ → List ℕ) (page off : ℕ) (new : List ℕ) (a i n : ℕ) → ((k : ℕ) → k ≢ a + i → h k ≡ f k) → h (a + i) ≡ overlaid off new (f (a + i)) → ((k : ℕ) → length (f k) ≡ page) → off + length new ≤ page → i < n → flat_map h (range_with_len a n) ≡ overlaid (page * i + off) new (flat_map f (range_with_len a n))
stored_at f h page off new a i zero other here size fits l = absurd (omega (arith, l))
stored_at f h page off new a zero (suc n) other here size fits l =
    let start : a + 0 ≡ a = omega arith in
    let one : h a ≡ overlaid off new (f a) = subst (λ k. h k ≡ overlaid off new (f k)) start here in
    let rest = same_rest f h (a + 1) n (λ k w. other k (λ e. absurd (omega (arith, w, e)))) in
    let place : off ≡ page * 0 + off = omega arith in
    (λ k. one k ++ rest k) ∙ sym (overlaid-left off new (f a) (flat_map f (range_with_len (a + 1) n)) (omega (arith, fits, size a))) ∙ ap (λ x. overlaid x new (f a ++ flat_map f (range_with_len (a + 1) n))) place
stored_at f h page off new a (suc i) (suc n) other here size fits l =
    let next : a + suc i ≡ a + 1 + i = omega arith in
    let one : h a ≡ f a = other a (λ e. absurd (omega (arith, e))) in
    let rest = stored_at f h page off new (a + 1) i n (λ k w. other k (λ e. w (e ∙ next))) (subst (λ k. h k ≡ overlaid off new (f k)) next here) size fits (omega (arith, l)) in
    let step : page * suc i ≡ page + page * i = grind arith in
    (λ k. one k ++ rest k) ∙ sym (overlaid-right (page * i + off) (page * suc i + off) new (f a) (flat_map f (range_with_len (a + 1) n)) (omega (arith, size a, step)))

pub see_same : (s : Seen) (o i : ℕ) (b : List ℕ) → (if (o == o) && (i == i) then b else s.entry_bytes o i) ≡ b
see_same s o i b = let a : (o == o) ≡ true = same_test o o refl in let d : (i == i) ≡ true = same_test i i refl in rw (a, d) refl

pub see_else : (s : Seen) (o i k : ℕ) (b : List ℕ) → k ≢ i → (if (o == o) && (k == i) then b else s.entry_bytes o k) ≡ s.entry_bytes o k
see_else s o i k b n = let a : (o == o) ≡ true = same_test o o refl in let d : (k == i) ≡ false = other_test k i n in rw (a, d) refl

-- what a stored page shows in the region
pub shows_in_range : (old new : Memory) (o i f off n pages : ℕ) (slots : ℕ → List ℕ) → IsSound old → ShowsStoredPage old new o i f off n → ((s : ℕ) → length (slots s) ≡ old.frames.page) → i < pages → off + length (part off n (bytes_at old.frames f)) ≤ old.frames.page → entries_bytes (seen new slots) o 0 pages ≡ overlaid (old.frames.page * i + off) (part off n (bytes_at old.frames f)) (entries_bytes (seen old slots) o 0 pages)
shows_in_range old new o i f off n pages slots s x told l fits =
    let bytes = part off n (bytes_at old.frames f) in
    let stored = overlaid off bytes ((seen old slots).entry_bytes o i) in
    let start : 0 + i ≡ i = omega arith in
    ap (λ (y : Seen). entries_bytes y o 0 pages) (x slots told) ∙ stored_at ((seen old slots).entry_bytes o) ((see_stored (seen old slots) o i f off n (bytes_at old.frames f)).entry_bytes o) old.frames.page off bytes 0 i pages
    (λ k w. see_else (seen old slots) o i k stored (λ e. w (e ∙ sym start)))
    (subst (λ k. (see_stored (seen old slots) o i f off n (bytes_at old.frames f)).entry_bytes o k ≡ overlaid off bytes ((seen old slots).entry_bytes o k)) (sym start) (see_same (seen old slots) o i stored))
    (λ k. entry_size old slots o k s told) fits l

-- bytes that go on where others ended
pub overlaid-next : (x y : ℕ) (a b old : List ℕ) → y ≡ x + length a → overlaid y b (overlaid x a old) ≡ overlaid x (a ++ b) old
overlaid-next x y a b [] e = refl
overlaid-next zero y [] b (o ∷ old) e = let same : y ≡ 0 = omega arith in ap (λ n. overlaid n b (o ∷ old)) same
overlaid-next zero y (c ∷ a) b (o ∷ old) e =
    let same : y ≡ suc (length a) = omega arith in
    let rest = overlaid-next zero (length a) a b old (omega arith) in
    ap (λ n. overlaid n b (c ∷ overlaid zero a old)) same ∙ ap (λ l. c ∷ l) rest
overlaid-next (suc x) y a b (o ∷ old) e =
    let same : y ≡ suc (x + length a) = omega arith in
    let rest = overlaid-next x (x + length a) a b old refl in
    ap (λ n. overlaid n b (o ∷ overlaid x a old)) same ∙ ap (λ l. o ∷ l) rest
