-- The bytes of a range that a transfer names: as many as its places, each the one that stands in its place.
use Rattle.std.proofs.Common.{◌≡◌, ℕ, zero, suc, ◌+◌, ◌<◌, ◌≤◌, true, false, ◌==◌, ◌⊎◌, inl, inr, ⊎_elim, List, [], ◌∷◌, ◌++◌, length, get_or, AllPairs, refl, sym, ap, ap₂, ◌∙◌, add-one, eqb-true, arith}
use Rattle.std.specs.Prelude.{Option, Some, None, ⊤, All}
use Rattle.std.specs.List.{list_any}
use Rattle.std.proofs.Math.Seq.{drop-cons}
use Rattle.std.proofs.lemmas.Bool.{cond-false, or_cases}
use Rattle.std.proofs.lemmas.Bool.Decides.{nat_tests}
use Rattle.std.proofs.lemmas.List.Elements.{All-head, All-tail}
use Rattle.genie_base.specs.Bytes.{part}
use Rattle.genie_model.specs.State.{State, Region, Orphan, Transfer}
use Rattle.genie_model.specs.Regions.{is_orphan, region_numbered, orphan_numbered, is_within_range, byte_within, bytes_within, orphan_part, region_part, bytes_of}
use Rattle.genie_model.specs.Sending.{named_bytes}
use Rattle.genie_orderly.specs.Orderly.{LiesInRegion, LiesInOrphan, Lies, IsOrderly}
use Rattle.genie_laws.specs.Integrity.{Stood}
use Rattle.genie_model.specs.Lemmas.Lists.{all_has, any_has, find_has, pairs_head, pairs_tail}
use Rattle.genie_orderly.specs.Lemmas.FoundRegions.{number_has, no_orphan_at}

abbrev Below : ℕ × ℕ → ℕ × ℕ → Type 0
Below a b = a.0 < b.0

-- bytes that are read place by place
module _ (B : ℕ → ℕ → List ℕ) (low high : ℕ) (none : (x : ℕ) → B x 0 ≡ []) (next : (x : ℕ) → low ≤ x → x < high → (b : ℕ) × ((n : ℕ) → B x (suc n) ≡ b ∷ B (x + 1) n)) where
  read_whole : (n x : ℕ) → low ≤ x → x + n ≤ high → length (B x n) ≡ n
  read_whole zero x l h = ap length (none x)
  read_whole (suc n) x l h = let first = next x l (omega arith) in ap length (first.1 n) ∙ ap suc (read_whole n (x + 1) (omega arith) (omega arith))

  read_at : (i n x : ℕ) → low ≤ x → x + n ≤ high → i < n → B (x + i) 1 ≡ get_or (B x n) i 0 ∷ []
  read_at i zero x l h lt = absurd (omega arith)
  read_at zero (suc n) x l h lt =
      let first = next x l (omega arith) in
      let here : x + 0 ≡ x = omega arith in
      ap (λ y. B y 1) here ∙ first.1 0 ∙ ap₂ (λ b bs. b ∷ bs) (sym (ap (λ bs. get_or bs 0 0) (first.1 n))) (none (x + 1))
  read_at (suc i) (suc n) x l h lt =
      let first = next x l (omega arith) in
      let there : x + suc i ≡ x + 1 + i = omega arith in
      ap (λ y. B y 1) there ∙ read_at i n (x + 1) (omega arith) (omega arith) (omega arith) ∙ ap (λ bs. get_or bs (suc i) 0 ∷ []) (sym (first.1 n))

within_none : (x : ℕ) (pairs : List (ℕ × ℕ)) → bytes_within x 0 pairs ≡ []
within_none x [] = refl
within_none x (e ∷ pairs) = let out : is_within_range x 0 e ≡ false = grind (arith, nat_tests) in rw (cond-false (is_within_range x 0 e) (e.1 ∷ []) [] out) (within_none x pairs)

within_above : (x n : ℕ) (pairs : List (ℕ × ℕ)) → All (λ (e : ℕ × ℕ). x < e.0) pairs → bytes_within x (suc n) pairs ≡ bytes_within (x + 1) n pairs
within_above x n [] h = refl
within_above x n (e ∷ pairs) h =
    let above = All-head (λ (e : ℕ × ℕ). x < e.0) e pairs h in
    let same : is_within_range x (suc n) e ≡ is_within_range (x + 1) n e = grind (arith, nat_tests) in
    rw same (ap (λ bs. byte_within (x + 1) n e ++ bs) (within_above x n pairs (All-tail (λ (e : ℕ × ℕ). x < e.0) e pairs h)))

-- the byte at a place that is there, and those behind it
within_next : (x : ℕ) (pairs : List (ℕ × ℕ)) → AllPairs Below pairs → list_any (λ (e : ℕ × ℕ). e.0 == x) pairs ≡ true → (b : ℕ) × ((n : ℕ) → bytes_within x (suc n) pairs ≡ b ∷ bytes_within (x + 1) n pairs)
within_next x [] rise there = absurd (cc)
within_next x (e ∷ pairs) rise there = ⊎_elim
    (λ (here : (e.0 == x) ≡ true).
    let at = eqb-true e.0 x here in (
      e.1,
      λ n.
          let now : is_within_range x (suc n) e ≡ true = grind (arith, nat_tests) in
          let later : is_within_range (x + 1) n e ≡ false = grind (arith, nat_tests) in
          let above : All (λ (y : ℕ × ℕ). x < y.0) pairs = λ k d lt. let up = rise zero (suc k) d (omega arith) (omega arith) in omega (arith, up, at) in
          rw (now, later) (ap (λ bs. e.1 ∷ bs) (within_above x n pairs above)),
    ))
    (λ (behind : list_any (λ (e : ℕ × ℕ). e.0 == x) pairs ≡ true).
    let some = any_has (λ (e : ℕ × ℕ). e.0 == x) pairs behind in
    let at = eqb-true some.0.0 x some.2 in
    let up = pairs_head Below e pairs rise some.0 some.1 in
    let rest = within_next x pairs (pairs_tail Below e pairs rise) behind in (
      rest.0,
      λ n.
          let now : is_within_range x (suc n) e ≡ false = grind (arith, nat_tests) in
          let later : is_within_range (x + 1) n e ≡ false = grind (arith, nat_tests) in
          rw (now, later) (rest.1 n),
    ))
    (or_cases (e.0 == x) (list_any (λ (e : ℕ × ℕ). e.0 == x) pairs) there)

abbrev Rise : Option Orphan → Type 0
Rise None = ⊤
Rise (Some o) = AllPairs Below o.bytes

abbrev found_bytes : Option Region → Option Orphan → ℕ → ℕ → List ℕ
found_bytes r o x n = region_part x n r (orphan_part x n o)

part_next : (x : ℕ) (bytes : List ℕ) → x < length bytes → (b : ℕ) × ((n : ℕ) → part x (suc n) bytes ≡ b ∷ part (x + 1) n bytes)
part_next x bytes lt = (get_or bytes x 0, λ n. rw (drop-cons bytes x 0 lt, add-one) refl)

found_none : (r : Option Region) (o : Option Orphan) (x : ℕ) → found_bytes r o x 0 ≡ []
found_none (Some r) o x = refl
found_none None None x = refl
found_none None (Some o) x = within_none x o.bytes

found_next : (t : Transfer) (r : Option Region) (o : Option Orphan) → ((q : Region) → r ≡ Some q → o ≡ None) → Rise o → LiesInRegion t r ⊎ LiesInOrphan t o → (x : ℕ) → t.offset ≤ x → x < t.offset + t.len → (b : ℕ) × ((n : ℕ) → found_bytes r o x (suc n) ≡ b ∷ found_bytes r o (x + 1) n)
found_next t (Some r) o one rise (inl h) x l lt = part_next x r.bytes (omega (arith, h))
found_next t (Some r) None one rise (inr h) x l lt = absurd h
found_next t (Some r) (Some o) one rise (inr h) x l lt = let none = one r refl in absurd (cc)
found_next t None o one rise (inl h) x l lt = absurd h
found_next t None None one rise (inr h) x l lt = absurd h
found_next t None (Some o) one rise (inr h) x l lt = within_next x o.bytes rise (h x l lt)

rising : (s : State) (k : ℕ) (o : Option Orphan) → IsOrderly s → orphan_numbered s k ≡ o → Rise o
rising s k None h e = tt
rising s k (Some o) h e = all_has (λ (o : Orphan). AllPairs Below o.bytes) s.orphans h.order o (find_has (is_orphan k) s.orphans o e).0

no_orphan_there : (s : State) (k : ℕ) → IsOrderly s → (r : Region) → region_numbered s k ≡ Some r → orphan_numbered s k ≡ None
no_orphan_there s k h r e = let found = number_has s k r e in no_orphan_at s h.numbers r found.0 k (eqb-true r.number k found.1)

-- the bytes of this range stand in their places
pub record Stands (s : State) (region : Option ℕ) (x n : ℕ) (bytes : List ℕ) : Type 0 where
  pub whole : length bytes ≡ n
  pub each : (i : ℕ) → i < n → Stood region (x + i) (get_or bytes i 0) s

abbrev pub IsNamed : Option ℕ → Type 0
IsNamed None = ⊥
IsNamed (Some k) = ⊤

pub stands : (s : State) (t : Transfer) (region : Option ℕ) → IsOrderly s → Lies s t region → IsNamed region → (x n : ℕ) → t.offset ≤ x → x + n ≤ t.offset + t.len → Stands s region x n (named_bytes s region x n)
stands s t None o lies named x n l h = absurd named
stands s t (Some k) o lies named x n l h =
    let B : ℕ → ℕ → List ℕ = bytes_of s k in
    let r : Option Region = region_numbered s k in
    let p : Option Orphan = orphan_numbered s k in
    let next = found_next t r p (no_orphan_there s k o) (rising s k p o refl) lies in
    record {
      whole = read_whole B t.offset (t.offset + t.len) (found_none r p) next n x l h;
      each = λ i lt. read_at B t.offset (t.offset + t.len) (found_none r p) next i n x l h lt;
    }
