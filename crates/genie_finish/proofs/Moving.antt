-- What a move leaves.
use Rattle.std.proofs.Common.{◌≡◌, ℕ, zero, suc, ◌+◌, ◌-◌, ◌*◌, ◌/◌, ◌%◌, ◌<◌, ◌≤◌, true, false, List, [], ◌∷◌, ◌++◌, length, refl, ap, sym, ◌∙◌, arith, inl, inr}
use Rattle.std.specs.Prelude.{None, Some, ◌==◌, Bool, min, replicate, flat_map, if◌then◌else◌}
use Rattle.std.specs.List.{range_with_len}
use Rattle.std.proofs.lemmas.List.{replicate-append-replicate}
use Rattle.std.proofs.lemmas.Bool.Decides.{eqb_tells}
use Rattle.genie_base.specs.Bytes.{overlaid}
use Rattle.genie_base.specs.Counts.{span}
use Rattle.genie_base.specs.Lemmas.Overlaid.{overlaid-nothing}
use Rattle.genie_object.specs.declared.memory.Memory.{Memory}
use Rattle.genie_object.specs.Objects.{entry_at}
use Rattle.genie_object.specs.Pages.{page_at}
use Rattle.genie_object.specs.Memory.{seen, page_bytes}
use Rattle.genie_object.specs.Costs.{is_zero}
use Rattle.genie_plan.specs.Plans.{range_bytes}
use Rattle.genie_plan.specs.Landings.{entries_bytes}
use Rattle.genie_finish.specs.Ranges.{piece_len}
use Rattle.genie_finish.specs.Moves.{IsEmptyObject, EmptyCanStore, ZerosBehind}
use Rattle.genie_finish.proofs.Looping.{span_below, page_some, rest_less}

piece_some : (page first len x : ℕ) → first < page → 0 < len → x < first + len → 0 < min (page - (first - x)) (len - (x - first))
piece_some page first len x l some b = omega arith

span_some : (page off len k : ℕ) → k < span page off len → 0 < len
span_some page off len k w = elim (eqb_tells len 0) [
  | inl h ↦ let none : span page off len ≡ 0 = ap (λ b. if b then 0 else (off + len - 1) / page - off / page + 1) h.0 in absurd (omega (arith, w, none))
  | inr h ↦ omega (arith, h.1)
]

pub empty_can_store : EmptyCanStore
empty_can_store m o off len s empty k l =
    let p = page_some m.frames.page s.shaped.size in
    let some = piece_some m.frames.page (off % m.frames.page) len (m.frames.page * k) (rest_less off m.frames.page p) (span_some m.frames.page off len k l) (span_below m.frames.page off len k p l) in
    record {
      few_bytes = λ part z. absurd (omega (arith, some, z));
      touched = λ part z. let bad : true ≡ false = sym (ap (λ page. elim page as (λ _. Bool) [ None ↦ true | Some q ↦ is_zero (page_at m.pages.pages q.0).place ]) (empty (off / m.frames.page + k))) ∙ z in cc;
    }

zeros_all : (f : ℕ → List ℕ) (page a n : ℕ) → ((k : ℕ) → f k ≡ replicate page 0) → flat_map f (range_with_len a n) ≡ replicate (page * n) 0
zeros_all f page a zero h = let e : 0 ≡ page * 0 = omega arith in ap (λ k. replicate k 0) e
zeros_all f page a (suc n) h =
    let e : page + page * n ≡ page * suc n = grind arith in
    let one = h a in
    let rest = zeros_all f page (a + 1) n h in
    (λ j. one j ++ rest j) ∙ replicate-append-replicate page (page * n) 0 ∙ ap (λ k. replicate k 0) e

overlaid_zeros : (new : List ℕ) (n : ℕ) → length new ≤ n → overlaid 0 new (replicate n 0) ≡ new ++ replicate (n - length new) 0
overlaid_zeros [] n l = let e : n ≡ n - 0 = omega arith in overlaid-nothing 0 (replicate n 0) ∙ ap (λ k. replicate k 0) e
overlaid_zeros (b ∷ new) zero l = absurd (omega arith)
overlaid_zeros (b ∷ new) (suc n) l =
    let e : n - length new ≡ suc n - suc (length new) = omega arith in
    ap (λ xs. b ∷ xs) (overlaid_zeros new n (omega arith)) ∙ ap (λ k. b ∷ (new ++ replicate k 0)) e

pub zeros_behind : ZerosBehind
zeros_behind old new o len pages frames slots s empty x size room fits =
    let p = page_some old.frames.page s.shaped.size in
    let none : 0 / old.frames.page ≡ 0 = nought old.frames.page p in
    let first : 0 % old.frames.page ≡ 0 = rest old.frames.page p in
    let was : entries_bytes (seen old slots) o 0 pages ≡ replicate (old.frames.page * pages) 0 = zeros_all ((seen old slots).entry_bytes o) old.frames.page 0 pages (λ k. ap (page_bytes old.frames old.pages.pages slots) (empty k)) in
    x.range pages (omega (arith, none, room)) ∙ (λ j. overlaid 0 (range_bytes old.frames frames (first j) len) (was j)) ∙ overlaid_zeros (range_bytes old.frames frames 0 len) (old.frames.page * pages) (omega (arith, size, fits)) ∙ ap (λ k. range_bytes old.frames frames 0 len ++ replicate (old.frames.page * pages - k) 0) size
  where
    nought : (page : ℕ) → 0 < page → 0 / page ≡ 0
    nought page h = grind arith

    rest : (page : ℕ) → 0 < page → 0 % page ≡ 0
    rest page h = grind arith
