-- Posted inputs in order of numbers: which one is taken, and what stays.
use Rattle.std.proofs.Common.{◌≡◌, ◌≢◌, ℕ, ◌<◌, ◌≤◌, Bool, true, false, not, List, Some, None, refl, arith, length, get_or, ap, ⊎_elim, sym, ◌∙◌}
use Rattle.std.specs.Prelude.{position, is_some, All, IsTrue}
use Rattle.std.specs.List.{remove}
use Rattle.std.proofs.lemmas.Bool.{cases_lt, both_ways, eqb-true, eq-eqb, ne_eqb}
use Rattle.std.proofs.lemmas.List.Filters.{length-filter_both}
use Rattle.std.proofs.lemmas.List.{get_or_read}
use Rattle.std.proofs.lemmas.List.Kept.{AllPairs-filter}
use Rattle.std.proofs.lemmas.List.Quantifiers.{position-Some}
use Rattle.genie_base.specs.Lemmas.Searches.{filter_all, find_fails, find_nowhere, find_there, remove_only}
use Rattle.genie_demux.specs.declared.input.Input.{Input}
use Rattle.genie_demux.specs.Posted.{has_id, input_of, without, IsQueue}

-- the input that a list is read with past its end
abbrev pub blank : Input
blank = record { device = 0; port = 0; flow = None; id = 0 }

-- where an input has this number, no other has it
others_differ : (id : ℕ) (inputs : List Input) (k : ℕ) (d : Input) → IsQueue inputs → k < length inputs → has_id id (get_or inputs k d) ≡ true → (i : ℕ) → i < length inputs → i ≢ k → has_id id (get_or inputs i d) ≡ false
others_differ id inputs k d q l e i m ne =
    let here : (get_or inputs k d).id ≡ id = eqb-true _ _ e in
    ne_eqb _ _ (λ (there : (get_or inputs i d).id ≡ id). ⊎_elim (λ lt. absurd (omega (arith, q.ordered i k d lt l))) (λ ge. absurd (omega (arith, q.ordered k i d (omega arith) m))) (cases_lt i k))

pub queue_without : (id : ℕ) (inputs : List Input) → IsQueue inputs → IsQueue (without id inputs)
queue_without id inputs q = record {
  few = omega (arith, q.few, length-filter_both (has_id id) (λ p. not (has_id id p)) (λ _. refl) inputs);
  ordered = AllPairs-filter (λ a b. a.id < b.id) (λ p. not (has_id id p)) inputs q.ordered;
}

-- the list without the input at a place
pub taken_at : (id : ℕ) (inputs items : List Input) (k : ℕ) (d : Input) → IsQueue inputs → k < length inputs → (get_or inputs k d).id ≡ id → items ≡ remove inputs k → items ≡ without id inputs
taken_at id inputs items k d q l e is =
    let yes : has_id id (get_or inputs k d) ≡ true = eq-eqb _ _ e in
    is ∙ remove_only (has_id id) d inputs k l yes (others_differ id inputs k d q l yes)

pub removed_at : (id : ℕ) (inputs items : List Input) (k : ℕ) → IsQueue inputs → position (has_id id) inputs ≡ Some k → items ≡ remove inputs k → items ≡ without id inputs
removed_at id inputs items k q e is =
    let at = position-Some (has_id id) inputs k blank e in
    taken_at id inputs items k blank q at.0 (eqb-true _ _ at.1) is

pub there : (id : ℕ) (inputs : List Input) (k : ℕ) → position (has_id id) inputs ≡ Some k → is_some (input_of id inputs) ≡ true
there id inputs k e = ap is_some (find_there (has_id id) blank inputs k e)

pub not_there : (id : ℕ) (inputs : List Input) → position (has_id id) inputs ≡ None → is_some (input_of id inputs) ≡ false
not_there id inputs e = ap is_some (find_nowhere (has_id id) inputs e)

pub without_none : (id : ℕ) (inputs : List Input) → position (has_id id) inputs ≡ None → inputs ≡ without id inputs
without_none id inputs e = sym (filter_all (has_id id) blank inputs (find_fails (has_id id) blank inputs (not_there id inputs e)))

-- no input with a lower number would do
pub least : (p : Input → Bool) (inputs : List Input) (k : ℕ) (r : Input) → IsQueue inputs → position p inputs ≡ Some k → r ≡ get_or inputs k r → All (λ q. IsTrue (p q) → r.id ≤ q.id) inputs
least p inputs k r q e is i d l passes =
    let at = position-Some p inputs k d e in
    let here : r ≡ get_or inputs k d = get_or_read inputs k r at.0 is d in
    ⊎_elim
    (λ (lt : i < k). absurd (both_ways (p (get_or inputs i d)) (at.2 i lt) passes))
    (λ (ge : k ≤ i). rw here (⊎_elim (λ (gt : k < i). omega (arith, q.ordered k i d gt l)) (λ (le : i ≤ k). let same : i ≡ k = omega arith in rw same (omega arith)) (cases_lt k i)))
    (cases_lt i k)
