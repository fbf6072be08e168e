-- Numbers that stand once in a list.
use Rattle.std.proofs.Common.{◌≡◌, ◌≢◌, ℕ, true, not, List, Some, refl, arith, get_or, ⊎_elim, sym, ◌∙◌}
use Rattle.std.specs.Prelude.{position, is_some}
use Rattle.std.specs.List.{remove}
use Rattle.std.proofs.lemmas.Bool.{cases_lt, eqb-true, ne_eqb}
use Rattle.std.proofs.lemmas.List.Filters.{length-filter_both}
use Rattle.std.proofs.lemmas.List.Kept.{AllPairs-filter}
use Rattle.std.proofs.lemmas.List.Quantifiers.{position-Some}
use Rattle.genie_base.specs.Lemmas.Searches.{position_any, remove_only}
use Rattle.genie_hiding.specs.Queues.{IsWeakQueue, is_in, is_number, without}

pub there : (id : ℕ) (ids : List ℕ) → is_in id ids ≡ true → is_some (position (is_number id) ids) ≡ true
there id ids e = position_any (is_number id) ids e

pub removed_at : (id : ℕ) (ids items : List ℕ) (k : ℕ) → IsWeakQueue ids → position (is_number id) ids ≡ Some k → items ≡ remove ids k → items ≡ without id ids
removed_at id ids items k q e is =
    let at = position-Some (is_number id) ids k 0 e in
    let here : get_or ids k 0 ≡ id = eqb-true _ _ at.1 in
    is ∙ remove_only (is_number id) 0 ids k at.0 at.1 (λ i m ne. ne_eqb _ _ (λ (same : get_or ids i 0 ≡ id). ⊎_elim (λ lt. q.once i k 0 lt at.0 (same ∙ sym here)) (λ ge. q.once k i 0 (omega arith) m (here ∙ sym same)) (cases_lt i k)))

pub queue_without : (id : ℕ) (ids : List ℕ) → IsWeakQueue ids → IsWeakQueue (without id ids)
queue_without id ids q = record {
  few = omega (arith, q.few, length-filter_both (is_number id) (λ n. not (is_number id n)) (λ _. refl) ids);
  once = AllPairs-filter (λ a b. a ≢ b) (λ n. not (is_number id n)) ids q.once;
}
