-- The region of a queue that is used again.
use Rattle.std.proofs.Common.{◌≡◌, ℕ, ◌<◌, zero, suc, Bool, true, false, not, cond, List, [], ◌∷◌, refl, sym, ap, subst, arith, ◌∙◌, length, get_or, eqb-true}
use Rattle.std.specs.Prelude.{Option, Some, None, find, is_some, slice_get, slice_index_or, ◌&&◌, ◌||◌, ◌==◌}
use Rattle.std.specs.List.{list_any}
use Rattle.std.proofs.lemmas.Bool.{and_parts}
use Rattle.genie_base.specs.Lemmas.Searches.{find_first}
use Rattle.genie_base.specs.Transfers.{class_of}
use Rattle.genie_base.specs.declared.semantics.Class.{Class}
use Rattle.genie_base.specs.declared.semantics.Class.TheVariants.{WeakMove}
use Rattle.genie_region.specs.declared.region.Region.{Region}
use Rattle.genie_model.specs.Inputs.{pages_for, reusable}
use Rattle.genie_model.specs.Lemmas.Lists.{find_has, find_none}
use Rattle.genie_model.specs.Refusing.{must_make, refuse}
use Rattle.genie_model.specs.Tables.{entry}
use Rattle.genie_kernel.specs.declared.kernel.Kernel.{Kernel}
use Rattle.genie_kernel.specs.declared.transfer.Transfer.{Transfer}
use Rattle.genie_kernel.specs.Asked.{has_pages, is_reusable}
use Rattle.genie_kernel.specs.Good.{IsGood}
use Rattle.genie_kernel.specs.Regions.{has_id, regions_of}
use Rattle.genie_kernel.specs.Searches.{names}
use Rattle.genie_kernel.specs.View.{outline, no_bytes}
use Rattle.genie_kernel.specs.Lemmas.Searching.{got_at}
use Rattle.genie_inputs.specs.declared.call.Call.{Call}
use Rattle.genie_inputs.specs.Calls.{input_event}
use Rattle.genie_inputs.specs.Reusing.{FindsIn, FindsReusable, pages_of}
use Rattle.genie_inputs.proofs.Accepted.{may_input}
use Rattle.genie_inputs.proofs.Refilling.{process_low, reusable_view}

pub first_at : {X : Type 0} (p : X → Bool) (xs : List X) (i : ℕ) (x : X) → ((j : ℕ) (d : X) → j < i → p (get_or xs j d) ≡ false) → slice_get xs i ≡ Some x → p x ≡ true → find p xs ≡ Some x
first_at p xs i x before e h = let at = got_at xs i x e in find_first p x xs i at.0 (ap p (at.1 x) ∙ h) (λ j l. before j x l) ∙ ap (λ y. Some y) (at.1 x)

pub some_any : {X : Type 0} (p : X → Bool) (xs : List X) → is_some (find p xs) ≡ list_any p xs
some_any p [] = refl
some_any p (x ∷ xs) = elim (p x) as (λ b. is_some (cond b (Some x) (find p xs)) ≡ (b || list_any p xs)) [ true ↦ refl | false ↦ some_any p xs ]

-- whether a region is there of so many pages, and none names it
pub free_is : (regions : List Region) (transfers : List Transfer) (id pages : ℕ) (o : Option Region) (b : Bool) → o ≡ find (has_pages id pages) regions → b ≡ is_some o → is_reusable regions transfers pages id ≡ (b && not (list_any (names id) transfers))
free_is regions transfers id pages o b e is = ap (λ z. z && not (list_any (names id) transfers)) (sym (some_any (has_pages id pages) regions) ∙ ap is_some (sym e) ∙ sym is)

pub finds_in : (queue : List ℕ) (regions : List Region) (transfers : List Transfer) (pages i id : ℕ) → ((j d : ℕ) → j < i → is_reusable regions transfers pages (get_or queue j d) ≡ false) → slice_get queue i ≡ Some id → is_reusable regions transfers pages id ≡ true → (o : Option Region) → o ≡ find (has_pages id pages) regions → FindsIn queue regions transfers pages o
finds_in queue regions transfers pages i id before some free None e =
    let any = (and_parts (list_any (has_pages id pages) regions) (not (list_any (names id) transfers)) free).0 in
    let bad : false ≡ true = ap is_some e ∙ some_any (has_pages id pages) regions ∙ any in
    absurd (cc)
finds_in queue regions transfers pages i id before some free (Some r) e =
    let both = and_parts (has_id id r) (r.pages == pages) (find_has (has_pages id pages) regions r (sym e)).1 in
    let same : r.id.0 ≡ id = eqb-true r.id.0 id both.0 in
    (first_at (is_reusable regions transfers pages) queue i id before some free ∙ ap (λ n. Some n) (sym same), ap (λ n. find (has_pages n pages) regions) same ∙ sym e)

pub finds_for : (k : Kernel) (c : Call) (o : Option Region) → FindsIn (slice_index_or k.queues c.pid []) (regions_of (entry k.spaces.processes c.pid)) k.transfers (pages_of k c) o → FindsReusable k c o
finds_for k c None h = h
finds_for k c (Some r) h = record { first = h.0; found = h.1 }

-- where none is found, one is to be made
pub must_be_made : (k : Kernel) (c : Call) → IsGood k → class_of c.sem ≡ WeakMove → refuse (outline k) (input_event c None) ≡ None → (o : Option Region) → o ≡ None → FindsReusable k c o → must_make (outline k) c.pid (class_of c.sem) c.len ≡ true
must_be_made k c good is accepted o none found =
    let test : ℕ → Bool = is_reusable (regions_of (entry k.spaces.processes c.pid)) k.transfers (pages_of k c) in
    let no : list_any test (slice_index_or k.queues c.pid []) ≡ false = subst (FindsReusable k c) none found in
    let alive = (may_input k c None good accepted).alive in
    let unfound : reusable (outline k) c.pid (pages_for (outline k) c.len) ≡ None = reusable_view k (no_bytes k.config.page) c.pid (pages_for (outline k) c.len) alive ∙ find_none test (slice_index_or k.queues c.pid []) no in
    ap (λ (class : Class). must_make (outline k) c.pid class c.len) is ∙ ap (λ (o : Option ℕ). not (is_some o)) unfound

any_default : {X : Type 0} (xs : List X) (i : ℕ) (a b : X) → i < length xs → get_or xs i a ≡ get_or xs i b
any_default [] i a b l = absurd (omega (arith, l))
any_default (x ∷ xs) zero a b l = refl
any_default (x ∷ xs) (suc i) a b l = any_default xs i a b (omega (arith, l))

-- the process has a queue
pub queue_there : (k : Kernel) (c : Call) (q : List ℕ) → IsGood k → refuse (outline k) (input_event c None) ≡ None → slice_index_or k.queues c.pid q ≡ slice_index_or k.queues c.pid []
queue_there k c q good accepted =
    let small = process_low k c.pid good (may_input k c None good accepted).alive in
    let places = good.spaced.queue_places in
    any_default k.queues c.pid q [] (omega (arith, small, places))
