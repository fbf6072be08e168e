-- As many datagrams of a pooled device's inputs have arrived as its pool holds.
use Rattle.std.proofs.Common.{◌≡◌, ◌≢◌, ⊎_elim, ℕ, ◌+◌, ◌<◌, ◌≤◌, zero, suc, Bool, true, false, not, List, [], ◌∷◌, refl, sym, ap, subst, arith, ◌∙◌, length, map, get_or, inl, inr, eqb-true, eq-eqb}
use Rattle.std.specs.Prelude.{Option, Some, None, count_by, is_some, ◌==◌, ◌&&◌, if◌then◌else◌}
use Rattle.std.proofs.lemmas.Bool.{ne_eqb}
use Rattle.std.proofs.lemmas.Grind.{common_steps}
use Rattle.std.proofs.lemmas.List.Sums.{sum_by-cons}
use Rattle.genie_base.specs.Lemmas.Places.{same_or}
use Rattle.genie_device.specs.Device.{DeviceView}
use Rattle.genie_input.specs.Pools.{PoolState, is_held}
use Rattle.genie_input.specs.declared.pool.BufferState.{BufferState}
use Rattle.genie_input.specs.declared.pool.BufferState.TheVariants.{Free}
use Rattle.genie_model.specs.Pending.{arrived, has_arrived as flat_arrived, is_early, is_inward, is_just, is_ready}
use Rattle.genie_model.specs.State as flat
use Rattle.genie_model.specs.Tables.{entry}
use Rattle.genie_model.specs.Lemmas.Lists.{Has, all_has}
use Rattle.genie_kernel.specs.declared.kernel.Kernel.{Kernel}
use Rattle.genie_kernel.specs.declared.transfer.Transfer.{Transfer}
use Rattle.genie_kernel.specs.Calls.{has_arrived, first_waiting}
use Rattle.genie_kernel.specs.Good.{IsGood}
use Rattle.genie_kernel.specs.Matching.{has_buffer, has_waiting}
use Rattle.genie_kernel.specs.Planned.{is_early_device}
use Rattle.genie_kernel.specs.Transfers.{transfer_view}
use Rattle.genie_kernel.specs.View.{Bytes, state_of}

abbrev one : Bool → ℕ
one b = if b then 1 else 0

-- the sum of the first n
abbrev sum_to : ℕ → (ℕ → ℕ) → ℕ
sum_to zero f = 0
sum_to (suc n) f = f 0 + sum_to n (λ i. f (suc i))

sum_same : (n : ℕ) (f g : ℕ → ℕ) → ((i : ℕ) → f i ≡ g i) → sum_to n f ≡ sum_to n g
sum_same n f g h = ap (sum_to n) (λ i j. h j i)

sum_both : (n : ℕ) (f g : ℕ → ℕ) → sum_to n (λ i. f i + g i) ≡ sum_to n f + sum_to n g
sum_both zero f g = refl
sum_both (suc n) f g = let later = sum_both n (λ i. f (suc i)) (λ i. g (suc i)) in omega (arith, later)

sum_none : (n : ℕ) → sum_to n (λ i. 0) ≡ 0
sum_none zero = refl
sum_none (suc n) = let later = sum_none n in omega (arith, later)

next : (c i : ℕ) → (suc c == suc i) ≡ (c == i)
next c i = ⊎_elim
    (λ (e : c ≡ i). eq-eqb (suc c) (suc i) (ap suc e) ∙ sym (eq-eqb c i e))
    (λ (n : c ≢ i). ne_eqb (suc c) (suc i) (λ e. n (omega (arith, e))) ∙ sym (ne_eqb c i n))
    (same_or c i)

-- one of them is one
sum_one : (n c : ℕ) → c < n → sum_to n (λ i. one (c == i)) ≡ 1
sum_one zero c l = absurd (omega (arith, l))
sum_one (suc n) zero l =
    let here : one (0 == 0) ≡ 1 = ap one (eq-eqb 0 0 refl) in
    let none : sum_to n (λ i. one (0 == suc i)) ≡ 0 = sum_same n (λ i. one (0 == suc i)) (λ i. 0) (λ i. ap one (ne_eqb 0 (suc i) (λ e. absurd (omega (arith, e))))) ∙ sum_none n in
    omega (arith, here, none)
sum_one (suc n) (suc c) l =
    let here : one (suc c == 0) ≡ 0 = ap one (ne_eqb (suc c) 0 (λ e. absurd (omega (arith, e)))) in
    let later : sum_to n (λ i. one (suc c == suc i)) ≡ 1 = sum_same n (λ i. one (suc c == suc i)) (λ i. one (c == i)) (λ i. ap one (next c i)) ∙ sum_one n c (omega (arith, l)) in
    omega (arith, here, later)

count_cons : {X : Type 0} (p : X → Bool) (x : X) (xs : List X) → count_by p (x ∷ xs) ≡ one (p x) + count_by p xs
count_cons p x xs = sum_by-cons (λ y. if p y then 1 else 0) x xs

-- a transfer of device d with a buffer
abbrev buffered : ℕ → Transfer → Bool
buffered d t = (t.dev == d) && is_some t.buffer

here_one : (n d : ℕ) (t : Transfer) (at : Bool) (o : Option ℕ) → (at ≡ true → (b : ℕ) → o ≡ Some b → b < n) → sum_to n (λ b. one (at && is_just o b)) ≡ one (at && is_some o)
here_one n d t true None h = sum_none n
here_one n d t true (Some c) h = sum_one n c (h refl c refl)
here_one n d t false o h = sum_none n

-- each has one of the buffers
all_buffered : (n d : ℕ) (ts : List Transfer) → ((t : Transfer) → Has t ts → t.dev ≡ d → (b : ℕ) → t.buffer ≡ Some b → b < n) → sum_to n (λ b. count_by (has_buffer d b) ts) ≡ count_by (buffered d) ts
all_buffered n d [] h = sum_none n
all_buffered n d (t ∷ ts) h =
    sum_same n (λ b. count_by (has_buffer d b) (t ∷ ts)) (λ b. one (has_buffer d b t) + count_by (has_buffer d b) ts) (λ b. count_cons (has_buffer d b) t ts)
    ∙ sum_both n (λ b. one (has_buffer d b t)) (λ b. count_by (has_buffer d b) ts)
    ∙ (λ i. here_one n d t (t.dev == d) t.buffer (λ e. h t (inl refl) (eqb-true t.dev d e)) i + all_buffered n d ts (λ u j. h u (inr j)) i) ∙ sym (count_cons (buffered d) t ts)

counted_alike : {X Y : Type 0} (f : X → Y) (p : Y → Bool) (q : X → Bool) (xs : List X) → ((x : X) → Has x xs → p (f x) ≡ q x) → count_by p (map f xs) ≡ count_by q xs
counted_alike f p q [] h = refl
counted_alike f p q (x ∷ xs) h = count_cons p (f x) (map f xs) ∙ (λ i. one (h x (inl refl) i) + counted_alike f p q xs (λ y j. h y (inr j)) i) ∙ sym (count_cons q x xs)

arrived_one : (a : Bool) (t : Transfer) (d : ℕ) (e : Bool) (o : Option ℕ) → e ≡ false → (t.dev == d) ≡ a → (a ≡ true → is_some o ≡ (has_arrived t.dev t && not e)) → has_arrived d t ≡ (a && is_some o)
arrived_one true t d e o late at h =
    ap (λ b. is_inward t.dir && is_ready t.phase && b) (at ∙ sym (eq-eqb t.dev t.dev refl)) ∙ sym (and_true (has_arrived t.dev t)) ∙ sym (ap (λ b. has_arrived t.dev t && not b) late) ∙ sym (h refl)
  where
    and_true : (b : Bool) → (b && true) ≡ b
    and_true true = refl
    and_true false = refl
arrived_one false t d e o late at h = ap (λ b. is_inward t.dir && is_ready t.phase && b) at ∙ none (is_inward t.dir) (is_ready t.phase)
  where
    none : (x y : Bool) → (x && y && false) ≡ false
    none true true = refl
    none true false = refl
    none false y = refl

counted_one : (p : Transfer → Bool) (ts : List Transfer) (t : Transfer) → Has t ts → p t ≡ true → 1 ≤ count_by p ts
counted_one p [] t i e = absurd i
counted_one p (x ∷ ts) t (inl h) e = let yes : p x ≡ true = ap p h ∙ e in grind (arith, common_steps, yes)
counted_one p (x ∷ ts) t (inr i) e = let later = counted_one p ts t i e in grind (arith, common_steps, later)

waiting_where : (c : Bool) → 1 ≤ (if c then 1 else 0) → c ≡ true
waiting_where true h = refl
waiting_where false h = absurd (omega (arith, h))

-- the inputs of device d that have arrived are those of the flat machine
pub arrived_same : (k : Kernel) (c : Bytes) (d : ℕ) → arrived (state_of k c) d ≡ count_by (has_arrived d) k.transfers
arrived_same k c d = counted_alike (transfer_view c.seen.kept_bytes k.devices k.pools (first_waiting k.transfers)) (flat_arrived d) (has_arrived d) k.transfers (λ t i. refl)

-- a buffer of a pool that holds a datagram is there
held_there : (bs : List BufferState) (b : ℕ) → is_held (get_or bs b Free) ≡ true → b < length bs
held_there [] b e = absurd (cc)
held_there (x ∷ bs) zero e = omega arith
held_there (x ∷ bs) (suc b) e = omega (arith, held_there bs b e)

all_held : (bs : List BufferState) → sum_to (length bs) (λ b. one (is_held (get_or bs b Free))) ≡ count_by is_held bs
all_held [] = refl
all_held (b ∷ bs) = ap (λ m. one (is_held b) + m) (all_held bs) ∙ sym (count_cons is_held b bs)

-- the same of a pool
pub as_many_held : (k : Kernel) (c : Bytes) (d : ℕ) (v : DeviceView) (q : PoolState) → IsGood k → entry k.devices d ≡ Some v → is_early v.config.kind ≡ false → entry k.pools d ≡ Some q → arrived (state_of k c) d ≡ count_by is_held q.buffers
as_many_held k c d v q g there late pool =
    let view : Transfer → flat.Transfer = transfer_view c.seen.kept_bytes k.devices k.pools (first_waiting k.transfers) in
    let not_early : (t : Transfer) → t.dev ≡ d → is_early_device (entry k.devices t.dev) ≡ false = λ t e. ap (λ j. is_early_device (entry k.devices j)) e ∙ ap is_early_device there ∙ late in
    let each : (t : Transfer) → Has t k.transfers → flat_arrived d (view t) ≡ buffered d t = λ t i.
    let input : is_some t.buffer ≡ (has_arrived t.dev t && not (is_early_device (entry k.devices t.dev))) = all_has (λ (u : Transfer). is_some u.buffer ≡ (has_arrived u.dev u && not (is_early_device (entry k.devices u.dev)))) k.transfers g.arrived.inputs t i in
    arrived_one (t.dev == d) t d false t.buffer refl refl (λ e. input ∙ ap (λ b. has_arrived t.dev t && not b) (not_early t (eqb-true t.dev d e))) in
    let waits : (t : Transfer) → Has t k.transfers → t.dev ≡ d → (b : ℕ) → t.buffer ≡ Some b → is_held (get_or q.buffers b Free) ≡ true = λ t i at b e.
    let has : has_buffer d b t ≡ true = (λ j. eq-eqb t.dev d at j && is_just t.buffer b) ∙ ap (λ o. is_just o b) e ∙ eq-eqb b b refl in
    let waiting : has_waiting (entry k.devices d) (entry k.pools d) b ≡ true = waiting_where (has_waiting (entry k.devices d) (entry k.pools d) b) (subst (λ n. 1 ≤ n) (g.arrived.buffers d b) (counted_one (has_buffer d b) k.transfers t i has)) in
    sym (λ j. has_waiting (there j) (pool j) b) ∙ waiting in
    counted_alike view (flat_arrived d) (buffered d) k.transfers each
    ∙ sym (all_buffered (length q.buffers) d k.transfers (λ t i at b e. held_there q.buffers b (waits t i at b e)))
    ∙ sum_same (length q.buffers) (λ b. count_by (has_buffer d b) k.transfers) (λ b. one (is_held (get_or q.buffers b Free))) (λ b. g.arrived.buffers d b ∙ (λ i. one (has_waiting (there i) (pool i) b)))
    ∙ all_held q.buffers
