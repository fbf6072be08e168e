-- A table of buffers, of which one changes its state.
use Rattle.std.proofs.Common.{◌≡◌, ◌≢◌, ℕ, ◌+◌, ◌<◌, List, [], ◌∷◌, length, refl, ap, ◌∙◌, arith, true, false, not, cond, inl, inr, suc}
use Rattle.std.specs.Prelude.{◌⊎◌, is_some, count_by, slice_index_or, nat_lt}
use Rattle.std.specs.List.{position_or_len}
use Rattle.std.proofs.lemmas.Bool.{lt-ltb}
use Rattle.std.proofs.lemmas.Grind.{common_steps}
use Rattle.std.proofs.lemmas.List.{length-set}
use Rattle.std.proofs.lemmas.List.Sums.{sum_by-cons}
use Rattle.genie_base.specs.Lemmas.Places.{set_at}
use Rattle.genie_device.specs.Buffers.{BufferView, BufferState, no_buffer, state_at, with_state, first_free, is_free, is_filling, is_arrived}

pub length-with_state : (s : BufferState) (i : ℕ) (buffers : List BufferView) → length (with_state s i buffers) ≡ length buffers
length-with_state s i buffers = length-set buffers i _

pub state_set : (s : BufferState) (i k : ℕ) (buffers : List BufferView) → i < length buffers
    → ((k ≡ i) × (state_at (with_state s i buffers) k ≡ s)) ⊎ ((k ≢ i) × (state_at (with_state s i buffers) k ≡ state_at buffers k))
state_set s i k buffers there = elim (set_at buffers i k (record (slice_index_or buffers i no_buffer) { state = s }) no_buffer there) [
  | inl h ↦ inl (h.0, ap (λ (b : BufferView). b.state) h.1)
  | inr h ↦ inr (h.0, ap (λ (b : BufferView). b.state) h.1)
]

pub rooms_set : (s : BufferState) (i limit : ℕ) (buffers : List BufferView) → i < length buffers
    → ((k : ℕ) → k < length buffers → (slice_index_or buffers k no_buffer).room ≡ limit)
    → (k : ℕ) → k < length (with_state s i buffers) → (slice_index_or (with_state s i buffers) k no_buffer).room ≡ limit
rooms_set s i limit buffers there rooms k within = let within' : k < length buffers = rw length-with_state at within in
    elim (set_at buffers i k (record (slice_index_or buffers i no_buffer) { state = s }) no_buffer there) [
      | inl h ↦ ap (λ (b : BufferView). b.room) h.1 ∙ rooms i there
      | inr h ↦ ap (λ (b : BufferView). b.room) h.1 ∙ rooms k within'
    ]

arrived_else : (s : BufferState) → is_free s ≡ false → is_filling s ≡ false → is_arrived s ≡ true
arrived_else s free filling = grind (arith, common_steps)

first_before : (buffers : List BufferView) → ((k : ℕ) → is_filling (state_at buffers k) ≡ false) → count_by (λ b. is_arrived b.state) buffers < length buffers
    → position_or_len (λ b. is_free b.state) buffers < length buffers
first_before [] none few = absurd (omega arith)
first_before (b ∷ buffers) none few = elim (is_free b.state) as (λ f. is_free b.state ≡ f → cond (not f) (1 + position_or_len (λ b. is_free b.state) buffers) 0 < suc (length buffers)) [
  | true ↦ λ e. omega arith
  | false ↦ λ e.
      let one : is_arrived b.state ≡ true = arrived_else b.state e (none 0) in
      let sum : count_by (λ b. is_arrived b.state) (b ∷ buffers) ≡ cond (is_arrived b.state) 1 0 + count_by (λ b. is_arrived b.state) buffers = sum_by-cons _ b buffers in
      let less : 1 + count_by (λ b. is_arrived b.state) buffers < suc (length buffers) = rw (sum, one) at few in
      let ih = first_before buffers (λ k. none (suc k)) (omega arith) in
      omega arith
] refl

-- where none is filling and not all have arrived, one is free
pub some_free : (buffers : List BufferView) → ((k : ℕ) → is_filling (state_at buffers k) ≡ false) → count_by (λ b. is_arrived b.state) buffers < length buffers
    → is_some (first_free buffers) ≡ true
some_free buffers none few = let less = first_before buffers none few in let t : nat_lt (position_or_len (λ b. is_free b.state) buffers) (length buffers) ≡ true = lt-ltb _ _ less in rw t refl
