-- A loan of a pool that is exchanged, and back.
use Rattle.std.proofs.Common.{◌≡◌, ℕ, ◌+◌, ◌*◌, ap, ◌∙◌}
use Rattle.std.specs.Prelude.{slice_set}
use Rattle.std.proofs.lemmas.List.{set-set, set-get_or}
use Rattle.genie_frame.specs.declared.frame.InLoan.{InLoan}
use Rattle.genie_input.specs.Pools.{PoolState, set_loan, set_buffer, loan_at, no_loan}
use Rattle.genie_input.specs.declared.pool.BufferState.TheVariants.{Filling, Held}

pub exchanged_back : (p q r : PoolState) (b i : ℕ) (other was : InLoan) → was ≡ loan_at p b i → q ≡ set_loan p b i other → r ≡ set_loan q b i was → r ≡ p
exchanged_back p q r b i other was e f g = g ∙ ap (λ x. set_loan x b i was) f ∙ ap (λ l. record p { loans = l }) (set-set p.loans (17 * b + i) other was ∙ ap (slice_set p.loans (17 * b + i)) e ∙ set-get_or p.loans (17 * b + i) no_loan)

-- a buffer that was filling holds its datagram
pub begun_and_arrived : (p q r : PoolState) (b a : ℕ) → a ≡ b → q ≡ set_buffer p b Filling → r ≡ set_buffer q a Held → r.buffers ≡ slice_set p.buffers b Held
begun_and_arrived p q r b a e f g = ap (λ x. x.buffers) g ∙ ap (λ n. slice_set q.buffers n Held) e ∙ ap (λ x. slice_set x.buffers b Held) f ∙ set-set p.buffers b Filling Held
