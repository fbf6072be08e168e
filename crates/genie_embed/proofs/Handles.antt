-- The handles of the quick start's device.
use Rattle.std.proofs.Common.{◌≡◌, ◌≢◌, ℕ, zero, suc, ◌<◌, ◌≤◌, Bool, true, false, ◌==◌, [], ◌∷◌, ⊎_elim, ap, ne_eqb, arith}
use Rattle.std.specs.Prelude.{IfSome}
use Rattle.std.proofs.lemmas.Bool.{cases_lt}
use Rattle.std.proofs.lemmas.List.Elements.{All-nil, All-cons}
use Rattle.genie_host.specs.Host.{HostView, Reading, Writing}
use Rattle.genie_orderly.specs.Lemmas.RegionNumbers.{one, times, differ_from_once}
use Rattle.genie_model.specs.Tables.{entry}
use Rattle.genie_kernel.specs.Handles.{HasHandles, IsOpen}
use Rattle.genie_embed.specs.Echo.{echo_config}

open_at : (host : HostView) → (host.handle 1).mode ≡ Reading → (host.handle 2).mode ≡ Writing → (d : ℕ) → IfSome (entry echo_config.devices d) (IsOpen host)
open_at host r w zero = record { input = r; output = w }
open_at host r w (suc zero) = tt
open_at host r w (suc (suc zero)) = tt
open_at host r w (suc (suc (suc zero))) = tt
open_at host r w (suc (suc (suc (suc zero)))) = tt
open_at host r w (suc (suc (suc (suc (suc zero))))) = tt
open_at host r w (suc (suc (suc (suc (suc (suc zero)))))) = tt
open_at host r w (suc (suc (suc (suc (suc (suc (suc zero))))))) = tt
open_at host r w (suc (suc (suc (suc (suc (suc (suc (suc d)))))))) = tt

one_most : (b : Bool) → one b ≤ 1
one_most true = omega arith
one_most false = omega arith

other_none : (x k : ℕ) → x ≢ k → one (x == k) ≡ 0
other_none x k ne = ap one (ne_eqb x k ne)

once : (h : ℕ) → times h (1 ∷ 2 ∷ []) ≤ 1
once h = ⊎_elim
    (λ (low : h < 2). omega (arith, one_most (1 == h), other_none 2 h (λ e. absurd (omega (arith, low, e)))))
    (λ (high : 2 ≤ h). omega (arith, one_most (2 == h), other_none 1 h (λ e. absurd (omega (arith, high, e)))))
    (cases_lt h 2)

pub has_handles : (host : HostView) → (host.handle 1).mode ≡ Reading → (host.handle 2).mode ≡ Writing → HasHandles echo_config host
has_handles host r w = record {
  open_each = open_at host r w;
  apart = differ_from_once (1 ∷ 2 ∷ []) once;
  own = All-cons (λ (h : ℕ). h ≢ 0) 1 (2 ∷ []) (λ e. absurd (omega (arith, e))) (All-cons (λ (h : ℕ). h ≢ 0) 2 [] (λ e. absurd (omega (arith, e))) (All-nil (λ (h : ℕ). h ≢ 0)));
}
