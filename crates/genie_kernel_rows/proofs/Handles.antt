-- The handles of devices, as they are opened one after the other.
use Rattle.std.proofs.Common.{◌≡◌, ◌≢◌, ℕ, zero, suc, ◌+◌, ◌<◌, ◌≤◌, Bool, true, false, ◌==◌, List, [], ◌∷◌, length, flat_map, All, ⊎_elim, refl, sym, ap, subst, ◌∙◌, ne_eqb, eq-eqb, arith}
use Rattle.std.specs.Prelude.{Option, Some, None, IfSome, slice_set}
use Rattle.std.proofs.lemmas.Bool.{cases_lt}
use Rattle.std.proofs.lemmas.List.Elements.{All-nil, All-cons}
use Rattle.genie_base.specs.declared.config.Config.{Config}
use Rattle.genie_base.specs.declared.config.DeviceConfig.{DeviceConfig}
use Rattle.genie_host.specs.Host.{HostView, HandleState, Mode, Reading, Writing}
use Rattle.genie_orderly.specs.Lemmas.RegionNumbers.{one, times, times-append, differ_from_once}
use Rattle.genie_model.specs.Tables.{entry}
use Rattle.genie_model.specs.Lemmas.Lists.{entry_set}
use Rattle.genie_kernel.specs.Handles.{IsOpen, HasHandles, handles_of, listed}
use Rattle.genie_store.specs.StoreView.{StoreView}
use Rattle.genie_kernel.specs.declared.kernel.Kernel.{Kernel}
use Rattle.genie_kernel.specs.Good.{IsGood}
use Rattle.genie_kernel_rows.specs.Runs.{OpensNext, IsOpened, IsWired, AreWired, IsReady}

other_none : (x k : ℕ) → x ≢ k → one (x == k) ≡ 0
other_none x k ne = ap one (ne_eqb x k ne)

one_most : (b : Bool) → one b ≤ 1
one_most true = omega arith
one_most false = omega arith

opened_more : (mode : Mode) (old new : HostView) (o : Option ℕ) → OpensNext mode old new o → (old.opened ≤ new.opened) × (new.opened ≤ old.opened + 1)
opened_more mode old new None next = let same = ap (λ (h : HostView). h.opened) next in (omega (arith, same), omega (arith, same))
opened_more mode old new (Some x) next = let more = next.1 in (omega (arith, more), omega (arith, more))

mode_stays : (mode : Mode) (old new : HostView) (o : Option ℕ) → OpensNext mode old new o → (m : Mode) (h : ℕ) → IsOpened old m h → IsOpened new m h
mode_stays mode old new None next m h is = subst (λ v. IsOpened v m h) (sym next) is
mode_stays mode old new (Some x) next m h is =
    let number = next.0 in
    let more = next.1 in
    let within = is.1 in
    (ap (λ (s : HandleState). s.mode) (next.3 h (λ e. absurd (omega (arith, number, within, e)))) ∙ is.0, omega (arith, more, within))

modes_stay : (mode : Mode) (old new : HostView) (o : Option ℕ) → OpensNext mode old new o → (m : Mode) (p : Option ℕ) → IfSome p (IsOpened old m) → IfSome p (IsOpened new m)
modes_stay mode old new o next m None is = is
modes_stay mode old new o next m (Some h) is = mode_stays mode old new o next m h is

device_stays : (mode : Mode) (old new : HostView) (o : Option ℕ) → OpensNext mode old new o → (c : Option DeviceConfig) → IfSome c (IsWired old) → IfSome c (IsWired new)
device_stays mode old new o next None is = is
device_stays mode old new o next (Some c) is = record { input = modes_stay mode old new o next Reading c.input is.input; output = modes_stay mode old new o next Writing c.output is.output }

opened_now : (mode : Mode) (old new : HostView) (o : Option ℕ) → OpensNext mode old new o → IfSome o (IsOpened new mode)
opened_now mode old new None next = tt
opened_now mode old new (Some x) next = let number = next.0 in let more = next.1 in (next.2, omega (arith, number, more))

-- the handle that was opened, if there is one, is the next one
listed_next : (mode : Mode) (old new : HostView) (o : Option ℕ) → OpensNext mode old new o → (h : ℕ) → (times h (listed o) ≤ 1) × (h ≤ old.opened → times h (listed o) ≡ 0) × (new.opened < h → times h (listed o) ≡ 0)
listed_next mode old new None next h = (omega arith, λ low. refl, λ high. refl)
listed_next mode old new (Some x) next h =
    let number = next.0 in
    let more = next.1 in (
      omega (arith, one_most (x == h)),
      λ low. omega (arith, other_none x h (λ e. absurd (omega (arith, number, low, e)))),
      λ high. omega (arith, other_none x h (λ e. absurd (omega (arith, number, more, high, e)))),
    )

placed : (ds : List (Option DeviceConfig)) (p : ℕ) (c : DeviceConfig) → p < length ds → entry ds p ≡ None → (h : ℕ) → times h (flat_map handles_of (slice_set ds p (Some c))) ≡ times h (flat_map handles_of ds) + times h (handles_of (Some c))
placed [] p c lt free h = absurd (omega arith)
placed (x ∷ ds) zero c lt free h =
    let none = ap (λ o. times h (handles_of o)) free in
    omega (arith, none, times-append h (handles_of x) (flat_map handles_of ds), times-append h (handles_of (Some c)) (flat_map handles_of ds))
placed (x ∷ ds) (suc p) c lt free h =
    omega (arith, placed ds p c (omega arith) free h, times-append h (handles_of x) (flat_map handles_of ds), times-append h (handles_of x) (flat_map handles_of (slice_set ds p (Some c))))

-- one more device
pub wired_more : (ds : List (Option DeviceConfig)) (p : ℕ) (c : DeviceConfig) (before between after : HostView) → p < length ds → entry ds p ≡ None → AreWired ds before → OpensNext Reading before between c.input → OpensNext Writing between after c.output → AreWired (slice_set ds p (Some c)) after
wired_more ds p c before between after lt free wired first second =
    let grown = opened_more Reading before between c.input first in
    let more = opened_more Writing between after c.output second in
    let sum = λ (h : ℕ). placed ds p c lt free h in
    let own = λ (h : ℕ). times-append h (listed c.input) (listed c.output) in
    let ins = λ (h : ℕ). listed_next Reading before between c.input first h in
    let outs = λ (h : ℕ). listed_next Writing between after c.output second h in
    record {
      each = λ d. entry_set (λ o. IfSome o (IsWired after)) ds p d (Some c)
          (device_stays Writing between after c.output second (entry ds d) (device_stays Reading before between c.input first (entry ds d) (wired.each d)))
          (λ e. record { input = modes_stay Writing between after c.output second Reading c.input (opened_now Reading before between c.input first); output = opened_now Writing between after c.output second });
      once = λ h. ⊎_elim
          (λ (low : h < before.opened + 1).
          let i = (ins h).1 (omega (arith, low)) in
          let o = (outs h).1 (omega (arith, low, grown.0)) in
          omega (arith, sum h, own h, i, o, wired.once h))
          (λ (high : before.opened + 1 ≤ h).
          let old = wired.later h (omega (arith, high)) in
          ⊎_elim
          (λ (low : h < between.opened + 1).
          let o = (outs h).1 (omega (arith, low)) in
          omega (arith, sum h, own h, old, o, (ins h).0))
          (λ (past : between.opened + 1 ≤ h).
          let i = (ins h).2 (omega (arith, past)) in
          omega (arith, sum h, own h, old, i, (outs h).0))
          (cases_lt h (between.opened + 1)))
          (cases_lt h (before.opened + 1));
      none =
          let i = (ins 0).1 (omega arith) in
          let o = (outs 0).1 (omega arith) in
          omega (arith, sum 0, own 0, i, o, wired.none);
      later = λ h past.
          let old = wired.later h (omega (arith, past, grown, more)) in
          let i = (ins h).2 (omega (arith, past, more)) in
          let o = (outs h).2 past in
          omega (arith, sum h, own h, old, i, o);
    }

-- none yet
pub wired_none : (host : HostView) → AreWired (None ∷ None ∷ None ∷ None ∷ None ∷ None ∷ None ∷ None ∷ []) host
wired_none host = record { each = nothing; once = λ h. omega arith; none = refl; later = λ h past. refl } where
  nothing : (d : ℕ) → IfSome (entry (None ∷ None ∷ None ∷ None ∷ None ∷ None ∷ None ∷ None ∷ []) d) (IsWired host)
  nothing zero = tt
  nothing (suc zero) = tt
  nothing (suc (suc zero)) = tt
  nothing (suc (suc (suc zero))) = tt
  nothing (suc (suc (suc (suc zero)))) = tt
  nothing (suc (suc (suc (suc (suc zero))))) = tt
  nothing (suc (suc (suc (suc (suc (suc zero)))))) = tt
  nothing (suc (suc (suc (suc (suc (suc (suc zero))))))) = tt
  nothing (suc (suc (suc (suc (suc (suc (suc (suc d)))))))) = tt

all_own : (xs : List ℕ) → times 0 xs ≡ 0 → All (λ (h : ℕ). h ≢ 0) xs
all_own [] none = All-nil (λ (h : ℕ). h ≢ 0)
all_own (x ∷ xs) none = All-cons (λ (h : ℕ). h ≢ 0) x xs (λ e. absurd (omega (arith, none, ap one (eq-eqb x 0 e)))) (all_own xs (omega (arith, none)))

is_open : (host : HostView) (c : Option DeviceConfig) → IfSome c (IsWired host) → IfSome c (IsOpen host)
is_open host None is = is
is_open host (Some c) is = record { input = opened Reading c.input is.input; output = opened Writing c.output is.output } where
  opened : (m : Mode) (o : Option ℕ) → IfSome o (IsOpened host m) → IfSome o (λ h. (host.handle h).mode ≡ m)
  opened m None is = is
  opened m (Some h) is = is.0

-- a kernel with these devices has its handles
pub has_handles : (c : Config) (host : HostView) → AreWired c.devices host → HasHandles c host
has_handles c host wired = record { open_each = λ d. is_open host (entry c.devices d) (wired.each d); apart = differ_from_once (flat_map handles_of c.devices) wired.once; own = all_own (flat_map handles_of c.devices) wired.none }

-- and a store of its size
pub ready : (k : Kernel) (c : Config) (host : HostView) (v : StoreView) → IsGood k → k.config ≡ c → AreWired c.devices host → v.count ≡ c.slots → v.page ≡ c.page → IsReady k host v
ready k c host v good same wired count page = record {
  good = good;
  sized = record { count = count ∙ sym (ap (λ (q : Config). q.slots) same) ∙ sym good.sized.slots; page = page ∙ sym (ap (λ (q : Config). q.page) same) ∙ sym good.sized.page };
  handles = subst (λ q. HasHandles q host) (sym same) (has_handles c host wired);
}
