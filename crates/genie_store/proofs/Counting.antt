-- A store that counts its faults, over one that has none.
use Rattle.std.proofs.Common.{◌≡◌, ℕ, ◌<◌, ◌^◌, Bool, true, List, refl, arith, subst}
use Rattle.std.specs.Prelude.{Result, Ok, Err, IsOk}
use Rattle.genie_base.specs.Causes.{HasCause}
use Rattle.genie_store.specs.StoreView.{StoreView, Puts, Gets}
use Rattle.genie_store.specs.MemoryView.{told, counted, one_more}

failed : {T E : Type 0} (n : ℕ) (e : E) (r : Result T E) → n < 2 ^ 64 → r ≡ Err e → HasCause n (one_more n) r
failed n e r fits is = rw is (record { later = omega arith; failed = omega arith; kept = tt })

pub put_refused : {T E : Type 0} (old new : StoreView) (b : Bool) (s : ℕ) (from : List ℕ) (e : E) (r : Result T E) → new ≡ counted b old → b ≡ true → old.faults < 2 ^ 64 → r ≡ Err e → Puts old new s from r
put_refused old new b s from e r same is fits err = rw (same, is) (record { count = refl; page = refl; stored = rw err tt; left = rw err refl; cause = failed old.faults e r fits err })

pub get_refused : {T E : Type 0} (old new : StoreView) (b : Bool) (s : ℕ) (into : List ℕ) (e : E) (r : Result T E) → new ≡ counted b old → b ≡ true → old.faults < 2 ^ 64 → r ≡ Err e → Gets old new s into into r
get_refused old new b s into e r same is fits err = rw (same, is) (record { count = refl; page = refl; slots = refl; got = rw err tt; left = rw err refl; cause = failed old.faults e r fits err })

-- what the store below does, the one above does, and counts nothing
pub get_passed : {T E : Type 0} (old : StoreView) (page size faults : ℕ) (slots new : List (List ℕ)) (s : ℕ) (before after : List ℕ) (r : Result T E) → told page slots faults ≡ old → IsOk r → Gets (told page slots 0) (told size new 0) s before after r → Gets old (told size new faults) s before after r
get_passed {T} {E} old page size faults slots new s before after (Ok x) same ok h = let r : Result T E = Ok x in subst (λ v. Gets v (told size new faults) s before after r) same (record { count = h.count; page = h.page; slots = h.slots; got = h.got; left = tt; cause = record { later = omega arith; failed = tt; kept = refl } })
get_passed old page size faults slots new s before after (Err e) same ok h = cc
