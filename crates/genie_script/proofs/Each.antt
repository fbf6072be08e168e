-- What holds of the value, if there is one.
use Rattle.std.proofs.Common.{◌≡◌, Bool, true, false, cond, Option, Some, None, refl, subst}
use Rattle.std.specs.Prelude.{option_map}
use Rattle.genie_script.specs.Words.{◌>>=◌}

-- P of the value, if there is one
abbrev pub Each : {A : Type 0} → (A → Type 0) → Option A → Type 0
Each {A} P o = (x : A) → o ≡ Some x → P x

pub each_none : {A : Type 0} (P : A → Type 0) → Each P None
each_none P = λ x e. absurd cc

pub each_some : {A : Type 0} (P : A → Type 0) (y : A) → P y → Each P (Some y)
each_some {A} P y p =
    λ x e.
    subst P (
    let s : Some y ≡ Some x = e in
    cc
    ) p

pub each_bind : {A B : Type 0} (P : B → Type 0) (o : Option A) (f : A → Option B) → ((x : A) → o ≡ Some x → Each P (f x)) → Each P (o >>= f)
each_bind P (Some x) f h = h x refl
each_bind P None f h = each_none P

pub each_map : {A B : Type 0} (P : B → Type 0) (o : Option A) (f : A → B) → ((x : A) → o ≡ Some x → P (f x)) → Each P (option_map f o)
each_map P (Some x) f h = each_some P (f x) (h x refl)
each_map P None f h = each_none P

pub each_if : {A : Type 0} (P : A → Type 0) (b : Bool) (o : Option A) → (b ≡ true → Each P o) → Each P (cond b o None)
each_if P true o h = h refl
each_if P false o h = each_none P

pub each_either : {A : Type 0} {P : A → Type 0} (b : Bool) (o p : Option A) → (b ≡ true → Each P o) → (b ≡ false → Each P p) → Each P (cond b o p)
each_either true o p h g = h refl
each_either false o p h g = g refl
